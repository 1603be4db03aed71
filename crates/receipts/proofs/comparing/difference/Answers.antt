use Rattle.std.proofs.Common.{◌≡◌, nat_eq, length, drop, [], Some, sym, ap, ◌∙◌, arith}
use Rattle.std.proofs.lemmas.Bool.{ne_eqb}
use Rattle.std.proofs.lemmas.List.{drop_all}
use Rattle.receipts.specs.Differences.{difference}
use Rattle.receipts.proofs.Differing.{later, differs_at, ends_at, ended}
use Rattle.receipts.proofs.comparing.difference.Goals as goal
use Rattle.receipts.proofs.comparing.difference.Goals.{then-i-b-via-then-i-b, then-i-b-via-else-i-b+then-byte-b}

pub returns-then-i-b : goal.returns-then-i-b
returns-then-i-b c =
    let i = c.loop-i.i in let a = c.args.a.now in let b = c.args.b.now in
    elim c.then-i-b.branch [
      | then-i-b-via-then-i-b w ↦ sym (ends_at nat_eq i i i a b 0 c.loop-i-test.true w.if-i-b.true) ∙ c.loop-i.invariant.rest
      | then-i-b-via-else-i-b+then-byte-b w ↦ sym (differs_at nat_eq i i i a b 0 0 c.loop-i-test.true w.if-i-b.false (ne_eqb _ _ w.if-byte-b.true)) ∙ c.loop-i.invariant.rest
    ]

pub returns-then-a-b : goal.returns-then-a-b
returns-then-a-b c =
    let i = c.loop-i.i in let a = c.args.a.now in let b = c.args.b.now in
    let same : length a ≡ i = omega (arith, c.loop-i-test.false, c.loop-i.auto.i-end) in
    let rest : later i (difference nat_eq [] (drop i b)) ≡ difference nat_eq a b = rw (sym (drop_all i a c.loop-i-test.false)) c.loop-i.invariant.rest in
    ap Some same ∙ sym (ended nat_eq i i b 0 (omega (arith, same, c.if-a-b.true))) ∙ rest
