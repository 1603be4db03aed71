use Rattle.std.proofs.Common.{◌≡◌, ◌+◌, ◌-◌, inl, inr, ℕ, List, length, get_or, arith, sym, ap, ◌∙◌}
use Rattle.std.proofs.lemmas.Bool.{cases_eq}
use Rattle.std.proofs.lemmas.List.{length-set, get_or-set_other}
use Rattle.std.proofs.lemmas.Grind.{get_or-set_at}
use Rattle.subrectangles.specs.Subrectangles.{stretch}
use Rattle.encode_hextile.proofs.Lists.{one_stretch}
use Rattle.encode_hextile.proofs.scan.widths_of.Goals as goal
use Rattle.encode_hextile.proofs.scan.widths_of.Goals.{then-row-x, else-row-x}

pub loop-k-preserved : goal.loop-k-preserved
loop-k-preserved c =
    let row : List ℕ = c.args.row.now in
    let k : ℕ = c.loop-k.k in
    let x : ℕ = length row - 1 - k in
    let now : ℕ = c.if-row-x.width in
    let i = c.loop-k.invariant in
    let same : now ≡ stretch row x =
    one_stretch row k c.loop-k.after c.loop-k.width now c.loop-k-test.true i.first i.few
    (elim c.if-row-x.branch [
      | then-row-x w ↦ inl (w.if-row-x.true, w.width-is)
      | else-row-x w ↦ inr (w.if-row-x.false, w.width-is)
    ]) in
    let at : x ≡ length row - (k + 1) = omega arith in
    record {
      len = length-set c.loop-k.widths x now ∙ i.len;
      few = elim c.if-row-x.branch [
        | then-row-x w ↦ omega (arith, w.width-is, i.few)
        | else-row-x w ↦ omega (arith, w.width-is)
      ];
      first = λ lt. (ap (λ (n : ℕ). get_or row n 0) at, same ∙ ap (stretch row) at);
      known = λ y le lt. elim (cases_eq y x) [
        | inl e ↦ get_or-set_at c.loop-k.widths x y now 0 e (omega (arith, i.len, c.requires, c.loop-k-test.true)) ∙ same ∙ ap (stretch row) (sym e)
        | inr ne ↦ get_or-set_other c.loop-k.widths x y now 0 ne ∙ i.known y (omega (arith, le, ne, at)) lt
      ];
    }
