use Rattle.std.proofs.Common.{rules, arith, ◌≡◌, ◌<◌, ◌+◌, ◌++◌, ℕ, take, true, List, subst}
use Rattle.std.proofs.lemmas.Grind.{common_steps}
use borrow.Author.Count.{below_more}
use Rattle.source_talk.specs.Opening.{heard_by, is_awaited}
use Rattle.source_talk.proofs.opening.Opening.hear.Goals as goal

pub bytes-preserved : goal.bytes-preserved
bytes-preserved c =
    let i : ℕ = c.bytes.byte-index in
    let said : c.push.new.self.items ≡ c.args.self.now.said ++ take (i + 1) c.args.piece.now = grind (arith, common_steps) in
    let P : ℕ → Type 0 = λ n. 0 < n → is_awaited (heard_by (c.args.self.now.said ++ take n c.args.piece.now)) ≡ true in
    let heard : is_awaited (heard_by c.push.new.self.items) ≡ true = search rules in
    let here : P (i + 1) = λ some. subst (λ (bytes : List ℕ). is_awaited (heard_by bytes) ≡ true) said heard in
    record {
      counted = omega arith;
      said = said;
      told = cc;
      awaited = below_more P (i + 1) c.bytes.invariant.awaited here;
    }
