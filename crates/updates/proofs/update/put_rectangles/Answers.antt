use Rattle.std.proofs.Common.{◌≡◌, [], ℕ, List, length, ap, arith}
use Rattle.std.proofs.lemmas.List.{length-append}
use Rattle.updates.specs.Remaining.{left_of}
use Rattle.updates.proofs.update.put_rectangles.Goals as goal

pub parts-smaller : goal.parts-smaller
parts-smaller c =
    let now = left_of c.args.rectangles.now c.parts.reached in
    let soon = left_of c.args.rectangles.now c.in_ok-reached.reached in
    let some : now ≡ [] → ⊥ = λ none. cc (c.is_nothing_left.ensures.1 none) in
    omega (arith, c.in_ok-reached.ensures.more some, ap (λ (l : List ℕ). length l) c.in_ok-reached.ensures.bytes, length-append c.put_next.new.out.items soon, length-append c.parts.out.items now)
