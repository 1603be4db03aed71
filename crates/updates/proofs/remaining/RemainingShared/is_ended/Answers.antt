use Rattle.std.proofs.Common.{◌≡◌, ◌++◌, List, ℕ, [], length, drop, ap, sym, ◌∙◌, arith}
use Rattle.std.specs.Arc.{arc_value}
use Rattle.std.specs.Vec.{vec_len}
use Rattle.std.proofs.lemmas.Bool.{leb-true, le-leb}
use Rattle.std.proofs.lemmas.List.{length-append, length-drop}
use Rattle.updates.specs.Shared.{left_of_shared}
use Rattle.updates.proofs.SharedLemmas.{none_behind}
use Rattle.updates.proofs.remaining.RemainingShared.is_ended.Goals as goal

pub returns-then-self : goal.returns-then-self
returns-then-self c =
    let here = c.self.inside in
    let bytes = (arc_value here.shared.pixels).items in
    let left = ap (λ b. left_of_shared here.shared b here.given) c.if-self.true in
    let long = ap vec_len c.deref.ensures in (
      λ e. sym c.self.view_is ∙ left ∙ none_behind bytes here.given (omega (arith, leb-true c.len.result here.given e, c.len.ensures, long, (arc_value here.shared.pixels).ok.0)),
      λ none. le-leb c.len.result here.given (omega (arith, length-drop here.given bytes, ap (λ (l : List ℕ). length l) (sym left ∙ c.self.view_is ∙ none), c.len.ensures, long, (arc_value here.shared.pixels).ok.0)),
    )

pub returns-else-self : goal.returns-else-self
returns-else-self c =
    let here = c.self.inside in
    let bytes = (arc_value here.shared.pixels).items in
    let left = ap (λ b. left_of_shared here.shared b here.given) c.if-self.false in (
      λ e. absurd (let no = sym c.if-self.false ∙ e in cc),
      λ none. absurd (omega (arith, here.shared.some, length-append here.shared.front.items bytes, ap (λ (l : List ℕ). length l) (sym left ∙ c.self.view_is ∙ none))),
    )
