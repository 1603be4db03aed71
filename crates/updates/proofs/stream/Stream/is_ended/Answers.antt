use Rattle.std.proofs.Common.{ℕ, List, length, drop, ◌∙◌, ap, arith}
use Rattle.std.proofs.lemmas.List.{length-append, length-drop}
use Rattle.std.proofs.lemmas.Bool.Decides.{Decides-eqb}
use Rattle.updates.proofs.stream.Stream.is_ended.Goals as goal

pub returns-else-self-len : goal.returns-else-self-len
returns-else-self-len c =
    let here = c.self.inside in
    let test = Decides-eqb here.given c.len.result in (
      λ e. absurd (c.if-self-len.false (test.0 e)),
      λ none. absurd (c.if-self-len.false (omega (arith, c.self.invariant, here.made.ok.0, c.len.ensures, length-drop here.given here.made.items, length-append (drop here.given here.made.items) here.remaining, ap (λ (l : List ℕ). length l) (c.self.view_is ∙ none)))),
    )
