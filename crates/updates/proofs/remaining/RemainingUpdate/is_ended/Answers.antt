use Rattle.std.proofs.Common.{◌≡◌, [], List, length, drop, ◌∙◌, ap, arith}
use Rattle.std.proofs.lemmas.List.{length-drop}
use Rattle.updates.specs.declared.notices.Notice.{Notice}
use Rattle.updates.specs.RemainingUpdates.{remaining_part}
use Rattle.updates.proofs.SentLemmas.{some_map, some_behind}
use Rattle.updates.proofs.remaining.RemainingUpdate.is_ended.Goals as goal
use Rattle.updates.proofs.remaining.RemainingUpdate.is_ended.Goals.{then-self-via-then-self, then-self-via-else-self+then-self-len}

pub returns-then-self : goal.returns-then-self
returns-then-self c =
    let here = c.self.inside in
    elim c.then-self.branch [
      | then-self-via-then-self w ↦ (λ e. cc, λ none. absurd (some_map here.map_owed (drop here.notices_sent here.notices.items) (remaining_part here.part) w.if-self.true (c.self.view_is ∙ none)))
      | then-self-via-else-self+then-self-len w ↦
          let some : drop here.notices_sent here.notices.items ≡ [] → ⊥ = λ none. omega (arith, w.if-self-len.true, w.len.ensures, here.notices.ok.0, ap (λ (l : List Notice). length l) none, length-drop here.notices_sent here.notices.items) in
          (λ e. cc, λ none. absurd (some_behind here.map_owed (drop here.notices_sent here.notices.items) (remaining_part here.part) some (c.self.view_is ∙ none)))
    ]
