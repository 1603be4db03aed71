use Rattle.std.proofs.Common.{◌≡◌, List, [], ◌∷◌, ◌++◌, false, refl, sym, ◌∙◌}
use Rattle.std.specs.Prelude.{flat_map}
use Rattle.updates.specs.declared.parts.Part.{Part}
use Rattle.updates.specs.declared.parts.Part.TheVariants.{Nothing, NewSize, Places}
use Rattle.updates.specs.declared.parts.Part.TheVariants as part
use Rattle.updates.specs.declared.notices.Notice.{Notice}
use Rattle.updates.specs.Waiting.{none_wait}
use Rattle.updates.specs.Bytes.{map_bytes, notice_bytes}
use Rattle.updates.specs.Updates.{part_bytes, IsSomething}
use Rattle.updates.proofs.SentLemmas.{some_map, some_behind, some_rest}
use Rattle.viewer.proofs.viewer.Viewer.prepare_cut.Goals as goal
use Rattle.viewer.proofs.viewer.Viewer.prepare_cut.Goals.{else-is_nothing-via-then-is_nothing+then-is_empty+else-not-self, else-is_nothing-via-then-is_nothing+else-is_empty, else-is_nothing-via-else-is_nothing}

pub returns-clause-some : goal.returns-clause-some
returns-clause-some c = λ e.
    let notices = c.in_ok-notices.notices.items in
    let rest = part_bytes c.in_ok-part.field-0.part in
    let owed = c.self.inside.map_owed in
    elim c.else-is_nothing.branch [
      | else-is_nothing-via-then-is_nothing+then-is_empty+else-not-self w ↦ some_map owed notices rest w.if-not-self.false (sym c.new-update.ensures ∙ e)
      | else-is_nothing-via-then-is_nothing+else-is_empty w ↦ some_behind owed notices rest (λ none. never (sym w.if-is_empty.ensures) (sym c.in_ok-notices.ensures.items ∙ none)) (sym c.new-update.ensures ∙ e)
      | else-is_nothing-via-else-is_nothing w ↦ some_rest (map_bytes owed ++ flat_map notice_bytes notices) rest (some_of c.in_ok-part.field-0.part c.in_ok-part.ensures.some (λ none. let is = w.if-is_nothing.ensures.1 none in cc)) (sym c.new-update.ensures ∙ e)
    ]
  where
    never : {ns : List Notice} → none_wait ns ≡ false → ns ≡ [] → ⊥
    never {ns = []} e none = cc
    never {ns = n ∷ ns} e none = cc

    some_of : (p : Part) → IsSomething p → (p ≡ Nothing → ⊥) → part_bytes p ≡ [] → ⊥
    some_of Nothing all some e = some refl
    some_of (NewSize size) all some e = all e
    some_of (Places r) all some e = all e
    some_of (part.Shared s) all some e = all e
