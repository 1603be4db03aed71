use Rattle.std.proofs.Common.{◌≡◌, ℕ, true, List, [], refl, ap, subst, ◌∙◌}
use Rattle.server_reader.specs.declared.stage.Stage.TheVariants as stage
use Rattle.server_reader.specs.declared.step.Next.{Next}
use Rattle.server_reader.specs.declared.step.Step.TheVariants as step
use Rattle.server_reader.specs.Steps.{View, IsStep, is_update_end}
use Rattle.server_reader.proofs.StepLemmas.{ended, none_held}
use Rattle.server_reader.proofs.reader.Reader.end_update.Goals as goal

pub returns-clause-step : goal.returns-clause-step
returns-clause-step c =
    let piece = c.args.piece.now in
    let state = c.self.inside.state in
    let items = c.self.inside.held.items in
    let before : View = record { state = state; held = items } in
    let after : View = record { state = record state { stage = stage.Message }; held = items } in
    let next : Next = record { step = step.UpdateEnd; rest = c.args.piece } in
    let no_text : state.text ≡ 0 = ap (λ (v : View). v.state.text) c.self.view_is ∙ c.requires.text in
    let end : is_update_end state.stage ≡ true = ap (λ (v : View). is_update_end v.state.stage) c.self.view_is ∙ c.requires.stage in
    let none : items ≡ [] = none_held before c.self.invariant end in
    let with_text : ℕ → View = λ n. record { state = record state { stage = stage.Message; text = n }; held = items } in
    let with_held : List ℕ → View = λ h. record { state = record state { stage = stage.Message; text = 0 }; held = h } in
    let P : View → Type 0 = λ v. IsStep v piece next after in
    subst P c.self.view_is (ended before after piece next c.self.invariant no_text end refl refl (ap with_text no_text ∙ ap with_held none))
