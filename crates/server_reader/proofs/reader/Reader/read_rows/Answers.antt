use Rattle.std.proofs.Common.{◌≡◌, ℕ, List, [], ap, subst, ◌∙◌, refl}
use Rattle.server_reader.specs.declared.stage.Stage.TheVariants as stage
use Rattle.server_reader.specs.declared.step.Next.{Next}
use Rattle.server_reader.specs.declared.step.Step.TheVariants as step
use Rattle.server_reader.specs.Stages.{display}
use Rattle.server_reader.specs.Steps.{View, IsStep}
use Rattle.server_reader.proofs.StepLemmas.{rows_taken, in_parts}
use Rattle.server_reader.proofs.reader.Reader.read_rows.Goals as goal

pub returns-clause-step : goal.returns-clause-step
returns-clause-step c =
    let piece = c.args.piece.now in
    let front = c.split_at.result.0 in
    let rest = c.split_at.result.1 in
    let state = c.self.inside.state in
    let items = c.self.inside.held.items in
    let at = c.behind_run-self-inside.result in
    let before : View = record { state = state; held = items } in
    let after : View = record { state = record state { stage = at }; held = items } in
    let next : Next = record { step = step.Pixels c.run-area.result front; rest = rest } in
    let no_text : state.text ≡ 0 = ap (λ (v : View). v.state.text) c.self.view_is ∙ c.requires.text in
    let is_stage : state.stage ≡ stage.Pixels c.args.rows = ap (λ (v : View). v.state.stage) c.self.view_is ∙ c.requires.stage in
    let none : items ≡ [] = ap (λ (v : View). v.held) c.self.view_is ∙ c.requires.held in
    let with_text : ℕ → View = λ n. record { state = record state { stage = at; text = n }; held = items } in
    let with_held : List ℕ → View = λ h. record { state = record state { stage = at; text = 0 }; held = h } in
    let P : View → Type 0 = λ v. IsStep v piece next after in
    subst P c.self.view_is
    (rows_taken before after piece front.now c.args.rows at next no_text is_stage none refl
    (in_parts c.byte_count.result piece front.now rest.now c.split_at.ensures.front c.split_at.ensures.back)
    (ap with_text no_text ∙ ap with_held none)
    (λ shown colours later. c.behind_run-self-inside.ensures.rest front.now (c.split_at.ensures.front_len ∙ c.byte_count.ensures) (display state.size shown colours) later))
