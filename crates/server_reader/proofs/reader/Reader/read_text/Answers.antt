use Rattle.std.proofs.Common.{◌≡◌, ℕ, ◌-◌, ◌<◌, List, [], length, refl, sym, ap, subst, ◌∙◌, arith, ◌++◌, append-nil}
use Rattle.std.proofs.lemmas.Bool.{eqb-true}
use Rattle.std.proofs.lemmas.List.{nil_from_length}
use Rattle.server_reader.specs.declared.step.Next.{Next}
use Rattle.server_reader.specs.declared.step.Step.TheVariants as step
use Rattle.server_reader.specs.Steps.{View, IsStep, is_update_end}
use Rattle.server_reader.proofs.StepLemmas.{awaits_text, hears_text, kept_none, text_taken, in_parts}
use Rattle.server_reader.proofs.reader.Reader.read_text.Goals as goal

pub returns-then-is_empty-clause-kept : goal.returns-then-is_empty-clause-kept
returns-then-is_empty-clause-kept c =
    kept_none c.args.self.now c.args.piece.now (nil_from_length c.args.piece.now (eqb-true (length c.args.piece.now) 0 (sym c.is_empty.ensures ∙ c.if-is_empty.true)))

pub returns-then-is_empty-clause-held : goal.returns-then-is_empty-clause-held
returns-then-is_empty-clause-held c =
    let piece = c.args.piece.now in
    let v : View = c.args.self.now in
    let none : piece ≡ [] = nil_from_length piece (eqb-true (length piece) 0 (sym c.is_empty.ensures ∙ c.if-is_empty.true)) in
    let with_held : List ℕ → View = λ h. record v { held = h } in
    ap with_held (sym (append-nil v.held)) ∙ ap (λ (l : List ℕ). with_held (v.held ++ l)) (sym none)

pub returns-then-is_empty-clause-inside : goal.returns-then-is_empty-clause-inside
returns-then-is_empty-clause-inside c = awaits_text c.args.self.now.state.text (is_update_end c.args.self.now.state.stage) c.requires

pub returns-clause-step : goal.returns-clause-step
returns-clause-step c =
    let piece = c.args.piece.now in
    let front = c.split_at.result.0 in
    let rest = c.split_at.result.1 in
    let state = c.self.inside.state in
    let items = c.self.inside.held.items in
    let text : ℕ = state.text - c.min-used.result in
    let before : View = record { state = state; held = items } in
    let after : View = record { state = record state { text = text }; held = items } in
    let next : Next = record { step = step.Text front; rest = rest } in
    let long : View → Type 0 = λ v. 0 < v.state.text in
    let some : 0 < state.text = subst long (sym c.self.view_is) c.requires in
    let none : items ≡ [] = c.self.invariant.text some in
    let ended : List ℕ → View = λ h. record { state = record state { text = text }; held = h } in
    let P : View → Type 0 = λ v. IsStep v piece next after in
    subst P c.self.view_is
    (text_taken before after piece front.now text next none (in_parts c.min-used.result piece front.now rest.now c.split_at.ensures.front c.split_at.ensures.back)
    (omega (arith, c.split_at.ensures.front_len, c.min-used.ensures)) (hears_text state.text state.stage (items ++ front.now) front.now next.step some (λ n. refl)) (ap ended none) (λ shown. refl) (λ colours. refl))
