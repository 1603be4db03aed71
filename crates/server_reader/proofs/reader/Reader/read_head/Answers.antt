use Rattle.std.proofs.Common.{◌≡◌, ℕ, true, false, List, [], length, refl, sym, ap, subst, ◌∙◌, arith, ◌++◌}
use Rattle.server_reader.specs.declared.step.Next.{Next}
use Rattle.server_reader.specs.Steps.{View, IsKept, is_update_end, awaits_bytes}
use Rattle.server_reader.proofs.StepLemmas.{awaits_group, hears_group, kept, some_missing, less_left, turned, refused, in_parts}
use Rattle.server_reader.proofs.reader.Reader.read_head.Goals as goal

pub returns-then-piece-missing-clause-kept : goal.returns-then-piece-missing-clause-kept
returns-then-piece-missing-clause-kept c =
    let piece = c.args.piece.now in
    let state = c.self.inside.state in
    let before : View = record { state = state; held = c.self.inside.held.items } in
    let after : View = record { state = state; held = c.try_extend_from_slice.new.self.items } in
    let all = rw c.unwrap.ensures at c.try_extend_from_slice.ensures.ok in
    let with_held : List ℕ → View = λ h. record { state = state; held = h } in
    let P : View → Type 0 = λ v. IsKept v piece after in
    subst P c.self.view_is (kept before after piece (ap with_held all))

pub returns-then-piece-missing-clause-held : goal.returns-then-piece-missing-clause-held
returns-then-piece-missing-clause-held c =
    let piece = c.args.piece.now in
    let state = c.self.inside.state in
    let after : View = record { state = state; held = c.try_extend_from_slice.new.self.items } in
    let all = rw c.unwrap.ensures at c.try_extend_from_slice.ensures.ok in
    let with_held : List ℕ → View = λ h. record { state = state; held = h } in
    let P : View → Type 0 = λ v. after ≡ record v { held = v.held ++ piece } in
    subst P c.self.view_is (ap with_held all)

pub returns-then-piece-missing-clause-inside : goal.returns-then-piece-missing-clause-inside
returns-then-piece-missing-clause-inside c =
    let state = c.self.inside.state in
    let after : View = record { state = state; held = c.try_extend_from_slice.new.self.items } in
    let P : View → Type 0 = λ v. awaits_bytes (record { state = v.state; held = after.held }) ≡ true in
    subst P (sym c.self.view_is) (awaits_group c.args.self.now.state.text (is_update_end c.args.self.now.state.stage) c.requires.text c.requires.inner)

pub returns-in-Err-clause-fault : goal.returns-in-Err-clause-fault
returns-in-Err-clause-fault c =
    let piece = c.args.piece.now in
    let front = c.split_at.result.0.now in
    let rest = c.split_at.result.1.now in
    refused c.args.self.now piece front rest (in_parts c.missing-missing.result piece front rest c.split_at.ensures.front c.split_at.ensures.back) c.in-Err.ensures.read

pub returns-in-Err-clause-why : goal.returns-in-Err-clause-why
returns-in-Err-clause-why c =
    let piece = c.args.piece.now in
    let front = c.split_at.result.0.now in
    let rest = c.split_at.result.1.now in
    record { front = front; rest = rest; is = in_parts c.missing-missing.result piece front rest c.split_at.ensures.front c.split_at.ensures.back; why = c.in-Err.ensures.why }

pub returns-in-Ok-clause-step : goal.returns-in-Ok-clause-step
returns-in-Ok-clause-step c =
    let piece = c.args.piece.now in
    let front = c.split_at.result.0.now in
    let rest = c.split_at.result.1 in
    let turn = c.in-Ok.turn in
    let next : Next = record { step = turn.step; rest = rest } in
    let after : View = record { state = turn.state; held = c.self-2.inside.held.items } in
    let none : c.self-2.inside.held.items ≡ [] = ap (λ (v : View). v.held) (c.self-2.view_is ∙ c.end_group.ensures.held) in
    let with_held : List ℕ → View = λ h. record { state = turn.state; held = h } in
    turned c.args.self.now after piece front turn next (in_parts c.missing-missing.result piece front rest.now c.split_at.ensures.front c.split_at.ensures.back)
    (ap with_held none) refl
    (hears_group c.args.self.now.state.text c.args.self.now.state.stage c.args.self.now.state.stage (c.args.self.now.held ++ front) front turn.step c.requires.text refl c.in-Ok.ensures.heard)
    c.in-Ok.ensures.read

pub returns-in-Ok-clause-less : goal.returns-in-Ok-clause-less
returns-in-Ok-clause-less c =
    let after : View = record { state = c.in-Ok.turn.state; held = c.self-2.inside.held.items } in
    let open_stage : is_update_end c.self.inside.state.stage ≡ false = ap (λ (v : View). is_update_end v.state.stage) c.self.view_is ∙ c.requires.inner in
    let some = some_missing c.self.inside.state.stage _ (length c.deref.result.now) c.missing-missing.result open_stage c.missing-missing.ensures.all c.missing-missing.ensures.some in
    less_left c.args.self.now after c.args.piece.now c.split_at.result.1.now c.missing-missing.result some (omega (arith, c.split_at.ensures.back_len, c.if-piece-missing.false))
