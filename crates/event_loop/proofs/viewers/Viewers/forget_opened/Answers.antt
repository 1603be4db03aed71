use Rattle.std.proofs.Common.{◌≡◌, ℕ, Option, true, subst, sym, ap, ◌∙◌}
use Rattle.connections.specs.Serving.{Serving}
use Rattle.event_loop.specs.Patience.{is_opening}
use Rattle.event_loop.proofs.Openings.{FirstIs, first-opens, none-waits}
use Rattle.event_loop.proofs.viewers.Viewers.forget_opened.Goals as goal

pub returns-then-is_opening-clause-waiting : goal.returns-then-is_opening-clause-waiting
returns-then-is_opening-clause-waiting g c =
    let s = c.args.self.now.connections in
    let items = c.waiting.self.newcomers.waiting.items in
    let first = subst (λ (found : Option (ℕ × ℕ)). FirstIs items found) c.in-Some.is c.first.ensures in
    let here : is_opening c.waiting.self.connections c.in-Some.key c.in-Some.viewer ≡ true = sym c.is_opening.ensures ∙ c.if-is_opening.true in
    let opening : is_opening s c.in-Some.key c.in-Some.viewer ≡ true = subst (λ (v : Serving). is_opening v c.in-Some.key c.in-Some.viewer ≡ true) (ap (λ v. v.connections) c.waiting.invariant.same) here in
    sym (first-opens s items c.in-Some.key c.in-Some.viewer first opening) ∙ c.waiting.invariant.waiting

pub returns-clause-waiting : goal.returns-clause-waiting
returns-clause-waiting g c =
    let items = c.waiting.self.newcomers.waiting.items in
    sym (none-waits c.args.self.now.connections items (subst (λ (found : Option (ℕ × ℕ)). FirstIs items found) c.in_default.is c.first.ensures)) ∙ c.waiting.invariant.waiting
