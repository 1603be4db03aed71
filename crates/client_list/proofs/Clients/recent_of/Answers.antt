use Rattle.std.proofs.Common.{ℕ, Option, ap, subst, Some, ◌∙◌}
use Rattle.std.specs.Prelude.{IfSome}
use Rattle.client_list.specs.Connected.{IsPosition}
use Rattle.client_list.specs.Links.{IsRecent}
use Rattle.client_list.proofs.CallLemmas.{shows, is_listed}
use Rattle.client_list.proofs.NumberLemmas.{position_numbered}
use Rattle.client_list.proofs.Clients.recent_of.Goals as goal

pub returns-then-number_at-number-clause-found : goal.returns-then-number_at-number-clause-found
returns-then-number_at-number-clause-found g c =
    let there = subst (IsRecent c.self.inside.recent) c.self.view_is c.self.invariant.2 in
    position_numbered c.args.self.now c.in-Some.position c.args.number
    (is_listed c.self.inside.nodes c.self.inside.first c.self.inside.last c.args.self.now (shows c.self.inside.nodes c.self.inside.first c.self.inside.last c.args.self.now c.self.invariant.0 c.self.view_is))
    (subst (λ (o : Option ℕ). IfSome o (IsPosition c.args.self.now)) c.in-Some.is there)
    (c.number_at.ensures ∙ ap Some c.if-number_at-number.true)

pub number_at-requires : goal.number_at-requires
number_at-requires g c =
    let there = subst (IsRecent c.self.inside.recent) c.self.view_is c.self.invariant.2 in
    subst (λ (o : Option ℕ). IfSome o (IsPosition c.args.self.now)) c.in-Some.is there

pub returns-then-number_at-number-clause-listed : goal.returns-then-number_at-number-clause-listed
returns-then-number_at-number-clause-listed g c = is_listed c.self.inside.nodes c.self.inside.first c.self.inside.last c.args.self.now (shows c.self.inside.nodes c.self.inside.first c.self.inside.last c.args.self.now c.self.invariant.0 c.self.view_is)

pub returns-else-number_at-number-clause-listed : goal.returns-else-number_at-number-clause-listed
returns-else-number_at-number-clause-listed g c = is_listed c.self.inside.nodes c.self.inside.first c.self.inside.last c.args.self.now (shows c.self.inside.nodes c.self.inside.first c.self.inside.last c.args.self.now c.self.invariant.0 c.self.view_is)

pub returns-in_default-clause-listed : goal.returns-in_default-clause-listed
returns-in_default-clause-listed g c = is_listed c.self.inside.nodes c.self.inside.first c.self.inside.last c.args.self.now (shows c.self.inside.nodes c.self.inside.first c.self.inside.last c.args.self.now c.self.invariant.0 c.self.view_is)
