use Rattle.std.proofs.Common.{◌≤◌, ◌-◌, ℕ, List, subst, sym, ap, ◌∙◌}
use Rattle.std.specs.Duration.{as_nanos}
use Rattle.std.specs.Time.{instant_nanos}
use Rattle.std.specs.declared.time.Duration.{Duration}
use Rattle.connections.specs.Serving.{Serving}
use Rattle.event_loop.specs.declared.opening.Newcomer.{Newcomer}
use Rattle.event_loop.specs.Patience.{LetsGo, from_opening}
use Rattle.event_loop.proofs.Steps.{goes-same, goes-then}
use Rattle.event_loop.proofs.Openings.{Going, LetsOneGo, forgets, goes-first, goes-next}
use Rattle.event_loop.proofs.viewers.Viewers.let_go.Goals as goal

pub late-init : goal.late-init
late-init g c =
    let patience = as_nanos c.args.self.now.newcomers.patience in
    let now = instant_nanos c.args.now in
    let s = c.args.self.now.connections in
    let before = c.args.self.now.newcomers.waiting.items in
    let same = ap (λ v. v.connections) c.forget_opened.ensures.same in
    let start = goes-first patience now s before (from_opening s before) (forgets s before) in
    record {
      served = goes-same _ _ (sym same);
      limits = ap (λ v. v.limits) c.forget_opened.ensures.same;
      came = ap (λ v. v.came) c.forget_opened.ensures.same;
      patience = c.forget_opened.ensures.patience;
      going = subst (λ (cur : Serving). Going patience now s cur before c.forget_opened.new.self.newcomers.waiting.items) (sym same)
          (subst (λ (after : List Newcomer). Going patience now s s before after) (sym c.forget_opened.ensures.waiting) start);
    }

pub late-preserved : goal.late-preserved
late-preserved g c =
    let inv = c.late.invariant in
    let patience = as_nanos c.args.self.now.newcomers.patience in
    let now = instant_nanos c.args.now in
    let old = c.args.self.now.connections in
    let cur = c.late.self.connections in
    let new = c.let_go_unopened.new.self.connections in
    let late = c.in-Some.ensures.late in
    let ended = c.in_ok-let_go_unopened.ensures in
    let here : LetsOneGo c.in-Some.key c.in-Some.viewer cur new = record { surface = ended.surface; opened = ended.opened; unopened = ended.unopened; others = ended.others } in
    let one = subst (λ (p : ℕ × ℕ). LetsOneGo p.0 p.1 cur new) late.2 here in
    let over : patience ≤ now - instant_nanos late.0.since = subst (λ (d : Duration). as_nanos d ≤ now - instant_nanos late.0.since) inv.patience late.3 in
    let going = goes-next patience now old cur new c.args.self.now.newcomers.waiting.items c.late.self.newcomers.waiting.items c.pop_late.new.self.waiting.items late.0 late.1 over one inv.going in
    record {
      served = goes-then _ _ _ inv.served ended.served;
      limits = ap (λ v. v.limits) ended.same ∙ inv.limits;
      came = ap (λ v. v.came) ended.same ∙ inv.came;
      patience = ap (λ v. v.newcomers.patience) ended.same ∙ c.pop_late.ensures.patience ∙ inv.patience;
      going = subst (λ (after : List Newcomer). Going patience now old new c.args.self.now.newcomers.waiting.items after) (sym (ap (λ v. v.newcomers.waiting.items) ended.same)) going;
    }

pub returns-in_err-let_go_unopened-clause-served : goal.returns-in_err-let_go_unopened-clause-served
returns-in_err-let_go_unopened-clause-served g c = goes-then _ _ _ c.late.invariant.served c.let_go_unopened.ensures.served

pub returns-clause-served : goal.returns-clause-served
returns-clause-served g c = c.late.invariant.served

pub returns-clause-let_go : goal.returns-clause-let_go
returns-clause-let_go g c =
    subst (λ (after : List Newcomer). LetsGo (as_nanos c.args.self.now.newcomers.patience) (instant_nanos c.args.now) c.args.self.now.connections c.late.self.connections c.args.self.now.newcomers.waiting.items after)
    (sym (c.pop_late.ensures.none c.in_default.is)) c.late.invariant.going.goes
