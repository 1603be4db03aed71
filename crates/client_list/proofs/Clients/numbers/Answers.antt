use Rattle.std.proofs.Common.{ℕ, Option, subst, ◌∙◌}
use Rattle.std.specs.Prelude.{IfSome}
use Rattle.client_list.specs.Connected.{IsPosition}
use Rattle.client_list.specs.WalkLemmas.{number_step, numbers_end, walk_falls}
use Rattle.client_list.proofs.Clients.numbers.Goals as goal

pub loop-position-smaller : goal.loop-position-smaller
loop-position-smaller g c =
    let v = c.args.self.now in
    let there : IsPosition v c.in-Some.at = subst (λ (o : Option ℕ). IfSome o (IsPosition v)) c.in-Some.is c.loop-position.invariant.position in
    walk_falls v c.loop-position.position c.next-position.result c.in-Some.at c.in-Some.is there c.next-position.ensures.passed

pub loop-position-preserved : goal.loop-position-preserved
loop-position-preserved g c = record {
  listed = c.loop-position.invariant.listed;
  position = c.next-position.ensures.position;
  numbers =
      c.in_ok-push.ensures.items
      ∙ number_step c.args.self.now c.loop-position.numbers.items c.loop-position.position c.next-position.result c.in-Some.at c.number_at.result c.loop-position.invariant.numbers c.in-Some.is c.number_at.ensures c.next-position.ensures.passed;
}

pub returns : goal.returns
returns g c = numbers_end c.args.self.now c.loop-position.numbers.items c.loop-position.position c.loop-position.invariant.listed c.loop-position.invariant.numbers c.in_default.is
