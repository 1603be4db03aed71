use Rattle.std.proofs.Common.{◌≡◌, Some, is_some, true, false, refl}
use Rattle.region_bands.specs.Held.{view_of}
use Rattle.region_bands.proofs.SeenLemmas.{seen}
use Rattle.region_bands.proofs.StepLemmas.{made_first}
use Rattle.region_bands.proofs.CallLemmas.{is_absent, is_there, ready_before, ready_made, ready_more, own_spare}
use Rattle.region_bands.proofs.BandList.reserve.Goals as goal

pub invariant_of-self : goal.invariant_of-self
invariant_of-self c =
    let some : is_some c.self.inside.lists ≡ true = let e = c.is_some.ensures in let t = c.if-is_some.true in cc in
    let there = is_there c.self.inside.lists some in
    let ready = ready_before c.self.inside.spans c.self.inside.lists c.self.inside.gap c.self.inside.left c.args.self.now c.self.invariant c.self.view_is there.0 there.1 in
    (_, ready_more c.self.inside.spans c.self.inside.lists c.self.inside.gap c.self.inside.left c.args.self.now ready c.reserve.new.self c.reserve.ensures.same)

pub returns-then-is_some-clause-same : goal.returns-then-is_some-clause-same
returns-then-is_some-clause-same c =
    let some : is_some c.self.inside.lists ≡ true = let e = c.is_some.ensures in let t = c.if-is_some.true in cc in
    let there = is_there c.self.inside.lists some in
    let ready = ready_before c.self.inside.spans c.self.inside.lists c.self.inside.gap c.self.inside.left c.args.self.now c.self.invariant c.self.view_is there.0 there.1 in
    own_spare (view_of c.reserve.new.self c.self.inside.lists c.self.inside.gap c.self.inside.left) (λ n. record c.args.self.now { spare = n }) (λ n. refl) c.reserve.new.self.spare
    (seen c.reserve.new.self c.self.inside.lists c.self.inside.gap c.self.inside.left _ (ready_more c.self.inside.spans c.self.inside.lists c.self.inside.gap c.self.inside.left c.args.self.now ready c.reserve.new.self c.reserve.ensures.same))

pub invariant_of-self-2 : goal.invariant_of-self-2
invariant_of-self-2 c =
    let absent : is_some c.self.inside.lists ≡ false = let e = c.is_some.ensures in let t = c.if-is_some.false in cc in
    let made = made_first c.new_list-bands.new.spans c.new_list-row.new.spans c.new_list-bands.result c.new_list-row.result c.new_list-row.ensures.fresh c.new_list-row.ensures.made c.new_list-row.ensures.others c.new_list-row.ensures.sound c.new_list-bands.ensures.made in
    let ready = ready_made c.self.inside.spans c.self.inside.lists c.self.inside.gap c.self.inside.left c.args.self.now c.self.invariant c.self.view_is (is_absent c.self.inside.lists absent) c.new_list-row.new.spans (record { bands = c.new_list-bands.result; row = c.new_list-row.result }) made in
    (_, ready_more c.new_list-row.new.spans (Some (record { bands = c.new_list-bands.result; row = c.new_list-row.result })) c.self.inside.gap c.self.inside.left c.args.self.now ready c.new_list-row.new.spans refl)

pub returns-clause-same : goal.returns-clause-same
returns-clause-same c =
    let absent : is_some c.self.inside.lists ≡ false = let e = c.is_some.ensures in let t = c.if-is_some.false in cc in
    let made = made_first c.new_list-bands.new.spans c.new_list-row.new.spans c.new_list-bands.result c.new_list-row.result c.new_list-row.ensures.fresh c.new_list-row.ensures.made c.new_list-row.ensures.others c.new_list-row.ensures.sound c.new_list-bands.ensures.made in
    let ready = ready_made c.self.inside.spans c.self.inside.lists c.self.inside.gap c.self.inside.left c.args.self.now c.self.invariant c.self.view_is (is_absent c.self.inside.lists absent) c.new_list-row.new.spans (record { bands = c.new_list-bands.result; row = c.new_list-row.result }) made in
    own_spare (view_of c.new_list-row.new.spans (Some (record { bands = c.new_list-bands.result; row = c.new_list-row.result })) c.self.inside.gap c.self.inside.left) (λ n. record c.args.self.now { spare = n }) (λ n. refl) c.new_list-row.new.spans.spare
    (seen c.new_list-row.new.spans (Some (record { bands = c.new_list-bands.result; row = c.new_list-row.result })) c.self.inside.gap c.self.inside.left _ (ready_more c.new_list-row.new.spans (Some (record { bands = c.new_list-bands.result; row = c.new_list-row.result })) c.self.inside.gap c.self.inside.left c.args.self.now ready c.new_list-row.new.spans refl))
