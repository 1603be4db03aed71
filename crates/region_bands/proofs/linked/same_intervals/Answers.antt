use Rattle.std.proofs.Common.{rules, ap, ◌≡◌}
use Rattle.std.specs.Prelude.{FitsSigned}
use Rattle.std.specs.Int.{w32}
use mir.Val.{to_z, of_z}
use Rattle.std.proofs.lemmas.Int.{to_z-of_z}
use Rattle.region_bands.proofs.AlikeLemmas.{alike_first, one_live, other_live, shorter, ended, apart_here, alike_more, fewer}
use Rattle.region_bands.proofs.linked.same_intervals.Goals as goal
use Rattle.region_bands.proofs.linked.same_intervals.Goals.{then-x-y-via-then-x-y, then-x-y-via-else-x-y+then-x-y-2}

pub loop-left-init : goal.loop-left-init
loop-left-init c = alike_first c.args.spans.now c.args.one c.args.other c.first-left.result c.first-right.result c.requires.one c.requires.other c.first-left.ensures c.first-right.ensures

pub returns-in_default-right : goal.returns-in_default-right
returns-in_default-right c = (λ yes. absurd (cc), λ same. absurd (shorter c.args.spans.now c.args.one c.args.other c.loop-left.left c.loop-left.right c.loop-left.invariant c.in-Some.a c.in-Some.is c.in_default-right.is same))

pub get-x-requires : goal.get-x-requires
get-x-requires c = one_live c.args.spans.now c.args.one c.args.other c.loop-left.left c.loop-left.right c.loop-left.invariant c.lists_are_sound.ensures c.in-Some.a c.in-Some.is

pub get-y-requires : goal.get-y-requires
get-y-requires c = other_live c.args.spans.now c.args.one c.args.other c.loop-left.left c.loop-left.right c.loop-left.invariant c.lists_are_sound.ensures c.in-Some-right.b c.in-Some-right.is

pub returns-then-x-y : goal.returns-then-x-y
returns-then-x-y c = (
  λ yes. absurd (cc),
  λ same. absurd (elim c.then-x-y.branch [
    | then-x-y-via-then-x-y w ↦ apart_here c.args.spans.now c.args.one c.args.other c.loop-left.left c.loop-left.right c.loop-left.invariant c.in-Some.a c.in-Some-right.b c.in-Some.is c.in-Some-right.is c.get-x.result c.get-y.result c.get-x.ensures c.get-y.ensures (λ starts stops. w.if-x-y.true (ap (of_z w32) starts)) same
    | then-x-y-via-else-x-y+then-x-y-2 w ↦ apart_here c.args.spans.now c.args.one c.args.other c.loop-left.left c.loop-left.right c.loop-left.invariant c.in-Some.a c.in-Some-right.b c.in-Some.is c.in-Some-right.is c.get-x.result c.get-y.result c.get-x.ensures c.get-y.ensures (λ starts stops. w.if-x-y-2.true (ap (of_z w32) stops)) same
  ]),
)

pub loop-left-smaller : goal.loop-left-smaller
loop-left-smaller c =
    let xa : FitsSigned w32 c.get-x.result.start = search rules in
    let xb : FitsSigned w32 c.get-x.result.stop = search rules in
    let ya : FitsSigned w32 c.get-y.result.start = search rules in
    let yb : FitsSigned w32 c.get-y.result.stop = search rules in
    let starts : c.get-x.result.start ≡ c.get-y.result.start = simp to_z-of_z at (ap (to_z w32) c.if-x-y.false) in
    let stops : c.get-x.result.stop ≡ c.get-y.result.stop = simp to_z-of_z at (ap (to_z w32) c.if-x-y-2.false) in
    fewer c.args.spans.now c.args.one c.args.other c.loop-left.left c.loop-left.right c.loop-left.invariant c.in-Some.a c.in-Some-right.b c.in-Some.is c.in-Some-right.is c.get-x.result c.get-y.result c.get-x.ensures c.get-y.ensures starts stops c.next-left.result c.next-right.result c.next-left.ensures c.next-right.ensures c.lists_are_sound.ensures

pub loop-left-preserved : goal.loop-left-preserved
loop-left-preserved c =
    let xa : FitsSigned w32 c.get-x.result.start = search rules in
    let xb : FitsSigned w32 c.get-x.result.stop = search rules in
    let ya : FitsSigned w32 c.get-y.result.start = search rules in
    let yb : FitsSigned w32 c.get-y.result.stop = search rules in
    let starts : c.get-x.result.start ≡ c.get-y.result.start = simp to_z-of_z at (ap (to_z w32) c.if-x-y.false) in
    let stops : c.get-x.result.stop ≡ c.get-y.result.stop = simp to_z-of_z at (ap (to_z w32) c.if-x-y-2.false) in
    alike_more c.args.spans.now c.args.one c.args.other c.loop-left.left c.loop-left.right c.loop-left.invariant c.in-Some.a c.in-Some-right.b c.in-Some.is c.in-Some-right.is c.get-x.result c.get-y.result c.get-x.ensures c.get-y.ensures starts stops c.next-left.result c.next-right.result c.next-left.ensures c.next-right.ensures

pub returns : goal.returns
returns c = ended c.args.spans.now c.args.one c.args.other c.loop-left.left c.loop-left.right c.loop-left.invariant c.in_default.is c.is_none.result c.is_none.ensures
