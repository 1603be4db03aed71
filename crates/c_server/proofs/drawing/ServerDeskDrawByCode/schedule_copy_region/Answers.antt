use Rattle.std.proofs.Common.{◌≡◌, ℤ, subst, to_z, of_z}
use Rattle.std.specs.Int.{w32}
use Rattle.std.specs.Prelude.{map}
use Rattle.std.proofs.lemmas.Int.{to_z-of_z}
use Rattle.screen.specs.declared.Event.TheVariants.{ScheduleCopy}
use Rattle.c_screen.specs.Desk.{rect_of}
use Rattle.c_server.specs.Calls.{DrawsRegion}
use Rattle.c_server.proofs.drawing.ServerDeskDrawByCode.schedule_copy_region.Goals as goal

pub returns : goal.returns
returns c =
    let done = c.schedule_copy_region in
    let dx : to_z w32 (of_z w32 c.args.dx) ≡ c.args.dx = to_z-of_z w32 _ c.ranges.dx in
    let dy : to_z w32 (of_z w32 c.args.dy) ≡ c.args.dy = to_z-of_z w32 _ c.ranges.dy in
    let code : to_z w32 (of_z w32 done.result) ≡ done.result = to_z-of_z w32 _ (record { sfits = done.type_inv }) in
    rw code (subst (λ (x : ℤ). DrawsRegion (map rect_of c.args.list.now) (λ places. ScheduleCopy places x c.args.dy) c.args.self.now done.new.self done.result) dx
    (subst (λ (y : ℤ). DrawsRegion (map rect_of c.args.list.now) (λ places. ScheduleCopy places (to_z w32 (of_z w32 c.args.dx)) y) c.args.self.now done.new.self done.result) dy done.ensures))
