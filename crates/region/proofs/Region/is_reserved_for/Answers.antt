use Rattle.std.proofs.Common.{◌/◌, ap, refl, sym, subst}
use Rattle.std.specs.Prelude.{IsTrue, ◌↔◌}
use Rattle.std.proofs.Math.Dec.{leb}
use Rattle.region.specs.Room.{IsRoomFor}
use Rattle.region.proofs.Region.is_reserved_for.Goals as goal
use Rattle.region.proofs.RoomLemmas.{whether_room}
use Rattle.region.specs.Forms.{bands_in, room_in}
use Rattle.region.proofs.FormLemmas.{form_bands}

pub returns : goal.returns
returns c = subst (λ n. IsTrue (leb c.count_nodes_kept.result (n / 2)) ↔ IsRoomFor c.args.self.now c.args.other.now) (sym c.room.ensures)
    (subst (λ v. IsTrue (leb c.count_nodes_kept.result (room_in c.self.inside.form / 2)) ↔ IsRoomFor v c.args.other.now) c.self.view_is
    (whether_room (bands_in c.self.inside.form) (bands_in c.other.inside.form) _ c.args.other.now c.count_nodes_kept.result
    (form_bands c.self.inside.form c.self.invariant) (form_bands c.other.inside.form c.other.invariant) refl (ap (λ v. v.list) c.other.view_is) c.count_nodes_kept.ensures))
