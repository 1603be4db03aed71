use Rattle.std.proofs.Common.{◌*◌, ◌≤◌, ap, refl, sym, subst}
use Rattle.region_bands.specs.Bands.{Reading, nodes_in}
use Rattle.region_sets.specs.Sets.{IsKept}
use Rattle.region_rows.specs.declared.Keep.TheVariants.{Either}
use Rattle.region.specs.Rects.{rects_in}
use Rattle.region.specs.Forms.{bands_in}
use Rattle.region.proofs.Region.or_reserved.Goals as goal
use Rattle.region.proofs.CallLemmas.{kept_covers}
use Rattle.region.proofs.RoomLemmas.{kept_in_room}

pub keep_in_room-requires-clause-room : goal.keep_in_room-requires-clause-room
keep_in_room-requires-clause-room c = λ bands kept.
    subst (λ v. 2 * nodes_in bands ≤ v.room) (sym c.self.view_is)
    (kept_in_room (bands_in c.self.inside.form) (bands_in c.other.inside.form) c.args.self.now c.args.other.now
    (ap (λ v. v.list) c.self.view_is) (ap (λ v. v.list) c.other.view_is) c.requires bands
    (subst (λ (r : Reading). IsKept Either (bands_in c.self.inside.form) r.bands bands) c.reader.ensures kept))

pub returns : goal.returns
returns c = kept_covers Either (bands_in c.self.inside.form) (bands_in c.other.inside.form) (bands_in c.keep_in_room.new.self)
    c.args.self.now.list c.args.other.now.list (rects_in (bands_in c.keep_in_room.new.self))
    (subst (λ (r : Reading). IsKept Either (bands_in c.self.inside.form) r.bands (bands_in c.keep_in_room.new.self)) c.reader.ensures c.keep_in_room.ensures.kept)
    (sym (ap (λ v. v.list) c.self.view_is)) (sym (ap (λ v. v.list) c.other.view_is)) refl
