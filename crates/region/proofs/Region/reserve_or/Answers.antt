use Rattle.std.proofs.Common.{◌≡◌, ◌∙◌, sym, ap, arith}
use Rattle.region.specs.Rects.{rects_in}
use Rattle.region.specs.Forms.{bands_in, room_in, view_of}
use Rattle.region.proofs.Region.reserve_or.Goals as goal
use Rattle.region.proofs.RoomLemmas.{has_room}

pub returns-in_ok-reserve-clause-ok : goal.returns-in_ok-reserve-clause-ok
returns-in_ok-reserve-clause-ok c = has_room (bands_in c.self.inside.form) (bands_in c.other.inside.form) (view_of c.reserve.new.self) c.args.other.now
    (sym (ap rects_in c.in_ok-reserve.ensures.bands)) (ap (λ v. v.list) c.other.view_is)
    (λ bands kept. let is = c.in-Some.ensures.some bands kept in let made : room_in c.reserve.new.self ≡ c.in-Some.room = c.in_ok-reserve.ensures.ok in omega (arith, is, made))

pub returns-else-room-clause-ok : goal.returns-else-room-clause-ok
returns-else-room-clause-ok c = has_room (bands_in c.self.inside.form) (bands_in c.other.inside.form) c.args.self.now c.args.other.now (ap (λ v. v.list) c.self.view_is) (ap (λ v. v.list) c.other.view_is)
    (λ bands kept. let is = c.in-Some.ensures.some bands kept in let own : c.room.result ≡ c.args.self.now.room = c.room.ensures ∙ ap (λ v. v.room) c.self.view_is in let high = c.if-room.false in omega (arith, is, own, high))
