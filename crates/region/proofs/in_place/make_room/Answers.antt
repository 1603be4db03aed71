use Rattle.std.proofs.Common.{◌≡◌, ◌++◌, sym, ◌∙◌, ap, subst, arith}
use Rattle.std.proofs.lemmas.Result.{on_ok_weaker}
use Rattle.region_bands.specs.Bands.{Bands, Reading, first_row}
use Rattle.region_sets.specs.Sets.{AreBands}
use Rattle.region_sets.specs.Room.{Enough, IsGap, start}
use Rattle.region_sets.specs.GapLemmas.{still_bands, bands_back}
use Rattle.region_sets.specs.RoomLemmas.{enough_more}
use Rattle.region.proofs.in_place.make_room.Goals as goal

pub count_room-room-requires-clause-first : goal.count_room-room-requires-clause-first
count_room-room-requires-clause-first c = subst (λ (r : Reading). AreBands r.bands) (sym c.reader_below.ensures) (bands_back c.move_gap.new.bands.above c.move_gap.new.bands.below (still_bands c.args.bands.now c.move_gap.new.bands c.move_gap.ensures.moved c.requires.first))

pub count_room-room-requires-clause-second : goal.count_room-room-requires-clause-second
count_room-room-requires-clause-second c = subst (λ (r : Reading). AreBands r.bands) (sym c.again.ensures) c.requires.second

pub count_room-room-requires-clause-first_left : goal.count_room-room-requires-clause-first_left
count_room-room-requires-clause-first_left c = ap (λ (r : Reading). r.left) c.reader_below.ensures ∙ ap (λ (r : Reading). first_row r.bands) (sym c.reader_below.ensures)

pub count_room-room-requires-clause-second_left : goal.count_room-room-requires-clause-second_left
count_room-room-requires-clause-second_left c = ap (λ (r : Reading). r.left) c.again.ensures ∙ c.requires.second_left ∙ ap (λ (r : Reading). first_row r.bands) (sym c.again.ensures)

pub returns : goal.returns
returns c =
    let mid = c.move_gap.new.bands in
    let new = c.reserve.new.self in
    let other = c.args.other.now.bands in
    let same : new ≡ record mid { spare = new.spare } = c.reserve.ensures.same in
    let spare : mid.spare ≡ c.args.bands.now.spare = ap (λ (u : Bands). u.spare) c.move_gap.ensures.moved.same in
    let enough : Enough c.args.keep (start mid.below other) mid.below other c.count_room-room.result =
    subst (λ (r : Reading). Enough c.args.keep (start mid.below r.bands) mid.below r.bands c.count_room-room.result) c.again.ensures
    (subst (λ (r : Reading). Enough c.args.keep (start r.bands c.again.result.bands) r.bands c.again.result.bands c.count_room-room.result) c.reader_below.ensures c.count_room-room.ensures) in
    record {
      gap = subst (λ (u : Bands). IsGap c.args.keep u.above other) (sym same) c.move_gap.ensures.gap;
      left = ap (λ (u : Bands). u.left) same ∙ c.move_gap.ensures.left ∙ ap (λ (u : Bands). first_row u.below) (sym same);
      ok = on_ok_weaker c.reserve.result (λ room.
          subst (λ (u : Bands). Enough c.args.keep (start u.below other) u.below other new.spare) (sym same) (enough_more c.args.keep (start mid.below other) mid.below other c.count_room-room.result new.spare enough room)) c.reserve.ensures.room;
      kept = let more = c.reserve.ensures.kept in omega (arith, spare, more);
      same = ap (λ (u : Bands). u.above ++ u.below) same ∙ c.move_gap.ensures.moved.all;
      row = ap (λ (u : Bands). u.row) same ∙ ap (λ (u : Bands). u.row) c.move_gap.ensures.moved.same;
    }
