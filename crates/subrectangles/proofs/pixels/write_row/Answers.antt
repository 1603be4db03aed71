use Rattle.std.proofs.Common.{◌≡◌, ℕ, List, [], ◌++◌, ◌≤◌, ◌+◌, ◌-◌, length, take, drop, ap, sym, arith, ◌∙◌}
use Rattle.std.proofs.lemmas.List.{length-map, length-drop, length-take-le}
use Rattle.std.proofs.lemmas.Slice.{take-put_mid}
use borrow.Rule.Slice.PartMut.{put_mid, same_len_mid}
use Rattle.pixel_translate.specs.Pixel.{pixel}
use Rattle.subrectangles.proofs.Written.{piece_more}
use Rattle.subrectangles.proofs.pixels.write_row.Goals as goal

pub loop-from-preserved : goal.loop-from-preserved
loop-from-preserved c =
    let f = pixel c.args.table.now in
    let from : ℕ = c.loop-from.from in
    let end : ℕ = from + c.min.result in
    let row : List ℕ = c.args.row.now in
    let now : List ℕ = c.loop-from.places in
    let new : List ℕ = c.write_piece.new.places in
    let within : end ≤ length row = omega (arith, c.min.ensures) in
    let on : from ≤ end = omega arith in
    let piece : List ℕ = take (end - from) (drop from row) in
    let len : length new ≡ end - from = ap (length {A = ℕ}) c.write_piece.ensures ∙ length-map piece f ∙ length-take-le (end - from) (drop from row) (omega (arith, within, length-drop from row)) in
    let inside : from ≤ length now = omega (arith, c.loop-from.invariant.within, c.loop-from.invariant.room) in record {
      translated = piece_more f [] (take from now) (take end (put_mid from (end - from) now new)) row from end on c.loop-from.invariant.translated
          (take-put_mid from (end - from) now new end (omega (arith, len, on)) inside ∙ ap (λ (t : List ℕ). take from now ++ t) c.write_piece.ensures);
      within = within;
      room = same_len_mid from (end - from) now new (len ∙ sym (length-take-le (end - from) (drop from now) (omega (arith, within, length-drop from now, c.loop-from.invariant.room))))
          ∙ c.loop-from.invariant.room;
    }
