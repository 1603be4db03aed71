use Rattle.std.proofs.Common.{rules, ◌≡◌, ℕ, ◌-◌, length, map, arith, sym, ap, ◌∙◌, Vec, Global}
use Rattle.std.proofs.lemmas.List.{length-map, with_items_is}
use Rattle.pixel_translate.specs.Pixel.{pixel}
use Rattle.subrectangles.specs.Lines.{values_in}
use Rattle.subrectangles.proofs.RowsAsPixels.{on_some_map, row_map, same_rows, room_of}
use Rattle.subrectangles.proofs.translated.Pixels.go_on.Goals as goal

pub copy_from_slice-requires : goal.copy_from_slice-requires
copy_from_slice-requires c =
    let row : length c.args.rows.now.row.items ≡ c.args.self.now.colours.width =
    rw c.in-Some.is at (room_of c.args.self.now (c.args.y - 1) c.args.rows.now.row.items (omega (arith, c.requires.inside)) c.requires.above.row) in
    let above : length c.args.rows.now.above.items ≡ c.args.self.now.colours.width =
    rw c.in-Some.is at (room_of c.args.self.now (c.args.y - 1 - 1) c.args.rows.now.above.items (omega (arith, c.requires.inside)) c.requires.above.above) in
    c.args.rows.now.above.ok.0 ∙ above ∙ sym row ∙ sym (ap (length {A = ℕ}) c.deref.ensures.value)

pub write_row-requires-clause-room : goal.write_row-requires-clause-room
write_row-requires-clause-room c =
    let above : length c.args.rows.now.above.items ≡ c.args.self.now.colours.width =
    rw c.in-Some.is at (room_of c.args.self.now (c.args.y - 1 - 1) c.args.rows.now.above.items (omega (arith, c.requires.inside)) c.requires.above.above) in
    ap (length {A = ℕ}) c.deref_mut.ensures.value ∙ ap (λ (v : Vec ℕ Global). length v.items) c.swap.ensures.y_after ∙ above ∙ sym c.row-row.ensures.len

pub returns-then-eq : goal.returns-then-eq
returns-then-eq c =
    let e : c.row-row.result.now ≡ c.row.result.now = search rules in
    let same = same_rows c.args.self.now c.args.y (c.args.y - 1) c.requires.inside (omega (arith, c.requires.inside)) (sym c.row-row.ensures.row ∙ e ∙ c.row.ensures.row) in
    record {
      row = on_some_map c.args.self.now.table _ _ (λ here. here ∙ sym same) c.requires.above.row;
      above = rw c.in-Some.is (c.copy_from_slice.ensures.items ∙ c.deref.ensures.value ∙ (rw c.in-Some.is at c.requires.above.row));
    }

pub returns-else-eq : goal.returns-else-eq
returns-else-eq c =
    let f = pixel c.in-Some.table.now in
    let above : length c.args.rows.now.above.items ≡ c.args.self.now.colours.width =
    rw c.in-Some.is at (room_of c.args.self.now (c.args.y - 1 - 1) c.args.rows.now.above.items (omega (arith, c.requires.inside)) c.requires.above.above) in
    let places : c.swap.new.y.len ≡ c.args.self.now.colours.width = ap (λ (v : Vec ℕ Global). v.len) c.swap.ensures.y_after ∙ c.args.rows.now.above.ok.0 ∙ above in
    let len : length c.write_row.new.places ≡ c.swap.new.y.len = ap (length {A = ℕ}) c.write_row.ensures ∙ length-map c.row-row.result.now f ∙ c.row-row.ensures.len ∙ sym places in
    record {
      row = rw c.in-Some.is (
          with_items_is c.swap.new.y c.write_row.new.places len ∙ c.write_row.ensures ∙ ap (map f) c.row-row.ensures.row
          ∙ sym (row_map f c.args.self.now.colours.width c.args.self.now.colours.height (values_in c.args.self.now.colours) c.args.y c.requires.inside)
          );
      above = rw c.in-Some.is (ap (λ (v : Vec ℕ Global). v.items) c.swap.ensures.x_after ∙ (rw c.in-Some.is at c.requires.above.row));
    }
