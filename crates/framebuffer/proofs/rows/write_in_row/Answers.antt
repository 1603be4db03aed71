use Rattle.std.proofs.Common.{◌≡◌, ℕ, ◌+◌, ◌≤◌, ap, ◌∙◌, sym, length, arith}
use Rattle.std.proofs.lemmas.List.{length-take, length-drop}
use Rattle.framebuffer.specs.Rows.{row_colours, row_written}
use Rattle.framebuffer.proofs.RowLemmas.{written_part}
use Rattle.framebuffer.proofs.rows.write_in_row.Goals as goal

pub returns-clause-colours : goal.returns-clause-colours
returns-clause-colours c =
    let same : c.deref_mut.result.now ≡ row_colours c.args.row.now = c.deref_mut.ensures.value ∙ sym (ap row_colours c.in-Own.is) in
    let room : c.args.left + length c.args.colours.now ≤ length c.deref_mut.result.now = omega (arith, c.requires.fits, ap length same) in
    written_part c.deref_mut.result.now c.write_places.new.places c.args.colours.now _ c.args.left c.in-Own.places.len room
    (omega (arith, c.write_places.auto.places, length-take {A = ℕ}, length-drop {A = ℕ}, room)) (sym c.deref_mut.ensures.len) c.write_places.ensures
    ∙ ap (row_written c.args.left c.args.colours.now) same
