use Rattle.std.proofs.Common.{◌≡◌, ◌<◌, arith, rules, ap, sym, subst, get_or, true}
use Rattle.std.specs.Prelude.{FitsSigned, nat_abs, pos, ◌-ℤ◌}
use Rattle.std.specs.Int.{w32}
use Rattle.std.proofs.lemmas.Int.{ints, to_z-of_z, to_z_pos}
use Rattle.framebuffer.specs.declared.moves.Place.{Place}
use Rattle.framebuffer.specs.Rows.{is_own, colours_of_rows}
use Rattle.framebuffer.proofs.MoveLemmas.{row_of, columns_of, row_copied}
use Rattle.framebuffer.proofs.moves.move_row.Goals as goal

pub copy_places-requires-clause-from : goal.copy_places-requires-clause-from
copy_places-requires-clause-from c =
    let inside = c.requires.inside in
    let source = c.requires.source in
    let high : c.args.y < c.args.height = omega (arith, ints, c.requires.bottom, inside.bottom) in
    let x1 : FitsSigned w32 c.args.piece.x1 = search rules in
    let x2 : FitsSigned w32 c.args.piece.x2 = search rules in
    let dx : FitsSigned w32 c.args.offset.0 = search rules in
    let dy : FitsSigned w32 c.args.offset.1 = search rules in
    let columns : FitsSigned w32 (c.args.piece.x2 -ℤ c.args.piece.x1) = search rules in
    let left : FitsSigned w32 (c.args.piece.x1 -ℤ c.args.offset.0) = search rules in
    let top : FitsSigned w32 (pos c.args.y -ℤ c.args.offset.1) = search rules in
    let is_y = to_z_pos w32 c.args.y (omega arith) in
    let is = row_of c.args.width c.args.height c.args.piece c.args.offset c.args.y inside source c.requires.top c.requires.bottom in
    let from = simp to_z-of_z at (rw is_y at c.place_at-from.ensures) in
    omega (arith, ap (λ (p : Place). p.row) from, is.source_high, c.requires.count)

pub copy_places-requires-clause-from_wide : goal.copy_places-requires-clause-from_wide
copy_places-requires-clause-from_wide c =
    let inside = c.requires.inside in
    let source = c.requires.source in
    let high : c.args.y < c.args.height = omega (arith, ints, c.requires.bottom, inside.bottom) in
    let x1 : FitsSigned w32 c.args.piece.x1 = search rules in
    let x2 : FitsSigned w32 c.args.piece.x2 = search rules in
    let dx : FitsSigned w32 c.args.offset.0 = search rules in
    let dy : FitsSigned w32 c.args.offset.1 = search rules in
    let columns : FitsSigned w32 (c.args.piece.x2 -ℤ c.args.piece.x1) = search rules in
    let left : FitsSigned w32 (c.args.piece.x1 -ℤ c.args.offset.0) = search rules in
    let top : FitsSigned w32 (pos c.args.y -ℤ c.args.offset.1) = search rules in
    let is_y = to_z_pos w32 c.args.y (omega arith) in
    let is = row_of c.args.width c.args.height c.args.piece c.args.offset c.args.y inside source c.requires.top c.requires.bottom in
    let from = simp to_z-of_z at (rw is_y at c.place_at-from.ensures) in
    let wide = columns_of c.args.width c.args.height c.args.piece inside in
    simp to_z-of_z (omega (arith, ap (λ (p : Place). p.column) from, wide, is.source_wide))

pub copy_places-requires-clause-to : goal.copy_places-requires-clause-to
copy_places-requires-clause-to c =
    let inside = c.requires.inside in
    let source = c.requires.source in
    let high : c.args.y < c.args.height = omega (arith, ints, c.requires.bottom, inside.bottom) in
    let x1 : FitsSigned w32 c.args.piece.x1 = search rules in
    let x2 : FitsSigned w32 c.args.piece.x2 = search rules in
    let dx : FitsSigned w32 c.args.offset.0 = search rules in
    let dy : FitsSigned w32 c.args.offset.1 = search rules in
    let columns : FitsSigned w32 (c.args.piece.x2 -ℤ c.args.piece.x1) = search rules in
    let left : FitsSigned w32 (c.args.piece.x1 -ℤ c.args.offset.0) = search rules in
    let top : FitsSigned w32 (pos c.args.y -ℤ c.args.offset.1) = search rules in
    let is_y = to_z_pos w32 c.args.y (omega arith) in
    let is = row_of c.args.width c.args.height c.args.piece c.args.offset c.args.y inside source c.requires.top c.requires.bottom in
    let to = simp to_z-of_z at (rw is_y at c.place_at-to.ensures) in
    omega (arith, ap (λ (p : Place). p.row) to, high, c.requires.count)

pub copy_places-requires-clause-to_wide : goal.copy_places-requires-clause-to_wide
copy_places-requires-clause-to_wide c =
    let inside = c.requires.inside in
    let source = c.requires.source in
    let high : c.args.y < c.args.height = omega (arith, ints, c.requires.bottom, inside.bottom) in
    let x1 : FitsSigned w32 c.args.piece.x1 = search rules in
    let x2 : FitsSigned w32 c.args.piece.x2 = search rules in
    let dx : FitsSigned w32 c.args.offset.0 = search rules in
    let dy : FitsSigned w32 c.args.offset.1 = search rules in
    let columns : FitsSigned w32 (c.args.piece.x2 -ℤ c.args.piece.x1) = search rules in
    let left : FitsSigned w32 (c.args.piece.x1 -ℤ c.args.offset.0) = search rules in
    let top : FitsSigned w32 (pos c.args.y -ℤ c.args.offset.1) = search rules in
    let is_y = to_z_pos w32 c.args.y (omega arith) in
    let is = row_of c.args.width c.args.height c.args.piece c.args.offset c.args.y inside source c.requires.top c.requires.bottom in
    let to = simp to_z-of_z at (rw is_y at c.place_at-to.ensures) in
    let wide = columns_of c.args.width c.args.height c.args.piece inside in
    let some = is.some in let wide_too = is.wide in simp to_z-of_z (omega (arith, ap (λ (p : Place). p.column) to, wide))

pub copy_places-requires-clause-own : goal.copy_places-requires-clause-own
copy_places-requires-clause-own c =
    let inside = c.requires.inside in
    let source = c.requires.source in
    let high : c.args.y < c.args.height = omega (arith, ints, c.requires.bottom, inside.bottom) in
    let x1 : FitsSigned w32 c.args.piece.x1 = search rules in
    let x2 : FitsSigned w32 c.args.piece.x2 = search rules in
    let dx : FitsSigned w32 c.args.offset.0 = search rules in
    let dy : FitsSigned w32 c.args.offset.1 = search rules in
    let columns : FitsSigned w32 (c.args.piece.x2 -ℤ c.args.piece.x1) = search rules in
    let left : FitsSigned w32 (c.args.piece.x1 -ℤ c.args.offset.0) = search rules in
    let top : FitsSigned w32 (pos c.args.y -ℤ c.args.offset.1) = search rules in
    let is_y = to_z_pos w32 c.args.y (omega arith) in
    let is = row_of c.args.width c.args.height c.args.piece c.args.offset c.args.y inside source c.requires.top c.requires.bottom in
    let to = simp to_z-of_z at (rw is_y at c.place_at-to.ensures) in
    λ d. subst (λ n. is_own (get_or c.args.rows.now n d) ≡ true) (sym (ap (λ (p : Place). p.row) to)) (c.requires.own c.args.y d (omega (arith, ints, c.requires.top, inside.top)) (omega (arith, ints, c.requires.bottom, inside.top, inside.rows)))

pub returns-clause-colours : goal.returns-clause-colours
returns-clause-colours c =
    let inside = c.requires.inside in
    let source = c.requires.source in
    let high : c.args.y < c.args.height = omega (arith, ints, c.requires.bottom, inside.bottom) in
    let x1 : FitsSigned w32 c.args.piece.x1 = search rules in
    let x2 : FitsSigned w32 c.args.piece.x2 = search rules in
    let dx : FitsSigned w32 c.args.offset.0 = search rules in
    let dy : FitsSigned w32 c.args.offset.1 = search rules in
    let columns : FitsSigned w32 (c.args.piece.x2 -ℤ c.args.piece.x1) = search rules in
    let left : FitsSigned w32 (c.args.piece.x1 -ℤ c.args.offset.0) = search rules in
    let top : FitsSigned w32 (pos c.args.y -ℤ c.args.offset.1) = search rules in
    let is_y = to_z_pos w32 c.args.y (omega arith) in
    let is = row_of c.args.width c.args.height c.args.piece c.args.offset c.args.y inside source c.requires.top c.requires.bottom in
    let wide = columns_of c.args.width c.args.height c.args.piece inside in
    let from = simp to_z-of_z at (rw is_y at c.place_at-from.ensures) in
    let to = simp to_z-of_z at (rw is_y at c.place_at-to.ensures) in
    row_copied c.args.width c.args.height c.args.piece c.args.offset c.args.y (nat_abs c.args.piece.x1) (nat_abs c.args.piece.x2) (nat_abs (c.args.piece.x1 -ℤ c.args.offset.0)) (nat_abs (pos c.args.y -ℤ c.args.offset.1)) (colours_of_rows c.args.rows.now) is (colours_of_rows c.copy_places.new.rows)
    (λ k. rw (from, to, wide) at (simp to_z-of_z at (c.copy_places.ensures.colours k)))
