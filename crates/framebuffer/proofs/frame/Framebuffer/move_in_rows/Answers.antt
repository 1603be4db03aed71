use Rattle.std.proofs.Common.{◌≡◌, ℤ, true, List, length, map, drop, sym, ap, ◌∙◌, subst}
use Rattle.std.proofs.lemmas.List.{take_at}
use Rattle.region.specs.declared.Rect.{Rect}
use Rattle.region.specs.Region.{covers}
use Rattle.framebuffer.specs.Rows.{row_colours, colours_of_rows}
use Rattle.framebuffer.specs.Moves.{colour_moved}
use Rattle.framebuffer.specs.Picture.{moved_colours}
use Rattle.framebuffer.specs.Frame.{Frame}
use Rattle.framebuffer.specs.Rows.{HasRows, frame_of}
use Rattle.framebuffer.proofs.RowLemmas.{wide_same, flat_same}
use Rattle.framebuffer.proofs.FrameLemmas.{rows_kept, frame_kept, rows_sized, frame_moved, on_err}
use Rattle.framebuffer.proofs.frame.Framebuffer.move_in_rows.Goals as goal

pub invariant_of-self-in_err-own_pieces : goal.invariant_of-self-in_err-own_pieces
invariant_of-self-in_err-own_pieces c =
    subst (HasRows c.self.inside.width c.self.inside.height) (sym (take_at c.own_pieces.new.rows (drop (length c.own_pieces.new.rows) c.self.inside.rows.items) _ (c.own_pieces.auto.rows ∙ c.deref_mut.ensures.len)))
    (rows_kept c.self.inside.width c.self.inside.height c.self.inside.rows.items c.own_pieces.new.rows (c.own_pieces.ensures.same ∙ ap (map row_colours) c.deref_mut.ensures.value) c.self.invariant)

pub returns-in_err-own_pieces-clause-err : goal.returns-in_err-own_pieces-clause-err
returns-in_err-own_pieces-clause-err c =
    on_err _ _ (ap (frame_of c.self.inside.width c.self.inside.height) (take_at c.own_pieces.new.rows (drop (length c.own_pieces.new.rows) c.self.inside.rows.items) _ (c.own_pieces.auto.rows ∙ c.deref_mut.ensures.len))
    ∙ frame_kept c.self.inside.width c.self.inside.height c.self.inside.rows.items c.own_pieces.new.rows (c.own_pieces.ensures.same ∙ ap (map row_colours) c.deref_mut.ensures.value) ∙ c.self.view_is)

pub move_pieces-requires-clause-wide : goal.move_pieces-requires-clause-wide
move_pieces-requires-clause-wide c =
    let w = c.self.inside.width in
    let own : c.deref_mut-3.result.now ≡ c.own_pieces.new.rows = c.deref_mut-3.ensures.value ∙ take_at c.own_pieces.new.rows (drop (length c.own_pieces.new.rows) c.self.inside.rows.items) _ (c.own_pieces.auto.rows ∙ c.deref_mut.ensures.len) in
    wide_same w c.deref_mut-3.result.now c.self.inside.rows.items (ap (map row_colours) own ∙ c.own_pieces.ensures.same ∙ ap (map row_colours) c.deref_mut.ensures.value) c.self.invariant.wide

pub returns-clause-ok : goal.returns-clause-ok
returns-clause-ok c =
    let w = c.self.inside.width in
    let h = c.self.inside.height in
    let old = c.self.inside.rows.items in
    let own : c.deref_mut-3.result.now ≡ c.own_pieces.new.rows = c.deref_mut-3.ensures.value ∙ take_at c.own_pieces.new.rows (drop (length c.own_pieces.new.rows) old) _ (c.own_pieces.auto.rows ∙ c.deref_mut.ensures.len) in
    let same : map row_colours c.deref_mut-3.result.now ≡ map row_colours old = ap (map row_colours) own ∙ c.own_pieces.ensures.same ∙ ap (map row_colours) c.deref_mut.ensures.value in
    let flat : colours_of_rows c.deref_mut-3.result.now ≡ colours_of_rows old = flat_same row_colours 0 c.deref_mut-3.result.now old same in
    let count : length c.move_pieces.new.rows ≡ length old = c.move_pieces.auto.rows ∙ ap length own ∙ c.own_pieces.auto.rows ∙ ap length c.deref_mut.ensures.value in
    let has : HasRows w h c.move_pieces.new.rows = rows_sized w h old c.move_pieces.new.rows c.self.invariant count c.move_pieces.ensures.wide in
    ap (frame_of w h) (take_at c.move_pieces.new.rows (drop (length c.move_pieces.new.rows) _) _ (c.move_pieces.auto.rows ∙ c.deref_mut-3.ensures.len))
    ∙ frame_moved w h c.args.pieces.now c.args.offset old c.move_pieces.new.rows c.self.invariant has
    (λ y x top left. c.move_pieces.ensures.colours y x top left ∙ ap (λ l. colour_moved w h c.args.pieces.now c.args.offset (λ row. true) l y x) flat)
    ∙ ap (moved_in c.args.pieces.now c.args.offset) c.self.view_is
  where
    moved_in : List Rect → ℤ × ℤ → Frame → Frame
    moved_in pieces by f = record f { colours = moved_colours f.width f.height (covers pieces) by f.colours }
