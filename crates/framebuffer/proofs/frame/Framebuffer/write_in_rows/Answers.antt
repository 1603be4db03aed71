use Rattle.std.proofs.Common.{◌≡◌, ℕ, List, length, map, drop, sym, ap, ◌∙◌, subst}
use Rattle.std.proofs.lemmas.List.{take_at}
use Rattle.framebuffer.specs.declared.blocks.Block.{Block}
use Rattle.framebuffer.specs.Rows.{row_colours}
use Rattle.framebuffer.specs.Blocks.{colour_written, block_rect}
use Rattle.framebuffer.specs.Picture.{written}
use Rattle.framebuffer.specs.Frame.{Frame}
use Rattle.framebuffer.specs.Rows.{HasRows, frame_of}
use Rattle.framebuffer.proofs.RowLemmas.{wide_same, flat_same}
use Rattle.framebuffer.proofs.FrameLemmas.{rows_kept, frame_kept, rows_sized, frame_written, on_err}
use Rattle.framebuffer.proofs.frame.Framebuffer.write_in_rows.Goals as goal

pub invariant_of-self-in_err-own_rows : goal.invariant_of-self-in_err-own_rows
invariant_of-self-in_err-own_rows c =
    subst (HasRows c.self.inside.width c.self.inside.height) (sym (take_at c.own_rows.new.rows (drop (length c.own_rows.new.rows) c.self.inside.rows.items) _ (c.own_rows.auto.rows ∙ c.deref_mut.ensures.len)))
    (rows_kept c.self.inside.width c.self.inside.height c.self.inside.rows.items c.own_rows.new.rows (c.own_rows.ensures.same ∙ ap (map row_colours) c.deref_mut.ensures.value) c.self.invariant)

pub returns-in_err-own_rows-clause-err : goal.returns-in_err-own_rows-clause-err
returns-in_err-own_rows-clause-err c =
    on_err _ _ (ap (frame_of c.self.inside.width c.self.inside.height) (take_at c.own_rows.new.rows (drop (length c.own_rows.new.rows) c.self.inside.rows.items) _ (c.own_rows.auto.rows ∙ c.deref_mut.ensures.len))
    ∙ frame_kept c.self.inside.width c.self.inside.height c.self.inside.rows.items c.own_rows.new.rows (c.own_rows.ensures.same ∙ ap (map row_colours) c.deref_mut.ensures.value) ∙ c.self.view_is)

pub write_rows-requires-clause-rows : goal.write_rows-requires-clause-rows
write_rows-requires-clause-rows c =
    let own : c.deref_mut-3.result.now ≡ c.own_rows.new.rows = c.deref_mut-3.ensures.value ∙ take_at c.own_rows.new.rows (drop (length c.own_rows.new.rows) c.self.inside.rows.items) _ (c.own_rows.auto.rows ∙ c.deref_mut.ensures.len) in
    wide_same c.self.inside.width c.deref_mut-3.result.now c.self.inside.rows.items (ap (map row_colours) own ∙ c.own_rows.ensures.same ∙ ap (map row_colours) c.deref_mut.ensures.value) c.self.invariant.wide

pub returns-clause-ok : goal.returns-clause-ok
returns-clause-ok c =
    let w = c.self.inside.width in
    let h = c.self.inside.height in
    let old = c.self.inside.rows.items in
    let own : c.deref_mut-3.result.now ≡ c.own_rows.new.rows = c.deref_mut-3.ensures.value ∙ take_at c.own_rows.new.rows (drop (length c.own_rows.new.rows) old) _ (c.own_rows.auto.rows ∙ c.deref_mut.ensures.len) in
    let same : map row_colours c.deref_mut-3.result.now ≡ map row_colours old = ap (map row_colours) own ∙ c.own_rows.ensures.same ∙ ap (map row_colours) c.deref_mut.ensures.value in
    let count : length c.write_rows.new.rows ≡ length old = c.write_rows.auto.rows ∙ ap length own ∙ c.own_rows.auto.rows ∙ ap length c.deref_mut.ensures.value in
    let has : HasRows w h c.write_rows.new.rows = rows_sized w h old c.write_rows.new.rows c.self.invariant count c.write_rows.ensures.rows in
    ap (frame_of w h) (take_at c.write_rows.new.rows (drop (length c.write_rows.new.rows) _) _ (c.write_rows.auto.rows ∙ c.deref_mut-3.ensures.len))
    ∙ frame_written w h c.args.block c.args.colours.now old c.write_rows.new.rows c.self.invariant has
    (λ y x below. c.write_rows.ensures.colours y x below ∙ ap (λ l. colour_written w c.args.block c.args.colours.now l y x) (flat_same row_colours 0 c.deref_mut-3.result.now old same))
    ∙ ap (written_in c.args.block c.args.colours.now) c.self.view_is
  where
    written_in : Block → List ℕ → Frame → Frame
    written_in b colours f = record f { colours = written f.width f.height (block_rect b) colours f.colours }
