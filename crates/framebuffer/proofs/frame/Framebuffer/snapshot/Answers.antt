use Rattle.std.proofs.Common.{◌+◌, ◌≤◌, length, map, take, drop, sym, ap, ◌∙◌, subst, arith}
use Rattle.framebuffer.specs.declared.blocks.Block.{Block}
use Rattle.framebuffer.specs.Blocks.{block_colours}
use Rattle.framebuffer.specs.Frame.{Frame}
use Rattle.std.proofs.lemmas.List.{take_at}
use Rattle.framebuffer.specs.Rows.{row_colours}
use Rattle.framebuffer.specs.Rows.{HasRows, frame_of}
use Rattle.framebuffer.proofs.FrameLemmas.{rows_kept, frame_kept, parts_taken, part_taken}
use Rattle.framebuffer.proofs.frame.Framebuffer.snapshot.Goals as goal

pub invariant_of-self : goal.invariant_of-self
invariant_of-self c =
    subst (HasRows c.self.inside.width c.self.inside.height) (sym (take_at c.share_rows.new.rows (drop (length c.share_rows.new.rows) c.self.inside.rows.items) _ (c.share_rows.auto.rows ∙ c.deref_mut.ensures.len)))
    (rows_kept c.self.inside.width c.self.inside.height c.self.inside.rows.items c.share_rows.new.rows (c.share_rows.ensures.same ∙ ap (map row_colours) c.deref_mut.ensures.value) c.self.invariant)

pub invariant_of-self-2 : goal.invariant_of-self-2
invariant_of-self-2 c =
    subst (HasRows c.self.inside.width c.self.inside.height) (sym (take_at c.share_rows.new.rows (drop (length c.share_rows.new.rows) c.self.inside.rows.items) _ (c.share_rows.auto.rows ∙ c.deref_mut.ensures.len)))
    (rows_kept c.self.inside.width c.self.inside.height c.self.inside.rows.items c.share_rows.new.rows (c.share_rows.ensures.same ∙ ap (map row_colours) c.deref_mut.ensures.value) c.self.invariant)

pub returns-in_err-rows-clause-same : goal.returns-in_err-rows-clause-same
returns-in_err-rows-clause-same c =
    ap (frame_of c.self.inside.width c.self.inside.height) (take_at c.share_rows.new.rows (drop (length c.share_rows.new.rows) c.self.inside.rows.items) _ (c.share_rows.auto.rows ∙ c.deref_mut.ensures.len))
    ∙ frame_kept c.self.inside.width c.self.inside.height c.self.inside.rows.items c.share_rows.new.rows (c.share_rows.ensures.same ∙ ap (map row_colours) c.deref_mut.ensures.value) ∙ c.self.view_is

pub returns-clause-same : goal.returns-clause-same
returns-clause-same c =
    ap (frame_of c.self.inside.width c.self.inside.height) (take_at c.share_rows.new.rows (drop (length c.share_rows.new.rows) c.self.inside.rows.items) _ (c.share_rows.auto.rows ∙ c.deref_mut.ensures.len))
    ∙ frame_kept c.self.inside.width c.self.inside.height c.self.inside.rows.items c.share_rows.new.rows (c.share_rows.ensures.same ∙ ap (map row_colours) c.deref_mut.ensures.value) ∙ c.self.view_is

pub invariant_of-result : goal.invariant_of-result
invariant_of-result c =
    let b = c.args.block in
    let w = c.self.inside.width in
    let h = c.self.inside.height in
    let wide : b.left + b.columns ≤ w = omega (arith, c.requires.wide, ap (λ (f : Frame). f.width) c.self.view_is) in
    let high : b.top + b.rows ≤ h = omega (arith, c.requires.high, ap (λ (f : Frame). f.height) c.self.view_is) in
    parts_taken w h b c.self.inside.rows.items c.in_ok-rows.rows.items c.self.invariant wide high (c.in_ok-rows.ensures.shared ∙ ap (λ l. take b.rows (drop b.top (map row_colours l))) c.deref_mut.ensures.value)

pub returns-clause-taken : goal.returns-clause-taken
returns-clause-taken c =
    let b = c.args.block in
    let w = c.self.inside.width in
    let h = c.self.inside.height in
    let wide : b.left + b.columns ≤ w = omega (arith, c.requires.wide, ap (λ (f : Frame). f.width) c.self.view_is) in
    let high : b.top + b.rows ≤ h = omega (arith, c.requires.high, ap (λ (f : Frame). f.height) c.self.view_is) in
    part_taken w h b c.self.inside.rows.items c.in_ok-rows.rows.items c.self.invariant wide high (c.in_ok-rows.ensures.shared ∙ ap (λ l. take b.rows (drop b.top (map row_colours l))) c.deref_mut.ensures.value)
    ∙ ap (taken_from b) c.self.view_is
  where
    taken_from : Block → Frame → Frame
    taken_from b f = record { width = b.columns; height = b.rows; colours = block_colours f.width b f.colours }
