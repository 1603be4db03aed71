use Rattle.std.proofs.Common.{length, map, drop, sym, ap, ◌∙◌, subst}
use Rattle.std.proofs.lemmas.List.{take_at}
use Rattle.framebuffer.specs.Rows.{row_colours}
use Rattle.framebuffer.specs.Rows.{HasRows, frame_of}
use Rattle.framebuffer.proofs.FrameLemmas.{rows_kept, frame_kept}
use Rattle.framebuffer.proofs.frame.Framebuffer.take_back.Goals as goal

pub invariant_of-self : goal.invariant_of-self
invariant_of-self c =
    subst (HasRows c.self.inside.width c.self.inside.height) (sym (take_at c.take_back_rows.new.rows (drop (length c.take_back_rows.new.rows) c.self.inside.rows.items) _ (c.take_back_rows.auto.rows ∙ c.deref_mut.ensures.len)))
    (rows_kept c.self.inside.width c.self.inside.height c.self.inside.rows.items c.take_back_rows.new.rows (c.take_back_rows.ensures ∙ ap (map row_colours) c.deref_mut.ensures.value) c.self.invariant)

pub returns : goal.returns
returns c =
    ap (frame_of c.self.inside.width c.self.inside.height) (take_at c.take_back_rows.new.rows (drop (length c.take_back_rows.new.rows) c.self.inside.rows.items) _ (c.take_back_rows.auto.rows ∙ c.deref_mut.ensures.len))
    ∙ frame_kept c.self.inside.width c.self.inside.height c.self.inside.rows.items c.take_back_rows.new.rows (c.take_back_rows.ensures ∙ ap (map row_colours) c.deref_mut.ensures.value) ∙ c.self.view_is
