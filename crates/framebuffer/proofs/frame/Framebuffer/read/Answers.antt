use Rattle.std.proofs.Common.{◌≡◌, ◌+◌, ◌-◌, ◌≤◌, length, take, drop, subst, ap, ◌∙◌, arith}
use Rattle.std.specs.Prelude.{IfOk}
use Rattle.framebuffer.specs.Blocks.{block_colours}
use Rattle.framebuffer.specs.Rows.{parts_of_rows}
use Rattle.framebuffer.specs.Frame.{Frame}
use Rattle.framebuffer.proofs.RowLemmas.{parts_read}
use Rattle.framebuffer.proofs.frame.Framebuffer.read.Goals as goal

pub returns : goal.returns
returns c =
    let b = c.args.block in
    let rows = c.self.inside.rows.items in
    let wide : b.left + b.columns ≤ c.self.inside.width = omega (arith, c.requires.wide, ap (λ (f : Frame). f.width) c.self.view_is) in
    let high : b.top + b.rows ≤ length rows = omega (arith, c.requires.high, ap (λ (f : Frame). f.height) c.self.view_is, c.self.invariant.count) in
    let count : b.top + b.rows - b.top ≡ b.rows = omega arith in
    subst (λ l. IfOk c.gather.result (λ colours. colours.items ≡ l))
    (ap (λ n. parts_of_rows b.left b.columns (take n (drop b.top c.deref.result.now))) count
    ∙ ap (λ l. parts_of_rows b.left b.columns (take b.rows (drop b.top l))) c.deref.ensures.value
    ∙ parts_read c.self.inside.width b rows b.rows wide high c.self.invariant.wide
    ∙ ap (λ (f : Frame). block_colours f.width b f.colours) c.self.view_is)
    c.gather.ensures
