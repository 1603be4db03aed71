use Rattle.std.proofs.Common.{◌≡◌, ℕ, ◌+◌, ◌≤◌, ◌++◌, List, length, take, drop, ap, ◌∙◌, sym, subst, arith}
use Rattle.std.proofs.lemmas.List.{take_at}
use Rattle.framebuffer.specs.declared.blocks.Block.{Block}
use Rattle.framebuffer.specs.declared.rows.Row.{Row}
use Rattle.framebuffer.specs.Blocks.{block_rect}
use Rattle.framebuffer.specs.Picture.{written}
use Rattle.framebuffer.specs.Rows.{HasRows, frame_of}
use Rattle.framebuffer.specs.Frame.{Frame}
use Rattle.framebuffer.proofs.RowLemmas.{whole_written}
use Rattle.framebuffer.proofs.FrameLemmas.{rows_put, frame_written}
use Rattle.framebuffer.proofs.frame.Framebuffer.put_whole_rows.Goals as goal

pub invariant_of-self-2 : goal.invariant_of-self-2
invariant_of-self-2 c =
    let w = c.self.inside.width in
    let h = c.self.inside.height in
    let b = c.args.block in
    let old = c.self.inside.rows.items in
    let others = c.in_ok-rows.rows.items in
    let now : List Row = take b.top old ++ (others ++ drop (b.top + length others) old) in
    let is : c.exchange_rows.new.rows ≡ now = c.exchange_rows.ensures ∙ ap (λ l. take b.top l ++ (others ++ drop (b.top + length others) l)) c.deref_mut-2.ensures.value in
    let wide : b.columns ≡ w = c.requires.wide ∙ sym (ap (λ (f : Frame). f.width) c.self.view_is) in
    let high : b.top + b.rows ≤ length old = omega (arith, c.requires.high, ap (λ (f : Frame). f.height) c.self.view_is, c.self.invariant.count) in
    subst (HasRows w h) (sym (take_at c.exchange_rows.new.rows (drop (length c.exchange_rows.new.rows) old) _ (c.exchange_rows.auto.rows ∙ c.deref_mut-2.ensures.len) ∙ is))
    (rows_put w h b.top old others c.self.invariant (λ k d below. c.in_ok-rows.ensures.wide k d below ∙ wide) (omega (arith, c.in_ok-rows.ensures.count, high)))

pub returns-clause-ok : goal.returns-clause-ok
returns-clause-ok c =
    let w = c.self.inside.width in
    let h = c.self.inside.height in
    let b = c.args.block in
    let old = c.self.inside.rows.items in
    let others = c.in_ok-rows.rows.items in
    let now : List Row = take b.top old ++ (others ++ drop (b.top + length others) old) in
    let is : c.exchange_rows.new.rows ≡ now = c.exchange_rows.ensures ∙ ap (λ l. take b.top l ++ (others ++ drop (b.top + length others) l)) c.deref_mut-2.ensures.value in
    let count : length others ≡ b.rows = c.in_ok-rows.ensures.count in
    let wide : b.columns ≡ w = c.requires.wide ∙ sym (ap (λ (f : Frame). f.width) c.self.view_is) in
    let high : b.top + b.rows ≤ length old = omega (arith, c.requires.high, ap (λ (f : Frame). f.height) c.self.view_is, c.self.invariant.count) in
    let fits : b.top + length others ≤ length old = omega (arith, count, high) in
    ap (frame_of w h) (take_at c.exchange_rows.new.rows (drop (length c.exchange_rows.new.rows) old) _ (c.exchange_rows.auto.rows ∙ c.deref_mut-2.ensures.len) ∙ is)
    ∙ frame_written w h b c.args.colours.now old now c.self.invariant (rows_put w h b.top old others c.self.invariant (λ k d below. c.in_ok-rows.ensures.wide k d below ∙ wide) fits)
    (whole_written w b c.args.colours.now old others c.requires.left wide count high c.self.invariant.wide c.requires.whole c.in_ok-rows.ensures.colours)
    ∙ ap (written_in b c.args.colours.now) c.self.view_is
  where
    written_in : Block → List ℕ → Frame → Frame
    written_in b colours f = record f { colours = written f.width f.height (block_rect b) colours f.colours }
