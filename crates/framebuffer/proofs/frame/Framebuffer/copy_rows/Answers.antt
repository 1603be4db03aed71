use Rattle.std.proofs.Common.{◌≡◌, ℕ, ◌+◌, ◌≤◌, List, length, map, take, drop, sym, ap, ◌∙◌, subst, arith, All}
use Rattle.std.proofs.lemmas.List.{take_at}
use Rattle.framebuffer.specs.declared.blocks.Block.{Block}
use Rattle.framebuffer.specs.Rows.{row_colours, IsOfWidth, HasRows, frame_of}
use Rattle.framebuffer.specs.Moves.{rows_copied}
use Rattle.framebuffer.specs.Frame.{Frame}
use Rattle.framebuffer.proofs.FrameLemmas.{rows_kept, frame_kept, rows_put, parts_wide, parts_count, on_err}
use Rattle.framebuffer.proofs.ScrollLemmas.{rows_shared}
use Rattle.framebuffer.proofs.frame.Framebuffer.copy_rows.Goals as goal

pub invariant_of-self : goal.invariant_of-self
invariant_of-self c =
    subst (HasRows c.self.inside.width c.self.inside.height) (sym (take_at c.share_rows.new.rows (drop (length c.share_rows.new.rows) c.self.inside.rows.items) _ (c.share_rows.auto.rows ∙ c.deref_mut.ensures.len)))
    (rows_kept c.self.inside.width c.self.inside.height c.self.inside.rows.items c.share_rows.new.rows (c.share_rows.ensures.same ∙ ap (map row_colours) c.deref_mut.ensures.value) c.self.invariant)

pub returns-in_err-rows-clause-err : goal.returns-in_err-rows-clause-err
returns-in_err-rows-clause-err c =
    on_err _ _ (ap (frame_of c.self.inside.width c.self.inside.height) (take_at c.share_rows.new.rows (drop (length c.share_rows.new.rows) c.self.inside.rows.items) _ (c.share_rows.auto.rows ∙ c.deref_mut.ensures.len))
    ∙ frame_kept c.self.inside.width c.self.inside.height c.self.inside.rows.items c.share_rows.new.rows (c.share_rows.ensures.same ∙ ap (map row_colours) c.deref_mut.ensures.value) ∙ c.self.view_is)

pub invariant_of-self-2 : goal.invariant_of-self-2
invariant_of-self-2 c =
    let w = c.self.inside.width in
    let h = c.self.inside.height in
    let old = c.self.inside.rows.items in
    let mid = c.deref_mut-2.result.now in
    let others = c.in_ok-rows.rows.items in
    let shared : mid ≡ c.share_rows.new.rows = c.deref_mut-2.ensures.value ∙ take_at c.share_rows.new.rows (drop (length c.share_rows.new.rows) old) _ (c.share_rows.auto.rows ∙ c.deref_mut.ensures.len) in
    let same : map row_colours mid ≡ map row_colours old = ap (map row_colours) shared ∙ c.share_rows.ensures.same ∙ ap (map row_colours) c.deref_mut.ensures.value in
    let tall = ap (λ (f : Frame). f.height) c.self.view_is in
    let block : Block = record { left = 0; top = c.args.from; columns = 0; rows = c.args.count } in
    let from : c.args.from + c.args.count ≤ h = omega (arith, c.requires.from, tall) in
    let are : map row_colours others ≡ take c.args.count (drop c.args.from (map row_colours old)) = c.in_ok-rows.ensures.shared ∙ ap (λ l. take c.args.count (drop c.args.from (map row_colours l))) c.deref_mut.ensures.value in
    let wide : All (IsOfWidth w) others = parts_wide w h block old others c.self.invariant (omega arith) from are in
    let count : length others ≡ c.args.count = parts_count w h block old others c.self.invariant (omega arith) from are in
    let has : HasRows w h mid = rows_kept w h old mid same c.self.invariant in
    subst (HasRows w h) (sym (take_at c.put_rows.new.rows (drop (length c.put_rows.new.rows) _) _ (c.put_rows.auto.rows ∙ c.deref_mut-2.ensures.len) ∙ c.put_rows.ensures))
    (rows_put w h c.args.to mid others has wide (omega (arith, count, has.count, c.requires.to, tall)))

pub returns-clause-ok : goal.returns-clause-ok
returns-clause-ok c =
    let w = c.self.inside.width in
    let h = c.self.inside.height in
    let old = c.self.inside.rows.items in
    let mid = c.deref_mut-2.result.now in
    let others = c.in_ok-rows.rows.items in
    let shared : mid ≡ c.share_rows.new.rows = c.deref_mut-2.ensures.value ∙ take_at c.share_rows.new.rows (drop (length c.share_rows.new.rows) old) _ (c.share_rows.auto.rows ∙ c.deref_mut.ensures.len) in
    let same : map row_colours mid ≡ map row_colours old = ap (map row_colours) shared ∙ c.share_rows.ensures.same ∙ ap (map row_colours) c.deref_mut.ensures.value in
    let tall = ap (λ (f : Frame). f.height) c.self.view_is in
    let block : Block = record { left = 0; top = c.args.from; columns = 0; rows = c.args.count } in
    let from : c.args.from + c.args.count ≤ h = omega (arith, c.requires.from, tall) in
    let are : map row_colours others ≡ take c.args.count (drop c.args.from (map row_colours old)) = c.in_ok-rows.ensures.shared ∙ ap (λ l. take c.args.count (drop c.args.from (map row_colours l))) c.deref_mut.ensures.value in
    let count : length others ≡ c.args.count = parts_count w h block old others c.self.invariant (omega arith) from are in
    let has : HasRows w h mid = rows_kept w h old mid same c.self.invariant in
    ap (frame_of w h) (take_at c.put_rows.new.rows (drop (length c.put_rows.new.rows) _) _ (c.put_rows.auto.rows ∙ c.deref_mut-2.ensures.len) ∙ c.put_rows.ensures)
    ∙ ap (with_colours w h) (rows_shared w old mid others c.args.from c.args.to c.args.count c.self.invariant.wide (omega (arith, from, c.self.invariant.count)) (omega (arith, c.requires.to, tall, c.self.invariant.count)) same are has.wide count)
    ∙ ap (copied_in c.args.from c.args.to c.args.count) c.self.view_is
  where
    with_colours : ℕ → ℕ → List ℕ → Frame
    with_colours w h l = record { width = w; height = h; colours = l }

    copied_in : ℕ → ℕ → ℕ → Frame → Frame
    copied_in from to count f = record f { colours = rows_copied f.width from to count f.colours }
