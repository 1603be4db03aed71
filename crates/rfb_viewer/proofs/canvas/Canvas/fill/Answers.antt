use Rattle.std.proofs.Common.{◌≡◌, length, drop, ap, ◌∙◌}
use Rattle.std.proofs.lemmas.List.{take_at}
use Rattle.std.specs.Vec.{with_items}
use Rattle.rfb_viewer.specs.Canvas.{Dots, dot_at, filled, row_filled}
use Rattle.rfb_viewer.proofs.Places.{block_filled}
use Rattle.rfb_viewer.proofs.canvas.Canvas.fill.Goals as goal

pub returns-clause-dots : goal.returns-clause-dots
returns-clause-dots c x y =
    let before : Dots = record { columns = c.self.inside.columns; rows = c.self.inside.rows; dots = c.self.inside.dots.items } in
    let items : (with_items c.self.inside.dots c.fill_rows.new.dots).items ≡ c.fill_rows.new.dots = take_at c.fill_rows.new.dots (drop (length c.fill_rows.new.dots) c.self.inside.dots.items) _ (c.fill_rows.ensures.size ∙ c.deref_mut.ensures.len) in
    let same : before ≡ c.args.self.now = search in
    ap (λ l. dot_at (record before { dots = l }) x y) items
    ∙ block_filled before c.args.block c.args.dot c.cut-across.result c.cut-down.result c.fill_rows.new.dots (search) (search) (search) (search)
    (λ y x right. c.fill_rows.ensures.dots y x right ∙ ap (λ l. row_filled c.self.inside.columns c.cut-across.result c.cut-down.result c.args.dot l y x) (search)) x y
    ∙ ap (λ d. filled d c.args.block c.args.dot x y) same
