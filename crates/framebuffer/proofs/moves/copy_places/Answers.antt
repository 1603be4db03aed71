use Rattle.std.proofs.Common.{◌≡◌, ◌+◌, ◌-◌, take, drop, ap, ◌∙◌, arith}
use Rattle.framebuffer.proofs.RowLemmas.{places_copied}
use Rattle.framebuffer.proofs.moves.copy_places.Goals as goal

pub returns-clause-colours : goal.returns-clause-colours
returns-clause-colours c =
    let from = c.args.from in
    let to = c.args.to in
    let n = c.args.count in
    let columns : from.column + n - from.column ≡ n = omega arith in
    places_copied c.args.width c.args.rows.now from.row from.column to.row to.column n c.copy_in_row.new.row c.index-rows-to.result c.index-rows-from.result c.copy_from_slice.new.self
    c.requires.wide c.requires.from c.requires.from_wide c.requires.to c.requires.to_wide
    (c.copy_from_slice.ensures.after ∙ ap (λ k. take k (drop from.column c.colours_of-source.result.now)) columns ∙ ap (λ l. take n (drop from.column l)) (c.colours_of-source.ensures))
    c.copy_in_row.ensures.colours
