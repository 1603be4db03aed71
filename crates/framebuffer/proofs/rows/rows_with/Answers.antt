use Rattle.std.proofs.Common.{◌≡◌, ℕ, ◌+◌, ◌-◌, ◌*◌, ◌%◌, ◌^◌, ◌++◌, [], ◌∷◌, List, length, map, take, drop, sym, ap, ◌∙◌, arith, length-append, length-take, length-drop}
use Rattle.std.proofs.lemmas.List.{flat_map_more, length-map}
use Rattle.framebuffer.specs.Rows.{row_colours, colours_of_rows, IsOfWidth}
use Rattle.framebuffer.specs.BlockLemmas.{row_given}
use Rattle.framebuffer.proofs.RowLemmas.{all_and_one, masked_more}
use Rattle.framebuffer.proofs.rows.rows_with.Goals as goal

pub loop-i-preserved : goal.loop-i-preserved
loop-i-preserved c =
    let w = c.args.width in
    let i = c.loop-i.i in
    let rows = c.loop-i.rows.items in
    let row = c.in_ok-row_with.field-0 in
    let colours = c.args.colours.now in
    let given = row_given c.args.height w i _ c.requires.whole c.loop-i-test.true in
    let part : List ℕ = take (i * w + w - i * w) (drop (i * w) colours) in
    let size : length part ≡ w = simp (length-take, length-drop) (omega (arith, given)) in
    record {
      count = ap length c.in_ok-push.ensures.items ∙ length-append rows (row ∷ []) ∙ ap (λ n. n + 1) c.loop-i.invariant.count;
      wide = all_and_one (IsOfWidth w) rows _ row c.in_ok-push.ensures.items c.loop-i.invariant.wide (ap length c.in_ok-row_with.ensures.colours ∙ length-map part (λ (k : ℕ). k % 2 ^ 24) ∙ size);
      colours = ap colours_of_rows c.in_ok-push.ensures.items
          ∙ sym (flat_map_more row_colours [] rows row)
          ∙ ap (λ l. colours_of_rows rows ++ l) c.in_ok-row_with.ensures.colours
          ∙ ap (λ l. l ++ map (λ (k : ℕ). k % 2 ^ 24) part) c.loop-i.invariant.colours
          ∙ masked_more i w colours;
    }
