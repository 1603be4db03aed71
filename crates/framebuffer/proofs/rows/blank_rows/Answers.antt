use Rattle.std.proofs.Common.{◌≡◌, ◌+◌, ◌*◌, ◌++◌, [], ◌∷◌, length, sym, ap, ◌∙◌, arith, replicate, length-append}
use Rattle.std.proofs.lemmas.List.{flat_map_more, length-replicate, replicate-append-replicate}
use Rattle.framebuffer.specs.Rows.{row_colours, colours_of_rows, IsOfWidth}
use Rattle.framebuffer.proofs.RowLemmas.{all_and_one}
use Rattle.framebuffer.proofs.rows.blank_rows.Goals as goal

pub loop-i-preserved : goal.loop-i-preserved
loop-i-preserved c =
    let w = c.args.width in
    let rows = c.loop-i.rows.items in
    let row = c.in_ok-blank_row.field-0 in
    record {
      count = ap length c.in_ok-push.ensures.items ∙ length-append rows (row ∷ []) ∙ ap (λ n. n + 1) c.loop-i.invariant.count;
      wide = all_and_one (IsOfWidth w) rows _ row c.in_ok-push.ensures.items c.loop-i.invariant.wide (ap length c.in_ok-blank_row.ensures ∙ length-replicate w 0);
      blank = ap colours_of_rows c.in_ok-push.ensures.items
          ∙ sym (flat_map_more row_colours [] rows row)
          ∙ ap (λ l. colours_of_rows rows ++ l) c.in_ok-blank_row.ensures
          ∙ ap (λ l. l ++ replicate w 0) c.loop-i.invariant.blank
          ∙ replicate-append-replicate (w * c.loop-i._i) w 0
          ∙ ap (λ n. replicate n 0) (let e : w * c.loop-i._i + w ≡ w * (c.loop-i._i + 1) = omega arith in e);
    }
