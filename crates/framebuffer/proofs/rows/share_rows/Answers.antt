use Rattle.std.proofs.Common.{◌+◌, ◌<◌, ◌++◌, [], ◌∷◌, length, map, take, drop, get_or, sym, ap, ◌∙◌, arith}
use Rattle.std.proofs.Math.Seq.{map-set_same}
use Rattle.std.proofs.lemmas.List.{get_or-map, get_or-drop, length-map, length-drop, map-append, take_more}
use Rattle.framebuffer.specs.Rows.{row_colours}
use Rattle.framebuffer.proofs.rows.share_rows.Goals as goal

pub returns-in_err-share-clause-same : goal.returns-in_err-share-clause-same
returns-in_err-share-clause-same c =
    map-set_same row_colours c.loop-i.rows (c.args.from + c.loop-i.i) c.share.new.row c.index-rows-from.result c.share.ensures.same ∙ c.loop-i.invariant.same

pub returns-in_err-push-clause-same : goal.returns-in_err-push-clause-same
returns-in_err-push-clause-same c =
    map-set_same row_colours c.loop-i.rows (c.args.from + c.loop-i.i) c.share.new.row c.index-rows-from.result c.share.ensures.same ∙ c.loop-i.invariant.same

pub loop-i-preserved : goal.loop-i-preserved
loop-i-preserved c =
    let from = c.args.from in
    let i = c.loop-i.i in
    let now = c.in_ok-share.field-0 in
    let shared = c.loop-i.shared.items in
    let all = map row_colours c.args.rows.now in
    let inside : from + i < length c.loop-i.rows = omega (arith, c.loop-i.auto.rows, c.requires, c.loop-i-test.true) in
    let long : i < length (drop from all) = omega (arith, length-drop from all, length-map c.args.rows.now row_colours, c.requires, c.loop-i-test.true) in
    record {
      same = map-set_same row_colours c.loop-i.rows (from + i) c.share.new.row c.index-rows-from.result c.share.ensures.same ∙ c.loop-i.invariant.same;
      shared = ap (map row_colours) c.in_ok-push.ensures.items
          ∙ map-append row_colours shared (now ∷ [])
          ∙ ap (λ l. l ++ row_colours now ∷ []) c.loop-i.invariant.shared
          ∙ ap (λ x. take i (drop from all) ++ x ∷ []) (c.in_ok-share.ensures.shared ∙ sym (get_or-map row_colours c.loop-i.rows (from + i) c.index-rows-from.result [] inside)
          ∙ ap (λ l. get_or l (from + i) []) c.loop-i.invariant.same ∙ sym (get_or-drop from all i []))
          ∙ sym (take_more (drop from all) i [] long);
    }
