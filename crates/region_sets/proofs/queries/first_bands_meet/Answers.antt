use Rattle.std.proofs.Common.{◌∙◌, sym, true, false}
use Rattle.region_sets.specs.Queries.{SharePlace}
use Rattle.region_sets.specs.Walks.{FirstsApart}
use Rattle.region_sets.proofs.RowLemmas.{true_false}
use Rattle.region_sets.proofs.BandLemmas.{overlap_at, of_firsts, to_firsts, firsts_share, firsts_rows_apart, firsts_columns_apart}
use Rattle.region_sets.proofs.queries.first_bands_meet.Goals as goal
use Rattle.region_sets.proofs.queries.first_bands_meet.Goals.{then-rows_overlap, else-rows_overlap}

pub returns-clause-yes : goal.returns-clause-yes
returns-clause-yes c = λ found.
    let a = c.args.first.now in
    let b = c.args.second.now in
    elim c.if-rows_overlap.branch as (λ _. SharePlace a.bands b.bands) [
      | then-rows_overlap w ↦ firsts_share a.bands b.bands c.requires.first_are_bands c.requires.second_are_bands
          (overlap_at a.bands b.bands c.first_rows.result c.first_rows-2.result c.rows_overlap.result true c.first_rows.ensures c.first_rows-2.ensures c.rows_overlap.ensures w.if-rows_overlap.true)
          (of_firsts a.bands b.bands a.left b.left c.requires.first_left c.requires.second_left (w.rows_meet-found.ensures.share.0 (sym w.found-is ∙ found)))
      | else-rows_overlap w ↦ absurd (true_false (sym found ∙ w.found-is ∙ w.if-rows_overlap.false))
    ]

pub returns-clause-no : goal.returns-clause-no
returns-clause-no c = λ none.
    let a = c.args.first.now in
    let b = c.args.second.now in
    elim c.if-rows_overlap.branch as (λ _. FirstsApart a.bands b.bands) [
      | then-rows_overlap w ↦ firsts_columns_apart a.bands b.bands
          (λ there. true_false (sym (w.rows_meet-found.ensures.share.1 (to_firsts a.bands b.bands a.left b.left c.requires.first_left c.requires.second_left there)) ∙ sym w.found-is ∙ none))
      | else-rows_overlap w ↦ firsts_rows_apart a.bands b.bands
          (overlap_at a.bands b.bands c.first_rows.result c.first_rows-2.result c.rows_overlap.result false c.first_rows.ensures c.first_rows-2.ensures c.rows_overlap.ensures w.if-rows_overlap.false)
    ]
