-- What the walk over two readers' rows has made so far.
use Rattle.std.proofs.Common.{◌≡◌, ◌≢◌, Bool, false, List, [], refl, sym, ◌∙◌, ap, subst, Some, None}
use Rattle.std.specs.Prelude.{ℤ, ◌<ℤ◌, slice_get}
use Rattle.region_bands.specs.declared.Interval.{Interval}
use Rattle.region_bands.specs.Bands.{Bands, Reading}
use Rattle.region_rows.specs.declared.Keep.{Keep}
use Rattle.region_rows.specs.declared.steps.Step.{Step}
use Rattle.region_rows.specs.Rows.{IsRow, keeps_place, IsKept}
use Rattle.region_rows.specs.Steps.{next_step, start_of, later, closed}
use Rattle.region_rows.specs.StepLemmas.{starts, no_step}
use Rattle.region_rows.specs.WalkLemmas.{span, RowState, row_begins, step_at, stepped_on, stepped_turn, state_done}

pub record Merged (k : Keep) (old now : Bands) (a left b right : Reading) (on : Bool) (from x : ℤ) : Type 0 where
  pub state : RowState k a.left b.left now.row on from x left.left right.left
  pub same : now ≡ record old { row = now.row; spare = now.spare }
  pub left_is : left ≡ record a { left = left.left }
  pub right_is : right ≡ record b { left = right.left }

pub merge_begins : (k : Keep) (old : Bands) (a b : Reading) (x : ℤ) → old.row ≡ [] → IsRow a.left → IsRow b.left → x ≡ start_of (slice_get a.left 0) (slice_get b.left 0) → Merged k old old a a b b false x x
merge_begins k old a b x none row_a row_b is =
    let start = starts a.left b.left row_a row_b in
    let P : ℤ → Type 0 = λ n. RowState k a.left b.left [] false n n a.left b.left in
    let R : List Interval → Type 0 = λ l. RowState k a.left b.left l false x x a.left b.left in
    record {
      state = subst R (sym none) (subst P (sym is) (row_begins k a.left b.left (start_of (slice_get a.left 0) (slice_get b.left 0)) row_a row_b start.0 start.1));
      same = refl;
      left_is = refl;
      right_is = refl;
    }

module _ (k : Keep) (old now : Bands) (a left b right : Reading) (on : Bool) (from x : ℤ) (merged : Merged k old now a left b right on from x) where
  merged_at : (w w' : Bands) (p p' q q' : Reading) (on on' : Bool) (from from' x x' : ℤ) → w' ≡ w → p' ≡ p → q' ≡ q → on' ≡ on → from' ≡ from → x' ≡ x → Merged k old w a p b q on from x → Merged k old w' a p' b q' on' from' x'
  merged_at w w' p p' q q' on on' from from' x x' e f g h i j m =
      let A : Bands → Type 0 = λ u. Merged k old u a p b q on from x in
      let B : Reading → Type 0 = λ u. Merged k old w' a u b q on from x in
      let C : Reading → Type 0 = λ u. Merged k old w' a p' b u on from x in
      let D : Bool → Type 0 = λ u. Merged k old w' a p' b q' u from x in
      let E : ℤ → Type 0 = λ u. Merged k old w' a p' b q' on' u x in
      let F : ℤ → Type 0 = λ u. Merged k old w' a p' b q' on' from' u in
      subst F (sym j) (subst E (sym i) (subst D (sym h) (subst C (sym g) (subst B (sym f) (subst A (sym e) m)))))

  pub merge_after : (s : Step) → next_step x (slice_get left.left 0) (slice_get right.left 0) ≡ Some s → x <ℤ s.edge
  merge_after s is = (step_at k a.left b.left now.row on from x left.left right.left merged.state s is).edge_a.after

  pub merge_on : (s : Step) (w : Bands) (p q : Reading) (on' : Bool) (from' x' : ℤ) → next_step x (slice_get left.left 0) (slice_get right.left 0) ≡ Some s → keeps_place k s.in_first s.in_second ≡ on
      → w ≡ now → p ≡ record left { left = later s.edge left.left } → q ≡ record right { left = later s.edge right.left } → on' ≡ on → from' ≡ from → x' ≡ s.edge → Merged k old w a p b q on' from' x'
  merge_on s w p q on' from' x' is same w_is p_is q_is on_is from_is x_is =
      merged_at now w (record left { left = later s.edge left.left }) p (record right { left = later s.edge right.left }) q on on' from from' s.edge x' w_is p_is q_is on_is from_is x_is (record {
        state = stepped_on k a.left b.left now.row on from x left.left right.left merged.state s (step_at k a.left b.left now.row on from x left.left right.left merged.state s is) same;
        same = merged.same;
        left_is = ap (λ (u : Reading). record u { left = later s.edge left.left }) merged.left_is;
        right_is = ap (λ (u : Reading). record u { left = later s.edge right.left }) merged.right_is;
      })

  pub merge_turn : (s : Step) (c w : Bands) (p q : Reading) (on' : Bool) (from' x' : ℤ) → next_step x (slice_get left.left 0) (slice_get right.left 0) ≡ Some s → keeps_place k s.in_first s.in_second ≢ on
      → c ≡ record now { row = closed on (span from x) now.row; spare = c.spare }
      → w ≡ c → p ≡ record left { left = later s.edge left.left } → q ≡ record right { left = later s.edge right.left } → on' ≡ keeps_place k s.in_first s.in_second → from' ≡ x → x' ≡ s.edge → Merged k old w a p b q on' from' x'
  merge_turn s c w p q on' from' x' is differs c_is w_is p_is q_is on_is from_is x_is =
      merged_at (record now { row = closed on (span from x) now.row; spare = c.spare }) w (record left { left = later s.edge left.left }) p (record right { left = later s.edge right.left }) q (keeps_place k s.in_first s.in_second) on' x from' s.edge x'
      (w_is ∙ c_is) p_is q_is on_is from_is x_is (record {
        state = stepped_turn k a.left b.left now.row on from x left.left right.left merged.state s (step_at k a.left b.left now.row on from x left.left right.left merged.state s is) differs;
        same = ap (λ (u : Bands). record u { row = closed on (span from x) now.row; spare = c.spare }) merged.same;
        left_is = ap (λ (u : Reading). record u { left = later s.edge left.left }) merged.left_is;
        right_is = ap (λ (u : Reading). record u { left = later s.edge right.left }) merged.right_is;
      })

  -- the bands are the same but for the row, whatever came of the last interval
  pub merge_same : (c : Bands) (row : List Interval) → c ≡ record now { row = row; spare = c.spare } → c ≡ record old { row = c.row; spare = c.spare }
  merge_same c row c_is =
      let row_is : c.row ≡ row = ap (λ (u : Bands). u.row) c_is in
      c_is ∙ ap (λ (u : Bands). record u { row = row; spare = c.spare }) merged.same ∙ ap (λ l. record old { row = l; spare = c.spare }) (sym row_is)

  pub merge_done : (c : Bands) → next_step x (slice_get left.left 0) (slice_get right.left 0) ≡ None → c ≡ record now { row = closed on (span from x) now.row; spare = c.spare }
      → IsKept k a.left b.left c.row
  merge_done c is c_is =
      let row_is : c.row ≡ closed on (span from x) now.row = ap (λ u. u.row) c_is in
      subst (IsKept k a.left b.left) (sym row_is) (state_done k a.left b.left now.row on from x left.left right.left merged.state is)

  pub merge_read : next_step x (slice_get left.left 0) (slice_get right.left 0) ≡ None → (left ≡ record a { left = [] }) × (right ≡ record b { left = [] })
  merge_read is =
      let ends = no_step x left.left right.left is in
      (merged.left_is ∙ ap (λ l. record a { left = l }) ends.0, merged.right_is ∙ ap (λ l. record b { left = l }) ends.1)
