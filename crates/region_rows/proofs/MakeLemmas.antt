-- What the loops over rows have made, counted and copied so far.
use Rattle.std.proofs.Common.{◌≡◌, ◌≢◌, ℕ, ◌+◌, ◌*◌, ◌≤◌, ◌<◌, Bool, true, false, cond, List, [], ◌∷◌, ◌++◌, length, refl, sym, ◌∙◌, ap, subst, arith, Option, Some, None, is_some}
use borrow.Author.Differences.{up, down}
use Rattle.std.specs.Prelude.{ℤ, pos, negsuc, ◌+ℤ◌, ◌-ℤ◌, ◌<ℤ◌, ◌≤ℤ◌, slice_get, not, ◌&&◌}
use Rattle.std.proofs.lemmas.Int.{ints}
use Rattle.std.proofs.lemmas.List.{length-append, append_assoc, append-nil}
use Rattle.std.proofs.lemmas.Option.{same_Some}
use Rattle.region_bands.specs.declared.Interval.{Interval}
use Rattle.region_bands.specs.Bands.{Bands, Reading}
use Rattle.region_rows.specs.declared.Keep.{Keep}
use Rattle.region_rows.specs.declared.steps.Step.{Step}
use Rattle.region_rows.specs.Rows.{IsRow, keeps_place, IsKept}
use Rattle.region_rows.specs.Steps.{next_step, start_of, later, closed}
use Rattle.region_rows.specs.StepLemmas.{ends_left, starts, no_step}
use Rattle.region_rows.specs.WalkLemmas.{span, length-closed, RowState, row_begins, step_at, stepped_on, stepped_turn, state_done, Whole, whole, only_kept, by_same}

at_one : (b : Bool) → b ≡ true → 1 ≤ cond b 1 0
at_one true e = omega arith
at_one false e = absurd (no e)
  where
    no : false ≡ true → ⊥
    no e = cc

-- an edge further on leaves less to walk
up_of : (z : ℤ) → pos 0 ≤ℤ z → down z ≡ 0
up_of (pos n) h = refl
up_of (negsuc n) h = absurd (no n h)
  where
    no : (n : ℕ) → pos 0 ≤ℤ negsuc n → ⊥
    no n h = omega (arith, ints, h)

pub nearer_end : (x edge : ℤ) → x <ℤ edge → edge ≤ℤ pos 2147483648 → up (pos 2147483648 -ℤ edge) < up (pos 2147483648 -ℤ x)
nearer_end x edge less room = omega (arith, ints, up_of (pos 2147483648 -ℤ edge) (omega (arith, ints)), up_of (pos 2147483648 -ℤ x) (omega (arith, ints)))

-- the step is that from the two rows' first intervals
pub from_firsts : (x : ℤ) (a b : List Interval) (first second : Option Interval) (found t : Option Step) → first ≡ slice_get a 0 → second ≡ slice_get b 0 → found ≡ next_step x first second → found ≡ t → next_step x (slice_get a 0) (slice_get b 0) ≡ t
from_firsts x a b first second found t e f g h = ap (λ u. next_step x u (slice_get b 0)) (sym e) ∙ ap (next_step x first) (sym f) ∙ sym g ∙ h

pub start_from : (a b : List Interval) (first second : Option Interval) (x : ℤ) → first ≡ slice_get a 0 → second ≡ slice_get b 0 → x ≡ start_of first second → x ≡ start_of (slice_get a 0) (slice_get b 0)
start_from a b first second x e f g = g ∙ ap (λ u. start_of u second) e ∙ ap (start_of (slice_get a 0)) f

-- ---- the row that is made

pub record Made (k : Keep) (old now : Bands) (other left : Reading) (on : Bool) (from x : ℤ) : Type 0 where
  pub state : RowState k old.left other.left now.row on from x now.left left.left
  pub spare : old.spare ≤ now.spare + length now.row
  pub same : now ≡ record old { row = now.row; left = now.left; spare = now.spare }
  pub read : left ≡ record other { left = left.left }

pub made_begins : (k : Keep) (old : Bands) (other : Reading) (x : ℤ) → old.row ≡ [] → IsRow old.left → IsRow other.left → x ≡ start_of (slice_get old.left 0) (slice_get other.left 0) → Made k old old other other false x x
made_begins k old other x none row_a row_b is =
    let start = starts old.left other.left row_a row_b in
    let P : ℤ → Type 0 = λ n. RowState k old.left other.left [] false n n old.left other.left in
    let R : List Interval → Type 0 = λ l. RowState k old.left other.left l false x x old.left other.left in
    record {
      state = subst R (sym none) (subst P (sym is) (row_begins k old.left other.left (start_of (slice_get old.left 0) (slice_get other.left 0)) row_a row_b start.0 start.1));
      spare = omega arith;
      same = refl;
      read = refl;
    }

-- what a call has made of the bands, and where the loop then stands
module _ (k : Keep) (old now : Bands) (other left : Reading) (on : Bool) (from x : ℤ) (made : Made k old now other left on from x) where
  made_at : (w w' : Bands) (p p' : Reading) (on on' : Bool) (from from' x x' : ℤ) → w' ≡ w → p' ≡ p → on' ≡ on → from' ≡ from → x' ≡ x → Made k old w other p on from x → Made k old w' other p' on' from' x'
  made_at w w' p p' on on' from from' x x' a b c d e m =
      let A : Bands → Type 0 = λ u. Made k old u other p on from x in
      let B : Reading → Type 0 = λ u. Made k old w' other u on from x in
      let C : Bool → Type 0 = λ u. Made k old w' other p' u from x in
      let D : ℤ → Type 0 = λ u. Made k old w' other p' on' u x in
      let E : ℤ → Type 0 = λ u. Made k old w' other p' on' from' u in
      subst E (sym e) (subst D (sym d) (subst C (sym c) (subst B (sym b) (subst A (sym a) m))))

  pub made_on : (s : Step) (v w : Bands) (p : Reading) (on' : Bool) (from' x' : ℤ) → next_step x (slice_get now.left 0) (slice_get left.left 0) ≡ Some s → keeps_place k s.in_first s.in_second ≡ on
      → v ≡ now → w ≡ record v { left = later s.edge v.left } → p ≡ record left { left = later s.edge left.left } → on' ≡ on → from' ≡ from → x' ≡ s.edge → Made k old w other p on' from' x'
  made_on s v w p on' from' x' is same v_is w_is p_is on_is from_is x_is =
      made_at (record now { left = later s.edge now.left }) w (record left { left = later s.edge left.left }) p on on' from from' s.edge x'
      (w_is ∙ ap (λ (u : Bands). record u { left = later s.edge u.left }) v_is) p_is on_is from_is x_is (record {
        state = stepped_on k old.left other.left now.row on from x now.left left.left made.state s (step_at k old.left other.left now.row on from x now.left left.left made.state s is) same;
        spare = made.spare;
        same = ap (λ (u : Bands). record u { left = later s.edge now.left }) made.same;
        read = ap (λ (u : Reading). record u { left = later s.edge left.left }) made.read;
      })

  pub made_turn : (s : Step) (c v w : Bands) (p : Reading) (on' : Bool) (from' x' : ℤ) → next_step x (slice_get now.left 0) (slice_get left.left 0) ≡ Some s → keeps_place k s.in_first s.in_second ≢ on
      → now.spare ≤ c.spare + cond on 1 0 → c ≡ record now { row = closed on (span from x) now.row; spare = c.spare }
      → v ≡ c → w ≡ record v { left = later s.edge v.left } → p ≡ record left { left = later s.edge left.left } → on' ≡ keeps_place k s.in_first s.in_second → from' ≡ x → x' ≡ s.edge → Made k old w other p on' from' x'
  made_turn s c v w p on' from' x' is differs c_spare c_is v_is w_is p_is on_is from_is x_is =
      made_at (record now { row = closed on (span from x) now.row; left = later s.edge now.left; spare = c.spare }) w (record left { left = later s.edge left.left }) p (keeps_place k s.in_first s.in_second) on' x from' s.edge x'
      (w_is ∙ ap (λ (u : Bands). record u { left = later s.edge u.left }) (v_is ∙ c_is)) p_is on_is from_is x_is (record {
        state = stepped_turn k old.left other.left now.row on from x now.left left.left made.state s (step_at k old.left other.left now.row on from x now.left left.left made.state s is) differs;
        spare = omega (arith, made.spare, c_spare, length-closed on (span from x) now.row);
        same = ap (λ (u : Bands). record u { row = closed on (span from x) now.row; left = later s.edge now.left; spare = c.spare }) made.same;
        read = ap (λ (u : Reading). record u { left = later s.edge left.left }) made.read;
      })

  pub step_after : (s : Step) → next_step x (slice_get now.left 0) (slice_get left.left 0) ≡ Some s → x <ℤ s.edge
  step_after s is = (step_at k old.left other.left now.row on from x now.left left.left made.state s is).edge_a.after

  -- there is room for the interval that is open
  pub made_room : ((row : List Interval) → IsKept k old.left other.left row → length row ≤ old.spare) → on ≡ true → 1 ≤ now.spare
  made_room room is_open =
      let w : Whole k old.left other.left now.row on (ends_left x now.left + ends_left x left.left) = whole k old.left other.left now.row on from x now.left left.left made.state in
      let one : 1 ≤ cond on 1 0 = at_one on is_open in
      omega (arith, room w.final w.is_kept, w.more, made.spare, one)

  pub made_done : (c : Bands) → next_step x (slice_get now.left 0) (slice_get left.left 0) ≡ None → now.spare ≤ c.spare + cond on 1 0 → c ≡ record now { row = closed on (span from x) now.row; spare = c.spare }
      → IsKept k old.left other.left c.row × (old.spare ≤ c.spare + length c.row) × (c ≡ record old { row = c.row; left = []; spare = c.spare }) × (left ≡ record other { left = [] })
  made_done c is c_spare c_is =
      let ends = no_step' is in
      let row_is : c.row ≡ closed on (span from x) now.row = ap (λ u. u.row) c_is in (
        subst (IsKept k old.left other.left) (sym row_is) (state_done k old.left other.left now.row on from x now.left left.left made.state is),
        omega (arith, made.spare, c_spare, length-closed on (span from x) now.row, ap length row_is),
        c_is ∙ ap (λ (u : Bands). record u { row = closed on (span from x) now.row; spare = c.spare }) made.same ∙ ap (λ l. record old { row = closed on (span from x) now.row; left = l; spare = c.spare }) ends.0 ∙ ap (λ l. record old { row = l; left = []; spare = c.spare }) (sym row_is),
        made.read ∙ ap (λ l. record other { left = l }) ends.1,
      )
    where
      no_step' : next_step x (slice_get now.left 0) (slice_get left.left 0) ≡ None → (now.left ≡ []) × (left.left ≡ [])
      no_step' is = no_step x now.left left.left is

-- ---- the count

stay_few : (keeps on : Bool) (from x e : ℤ) (n m : ℕ) → keeps ≡ on → x <ℤ e → m ≤ n → pos (2 * n) ≤ℤ (cond on from x +ℤ pos 2147483648) → pos (2 * m) ≤ℤ (cond keeps from e +ℤ pos 2147483648)
stay_few true true from x e n m same after is few = omega (arith, ints, is, few)
stay_few false false from x e n m same after is few = omega (arith, ints, after, is, few)
stay_few true false from x e n m same after is few = absurd (let clash : true ≡ false = same in cc)
stay_few false true from x e n m same after is few = absurd (let clash : false ≡ true = same in cc)

turn_few : (keeps on : Bool) (from x e : ℤ) (n m : ℕ) → keeps ≢ on → x <ℤ e → (on ≡ true → from <ℤ x) → m ≤ n + cond on 1 0 → pos (2 * n) ≤ℤ (cond on from x +ℤ pos 2147483648) → pos (2 * m) ≤ℤ (cond keeps x e +ℤ pos 2147483648)
turn_few true true from x e n m other after some is few = absurd (other refl)
turn_few false false from x e n m other after some is few = absurd (other refl)
turn_few true false from x e n m other after some is few = omega (arith, ints, is, few)
turn_few false true from x e n m other after some is few = let open_before : from <ℤ x = some refl in omega (arith, ints, open_before, after, is, few)

end_few : (on : Bool) (from x : ℤ) (n m : ℕ) → (on ≡ true → from <ℤ x) → x ≤ℤ pos 2147483647 → m ≡ n + cond on 1 0 → pos (2 * n) ≤ℤ (cond on from x +ℤ pos 2147483648) → m ≤ 2147483648
end_few true from x n m some room is few = let open_before : from <ℤ x = some refl in omega (arith, ints, open_before, room, is, few)
end_few false from x n m some room is few = omega (arith, ints, room, is, few)

pub record Counted (k : Keep) (a b left right : Reading) (on : Bool) (x : ℤ) (count : ℕ) : Type 0 where
  pub row : List Interval
  pub from : ℤ
  pub state : RowState k a.left b.left row on from x left.left right.left
  pub is : count ≡ length row
  -- each interval that counts has a column before x
  pub few : pos count ≤ℤ (x +ℤ pos 2147483648)
  -- and with the column behind it two
  pub fewer : pos (2 * count) ≤ℤ (cond on from x +ℤ pos 2147483648)
  pub left_is : left ≡ record a { left = left.left }
  pub right_is : right ≡ record b { left = right.left }

pub counted_begins : (k : Keep) (a b : Reading) (x : ℤ) (count : ℕ) → IsRow a.left → IsRow b.left → x ≡ start_of (slice_get a.left 0) (slice_get b.left 0) → negsuc 2147483647 ≤ℤ x → count ≡ 0 → Counted k a b a b false x count
counted_begins k a b x count row_a row_b is low none =
    let start = starts a.left b.left row_a row_b in
    let P : ℤ → Type 0 = λ n. RowState k a.left b.left [] false n n a.left b.left in
    record {
      row = [];
      from = x;
      state = subst P (sym is) (row_begins k a.left b.left (start_of (slice_get a.left 0) (slice_get b.left 0)) row_a row_b start.0 start.1);
      is = none;
      few = omega (arith, ints, low, none);
      fewer = omega (arith, ints, low, none);
      left_is = refl;
      right_is = refl;
    }

module _ (k : Keep) (a b left right : Reading) (on : Bool) (x : ℤ) (count : ℕ) (counted : Counted k a b left right on x count) where
  counted_at : (p p' q q' : Reading) (on on' : Bool) (x x' : ℤ) (n n' : ℕ) → p' ≡ p → q' ≡ q → on' ≡ on → x' ≡ x → n' ≡ n → Counted k a b p q on x n → Counted k a b p' q' on' x' n'
  counted_at p p' q q' on on' x x' n n' e f g h i m =
      let A : Reading → Type 0 = λ u. Counted k a b u q on x n in
      let B : Reading → Type 0 = λ u. Counted k a b p' u on x n in
      let C : Bool → Type 0 = λ u. Counted k a b p' q' u x n in
      let D : ℤ → Type 0 = λ u. Counted k a b p' q' on' u n in
      let E : ℕ → Type 0 = λ u. Counted k a b p' q' on' x' u in
      subst E (sym i) (subst D (sym h) (subst C (sym g) (subst B (sym f) (subst A (sym e) m))))

  pub counted_after : (s : Step) → next_step x (slice_get left.left 0) (slice_get right.left 0) ≡ Some s → x <ℤ s.edge
  counted_after s is = (step_at k a.left b.left counted.row on counted.from x left.left right.left counted.state s is).edge_a.after

  pub counted_more : (s : Step) (p q : Reading) (on' : Bool) (x' : ℤ) (n' : ℕ) → next_step x (slice_get left.left 0) (slice_get right.left 0) ≡ Some s
      → n' ≡ count + cond (on && not (keeps_place k s.in_first s.in_second)) 1 0 → p ≡ record left { left = later s.edge left.left } → q ≡ record right { left = later s.edge right.left }
      → on' ≡ keeps_place k s.in_first s.in_second → x' ≡ s.edge → Counted k a b p q on' x' n'
  counted_more s p q on' x' n' is n_is p_is q_is on_is x_is =
      let step = step_at k a.left b.left counted.row on counted.from x left.left right.left counted.state s is in
      counted_at (record left { left = later s.edge left.left }) p (record right { left = later s.edge right.left }) q (keeps_place k s.in_first s.in_second) on' s.edge x' n' n' p_is q_is on_is x_is refl
      (by_same k a.left b.left (keeps_place k s.in_first s.in_second) on
      (λ same. record {
        row = counted.row;
        from = counted.from;
        state = subst (λ t. RowState k a.left b.left counted.row t counted.from s.edge (later s.edge left.left) (later s.edge right.left)) (sym same)
            (stepped_on k a.left b.left counted.row on counted.from x left.left right.left counted.state s step same);
        is = omega (arith, n_is, counted.is, none (keeps_place k s.in_first s.in_second) on same);
        few = let after : x <ℤ s.edge = step.edge_a.after in omega (arith, ints, n_is, counted.few, none (keeps_place k s.in_first s.in_second) on same);
        fewer = stay_few (keeps_place k s.in_first s.in_second) on counted.from x s.edge count n' same step.edge_a.after (omega (arith, n_is, none (keeps_place k s.in_first s.in_second) on same)) counted.fewer;
        left_is = ap (λ (u : Reading). record u { left = later s.edge left.left }) counted.left_is;
        right_is = ap (λ (u : Reading). record u { left = later s.edge right.left }) counted.right_is;
      })
      (λ other. record {
        row = closed on (span counted.from x) counted.row;
        from = x;
        state = stepped_turn k a.left b.left counted.row on counted.from x left.left right.left counted.state s step other;
        is = omega (arith, n_is, counted.is, some (keeps_place k s.in_first s.in_second) on other, length-closed on (span counted.from x) counted.row);
        few = let after : x <ℤ s.edge = step.edge_a.after in omega (arith, ints, n_is, counted.few, some (keeps_place k s.in_first s.in_second) on other, most on);
        fewer = turn_few (keeps_place k s.in_first s.in_second) on counted.from x s.edge count n' other step.edge_a.after (λ is_on. (counted.state.ends_on is_on).0) (omega (arith, n_is, some (keeps_place k s.in_first s.in_second) on other)) counted.fewer;
        left_is = ap (λ (u : Reading). record u { left = later s.edge left.left }) counted.left_is;
        right_is = ap (λ (u : Reading). record u { left = later s.edge right.left }) counted.right_is;
      }))
    where
      none : (keeps on : Bool) → keeps ≡ on → cond (on && not keeps) 1 0 ≤ 0
      none true true e = omega arith
      none false false e = omega arith
      none true false e = omega arith
      none false true e = absurd (no e)
        where
          no : false ≡ true → ⊥
          no e = cc

      some : (keeps on : Bool) → keeps ≢ on → (cond (on && not keeps) 1 0 ≤ cond on 1 0) × (cond on 1 0 ≤ cond (on && not keeps) 1 0)
      some true true e = absurd (e refl)
      some false false e = absurd (e refl)
      some true false e = (omega arith, omega arith)
      some false true e = (omega arith, omega arith)

      most : (on : Bool) → cond on 1 0 ≤ 1
      most true = omega arith
      most false = omega arith

  pub counted_done : next_step x (slice_get left.left 0) (slice_get right.left 0) ≡ None → (n : ℕ) → n ≡ count + cond on 1 0
      → ((row : List Interval) → IsKept k a.left b.left row → n ≡ length row) × (left ≡ record a { left = [] }) × (right ≡ record b { left = [] })
  counted_done is n n_is =
      let ends = no_step x left.left right.left is in (
        λ row kept_row.
            let same : closed on (span counted.from x) counted.row ≡ row = only_kept k a.left b.left (closed on (span counted.from x) counted.row) row (state_done k a.left b.left counted.row on counted.from x left.left right.left counted.state is) kept_row in
            omega (arith, n_is, counted.is, length-closed on (span counted.from x) counted.row, ap length same),
        counted.left_is ∙ ap (λ l. record a { left = l }) ends.0,
        counted.right_is ∙ ap (λ l. record b { left = l }) ends.1,
      )

pub counted_few : (k : Keep) (a b left right : Reading) (on : Bool) (x : ℤ) (count : ℕ) → Counted k a b left right on x count → x ≤ℤ pos 2147483647 → (n : ℕ) → n ≡ count + cond on 1 0 → n ≤ 2147483648
counted_few k a b left right on x count counted room n is = end_few on counted.from x count n (λ is_on. (counted.state.ends_on is_on).0) room is counted.fewer

pub goes_on : (on keeps : Bool) → keeps ≡ true → (on && not keeps) ≡ false
goes_on true keeps e = ap not e
goes_on false keeps e = refl

pub begins_or_none : (on keeps : Bool) → on ≡ false → (on && not keeps) ≡ false
begins_or_none on keeps e = ap (λ b. b && not keeps) e

pub added_none : (on result keeps : Bool) (count n : ℕ) → result ≡ keeps → (on && not result) ≡ false → n ≡ count → n ≡ count + cond (on && not keeps) 1 0
added_none on result keeps count n is e n_is = n_is ∙ add_nothing count ∙ ap (λ b. count + cond b 1 0) (sym e ∙ ap (λ b. on && not b) is)
  where
    add_nothing : (n : ℕ) → n ≡ n + 0
    add_nothing n = omega arith

pub added_one : (on result keeps : Bool) (count n : ℕ) → result ≡ keeps → on ≡ true → result ≡ false → n ≡ count + 1 → n ≡ count + cond (on && not keeps) 1 0
added_one on result keeps count n is e f n_is = n_is ∙ ap (λ b. count + cond b 1 0) (sym (ap (λ b. b && not keeps) e ∙ ap not (sym is) ∙ ap not f))

pub not_counted : (count : ℕ) (on : Bool) → on ≡ false → count ≡ count + cond on 1 0
not_counted count on e = add_nothing count ∙ ap (λ b. count + cond b 1 0) (sym e)
  where
    add_nothing : (n : ℕ) → n ≡ n + 0
    add_nothing n = omega arith

-- ---- the row that is copied

first_there : (l : List Interval) (i : Interval) → slice_get l 0 ≡ Some i → (rest : List Interval) × (l ≡ i ∷ rest)
first_there [] i e = absurd (cc)
first_there (x ∷ rest) i e = (rest, ap (λ u. u ∷ rest) (same_Some x i e))

pub some_there : (l : List Interval) (i : Interval) (first : Option Interval) → first ≡ slice_get l 0 → first ≡ Some i → l ≢ []
some_there l i first e f = let there = first_there l i (sym e ∙ f) in λ none. no there.0 (sym there.1 ∙ none)
  where
    no : (rest : List Interval) → i ∷ rest ≡ [] → ⊥
    no rest e = cc

none_there : (l : List Interval) (first : Option Interval) → first ≡ slice_get l 0 → first ≡ None → l ≡ []
none_there [] first e f = refl
none_there (x ∷ rest) first e f = absurd (no (sym e ∙ f))
  where
    no : Some x ≡ None → ⊥
    no e = cc

pub record CopiedOther (old now : Bands) (other left : Reading) : Type 0 where
  pub all : now.row ++ left.left ≡ other.left
  pub spare : old.spare ≤ now.spare + length now.row
  pub same : now ≡ record old { row = now.row; spare = now.spare }
  pub read : left ≡ record other { left = left.left }

pub other_begins : (old : Bands) (other : Reading) → old.row ≡ [] → CopiedOther old old other other
other_begins old other none = record { all = ap (λ l. l ++ other.left) none; spare = omega arith; same = refl; read = refl }

module _ (old now : Bands) (other left : Reading) (copied : CopiedOther old now other left) where
  pub other_room : (i : Interval) (first : Option Interval) → first ≡ slice_get left.left 0 → first ≡ Some i → length other.left ≤ old.spare → 1 ≤ now.spare
  other_room i first e f room =
      let there = first_there left.left i (sym e ∙ f) in
      let size : length now.row + length left.left ≡ length other.left = sym (length-append now.row left.left) ∙ ap length copied.all in
      let long : 1 ≤ length left.left = subst (λ l. 1 ≤ length l) (sym there.1) (omega arith) in
      omega (arith, room, size, long, copied.spare)

  pub other_more : (i : Interval) (first : Option Interval) (r : Reading) (v : Bands) → first ≡ slice_get left.left 0 → first ≡ Some i → ((x : Interval) (rest : List Interval) → left.left ≡ x ∷ rest → r ≡ record left { left = rest })
      → now.spare ≤ v.spare + 1 → v ≡ record now { row = now.row ++ i ∷ []; spare = v.spare } → CopiedOther old v other r × (length r.left < length left.left)
  other_more i first r v e f skipped spare v_is =
      let there = first_there left.left i (sym e ∙ f) in
      let r_is : r ≡ record left { left = there.0 } = skipped i there.0 there.1 in
      let A : Reading → Type 0 = λ u. CopiedOther old v other u × (length u.left < length left.left) in
      let row_is : v.row ≡ now.row ++ i ∷ [] = ap (λ u. u.row) v_is in
      subst A (sym r_is) (
        record {
          all = ap (λ l. l ++ there.0) row_is ∙ append_assoc now.row (i ∷ []) there.0 ∙ ap (λ l. now.row ++ l) (sym there.1) ∙ copied.all;
          spare = omega (arith, copied.spare, spare, ap length row_is, length-append now.row (i ∷ []));
          same = v_is ∙ ap (λ (u : Bands). record u { row = now.row ++ i ∷ []; spare = v.spare }) copied.same ∙ ap (λ l. record old { row = l; spare = v.spare }) (sym row_is);
          read = ap (λ (u : Reading). record u { left = there.0 }) copied.read;
        },
        subst (λ l. length there.0 < length l) (sym there.1) (omega arith),
      )

  pub other_done : (first : Option Interval) → first ≡ slice_get left.left 0 → first ≡ None → (now ≡ record old { row = other.left; spare = now.spare }) × (left ≡ record other { left = [] })
  other_done first e f =
      let none : left.left ≡ [] = none_there left.left first e f in
      let row_is : now.row ≡ other.left = sym (append-nil now.row) ∙ ap (λ l. now.row ++ l) (sym none) ∙ copied.all in
      (copied.same ∙ ap (λ l. record old { row = l; spare = now.spare }) row_is, copied.read ∙ ap (λ l. record other { left = l }) none)

pub record Copied (old now : Bands) : Type 0 where
  pub all : now.row ++ now.left ≡ old.left
  pub spare : old.spare ≤ now.spare + length now.row
  pub same : now ≡ record old { row = now.row; left = now.left; spare = now.spare }

pub left_begins : (old : Bands) → old.row ≡ [] → Copied old old
left_begins old none = record { all = ap (λ l. l ++ old.left) none; spare = omega arith; same = refl }

module _ (old now : Bands) (copied : Copied old now) where
  pub left_more : (i : Interval) (first : Option Interval) (r v : Bands) → first ≡ slice_get now.left 0 → first ≡ Some i → ((x : Interval) (rest : List Interval) → now.left ≡ x ∷ rest → r ≡ record now { left = rest })
      → r.spare ≤ v.spare + 1 → v ≡ record r { row = r.row ++ i ∷ []; spare = v.spare } → Copied old v × (length v.left < length now.left)
  left_more i first r v e f skipped spare v_is =
      let there = first_there now.left i (sym e ∙ f) in
      let r_is : r ≡ record now { left = there.0 } = skipped i there.0 there.1 in
      let all_is : v ≡ record now { row = now.row ++ i ∷ []; left = there.0; spare = v.spare } = v_is ∙ ap (λ (u : Bands). record u { row = u.row ++ i ∷ []; spare = v.spare }) r_is in
      let row_is : v.row ≡ now.row ++ i ∷ [] = ap (λ u. u.row) all_is in
      let left_is : v.left ≡ there.0 = ap (λ u. u.left) all_is in
      let spare_is : r.spare ≡ now.spare = ap (λ u. u.spare) r_is in (
        record {
          all = ap (λ l. v.row ++ l) left_is ∙ ap (λ l. l ++ there.0) row_is ∙ append_assoc now.row (i ∷ []) there.0 ∙ ap (λ l. now.row ++ l) (sym there.1) ∙ copied.all;
          spare = omega (arith, copied.spare, spare, spare_is, ap length row_is, length-append now.row (i ∷ []));
          same = all_is ∙ ap (λ (u : Bands). record u { row = now.row ++ i ∷ []; left = there.0; spare = v.spare }) copied.same
              ∙ ap (λ l. record old { row = l; left = there.0; spare = v.spare }) (sym row_is) ∙ ap (λ l. record old { row = v.row; left = l; spare = v.spare }) (sym left_is);
        },
        subst (λ l. length v.left < length l) (sym there.1) (omega (arith, ap length left_is)),
      )

  pub left_room : (i : Interval) (first : Option Interval) (r : Bands) → first ≡ slice_get now.left 0 → first ≡ Some i → ((x : Interval) (rest : List Interval) → now.left ≡ x ∷ rest → r ≡ record now { left = rest }) → length old.left ≤ old.spare → 1 ≤ r.spare
  left_room i first r e f skipped room =
      let there = first_there now.left i (sym e ∙ f) in
      let spare_is : r.spare ≡ now.spare = ap (λ u. u.spare) (skipped i there.0 there.1) in
      let size : length now.row + length now.left ≡ length old.left = sym (length-append now.row now.left) ∙ ap length copied.all in
      let long : 1 ≤ length now.left = subst (λ l. 1 ≤ length l) (sym there.1) (omega arith) in
      omega (arith, room, size, long, copied.spare, spare_is)

  pub left_done : (first : Option Interval) → first ≡ slice_get now.left 0 → first ≡ None → now ≡ record old { row = old.left; left = []; spare = now.spare }
  left_done first e f =
      let none : now.left ≡ [] = none_there now.left first e f in
      let row_is : now.row ≡ old.left = sym (append-nil now.row) ∙ ap (λ l. now.row ++ l) (sym none) ∙ copied.all in
      copied.same ∙ ap (λ l. record old { row = l; left = now.left; spare = now.spare }) row_is ∙ ap (λ l. record old { row = old.left; left = l; spare = now.spare }) none

-- ---- the row that is passed

pub skip_more : (old now next : Reading) (first : Option Interval) (b : Bool) → now ≡ record old { left = now.left } → first ≡ slice_get now.left 0 → b ≡ is_some first → b ≡ true → ((x : Interval) (rest : List Interval) → now.left ≡ x ∷ rest → next ≡ record now { left = rest })
    → (next ≡ record old { left = next.left }) × (length next.left < length now.left)
skip_more old now next first b same e f g skipped = go now.left refl
  where
    go : (l : List Interval) → now.left ≡ l → (next ≡ record old { left = next.left }) × (length next.left < length now.left)
    go [] is = absurd (let clash : true ≡ false = sym g ∙ f ∙ ap is_some (e ∙ ap (λ l. slice_get l 0) is) in cc)
    go (x ∷ rest) is =
        let made = skipped x rest is in
        let left : next.left ≡ rest = ap (λ (u : Reading). u.left) made in (
          made ∙ ap (λ (u : Reading). record u { left = rest }) same ∙ ap (λ l. record old { left = l }) (sym left),
          omega (arith, ap length left, ap length is),
        )

pub skip_done : (old now : Reading) (first : Option Interval) (b : Bool) → now ≡ record old { left = now.left } → first ≡ slice_get now.left 0 → b ≡ is_some first → b ≡ false → now ≡ record old { left = [] }
skip_done old now first b same e f g = same ∙ ap (λ l. record old { left = l }) (go now.left refl)
  where
    go : (l : List Interval) → now.left ≡ l → l ≡ []
    go [] is = refl
    go (x ∷ rest) is = absurd (let clash : true ≡ false = sym (sym g ∙ f ∙ ap is_some (e ∙ ap (λ l. slice_get l 0) is)) in cc)
