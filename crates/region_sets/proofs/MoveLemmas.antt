-- Bands that are moved, so far.
use Rattle.std.proofs.Common.{◌≡◌, ◌≢◌, ◌+◌, ◌≤◌, ◌<◌, List, [], ◌∷◌, ◌++◌, map, length, refl, sym, ◌∙◌, ap, subst, arith, Option, Some, None}
use Rattle.std.specs.Prelude.{ℤ, slice_get}
use Rattle.std.specs.List.{AllByRecursion}
use Rattle.std.specs.Option.{option_map}
use Rattle.std.proofs.lemmas.List.{append_assoc, append-nil}
use Rattle.std.proofs.lemmas.Option.{same_Some}
use Rattle.region_bands.specs.declared.Interval.{Interval}
use Rattle.region_bands.specs.declared.Rows.{Rows}
use Rattle.region_bands.specs.Bands.{Band, Bands, rows_of, first_row, band_with}
use Rattle.region_sets.specs.Moves.{moved_interval, moved_rows, moved_band, with_first_row, AreMovableRows, IsMovableInterval, IsMovable}
use Rattle.region_sets.proofs.CopyLemmas.{first_there as rows_there}
use Rattle.region_sets.proofs.EndLemmas.{first_there, none_there}

-- ---- the intervals of the first band

pub record Moving (dx : ℤ) (old now : Bands) : Type 0 where
  pub all : now.row ++ map (moved_interval dx) now.left ≡ map (moved_interval dx) (first_row old.below)
  pub movable : AllByRecursion (IsMovableInterval dx) now.left
  pub spare : old.spare ≤ now.spare
  pub same : now ≡ record old { row = now.row; left = now.left; below = with_first_row now.left old.below; spare = now.spare }

own_row : (below : List Band) → below ≡ with_first_row (first_row below) below
own_row [] = refl
own_row (b ∷ rest) = refl

pub moving_begins : (dx : ℤ) (old : Bands) → old.row ≡ [] → old.left ≡ first_row old.below → AllByRecursion (IsMovableInterval dx) (first_row old.below) → Moving dx old old
moving_begins dx old none left movable = record {
  all = ap (λ l. l ++ map (moved_interval dx) old.left) none ∙ ap (map (moved_interval dx)) left;
  movable = subst (AllByRecursion (IsMovableInterval dx)) (sym left) movable;
  spare = omega arith;
  same = ap (λ l. record old { below = l }) (own_row old.below ∙ ap (λ l. with_first_row l old.below) (sym left));
}

interval_there : (l : List Interval) (i : Interval) → slice_get l 0 ≡ Some i → (rest : List Interval) × (l ≡ i ∷ rest)
interval_there [] i e = absurd (no e)
  where
    no : None ≡ Some i → ⊥
    no e = cc
interval_there (j ∷ rest) i e = (rest, ap (λ k. k ∷ rest) (same_Some j i e))

module _ (dx : ℤ) (old now : Bands) (moving : Moving dx old now) (some : old.below ≢ []) (i : Interval) (found : Option Interval) (is : found ≡ slice_get now.left 0) (there : found ≡ Some i) where
  abbrev rest_of_left : (rest : List Interval) × (now.left ≡ i ∷ rest)
  rest_of_left = interval_there now.left i (sym is ∙ there)

  below_at : (b : Band) (rest : List Band) → old.below ≡ b ∷ rest → now.below ≡ record b { row = now.left } ∷ rest
  below_at b rest e = ap (λ (u : Bands). u.below) moving.same ∙ ap (with_first_row now.left) e

  pub moving_band : now.below ≢ []
  moving_band = let at = first_there old.below some in λ none. cons_some (record at.0 { row = now.left }) at.1 (sym (below_at at.0 at.1 at.2) ∙ none)
    where
      cons_some : (b : Band) (l : List Band) → b ∷ l ≢ []
      cons_some b l = λ e. cc

  pub moving_interval : first_row now.below ≢ []
  moving_interval = let at = first_there old.below some in λ none. cons_some i rest_of_left.0 (sym rest_of_left.1 ∙ sym (ap first_row (below_at at.0 at.1 at.2)) ∙ none)
    where
      cons_some : (j : Interval) (l : List Interval) → j ∷ l ≢ []
      cons_some j l = λ e. cc

  pub interval_movable : IsMovableInterval dx i
  interval_movable = let all = subst (AllByRecursion (IsMovableInterval dx)) rest_of_left.1 moving.movable in all.0

  pub moving_room : (took : Bands) → ((first : Band) (rest : List Band) (row : List Interval) (interval : Interval) → now.below ≡ first ∷ rest → first.row ≡ interval ∷ row → took ≡ record now { left = row; below = record first { row = row } ∷ rest; spare = now.spare + 1 }) → 1 ≤ took.spare
  moving_room took takes =
      let at = first_there old.below some in omega (arith, ap (λ (u : Bands). u.spare) (takes (record at.0 { row = now.left }) at.1 rest_of_left.0 i (below_at at.0 at.1 at.2) rest_of_left.1))

  pub moving_more : (took new : Bands) (m : Interval) → m ≡ moved_interval dx i
      → ((first : Band) (rest : List Band) (row : List Interval) (interval : Interval) → now.below ≡ first ∷ rest → first.row ≡ interval ∷ row → took ≡ record now { left = row; below = record first { row = row } ∷ rest; spare = now.spare + 1 })
      → took.spare ≤ new.spare + 1 → new ≡ record took { row = took.row ++ m ∷ []; spare = new.spare } → Moving dx old new × (length new.left < length now.left)
  moving_more took new m m_is takes room puts =
      let at = first_there old.below some in
      let b = at.0 in
      let rest = at.1 in
      let row = rest_of_left.0 in
      let took_is : took ≡ record now { left = row; below = record b { row = row } ∷ rest; spare = now.spare + 1 } = takes (record b { row = now.left }) rest row i (below_at b rest at.2) rest_of_left.1 in
      let new_is : new ≡ record now { row = now.row ++ m ∷ []; left = row; below = record b { row = row } ∷ rest; spare = new.spare } = puts ∙ ap (λ (u : Bands). record u { row = u.row ++ m ∷ []; spare = new.spare }) took_is in
      let row_is : new.row ≡ now.row ++ m ∷ [] = ap (λ (u : Bands). u.row) new_is in
      let left_is : new.left ≡ row = ap (λ (u : Bands). u.left) new_is in
      let all = subst (AllByRecursion (IsMovableInterval dx)) rest_of_left.1 moving.movable in (
        record {
          all = ap (λ l. l ++ map (moved_interval dx) new.left) row_is ∙ ap (λ l. (now.row ++ m ∷ []) ++ map (moved_interval dx) l) left_is ∙ append_assoc now.row (m ∷ []) (map (moved_interval dx) row)
              ∙ ap (λ j. now.row ++ j ∷ map (moved_interval dx) row) m_is ∙ ap (λ l. now.row ++ map (moved_interval dx) l) (sym rest_of_left.1) ∙ moving.all;
          movable = subst (AllByRecursion (IsMovableInterval dx)) (sym left_is) all.1;
          spare = omega (arith, moving.spare, room, ap (λ (u : Bands). u.spare) took_is);
          same = new_is ∙ ap (λ (u : Bands). record u { row = now.row ++ m ∷ []; left = row; below = record b { row = row } ∷ rest; spare = new.spare }) moving.same
              ∙ ap (λ l. record old { row = l; left = row; below = record b { row = row } ∷ rest; spare = new.spare }) (sym row_is)
              ∙ ap (λ l. record old { row = new.row; left = row; below = with_first_row row l; spare = new.spare }) (sym at.2)
              ∙ ap (λ l. record old { row = new.row; left = l; below = with_first_row l old.below; spare = new.spare }) (sym left_is);
        },
        omega (arith, ap length left_is, ap length rest_of_left.1),
      )

pub moving_done : (dx : ℤ) (old now : Bands) (moving : Moving dx old now) (found : Option Interval) → found ≡ slice_get now.left 0 → found ≡ None
    → now ≡ record old { row = map (moved_interval dx) (first_row old.below); left = []; below = with_first_row [] old.below; spare = now.spare }
moving_done dx old now moving found is none =
    let empty : now.left ≡ [] = none_there Interval now.left (sym is ∙ none) in
    let row_is : now.row ≡ map (moved_interval dx) (first_row old.below) = sym (append-nil now.row) ∙ ap (λ l. now.row ++ map (moved_interval dx) l) (sym empty) ∙ moving.all in
    moving.same ∙ ap (λ l. record old { row = l; left = now.left; below = with_first_row now.left old.below; spare = now.spare }) row_is
    ∙ ap (λ l. record old { row = map (moved_interval dx) (first_row old.below); left = l; below = with_first_row l old.below; spare = now.spare }) empty

-- ---- all bands

pub record Shifting (dx dy : ℤ) (old now : Bands) : Type 0 where
  pub all : now.above ++ map (moved_band dx dy) now.below ≡ map (moved_band dx dy) (old.above ++ old.below)
  pub left : now.left ≡ first_row now.below
  pub row : now.row ≡ []
  pub movable : AllByRecursion (IsMovable dx dy) now.below
  pub spare : old.spare ≤ now.spare
  pub same : now ≡ record old { above = now.above; left = now.left; below = now.below; spare = now.spare }

pub shifting_begins : (dx dy : ℤ) (old now : Bands) → old.row ≡ [] → AllByRecursion (IsMovable dx dy) (old.above ++ old.below) → now ≡ record old { above = []; left = first_row (old.above ++ old.below); below = old.above ++ old.below } → Shifting dx dy old now
shifting_begins dx dy old now row movable is =
    let below : now.below ≡ old.above ++ old.below = ap (λ (u : Bands). u.below) is in
    let left : now.left ≡ first_row (old.above ++ old.below) = ap (λ (u : Bands). u.left) is in
    let above : now.above ≡ [] = ap (λ (u : Bands). u.above) is in
    let spare : now.spare ≡ old.spare = ap (λ (u : Bands). u.spare) is in
    record {
      all = ap (λ l. l ++ map (moved_band dx dy) now.below) above ∙ ap (map (moved_band dx dy)) below;
      left = left ∙ sym (ap first_row below);
      row = ap (λ (u : Bands). u.row) is ∙ row;
      movable = subst (AllByRecursion (IsMovable dx dy)) (sym below) movable;
      spare = omega (arith, spare);
      same = is ∙ ap (λ l. record old { above = l; left = first_row (old.above ++ old.below); below = old.above ++ old.below }) (sym above)
          ∙ ap (λ l. record old { above = now.above; left = l; below = old.above ++ old.below }) (sym left)
          ∙ ap (λ l. record old { above = now.above; left = now.left; below = l }) (sym below)
          ∙ ap (λ n. record old { above = now.above; left = now.left; below = now.below; spare = n }) (sym spare);
    }

module _ (dx dy : ℤ) (old now : Bands) (shifting : Shifting dx dy old now) (found : Option Rows) (is : found ≡ option_map rows_of (slice_get now.below 0)) where
  module _ (rows : Rows) (some : found ≡ Some rows) where
    abbrev at : (b : Band) × (rest : List Band) × (now.below ≡ b ∷ rest) × (rows_of b ≡ rows)
    at = rows_there now.below found rows is some

    first_movable : IsMovable dx dy at.0
    first_movable = (subst (AllByRecursion (IsMovable dx dy)) at.2 shifting.movable).0

    pub shifting_band : now.below ≢ []
    shifting_band = λ none. cons_some at.0 at.1 (sym at.2 ∙ none)
      where
        cons_some : (b : Band) (l : List Band) → b ∷ l ≢ []
        cons_some b l = λ e. cc

    pub shifting_row : AllByRecursion (IsMovableInterval dx) (first_row now.below)
    shifting_row = subst (AllByRecursion (IsMovableInterval dx)) (sym (ap first_row at.2)) first_movable.row

    pub shifting_rows : AreMovableRows dy rows
    shifting_rows = subst (AreMovableRows dy) at.3 first_movable.rows

    module _ (moved : Bands) (moved_is : moved ≡ record now { row = map (moved_interval dx) (first_row now.below); left = []; below = with_first_row [] now.below; spare = moved.spare }) where
      moved_below : moved.below ≡ record at.0 { row = [] } ∷ at.1
      moved_below = ap (λ (u : Bands). u.below) moved_is ∙ ap (with_first_row []) at.2

      pub shifted_band : moved.below ≢ []
      shifted_band = λ none. cons_some (record at.0 { row = [] }) at.1 (sym moved_below ∙ none)
        where
          cons_some : (b : Band) (l : List Band) → b ∷ l ≢ []
          cons_some b l = λ e. cc

      module _ (cut : Bands) (cuts : (first : Band) (rest : List Band) → moved.below ≡ first ∷ rest → cut ≡ record moved { left = first_row rest; below = rest; spare = moved.spare + 2 + length first.row }) where
        abbrev empty : Band
        empty = record at.0 { row = [] }

        cut_is : cut ≡ record moved { left = first_row at.1; below = at.1; spare = moved.spare + 2 + length empty.row }
        cut_is = cuts empty at.1 moved_below

        pub shifting_room : 2 ≤ cut.spare
        shifting_room = omega (arith, ap (λ (u : Bands). u.spare) cut_is)

        pub shifting_more : (new : Bands) (r : Rows) → r ≡ moved_rows dy rows → now.spare ≤ moved.spare → cut.spare ≤ new.spare + 2 → new ≡ record cut { above = cut.above ++ band_with r cut.row ∷ []; row = []; spare = new.spare }
            → Shifting dx dy old new × (length new.below < length now.below)
        shifting_more new r r_is kept room puts =
            let b = at.0 in
            let rest = at.1 in
            let row_is : cut.row ≡ map (moved_interval dx) b.row = ap (λ (u : Bands). u.row) cut_is ∙ ap (λ (u : Bands). u.row) moved_is ∙ ap (λ l. map (moved_interval dx) (first_row l)) at.2 in
            let band_is : band_with r cut.row ≡ moved_band dx dy b = ap (λ q. band_with q cut.row) (r_is ∙ ap (moved_rows dy) (sym at.3)) ∙ ap (band_with (moved_rows dy (rows_of b))) row_is in
            let new_is : new ≡ record now { above = now.above ++ moved_band dx dy b ∷ []; row = []; left = first_row rest; below = rest; spare = new.spare } =
            puts ∙ ap (λ q. record cut { above = cut.above ++ q ∷ []; row = []; spare = new.spare }) band_is
            ∙ ap (λ (u : Bands). record u { above = u.above ++ moved_band dx dy b ∷ []; row = []; spare = new.spare }) cut_is
            ∙ ap (λ (u : Bands). record u { above = u.above ++ moved_band dx dy b ∷ []; row = []; left = first_row rest; below = rest; spare = new.spare }) moved_is in
            let above_is : new.above ≡ now.above ++ moved_band dx dy b ∷ [] = ap (λ (u : Bands). u.above) new_is in
            let below_is : new.below ≡ rest = ap (λ (u : Bands). u.below) new_is in
            let left_is : new.left ≡ first_row rest = ap (λ (u : Bands). u.left) new_is in
            let none : [] ≡ old.row = sym shifting.row ∙ ap (λ (u : Bands). u.row) shifting.same in (
              record {
                all = ap (λ l. l ++ map (moved_band dx dy) new.below) above_is ∙ ap (λ l. (now.above ++ moved_band dx dy b ∷ []) ++ map (moved_band dx dy) l) below_is
                    ∙ append_assoc now.above (moved_band dx dy b ∷ []) (map (moved_band dx dy) rest) ∙ ap (λ l. now.above ++ map (moved_band dx dy) l) (sym at.2) ∙ shifting.all;
                left = left_is ∙ sym (ap first_row below_is);
                row = ap (λ (u : Bands). u.row) new_is;
                movable = subst (AllByRecursion (IsMovable dx dy)) (sym below_is) (subst (AllByRecursion (IsMovable dx dy)) at.2 shifting.movable).1;
                spare = omega (arith, shifting.spare, kept, room, ap (λ (u : Bands). u.spare) cut_is);
                same = new_is ∙ ap (λ (u : Bands). record u { above = now.above ++ moved_band dx dy b ∷ []; row = []; left = first_row rest; below = rest; spare = new.spare }) shifting.same
                    ∙ ap (λ l. record old { above = now.above ++ moved_band dx dy b ∷ []; row = l; left = first_row rest; below = rest; spare = new.spare }) none
                    ∙ ap (λ l. record old { above = l; left = first_row rest; below = rest; spare = new.spare }) (sym above_is)
                    ∙ ap (λ l. record old { above = new.above; left = l; below = rest; spare = new.spare }) (sym left_is)
                    ∙ ap (λ l. record old { above = new.above; left = new.left; below = l; spare = new.spare }) (sym below_is);
              },
              omega (arith, ap length below_is, ap length at.2),
            )

  pub shifting_done : found ≡ None → now ≡ record old { above = map (moved_band dx dy) (old.above ++ old.below); left = []; below = []; spare = now.spare }
  shifting_done none =
      let empty : now.below ≡ [] = no_rows now.below (sym is ∙ none) in
      let above_is : now.above ≡ map (moved_band dx dy) (old.above ++ old.below) = sym (append-nil now.above) ∙ ap (λ l. now.above ++ map (moved_band dx dy) l) (sym empty) ∙ shifting.all in
      let left_is : now.left ≡ [] = shifting.left ∙ ap first_row empty in
      shifting.same ∙ ap (λ l. record old { above = l; left = now.left; below = now.below; spare = now.spare }) above_is
      ∙ ap (λ l. record old { above = map (moved_band dx dy) (old.above ++ old.below); left = l; below = now.below; spare = now.spare }) left_is
      ∙ ap (λ l. record old { above = map (moved_band dx dy) (old.above ++ old.below); left = []; below = l; spare = now.spare }) empty
    where
      no_rows : (l : List Band) → option_map rows_of (slice_get l 0) ≡ None → l ≡ []
      no_rows [] e = refl
      no_rows (b ∷ rest) e = absurd (no (rows_of b) e)
        where
          no : (r : Rows) → Some r ≡ None → ⊥
          no r e = cc
