-- The bands while they are removed, the first at each step.
use Rattle.std.proofs.Common.{◌≡◌, ◌+◌, ◌<◌, ◌≤◌, suc, List, [], ◌∷◌, ◌++◌, length, Bool, true, false, is_some, Option, refl, subst, sym, ap, ◌∙◌, arith}
use Rattle.std.specs.Prelude.{slice_get}
use Rattle.std.specs.Option.{option_map}
use Rattle.region_bands.specs.declared.Interval.{Interval}
use Rattle.region_bands.specs.declared.Rows.{Rows}
use Rattle.region_bands.specs.Bands.{Band, Bands, nothing, rows_of, first_row, nodes_in}

pub record Clearing (old now : Bands) : Type 0 where
  pub above : now.above ≡ []
  pub row : now.row ≡ old.row
  pub left : now.left ≡ first_row now.below
  pub spare : now.spare + nodes_in now.below ≡ old.spare + nodes_in old.above + nodes_in old.below

nodes_append : (xs ys : List Band) → nodes_in (xs ++ ys) ≡ nodes_in xs + nodes_in ys
nodes_append [] ys = omega arith
nodes_append (x ∷ xs) ys = let more = nodes_append xs ys in omega arith

pub clearing_all : (old now : Bands) → now ≡ record old { above = []; left = first_row (old.above ++ old.below); below = old.above ++ old.below } → Clearing old now
clearing_all old now is = subst (Clearing old) (sym is) (record { above = refl; row = refl; left = refl; spare = let all = nodes_append old.above old.below in omega arith })

-- the first of the bands
first_is : (bands : List Band) → is_some (option_map rows_of (slice_get bands 0)) ≡ true → (first : Band) × (rest : List Band) × (bands ≡ first ∷ rest)
first_is [] some = absurd (cc)
first_is (first ∷ rest) some = (first, rest, refl)

none_is : (bands : List Band) → is_some (option_map rows_of (slice_get bands 0)) ≡ false → bands ≡ []
none_is [] none = refl
none_is (first ∷ rest) none = absurd (cc)

module _ (old now : Bands) (clearing : Clearing old now) (found : Option Rows) (found_is : found ≡ option_map rows_of (slice_get now.below 0)) (b : Bool) (test : is_some found ≡ b) where
  module _ (yes : b ≡ true) where
    pub some_left : (first : Band) × (rest : List Band) × (now.below ≡ first ∷ rest)
    some_left = first_is now.below (sym (ap is_some found_is) ∙ test ∙ yes)

    pub not_empty : now.below ≡ [] → ⊥
    not_empty none = let some = some_left.2 in absurd (cc)

    module _ (new : Bands) (removed : (first : Band) (rest : List Band) → now.below ≡ first ∷ rest → new ≡ record now { left = first_row rest; below = rest; spare = now.spare + 2 + length first.row }) where
      pub clearing_more : Clearing old new
      clearing_more =
          let all = ap nodes_in some_left.2 in
          let before = clearing.spare in
          subst (Clearing old) (sym (removed some_left.0 some_left.1 some_left.2)) (record { above = clearing.above; row = clearing.row; left = refl; spare = omega arith })

      pub fewer_bands : length new.below < length now.below
      fewer_bands =
          let after : length new.below ≡ length some_left.1 = ap (λ (w : Bands). length w.below) (removed some_left.0 some_left.1 some_left.2) in
          let before : length now.below ≡ suc (length some_left.1) = ap length some_left.2 in
          omega arith

  module _ (no : b ≡ false) (new : Bands) (spare : now.spare + length now.row ≤ new.spare) (dropped : new ≡ record now { row = []; spare = new.spare }) where
    empty : now.below ≡ []
    empty = none_is now.below (sym (ap is_some found_is) ∙ test ∙ no)

    pub all_cleared : new ≡ record nothing { spare = new.spare }
    all_cleared =
        dropped
        ∙ ap (λ (l : List Band). let w : Bands = record { above = l; row = []; left = now.left; below = now.below; spare = new.spare } in w) clearing.above
        ∙ ap (λ (l : List Interval). let w : Bands = record { above = []; row = []; left = l; below = now.below; spare = new.spare } in w) (clearing.left ∙ ap first_row empty)
        ∙ ap (λ (l : List Band). let w : Bands = record { above = []; row = []; left = []; below = l; spare = new.spare } in w) empty

    pub all_given_back : old.spare + nodes_in old.above + nodes_in old.below + length old.row ≤ new.spare
    all_given_back =
        let before = clearing.spare in
        let none : nodes_in now.below ≡ 0 = ap nodes_in empty in
        let same : length now.row ≡ length old.row = ap length clearing.row in
        omega arith
