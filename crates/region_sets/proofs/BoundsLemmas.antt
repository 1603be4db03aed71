-- The least rectangle that holds bands.
use Rattle.std.proofs.Common.{◌≡◌, ◌↔◌, ◌<◌, Bool, true, false, cond, ◌&&◌, List, [], ◌∷◌, length, refl, sym, ◌∙◌, ap, subst, arith, Option, Some, None, ◌⊎◌, inl, inr}
use Rattle.std.specs.Prelude.{ℤ, pos, ◌-ℤ◌, ◌<ℤ◌, ◌≤ℤ◌, int_lt, int_le, ◌||◌}
use Rattle.std.specs.Option.{option_map}
use Rattle.std.proofs.lemmas.Int.{ints, by_lt_z}
use Rattle.std.proofs.lemmas.Option.{same_Some}
use Rattle.region_bands.specs.declared.Interval.{Interval}
use Rattle.region_bands.specs.Bands.{Band, Reading, rows_of, first_row, reading}
use Rattle.region_rows.specs.Rows.{IsRow, row_has}
use Rattle.region_sets.specs.Sets.{in_rows, has, IsBand, AreBands}
use Rattle.region_sets.specs.Strips.{nearer}
use Rattle.region_sets.specs.declared.queries.Rectangle.{Rectangle}
use Rattle.region_sets.specs.Queries.{in_rectangle, HoldsAll, LiesIn, IsBounds}
use Rattle.region_sets.specs.Walks.{row_end, columns_of, first_bounds, rest_of, farther, joined, IsJoined}
use Rattle.region_sets.proofs.RowLemmas.{true_false, some_first, has_after, begun, nearer_is}
use Rattle.region_sets.proofs.BandLemmas.{first_band, band_tail}

abbrev pub rect : ℤ → ℤ → ℤ → ℤ → Rectangle
rect t b f o = record { rows = record { top = t; bottom = b }; columns = record { from = f; to = o } }

pub rectangle : (t t' b b' f f' o o' : ℤ) → t ≡ t' → b ≡ b' → f ≡ f' → o ≡ o' → rect t b f o ≡ rect t' b' f' o'
rectangle t t' b b' f f' o o' e g h k = ap (λ n. rect n b f o) e ∙ ap (λ n. rect t' n f o) g ∙ ap (λ n. rect t' b' n o) h ∙ ap (λ n. rect t' b' f' n) k

-- ---- rectangles in one another

farther_is : (a b : ℤ) → ((farther a b ≡ a) × (b ≤ℤ a)) ⊎ ((farther a b ≡ b) × (a ≤ℤ b))
farther_is a b = by_lt_z a b (λ less. inr (first a b less, omega (arith, ints, less))) (λ more. inl (second a b more, more))
  where
    first : (a b : ℤ) → a <ℤ b → farther a b ≡ b
    first a b less = let e : int_lt a b ≡ true = grind (arith, ints) in ap (λ t. cond t b a) e

    second : (a b : ℤ) → b ≤ℤ a → farther a b ≡ a
    second a b more = let e : int_lt a b ≡ false = grind (arith, ints) in ap (λ t. cond t b a) e

to_nearer : (q a b : ℤ) → q ≤ℤ a → q ≤ℤ b → q ≤ℤ nearer a b
to_nearer q a b h k = elim (nearer_is a b) [ inl m ↦ omega (arith, ints, m.0, h) | inr m ↦ omega (arith, ints, m.0, k) ]

of_nearer : (q a b : ℤ) → q ≤ℤ nearer a b → (q ≤ℤ a) × (q ≤ℤ b)
of_nearer q a b h = elim (nearer_is a b) [ inl m ↦ (omega (arith, ints, m.0, m.1, h), omega (arith, ints, m.0, m.1, h)) | inr m ↦ (omega (arith, ints, m.0, m.1, h), omega (arith, ints, m.0, m.1, h)) ]

to_farther : (q a b : ℤ) → a ≤ℤ q → b ≤ℤ q → farther a b ≤ℤ q
to_farther q a b h k = elim (farther_is a b) [ inl m ↦ omega (arith, ints, m.0, h) | inr m ↦ omega (arith, ints, m.0, k) ]

of_farther : (q a b : ℤ) → farther a b ≤ℤ q → (a ≤ℤ q) × (b ≤ℤ q)
of_farther q a b h = elim (farther_is a b) [ inl m ↦ (omega (arith, ints, m.0, m.1, h), omega (arith, ints, m.0, m.1, h)) | inr m ↦ (omega (arith, ints, m.0, m.1, h), omega (arith, ints, m.0, m.1, h)) ]

joined_lies : (a b q : Rectangle) → LiesIn (joined a b) q ↔ (LiesIn a q × LiesIn b q)
joined_lies a b q = (
  λ l.
      let top = of_nearer q.rows.top a.rows.top b.rows.top l.top in
      let bottom = of_farther q.rows.bottom a.rows.bottom b.rows.bottom l.bottom in
      let from = of_nearer q.columns.from a.columns.from b.columns.from l.from in
      let to = of_farther q.columns.to a.columns.to b.columns.to l.to in
      (record { top = top.0; bottom = bottom.0; from = from.0; to = to.0 }, record { top = top.1; bottom = bottom.1; from = from.1; to = to.1 }),
  λ p. record {
    top = to_nearer q.rows.top a.rows.top b.rows.top p.0.top p.1.top;
    bottom = to_farther q.rows.bottom a.rows.bottom b.rows.bottom p.0.bottom p.1.bottom;
    from = to_nearer q.columns.from a.columns.from b.columns.from p.0.from p.1.from;
    to = to_farther q.columns.to a.columns.to b.columns.to p.0.to p.1.to;
  },
)

lies_itself : (r : Rectangle) → LiesIn r r
lies_itself r = record { top = omega (arith, ints); bottom = omega (arith, ints); from = omega (arith, ints); to = omega (arith, ints) }

-- ---- one band

or_true : (a : Bool) → (a || true) ≡ true
or_true true = refl
or_true false = refl

end_far : (i : Interval) (rest : List Interval) → IsRow (i ∷ rest) → i.to ≤ℤ row_end i.to rest
end_far i [] h = omega (arith, ints)
end_far i (j ∷ js) h =
    let apart : i.to <ℤ j.from = h.1 in
    let some : j.from <ℤ j.to = some_first j js h.2 in
    let far : j.to ≤ℤ row_end j.to js = end_far j js h.2 in omega (arith, ints, apart, some, far)

row_from : (i : Interval) (rest : List Interval) (z : ℤ) → IsRow (i ∷ rest) → row_has (i ∷ rest) z ≡ true → i.from ≤ℤ z
row_from i rest z h e = by_lt_z z i.from
    (λ less. let some : i.from <ℤ i.to = some_first i rest h in absurd (true_false (sym e ∙ begun i rest z h (omega (arith, ints, less, some)) ∙ not_yet i z less)))
    (λ more. more)
  where
    not_yet : (i : Interval) (z : ℤ) → z <ℤ i.from → int_le i.from z ≡ false
    not_yet i z less = grind (arith, ints)

row_to : (i : Interval) (rest : List Interval) (z : ℤ) → IsRow (i ∷ rest) → row_has (i ∷ rest) z ≡ true → z <ℤ row_end i.to rest
row_to i [] z h e = by_lt_z z i.to (λ less. less) (λ more. absurd (true_false (sym e ∙ has_after i [] z more)))
row_to i (j ∷ js) z h e = by_lt_z z i.to
    (λ less. let far : i.to ≤ℤ row_end j.to js = end_far i (j ∷ js) h in omega (arith, ints, less, far))
    (λ more. row_to j js z h.2 (sym (has_after i (j ∷ js) z more) ∙ e))

inside : (i : Interval) (rest : List Interval) (z : ℤ) → i.from ≤ℤ z → z <ℤ i.to → row_has (i ∷ rest) z ≡ true
inside i rest z low high = ap (λ t. t || row_has rest z) (own i z low high)
  where
    own : (i : Interval) (z : ℤ) → i.from ≤ℤ z → z <ℤ i.to → (int_le i.from z && int_lt z i.to) ≡ true
    own i z low high = grind (arith, ints)

last_has : (i : Interval) (rest : List Interval) → IsRow (i ∷ rest) → row_has (i ∷ rest) (row_end i.to rest -ℤ pos 1) ≡ true
last_has i [] h = inside i [] (i.to -ℤ pos 1) (omega (arith, ints, h)) (omega (arith, ints))
last_has i (j ∷ js) h =
    let z = row_end j.to js -ℤ pos 1 in
    ap (λ t. (int_le i.from z && int_lt z i.to) || t) (last_has j js h.2) ∙ or_true (int_le i.from z && int_lt z i.to)

and_parts : (a b : Bool) → ((a && b) || false) ≡ true → (a ≡ true) × (b ≡ true)
and_parts true true e = (refl, refl)
and_parts true false e = absurd (true_false (sym e))
and_parts false b e = absurd (true_false (sym e))

in_band : (b : Band) (x z : ℤ) → b.top ≤ℤ z → z <ℤ b.bottom → row_has b.row x ≡ true → has (b ∷ []) x z ≡ true
in_band b x z low high e = rw (rows b z low high, e) refl
  where
    rows : (b : Band) (z : ℤ) → b.top ≤ℤ z → z <ℤ b.bottom → in_rows (rows_of b) z ≡ true
    rows b z low high = grind (arith, ints)

within : (q : Rectangle) (x z : ℤ) → q.rows.top ≤ℤ z → z <ℤ q.rows.bottom → q.columns.from ≤ℤ x → x <ℤ q.columns.to → in_rectangle q x z ≡ true
within q x z a b c d = grind (arith, ints)

of_within : (q : Rectangle) (x z : ℤ) → in_rectangle q x z ≡ true → (q.rows.top ≤ℤ z) × (z <ℤ q.rows.bottom) × (q.columns.from ≤ℤ x) × (x <ℤ q.columns.to)
of_within q x z e = (top q x z e, bottom q x z e, from q x z e, to q x z e)
  where
    top : (q : Rectangle) (x z : ℤ) → in_rectangle q x z ≡ true → q.rows.top ≤ℤ z
    top q x z e = grind (arith, ints)

    bottom : (q : Rectangle) (x z : ℤ) → in_rectangle q x z ≡ true → z <ℤ q.rows.bottom
    bottom q x z e = grind (arith, ints)

    from : (q : Rectangle) (x z : ℤ) → in_rectangle q x z ≡ true → q.columns.from ≤ℤ x
    from q x z e = grind (arith, ints)

    to : (q : Rectangle) (x z : ℤ) → in_rectangle q x z ≡ true → x <ℤ q.columns.to
    to q x z e = grind (arith, ints)

in_rows_parts : (b : Band) (z : ℤ) → in_rows (rows_of b) z ≡ true → (b.top ≤ℤ z) × (z <ℤ b.bottom)
in_rows_parts b z e = (top b z e, bottom b z e)
  where
    top : (b : Band) (z : ℤ) → in_rows (rows_of b) z ≡ true → b.top ≤ℤ z
    top b z e = grind (arith, ints)

    bottom : (b : Band) (z : ℤ) → in_rows (rows_of b) z ≡ true → z <ℤ b.bottom
    bottom b z e = grind (arith, ints)

-- the rectangle of a band with its row in parts
box_at : (b : Band) (i : Interval) (rest : List Interval) (q : Rectangle) → IsBand b → b.row ≡ i ∷ rest → LiesIn (rect b.top b.bottom i.from (row_end i.to rest)) q ↔ HoldsAll q (b ∷ [])
box_at b i rest q h is =
    let row : IsRow (i ∷ rest) = subst IsRow is h.row in
    let some : b.top <ℤ b.bottom = h.some in (
      λ l. λ x z e.
          let parts = and_parts (in_rows (rows_of b) z) (row_has b.row x) e in
          let rows = in_rows_parts b z parts.0 in
          let there : row_has (i ∷ rest) x ≡ true = sym (ap (λ u. row_has u x) is) ∙ parts.1 in
          let from : i.from ≤ℤ x = row_from i rest x row there in
          let to : x <ℤ row_end i.to rest = row_to i rest x row there in
          within q x z (omega (arith, ints, l.top, rows.0)) (omega (arith, ints, l.bottom, rows.1)) (omega (arith, ints, l.from, from)) (omega (arith, ints, l.to, to)),
      λ all.
          let first = of_within q i.from b.top (all i.from b.top (in_band b i.from b.top (omega (arith, ints)) some (ap (λ u. row_has u i.from) is ∙ inside i rest i.from (omega (arith, ints)) (some_first i rest row)))) in
          let last = of_within q (row_end i.to rest -ℤ pos 1) (b.bottom -ℤ pos 1)
          (all (row_end i.to rest -ℤ pos 1) (b.bottom -ℤ pos 1) (in_band b (row_end i.to rest -ℤ pos 1) (b.bottom -ℤ pos 1) (omega (arith, ints, some)) (omega (arith, ints)) (ap (λ u. row_has u (row_end i.to rest -ℤ pos 1)) is ∙ last_has i rest row))) in
          record { top = first.0; bottom = omega (arith, ints, last.1); from = first.2; to = omega (arith, ints, last.3) },
    )

box : (b : Band) (bs : List Band) (r q : Rectangle) → IsBand b → first_bounds (b ∷ bs) ≡ Some r → LiesIn r q ↔ HoldsAll q (b ∷ [])
box b bs r q h e = go b.row refl
  where
    go : (row : List Interval) → b.row ≡ row → LiesIn r q ↔ HoldsAll q (b ∷ [])
    go [] is = absurd (h.columns is)
    go (i ∷ rest) is =
        let r_is : rect b.top b.bottom i.from (row_end i.to rest) ≡ r = same_Some _ r (sym (ap (λ u. option_map (λ columns. record { rows = rows_of b; columns = columns }) (columns_of u)) is) ∙ e) in
        subst (λ u. LiesIn u q ↔ HoldsAll q (b ∷ [])) r_is (box_at b i rest q h is)

some_box : (b : Band) (bs : List Band) → IsBand b → first_bounds (b ∷ bs) ≡ None → ⊥
some_box b bs h e = go b.row refl
  where
    no : (r : Rectangle) → Some r ≡ None → ⊥
    no r f = cc

    go : (row : List Interval) → b.row ≡ row → ⊥
    go [] is = h.columns is
    go (i ∷ rest) is = no _ (sym (ap (λ u. option_map (λ columns. record { rows = rows_of b; columns = columns }) (columns_of u)) is) ∙ e)

pub no_bounds : (l : List Band) → AreBands l → first_bounds l ≡ None → l ≡ []
no_bounds [] h e = refl
no_bounds (b ∷ bs) h e = absurd (some_box b bs (first_band b bs h) e)

-- ---- all bands

holds_first : (p t : Bool) → (p || false) ≡ true → (p || t) ≡ true
holds_first true t e = refl
holds_first false t e = absurd (true_false (sym e))

holds_rest : (p t : Bool) → t ≡ true → (p || t) ≡ true
holds_rest p t e = ap (λ u. p || u) e ∙ or_true p

holds_either : (p t : Bool) (A : Type 0) → (p || t) ≡ true → ((p || false) ≡ true → A) → (t ≡ true → A) → A
holds_either true t A e f g = f refl
holds_either false t A e f g = g e

holds_parts : (q : Rectangle) (b : Band) (bs : List Band) → HoldsAll q (b ∷ bs) ↔ (HoldsAll q (b ∷ []) × HoldsAll q bs)
holds_parts q b bs = (
  λ all. (λ x z e. all x z (holds_first (in_rows (rows_of b) z && row_has b.row x) (has bs x z) e), λ x z e. all x z (holds_rest (in_rows (rows_of b) z && row_has b.row x) (has bs x z) e)),
  λ p. λ x z e. holds_either (in_rows (rows_of b) z && row_has b.row x) (has bs x z) (in_rectangle q x z ≡ true) e (λ f. p.0 x z f) (λ f. p.1 x z f),
)

holds_none : (q : Rectangle) → HoldsAll q []
holds_none q = λ x z e. absurd (true_false (sym e))

pub record Joining (given : Rectangle) (old now : Reading) (r : Rectangle) : Type 0 where
  pub bands : AreBands now.bands
  pub left : now.left ≡ first_row now.bands
  pub all : (q : Rectangle) → (LiesIn r q × HoldsAll q now.bands) ↔ (LiesIn given q × HoldsAll q old.bands)

pub joining_begins : (given : Rectangle) (old : Reading) → AreBands old.bands → old.left ≡ first_row old.bands → Joining given old old given
joining_begins given old h left = record { bands = h; left = left; all = λ q. (λ p. p, λ p. p) }

joins : (r next : Rectangle) (l : List Band) (q : Rectangle) → AreBands l → first_bounds l ≡ Some next → AreBands (rest_of l) × (length (rest_of l) < length l) × ((LiesIn (joined r next) q × HoldsAll q (rest_of l)) ↔ (LiesIn r q × HoldsAll q l))
joins r next [] q h e = absurd (cc)
joins r next (b ∷ bs) q h e =
    let lies = joined_lies r next q in
    let first = box b bs next q (first_band b bs h) e in
    let parts = holds_parts q b bs in (
      band_tail b bs h,
      omega arith,
      (
        λ p. ((lies.0 p.0).0, parts.1 (first.0 (lies.0 p.0).1, p.1)),
        λ p. (lies.1 (p.0, first.1 (parts.0 p.1).0), (parts.0 p.1).1),
      ),
    )

module _ (given : Rectangle) (old now : Reading) (r : Rectangle) (joining : Joining given old now r) (found : Option Rectangle) (found_is : found ≡ first_bounds now.bands) where
  pub joining_more : (next n : Rectangle) (new : Reading) → found ≡ Some next → n ≡ joined r next → new ≡ reading (rest_of now.bands) → Joining given old new n × (length new.bands < length now.bands)
  joining_more next n new some n_is new_is =
      let bands_are : new.bands ≡ rest_of now.bands = ap (λ (u : Reading). u.bands) new_is in
      let made = joins r next now.bands r joining.bands (sym found_is ∙ some) in (
        record {
          bands = subst AreBands (sym bands_are) made.0;
          left = ap (λ (u : Reading). u.left) new_is ∙ ap first_row (sym bands_are);
          all = λ q.
              let at = (joins r next now.bands q joining.bands (sym found_is ∙ some)).2 in
              let before = joining.all q in
              subst (λ l. (LiesIn n q × HoldsAll q l) ↔ (LiesIn given q × HoldsAll q old.bands)) (sym bands_are)
              (subst (λ u. (LiesIn u q × HoldsAll q (rest_of now.bands)) ↔ (LiesIn given q × HoldsAll q old.bands)) (sym n_is) (λ p. before.0 (at.0 p), λ p. at.1 (before.1 p)));
        },
        omega (arith, ap length bands_are, made.1),
      )

  pub joining_done : found ≡ None → IsJoined given old.bands r
  joining_done none =
      let gone : now.bands ≡ [] = no_bounds now.bands joining.bands (sym found_is ∙ none) in
      λ q. (
        λ lies. (joining.all q).0 (lies, subst (HoldsAll q) (sym gone) (holds_none q)),
        λ p. ((joining.all q).1 p).0,
      )

pub all_bounds : (l : List Band) (first r : Rectangle) → AreBands l → first_bounds l ≡ Some first → IsJoined first (rest_of l) r → IsBounds r l
all_bounds [] first r h e all = absurd (cc)
all_bounds (b ∷ bs) first r h e all = record {
  holds = let p = (all r).0 (lies_itself r) in (holds_parts r b bs).1 ((box b bs first r (first_band b bs h) e).0 p.0, p.1);
  least = λ q holds. let parts = (holds_parts q b bs).0 holds in (all q).1 ((box b bs first q (first_band b bs h) e).1 parts.0, parts.1);
}
