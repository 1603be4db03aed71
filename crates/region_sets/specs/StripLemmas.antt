-- One step over two lists of bands: the edge up to which both are the same, and what is left below it.
use Rattle.std.proofs.Common.{◌≡◌, ℕ, ◌+◌, ◌*◌, ◌≤◌, ◌<◌, Bool, true, false, cond, ◌&&◌, List, [], ◌∷◌, length, refl, sym, ◌∙◌, ap, subst, arith, Some, None, ◌⊎◌, inl, inr}
use Rattle.std.specs.Prelude.{ℤ, ◌<ℤ◌, ◌≤ℤ◌, int_lt, int_le, ◌||◌}
use Rattle.std.proofs.lemmas.Int.{ints, by_lt_z}
use Rattle.std.proofs.lemmas.Option.{same_Some}
use Rattle.region_bands.specs.Bands.{Band, rows_of, first_row}
use Rattle.region_rows.specs.Rows.{row_has}
use Rattle.region_sets.specs.declared.strips.Strip.{Strip}
use Rattle.region_sets.specs.Sets.{in_rows, has, IsBand, AreBands}
use Rattle.region_sets.specs.Strips.{edge_of, nearer, next_strip, start_of, later, first_rows_of}

pub first_band : (b : Band) (bs : List Band) → AreBands (b ∷ bs) → IsBand b
first_band b [] h = h
first_band b (c ∷ bs) h = h.0

pub band_tail : (b : Band) (bs : List Band) → AreBands (b ∷ bs) → AreBands bs
band_tail b [] h = tt
band_tail b (c ∷ bs) h = h.2

-- the bands begin at n or below it
abbrev pub From : ℤ → List Band → Type 0
From n [] = Unit {0}
From n (b ∷ bs) = n ≤ℤ b.top

pub tail_from : (b : Band) (bs : List Band) → AreBands (b ∷ bs) → From b.bottom bs
tail_from b [] h = tt
tail_from b (c ∷ bs) h = h.1.order

from_less : (n m : ℤ) (bs : List Band) → m ≤ℤ n → From n bs → From m bs
from_less n m [] h f = tt
from_less n m (b ∷ bs) h f = omega (arith, ints, h, f)

-- above the bands there is none
pub none_above : (x z n : ℤ) (bs : List Band) → AreBands bs → From n bs → z <ℤ n → has bs x z ≡ false
none_above x z n [] h f low = refl
none_above x z n (b ∷ bs) h f low =
    let some : b.top <ℤ b.bottom = (first_band b bs h).some in
    ap (λ t. t || has bs x z) (ap (λ t. t && row_has b.row x) (out b (omega (arith, ints, f, low))))
    ∙ none_above x z b.bottom bs (band_tail b bs h) (tail_from b bs h) (omega (arith, ints, f, low, some))
  where
    out : (b : Band) → z <ℤ b.top → in_rows (rows_of b) z ≡ false
    out b low = grind (arith, ints)

-- below the first band the others count
pub has_below : (b : Band) (bs : List Band) (x z : ℤ) → b.bottom ≤ℤ z → has (b ∷ bs) x z ≡ has bs x z
has_below b bs x z low = ap (λ t. (t && row_has b.row x) || has bs x z) (out b z low)
  where
    out : (b : Band) (z : ℤ) → b.bottom ≤ℤ z → in_rows (rows_of b) z ≡ false
    out b z low = grind (arith, ints)

or_false : (b : Bool) → (b || false) ≡ b
or_false true = refl
or_false false = refl

-- before the first band's end it alone counts
pub in_the_first : (b : Band) (bs : List Band) (x z : ℤ) → AreBands (b ∷ bs) → z <ℤ b.bottom → has (b ∷ bs) x z ≡ (int_le b.top z && row_has b.row x)
in_the_first b bs x z h high =
    ap (λ t. (in_rows (rows_of b) z && row_has b.row x) || t) (none_above x z b.bottom bs (band_tail b bs h) (tail_from b bs h) high)
    ∙ or_false (in_rows (rows_of b) z && row_has b.row x) ∙ ap (λ t. t && row_has b.row x) (begun b z high)
  where
    begun : (b : Band) (z : ℤ) → z <ℤ b.bottom → (int_le b.top z && int_lt z b.bottom) ≡ int_le b.top z
    begun b z high = grind (arith, ints)

-- the first band ends below y
abbrev pub Ahead : ℤ → List Band → Type 0
Ahead y [] = Unit {0}
Ahead y (b ∷ bs) = y <ℤ b.bottom

abbrev pub Reaches : ℤ → List Band → Type 0
Reaches edge [] = Unit {0}
Reaches edge (b ∷ bs) = edge ≤ℤ b.bottom

-- an edge below y, up to which the bands have what the first band's row has, or nothing
pub record IsEdge (y edge : ℤ) (inside : Bool) (bs : List Band) : Type 0 where
  pub after : y <ℤ edge
  pub reaches : Reaches edge bs
  pub flat : (x z : ℤ) → y ≤ℤ z → z <ℤ edge → has bs x z ≡ (inside && row_has (first_row bs) x)

abbrev pub OwnEdge : ℤ → ℤ → List Band → Type 0
OwnEdge y edge [] = ⊥
OwnEdge y edge (b ∷ bs) = edge ≡ edge_of y (rows_of b)

pub record IsStrip (y : ℤ) (a b : List Band) (s : Strip) : Type 0 where
  pub edge_a : IsEdge y s.bottom s.in_first a
  pub edge_b : IsEdge y s.bottom s.in_second b
  pub own : OwnEdge y s.bottom a ⊎ OwnEdge y s.bottom b

pub not_yet : (b : Band) (z : ℤ) → z <ℤ b.top → int_le b.top z ≡ false
not_yet b z less = grind (arith, ints)

pub has_begun : (b : Band) (z : ℤ) → b.top ≤ℤ z → int_le b.top z ≡ true
has_begun b z more = grind (arith, ints)

own_edge : (b : Band) (bs : List Band) (y : ℤ) → AreBands (b ∷ bs) → y <ℤ b.bottom → IsEdge y (edge_of y (rows_of b)) (int_le b.top y) (b ∷ bs)
own_edge b bs y h ahead = by_lt_z y b.top
    (λ less. let P : Bool → Type 0 = λ t. IsEdge y (cond t b.bottom b.top) t (b ∷ bs) in
    let some : b.top <ℤ b.bottom = (first_band b bs h).some in
    subst P (sym (not_yet b y less)) (record {
      after = less;
      reaches = omega (arith, ints);
      flat = λ x z low high. in_the_first b bs x z h (omega (arith, ints)) ∙ ap (λ t. t && row_has b.row x) (not_yet b z high);
    }))
    (λ more. let P : Bool → Type 0 = λ t. IsEdge y (cond t b.bottom b.top) t (b ∷ bs) in subst P (sym (has_begun b y more)) (record {
      after = ahead;
      reaches = omega (arith, ints);
      flat = λ x z low high. in_the_first b bs x z h high ∙ ap (λ t. t && row_has b.row x) (has_begun b z (omega (arith, ints)));
    }))

no_edge : (y e : ℤ) → y <ℤ e → IsEdge y e false []
no_edge y e h = record { after = h; reaches = tt; flat = λ x z low high. refl }

nearer_edge : (bs : List Band) (y e a : ℤ) (inside : Bool) → IsEdge y e inside bs → y <ℤ a → a ≤ℤ e → IsEdge y a inside bs
nearer_edge bs y e a inside h after near = record {
  after = after;
  reaches = go bs h.reaches;
  flat = λ x z low high. h.flat x z low (omega (arith, ints));
}
  where
    go : (bs : List Band) → Reaches e bs → Reaches a bs
    go [] r = tt
    go (q ∷ qs) r = omega (arith, ints, r, near)

pub nearer_is : (a b : ℤ) → ((nearer a b ≡ a) × (a <ℤ b)) ⊎ ((nearer a b ≡ b) × (b ≤ℤ a))
nearer_is a b = by_lt_z a b (λ less. inl (first a b less, less)) (λ more. inr (second a b more, more))
  where
    first : (a b : ℤ) → a <ℤ b → nearer a b ≡ a
    first a b less = let e : int_lt a b ≡ true = grind (arith, ints) in ap (λ t. cond t a b) e

    second : (a b : ℤ) → b ≤ℤ a → nearer a b ≡ b
    second a b more = let e : int_lt a b ≡ false = grind (arith, ints) in ap (λ t. cond t a b) e

pub strip_is : (y : ℤ) (a b : List Band) (s : Strip) → AreBands a → AreBands b → Ahead y a → Ahead y b → next_strip y (first_rows_of a) (first_rows_of b) ≡ Some s → IsStrip y a b s
strip_is y [] [] s h k ahead ahead' e = absurd (cc)
strip_is y [] (j ∷ js) s h k ahead ahead' e =
    let edge = own_edge j js y k ahead' in
    subst (IsStrip y [] (j ∷ js)) (same_Some _ s e) (record { edge_a = no_edge y (edge_of y (rows_of j)) edge.after; edge_b = edge; own = inr refl })
strip_is y (i ∷ is) [] s h k ahead ahead' e =
    let edge = own_edge i is y h ahead in
    subst (IsStrip y (i ∷ is) []) (same_Some _ s e) (record { edge_a = edge; edge_b = no_edge y (edge_of y (rows_of i)) edge.after; own = inl refl })
strip_is y (i ∷ is) (j ∷ js) s h k ahead ahead' e =
    let edge = own_edge i is y h ahead in
    let edge' = own_edge j js y k ahead' in
    let at = edge_of y (rows_of i) in
    let at' = edge_of y (rows_of j) in
    subst (IsStrip y (i ∷ is) (j ∷ js)) (same_Some _ s e) (elim (nearer_is at at') [
      | inl m ↦ record {
        edge_a = subst (λ n. IsEdge y n (int_le i.top y) (i ∷ is)) (sym m.0) edge;
        edge_b = subst (λ n. IsEdge y n (int_le j.top y) (j ∷ js)) (sym m.0) (nearer_edge (j ∷ js) y at' at (int_le j.top y) edge' edge.after (omega (arith, ints, m.1)));
        own = inl m.0;
      }
      | inr m ↦ record {
        edge_a = subst (λ n. IsEdge y n (int_le i.top y) (i ∷ is)) (sym m.0) (nearer_edge (i ∷ is) y at at' (int_le i.top y) edge edge'.after m.1);
        edge_b = subst (λ n. IsEdge y n (int_le j.top y) (j ∷ js)) (sym m.0) edge';
        own = inr m.0;
      }
    ])

pub no_strip : (y : ℤ) (a b : List Band) → next_strip y (first_rows_of a) (first_rows_of b) ≡ None → (a ≡ []) × (b ≡ [])
no_strip y [] [] e = (refl, refl)
no_strip y [] (j ∷ js) e = absurd (cc)
no_strip y (i ∷ is) [] e = absurd (cc)
no_strip y (i ∷ is) (j ∷ js) e = absurd (cc)

-- the bands begin at n or below it, and there are none above
pub record IsStart (n : ℤ) (bs : List Band) : Type 0 where
  pub ahead : Ahead n bs
  pub before : (x z : ℤ) → z <ℤ n → has bs x z ≡ false

start_of_bands : (b : Band) (bs : List Band) (n : ℤ) → AreBands (b ∷ bs) → n ≤ℤ b.top → IsStart n (b ∷ bs)
start_of_bands b bs n h low = record {
  ahead = let some : b.top <ℤ b.bottom = (first_band b bs h).some in omega (arith, ints);
  before = λ x z less. none_above x z n (b ∷ bs) h low less;
}

no_start : (n : ℤ) → IsStart n []
no_start n = record { ahead = tt; before = λ x z less. refl }

pub starts : (a b : List Band) → AreBands a → AreBands b → IsStart (start_of (first_rows_of a) (first_rows_of b)) a × IsStart (start_of (first_rows_of a) (first_rows_of b)) b
starts [] [] h k = (no_start _, no_start _)
starts [] (j ∷ js) h k = (no_start j.top, start_of_bands j js j.top k (omega (arith, ints)))
starts (i ∷ is) [] h k = (start_of_bands i is i.top h (omega (arith, ints)), no_start i.top)
starts (i ∷ is) (j ∷ js) h k = elim (nearer_is i.top j.top) [
  | inl e ↦ (
    subst (λ n. IsStart n (i ∷ is)) (sym e.0) (start_of_bands i is i.top h (omega (arith, ints))),
    subst (λ n. IsStart n (j ∷ js)) (sym e.0) (start_of_bands j js i.top k (omega (arith, ints, e.1))),
  )
  | inr e ↦ (
    subst (λ n. IsStart n (i ∷ is)) (sym e.0) (start_of_bands i is j.top h e.1),
    subst (λ n. IsStart n (j ∷ js)) (sym e.0) (start_of_bands j js j.top k (omega (arith, ints))),
  )
]

-- ---- what is left below an edge

-- how many edges of bands lie below y
abbrev pub edges_left : ℤ → List Band → ℕ
edges_left y [] = 0
edges_left y (b ∷ bs) = cond (int_le b.top y) 1 2 + 2 * length bs

pub record IsLater (edge : ℤ) (bs later : List Band) : Type 0 where
  pub are_bands : AreBands later
  pub ahead : Ahead edge later
  pub same : (x z : ℤ) → edge ≤ℤ z → has later x z ≡ has bs x z
  pub at_most : (y : ℤ) → y ≤ℤ edge → edges_left edge later ≤ edges_left y bs
  pub less : (y : ℤ) → y <ℤ edge → OwnEdge y edge bs → edges_left edge later < edges_left y bs

some_test : (b : Bool) → 1 ≤ cond b 1 2
some_test true = omega arith
some_test false = omega arith

most_test : (b : Bool) → cond b 1 2 ≤ 2
most_test true = omega arith
most_test false = omega arith

pub edges_most : (y : ℤ) (bs : List Band) → edges_left y bs ≤ 2 * length bs
edges_most y [] = omega arith
edges_most y (b ∷ bs) = omega (arith, most_test (int_le b.top y))

passed_more : (b : Band) (y z : ℤ) → y ≤ℤ z → cond (int_le b.top z) 1 2 ≤ cond (int_le b.top y) 1 2
passed_more b y z h = by_lt_z y b.top
    (λ less. let e : int_le b.top y ≡ false = not_yet b y less in rw e (most_test (int_le b.top z)))
    (λ more. let e : int_le b.top y ≡ true = has_begun b y more in let f : int_le b.top z ≡ true = has_begun b z (omega (arith, ints)) in rw (e, f) (omega arith))

all_ahead : (edge : ℤ) (b : Band) (bs : List Band) → AreBands (b ∷ bs) → edge ≤ℤ b.bottom → Ahead edge bs
all_ahead edge b [] h low = tt
all_ahead edge b (c ∷ bs) h low = let some : c.top <ℤ c.bottom = (first_band c bs h.2).some in let order : b.bottom ≤ℤ c.top = h.1.order in omega (arith, ints, some, order, low)

gone : (edge : ℤ) (b : Band) (bs : List Band) → AreBands (b ∷ bs) → edge ≤ℤ b.bottom → b.bottom ≤ℤ edge → IsLater edge (b ∷ bs) bs
gone edge b bs h reaches ended = record {
  are_bands = band_tail b bs h;
  ahead = all_ahead edge b bs h reaches;
  same = λ x z low. sym (has_below b bs x z (omega (arith, ints, ended, low)));
  at_most = λ y low. omega (arith, edges_most edge bs);
  less = λ y low own. omega (arith, edges_most edge bs, some_test (int_le b.top y));
}

stays : (edge : ℤ) (b : Band) (bs : List Band) → AreBands (b ∷ bs) → edge <ℤ b.bottom → IsLater edge (b ∷ bs) (b ∷ bs)
stays edge b bs h ahead = record {
  are_bands = h;
  ahead = ahead;
  same = λ x z low. refl;
  at_most = λ y low. omega (arith, passed_more b y edge low);
  less = λ y low own. by_lt_z y b.top
      (λ before.
      let at : edge ≡ b.top = own ∙ ap (λ t. cond t b.bottom b.top) (not_yet b y before) in
      let e : int_le b.top edge ≡ true = has_begun b edge (omega (arith, ints, at)) in
      let f : int_le b.top y ≡ false = not_yet b y before in rw (e, f) (omega arith))
      (λ more. absurd (no edge b.bottom ahead (own ∙ ap (λ t. cond t b.bottom b.top) (has_begun b y more))));
}
  where
    no : (a b : ℤ) → a <ℤ b → a ≡ b → ⊥
    no a b less e = omega (arith, ints, less, e)

pub later_is : (edge : ℤ) (bs : List Band) → AreBands bs → Reaches edge bs → IsLater edge bs (later edge bs)
later_is edge [] h reaches = record { are_bands = tt; ahead = tt; same = λ x z low. refl; at_most = λ y low. omega arith; less = λ y low own. absurd own }
later_is edge (b ∷ bs) h reaches = by_lt_z edge b.bottom
    (λ less. let P : Bool → Type 0 = λ t. IsLater edge (b ∷ bs) (cond t bs (b ∷ bs)) in subst P (sym (after b edge less)) (stays edge b bs h less))
    (λ more. let P : Bool → Type 0 = λ t. IsLater edge (b ∷ bs) (cond t bs (b ∷ bs)) in subst P (sym (ended b edge more)) (gone edge b bs h reaches more))
  where
    after : (b : Band) (z : ℤ) → z <ℤ b.bottom → int_le b.bottom z ≡ false
    after b z less = grind (arith, ints)

    ended : (b : Band) (z : ℤ) → b.bottom ≤ℤ z → int_le b.bottom z ≡ true
    ended b z more = grind (arith, ints)

pub edges_less : (y : ℤ) (a b : List Band) (s : Strip) → AreBands a → AreBands b → IsStrip y a b s → edges_left s.bottom (later s.bottom a) + edges_left s.bottom (later s.bottom b) < edges_left y a + edges_left y b
edges_less y a b s h k strip =
    let f = later_is s.bottom a h strip.edge_a.reaches in
    let g = later_is s.bottom b k strip.edge_b.reaches in
    let after : y <ℤ s.bottom = strip.edge_a.after in
    let low : y ≤ℤ s.bottom = omega (arith, ints, after) in
    elim strip.own as (λ _. edges_left s.bottom (later s.bottom a) + edges_left s.bottom (later s.bottom b) < edges_left y a + edges_left y b) [
      | inl o ↦ omega (arith, f.less y after o, g.at_most y low)
      | inr o ↦ omega (arith, g.less y after o, f.at_most y low)
    ]
