-- The bands on both sides of the gap, and a gap that moves.
use Rattle.std.proofs.Common.{◌≡◌, ◌≢◌, ◌<◌, Bool, true, false, List, [], ◌∷◌, ◌++◌, length, refl, sym, ◌∙◌, ap, subst, arith, append_assoc, Option, Some, None, inl, inr}
use Rattle.std.specs.Prelude.{ℤ, ◌<ℤ◌, ◌≤ℤ◌, int_lt, int_le, ◌||◌}
use Rattle.std.specs.List.{last_or}
use Rattle.std.specs.Option.{option_map}
use Rattle.std.proofs.lemmas.Int.{ints}
use Rattle.std.proofs.lemmas.List.{length-append}
use Rattle.region_bands.specs.declared.Rows.{Rows}
use Rattle.region_bands.specs.Bands.{Band, Bands, rows_of, first_row}
use Rattle.region_bands.specs.EachLemmas.{last_cases, last_or_last}
use Rattle.region_rows.specs.declared.Keep.{Keep}
use Rattle.region_rows.specs.Rows.{keeps_place}
use Rattle.region_rows.specs.WalkLemmas.{keeps_place-none}
use Rattle.region_sets.specs.Sets.{has, AreBands, EndBy}
use Rattle.region_sets.specs.Strips.{first_rows_of}
use Rattle.region_sets.specs.Room.{StayAbove, IsGap, GapMoved, ends_below, ends_by, start}
use Rattle.region_sets.specs.SetLemmas.{in_band, end_later, end-append}
use Rattle.region_sets.specs.StripLemmas.{first_band, band_tail, IsStart, starts, nearer_is}
use Rattle.region_sets.specs.KeepLemmas.{BandState, state_begins, none_under}

pub or_false : (b : Bool) → (b || false) ≡ b
or_false true = refl
or_false false = refl

-- places of the first alone are all kept, or none is
pub kept_alone : (k : Keep) (t : Bool) → keeps_place k true false ≡ true → keeps_place k t false ≡ t
kept_alone k true is = is
kept_alone k false is = keeps_place-none k

pub kept_out : (k : Keep) (t : Bool) → keeps_place k true false ≡ false → keeps_place k t false ≡ false
kept_out k true is = is
kept_out k false is = keeps_place-none k

pub has_join : (above below : List Band) (x z : ℤ) → has (above ++ below) x z ≡ (has above x z || has below x z)
has_join [] below x z = refl
has_join (b ∷ above) below x z = ap (λ t. in_band b x z || t) (has_join above below x z) ∙ or_assoc (in_band b x z) (has above x z) (has below x z)
  where
    or_assoc : (a b c : Bool) → (a || (b || c)) ≡ ((a || b) || c)
    or_assoc true b c = refl
    or_assoc false b c = refl

pub bands_back : (above below : List Band) → AreBands (above ++ below) → AreBands below
bands_back [] below h = h
bands_back (b ∷ above) below h = bands_back above below (band_tail b (above ++ below) h)

pub bands_front : (above below : List Band) → AreBands (above ++ below) → AreBands above
bands_front [] below h = tt
bands_front (b ∷ []) below h = first_band b below h
bands_front (b ∷ c ∷ above) below h = (h.0, h.1, bands_front (c ∷ above) below h.2)

-- the bands above a band end where it begins or above it
ends_before : (above : List Band) (b : Band) (rest : List Band) → AreBands (above ++ b ∷ rest) → EndBy b.top above
ends_before [] b rest h = tt
ends_before (a ∷ []) b rest h = (h.1.order, tt)
ends_before (a ∷ c ∷ above) b rest h =
    let ends = ends_before (c ∷ above) b rest h.2 in
    let order : a.bottom ≤ℤ c.top = h.1.order in
    let some : c.top <ℤ c.bottom = (first_band c (above ++ b ∷ rest) h.2).some in
    let low : c.bottom ≤ℤ b.top = ends.0 in
    (omega (arith, ints, order, some, low), ends)

-- ---- where a walk begins

gap_ends : (k : Keep) (above below others : List Band) → StayAbove k above others → AreBands (above ++ below) → EndBy (start below others) above
gap_ends k above [] others stay h = subst (λ l. EndBy (start [] l) above) (sym stay.others_are) stay.ends
gap_ends k above (b ∷ below) others stay h =
    let first = stay.first in
    subst (λ l. EndBy (start (b ∷ below) l) above) (sym stay.others_are)
    (elim (nearer_is b.top first.top) [
      | inl e ↦ subst (λ n. EndBy n above) (sym e.0) (ends_before above b below h)
      | inr e ↦ subst (λ n. EndBy n above) (sym e.0) stay.ends
    ])

pub state_enters : (k : Keep) (above below others : List Band) (y : ℤ) → IsGap k above others → AreBands (above ++ below) → AreBands others → y ≡ start below others → BandState k (above ++ below) others above y below others
state_enters k [] below others y gap h h' is =
    let begin = starts below others h h' in
    state_begins k below others y h h' (subst (λ n. IsStart n below) (sym is) begin.0) (subst (λ n. IsStart n others) (sym is) begin.1)
state_enters k (c ∷ above) below others y (inl none) h h' is = absurd (cc)
state_enters k (c ∷ above) below others y (inr stay) h h' is =
    let back = bands_back (c ∷ above) below h in
    let begin = starts below others back h' in
    let start_a = subst (λ n. IsStart n below) (sym is) begin.0 in
    let start_b = subst (λ n. IsStart n others) (sym is) begin.1 in
    let ends : EndBy y (c ∷ above) = subst (λ n. EndBy n (c ∷ above)) (sym is) (gap_ends k (c ∷ above) below others stay h) in
    record {
      bands_a = back;
      bands_b = h';
      ahead_a = start_a.ahead;
      ahead_b = start_b.ahead;
      same_a = λ x z low. sym (has_join (c ∷ above) below x z ∙ ap (λ t. t || has below x z) (none_under x z y (c ∷ above) ends low));
      same_b = λ x z low. refl;
      are_bands = bands_front (c ∷ above) below h;
      ends = ends;
      so_far = λ x z less. sym (
          ap (λ t. keeps_place k t (has others x z)) (has_join (c ∷ above) below x z ∙ ap (λ t. has (c ∷ above) x z || t) (start_a.before x z less) ∙ or_false (has (c ∷ above) x z))
          ∙ ap (keeps_place k (has (c ∷ above) x z)) (start_b.before x z less) ∙ kept_alone k (has (c ∷ above) x z) stay.stays);
    }

-- ---- the gap moves

pub unmoved : (old : Bands) → GapMoved old old
unmoved old = record { all = refl; same = refl }

pub moved_on : (old now new : Bands) → GapMoved old now → GapMoved now new → GapMoved old new
moved_on old now new h k = record { all = k.all ∙ h.all; same = k.same ∙ ap (λ (u : Bands). record u { above = new.above; left = new.left; below = new.below }) h.same }

pub still_bands : (old now : Bands) → GapMoved old now → AreBands (old.above ++ old.below) → AreBands (now.above ++ now.below)
still_bands old now moved h = subst AreBands (sym moved.all) h

true_false : true ≡ false → ⊥
true_false e = cc

-- the last band above the gap, where it ends below y
pub last_below : (y : ℤ) (above : List Band) (found : Option Rows) (test : Bool) → found ≡ option_map rows_of (last_or None above) → test ≡ ends_below y found → test ≡ true → (front : List Band) × (last : Band) × (above ≡ front ++ last ∷ [])
last_below y above found test f t is = elim (last_cases above) [
  | inl none ↦ absurd (true_false (sym is ∙ t ∙ ap (ends_below y) (f ∙ ap (λ l. option_map rows_of (last_or None l)) none)))
  | inr there ↦ (there.0, there.1, there.2)
]

pub last_there : (y : ℤ) (above : List Band) (found : Option Rows) (test : Bool) → found ≡ option_map rows_of (last_or None above) → test ≡ ends_below y found → test ≡ true → above ≢ []
last_there y above found test f t is none = true_false (sym is ∙ t ∙ ap (ends_below y) (f ∙ ap (λ l. option_map rows_of (last_or None l)) none))

pub moved_up : (now new : Bands) (front : List Band) (last : Band) → now.above ≡ front ++ last ∷ [] → new ≡ record now { above = front; left = last.row; below = last ∷ now.below } → GapMoved now new × (length new.above < length now.above)
moved_up now new front last is makes =
    let above : new.above ≡ front = ap (λ (u : Bands). u.above) makes in
    let below : new.below ≡ last ∷ now.below = ap (λ (u : Bands). u.below) makes in
    let left : new.left ≡ last.row = ap (λ (u : Bands). u.left) makes in (
      record {
        all = ap (λ l. l ++ new.below) above ∙ ap (λ l. front ++ l) below ∙ sym (append_assoc front (last ∷ []) now.below) ∙ ap (λ l. l ++ now.below) (sym is);
        same = makes ∙ ap (λ l. record now { above = l; left = last.row; below = last ∷ now.below }) (sym above) ∙ ap (λ l. record now { above = new.above; left = l; below = last ∷ now.below }) (sym left)
            ∙ ap (λ l. record now { above = new.above; left = new.left; below = l }) (sym below);
      },
      omega (arith, ap length above, ap length is, length-append front (last ∷ [])),
    )

-- no band above the gap ends below y, as the last doesn't
pub all_end : (y : ℤ) (above below : List Band) (found : Option Rows) (test : Bool) → AreBands (above ++ below) → found ≡ option_map rows_of (last_or None above) → test ≡ ends_below y found → test ≡ false → EndBy y above
all_end y above below found test h f t is = elim (last_cases above) [
  | inl none ↦ subst (EndBy y) (sym none) tt
  | inr there ↦
      let front = there.0 in
      let last = there.1 in
      let front_bands : AreBands (front ++ last ∷ []) = subst AreBands there.2 (bands_front above below h) in
      let test_is : int_lt y last.bottom ≡ false = sym (ap (ends_below y) (f ∙ ap (λ l. option_map rows_of (last_or None l)) there.2 ∙ ap (option_map rows_of) (last_or_last None front last))) ∙ sym t ∙ is in
      let low : last.bottom ≤ℤ y = not_below y last.bottom test_is in
      let some : last.top <ℤ last.bottom = (first_band last [] (bands_back front (last ∷ []) front_bands)).some in
      subst (EndBy y) (sym there.2) (end-append y front last (end_later last.top y front (omega (arith, ints, low, some)) (ends_before front last [] front_bands)) low)
]
  where
    not_below : (a b : ℤ) → int_lt a b ≡ false → b ≤ℤ a
    not_below a b e = grind (arith, ints)

-- the first band below the gap, where it ends by y
pub first_there : (y : ℤ) (below : List Band) (found : Option Rows) (test : Bool) → found ≡ first_rows_of below → test ≡ ends_by y found → test ≡ true → (first : Band) × (rest : List Band) × (below ≡ first ∷ rest) × (first.bottom ≤ℤ y)
first_there y [] found test f t is = absurd (true_false (sym is ∙ t ∙ ap (ends_by y) f))
first_there y (b ∷ rest) found test f t is = (b, rest, refl, by_now b.bottom y (sym (ap (ends_by y) f) ∙ sym t ∙ is))
  where
    by_now : (a b : ℤ) → int_le a b ≡ true → a ≤ℤ b
    by_now a b e = grind (arith, ints)

pub some_below : (y : ℤ) (below : List Band) (found : Option Rows) (test : Bool) → found ≡ first_rows_of below → test ≡ ends_by y found → test ≡ true → below ≢ []
some_below y below found test f t is none = true_false (sym is ∙ t ∙ ap (ends_by y) (f ∙ ap first_rows_of none))

pub moved_down : (y : ℤ) (now new : Bands) (first : Band) (rest : List Band) → EndBy y now.above → now.below ≡ first ∷ rest → first.bottom ≤ℤ y → new ≡ record now { above = now.above ++ first ∷ []; left = first_row rest; below = rest }
    → GapMoved now new × EndBy y new.above × (length new.below < length now.below)
moved_down y now new first rest ends is low makes =
    let above : new.above ≡ now.above ++ first ∷ [] = ap (λ (u : Bands). u.above) makes in
    let below : new.below ≡ rest = ap (λ (u : Bands). u.below) makes in
    let left : new.left ≡ first_row rest = ap (λ (u : Bands). u.left) makes in (
      record {
        all = ap (λ l. l ++ new.below) above ∙ ap (λ l. (now.above ++ first ∷ []) ++ l) below ∙ append_assoc now.above (first ∷ []) rest ∙ ap (λ l. now.above ++ l) (sym is);
        same = makes ∙ ap (λ l. record now { above = l; left = first_row rest; below = rest }) (sym above) ∙ ap (λ l. record now { above = new.above; left = l; below = rest }) (sym left)
            ∙ ap (λ l. record now { above = new.above; left = new.left; below = l }) (sym below);
      },
      subst (EndBy y) (sym above) (end-append y now.above first ends low),
      omega (arith, ap length below, ap length is),
    )

-- the gap stands before all bands
pub rewound : (old new : Bands) → new ≡ record old { above = []; left = first_row (old.above ++ old.below); below = old.above ++ old.below } → GapMoved old new × (new.above ≡ [])
rewound old new makes =
    let above : new.above ≡ [] = ap (λ (u : Bands). u.above) makes in
    let below : new.below ≡ old.above ++ old.below = ap (λ (u : Bands). u.below) makes in
    let left : new.left ≡ first_row (old.above ++ old.below) = ap (λ (u : Bands). u.left) makes in (
      record {
        all = ap (λ l. l ++ new.below) above ∙ below;
        same = makes ∙ ap (λ l. record old { above = l; left = first_row (old.above ++ old.below); below = old.above ++ old.below }) (sym above)
            ∙ ap (λ l. record old { above = new.above; left = l; below = old.above ++ old.below }) (sym left) ∙ ap (λ l. record old { above = new.above; left = new.left; below = l }) (sym below);
      },
      above,
    )

-- the bands above stay, and end where the others begin
pub gap_there : (k : Keep) (above others : List Band) (found : Option Rows) (rows : Rows) → found ≡ first_rows_of others → found ≡ Some rows → keeps_place k true false ≡ true → EndBy rows.top above → IsGap k above others
gap_there k above [] found rows f is stays ends = absurd (let none : None ≡ Some rows = sym f ∙ is in cc)
gap_there k above (b ∷ rest) found rows f is stays ends = inr (record {
  stays = stays;
  first = b;
  rest = rest;
  others_are = refl;
  ends = subst (λ n. EndBy n above) (top (rows_of b) rows (sym f ∙ is)) ends;
})
  where
    top : (a b : Rows) → Some a ≡ Some b → b.top ≡ a.top
    top a b e = cc

pub reread : (now new : Bands) → new ≡ record now { left = first_row now.below } → GapMoved now new × (new.left ≡ first_row new.below)
reread now new makes =
    let above : new.above ≡ now.above = ap (λ (u : Bands). u.above) makes in
    let below : new.below ≡ now.below = ap (λ (u : Bands). u.below) makes in
    let left : new.left ≡ first_row now.below = ap (λ (u : Bands). u.left) makes in (
      record {
        all = ap (λ l. l ++ new.below) above ∙ ap (λ l. now.above ++ l) below;
        same = makes ∙ ap (λ l. record now { above = l; left = first_row now.below }) (sym above) ∙ ap (λ l. record now { above = new.above; left = l }) (sym left)
            ∙ ap (λ l. record now { above = new.above; left = new.left; below = l }) (sym below);
      },
      left ∙ ap first_row (sym below),
    )
