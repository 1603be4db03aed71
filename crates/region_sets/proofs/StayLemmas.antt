-- What a walk over two lists of bands keeps of the room, and of the bands that stay.
use Rattle.std.proofs.Common.{◌≡◌, ◌≢◌, ℕ, ◌+◌, ◌≤◌, ◌<◌, Bool, true, false, not, cond, ◌&&◌, List, [], ◌∷◌, ◌++◌, length, refl, sym, ◌∙◌, ap, subst, arith, Option, Some, None, ◌⊎◌, inl, inr}
use Rattle.std.specs.Prelude.{ℤ, ◌<ℤ◌, ◌≤ℤ◌, int_le, ◌||◌}
use Rattle.std.proofs.lemmas.Int.{ints, by_lt_z}
use Rattle.std.proofs.lemmas.List.{append-nil}
use Rattle.std.proofs.lemmas.Option.{same_Some}
use Rattle.region_bands.specs.declared.Interval.{Interval}
use Rattle.region_bands.specs.declared.Rows.{Rows}
use Rattle.region_bands.specs.Bands.{Band, Bands, Reading, rows_of, first_row, nodes_in, reading}
use Rattle.region_rows.specs.declared.Keep.{Keep}
use Rattle.region_rows.specs.Rows.{row_has, keeps_place}
use Rattle.region_sets.specs.declared.strips.Strip.{Strip}
use Rattle.region_sets.specs.Sets.{in_rows, has, IsBand, Follows, AreBands, EndBy, IsKept}
use Rattle.region_sets.specs.Strips.{next_strip, start_of, later, first_rows_of, FirstIs, IsStripRow, NoneKept, Rests}
use Rattle.region_sets.specs.SetLemmas.{longer, nodes_join, end_later, end-append, has-append, has_nothing, bands_longer, row_stretched}
use Rattle.region_sets.specs.StripLemmas.{first_band, none_above, IsStrip, strip_is, no_strip, edges_left, edges_less}
use Rattle.region_sets.specs.KeepLemmas.{BandState, state_more, state_done, none_under}
use Rattle.region_sets.specs.CutLemmas.{cut_few, row_few}
use Rattle.region_sets.specs.Room.{IsGap, IsRoom, IsWhole, HoldsStrip, Enough, start}
use Rattle.region_sets.specs.WholeLemmas.{whole_bands}
use Rattle.region_sets.specs.GapLemmas.{has_join, kept_alone, kept_out, state_enters}
use Rattle.region_sets.specs.RoomLemmas.{kept_behind, later_few, spare_left, enough_step, enough_more}

pub not_true : (b : Bool) → not b ≡ true → b ≡ false
not_true true e = absurd (cc)
not_true false e = refl

pub not_false : (b : Bool) → not b ≡ false → b ≡ true
not_false true e = refl
not_false false e = absurd (cc)

or_false : (b : Bool) → (b || false) ≡ b
or_false true = refl
or_false false = refl

-- ---- bands above the gap and below it

bands_join : (above : List Band) (first : Band) (rest : List Band) → AreBands above → AreBands (first ∷ rest) → ((front : List Band) (last : Band) → above ≡ front ++ last ∷ [] → Follows last first) → AreBands (above ++ first ∷ rest)
bands_join [] first rest h k follows = k
bands_join (b ∷ []) first rest h k follows = (h, follows [] b refl, k)
bands_join (b ∷ c ∷ above) first rest h k follows = (h.0, h.1, bands_join (c ∷ above) first rest h.2 k (λ front last is. follows (b ∷ front) last (ap (λ l. b ∷ l) is)))

pub end_last : (y : ℤ) (front : List Band) (last : Band) → EndBy y (front ++ last ∷ []) → last.bottom ≤ℤ y
end_last y [] last e = e.0
end_last y (b ∷ front) last e = end_last y front last e.1

pub rest_kept : (k : Keep) (whole_a whole_b above : List Band) (y : ℤ) (a b : List Band) → BandState k whole_a whole_b above y a b → Rests k y above a b → IsKept k whole_a whole_b (above ++ a)
rest_kept k whole_a whole_b above y [] b state rests =
    subst (IsKept k whole_a whole_b) (sym (append-nil above))
    (record { are_bands = state.are_bands; has = state_done k whole_a whole_b above y [] b state refl rests.over })
rest_kept k whole_a whole_b above y (first ∷ rest) b state rests =
    let from : y ≤ℤ first.top = rests.whole first rest refl in
    record {
      are_bands = bands_join above first rest state.are_bands state.bands_a (λ front last is. record {
        order = let low : last.bottom ≤ℤ y = end_last y front last (subst (EndBy y) is state.ends) in omega (arith, ints, low, from);
        apart = rests.apart front last first rest is refl;
      });
      has = λ x z. has_join above (first ∷ rest) x z ∙ by_lt_z z y
          (λ less. ap (λ t. has above x z || t) (none_above x z y (first ∷ rest) state.bands_a from less) ∙ or_false (has above x z) ∙ state.so_far x z less)
          (λ more.
          ap (λ t. t || has (first ∷ rest) x z) (none_under x z y above state.ends more) ∙ state.same_a x z more
          ∙ sym (ap (keeps_place k (has whole_a x z)) (sym (state.same_b x z more) ∙ ap (λ l. has l x z) rests.over) ∙ kept_alone k (has whole_a x z) (rests.stays first rest refl)));
    }

pub none_kept : (k : Keep) (whole_a whole_b above : List Band) (y : ℤ) (a b : List Band) → BandState k whole_a whole_b above y a b → NoneKept k a → IsKept k whole_a whole_b (above ++ a)
none_kept k whole_a whole_b above y a b state none =
    subst (IsKept k whole_a whole_b) (sym (ap (λ l. above ++ l) none.over ∙ append-nil above)) (record {
      are_bands = state.are_bands;
      has = λ x z. by_lt_z z y
          (λ less. state.so_far x z less)
          (λ more. none_under x z y above state.ends more ∙ sym (
          ap (λ t. keeps_place k t (has whole_b x z)) (sym (state.same_a x z more) ∙ ap (λ l. has l x z) none.over) ∙ kept_behind k (has whole_b x z) none.out));
    })

-- ---- the walk

pub from_firsts : (y : ℤ) (a b : List Band) (first second : Option Rows) (found t : Option Strip) → first ≡ first_rows_of a → second ≡ first_rows_of b → found ≡ next_strip y first second → found ≡ t → next_strip y (first_rows_of a) (first_rows_of b) ≡ t
from_firsts y a b first second found t e f g h = ap (λ u. next_strip y u (first_rows_of b)) (sym e) ∙ ap (next_strip y first) (sym f) ∙ sym g ∙ h

pub no_rests : (k : Keep) (y : ℤ) (above below others : List Band) → next_strip y (first_rows_of below) (first_rows_of others) ≡ None → Rests k y above below others
no_rests k y above below others is =
    let ends = no_strip y below others is in
    record {
      over = ends.1;
      stays = λ first rest b. absurd (none first rest (sym ends.0 ∙ b));
      whole = λ first rest b. absurd (none first rest (sym ends.0 ∙ b));
      apart = λ front last first rest a b touch same. none first rest (sym ends.0 ∙ b);
    }
  where
    none : (first : Band) (rest : List Band) → [] ≡ first ∷ rest → ⊥
    none first rest e = cc

pub no_first : (bs : List Band) → first_rows_of bs ≡ None → bs ≡ []
no_first [] e = refl
no_first (b ∷ bs) e = absurd (let gone : Some (rows_of b) ≡ None = e in cc)

-- the first band begins at y or below it, and there are no others
pub rests_for : (k : Keep) (y : ℤ) (above below others : List Band) (rows : Rows) (first second : Option Rows) → first ≡ first_rows_of below → first ≡ Some rows → second ≡ first_rows_of others → second ≡ None → y ≤ℤ rows.top → keeps_place k true false ≡ true
    → ((front : List Band) (last first : Band) (rest : List Band) → above ≡ front ++ last ∷ [] → below ≡ first ∷ rest → last.bottom ≡ first.top → last.row ≢ first.row) → Rests k y above below others
rests_for k y above below others rows first second e f g h low stays apart = record {
  over = no_first others (sym g ∙ h);
  stays = λ band rest is. stays;
  whole = λ band rest is. let top : band.top ≡ rows.top = ap (λ (r : Rows). r.top) (same_Some (rows_of band) rows (ap first_rows_of (sym is) ∙ sym e ∙ f)) in omega (arith, ints, low, top);
  apart = apart;
}

pub record Kept (k : Keep) (old now : Bands) (other left : Reading) (y : ℤ) : Type 0 where
  pub state : BandState k (old.above ++ old.below) other.bands now.above y now.below left.bands
  pub spare : old.spare + nodes_in old.above + nodes_in old.below ≤ now.spare + nodes_in now.above + nodes_in now.below
  pub fewer : nodes_in now.below ≤ nodes_in old.below
  pub room : Enough k y now.below left.bands now.spare ⊎ ((result : List Band) → IsKept k (old.above ++ old.below) other.bands result → nodes_in result + nodes_in result ≤ old.spare)
  pub same : now ≡ record old { above = now.above; left = first_row now.below; below = now.below; spare = now.spare }
  pub read : left ≡ reading left.bands

pub kept_begins : (k : Keep) (old : Bands) (other : Reading) (y : ℤ) (first second : Option Rows) → IsGap k old.above other.bands → AreBands (old.above ++ old.below) → AreBands other.bands → old.left ≡ first_row old.below → other.left ≡ first_row other.bands
    → IsRoom k old.above old.below other.bands old.spare → first ≡ first_rows_of old.below → second ≡ first_rows_of other.bands → y ≡ start_of first second → Kept k old old other other y
kept_begins k old other y first second gap h h' e e' room f f' is =
    let at : y ≡ start old.below other.bands = is ∙ ap (λ u. start_of u second) f ∙ ap (start_of (first_rows_of old.below)) f' in
    record {
      state = state_enters k old.above old.below other.bands y gap h h' at;
      spare = omega arith;
      fewer = omega arith;
      room = elim room [ inl enough ↦ inl (subst (λ n. Enough k n old.below other.bands old.spare) (sym at) enough) | inr whole ↦ inr whole ];
      same = ap (λ l. record old { left = l }) e;
      read = ap (λ l. record other { left = l }) e';
    }

module _ (k : Keep) (old now : Bands) (other left : Reading) (y : ℤ) (h : Kept k old now other left y) where
  pub strip_at : (s : Strip) → next_strip y (first_rows_of now.below) (first_rows_of left.bands) ≡ Some s → IsStrip y now.below left.bands s
  strip_at s is = strip_is y now.below left.bands s h.state.bands_a h.state.bands_b h.state.ahead_a h.state.ahead_b is

  pub left_now : now.left ≡ first_row now.below
  left_now = ap (λ (u : Bands). u.left) h.same

  pub left_other : left.left ≡ first_row left.bands
  left_other = ap (λ (u : Reading). u.left) h.read

  pub row_empty : old.row ≡ [] → now.row ≡ []
  row_empty e = ap (λ (u : Bands). u.row) h.same ∙ e

  -- the room of the result is enough for what is made, and for the row of a strip
  result_room : AreBands (old.above ++ old.below) → AreBands other.bands → ((result : List Band) → IsKept k (old.above ++ old.below) other.bands result → nodes_in result + nodes_in result ≤ old.spare)
      → (s : Strip) → next_strip y (first_rows_of now.below) (first_rows_of left.bands) ≡ Some s
      → (row : List Interval) → IsStripRow k s.in_first s.in_second (first_row now.below) (first_row left.bands) row → row ≢ [] → 2 + length row ≤ now.spare
  result_room bands_a bands_b room s is row r some =
      let all = old.above ++ old.below in
      let whole = whole_bands k all other.bands bands_a bands_b in
      let strip = strip_at s is in
      let after : y <ℤ s.bottom = strip.edge_a.after in
      let low : y ≤ℤ y = omega (arith, ints) in
      let made = cut_few y now.above whole.0 h.state.are_bands whole.1.are_bands h.state.ends (λ x z less. h.state.so_far x z less ∙ sym (whole.1.has x z)) in
      let in_a : (x : ℤ) → has all x y ≡ (s.in_first && row_has (first_row now.below) x) = λ x. sym (h.state.same_a x y low) ∙ strip.edge_a.flat x y low after in
      let in_b : (x : ℤ) → has other.bands x y ≡ (s.in_second && row_has (first_row left.bands) x) = λ x. sym (h.state.same_b x y low) ∙ strip.edge_b.flat x y low after in
      let one = row_few y row whole.0 whole.1.are_bands r.is_row some (λ x. whole.1.has x y ∙ ap (λ t. keeps_place k t (has other.bands x y)) (in_a x) ∙ ap (keeps_place k (s.in_first && row_has (first_row now.below) x)) (in_b x) ∙ sym (r.has x)) in
      omega (arith, made, one, room whole.0 whole.1, h.spare, h.fewer)

  pub strip_room : AreBands (old.above ++ old.below) → AreBands other.bands → (s : Strip) (rows : Rows) → next_strip y (first_rows_of now.below) (first_rows_of left.bands) ≡ Some s → rows ≡ record { top = y; bottom = s.bottom }
      → HoldsStrip k s.in_first s.in_second rows now.below now.left left.left now.spare
  strip_room bands_a bands_b s rows is rows_is = λ part row r some.
      let r' : IsStripRow k s.in_first s.in_second (first_row now.below) (first_row left.bands) row =
      subst (λ l. IsStripRow k s.in_first s.in_second (first_row now.below) l row) left_other (subst (λ l. IsStripRow k s.in_first s.in_second l left.left row) left_now r) in
      let part' : IsWhole s.in_first s.in_second (record { top = y; bottom = s.bottom }) now.below → ⊥ = subst (λ q. IsWhole s.in_first s.in_second q now.below → ⊥) rows_is part in
      elim h.room [
        | inl enough ↦ let step = enough_step k y now.below left.bands now.spare s h.state.bands_a enough is in omega (arith, step.holds part' row r' some, step.fits)
        | inr room ↦ result_room bands_a bands_b room s is row r' some
      ]

  pub kept_more : (s : Strip) (rows : Rows) (w : Bands) (r p : Reading) (y' : ℤ) → next_strip y (first_rows_of now.below) (first_rows_of left.bands) ≡ Some s → rows ≡ record { top = y; bottom = s.bottom } → y' ≡ s.bottom
      → AreBands w.above → EndBy rows.bottom w.above
      → ((x z : ℤ) → has w.above x z ≡ (has now.above x z || (in_rows rows z && keeps_place k (s.in_first && row_has now.left x) (s.in_second && row_has left.left x))))
      → now.spare + nodes_in now.above + nodes_in now.below ≤ w.spare + nodes_in w.above + nodes_in w.below
      → w ≡ record now { above = w.above; left = first_row (later rows.bottom now.below); below = later rows.bottom now.below; spare = w.spare } → r ≡ reading left.bands → p ≡ reading (later y' r.bands)
      → Kept k old w other p y'
  kept_more s rows w r p y' is rows_is y_is are_bands ends has_is spare w_is r_is p_is =
      let strip = strip_at s is in
      let e : ℤ = s.bottom in
      let has_more : (x z : ℤ) → has w.above x z ≡ (has now.above x z || (in_rows rows z && keeps_place k (s.in_first && row_has (first_row now.below) x) (s.in_second && row_has (first_row left.bands) x))) = λ x z.
      has_is x z ∙ ap (λ l. has now.above x z || (in_rows rows z && keeps_place k (s.in_first && row_has l x) (s.in_second && row_has left.left x))) left_now
      ∙ ap (λ l. has now.above x z || (in_rows rows z && keeps_place k (s.in_first && row_has (first_row now.below) x) (s.in_second && row_has l x))) left_other in
      let bottom : rows.bottom ≡ s.bottom = ap (λ (q : Rows). q.bottom) rows_is in
      let state = state_more k (old.above ++ old.below) other.bands now.above y now.below left.bands s w.above rows h.state strip rows_is are_bands (subst (λ n. EndBy n w.above) bottom ends) has_more in
      let whole : w ≡ record now { above = w.above; left = first_row (later e now.below); below = later e now.below; spare = w.spare } =
      w_is ∙ ap (λ n. record now { above = w.above; left = first_row (later n now.below); below = later n now.below; spare = w.spare }) bottom in
      let rest : p ≡ reading (later e left.bands) = p_is ∙ ap (λ (u : Reading). reading (later y' u.bands)) r_is ∙ ap (λ n. reading (later n left.bands)) y_is in
      let below : w.below ≡ later e now.below = ap (λ (u : Bands). u.below) whole in
      let bands : p.bands ≡ later e left.bands = ap (λ (u : Reading). u.bands) rest in
      let all = old.above ++ old.below in
      let S : List Band → Type 0 = λ l. BandState k all other.bands w.above e l (later e left.bands) in
      let T : List Band → Type 0 = λ l. BandState k all other.bands w.above e w.below l in
      let U : ℤ → Type 0 = λ n. BandState k all other.bands w.above n w.below p.bands in
      let top : rows.top ≡ y = ap (λ (q : Rows). q.top) rows_is in
      let after : y <ℤ s.bottom = strip.edge_a.after in
      let left_over = spare_left k now w left.bands s.in_first s.in_second rows h.state.are_bands (subst (λ n. EndBy n now.above) (sym top) h.state.ends) (omega (arith, ints, top, bottom, after)) h.state.bands_a h.state.bands_b
      are_bands has_more spare (ap (λ (u : Bands). u.below) w_is) in
      let more : (Enough k y now.below left.bands now.spare → Enough k y' w.below p.bands w.spare) = λ enough.
      let step = enough_step k y now.below left.bands now.spare s h.state.bands_a enough is in
      let holds : HoldsStrip k s.in_first s.in_second rows now.below (first_row now.below) (first_row left.bands) step.taken = subst (λ q. HoldsStrip k s.in_first s.in_second q now.below (first_row now.below) (first_row left.bands) step.taken) (sym rows_is) step.holds in
      let fits : step.rest ≤ w.spare = omega (arith, left_over step.taken holds, step.fits) in
      let here = enough_more k e (later e now.below) (later e left.bands) step.rest w.spare step.enough fits in
      subst (λ n. Enough k n w.below p.bands w.spare) (sym y_is) (subst (λ l. Enough k e w.below l w.spare) (sym bands) (subst (λ l. Enough k e l (later e left.bands) w.spare) (sym below) here)) in
      record {
        state = subst U (sym y_is) (subst T (sym bands) (subst S (sym below) state));
        spare = omega (arith, h.spare, spare);
        fewer = omega (arith, h.fewer, ap nodes_in below, later_few e now.below);
        room = elim h.room [ inl enough ↦ inl (more enough) | inr room ↦ inr room ];
        same = whole ∙ ap (λ (u : Bands). record u { above = w.above; left = first_row (later e now.below); below = later e now.below; spare = w.spare }) h.same
            ∙ ap (λ l. record old { above = w.above; left = first_row l; below = l; spare = w.spare }) (sym below);
        read = rest ∙ ap reading (sym bands);
      }

  pub kept_done : Rests k y now.above now.below left.bands ⊎ NoneKept k now.below → IsKept k (old.above ++ old.below) other.bands (now.above ++ now.below)
  kept_done (inl rests) = rest_kept k (old.above ++ old.below) other.bands now.above y now.below left.bands h.state rests
  kept_done (inr none) = none_kept k (old.above ++ old.below) other.bands now.above y now.below left.bands h.state none

  pub kept_spare : old.spare + nodes_in (old.above ++ old.below) ≤ now.spare + nodes_in (now.above ++ now.below)
  kept_spare = omega (arith, h.spare, nodes_join old.above old.below, nodes_join now.above now.below)

  pub kept_fewer : (s : Strip) (rows : Rows) (w : Bands) (r p : Reading) (y' : ℤ) → next_strip y (first_rows_of now.below) (first_rows_of left.bands) ≡ Some s → rows.bottom ≡ s.bottom → y' ≡ s.bottom
      → w ≡ record now { above = w.above; left = first_row (later rows.bottom now.below); below = later rows.bottom now.below; spare = w.spare } → r ≡ reading left.bands → p ≡ reading (later y' r.bands)
      → edges_left y' w.below + edges_left y' p.bands < edges_left y now.below + edges_left y left.bands
  kept_fewer s rows w r p y' is bottom y_is w_is r_is p_is =
      let below : w.below ≡ later rows.bottom now.below = ap (λ (u : Bands). u.below) w_is in
      let rest : p.bands ≡ later y' left.bands = ap (λ (u : Reading). u.bands) p_is ∙ ap (λ (u : Reading). later y' u.bands) r_is in
      let first : edges_left y' w.below ≡ edges_left s.bottom (later s.bottom now.below) = ap (edges_left y') below ∙ ap (λ n. edges_left y' (later n now.below)) bottom ∙ ap (λ n. edges_left n (later s.bottom now.below)) y_is in
      let second : edges_left y' p.bands ≡ edges_left s.bottom (later s.bottom left.bands) = ap (edges_left y') rest ∙ ap (λ n. edges_left n (later n left.bands)) y_is in
      omega (arith, first, second, edges_less y now.below left.bands s h.state.bands_a h.state.bands_b (strip_at s is))

-- ---- the first band, where it is a strip of its own

pub record FirstThere (rows : Rows) (bs : List Band) : Type 0 where
  pub first : Band
  pub rest : List Band
  pub is : bs ≡ first ∷ rest
  pub rows_are : rows_of first ≡ rows

pub first_there : (rows : Rows) (bs : List Band) → FirstIs rows bs → FirstThere rows bs
first_there rows [] is = absurd (let none : None ≡ Some rows = is in cc)
first_there rows (b ∷ bs) is = record { first = b; rest = bs; is = refl; rows_are = same_Some (rows_of b) rows is }

pub record FirstKept (k : Keep) (old w : Bands) (rows : Rows) : Type 0 where
  pub are_bands : AreBands w.above
  pub ends : EndBy rows.bottom w.above
  pub places : (x y : ℤ) → has w.above x y ≡ (has old.above x y || (in_rows rows y && keeps_place k (row_has old.left x) false))
  pub spare : old.spare + nodes_in old.above + nodes_in old.below ≤ w.spare + nodes_in w.above + nodes_in w.below
  pub same : w ≡ record old { above = w.above; left = first_row (later rows.bottom old.below); below = later rows.bottom old.below; spare = w.spare }

module _ (k : Keep) (old : Bands) (rows : Rows) (there : FirstThere rows old.below) (left : old.left ≡ first_row old.below) (below : AreBands old.below) (h : AreBands old.above) (e : EndBy rows.top old.above) where
  open there use {first, rest}

  first_is : IsBand first
  first_is = first_band first rest (subst AreBands there.is below)

  rows_some : rows.top <ℤ rows.bottom
  rows_some = subst (λ (r : Rows). r.top <ℤ r.bottom) there.rows_are first_is.some

  top_is : first.top ≡ rows.top
  top_is = ap (λ (r : Rows). r.top) there.rows_are

  bottom_is : first.bottom ≡ rows.bottom
  bottom_is = ap (λ (r : Rows). r.bottom) there.rows_are

  made : (w : Bands) (above : List Band) (n : ℕ) → w ≡ record old { above = above; left = first_row rest; below = rest; spare = n } → old.spare + nodes_in old.above + (2 + length first.row) ≤ n + nodes_in above → AreBands above → EndBy rows.bottom above
      → ((x y : ℤ) → has above x y ≡ (has old.above x y || (in_rows rows y && keeps_place k (row_has first.row x) false))) → FirstKept k old w rows
  made w above n w_is room are_bands ends places =
      let above_is : w.above ≡ above = ap (λ (u : Bands). u.above) w_is in
      let test : int_le first.bottom rows.bottom ≡ true = ended first.bottom rows.bottom bottom_is in
      let rest_is : later rows.bottom old.below ≡ rest = ap (later rows.bottom) there.is ∙ ap (λ t. cond t rest (first ∷ rest)) test in
      let left_is : old.left ≡ first.row = left ∙ ap first_row there.is in
      let spare_is : w.spare ≡ n = ap (λ (u : Bands). u.spare) w_is in
      record {
        are_bands = subst AreBands (sym above_is) are_bands;
        ends = subst (EndBy rows.bottom) (sym above_is) ends;
        places = λ x y. ap (λ l. has l x y) above_is ∙ places x y ∙ ap (λ l. has old.above x y || (in_rows rows y && keeps_place k (row_has l x) false)) (sym left_is);
        spare = omega (arith, room, spare_is, ap nodes_in above_is, ap nodes_in there.is, ap (λ (u : Bands). nodes_in u.below) w_is);
        same = w_is ∙ ap (λ l. record old { above = l; left = first_row rest; below = rest; spare = n }) (sym above_is) ∙ ap (λ m. record old { above = w.above; left = first_row rest; below = rest; spare = m }) (sym spare_is)
            ∙ ap (λ l. record old { above = w.above; left = first_row l; below = l; spare = w.spare }) (sym rest_is);
      }
    where
      ended : (a b : ℤ) → a ≡ b → int_le a b ≡ true
      ended a b e = grind (arith, ints)

  pub first_gone : (w : Bands) → keeps_place k true false ≡ false → ((first : Band) (rest : List Band) → old.below ≡ first ∷ rest → w ≡ record old { left = first_row rest; below = rest; spare = old.spare + 2 + length first.row }) → FirstKept k old w rows
  first_gone w out makes =
      made w old.above (old.spare + 2 + length first.row) (makes first rest there.is) (omega arith) h (end_later rows.top rows.bottom old.above (omega (arith, ints, rows_some)) e)
      (λ x y. has_nothing old.above rows [] x y refl ∙ ap (λ t. has old.above x y || (in_rows rows y && t)) (sym (kept_out k (row_has first.row x) out)))

  pub first_stays : (w : Bands) → keeps_place k true false ≡ true → ((front : List Band) (last first : Band) (rest : List Band) → old.above ≡ front ++ last ∷ [] → old.below ≡ first ∷ rest → last.bottom ≡ first.top → last.row ≢ first.row)
      → ((first : Band) (rest : List Band) → old.below ≡ first ∷ rest → w ≡ record old { above = old.above ++ first ∷ []; left = first_row rest; below = rest }) → FirstKept k old w rows
  first_stays w stays apart makes =
      made w (old.above ++ first ∷ []) old.spare (makes first rest there.is) (omega (arith, nodes_join old.above (first ∷ [])))
      (bands_longer old.above first h (subst (λ n. EndBy n old.above) (sym top_is) e) first_is (λ front last is. apart front last first rest is there.is))
      (end-append rows.bottom old.above first (end_later rows.top rows.bottom old.above (omega (arith, ints, rows_some)) e) (omega (arith, ints, bottom_is)))
      (λ x y. has-append old.above first x y ∙ ap (λ r. has old.above x y || (in_rows r y && row_has first.row x)) there.rows_are ∙ ap (λ t. has old.above x y || (in_rows rows y && t)) (sym (kept_alone k (row_has first.row x) stays)))

  pub first_joins : (m w : Bands) → keeps_place k true false ≡ true → (front : List Band) (last : Band) (band : Band) (bands : List Band) → old.above ≡ front ++ last ∷ [] → old.below ≡ band ∷ bands → last.bottom ≡ band.top → last.row ≡ band.row
      → m ≡ record old { above = front ++ longer last rows.bottom ∷ [] }
      → ((first : Band) (rest : List Band) → m.below ≡ first ∷ rest → w ≡ record m { left = first_row rest; below = rest; spare = m.spare + 2 + length first.row }) → FirstKept k old w rows
  first_joins m w stays front last band bands above_is below_is touch row_is m_is makes =
      let new = front ++ longer last rows.bottom ∷ [] in
      let both : band ∷ bands ≡ first ∷ rest = sym below_is ∙ there.is in
      let same : band ≡ first = head both in
      let stretched = row_stretched old.above new rows first.row front last h e rows_some above_is (touch ∙ ap (λ (b : Band). b.top) same ∙ top_is) (row_is ∙ ap (λ (b : Band). b.row) same) refl in
      let w_is : w ≡ record old { above = new; left = first_row rest; below = rest; spare = old.spare + 2 + length first.row } =
      makes first rest (ap (λ (u : Bands). u.below) m_is ∙ there.is) ∙ ap (λ (u : Bands). record u { left = first_row rest; below = rest; spare = u.spare + 2 + length first.row }) m_is in
      made w new (old.spare + 2 + length first.row) w_is
      (omega (arith, ap nodes_in above_is, nodes_join front (last ∷ []), nodes_join front (longer last rows.bottom ∷ [])))
      stretched.0 stretched.1
      (λ x y. stretched.2 x y ∙ ap (λ t. has old.above x y || (in_rows rows y && t)) (sym (kept_alone k (row_has first.row x) stays)))
    where
      head : {a b : Band} {more others : List Band} → a ∷ more ≡ b ∷ others → a ≡ b
      head e = cc
