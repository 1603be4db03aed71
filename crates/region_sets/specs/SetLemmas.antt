-- What a list of bands has and is where a band comes behind it or its last one is lengthened.
use Rattle.std.proofs.Common.{◌≡◌, ◌≢◌, ◌↔◌, ◌+◌, ◌≤◌, length, inl, inr, Option, Some, None, Bool, true, false, ◌&&◌, List, [], ◌∷◌, ◌++◌, refl, sym, ◌∙◌, ap, subst, arith}
use Rattle.std.specs.Prelude.{ℤ, ◌<ℤ◌, ◌≤ℤ◌, int_lt, int_le, ◌||◌, IsTrue}
use Rattle.std.specs.List.{last_or}
use Rattle.std.specs.Option.{option_map}
use Rattle.std.specs.Ordering.{int_eq}
use Rattle.std.proofs.lemmas.Option.{same_Some}
use Rattle.region_bands.specs.EachLemmas.{last_cases, last_or_last, last_same}
use Rattle.std.proofs.lemmas.Int.{ints}
use Rattle.region_bands.specs.declared.Interval.{Interval}
use Rattle.region_bands.specs.declared.Rows.{Rows}
use Rattle.region_bands.specs.Bands.{Band, Bands, rows_of, row_of, band_with, nodes_in}
use Rattle.region_rows.specs.Rows.{IsRow, row_has}
use Rattle.region_sets.specs.Sets.{in_rows, has, IsBand, AreBands, EndBy}

or_false : (b : Bool) → (b || false) ≡ b
or_false true = refl
or_false false = refl

or_assoc : (a b c : Bool) → (a || (b || c)) ≡ ((a || b) || c)
or_assoc true b c = refl
or_assoc false b c = refl

-- whether the place is in the band
abbrev pub in_band : Band → ℤ → ℤ → Bool
in_band b x y = in_rows (rows_of b) y && row_has b.row x

pub has-append : (bs : List Band) (q : Band) (x y : ℤ) → has (bs ++ q ∷ []) x y ≡ (has bs x y || in_band q x y)
has-append [] q x y = or_false (in_band q x y)
has-append (b ∷ bs) q x y = ap (λ t. in_band b x y || t) (has-append bs q x y) ∙ or_assoc (in_band b x y) (has bs x y) (in_band q x y)

pub nodes_join : (above below : List Band) → nodes_in (above ++ below) ≡ nodes_in above + nodes_in below
nodes_join [] below = omega arith
nodes_join (b ∷ above) below = omega (arith, nodes_join above below)

pub end_later : (y z : ℤ) (bs : List Band) → y ≤ℤ z → EndBy y bs → EndBy z bs
end_later y z [] h e = tt
end_later y z (b ∷ bs) h e = (omega (arith, ints, h, e.0), end_later y z bs h e.1)

pub end-append : (y : ℤ) (bs : List Band) (q : Band) → EndBy y bs → q.bottom ≤ℤ y → EndBy y (bs ++ q ∷ [])
end-append y [] q e h = (h, tt)
end-append y (b ∷ bs) q e h = (e.0, end-append y bs q e.1 h)

-- the band at the end has another row than the last where it touches it
abbrev pub Parts : List Band → Band → Type 0
Parts bs q = (front : List Band) (last : Band) → bs ≡ front ++ last ∷ [] → last.bottom ≡ q.top → last.row ≢ q.row

pub bands_longer : (bs : List Band) (q : Band) → AreBands bs → EndBy q.top bs → IsBand q → Parts bs q → AreBands (bs ++ q ∷ [])
bands_longer [] q h e new parts = new
bands_longer (b ∷ []) q h e new parts = (h, record { order = e.0; apart = parts [] b refl }, new)
bands_longer (b ∷ c ∷ rest) q h e new parts = (h.0, h.1, bands_longer (c ∷ rest) q h.2 e.1 new (λ front last is. parts (b ∷ front) last (ap (λ l. b ∷ l) is)))

pub row_put : (bs : List Band) (rows : Rows) (row : List Interval) → AreBands bs → EndBy rows.top bs → rows.top <ℤ rows.bottom → IsRow row → row ≢ [] → Parts bs (band_with rows row)
    → AreBands (bs ++ band_with rows row ∷ []) × EndBy rows.bottom (bs ++ band_with rows row ∷ [])
row_put bs rows row h e some is_row columns parts = (
  bands_longer bs (band_with rows row) h e (record { some = some; row = is_row; columns = columns }) parts,
  end-append rows.bottom bs (band_with rows row) (end_later rows.top rows.bottom bs (omega (arith, ints, some)) e) (omega (arith, ints)),
)

-- ---- the last band is lengthened

abbrev pub longer : Band → ℤ → Band
longer b bottom = record b { bottom = bottom }

pub bands_stretched : (front : List Band) (b : Band) (bottom : ℤ) → AreBands (front ++ b ∷ []) → b.bottom ≤ℤ bottom → AreBands (front ++ longer b bottom ∷ [])
bands_stretched [] b bottom h low = is_longer b bottom h low
  where
    is_longer : (b : Band) (bottom : ℤ) → IsBand b → b.bottom ≤ℤ bottom → IsBand (longer b bottom)
    is_longer b bottom h low = record { some = let s : b.top <ℤ b.bottom = h.some in omega (arith, ints, s, low); row = h.row; columns = h.columns }
bands_stretched (a ∷ []) b bottom h low = (h.0, record { order = h.1.order; apart = h.1.apart }, bands_stretched [] b bottom h.2 low)
bands_stretched (a ∷ c ∷ front) b bottom h low = (h.0, h.1, bands_stretched (c ∷ front) b bottom h.2 low)

pub end_stretched : (front : List Band) (b : Band) (y bottom : ℤ) → EndBy y (front ++ b ∷ []) → y ≤ℤ bottom → EndBy bottom (front ++ longer b bottom ∷ [])
end_stretched [] b y bottom e low = (omega (arith, ints), tt)
end_stretched (a ∷ front) b y bottom e low = (omega (arith, ints, e.0, low), end_stretched front b y bottom e.1 low)

last_is_band : (front : List Band) (b : Band) → AreBands (front ++ b ∷ []) → IsBand b
last_is_band [] b h = h
last_is_band (a ∷ []) b h = h.2
last_is_band (a ∷ c ∷ front) b h = last_is_band (c ∷ front) b h.2

-- the rows of a band and those right behind it are the longer band's
rows_joined : (top middle bottom y : ℤ) → top ≤ℤ middle → middle ≤ℤ bottom → (int_le top y && int_lt y bottom) ≡ ((int_le top y && int_lt y middle) || (int_le middle y && int_lt y bottom))
rows_joined top middle bottom y low high = grind (arith, ints)

spread : (p q r : Bool) → ((p || q) && r) ≡ ((p && r) || (q && r))
spread true q true = or_true q
  where
    or_true : (q : Bool) → true ≡ (true || q)
    or_true q = refl
spread true true false = refl
spread true false false = refl
spread false q r = refl

pub has_stretched : (front : List Band) (b : Band) (rows : Rows) (x y : ℤ) → AreBands (front ++ b ∷ []) → b.bottom ≡ rows.top → rows.top <ℤ rows.bottom
    → has (front ++ longer b rows.bottom ∷ []) x y ≡ (has (front ++ b ∷ []) x y || (in_rows rows y && row_has b.row x))
has_stretched front b rows x y h touch some =
    let band = last_is_band front b h in
    let high : b.top <ℤ b.bottom = band.some in
    let joined : in_rows (rows_of (longer b rows.bottom)) y ≡ (in_rows (rows_of b) y || in_rows rows y) =
    rows_joined b.top b.bottom rows.bottom y (omega (arith, ints, high)) (omega (arith, ints, touch, some))
    ∙ ap (λ n. (int_le b.top y && int_lt y b.bottom) || (int_le n y && int_lt y rows.bottom)) touch in
    has-append front (longer b rows.bottom) x y
    ∙ ap (λ t. has front x y || (t && row_has b.row x)) joined
    ∙ ap (λ t. has front x y || t) (spread (in_rows (rows_of b) y) (in_rows rows y) (row_has b.row x))
    ∙ or_assoc (has front x y) (in_band b x y) (in_rows rows y && row_has b.row x)
    ∙ ap (λ t. t || (in_rows rows y && row_has b.row x)) (sym (has-append front b x y))

pub has_nothing : (bs : List Band) (rows : Rows) (row : List Interval) (x y : ℤ) → row ≡ [] → has bs x y ≡ (has bs x y || (in_rows rows y && row_has row x))
has_nothing bs rows row x y none = sym (ap (λ l. has bs x y || (in_rows rows y && row_has l x)) none ∙ ap (λ t. has bs x y || t) (and_false (in_rows rows y)) ∙ or_false (has bs x y))
  where
    and_false : (b : Bool) → (b && false) ≡ false
    and_false true = refl
    and_false false = refl

-- ---- what is asked of the last band

last_found : (bs : List Band) (found : Option Rows) (rows : Rows) → found ≡ option_map rows_of (last_or None bs) → found ≡ Some rows → (front : List Band) × (last : Band) × (bs ≡ front ++ last ∷ []) × (rows_of last ≡ rows)
last_found bs found rows is some = elim (last_cases bs) [
  | inl none ↦ absurd (no rows (sym some ∙ is ∙ ap (λ l. option_map rows_of (last_or None l)) none))
  | inr there ↦ (there.0, there.1, there.2, same_Some (rows_of there.1) rows (sym (ap (λ l. option_map rows_of (last_or None l)) there.2 ∙ ap (option_map rows_of) (last_or_last None there.0 there.1)) ∙ sym is ∙ some))
]
  where
    no : (rows : Rows) → Some rows ≡ None → ⊥
    no rows e = cc

int_same : (a b : ℤ) → int_eq a b ≡ true → a ≡ b
int_same a b e = grind (arith, ints)

int_other : (a b : ℤ) → int_eq a b ≡ false → a ≡ b → ⊥
int_other a b e f = grind (arith, ints)

pub ends_there : (bs : List Band) (found : Option Rows) (rows : Rows) (y : ℤ) → found ≡ option_map rows_of (last_or None bs) → found ≡ Some rows → (b : Bool) → b ≡ int_eq rows.bottom y → b ≡ true → (front : List Band) × (last : Band) × (bs ≡ front ++ last ∷ []) × (last.bottom ≡ y)
ends_there bs found rows y is some b b_is h =
    let there = last_found bs found rows is some in
    (there.0, there.1, there.2, ap (λ r. r.bottom) there.3 ∙ int_same rows.bottom y (sym b_is ∙ h))

pub ends_elsewhere : (bs : List Band) (found : Option Rows) (rows : Rows) (y : ℤ) → found ≡ option_map rows_of (last_or None bs) → found ≡ Some rows → (b : Bool) → b ≡ int_eq rows.bottom y → b ≡ false → (front : List Band) (last : Band) → bs ≡ front ++ last ∷ [] → last.bottom ≡ y → ⊥
ends_elsewhere bs found rows y is some b b_is h front last bs_is at =
    let there = last_found bs found rows is some in
    let same = (last_same front last there.0 there.1 (sym bs_is ∙ there.2)).1 in
    int_other rows.bottom y (sym b_is ∙ h) (sym (ap (λ r. r.bottom) there.3) ∙ ap (λ (l : Band). l.bottom) (sym same) ∙ at)

pub none_last : (bs : List Band) (found : Option Rows) → found ≡ option_map rows_of (last_or None bs) → found ≡ None → (front : List Band) (last : Band) → bs ≡ front ++ last ∷ [] → ⊥
none_last bs found is none front last bs_is = no (rows_of last) (sym (ap (λ l. option_map rows_of (last_or None l)) bs_is ∙ ap (option_map rows_of) (last_or_last None front last)) ∙ sym is ∙ none)
  where
    no : (rows : Rows) → Some rows ≡ None → ⊥
    no rows e = cc

-- the row is that of the last band
pub same_row : (bs front : List Band) (last : Band) (row : List Interval) (b : Bool) → bs ≡ front ++ last ∷ [] → IsTrue b ↔ (option_map row_of (last_or None bs) ≡ Some row) → b ≡ true → last.row ≡ row
same_row bs front last row b bs_is test h = same_Some last.row row (sym (ap (λ l. option_map row_of (last_or None l)) bs_is ∙ ap (option_map row_of) (last_or_last None front last)) ∙ test.0 h)

pub other_row : (bs : List Band) (rows : Rows) (row : List Interval) (b : Bool) → IsTrue b ↔ (option_map row_of (last_or None bs) ≡ Some row) → b ≡ false → Parts bs (band_with rows row)
other_row bs rows row b test h = λ front last bs_is touch same. no b h (test.1 (ap (λ l. option_map row_of (last_or None l)) bs_is ∙ ap (option_map row_of) (last_or_last None front last) ∙ ap Some same))
  where
    no : (b : Bool) → b ≡ false → IsTrue b → ⊥
    no b h e = cc

pub apart_row : (bs : List Band) (rows : Rows) (row : List Interval) → ((front : List Band) (last : Band) → bs ≡ front ++ last ∷ [] → last.bottom ≢ rows.top) → Parts bs (band_with rows row)
apart_row bs rows row none = λ front last bs_is touch same. none front last bs_is touch

pub some_row : (row : List Interval) (b : Bool) → IsTrue b ↔ (row ≡ []) → b ≡ false → row ≢ []
some_row row b test h = λ e. no b h (test.1 e)
  where
    no : (b : Bool) → b ≡ false → IsTrue b → ⊥
    no b h e = cc

-- what a row that goes on the last band makes
pub row_stretched : (bs new : List Band) (rows : Rows) (row : List Interval) (front : List Band) (last : Band) → AreBands bs → EndBy rows.top bs → rows.top <ℤ rows.bottom → bs ≡ front ++ last ∷ [] → last.bottom ≡ rows.top → last.row ≡ row
    → new ≡ front ++ longer last rows.bottom ∷ []
    → AreBands new × EndBy rows.bottom new × ((x y : ℤ) → has new x y ≡ (has bs x y || (in_rows rows y && row_has row x)))
row_stretched bs new rows row front last h e some is touch same new_is =
    let h' = subst AreBands is h in
    let e' = subst (EndBy rows.top) is e in (
      subst AreBands (sym new_is) (bands_stretched front last rows.bottom h' (omega (arith, ints, touch, some))),
      subst (EndBy rows.bottom) (sym new_is) (end_stretched front last rows.top rows.bottom e' (omega (arith, ints, some))),
      λ x y. ap (λ l. has l x y) new_is ∙ has_stretched front last rows x y h' touch some ∙ ap (λ l. has l x y || (in_rows rows y && row_has last.row x)) (sym is) ∙ ap (λ l. has bs x y || (in_rows rows y && row_has l x)) same,
    )

-- ---- what the calls make

pub stretched_makes : (old mid new : Bands) (rows : Rows) (front : List Band) (last : Band) → AreBands old.above → EndBy rows.top old.above → rows.top <ℤ rows.bottom → old.above ≡ front ++ last ∷ [] → last.bottom ≡ rows.top → last.row ≡ old.row
    → mid ≡ record old { above = front ++ longer last rows.bottom ∷ [] } → mid.spare + length mid.row ≤ new.spare → new ≡ record mid { row = []; spare = new.spare }
    → AreBands new.above × EndBy rows.bottom new.above × ((x y : ℤ) → has new.above x y ≡ (has old.above x y || (in_rows rows y && row_has old.row x))) × (new ≡ record old { above = new.above; row = []; spare = new.spare }) × (old.spare + nodes_in old.above + length old.row ≤ new.spare + nodes_in new.above)
stretched_makes old mid new rows front last h e some is touch same mid_is spare new_is =
    let new_above : new.above ≡ front ++ longer last rows.bottom ∷ [] = ap (λ (u : Bands). u.above) new_is ∙ ap (λ (u : Bands). u.above) mid_is in
    let made = row_stretched old.above new.above rows old.row front last h e some is touch same new_above in
    let old_spare : mid.spare ≡ old.spare = ap (λ (u : Bands). u.spare) mid_is in (
      made.0,
      made.1,
      made.2,
      new_is ∙ ap (λ (u : Bands). record u { row = []; spare = new.spare }) mid_is ∙ ap (λ l. record old { above = l; row = []; spare = new.spare }) (sym new_above),
      omega (arith, old_spare, spare, ap (λ (u : Bands). length u.row) mid_is, ap nodes_in new_above, ap nodes_in is, nodes_join front (last ∷ []), nodes_join front (longer last rows.bottom ∷ [])),
    )

pub put_makes : (old new : Bands) (rows : Rows) → AreBands old.above → EndBy rows.top old.above → rows.top <ℤ rows.bottom → IsRow old.row → old.row ≢ [] → Parts old.above (band_with rows old.row)
    → old.spare ≤ new.spare + 2 → new ≡ record old { above = old.above ++ band_with rows old.row ∷ []; row = []; spare = new.spare }
    → AreBands new.above × EndBy rows.bottom new.above × ((x y : ℤ) → has new.above x y ≡ (has old.above x y || (in_rows rows y && row_has old.row x))) × (new ≡ record old { above = new.above; row = []; spare = new.spare }) × (old.spare + nodes_in old.above + length old.row ≤ new.spare + nodes_in new.above)
put_makes old new rows h e some is_row columns parts spare new_is =
    let new_above : new.above ≡ old.above ++ band_with rows old.row ∷ [] = ap (λ (u : Bands). u.above) new_is in
    let made = row_put old.above rows old.row h e some is_row columns parts in (
      subst AreBands (sym new_above) made.0,
      subst (EndBy rows.bottom) (sym new_above) made.1,
      λ x y. ap (λ l. has l x y) new_above ∙ has-append old.above (band_with rows old.row) x y,
      new_is ∙ ap (λ l. record old { above = l; row = []; spare = new.spare }) (sym new_above),
      omega (arith, spare, ap nodes_in new_above, nodes_join old.above (band_with rows old.row ∷ [])),
    )

pub empty_row : (row : List Interval) (b : Bool) → IsTrue b ↔ (row ≡ []) → b ≡ true → row ≡ []
empty_row row b test h = test.0 h
