-- Bands that are copied.
use Rattle.std.proofs.Common.{◌≡◌, ◌+◌, ◌≤◌, ◌<◌, List, [], ◌∷◌, ◌++◌, length, refl, sym, ◌∙◌, ap, arith, Option, Some, None}
use Rattle.std.specs.Prelude.{slice_get}
use Rattle.std.specs.Option.{option_map}
use Rattle.std.proofs.lemmas.List.{append_assoc, append-nil}
use Rattle.std.proofs.lemmas.Option.{same_Some}
use Rattle.region_bands.specs.declared.Rows.{Rows}
use Rattle.region_bands.specs.Bands.{Band, Bands, Reading, rows_of, first_row, nodes_in, reading, band_with}

pub record Copied (old now : Bands) (other left : Reading) : Type 0 where
  pub all : now.above ++ left.bands ≡ old.above ++ other.bands
  pub row : now.row ≡ []
  pub spare : old.spare + nodes_in left.bands ≤ now.spare + nodes_in other.bands
  pub same : now ≡ record old { above = now.above; spare = now.spare }
  pub rest : left ≡ reading left.bands

pub copied_begins : (old : Bands) (other : Reading) → old.row ≡ [] → other.left ≡ first_row other.bands → Copied old old other other
copied_begins old other row left = record { all = refl; row = row; spare = omega arith; same = refl; rest = ap (λ l. record other { left = l }) left }

pub first_there : (l : List Band) (found : Option Rows) (rows : Rows) → found ≡ option_map rows_of (slice_get l 0) → found ≡ Some rows → (b : Band) × (rest : List Band) × (l ≡ b ∷ rest) × (rows_of b ≡ rows)
first_there [] found rows is some = absurd (no rows (sym is ∙ some))
  where
    no : (rows : Rows) → None ≡ Some rows → ⊥
    no rows e = cc
first_there (b ∷ rest) found rows is some = (b, rest, refl, same_Some (rows_of b) rows (sym is ∙ some))

module _ (old now : Bands) (other left : Reading) (copied : Copied old now other left) (found : Option Rows) (found_is : found ≡ option_map rows_of (slice_get left.bands 0)) where
  pub copied_room : (rows : Rows) → found ≡ Some rows → nodes_in other.bands ≤ old.spare → 2 + length left.left ≤ now.spare
  copied_room rows some room =
      let there = first_there left.bands found rows found_is some in
      let left_is : left.left ≡ there.0.row = ap (λ (u : Reading). u.left) copied.rest ∙ ap first_row there.2 in
      omega (arith, copied.spare, room, ap length left_is, ap nodes_in there.2)

  pub copied_more : (rows : Rows) (mid new : Bands) (read next : Reading) → found ≡ Some rows → now.spare ≤ mid.spare + length mid.row → mid ≡ record now { row = left.left; spare = mid.spare } → read ≡ record left { left = [] }
      → mid.spare ≤ new.spare + 2 → new ≡ record mid { above = mid.above ++ band_with rows mid.row ∷ []; row = []; spare = new.spare }
      → ((b : Band) (rest : List Band) → read.bands ≡ b ∷ rest → next ≡ reading rest) → Copied old new other next × (length next.bands < length left.bands)
  copied_more rows mid new read next some mid_spare mid_is read_is new_spare new_is makes =
      let there = first_there left.bands found rows found_is some in
      let next_is : next ≡ reading there.1 = makes there.0 there.1 (ap (λ (u : Reading). u.bands) read_is ∙ there.2) in
      let bands_are : next.bands ≡ there.1 = ap (λ (u : Reading). u.bands) next_is in
      let left_is : left.left ≡ there.0.row = ap (λ (u : Reading). u.left) copied.rest ∙ ap first_row there.2 in
      let row_is : mid.row ≡ there.0.row = ap (λ (u : Bands). u.row) mid_is ∙ left_is in
      let band : band_with rows mid.row ≡ there.0 = ap (λ r. band_with r mid.row) (sym there.3) ∙ ap (band_with (rows_of there.0)) row_is in
      let above : new.above ≡ now.above ++ there.0 ∷ [] = ap (λ (u : Bands). u.above) new_is ∙ ap (λ (u : Bands). u.above ++ band_with rows mid.row ∷ []) mid_is ∙ ap (λ q. now.above ++ q ∷ []) band in (
        record {
          all = ap (λ l. l ++ next.bands) above ∙ append_assoc now.above (there.0 ∷ []) next.bands ∙ ap (λ l. now.above ++ there.0 ∷ l) bands_are ∙ ap (λ l. now.above ++ l) (sym there.2) ∙ copied.all;
          row = ap (λ (u : Bands). u.row) new_is;
          spare = omega (arith, copied.spare, mid_spare, new_spare, ap length row_is, ap nodes_in there.2, ap nodes_in bands_are);
          same = new_is ∙ ap (λ (u : Bands). record u { above = u.above ++ band_with rows mid.row ∷ []; row = []; spare = new.spare }) mid_is
              ∙ ap (λ (u : Bands). record u { above = now.above ++ band_with rows mid.row ∷ []; row = []; spare = new.spare }) copied.same
              ∙ ap (λ l. record old { above = now.above ++ band_with rows mid.row ∷ []; row = l; spare = new.spare }) (sym copied.row ∙ ap (λ (u : Bands). u.row) copied.same)
              ∙ ap (λ l. record old { above = l; spare = new.spare }) (ap (λ q. now.above ++ q ∷ []) band ∙ sym above);
          rest = next_is ∙ ap reading (sym bands_are);
        },
        omega (arith, ap length bands_are, ap length there.2),
      )

  pub copied_done : found ≡ None → (now ≡ record old { above = old.above ++ other.bands; spare = now.spare }) × (old.spare ≤ now.spare + nodes_in other.bands) × (left ≡ reading [])
  copied_done none = go left.bands refl (sym found_is ∙ none)
    where
      go : (l : List Band) → left.bands ≡ l → option_map rows_of (slice_get l 0) ≡ None → (now ≡ record old { above = old.above ++ other.bands; spare = now.spare }) × (old.spare ≤ now.spare + nodes_in other.bands) × (left ≡ reading [])
      go (b ∷ rest) is e = absurd (no (rows_of b) e)
        where
          no : (r : Rows) → Some r ≡ None → ⊥
          no r e = cc
      go [] is e =
          let above : now.above ≡ old.above ++ other.bands = sym (append-nil now.above) ∙ ap (λ l. now.above ++ l) (sym is) ∙ copied.all in (
            copied.same ∙ ap (λ l. record old { above = l; spare = now.spare }) above,
            omega (arith, copied.spare, ap nodes_in is),
            copied.rest ∙ ap reading is,
          )
