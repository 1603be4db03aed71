-- The bands on both sides of the gap.
use Rattle.std.proofs.Common.{◌≡◌, ℕ, List, [], ◌∷◌, ◌++◌, map, Option, Some, is_some, Bool, true, false, sym, ap, ◌∙◌, ◌↔◌}
use Rattle.std.specs.Prelude.{slice_get}
use Rattle.std.proofs.lemmas.Option.{same_Some}
use Rattle.span_arena.specs.Arena.{Arena, list_of, ids_of, span_of, last_in}
use Rattle.span_arena.specs.declared.Span.{Span}
use Rattle.span_arena.specs.ViewLemmas.{ids_are}
use Rattle.region_bands.specs.declared.Lists.{Lists}
use Rattle.region_bands.specs.Bands.{Band, Bands}
use Rattle.region_bands.specs.Held.{PlacedInterval, HasRow, band_of, placed_band, placed_interval, ids_in, intervals_in, interval_at, view_of, Holds, IsHeld}
use Rattle.region_bands.specs.EachLemmas.{last_same}
use Rattle.region_bands.proofs.HasLemmas.{list_there}
use Rattle.region_bands.proofs.SeenLemmas.{row_list, row_read, holds_for}
use Rattle.region_bands.proofs.StepLemmas.{FirstBelow, first_below, LastAbove, last_above}
use Rattle.region_bands.proofs.CallLemmas.{AtGap, at_gap}

-- the intervals of a row, read from its list
row_seen : (a : Arena) (list : ℕ) (row : List PlacedInterval) → HasRow a list row → map (interval_at a) (ids_of a list) ≡ intervals_in row
row_seen a list row has = ap (map (interval_at a)) (ids_are a list (ids_in row) (row_list a list row has)) ∙ row_read a row has.spans

module _ (a : Arena) (lists : Option Lists) (gap left : Option ℕ) (v : Bands) (held : IsHeld a lists gap left) (is : view_of a lists gap left ≡ v) where
  module _ (some : Lists) (some_is : lists ≡ Some some) (last : Option ℕ) (leads : (front back : List ℕ) → list_of a some.bands ≡ Some (front ++ back) → gap ≡ slice_get back 0 → last ≡ last_in front) where
    abbrev holds : Holds a some.bands some.row gap left v
    holds = holds_for a lists gap left v held is some some_is

    module _ (at : ℕ) (at_is : last ≡ Some at) (s : Span) (found : span_of a at ≡ Some s) (under : ℕ) (under_is : gap ≡ Some under) (t : Span) (found' : span_of a under ≡ Some t) where
      abbrev l : LastAbove a some.bands some.row gap left v holds at
      l = last_above a some.bands some.row gap left v holds last leads at at_is

      abbrev g : AtGap a lists gap left v held is under
      g = at_gap a lists gap left v held is under under_is

      abbrev f : FirstBelow a some.bands some.row gap left v holds g.first g.rest
      f = first_below a some.bands some.row gap left v holds g.first g.rest g.below

      pub above_sub : s.sub ≡ Some l.e.list
      above_sub = ap (λ (x : Span). x.sub) (same_Some s (placed_band l.e).1 (sym found ∙ ap (span_of a) l.at_is ∙ l.span))

      pub below_sub : t.sub ≡ Some f.e.list
      below_sub = ap (λ (x : Span). x.sub) (same_Some t (placed_band f.e).1 (sym found' ∙ ap (span_of a) (same_Some under f.e.at (sym under_is ∙ f.gap_is)) ∙ f.span))

      module _ (one : ℕ) (one_is : s.sub ≡ Some one) (other : ℕ) (other_is : t.sub ≡ Some other) where
        one_same : one ≡ l.e.list
        one_same = same_Some one l.e.list (sym one_is ∙ above_sub)

        other_same : other ≡ f.e.list
        other_same = same_Some other f.e.list (sym other_is ∙ below_sub)

        pub one_live : is_some (list_of a one) ≡ true
        one_live = ap (λ (k : ℕ). is_some (list_of a k)) one_same ∙ list_there a l.e.list (map placed_interval l.e.row) l.row

        pub other_live : is_some (list_of a other) ≡ true
        other_live = ap (λ (k : ℕ). is_some (list_of a k)) other_same ∙ list_there a f.e.list (map placed_interval f.e.row) f.row

        one_seen : map (interval_at a) (ids_of a one) ≡ intervals_in l.e.row
        one_seen = ap (λ (k : ℕ). map (interval_at a) (ids_of a k)) one_same ∙ row_seen a l.e.list l.e.row l.row

        other_seen : map (interval_at a) (ids_of a other) ≡ intervals_in f.e.row
        other_seen = ap (λ (k : ℕ). map (interval_at a) (ids_of a k)) other_same ∙ row_seen a f.e.list f.e.row f.row

        module _ (b : Bool) (test : (b ≡ true) ↔ (map (interval_at a) (ids_of a one) ≡ map (interval_at a) (ids_of a other))) where
          pub seam_yes : b ≡ true → (front : List Band) × (band : Band) × (first : Band) × (rest : List Band) × (v.above ≡ front ++ band ∷ []) × (v.below ≡ first ∷ rest) × (band.row ≡ first.row)
          seam_yes is_yes = (map band_of l.es, band_of l.e, g.first, g.rest, l.last_is, g.below, sym one_seen ∙ test.0 is_yes ∙ other_seen ∙ sym (ap (λ (x : Band). x.row) f.first_is))

          pub seam_no : b ≡ false → (front : List Band) (band first : Band) (rest : List Band) → v.above ≡ front ++ band ∷ [] → v.below ≡ first ∷ rest → band.row ≡ first.row → ⊥
          seam_no is_no front band first rest above below same =
              let lasts = last_same front band (map band_of l.es) (band_of l.e) (sym above ∙ l.last_is) in
              let firsts : first ∷ rest ≡ g.first ∷ g.rest = sym below ∙ g.below in
              let first_same : first ≡ g.first = cc in
              let rows : intervals_in l.e.row ≡ intervals_in f.e.row = sym (ap (λ (x : Band). x.row) lasts.1) ∙ same ∙ ap (λ (x : Band). x.row) (first_same ∙ f.first_is) in
              let clash : true ≡ false = sym (test.1 (one_seen ∙ rows ∙ sym other_seen)) ∙ is_no in
              cc
