-- What a call leaves of the value that contracts see.
use Rattle.std.proofs.Common.{◌≡◌, ℕ, ℤ, inl, inr, List, [], ◌∷◌, ◌++◌, map, true, false, Option, Some, None, is_some, refl, subst, sym, ap, ◌∙◌}
use Rattle.std.specs.Prelude.{slice_get, IfSome}
use Rattle.std.specs.List.{last_or}
use Rattle.std.proofs.lemmas.List.{append-nil}
use Rattle.std.specs.Option.{option_map}
use Rattle.std.proofs.lemmas.Option.{same_Some}
use Rattle.span_arena.specs.declared.Span.{Span}
use Rattle.span_arena.specs.Arena.{Arena, list_of, span_of, last_in, IsSound}
use Rattle.region_bands.specs.declared.Lists.{Lists}
use Rattle.region_bands.specs.Bands.{Band, Bands, Reading, nothing, rows_of, first_row, reading_of}
use Rattle.region_bands.specs.Held.{Each, Entry, at_of, band_of, placed_band, placed_interval, Placed, Has, Keeps, first_under, view_of, IsOverList, Holds, Shows, IsHeld}
use Rattle.region_bands.proofs.HasLemmas.{IsSpan}
use Rattle.region_bands.proofs.SeenLemmas.{shown, spans_below, holds_for, shows_for}
use Rattle.region_bands.specs.declared.Interval.{Interval}
use Rattle.region_bands.proofs.CutLemmas.{left_at, skipped, gap_over, reread, stretched}
use Rattle.region_bands.specs.EachLemmas.{last_cases, last_or_last}
use Rattle.region_bands.proofs.StepLemmas.{wound, roomier, advanced, advanced_over, last_above, none_above}

pub wound_shows : (a : Arena) (lists : Option Lists) (gap left : Option ℕ) (v : Bands) → IsHeld a lists gap left → view_of a lists gap left ≡ v → Shows a lists None None (record v { above = v.above ++ v.below; left = []; below = [] })
wound_shows a lists gap left v held is = by lists (shown a lists gap left v held is)
  where
    by : (lists : Option Lists) → Shows a lists gap left v → Shows a lists None None (record v { above = v.above ++ v.below; left = []; below = [] })
    by None shows = (refl, refl, ap (λ (w : Bands). record w { above = w.above ++ w.below; left = []; below = [] }) shows.2)
    by (Some lists) shows = wound a lists.bands lists.row gap left v shows

module _ (a : Arena) (lists : Option Lists) (gap left : Option ℕ) (v : Bands) (held : IsHeld a lists gap left) (is : view_of a lists gap left ≡ v) where
  -- what the gap's span is
  pub record AtGap (at : ℕ) : Type 0 where
    pub first : Band
    pub rest : List Band
    pub list : ℕ
    pub below : v.below ≡ first ∷ rest
    pub span : span_of a at ≡ Some (record { start = first.top; stop = first.bottom; sub = Some list })

  pub at_gap : (at : ℕ) → gap ≡ Some at → AtGap at
  at_gap at there = by lists (shown a lists gap left v held is)
    where
      by : (lists : Option Lists) → Shows a lists gap left v → AtGap at
      by None shows = absurd (let none = shows.0 in cc)
      by (Some some) h = in_below h.below h.gap_is h.below_is (spans_below a some.bands some.row gap left v h)
        where
          in_below : (es : List Entry) → gap ≡ slice_get (map at_of es) 0 → v.below ≡ map band_of es → Each (IsSpan a) (map placed_band es) → AtGap at
          in_below [] gap_is below_is spans = absurd (cc)
          in_below (e ∷ es) gap_is below_is spans = record {
            first = band_of e;
            rest = map band_of es;
            list = e.list;
            below = below_is;
            span = ap (span_of a) (same_Some at e.at (sym there ∙ gap_is)) ∙ spans.0;
          }

  pub gap_live : (at : ℕ) → gap ≡ Some at → is_some (span_of a at) ≡ true
  gap_live at there = ap is_some (at_gap at there).span

  pub gap_rows : (at : ℕ) → gap ≡ Some at → (s : Span) → span_of a at ≡ Some s → Some (record { top = s.start; bottom = s.stop }) ≡ option_map rows_of (slice_get v.below 0)
  gap_rows at there s found =
      let g = at_gap at there in
      ap (λ (x : Span). Some (record { top = x.start; bottom = x.stop })) (same_Some s _ (sym found ∙ g.span))
      ∙ ap (λ (l : List Band). option_map rows_of (slice_get l 0)) (sym g.below)

  -- a call that needs a band below the gap has one
  pub no_gap : gap ≡ None → v.below ≡ []
  no_gap none = by lists (shown a lists gap left v held is)
    where
      by : (lists : Option Lists) → Shows a lists gap left v → v.below ≡ []
      by None shows = ap (λ (w : Bands). w.below) shows.2
      by (Some some) h = in_below h.below h.gap_is h.below_is
        where
          in_below : (es : List Entry) → gap ≡ slice_get (map at_of es) 0 → v.below ≡ map band_of es → v.below ≡ []
          in_below [] gap_is below_is = below_is
          in_below (e ∷ es) gap_is below_is = absurd (cc)

  pub no_lists : lists ≡ None → v ≡ nothing
  no_lists none = let S : Option Lists → Type 0 = λ l. Shows a l gap left v in (subst S none (shown a lists gap left v held is)).2

  pub lists_at : (at : ℕ) → gap ≡ Some at → (some : Lists) × (lists ≡ Some some)
  lists_at at there = by lists (shown a lists gap left v held is)
    where
      by : (l : Option Lists) → Shows a l gap left v → (some : Lists) × (l ≡ Some some)
      by None shows = absurd (let none = shows.0 in cc)
      by (Some some) h = (some, refl)

  pub gap_spans : IfSome gap (λ at. is_some (span_of a at) ≡ true)
  gap_spans = by gap refl
    where
      by : (o : Option ℕ) → gap ≡ o → IfSome o (λ at. is_some (span_of a at) ≡ true)
      by None none = tt
      by (Some at) there = gap_live at there

  -- the gap below the first band
  module _ (at : ℕ) (at_is : gap ≡ Some at) (gap' : Option ℕ) (next : (list : ℕ) (f b : List ℕ) → list_of a list ≡ Some (f ++ at ∷ b) → gap' ≡ slice_get b 0) where
    pub advanced_under : IfSome gap' (IsOverList a)
    advanced_under =
        let some = lists_at at at_is in
        let g = at_gap at at_is in
        let h = holds_for a lists gap left v held is some.0 some.1 in
        advanced_over a some.0.bands some.0.row gap left v h g.first g.rest g.below at at_is gap' next

    pub advanced_shows : (left' : Option ℕ) → left' ≡ first_under a gap' → (first : Band) (rest : List Band) → v.below ≡ first ∷ rest → Shows a lists gap' left' (record v { above = v.above ++ first ∷ []; left = first_row rest; below = rest })
    advanced_shows left' leads first rest below =
        let some = lists_at at at_is in
        let h = holds_for a lists gap left v held is some.0 some.1 in
        shows_for a lists gap' left' (record v { above = v.above ++ first ∷ []; left = first_row rest; below = rest }) some.0 some.1
        (advanced a some.0.bands some.0.row gap left v h first rest below at at_is gap' next left' leads)

  -- the rows of the last band above the gap
  module _ (some : Lists) (some_is : lists ≡ Some some) (last : Option ℕ) (leads : (front back : List ℕ) → list_of a some.bands ≡ Some (front ++ back) → gap ≡ slice_get back 0 → last ≡ last_in front) where
    abbrev holds : Holds a some.bands some.row gap left v
    holds = holds_for a lists gap left v held is some some_is

    pub last_live : (at : ℕ) → last ≡ Some at → is_some (span_of a at) ≡ true
    last_live at there =
        let l = last_above a some.bands some.row gap left v holds last leads at there in
        ap (λ (k : ℕ). is_some (span_of a k)) l.at_is ∙ ap is_some l.span

    pub last_is : (at : ℕ) → last ≡ Some at → (s : Span) → span_of a at ≡ Some s → Some (record { top = s.start; bottom = s.stop }) ≡ option_map rows_of (last_or None v.above)
    last_is at there s found =
        let l = last_above a some.bands some.row gap left v holds last leads at there in
        ap (λ (x : Span). Some (record { top = x.start; bottom = x.stop })) (same_Some s _ (sym found ∙ ap (span_of a) l.at_is ∙ l.span))
        ∙ ap (option_map rows_of) (sym (ap (last_or None) l.last_is ∙ last_or_last None (map band_of l.es) (band_of l.e)))

    pub no_last : last ≡ None → None ≡ option_map rows_of (last_or None v.above)
    no_last none = ap (λ (l : List Band). option_map rows_of (last_or None l)) (sym (none_above a some.bands some.row gap left v holds last leads none))

-- the room that a value names is its own
pub own_spare : (w : Bands) (f : ℕ → Bands) → ((n : ℕ) → (f n).spare ≡ n) → (n : ℕ) → w ≡ f n → w ≡ f w.spare
own_spare w f law n is = is ∙ ap f (sym (ap (λ (b : Bands). b.spare) is ∙ law n))

-- the row as a list with nothing behind it
pub row_end : (a : Arena) (bands rows : ℕ) (gap left : Option ℕ) (v : Bands) (h : Holds a bands rows gap left v) → Has a rows (map placed_interval h.row ++ [])
row_end a bands rows gap left v h = subst (Has a rows) (sym (append-nil (map placed_interval h.row))) h.has_row

-- the lists are there, and nothing but the room has changed
pub record Ready (a : Arena) (lists : Option Lists) (gap left : Option ℕ) (v : Bands) : Type 0 where
  pub some : Lists
  pub is : lists ≡ Some some
  pub holds : Holds a some.bands some.row gap left (record v { spare = a.spare })

pub is_there : (lists : Option Lists) → is_some lists ≡ true → (some : Lists) × (lists ≡ Some some)
is_there None there = absurd (cc)
is_there (Some some) there = (some, refl)

pub is_absent : (lists : Option Lists) → is_some lists ≡ false → lists ≡ None
is_absent None absent = refl
is_absent (Some lists) absent = absurd (cc)

module _ (a : Arena) (lists : Option Lists) (gap left : Option ℕ) (v : Bands) (held : IsHeld a lists gap left) (is : view_of a lists gap left ≡ v) where
  pub ready_before : (some : Lists) → lists ≡ Some some → Ready a lists gap left v
  ready_before some there =
      let h = holds_for a lists gap left v held is some there in
      record { some = some; is = there; holds = subst (λ (n : ℕ). Holds a some.bands some.row gap left (record v { spare = n })) h.spare_is h }

  pub ready_made : lists ≡ None → (b : Arena) (some : Lists) → Holds b some.bands some.row None None (record nothing { spare = b.spare }) → Ready b (Some some) gap left v
  ready_made none b some h =
      let S : Option Lists → Type 0 = λ l. Shows a l gap left v in
      let shows = subst S none (shown a lists gap left v held is) in
      record {
        some = some;
        is = refl;
        holds =
            subst (λ (g : Option ℕ). Holds b some.bands some.row g left (record v { spare = b.spare })) (sym shows.0)
            (subst (λ (l : Option ℕ). Holds b some.bands some.row None l (record v { spare = b.spare })) (sym shows.1)
            (subst (λ (w : Bands). Holds b some.bands some.row None None (record w { spare = b.spare })) (sym shows.2) h));
      }

pub ready_more : (a : Arena) (lists : Option Lists) (gap left : Option ℕ) (v : Bands) → Ready a lists gap left v → (b : Arena) → b ≡ record a { spare = b.spare } → Shows b lists gap left (record v { spare = b.spare })
ready_more a lists gap left v ready b more =
    shows_for b lists gap left (record v { spare = b.spare }) ready.some ready.is
    (roomier a b more ready.some.bands ready.some.row gap left (record v { spare = a.spare }) ready.holds)

module _ (a : Arena) (lists : Option Lists) (gap left : Option ℕ) (v : Bands) (held : IsHeld a lists gap left) (is : view_of a lists gap left ≡ v) where
  -- there are lists where something is left to read
  pub lists_left : (at : ℕ) → left ≡ Some at → (some : Lists) × (lists ≡ Some some)
  lists_left at there = by lists (shown a lists gap left v held is)
    where
      by : (l : Option Lists) → Shows a l gap left v → (some : Lists) × (l ≡ Some some)
      by None shows = absurd (let none = shows.1 in cc)
      by (Some some) h = (some, refl)

  pub left_live : (at : ℕ) → left ≡ Some at → is_some (span_of a at) ≡ true
  left_live at there =
      let some = lists_left at there in
      ap is_some (left_at a some.0.bands some.0.row gap left v (holds_for a lists gap left v held is some.0 some.1) at there).span

  pub left_is : (at : ℕ) → left ≡ Some at → (s : Span) → span_of a at ≡ Some s → Some (record { from = s.start; to = s.stop }) ≡ slice_get v.left 0
  left_is at there s found =
      let some = lists_left at there in
      let l = left_at a some.0.bands some.0.row gap left v (holds_for a lists gap left v held is some.0 some.1) at there in
      ap (λ (x : Span). Some (record { from = x.start; to = x.stop })) (same_Some s (placed_interval l.rest.p).1 (sym found ∙ l.span))
      ∙ ap (λ (l : List Interval). slice_get l 0) (sym l.rest.xs_is)

  pub skipped_shows : (at : ℕ) → left ≡ Some at → (left' : Option ℕ) → ((list : ℕ) (f b : List ℕ) → list_of a list ≡ Some (f ++ at ∷ b) → left' ≡ slice_get b 0) → (first : Interval) (rest : List Interval) → v.left ≡ first ∷ rest → Shows a lists gap left' (record v { left = rest })
  skipped_shows at there left' next first rest left_is =
      let some = lists_left at there in
      shows_for a lists gap left' (record v { left = rest }) some.0 some.1
      (skipped a some.0.bands some.0.row gap left v (holds_for a lists gap left v held is some.0 some.1) at there left' next first rest left_is)

  pub reread_over : IfSome gap (IsOverList a)
  reread_over = by lists (shown a lists gap left v held is)
    where
      by : (l : Option Lists) → Shows a l gap left v → IfSome gap (IsOverList a)
      by None shows = let P : Option ℕ → Type 0 = λ o. IfSome o (IsOverList a) in subst P (sym shows.0) tt
      by (Some some) h = gap_over a some.bands some.row gap left v h

  pub reread_shows : (left' : Option ℕ) → left' ≡ first_under a gap → Shows a lists gap left' (record v { left = first_row v.below })
  reread_shows left' leads = by lists (shown a lists gap left v held is)
    where
      by : (l : Option Lists) → Shows a l gap left v → Shows a l gap left' (record v { left = first_row v.below })
      by None shows = (shows.0, leads ∙ ap (first_under a) shows.0, ap (λ (w : Bands). record w { left = first_row w.below }) shows.2)
      by (Some some) h = reread a some.bands some.row gap left v h left' leads

  -- a span that is changed
  module _ (b : Arena) (sound : IsSound b) (spare : b.spare ≡ a.spare) (at : ℕ) (s t : Span) (found : span_of a at ≡ Some s) (set : (list : ℕ) (front : List Placed) (p : Placed) (back : List Placed) → Has a list (front ++ p ∷ back) → p.0 ≡ at → Has b list (front ++ (p.0, t) ∷ back)) (others : (list : ℕ) (front : List Placed) (p : Placed) (back : List Placed) → Has a list (front ++ p ∷ back) → p.0 ≡ at → Keeps a b list) where
    pub stretched_shows : (some : Lists) → lists ≡ Some some → (bottom : ℤ) → t ≡ record s { stop = bottom } → (last : Option ℕ) (leads : (front back : List ℕ) → list_of a some.bands ≡ Some (front ++ back) → gap ≡ slice_get back 0 → last ≡ last_in front) → last ≡ Some at → (front : List Band) (band : Band) → v.above ≡ front ++ band ∷ [] → Shows b lists gap left (record v { above = front ++ record band { bottom = bottom } ∷ [] })
    stretched_shows some there bottom t_is last leads at_is front band above =
        shows_for b lists gap left (record v { above = front ++ record band { bottom = bottom } ∷ [] }) some there
        (stretched a some.bands some.row gap left v (holds_for a lists gap left v held is some there) b sound spare at s t found set others bottom t_is last leads at_is front band above)

-- a list that isn't empty has a last element
pub last_there : (xs : List Band) → (xs ≡ [] → ⊥) → (front : List Band) × (last : Band) × (xs ≡ front ++ last ∷ [])
last_there xs some =
    elim (last_cases xs) [
      | inl none ↦ absurd (some none)
      | inr there ↦ there
    ]

-- the gap's span leads to a list
pub has_sub : (a : Arena) (lists : Option Lists) (gap left : Option ℕ) (v : Bands) (held : IsHeld a lists gap left) (is : view_of a lists gap left ≡ v) (at : ℕ) (there : gap ≡ Some at) (s : Span) → span_of a at ≡ Some s → (list : ℕ) × (s.sub ≡ Some list)
has_sub a lists gap left v held is at there s found =
    let g = at_gap a lists gap left v held is at there in
    (g.list, ap (λ (x : Span). x.sub) (same_Some s _ (sym found ∙ g.span)))

-- a reader's value, from all that its fields show
module _ (a : Arena) (lists : Option Lists) (gap left : Option ℕ) (r : Reading) (is : reading_of (view_of a lists gap left) ≡ r) where
  abbrev all_shown : Bands
  all_shown = view_of a lists gap left

  pub read_bands : all_shown.below ≡ r.bands
  read_bands = ap (λ (x : Reading). x.bands) is

  pub read_left : all_shown.left ≡ r.left
  read_left = ap (λ (x : Reading). x.left) is

-- the same lists in another arena
pub cloned_shows : (a b : Arena) → b.lists ≡ a.lists → b.spans ≡ a.spans → (lists : Option Lists) (gap left : Option ℕ) (v : Bands) → IsHeld a lists gap left → view_of a lists gap left ≡ v → Shows b lists gap left (record v { spare = (view_of b lists gap left).spare })
cloned_shows a b same_lists same_spans lists gap left v held is = by lists (shown a lists gap left v held is)
  where
    more : b ≡ record a { spare = b.spare }
    more = ap (λ (l : List (Option (List ℕ))). record b { lists = l }) same_lists ∙ ap (λ (s : List (Option Span)). record a { spans = s; spare = b.spare }) same_spans

    by : (l : Option Lists) → Shows a l gap left v → Shows b l gap left (record v { spare = (view_of b l gap left).spare })
    by None shows = (shows.0, shows.1, ap (λ (w : Bands). record w { spare = 0 }) shows.2)
    by (Some some) h = roomier a b more some.bands some.row gap left v h
