-- Marks that are joined, marks of no place, and places that are asked for.
use Rattle.std.proofs.Common.{◌≡◌, ℕ, suc, zero, ◌+◌, ◌*◌, ◌/◌, ◌%◌, ◌<◌, zero-add, Bool, true, false, cond, ◌||◌, ◌&&◌, not, List, [], ◌∷◌, get_or, replicate, reverse, refl, sym, subst, ◌∙◌, ap, arith}
use Rattle.std.specs.Prelude.{ℤ, pos, nat_abs}
use Rattle.std.specs.List.{All, list_any}
use Rattle.std.proofs.lemmas.Int.{ints}
use Rattle.std.proofs.lemmas.Nat.{mul-add-lt}
use Rattle.std.proofs.lemmas.List.FromFn.{get_or-map-range_with_len, length-map-range_with_len}
use Rattle.std.proofs.lemmas.List.{reverse-append}
use Rattle.std.proofs.lemmas.List.Folds.{list_any_at, list_any_none}
use Rattle.region.specs.declared.Rect.{Rect}
use Rattle.region.specs.Region.{covers, in_rect, on_screen, IsCanonical}
use Rattle.region.specs.Places.{by_place, IsOnScreen}
use Rattle.region.specs.PlaceLemmas.{is_place, same_by_place, below, value_on}
use Rattle.region.specs.CopyPlaceLemmas.{rects-on-screen}
use Rattle.copy_schedule.specs.declared.Mark as mark
use Rattle.copy_schedule.specs.declared.Mark.TheVariants.{Clean, Owed}
use Rattle.copy_schedule.specs.Marks.{Marks, mark_at, has_asked, marked, copied_by, resized, is_clean, wanted, pending}
use Rattle.copy_schedule.specs.MarkSets.{LiesOn}
use Rattle.copy_schedule.specs.MarkSetLemmas.{none_asked}
use Rattle.copy_schedule.specs.declared.LogEntry.{LogEntry}
use Rattle.copy_schedule.specs.declared.LogEntry.TheVariants.{Mark, Copy}
use Rattle.region.specs.RegionView.{RegionView}
use Rattle.copy_schedule.specs.Log.{after_entry, logged, IsCutEntry}
use Rattle.std.proofs.Common.{◌++◌}
use Rattle.std.proofs.lemmas.List.Elements.{All-append, All-cons, All-nil, All-head, All-tail}

-- one set after another is both at once
pub marked_twice : (m : Marks) (first second both : ℤ → ℤ → Bool) → ((x y : ℤ) → both x y ≡ (first x y || second x y)) → marked both m ≡ marked second (marked first m)
marked_twice m first second both each = ap (λ marks. record m { marks = marks }) (same_by_place m.width m.height (λ x y. cond (both x y) Owed (mark_at m x y)) (λ x y. cond (second x y) Owed (mark_at (marked first m) x y)) (λ x y on.
    ap (λ t. cond t Owed (mark_at m x y)) (each x y)
    ∙ either (first x y) (second x y) (mark_at m x y)
    ∙ ap (cond (second x y) Owed) (sym (value_on Clean m.width m.height (λ x y. cond (first x y) Owed (mark_at m x y)) x y on))))
  where
    either : (a b : Bool) → (z : mark.Mark) → cond (a || b) Owed z ≡ cond b Owed (cond a Owed z)
    either true true z = refl
    either true false z = refl
    either false true z = refl
    either false false z = refl

-- entries behind others
pub logged_append : (uses : Bool) (xs ys : List LogEntry) (m : Marks) → logged uses (xs ++ ys) m ≡ logged uses ys (logged uses xs m)
logged_append uses [] ys m = refl
logged_append uses (x ∷ xs) ys m = logged_append uses xs ys (after_entry uses x m)

-- an entry last, on a screen as the others are
pub cut_append : (w h : ℕ) (xs : List LogEntry) (entry : LogEntry) → All (IsCutEntry w h) xs → IsCutEntry w h entry → All (IsCutEntry w h) (xs ++ entry ∷ [])
cut_append w h xs entry all one = All-append (IsCutEntry w h) xs (entry ∷ []) all (All-cons (IsCutEntry w h) entry [] one (All-nil (IsCutEntry w h)))

-- what is left of entries on a screen
pub front_is_cut : (w h : ℕ) (xs ys : List LogEntry) → All (IsCutEntry w h) (xs ++ ys) → All (IsCutEntry w h) xs
front_is_cut w h [] ys all = All-nil (IsCutEntry w h)
front_is_cut w h (x ∷ xs) ys all = All-cons (IsCutEntry w h) x xs (All-head (IsCutEntry w h) x (xs ++ ys) all) (front_is_cut w h xs ys (All-tail (IsCutEntry w h) x (xs ++ ys) all))

-- an entry before others, which stand from the last to the first
pub logged_before : (uses : Bool) (others now : List LogEntry) (entry : LogEntry) (m : Marks) → now ≡ others ++ entry ∷ []
    → logged uses (reverse now) m ≡ logged uses (reverse others) (after_entry uses entry m)
logged_before uses others now entry m is =
    ap (λ (xs : List LogEntry). logged uses (reverse xs) m) is ∙ ap (λ (xs : List LogEntry). logged uses xs m) (reverse-append others (entry ∷ []))

-- entries on a screen, from the last to the first
pub reversed_is_cut : (w h : ℕ) (xs : List LogEntry) → All (IsCutEntry w h) xs → All (IsCutEntry w h) (reverse xs)
reversed_is_cut w h [] all = All-nil (IsCutEntry w h)
reversed_is_cut w h (x ∷ xs) all =
    subst (All (IsCutEntry w h)) (sym (reverse-append (x ∷ []) xs)) (cut_append w h (reverse xs) x (reversed_is_cut w h xs (All-tail (IsCutEntry w h) x xs all)) (All-head (IsCutEntry w h) x xs all))

-- a mark that is joined to the one behind it
pub joins_mark : (uses : Bool) (others old now : List LogEntry) (next region both : RegionView) (m : Marks) → old ≡ others ++ Mark next ∷ []
    → ((x y : ℤ) → covers both.list x y ≡ (covers region.list x y || covers next.list x y)) → now ≡ others ++ Mark both ∷ []
    → logged uses (reverse now) m ≡ logged uses (reverse old) (marked (covers region.list) m)
joins_mark uses others old now next region both m was each is =
    logged_before uses others now (Mark both) m is
    ∙ ap (logged uses (reverse others)) (marked_twice m (covers region.list) (covers next.list) (covers both.list) each)
    ∙ sym (logged_before uses others old (Mark next) (marked (covers region.list) m) was)

-- a mark before others
pub comes_before : (uses : Bool) (old now : List LogEntry) (region copy : RegionView) (m : Marks) → now ≡ old ++ Mark copy ∷ [] → copy.list ≡ region.list
    → logged uses (reverse now) m ≡ logged uses (reverse old) (marked (covers region.list) m)
comes_before uses old now region copy m is same =
    logged_before uses old now (Mark copy) m is ∙ ap (λ (rs : List Rect). logged uses (reverse old) (marked (covers rs) m)) same

-- a copy of the same region by the same offset
pub joins_copy : (uses : Bool) (copy region : RegionView) (d e dx dy : ℤ) (entry : LogEntry) (m : Marks) → copy.list ≡ region.list → d ≡ dx → e ≡ dy → entry ≡ Copy region dx dy
    → copied_by (covers copy.list) (d, e) uses m ≡ after_entry uses entry m
joins_copy uses copy region d e dx dy entry m list across down is =
    ap (λ (rs : List Rect). copied_by (covers rs) (d, e) uses m) list
    ∙ ap (λ (x : ℤ). copied_by (covers region.list) (x, e) uses m) across
    ∙ ap (λ (y : ℤ). copied_by (covers region.list) (dx, y) uses m) down
    ∙ ap (λ (en : LogEntry). after_entry uses en m) (sym is)

-- Places that are asked for.

place_covered : (w h : ℕ) (rs : List Rect) (x y : ℤ) → on_screen w h x y ≡ true → covers rs x y ≡ true → list_any (λ b. b) (by_place w h (covers rs)) ≡ true
place_covered w h rs x y on at =
    let place = is_place w h x y on in
    let column = below w x place.left place.right in
    let row = below h y place.top place.bottom in
    let n = nat_abs y * w + nat_abs x in
    list_any_at (λ b. b) (by_place w h (covers rs)) n false
    (omega (arith, length-map-range_with_len (λ i. covers rs (pos (i % w)) (pos (i / w))) 0 (w * h), mul-add-lt (nat_abs y) w (nat_abs x) h row column))
    (sym (ap (λ b. cond b (get_or (by_place w h (covers rs)) n false) false) on) ∙ value_on false w h (covers rs) x y on ∙ at)

corner : (w h : ℕ) (r : Rect) → IsOnScreen w h r → in_rect r r.x1 r.y1 ≡ true
corner w h r on =
    let columns = on.columns in
    let rows = on.rows in
    grind (arith, ints)

none_of : (n : ℕ) → list_any (λ b. b) (replicate n false) ≡ false
none_of zero = refl
none_of (suc n) = none_of n

-- a region's places are asked for: some, unless its list is empty
pub some_asked : (w h : ℕ) (r : Rect) (rs : List Rect) → IsCanonical (r ∷ rs) → LiesOn w h (r ∷ rs) → list_any (λ b. b) (by_place w h (covers (r ∷ rs))) ≡ true
some_asked w h r rs canonical lies =
    let at : covers (r ∷ rs) r.x1 r.y1 ≡ true = ap (λ b. b || covers rs r.x1 r.y1) (corner w h r (rects-on-screen w h (r ∷ rs) canonical lies 0 r (omega arith))) in
    place_covered w h (r ∷ rs) r.x1 r.y1 (lies r.x1 r.y1 at) at

pub asked_by_list : (w h : ℕ) (rs : List Rect) (is_empty : Bool) → IsCanonical rs → LiesOn w h rs → (is_empty ≡ true → rs ≡ []) → (rs ≡ [] → is_empty ≡ true) → not is_empty ≡ list_any (λ b. b) (by_place w h (covers rs))
asked_by_list w h [] is_empty canonical lies none empty = ap not (empty refl) ∙ sym (ap (list_any (λ b. b)) (none_asked w h [] refl) ∙ none_of (w * h))
asked_by_list w h (r ∷ rs) true canonical lies none empty = absurd (let e = none refl in cc)
asked_by_list w h (r ∷ rs) false canonical lies none empty = sym (some_asked w h r rs canonical lies)

no_element : (bs : List Bool) (k : ℕ) → list_any (λ b. b) bs ≡ false → get_or bs k false ≡ false
no_element [] k none = refl
no_element (false ∷ bs) zero none = refl
no_element (false ∷ bs) (suc k) none = no_element bs k none
no_element (true ∷ bs) k none = absurd (cc)

-- where no place is asked for, none is wanted
pub unasked_is_not_pending : (m : Marks) → has_asked m ≡ false → pending m ≡ false
unasked_is_not_pending m none = list_any_none (λ is_in. is_in) (by_place m.width m.height (wanted m)) (λ i d within.
    let inside : i < m.width * m.height = omega (arith, within, length-map-range_with_len (λ i. wanted m (pos (i % m.width)) (pos (i / m.width))) 0 (m.width * m.height)) in
    get_or-map-range_with_len (λ i. wanted m (pos (i % m.width)) (pos (i / m.width))) 0 (m.width * m.height) i i d inside (zero-add i) ∙ unwanted (pos (i % m.width)) (pos (i / m.width)))
  where
    off : (on a z : Bool) → a ≡ false → (cond on a false && z) ≡ false
    off true a z e = ap (λ t. t && z) e
    off false a z e = refl

    unwanted : (x y : ℤ) → wanted m x y ≡ false
    unwanted x y = off (on_screen m.width m.height x y) (get_or m.asked (nat_abs y * m.width + nat_abs x) false) (not (is_clean (mark_at m x y))) (no_element m.asked (nat_abs y * m.width + nat_abs x) none)

-- a new size makes the same of marks whether or not they know what waits: drawing has no say in what is asked for
pub resized_logged : (w h : ℕ) (view : ℤ → ℤ → Bool) (uses : Bool) (entries : List LogEntry) (m : Marks) → resized w h view (logged uses entries m) ≡ resized w h view m
resized_logged w h view uses [] m = refl
resized_logged w h view uses (Mark region ∷ entries) m = resized_logged w h view uses entries (after_entry uses (Mark region) m)
resized_logged w h view true (Copy region dx dy ∷ entries) m = resized_logged w h view true entries (after_entry true (Copy region dx dy) m)
resized_logged w h view false (Copy region dx dy ∷ entries) m = resized_logged w h view false entries (after_entry false (Copy region dx dy) m)

-- drawing has no say in what is asked for
pub asked_logged : (uses : Bool) (entries : List LogEntry) (m : Marks) → has_asked (logged uses entries m) ≡ has_asked m
asked_logged uses [] m = refl
asked_logged uses (Mark region ∷ entries) m = asked_logged uses entries (after_entry uses (Mark region) m)
asked_logged true (Copy region dx dy ∷ entries) m = asked_logged true entries (after_entry true (Copy region dx dy) m)
asked_logged false (Copy region dx dy ∷ entries) m = asked_logged false entries (after_entry false (Copy region dx dy) m)
