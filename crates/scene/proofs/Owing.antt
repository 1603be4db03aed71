-- Places that are owed: those off the screen count for nothing, and a region's rectangles have their corners in order.
use Rattle.std.proofs.Common.{◌≡◌, ℕ, ℤ, pos, ◌*◌, ◌/◌, ◌%◌, ◌<◌, ◌≤◌, Bool, true, cond, ◌&&◌, List, [], ◌∷◌, map, All, refl, sym, ap, ◌∙◌, arith, mul_comm, false}
use Rattle.std.specs.Prelude.{◌-ℤ◌, ◌<ℤ◌}
use Rattle.std.specs.Int.{int_min, int_max}
use Rattle.std.specs.List.{range_with_len, AllByRecursion}
use Rattle.std.specs.Map.{values_of}
use Rattle.client_list.specs.Connected.{changed}
use Rattle.std.proofs.Math.Nat.{mod-lt, div-lt_iff_lt-mul}
use Rattle.std.proofs.lemmas.Bool.Decides.{nat_tests}
use Rattle.std.proofs.lemmas.Int.{ints}
use Rattle.std.proofs.lemmas.List.FromFn.{fill_by_all, get_or-map-range_with_len, length-map-range_with_len}
use Rattle.region.specs.declared.Rect.{Rect}
use Rattle.region.specs.Region.{covers, on_screen, IsCanonical}
use Rattle.region.specs.ScreenLemmas.{HasPlaces, rects_some}
use Rattle.copy_schedule.specs.declared.Mark.{Mark}
use Rattle.copy_schedule.specs.declared.Mark.TheVariants.{Clean, Owed}
use Rattle.region.specs.Places.{cut_destination}
use Rattle.copy_schedule.specs.Marks.{Marks, mark_at, marked}
use Rattle.framebuffer.specs.Picture.{straight, places_in}
use Rattle.viewer.specs.Viewer.{KeptViewer, viewer_marked}
use Rattle.viewer_list.specs.Viewers.{IsWhole, IsOfSize}
use Rattle.viewer_list.specs.SizeLemmas.{marked_none}
use Rattle.scene.proofs.Kept.{all-head, all-tail}

on_it : (w h k : ℕ) → 0 < w → k < w * h → on_screen w h (pos (k % w)) (pos (k / w)) ≡ true
on_it w h k some below = grind (arith, nat_tests, mod-lt k some, (div-lt_iff_lt-mul {k = w} {x = k} {y = h} some).1 (let e = mul_comm w h in omega (arith, e)))

marked-same : (m : Marks) (f g : ℤ → ℤ → Bool) → 0 < m.width → ((x y : ℤ) → on_screen m.width m.height x y ≡ true → f x y ≡ g x y) → marked f m ≡ marked g m
marked-same m f g some same =
    ap (λ (l : List Mark). record m { marks = l })
    (fill_by_all (value g) (map (value f) (range_with_len 0 (m.width * m.height))) (m.width * m.height) Clean (length-map-range_with_len (value f) 0 (m.width * m.height))
    (λ k below. get_or-map-range_with_len (value f) 0 (m.width * m.height) k k Clean below (omega arith)
    ∙ ap (λ b. cond b Owed (mark_at m (pos (k % m.width)) (pos (k / m.width)))) (same (pos (k % m.width)) (pos (k / m.width)) (on_it m.width m.height k some below))))
  where
    value : (ℤ → ℤ → Bool) → ℕ → Mark
    value set i = cond (set (pos (i % m.width)) (pos (i / m.width))) Owed (mark_at m (pos (i % m.width)) (pos (i / m.width)))

-- a set that is cut to the screen
cut-same : (w h : ℕ) (set : ℤ → ℤ → Bool) (x y : ℤ) → on_screen w h x y ≡ true → cut_destination w h set (pos 0, pos 0) x y ≡ set x y
cut-same w h set x y on =
    let is_x : x -ℤ pos 0 ≡ x = omega (arith, ints) in
    let is_y : y -ℤ pos 0 ≡ y = omega (arith, ints) in
    ap (λ a. (set x y && on_screen w h x y) && on_screen w h a (y -ℤ pos 0)) is_x
    ∙ ap (λ b. (set x y && on_screen w h x y) && on_screen w h x b) is_y
    ∙ ap (λ t. (set x y && t) && t) on
    ∙ both (set x y)
  where
    both : (b : Bool) → ((b && true) && true) ≡ b
    both b = elim b as (λ t. ((t && true) && true) ≡ t) [ true ↦ refl | _ ↦ refl ]

-- a set that is as another on the screen
pub owed-same : (w h : ℕ) (set cut : ℤ → ℤ → Bool) (pairs : List (ℕ × KeptViewer)) → 1 ≤ w → ((x y : ℤ) → on_screen w h x y ≡ true → cut x y ≡ set x y) → All (IsOfSize w h) (values_of pairs)
    → changed (viewer_marked cut) pairs ≡ changed (viewer_marked set) pairs
owed-same w h set cut [] some same sized = refl
owed-same w h set cut (pair ∷ pairs) some same sized =
    let size = all-head (IsOfSize w h) pair.1 (values_of pairs) sized in
    ap (λ (m : Marks). (pair.0, record pair.1 { marks = m }) ∷ changed (viewer_marked cut) pairs)
    (marked-same pair.1.marks cut set (omega (arith, size.width, some)) (λ x y on. same x y (sym (ap (λ n. on_screen n pair.1.marks.height x y) size.width ∙ ap (λ n. on_screen w n x y) size.height) ∙ on)))
    ∙ ap (λ (l : List (ℕ × KeptViewer)). (pair.0, viewer_marked set pair.1) ∷ l) (owed-same w h set cut pairs some same (all-tail (IsOfSize w h) pair.1 (values_of pairs) sized))

pub owed-cut : (w h : ℕ) (set cut : ℤ → ℤ → Bool) (pairs : List (ℕ × KeptViewer)) → 1 ≤ w → cut ≡ cut_destination w h set (pos 0, pos 0) → All (IsOfSize w h) (values_of pairs)
    → changed (viewer_marked cut) pairs ≡ changed (viewer_marked set) pairs
owed-cut w h set cut pairs some is sized = owed-same w h set cut pairs some (λ x y on. ap (λ (f : ℤ → ℤ → Bool). f x y) is ∙ cut-same w h set x y on) sized

-- a region that is cut to the screen
pub cut-region : (w h : ℕ) (here : ℤ → ℤ → Bool) (cut : ℤ → ℤ → Bool) → ((x y : ℤ) → cut x y ≡ (here x y && on_screen w h x y)) → (x y : ℤ) → on_screen w h x y ≡ true → cut x y ≡ here x y
cut-region w h here cut is x y on = is x y ∙ ap (λ b. here x y && b) on ∙ and_true (here x y)
  where
    and_true : (b : Bool) → (b && true) ≡ b
    and_true b = elim b as (λ t. (t && true) ≡ t) [ true ↦ refl | _ ↦ refl ]

-- a set with no place
pub unmarked : (set : ℤ → ℤ → Bool) (pairs : List (ℕ × KeptViewer)) → ((x y : ℤ) → set x y ≡ false) → All IsWhole (values_of pairs) → changed (viewer_marked set) pairs ≡ pairs
unmarked set [] none whole = refl
unmarked set (pair ∷ pairs) none whole =
    ap (λ (m : Marks). (pair.0, record pair.1 { marks = m }) ∷ changed (viewer_marked set) pairs) (marked_none set pair.1.marks none (all-head IsWhole pair.1 (values_of pairs) whole))
    ∙ ap (λ (l : List (ℕ × KeptViewer)). pair ∷ l) (unmarked set pairs none (all-tail IsWhole pair.1 (values_of pairs) whole))

-- ---- a region's rectangles

straight-one : (r : Rect) → r.x1 <ℤ r.x2 → r.y1 <ℤ r.y2 → straight r ≡ r
straight-one r wide high =
    let x1 : int_min r.x1 r.x2 ≡ r.x1 = grind (arith, ints) in
    let y1 : int_min r.y1 r.y2 ≡ r.y1 = grind (arith, ints) in
    let x2 : int_max r.x1 r.x2 ≡ r.x2 = grind (arith, ints) in
    let y2 : int_max r.y1 r.y2 ≡ r.y2 = grind (arith, ints) in
    let rect : ℤ → ℤ → ℤ → ℤ → Rect = λ a b d e. record { x1 = a; y1 = b; x2 = d; y2 = e } in
    ap (λ a. rect a (int_min r.y1 r.y2) (int_max r.x1 r.x2) (int_max r.y1 r.y2)) x1 ∙ ap (λ b. rect r.x1 b (int_max r.x1 r.x2) (int_max r.y1 r.y2)) y1
    ∙ ap (λ d. rect r.x1 r.y1 d (int_max r.y1 r.y2)) x2 ∙ ap (rect r.x1 r.y1 r.x2) y2

straight-all : (rs : List Rect) → AllByRecursion HasPlaces rs → map straight rs ≡ rs
straight-all [] all = refl
straight-all (r ∷ rs) all = ap (λ q. q ∷ map straight rs) (straight-one r all.0.0 all.0.1) ∙ ap (λ l. r ∷ l) (straight-all rs all.1)

pub region-straight : (rs : List Rect) → IsCanonical rs → places_in rs ≡ covers rs
region-straight rs canonical = ap covers (straight-all rs (rects_some rs canonical))
