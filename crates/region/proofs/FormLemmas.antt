-- The bands of a region's form, and its places.
use Rattle.std.proofs.Common.{◌≡◌, ◌≤◌, ◌*◌, Bool, true, false, ◌&&◌, List, [], ◌∷◌, ◌++◌, refl, sym, ◌∙◌, ap, subst, arith, Option, Some, None}
use Rattle.std.specs.Prelude.{ℤ, ◌||◌, ◌+ℤ◌, not, int_le, int_lt, IsTrue, ◌↔◌}
use Rattle.std.specs.Option.{option_map}
use Rattle.std.specs.Global.{Box}
use Rattle.std.proofs.lemmas.Int.{ints}
use Rattle.region.specs.declared.Rect.{Rect}
use Rattle.region.specs.declared.form.Form.{Form}
use Rattle.region.specs.declared.form.Form.TheVariants.{Plain, Linked}
use Rattle.region.specs.declared.form.LinkedBands.{LinkedBands}
use Rattle.region.specs.Region.{in_rect, covers}
use Rattle.region.specs.RegionView.{in_range, moved_rect, leaves_range, SharePlace}
use Rattle.region_bands.specs.Bands.{Band, nodes_in}
use Rattle.region_rows.specs.declared.Keep.{Keep}
use Rattle.region_sets.specs.Sets.{AreBands, IsKept}
use Rattle.region_sets.specs.WholeLemmas.{whole_bands}
use Rattle.region_sets.specs.declared.queries.Rectangle.{Rectangle}
use Rattle.region.specs.Rects.{rect_in, rects_in, AreBandsWithRoom}
use Rattle.region.specs.Forms.{IsPlain, IsForm, in_plain, plain_bands, bands_in, room_in, PlainsShare}

pub plain_are_bands : (rect : Option Rect) → IsPlain rect → AreBands (plain_bands rect)
plain_are_bands None h = tt
plain_are_bands (Some r) h = record { some = h.rows; row = h.columns; columns = λ e. cc }

pub form_bands : (form : Form) → IsForm form → AreBands (bands_in form)
form_bands (Plain rect) h = plain_are_bands rect h
form_bands (Linked own) h = h.bands

module _ (form : Form) (own : Box LinkedBands) (e : form ≡ Linked own) (now : LinkedBands) (is : now ≡ own.value) where
  pub linked_bands : now.bands.above ++ now.bands.below ≡ bands_in form
  linked_bands = ap (λ (u : LinkedBands). u.bands.above ++ u.bands.below) is ∙ ap bands_in (sym e)

  pub linked_room : now.room ≡ room_in form
  linked_room = ap (λ (u : LinkedBands). u.room) is ∙ ap room_in (sym e)

  pub linked_with_room : IsForm form → AreBandsWithRoom now.bands now.room
  linked_with_room h = subst (λ (u : LinkedBands). AreBandsWithRoom u.bands u.room) (sym is) (subst IsForm e h)

or_none : (b : Bool) → (b || false) ≡ b
or_none true = refl
or_none false = refl

pub plain_covers : (rect : Option Rect) (x y : ℤ) → covers (rects_in (plain_bands rect)) x y ≡ in_plain rect x y
plain_covers None x y = refl
plain_covers (Some r) x y = or_none (in_rect r x y)

pub form_plain : (form : Form) (rect : Option Rect) (x y : ℤ) → form ≡ Plain rect → covers (rects_in (bands_in form)) x y ≡ in_plain rect x y
form_plain form rect x y e = ap (λ f. covers (rects_in (bands_in f)) x y) e ∙ plain_covers rect x y

-- ---- regions without linked spans

pub plains_share : (f g : Form) (a b : Option Rect) (rs qs : List Rect) (t : Bool) → f ≡ Plain a → g ≡ Plain b → rects_in (bands_in f) ≡ rs → rects_in (bands_in g) ≡ qs → IsTrue t ↔ PlainsShare a b → IsTrue t ↔ SharePlace rs qs
plains_share f g a b rs qs t e h i j both = (
  λ yes. let s = both.0 yes in (s.0, (s.1.0, same s.0 s.1.0 ∙ s.1.1)),
  λ s. both.1 (s.0, (s.1.0, sym (same s.0 s.1.0) ∙ s.1.1)),
)
  where
    same : (x y : ℤ) → (covers rs x y && covers qs x y) ≡ (in_plain a x y && in_plain b x y)
    same x y = ap (λ l. covers l x y && covers qs x y) (sym i) ∙ ap (λ l. covers (rects_in (bands_in f)) x y && covers l x y) (sym j)
        ∙ ap (λ p. p && covers (rects_in (bands_in g)) x y) (form_plain f a x y e) ∙ ap (λ p. in_plain a x y && p) (form_plain g b x y h)

-- ---- a rectangle that is moved

pub plain_stays : (dx dy : ℤ) (form : Form) (rect : Option Rect) (r : Rect) → form ≡ Plain rect → rect ≡ Some r → leaves_range dx dy (rects_in (bands_in form)) ≡ false → in_range (moved_rect dx dy r) ≡ true
plain_stays dx dy form rect r e f stays = go (in_range (moved_rect dx dy r)) (ap (λ g. leaves_range dx dy (rects_in (bands_in g))) (sym (e ∙ ap Plain f)) ∙ stays)
  where
    go : (b : Bool) → (not b || false) ≡ false → b ≡ true
    go true e = refl
    go false e = absurd (cc)

pub moved_has : (dx dy : ℤ) (r : Rect) (x y : ℤ) → in_rect (moved_rect dx dy r) (x +ℤ dx) (y +ℤ dy) ≡ in_rect r x y
moved_has dx dy r x y =
    ap (λ t. ((t && int_lt (x +ℤ dx) (r.x2 +ℤ dx)) && int_le (r.y1 +ℤ dy) (y +ℤ dy)) && int_lt (y +ℤ dy) (r.y2 +ℤ dy)) (le_moved r.x1 x dx)
    ∙ ap (λ t. ((int_le r.x1 x && t) && int_le (r.y1 +ℤ dy) (y +ℤ dy)) && int_lt (y +ℤ dy) (r.y2 +ℤ dy)) (lt_moved x r.x2 dx)
    ∙ ap (λ t. ((int_le r.x1 x && int_lt x r.x2) && t) && int_lt (y +ℤ dy) (r.y2 +ℤ dy)) (le_moved r.y1 y dy)
    ∙ ap (λ t. ((int_le r.x1 x && int_lt x r.x2) && int_le r.y1 y) && t) (lt_moved y r.y2 dy)
  where
    le_moved : (a b d : ℤ) → int_le (a +ℤ d) (b +ℤ d) ≡ int_le a b
    le_moved a b d = grind (arith, ints)

    lt_moved : (a b d : ℤ) → int_lt (a +ℤ d) (b +ℤ d) ≡ int_lt a b
    lt_moved a b d = grind (arith, ints)

-- ---- no room was made

pub kept_nothing : (keep : Keep) (form : Form) (rect : Option Rect) (b : List Band) → form ≡ Plain rect → AreBands (bands_in form) → AreBands b → ((bands : List Band) → IsKept keep (bands_in form) b bands → 2 * nodes_in bands ≤ room_in form) → IsKept keep (bands_in form) b []
kept_nothing keep form rect b e ha hb few = let made = whole_bands keep (bands_in form) b ha hb in go made.0 made.1 (few made.0 made.1)
  where
    go : (bands : List Band) → IsKept keep (bands_in form) b bands → 2 * nodes_in bands ≤ room_in form → IsKept keep (bands_in form) b []
    go [] kept few = kept
    go (c ∷ bands) kept few = absurd (let none : room_in form ≡ 0 = ap room_in e in omega (arith, few, none))

pub not_found : (o : Option Rectangle) (result : Option Rect) → result ≡ option_map rect_in o → result ≡ None → o ≡ None
not_found None result e none = refl
not_found (Some r) result e none = absurd (let no : None ≡ option_map rect_in (Some r) = sym none ∙ e in cc)
