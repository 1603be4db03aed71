-- Room for the bands of the places of two regions.
use Rattle.std.proofs.Common.{◌≡◌, ◌*◌, ◌/◌, ◌≤◌, ℕ, List, sym, ◌∙◌, ap, arith}
use Rattle.std.specs.Prelude.{ℤ, ◌||◌, IsTrue, ◌↔◌}
use Rattle.std.proofs.Math.Dec.{leb}
use Rattle.std.proofs.lemmas.Bool.{le-leb, leb-true}
use Rattle.region.specs.declared.Rect.{Rect}
use Rattle.region.specs.Region.{covers}
use Rattle.region.specs.RegionView.{RegionView}
use Rattle.region_bands.specs.Bands.{Band, nodes_in}
use Rattle.region_rows.specs.declared.Keep.TheVariants.{Either}
use Rattle.region_sets.specs.Sets.{AreBands, has, IsKept}
use Rattle.region_sets.specs.WholeLemmas.{whole_bands}
use Rattle.region.specs.Rects.{rects_in}
use Rattle.region.specs.Room.{AreBandsOfBoth, IsRoomFor}
use Rattle.region.proofs.BandRectLemmas.{covers_has}

places : (bands : List Band) (list : List Rect) → rects_in bands ≡ list → (x y : ℤ) → covers list x y ≡ has bands x y
places bands list e x y = ap (λ l. covers l x y) (sym e) ∙ covers_has bands x y

either : (a b : List Band) (v w : List Rect) → rects_in a ≡ v → rects_in b ≡ w → (x y : ℤ) → (covers v x y || covers w x y) ≡ (has a x y || has b x y)
either a b v w e f x y = ap (λ t. t || covers w x y) (places a v e x y) ∙ ap (λ t. has a x y || t) (places b w f x y)

both_kept : (a b bands : List Band) (v w : List Rect) → rects_in a ≡ v → rects_in b ≡ w → AreBandsOfBoth v w bands → IsKept Either a b bands
both_kept a b bands v w e f h = record { are_bands = h.are_bands; has = λ x y. h.has x y ∙ either a b v w e f x y }

kept_both : (a b bands : List Band) (v w : List Rect) → rects_in a ≡ v → rects_in b ≡ w → IsKept Either a b bands → AreBandsOfBoth v w bands
kept_both a b bands v w e f h = record { are_bands = h.are_bands; has = λ x y. h.has x y ∙ sym (either a b v w e f x y) }

-- the bands that are kept are the bands of both
pub has_room : (a b : List Band) (v w : RegionView) → rects_in a ≡ v.list → rects_in b ≡ w.list → ((bands : List Band) → IsKept Either a b bands → 2 * nodes_in bands ≤ v.room) → IsRoomFor v w
has_room a b v w e f few = λ bands both. few bands (both_kept a b bands v.list w.list e f both)

pub kept_in_room : (a b : List Band) (v w : RegionView) → rects_in a ≡ v.list → rects_in b ≡ w.list → IsRoomFor v w → (bands : List Band) → IsKept Either a b bands → 2 * nodes_in bands ≤ v.room
kept_in_room a b v w e f h bands kept = h bands (kept_both a b bands v.list w.list e f kept)

-- by how many nodes they take, since there are such bands
pub whether_room : (a b : List Band) (v w : RegionView) (nodes : ℕ) → AreBands a → AreBands b → rects_in a ≡ v.list → rects_in b ≡ w.list → ((bands : List Band) → IsKept Either a b bands → nodes ≡ nodes_in bands) → IsTrue (leb nodes (v.room / 2)) ↔ IsRoomFor v w
whether_room a b v w nodes ha hb e f count = (
  λ yes. let low : nodes ≤ v.room / 2 = leb-true nodes (v.room / 2) yes in has_room a b v w e f (λ bands kept. let is = count bands kept in omega (arith, is, low)),
  λ room. let made = whole_bands Either a b ha hb in
      let is : nodes ≡ nodes_in made.0 = count made.0 made.1 in
      let high : 2 * nodes_in made.0 ≤ v.room = room made.0 (kept_both a b made.0 v.list w.list e f made.1) in
      le-leb nodes (v.room / 2) (omega (arith, is, high)),
)
