-- Room for the places of two regions.
use Rattle.std.specs.Prelude.{◌≡◌, ◌*◌, ◌≤◌, ◌||◌, ℤ, List}
use Rattle.region.specs.declared.Rect.{Rect}
use Rattle.region.specs.Region.{covers}
use Rattle.region.specs.RegionView.{RegionView}
use Rattle.region_bands.specs.Bands.{Band, nodes_in}
use Rattle.region_sets.specs.Sets.{AreBands, has}

-- the maximal bands of the places of both lists
pub record AreBandsOfBoth (a b : List Rect) (bands : List Band) : Type 0 where
  pub are_bands : AreBands bands
  pub has : (x y : ℤ) → has bands x y ≡ (covers a x y || covers b x y)

-- the room of the first is enough for the bands of the places of both, twice over: a band takes two nodes, and one more for
-- each of its intervals
abbrev pub IsRoomFor : RegionView → RegionView → Type 0
IsRoomFor a b = (bands : List Band) → AreBandsOfBoth a.list b.list bands → 2 * nodes_in bands ≤ a.room
