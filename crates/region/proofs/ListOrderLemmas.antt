-- The orders of the rectangles of bands: each band's turned around, or all of them.
use Rattle.std.proofs.Common.{◌≡◌, Bool, true, false, List, [], ◌∷◌, ◌++◌, map, refl, sym, ◌∙◌, ap}
use Rattle.std.specs.Prelude.{not, flat_map, reverse}
use mathlib.Core.Bool.{beq}
use Rattle.region.specs.Region.{reversed_if, in_order}
use Rattle.region.specs.OrderLemmas.{in_order-plain, in_order-both, in_order-bands}
use Rattle.region_bands.specs.Bands.{Band}
use Rattle.region_sets.specs.Sets.{AreBands}
use Rattle.region.specs.Rects.{rects_of_band, rects_in, lines_in}
use Rattle.region.proofs.PopLemmas.{lines_of}

mapped : (bands : List Band) → flat_map reverse (map rects_of_band bands) ≡ lines_in true bands
mapped [] = refl
mapped (b ∷ bands) = ap (λ l. reverse (rects_of_band b) ++ l) (mapped bands)

pub plain : (bands : List Band) → rects_in bands ≡ lines_in false bands
plain [] = refl
plain (b ∷ bands) = ap (λ l. rects_of_band b ++ l) (plain bands)

bands_reversed : (bands : List Band) → AreBands bands → in_order true false (rects_in bands) ≡ lines_in true bands
bands_reversed bands h = ap (flat_map reverse) (lines_of bands h) ∙ mapped bands

-- the whole turned around, of lines that are turned around where one of the two is to be and not the other
pub in_the_order : (reverse_x reverse_y : Bool) (bands : List Band) → AreBands bands → reversed_if reverse_y (lines_in (not (beq reverse_x reverse_y)) bands) ≡ in_order reverse_x reverse_y (rects_in bands)
in_the_order false false bands h = sym (plain bands) ∙ sym (in_order-plain (rects_in bands))
in_the_order true false bands h = sym (bands_reversed bands h)
in_the_order false true bands h = ap reverse (sym (bands_reversed bands h)) ∙ sym (in_order-bands (rects_in bands))
in_the_order true true bands h = ap reverse (sym (plain bands)) ∙ sym (in_order-both (rects_in bands))
