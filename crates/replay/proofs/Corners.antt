-- The numbers of a region's line.
use Rattle.std.proofs.Common.{◌≡◌, ℕ, ◌≤◌, List, [], ◌∷◌, ◌++◌, length, drop, refl, sym, ap, ◌∙◌, arith, append_assoc, Option, Some, None, ℤ}
use Rattle.std.specs.Prelude.{option_map, option_and_then, get_or}
use Rattle.replay.specs.Lines.{corner, corners, rects_of, behind_rects}

-- a number more
pub corners_more : (front : List ℤ) (w : List ℕ) (ws : List (List ℕ)) (n : ℤ) (all : Option (List ℤ)) → corner w ≡ Some n → option_map (λ ns. front ++ ns) (corners (w ∷ ws)) ≡ all → option_map (λ ns. (front ++ n ∷ []) ++ ns) (corners ws) ≡ all
corners_more front w ws n all e h =
    sym (at (corners ws)) ∙ sym (ap (λ o. option_map (λ ns. front ++ ns) (option_and_then (λ (m : ℤ). option_and_then (λ ms. Some (m ∷ ms)) (corners ws)) o)) e) ∙ h
  where
    at : (o : Option (List ℤ)) → option_map (λ ns. front ++ ns) (option_and_then (λ ms. Some (n ∷ ms)) o) ≡ option_map (λ ns. (front ++ n ∷ []) ++ ns) o
    at None = refl
    at (Some ns) = ap Some (sym (append_assoc front (n ∷ []) ns))

-- the first rectangle
pub first_rect : (ns : List ℤ) (z : ℤ) → 4 ≤ length ns → rects_of ns ≡ record { x1 = get_or ns 0 z; y1 = get_or ns 1 z; x2 = get_or ns 2 z; y2 = get_or ns 3 z } ∷ rects_of (drop 4 ns)
first_rect [] z h = absurd (omega arith)
first_rect (a ∷ []) z h = absurd (omega arith)
first_rect (a ∷ b ∷ []) z h = absurd (omega arith)
first_rect (a ∷ b ∷ c ∷ []) z h = absurd (omega arith)
first_rect (a ∷ b ∷ c ∷ d ∷ ns) z h = refl

pub behind_first : (ns : List ℤ) → 4 ≤ length ns → behind_rects ns ≡ behind_rects (drop 4 ns)
behind_first [] h = absurd (omega arith)
behind_first (a ∷ []) h = absurd (omega arith)
behind_first (a ∷ b ∷ []) h = absurd (omega arith)
behind_first (a ∷ b ∷ c ∷ []) h = absurd (omega arith)
behind_first (a ∷ b ∷ c ∷ d ∷ ns) h = refl
