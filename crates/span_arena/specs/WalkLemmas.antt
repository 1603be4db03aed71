-- For callers: a walk along a list by `first` and `next`, where spans may go on the way.
use Rattle.std.proofs.Common.{◌≡◌, ℕ, suc, ◌<◌, true, List, [], ◌∷◌, ◌++◌, length, Option, Some, is_some, cond, refl, sym, ap, ◌∙◌, arith, eqb}
use Rattle.std.specs.Prelude.{slice_get}
use Rattle.std.specs.List.{IsDistinct}
use Rattle.std.specs.Option.{option_map_or}
use Rattle.std.proofs.lemmas.Bool.{eq-eqb, ne_eqb}
use Rattle.std.proofs.lemmas.List.{append_assoc}
use Rattle.std.proofs.lemmas.Map.Keys.{IsDistinct-tail}
use Rattle.std.proofs.lemmas.Option.{same_Some}
use Rattle.std.proofs.lemmas.List.Elements.{Contains-append_right}
use Rattle.span_arena.specs.Arena.{Arena, list_of, ids_of, IsIn, IsSound, SetsList}
use Rattle.span_arena.specs.ViewLemmas.{ids_there}
use Rattle.span_arena.specs.DistinctLemmas.{here, apart_from_first, distinct_without}

-- a walk along a list has come to a place, or to its end
pub record Walked (arena : Arena) (list : ℕ) (place : Option ℕ) : Type 0 where
  pub front : List ℕ
  pub back : List ℕ
  pub is : list_of arena list ≡ Some (front ++ back)
  pub comes : place ≡ slice_get back 0

-- how many spans there are from a place on
abbrev pub from_place : List ℕ → ℕ → ℕ
from_place [] at = 0
from_place (x ∷ xs) at = cond (eqb x at) (suc (length xs)) (from_place xs at)

-- how many spans a walk has before it
abbrev pub ahead : Arena → ℕ → Option ℕ → ℕ
ahead arena list place = option_map_or (λ ids. option_map_or (λ at. from_place ids at) place 0) (list_of arena list) 0

pub from_place-split : (front : List ℕ) (at : ℕ) (back : List ℕ) → IsDistinct eqb (front ++ at ∷ back) → from_place (front ++ at ∷ back) at ≡ suc (length back)
from_place-split [] at back distinct = rw (eq-eqb at at refl) refl
from_place-split (x ∷ front) at back distinct =
    rw (ne_eqb x at (λ same. apart_from_first x (front ++ at ∷ back) distinct at (Contains-append_right front (at ∷ back) at (here at back)) (sym same)))
    (from_place-split front at back (IsDistinct-tail eqb x (front ++ at ∷ back) distinct))

-- the first of a list is the head of it
split_head : (ids : List ℕ) (at : ℕ) → Some at ≡ slice_get ids 0 → (back : List ℕ) × (ids ≡ at ∷ back)
split_head [] at is = absurd (cc)
split_head (x ∷ xs) at is = (xs, ap (λ (k : ℕ). k ∷ xs) (sym (same_Some at x is)))

module _ (arena : Arena) (list : ℕ) where
  pub walk_first : (place : Option ℕ) → is_some (list_of arena list) ≡ true → place ≡ slice_get (ids_of arena list) 0 → Walked arena list place
  walk_first place some leads = record { front = []; back = ids_of arena list; is = ids_there arena list some; comes = leads }

  module _ (place : Option ℕ) (walked : Walked arena list place) (at : ℕ) (is : place ≡ Some at) where
    pub behind : (back : List ℕ) × (walked.back ≡ at ∷ back)
    behind = split_head walked.back at (sym is ∙ walked.comes)

    pub list_is : list_of arena list ≡ Some (walked.front ++ at ∷ behind.0)
    list_is = walked.is ∙ ap (λ (l : List ℕ). Some (walked.front ++ l)) behind.1

    pub walk_in : IsIn arena list at
    walk_in = (walked.front, behind.0, list_is)

    module _ (next : Option ℕ) (leads : (l : ℕ) (front back : List ℕ) → list_of arena l ≡ Some (front ++ at ∷ back) → next ≡ slice_get back 0) where
      pub walk_on : Walked arena list next
      walk_on = record {
        front = walked.front ++ at ∷ [];
        back = behind.0;
        is = list_is ∙ sym (ap Some (append_assoc walked.front (at ∷ []) behind.0));
        comes = leads list walked.front behind.0 list_is;
      }

      -- fewer spans are before the walk, and so they are where the span that was passed goes
      ahead_here : IsSound arena → ahead arena list place ≡ suc (length behind.0)
      ahead_here sound =
          ap (λ (o : Option (List ℕ)). option_map_or (λ ids. option_map_or (λ k. from_place ids k) place 0) o 0) list_is
          ∙ ap (λ (o : Option ℕ). option_map_or (λ k. from_place (walked.front ++ at ∷ behind.0) k) o 0) is
          ∙ from_place-split walked.front at behind.0 (sound.once list (walked.front ++ at ∷ behind.0) list_is)

      module _ (front : List ℕ) (new : Arena) (then : list_of new list ≡ Some (front ++ behind.0)) (distinct : IsDistinct eqb (front ++ behind.0)) where
        ahead_then : ahead new list next ≡ length behind.0
        ahead_then =
            ap (λ (o : Option (List ℕ)). option_map_or (λ ids. option_map_or (λ k. from_place ids k) next 0) o 0) then
            ∙ ap (λ (o : Option ℕ). option_map_or (λ k. from_place (front ++ behind.0) k) o 0) (leads list walked.front behind.0 list_is)
            ∙ by behind.0 distinct
          where
            by : (back : List ℕ) → IsDistinct eqb (front ++ back) → option_map_or (λ k. from_place (front ++ back) k) (slice_get back 0) 0 ≡ length back
            by [] apart = refl
            by (x ∷ xs) apart = from_place-split front x xs apart

      pub walk_falls : IsSound arena → ahead arena list next < ahead arena list place
      walk_falls sound =
          let whole : list_of arena list ≡ Some ((walked.front ++ at ∷ []) ++ behind.0) = list_is ∙ sym (ap Some (append_assoc walked.front (at ∷ []) behind.0)) in
          let now = ahead_then (walked.front ++ at ∷ []) arena whole (sound.once list ((walked.front ++ at ∷ []) ++ behind.0) whole) in
          omega (arith, ahead_here sound, now)

      module _ (new : Arena) (lists : (front back : List ℕ) → list_of arena list ≡ Some (front ++ at ∷ back) → SetsList arena new list (Some (front ++ back))) where
        pub walk_past : Walked new list next
        walk_past = record {
          front = walked.front;
          back = behind.0;
          is = (lists walked.front behind.0 list_is).set;
          comes = leads list walked.front behind.0 list_is;
        }

        pub walk_falls_past : IsSound arena → ahead new list next < ahead arena list place
        walk_falls_past sound =
            let now = ahead_then walked.front new (lists walked.front behind.0 list_is).set (distinct_without walked.front at behind.0 (sound.once list (walked.front ++ at ∷ behind.0) list_is)) in
            omega (arith, ahead_here sound, now)

pub walked_some : (arena : Arena) (list : ℕ) (place : Option ℕ) → Walked arena list place → is_some (list_of arena list) ≡ true
walked_some arena list place walked = ap is_some walked.is
