-- Two lists of intervals that are compared, step by step.
use Rattle.std.proofs.Common.{◌≡◌, ℕ, suc, ◌<◌, List, [], ◌∷◌, ◌++◌, length, map, Option, Some, None, is_some, true, false, Bool, refl, subst, sym, ap, ◌∙◌, arith, ◌↔◌, not, ℤ, pos, eqb}
use Rattle.std.specs.Option.{option_map_or}
use Rattle.std.specs.List.{IsDistinct}
use Rattle.std.specs.Prelude.{slice_get}
use Rattle.std.proofs.lemmas.List.{append_assoc, map-append}
use Rattle.std.proofs.lemmas.Option.{same_Some}
use Rattle.span_arena.specs.Arena.{Arena, list_of, ids_of, span_of, IsSound}
use Rattle.span_arena.specs.declared.Span.{Span}
use Rattle.span_arena.specs.ViewLemmas.{ids_are, ids_there}
use Rattle.region_bands.specs.declared.Interval.{Interval}
use Rattle.region_bands.specs.Held.{ids_from, interval_at}
use Rattle.region_bands.proofs.SeenLemmas.{from_cut}

pub record Alike (a : Arena) (one other : ℕ) (left right : Option ℕ) : Type 0 where
  pub front : List ℕ
  pub back : List ℕ
  pub front' : List ℕ
  pub back' : List ℕ
  pub one_is : list_of a one ≡ Some (front ++ back)
  pub other_is : list_of a other ≡ Some (front' ++ back')
  pub left_is : left ≡ slice_get back 0
  pub right_is : right ≡ slice_get back' 0
  pub same : map (interval_at a) front ≡ map (interval_at a) front'

pub alike_first : (a : Arena) (one other : ℕ) (left right : Option ℕ) → is_some (list_of a one) ≡ true → is_some (list_of a other) ≡ true → left ≡ slice_get (ids_of a one) 0 → right ≡ slice_get (ids_of a other) 0 → Alike a one other left right
alike_first a one other left right there there' left_is right_is = record {
  front = [];
  back = ids_of a one;
  front' = [];
  back' = ids_of a other;
  one_is = ids_there a one there;
  other_is = ids_there a other there';
  left_is = left_is;
  right_is = right_is;
  same = refl;
}

-- the ids from the first of a list's back on
head_is : (back : List ℕ) (at : ℕ) → Some at ≡ slice_get back 0 → (rest : List ℕ) × (back ≡ at ∷ rest)
head_is [] at is = absurd (cc)
head_is (x ∷ rest) at is = (rest, ap (λ (k : ℕ). k ∷ rest) (same_Some x at (sym is)))

none_is : (back : List ℕ) → None ≡ slice_get back 0 → back ≡ []
none_is [] is = refl
none_is (x ∷ rest) is = absurd (cc)

cancel : (xs ys zs : List Interval) → xs ++ ys ≡ xs ++ zs → ys ≡ zs
cancel [] ys zs is = is
cancel (x ∷ xs) ys zs is = cancel xs ys zs (cc)

is_true : (b : Bool) → not b ≡ false → b ≡ true
is_true true is = refl
is_true false is = absurd (cc)

module _ (a : Arena) (one other : ℕ) (left right : Option ℕ) (alike : Alike a one other left right) where
  open alike use {front, back, front', back'}

  pub one_live : IsSound a → (at : ℕ) → left ≡ Some at → is_some (span_of a at) ≡ true
  one_live sound at is = let head = head_is back at (sym is ∙ alike.left_is) in sound.live one at (front, head.0, alike.one_is ∙ ap (λ (l : List ℕ). Some (front ++ l)) head.1)

  pub other_live : IsSound a → (at : ℕ) → right ≡ Some at → is_some (span_of a at) ≡ true
  other_live sound at is = let head = head_is back' at (sym is ∙ alike.right_is) in sound.live other at (front', head.0, alike.other_is ∙ ap (λ (l : List ℕ). Some (front' ++ l)) head.1)

  -- what the two lists have, as far as they are read
  one_all : map (interval_at a) (ids_of a one) ≡ map (interval_at a) front ++ map (interval_at a) back
  one_all = ap (map (interval_at a)) (ids_are a one (front ++ back) alike.one_is) ∙ map-append (interval_at a) front back

  other_all : map (interval_at a) (ids_of a other) ≡ map (interval_at a) front ++ map (interval_at a) back'
  other_all = ap (map (interval_at a)) (ids_are a other (front' ++ back') alike.other_is) ∙ map-append (interval_at a) front' back' ∙ ap (λ (l : List Interval). l ++ map (interval_at a) back') (sym alike.same)

  rest_same : map (interval_at a) (ids_of a one) ≡ map (interval_at a) (ids_of a other) → map (interval_at a) back ≡ map (interval_at a) back'
  rest_same is = cancel (map (interval_at a) front) (map (interval_at a) back) (map (interval_at a) back') (sym one_all ∙ is ∙ other_all)

  -- one list has ended
  pub shorter : (at : ℕ) → left ≡ Some at → right ≡ None → map (interval_at a) (ids_of a one) ≡ map (interval_at a) (ids_of a other) → ⊥
  shorter at is none same =
      let head = head_is back at (sym is ∙ alike.left_is) in
      let gone = none_is back' (sym none ∙ alike.right_is) in
      let e : interval_at a at ∷ map (interval_at a) head.0 ≡ [] = ap (map (interval_at a)) (sym head.1) ∙ rest_same same ∙ ap (map (interval_at a)) gone in
      cc

  pub ended : left ≡ None → (b : Bool) → is_some right ≡ not b → (b ≡ true) ↔ (map (interval_at a) (ids_of a one) ≡ map (interval_at a) (ids_of a other))
  ended is b test = by back' alike.right_is (none_is back (sym is ∙ alike.left_is)) other_all rest_same
    where
      by : (back' : List ℕ) → right ≡ slice_get back' 0 → back ≡ [] → map (interval_at a) (ids_of a other) ≡ map (interval_at a) front ++ map (interval_at a) back' → (map (interval_at a) (ids_of a one) ≡ map (interval_at a) (ids_of a other) → map (interval_at a) back ≡ map (interval_at a) back') → (b ≡ true) ↔ (map (interval_at a) (ids_of a one) ≡ map (interval_at a) (ids_of a other))
      by [] right_is none all rest = (
        λ yes. one_all ∙ ap (λ (l : List ℕ). map (interval_at a) front ++ map (interval_at a) l) none ∙ sym all,
        λ same. is_true b (sym test ∙ ap is_some right_is),
      )
      by (x ∷ xs) right_is none all rest = (
        λ yes. absurd (let e : true ≡ false = sym (ap is_some right_is) ∙ test ∙ ap not yes in cc),
        λ same. absurd (let e : [] ≡ interval_at a x ∷ map (interval_at a) xs = ap (map (interval_at a)) (sym none) ∙ rest same in cc),
      )

  module _ (x y : ℕ) (x_is : left ≡ Some x) (y_is : right ≡ Some y) (s t : Span) (found : span_of a x ≡ Some s) (found' : span_of a y ≡ Some t) where
    x_seen : interval_at a x ≡ record { from = s.start; to = s.stop }
    x_seen = ap (λ (o : Option Span). option_map_or (λ s. record { from = s.start; to = s.stop }) o (record { from = pos 0; to = pos 0 })) found

    y_seen : interval_at a y ≡ record { from = t.start; to = t.stop }
    y_seen = ap (λ (o : Option Span). option_map_or (λ s. record { from = s.start; to = s.stop }) o (record { from = pos 0; to = pos 0 })) found'

    -- they differ here
    pub apart_here : (s.start ≡ t.start → s.stop ≡ t.stop → ⊥) → map (interval_at a) (ids_of a one) ≡ map (interval_at a) (ids_of a other) → ⊥
    apart_here differ same =
        let head = head_is back x (sym x_is ∙ alike.left_is) in
        let head' = head_is back' y (sym y_is ∙ alike.right_is) in
        let e : interval_at a x ∷ map (interval_at a) head.0 ≡ interval_at a y ∷ map (interval_at a) head'.0 = ap (map (interval_at a)) (sym head.1) ∙ rest_same same ∙ ap (map (interval_at a)) head'.1 in
        let one_e : interval_at a x ≡ interval_at a y = cc in
        let both = sym x_seen ∙ one_e ∙ y_seen in
        differ (ap (λ (i : Interval). i.from) both) (ap (λ (i : Interval). i.to) both)

    -- they are the same here
    module _ (starts : s.start ≡ t.start) (stops : s.stop ≡ t.stop) (next next' : Option ℕ) (leads : (list : ℕ) (f b : List ℕ) → list_of a list ≡ Some (f ++ x ∷ b) → next ≡ slice_get b 0) (leads' : (list : ℕ) (f b : List ℕ) → list_of a list ≡ Some (f ++ y ∷ b) → next' ≡ slice_get b 0) where
      one_split : (rest : List ℕ) × (list_of a one ≡ Some (front ++ x ∷ rest))
      one_split = let head = head_is back x (sym x_is ∙ alike.left_is) in (head.0, alike.one_is ∙ ap (λ (l : List ℕ). Some (front ++ l)) head.1)

      other_split : (rest : List ℕ) × (list_of a other ≡ Some (front' ++ y ∷ rest))
      other_split = let head = head_is back' y (sym y_is ∙ alike.right_is) in (head.0, alike.other_is ∙ ap (λ (l : List ℕ). Some (front' ++ l)) head.1)

      pub alike_more : Alike a one other next next'
      alike_more = record {
        front = front ++ x ∷ [];
        back = one_split.0;
        front' = front' ++ y ∷ [];
        back' = other_split.0;
        one_is = one_split.1 ∙ ap Some (sym (append_assoc front (x ∷ []) one_split.0));
        other_is = other_split.1 ∙ ap Some (sym (append_assoc front' (y ∷ []) other_split.0));
        left_is = leads one front one_split.0 one_split.1;
        right_is = leads' other front' other_split.0 other_split.1;
        same =
            map-append (interval_at a) front (x ∷ [])
            ∙ ap (λ (l : List Interval). l ++ interval_at a x ∷ []) alike.same
            ∙ ap (λ (i : Interval). map (interval_at a) front' ++ i ∷ []) (x_seen ∙ ap (λ (n : ℤ). let i : Interval = record { from = n; to = s.stop } in i) starts ∙ ap (λ (n : ℤ). let i : Interval = record { from = t.start; to = n } in i) stops ∙ sym y_seen)
            ∙ sym (map-append (interval_at a) front' (y ∷ []));
      }

      pub fewer : IsSound a → length (ids_from next (ids_of a one)) < length (ids_from left (ids_of a one))
      fewer sound =
          let rest = one_split.0 in
          let distinct = sound.once one (front ++ x ∷ rest) one_split.1 in
          let before : ids_from left (ids_of a one) ≡ x ∷ rest = ap (λ (o : Option ℕ). ids_from o (ids_of a one)) x_is ∙ ap (ids_from (Some x)) (ids_are a one (front ++ x ∷ rest) one_split.1) ∙ from_cut front (x ∷ rest) distinct in
          let after : ids_from next (ids_of a one) ≡ rest =
          ap (λ (o : Option ℕ). ids_from o (ids_of a one)) (leads one front rest one_split.1)
          ∙ ap (ids_from (slice_get rest 0)) (ids_are a one (front ++ x ∷ rest) one_split.1 ∙ sym (append_assoc front (x ∷ []) rest))
          ∙ from_cut (front ++ x ∷ []) rest (subst (IsDistinct eqb) (sym (append_assoc front (x ∷ []) rest)) distinct) in
          let long : length (ids_from left (ids_of a one)) ≡ suc (length rest) = ap length before in
          let short : length (ids_from next (ids_of a one)) ≡ length rest = ap length after in
          omega (arith, long, short)
