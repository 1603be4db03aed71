-- A list while its spans go, the first at each step.
use Rattle.std.proofs.Common.{◌≡◌, ◌≢◌, true, ℕ, suc, ◌+◌, ◌<◌, List, [], ◌∷◌, ◌++◌, length, Option, Some, None, is_some, refl, subst, sym, ap, ◌∙◌, inl, inr, arith, Contains}
use Rattle.std.specs.Prelude.{slice_get}
use Rattle.std.specs.Option.{option_map_or}
use Rattle.std.proofs.lemmas.Bool.{cases_eq}
use Rattle.std.proofs.lemmas.List.{append-nil, append_assoc, length-append}
use Rattle.std.proofs.lemmas.List.Elements.{Contains-append_left, Contains-append_right, Contains-append_cases}
use Rattle.std.proofs.lemmas.Option.{same_Some}
use Rattle.slab.proofs.SlabLemmas.{Contains-cons_cases}
use Rattle.span_arena.specs.Arena.{Arena, list_of, ids_of, span_of, IsIn, SetsList, SetsSpan, SpansGone, SameSpans}
use Rattle.span_arena.specs.DistinctLemmas.{here, not_in_none}
use Rattle.span_arena.specs.ViewLemmas.{ids_are}

-- a list's first spans are gone, and the others are left
pub record Emptied (old now : Arena) (list : ℕ) : Type 0 where
  pub done : List ℕ
  pub rest : List ℕ
  pub was : list_of old list ≡ Some (done ++ rest)
  pub is : list_of now list ≡ Some rest
  pub others : (other : ℕ) → other ≢ list → list_of now other ≡ list_of old other
  pub spans : SpansGone old now done
  pub spare : now.spare ≡ old.spare + length done

-- how many are left
abbrev pub left_in : Arena → ℕ → ℕ
left_in now list = option_map_or length (list_of now list) 0

pub emptied_none : (old : Arena) (list : ℕ) → is_some (list_of old list) ≡ true → Emptied old old list
emptied_none old list some = by (list_of old list) refl some
  where
    by : (o : Option (List ℕ)) → list_of old list ≡ o → is_some o ≡ true → Emptied old old list
    by None is none = absurd (cc)
    by (Some ids) is there = record {
      done = [];
      rest = ids;
      was = is;
      is = is;
      others = λ other differs. refl;
      spans = record { gone = λ at there. absurd (not_in_none at there); others = λ at away. refl };
      spare = omega arith;
    }

module _ (old now : Arena) (list : ℕ) (emptied : Emptied old now list) (first : Option ℕ) (leads : first ≡ slice_get (ids_of now list) 0) where
  -- the first of those that are left, and what is behind it
  pub next_out : (at : ℕ) → first ≡ Some at → (back : List ℕ) × (emptied.rest ≡ at ∷ back)
  next_out at is = by emptied.rest (sym (leads ∙ ap (λ (l : List ℕ). slice_get l 0) (ids_are now list emptied.rest emptied.is)) ∙ is)
    where
      by : (ids : List ℕ) → slice_get ids 0 ≡ Some at → (back : List ℕ) × (ids ≡ at ∷ back)
      by [] found = absurd (cc)
      by (x ∷ xs) found = (xs, ap (λ (k : ℕ). k ∷ xs) (same_Some x at found))

  pub first_in : (at : ℕ) → first ≡ Some at → IsIn now list at
  first_in at is = let next = next_out at is in ([], next.0, emptied.is ∙ ap Some next.1)

  module _ (at : ℕ) (is : first ≡ Some at) (new : Arena) (lists : (front back : List ℕ) → list_of now list ≡ Some (front ++ at ∷ back) → SetsList now new list (Some (front ++ back))) (spans : SetsSpan now new at None) (spare : new.spare ≡ now.spare + 1) where
    abbrev back : List ℕ
    back = (next_out at is).0

    rest_is : emptied.rest ≡ at ∷ back
    rest_is = (next_out at is).1

    sets : SetsList now new list (Some back)
    sets = lists [] back (emptied.is ∙ ap Some rest_is)

    pub fewer_left : left_in new list < left_in now list
    fewer_left =
        let before : left_in now list ≡ suc (length back) = ap (λ (o : Option (List ℕ)). option_map_or length o 0) (emptied.is ∙ ap Some rest_is) in
        let then : left_in new list ≡ length back = ap (λ (o : Option (List ℕ)). option_map_or length o 0) sets.set in
        omega (arith, before, then)

    pub emptied_more : Emptied old new list
    emptied_more = record {
      done = emptied.done ++ at ∷ [];
      rest = back;
      was = emptied.was ∙ ap (λ (l : List ℕ). Some (emptied.done ++ l)) rest_is ∙ sym (ap Some (append_assoc emptied.done (at ∷ []) back));
      is = sets.set;
      others = λ other differs. sets.others other differs ∙ emptied.others other differs;
      spans = record {
        gone = λ k there. elim (cases_eq k at) [
          | inl same ↦ ap (span_of new) same ∙ spans.set
          | inr differs ↦ spans.others k differs ∙ emptied.spans.gone k (elim (Contains-append_cases emptied.done (at ∷ []) k there) [
            | inl before ↦ before
            | inr last ↦ elim (Contains-cons_cases at k [] last) [
              | inl same ↦ absurd (differs (sym same))
              | inr none ↦ absurd (not_in_none k none)
            ]
          ])
        ];
        others = λ k away.
            spans.others k (λ same. away (Contains-append_right emptied.done (at ∷ []) k (subst (Contains (at ∷ [])) (sym same) (here at []))))
            ∙ emptied.spans.others k (λ there. away (Contains-append_left emptied.done (at ∷ []) k there));
      };
      spare = let longer = length-append emptied.done (at ∷ []) in omega (arith, spare, emptied.spare, longer);
    }

  -- none are left
  module _ (is : first ≡ None) where
    pub none_left : list_of now list ≡ Some []
    none_left = emptied.is ∙ ap Some (by emptied.rest (sym (leads ∙ ap (λ (l : List ℕ). slice_get l 0) (ids_are now list emptied.rest emptied.is)) ∙ is))
      where
        by : (ids : List ℕ) → slice_get ids 0 ≡ None → ids ≡ []
        by [] found = refl
        by (x ∷ xs) found = absurd (cc)

    module _ (new : Arena) (lists : SetsList now new list None) (spans : SameSpans now new) (spare : new.spare ≡ now.spare + 1) where
      pub freed_lists : SetsList old new list None
      freed_lists = record { set = lists.set; others = λ other differs. lists.others other differs ∙ emptied.others other differs }

      all_done : emptied.done ≡ ids_of old list
      all_done =
          let rest : emptied.rest ≡ [] = same_Some emptied.rest [] (sym emptied.is ∙ none_left) in
          sym (append-nil emptied.done)
          ∙ sym (ap (λ (l : List ℕ). emptied.done ++ l) rest)
          ∙ sym (ids_are old list (emptied.done ++ emptied.rest) emptied.was)

      pub freed_spans : SpansGone old new (ids_of old list)
      freed_spans = subst (SpansGone old new) all_done (record {
        gone = λ at there. spans at ∙ emptied.spans.gone at there;
        others = λ at away. spans at ∙ emptied.spans.others at away;
      })

      pub freed_spare : new.spare ≡ old.spare + length (ids_of old list) + 1
      freed_spare = let long : length emptied.done ≡ length (ids_of old list) = ap length all_done in omega (arith, spare, emptied.spare, long)
