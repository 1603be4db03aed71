-- Where a span comes into a list.
use Rattle.std.proofs.Common.{◌≡◌, ℕ, List, [], ◌∷◌, ◌++◌, Option, Some, None, Result, Ok, subst, sym, ap, ◌∙◌}
use Rattle.std.specs.Prelude.{slice_get, IfOk}
use Rattle.std.specs.declared.alloc.AllocError.{AllocError}
use Rattle.std.proofs.lemmas.List.{append-nil}
use Rattle.std.proofs.lemmas.Option.{same_Some}
use Rattle.span_arena.specs.Arena.{Arena, list_of, ids_of, span_of, last_in, IsIn, IsSound, SetsList, SetsSpan}
use Rattle.span_arena.specs.declared.Span.{Span}
use Rattle.span_arena.specs.ViewLemmas.{ids_are}
use Rattle.region_bands.specs.Held.{Placed, Has, Keeps, ids_in}
use Rattle.region_bands.proofs.HasLemmas.{first_of, list_split, in_list, inserted, inserted_keeps}

pub place_in : (a : Arena) (list : ℕ) (before : Option ℕ) (at : ℕ) → before ≡ Some at → (front back : List Placed) → Has a list (front ++ back) → before ≡ slice_get (ids_in back) 0 → IsIn a list at
place_in a list before at is front back has leads =
    let first = first_of back at (sym is ∙ leads) in
    subst (IsIn a list) (sym first.3) (in_list a list front first.0 first.1 (subst (λ (l : List Placed). Has a list (front ++ l)) first.2 has))

-- what stands last before a span, or at the end
pub last_at : (a : Arena) (list : ℕ) (front back : List ℕ) → list_of a list ≡ Some (front ++ back) → (at : ℕ) → Some at ≡ slice_get back 0 → (result : Option ℕ) → ((l : ℕ) (f b : List ℕ) → list_of a l ≡ Some (f ++ at ∷ b) → result ≡ last_in f) → result ≡ last_in front
last_at a list front [] is at leads result ensures = absurd (cc)
last_at a list front (x ∷ back) is at leads result ensures = ensures list front back (subst (λ (k : ℕ). list_of a list ≡ Some (front ++ k ∷ back)) (sym (same_Some at x leads)) is)

pub last_none : (a : Arena) (list : ℕ) (front back : List ℕ) → list_of a list ≡ Some (front ++ back) → None ≡ slice_get back 0 → last_in (ids_of a list) ≡ last_in front
last_none a list front [] is leads = ap last_in (ids_are a list (front ++ []) is ∙ append-nil front)
last_none a list front (x ∷ back) is leads = absurd (cc)

-- what holds of a result
pub at_ok : (P : ℕ → Type 0) (r : Result ℕ AllocError) (at : ℕ) → r ≡ Ok at → IfOk r P → P at
at_ok P r at is holds = let Q : Result ℕ AllocError → Type 0 = λ x. IfOk x P in subst Q is holds

module _ (a b : Arena) (list : ℕ) (span : Span) (r : Result ℕ AllocError) (at : ℕ) (ok : r ≡ Ok at) (fresh : IfOk r (λ n. span_of a n ≡ None)) (spans : IfOk r (λ n. SetsSpan a b n (Some span))) where
  fresh_at : span_of a at ≡ None
  fresh_at = at_ok (λ n. span_of a n ≡ None) r at ok fresh

  spans_at : SetsSpan a b at (Some span)
  spans_at = at_ok (λ n. SetsSpan a b n (Some span)) r at ok spans

  -- before another span
  module _ (k : ℕ) (lists : IfOk r (λ n. (front back : List ℕ) → list_of a list ≡ Some (front ++ k ∷ back) → SetsList a b list (Some (front ++ n ∷ k ∷ back)))) where
    lists_at : (front back : List ℕ) → list_of a list ≡ Some (front ++ k ∷ back) → SetsList a b list (Some (front ++ at ∷ k ∷ back))
    lists_at = at_ok (λ n. (front back : List ℕ) → list_of a list ≡ Some (front ++ k ∷ back) → SetsList a b list (Some (front ++ n ∷ k ∷ back))) r at ok lists

    sets_before : (front back : List Placed) → Has a list (front ++ back) → Some k ≡ slice_get (ids_in back) 0 → SetsList a b list (Some (ids_in front ++ at ∷ ids_in back))
    sets_before front [] has leads = absurd (cc)
    sets_before front (p ∷ back) has leads =
        let same = same_Some k p.0 leads in
        subst (λ (i : ℕ). SetsList a b list (Some (ids_in front ++ at ∷ i ∷ ids_in back))) same
        (lists_at (ids_in front) (ids_in back) (list_split a list front (p ∷ back) has ∙ ap (λ (i : ℕ). Some (ids_in front ++ i ∷ ids_in back)) (sym same)))

    pub put_before : (front back : List Placed) → Has a list (front ++ back) → Some k ≡ slice_get (ids_in back) 0 → Has b list (front ++ (at, span) ∷ back)
    put_before front back has leads = inserted a b list at span fresh_at spans_at front back has (sets_before front back has leads)

    pub keeps_before : IsSound a → (front back : List Placed) → Has a list (front ++ back) → Some k ≡ slice_get (ids_in back) 0 → Keeps a b list
    keeps_before sound front back has leads = inserted_keeps a b list at span fresh_at spans_at sound (ids_in front ++ at ∷ ids_in back) (sets_before front back has leads)

  -- behind all
  module _ (lists : IfOk r (λ n. SetsList a b list (Some (ids_of a list ++ n ∷ [])))) where
    sets_last : (front back : List Placed) → Has a list (front ++ back) → None ≡ slice_get (ids_in back) 0 → SetsList a b list (Some (ids_in front ++ at ∷ ids_in back))
    sets_last front [] has leads =
        subst (λ (l : List ℕ). SetsList a b list (Some (l ++ at ∷ []))) (ids_are a list (ids_in front ++ []) (list_split a list front [] has) ∙ append-nil (ids_in front))
        (at_ok (λ n. SetsList a b list (Some (ids_of a list ++ n ∷ []))) r at ok lists)
    sets_last front (p ∷ back) has leads = absurd (cc)

    pub put_last : (front back : List Placed) → Has a list (front ++ back) → None ≡ slice_get (ids_in back) 0 → Has b list (front ++ (at, span) ∷ back)
    put_last front back has leads = inserted a b list at span fresh_at spans_at front back has (sets_last front back has leads)

    pub keeps_last : IsSound a → (front back : List Placed) → Has a list (front ++ back) → None ≡ slice_get (ids_in back) 0 → Keeps a b list
    keeps_last sound front back has leads = inserted_keeps a b list at span fresh_at spans_at sound (ids_in front ++ at ∷ ids_in back) (sets_last front back has leads)
