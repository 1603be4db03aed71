-- What one change of the arena leaves in its lists.
use Rattle.std.proofs.Common.{◌≡◌, ◌≢◌, ℕ, List, [], ◌∷◌, ◌++◌, Option, Some, None, is_some, refl, subst, sym, ap, ◌∙◌, Contains, eqb, true}
use Rattle.std.specs.Prelude.{slice_get}
use Rattle.std.specs.List.{IsDistinct}
use Rattle.std.proofs.lemmas.List.{map-append}
use Rattle.std.proofs.lemmas.Option.{same_Some}
use Rattle.span_arena.specs.Arena.{Arena, list_of, span_of, IsIn, IsSound, SetsList, SetsSpan, SameLists, SpansGone}
use Rattle.span_arena.specs.declared.Span.{Span}
use Rattle.span_arena.specs.DistinctLemmas.{here, distinct_right, distinct_between, apart_from_first, split_at}
use Rattle.region_bands.specs.Held.{Each, Placed, Has, Keeps, ids_in}
use Rattle.region_bands.specs.EachLemmas.{each_join, each_left, each_right, each_weaker, contains_mapped}

abbrev pub IsSpan : Arena → Placed → Type 0
IsSpan a p = span_of a p.0 ≡ Some p.1

pub ids_split : {X : Type 0} (front back : List (ℕ × X)) → ids_in (front ++ back) ≡ ids_in front ++ ids_in back
ids_split front back = map-append (λ p. p.0) front back

-- the spans from one on
pub first_of : (back : List Placed) (at : ℕ) → Some at ≡ slice_get (ids_in back) 0 → (p : Placed) × (rest : List Placed) × (back ≡ p ∷ rest) × (at ≡ p.0)
first_of [] at is = absurd (cc)
first_of (p ∷ rest) at is = (p, rest, refl, same_Some at p.0 is)

module _ (a : Arena) (list : ℕ) where
  pub list_split : (front back : List Placed) → Has a list (front ++ back) → list_of a list ≡ Some (ids_in front ++ ids_in back)
  list_split front back has = has.ids ∙ ap Some (ids_split front back)

  pub list_there : (placed : List Placed) → Has a list placed → is_some (list_of a list) ≡ true
  list_there placed has = ap is_some has.ids

  pub in_list : (front : List Placed) (p : Placed) (back : List Placed) → Has a list (front ++ p ∷ back) → IsIn a list p.0
  in_list front p back has = (ids_in front, ids_in back, list_split front (p ∷ back) has)

  pub span_in : (front : List Placed) (p : Placed) (back : List Placed) → Has a list (front ++ p ∷ back) → span_of a p.0 ≡ Some p.1
  span_in front p back has = (each_right (IsSpan a) front (p ∷ back) has.spans).0

  -- the ids of a list differ
  pub ids_apart : IsSound a → (front back : List Placed) → Has a list (front ++ back) → IsDistinct eqb (ids_in front ++ ids_in back)
  ids_apart sound front back has = sound.once list (ids_in front ++ ids_in back) (list_split front back has)

module _ (a b : Arena) (list : ℕ) where
  pub keeps : ((other : ℕ) → other ≢ list → list_of b other ≡ list_of a other) → ((other at : ℕ) → other ≢ list → IsIn a other at → span_of b at ≡ span_of a at) → Keeps a b list
  keeps lists spans = λ other placed differs has. record {
    ids = lists other differs ∙ has.ids;
    spans = each_weaker (IsSpan a) (IsSpan b) placed (λ front p back is old. spans other p.0 differs (in_list a other front p back (subst (Has a other) is has)) ∙ old) has.spans;
  }

  -- spans that are not the one that changes stay
  spans_stay : (at : ℕ) (s : Option Span) → SetsSpan a b at s → (xs : List Placed) → ((k : ℕ) → Contains (ids_in xs) k → k ≢ at) → Each (IsSpan a) xs → Each (IsSpan b) xs
  spans_stay at s spans xs apart all =
      each_weaker (IsSpan a) (IsSpan b) xs (λ front p back is old. spans.others p.0 (apart p.0 (contains_mapped (λ (q : Placed). q.0) xs front p back is)) ∙ old) all

  -- a span that came in
  module _ (at : ℕ) (span : Span) (fresh : span_of a at ≡ None) (spans : SetsSpan a b at (Some span)) where
    old_spans : (xs : List Placed) → Each (IsSpan a) xs → Each (IsSpan b) xs
    old_spans xs all = each_weaker (IsSpan a) (IsSpan b) xs (λ front p back is old. spans.others p.0 (λ same. let none : span_of a p.0 ≡ None = ap (span_of a) same ∙ fresh in absurd (cc)) ∙ old) all

    pub inserted : (front back : List Placed) → Has a list (front ++ back) → SetsList a b list (Some (ids_in front ++ at ∷ ids_in back)) → Has b list (front ++ (at, span) ∷ back)
    inserted front back has lists = record {
      ids = lists.set ∙ ap Some (sym (ids_split front ((at, span) ∷ back)));
      spans = each_join (IsSpan b) front ((at, span) ∷ back) (old_spans front (each_left (IsSpan a) front back has.spans)) (spans.set, old_spans back (each_right (IsSpan a) front back has.spans));
    }

    pub inserted_keeps : IsSound a → (ids : List ℕ) → SetsList a b list (Some ids) → Keeps a b list
    inserted_keeps sound ids lists = keeps lists.others (λ other k differs inside.
        spans.others k (λ same. let live = sound.live other k inside in let none : span_of a k ≡ None = ap (span_of a) same ∙ fresh in absurd (cc)))

  -- a span that went out, or is another
  module _ (sound : IsSound a) (front : List Placed) (p : Placed) (back : List Placed) (has : Has a list (front ++ p ∷ back)) where
    apart_front : (k : ℕ) → Contains (ids_in front) k → k ≢ p.0
    apart_front k there = λ same. distinct_between (ids_in front) (p.0 ∷ ids_in back) (ids_apart a list sound front (p ∷ back) has) k p.0 there (here p.0 (ids_in back)) (sym same)

    apart_back : (k : ℕ) → Contains (ids_in back) k → k ≢ p.0
    apart_back k there = apart_from_first p.0 (ids_in back) (distinct_right (ids_in front) (p.0 ∷ ids_in back) (ids_apart a list sound front (p ∷ back) has)) k there

    pub removed : SetsList a b list (Some (ids_in front ++ ids_in back)) → SetsSpan a b p.0 None → Has b list (front ++ back)
    removed lists spans = record {
      ids = lists.set ∙ ap Some (sym (ids_split front back));
      spans = each_join (IsSpan b) front back
          (spans_stay p.0 None spans front apart_front (each_left (IsSpan a) front (p ∷ back) has.spans))
          (spans_stay p.0 None spans back apart_back (each_right (IsSpan a) front (p ∷ back) has.spans).1);
    }

    pub changed : (s : Span) → SameLists a b → SetsSpan a b p.0 (Some s) → Has b list (front ++ (p.0, s) ∷ back)
    changed s lists spans = record {
      ids = lists list ∙ list_split a list front (p ∷ back) has ∙ ap Some (sym (ids_split front ((p.0, s) ∷ back)));
      spans = each_join (IsSpan b) front ((p.0, s) ∷ back)
          (spans_stay p.0 (Some s) spans front apart_front (each_left (IsSpan a) front (p ∷ back) has.spans))
          (spans.set, spans_stay p.0 (Some s) spans back apart_back (each_right (IsSpan a) front (p ∷ back) has.spans).1);
    }

    pub changed_keeps : (s : Option Span) → ((other : ℕ) → other ≢ list → list_of b other ≡ list_of a other) → SetsSpan a b p.0 s → Keeps a b list
    changed_keeps s lists spans = keeps lists (λ other k differs inside.
        spans.others k (λ same. differs (sound.alone other list k inside (subst (IsIn a list) (sym same) (in_list a list front p back has)))))

  -- a list that was freed
  pub freed_keeps : IsSound a → (ids : List ℕ) → list_of a list ≡ Some ids → SetsList a b list None → SpansGone a b ids → Keeps a b list
  freed_keeps sound ids is lists spans = keeps lists.others (λ other k differs inside.
      spans.others k (λ there. let split = split_at ids k there in differs (sound.alone other list k inside (split.0, split.1, is ∙ ap Some split.2))))
