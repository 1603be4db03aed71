use Rattle.std.proofs.Common.{◌≡◌, ℕ, List, [], ◌∷◌, map, Option, Some, Bool, true, false, sym, ap, ◌∙◌, ◌↔◌, refl}
use Rattle.std.specs.Prelude.{slice_get, is_some, not, IsTrue}
use Rattle.span_arena.specs.Arena.{Arena, ids_of}
use Rattle.region_bands.specs.declared.Interval.{Interval}
use Rattle.region_bands.specs.declared.Lists.{Lists}
use Rattle.region_bands.specs.Bands.{Bands}
use Rattle.region_bands.specs.Held.{interval_at, view_of}
use Rattle.region_bands.proofs.BandList.row_is_empty.Goals as goal

row_read : (a : Arena) (lists : Option Lists) (gap left : Option ℕ) (v : Bands) (some : Lists) → view_of a lists gap left ≡ v → lists ≡ Some some → v.row ≡ map (interval_at a) (ids_of a some.row)
row_read a lists gap left v some is there = sym (ap (λ (u : Bands). u.row) is) ∙ ap (λ (o : Option Lists). (view_of a o gap left).row) there

by_first : (f : ℕ → Interval) (ids : List ℕ) (first : Option ℕ) (b : Bool) (row : List Interval) → row ≡ map f ids → first ≡ slice_get ids 0 → is_some first ≡ not b → IsTrue b ↔ (row ≡ [])
by_first f [] first b row row_is first_is b_is = (λ h. row_is, λ h. negated b (sym b_is ∙ ap is_some first_is))
  where
    negated : (b : Bool) → not b ≡ false → b ≡ true
    negated true e = refl
    negated false e = absurd (cc)
by_first f (x ∷ ids) first b row row_is first_is b_is = (λ h. absurd (apart (sym (ap not h) ∙ sym b_is ∙ ap is_some first_is)), λ h. absurd (none (sym row_is ∙ h)))
  where
    apart : false ≡ true → ⊥
    apart e = cc

    none : f x ∷ map f ids ≡ [] → ⊥
    none e = cc

pub returns : goal.returns
returns c =
    by_first (interval_at c.self.inside.spans) _ c.first.result c.is_none.result c.args.self.now.row
    (row_read c.self.inside.spans c.self.inside.lists c.self.inside.gap c.self.inside.left c.args.self.now c.in-Some.lists c.self.view_is c.in-Some.is)
    c.first.ensures c.is_none.ensures
