-- Lists of views by places, and items by numbers.
use Rattle.std.proofs.Common.{◌≡◌, ℕ, zero, suc, ◌+◌, Bool, true, false, List, [], ◌∷◌, ◌++◌, set, sym, refl, ap, arith}
use Rattle.std.specs.Prelude.{if◌then◌else◌}
use mathlib.Core.Option.{some, some-injective, some-ne-none}
use lib.ListN.{get_elem?}
use Rattle.input_queue.specs.declared.Told.{Told}
use Rattle.input_queue.specs.declared.rule.Note.{Note}
use Rattle.input_queue.specs.declared.rule.View.{View}
use Rattle.input_queue.specs.Rule.{those_of, known_or, weigh, EachNote}

pub weigh_set : (f : View → ℕ) (vs : List View) (k : ℕ) (v w : View) → get_elem? vs k ≡ some v → weigh f (set vs k w) + f v ≡ weigh f vs + f w
weigh_set f [] k v w at = absurd (some-ne-none v (sym at))
weigh_set f (u ∷ us) zero v w at = let e : f u ≡ f v = ap f (some-injective u v at) in omega (arith, e)
weigh_set f (u ∷ us) (suc k) v w at = let h = weigh_set f us k v w at in omega (arith, h)

pub weigh_snoc : (f : View → ℕ) (vs : List View) (w : View) → weigh f (vs ++ w ∷ []) ≡ weigh f vs + f w
weigh_snoc f [] w = omega arith
weigh_snoc f (u ∷ us) w = let h = weigh_snoc f us w in omega (arith, h)

-- nothing weighs anything where the whole weighs nothing, and the other way round
pub weigh_none : (f : View → ℕ) (vs : List View) (k : ℕ) (v : View) → weigh f vs ≡ 0 → get_elem? vs k ≡ some v → f v ≡ 0
weigh_none f [] k v zeroed at = absurd (some-ne-none v (sym at))
weigh_none f (u ∷ us) zero v zeroed at = let e : f u ≡ f v = ap f (some-injective u v at) in omega (arith, e, zeroed)
weigh_none f (u ∷ us) (suc k) v zeroed at = weigh_none f us k v (omega (arith, zeroed)) at

pub none_weigh : (f : View → ℕ) (vs : List View) → ((k : ℕ) (v : View) → get_elem? vs k ≡ some v → f v ≡ 0) → weigh f vs ≡ 0
none_weigh f [] h = refl
none_weigh f (u ∷ us) h = let e : f u ≡ 0 = h 0 u refl in let r = none_weigh f us (λ k v at. h (suc k) v at) in omega (arith, e, r)

pub here : (vs : List View) (k : ℕ) (v w : View) → get_elem? vs k ≡ some v → get_elem? (set vs k w) k ≡ some w
here [] k v w at = absurd (some-ne-none v (sym at))
here (u ∷ us) zero v w at = refl
here (u ∷ us) (suc k) v w at = here us k v w at

cons_if : {X : Type 0} (b : Bool) (u : X) (p q r : List X) → r ≡ p ++ q → (if b then u ∷ r else r) ≡ (if b then u ∷ p else p) ++ q
cons_if true u p q r e = ap (λ l. u ∷ l) e
cons_if false u p q r e = e

pub those_append : {X : Type 0} (j : ℕ) (xs ys : List (ℕ × X)) → those_of j (xs ++ ys) ≡ those_of j xs ++ those_of j ys
those_append j [] ys = refl
those_append j (x ∷ xs) ys = cons_if _ x.1 (those_of j xs) (those_of j ys) (those_of j (xs ++ ys)) (those_append j xs ys)

pub of_seat : (v : View) (l : List Told) → v.puts ≡ true → known_or (some v) l ≡ v.accepted
of_seat v l e = ap (λ b. if b then v.accepted else l) e

pub of_other : (v : View) (l : List Told) → v.puts ≡ false → known_or (some v) l ≡ l
of_other v l e = ap (λ b. if b then v.accepted else l) e

pub each_note : {P Q : Note → Type 0} (es : List Note) → ((e : Note) → P e → Q e) → EachNote P es → EachNote Q es
each_note [] f h = tt
each_note (e ∷ es) f h = (f e h.0, each_note es f h.1)
