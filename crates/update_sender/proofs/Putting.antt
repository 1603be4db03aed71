-- Inputs that are put one after the other.
use Rattle.std.proofs.Common.{◌≡◌, ◌⊎◌, inl, inr, refl, append-nil, ℕ, ◌+◌, List, [], ◌∷◌, ◌++◌, sym, ap, ◌∙◌, subst, arith}
use Rattle.messages.specs.declared.Input.{Input}
use Rattle.input_queue.specs.Ends.{Putting, accepting, held_by, Settles}
use Rattle.held_inputs.specs.Held.{Held, HoldsNoMore, after, roomy}
use Rattle.update_sender.specs.Ends.{counted}
use Rattle.update_sender.specs.Inputs.{Puts, PutsBehind, PutsBetween, held_after}

pub puts-then : (xs ys : List Input) (s t u : Putting) (m n : ℕ) → Puts xs s t m → Puts ys t u n → Puts (xs ++ ys) s u (m + n)
puts-then [] ys s t u m n p q = subst (λ (v : Putting). Puts ys v u (m + n)) p.0 (subst (λ k. Puts ys t u k) (omega (arith, p.1)) q)
puts-then (x ∷ xs) ys s t u m n (inl p) q = inl (puts-then xs ys (accepting x s) t u m n p q)
puts-then (x ∷ xs) ys s t u m n (inr p) q = inr (p.0 + n, omega (arith, p.1), puts-then xs ys s t u p.0 n p.2 q)

-- only the list of what was accepted is another
pub puts-frame : (xs : List Input) (s t : Putting) (n : ℕ) → Puts xs s t n → t ≡ record s { accepted = t.accepted }
puts-frame [] s t n p = p.0 ∙ ap (λ (v : Putting). record s { accepted = v.accepted }) (sym p.0)
puts-frame (x ∷ xs) s t n (inl p) = puts-frame xs (accepting x s) t n p
puts-frame (x ∷ xs) s t n (inr p) = puts-frame xs s t p.0 p.2

-- more are put, and counted
pub puts-on : (xs ys : List Input) (s t u : Putting) (m n a b : ℕ) → Puts xs s t m → a ≡ counted m → Puts ys t u n → b ≡ counted (a + counted n) → (inputs : List Input) × (dropped : ℕ) × Puts inputs s u dropped × (b ≡ counted dropped)
puts-on xs ys s t u m n a b p e q f = (xs ++ ys, m + n, puts-then xs ys s t u m n p q, omega (arith, e, f))

-- those that waited are put first
pub puts-first : (xs ys waited : List Input) (s t u : Putting) (m n a b c : ℕ) → xs ≡ waited → Puts xs s t m → a ≡ counted m → Puts ys t u n → b ≡ counted n → c ≡ counted (a + b) → (later : List Input) × (dropped : ℕ) × Puts (waited ++ later) s u dropped × (c ≡ counted dropped)
puts-first xs ys waited s t u m n a b c is p e q f k = (ys, m + n, subst (λ (l : List Input). Puts (l ++ ys) s u (m + n)) is (puts-then xs ys s t u m n p q), omega (arith, e, f, k))

-- what was owed was put, and accepted
pub settled-puts : (held : Held) (xs : List Input) (s t : Putting) → Settles held xs s t → Puts xs s t 0
settled-puts held [] s t all = (all, refl)
settled-puts held (x ∷ xs) s t all = inl (settled-puts held xs (accepting x s) t all.1)

-- an input behind what was owed
pub behind-one : (held : Held) (x : Input) (owing : List Input) (s t u : Putting) (n : ℕ) → Settles held owing s t → HoldsNoMore (held_by t.accepted) held → Puts (x ∷ []) t u n → PutsBehind held x s u n
behind-one held x owing s t u n all nothing (inl q) = (owing, t, all, inl (nothing, q.0, q.1))
behind-one held x owing s t u n all nothing (inr q) = (owing, t, all, inr (q.2.0, omega (arith, q.1, q.2.1)))

-- one more input
pub between-more : (held : Held) (xs : List Input) (x : Input) (s t u : Putting) (m n : ℕ) → PutsBetween held xs s t m → PutsBehind (roomy (held_after held xs)) x t u n → PutsBetween held (xs ++ x ∷ []) s u (m + n)
between-more held [] x s t u m n p q = (u, n, 0, subst (λ (v : Putting). PutsBehind (roomy held) x v u n) p.0 q, (refl, refl), omega (arith, p.1))
between-more held (y ∷ ys) x s t u m n p q = (p.0, p.1, p.2 + n, p.3, between-more (after (roomy held) y) ys x p.0 t u p.2 n p.4 q, omega (arith, p.5))

pub held-more : (held : Held) (xs : List Input) (x : Input) → held_after held (xs ++ x ∷ []) ≡ after (roomy (held_after held xs)) x
held-more held [] x = refl
held-more held (y ∷ ys) x = held-more (after (roomy held) y) ys x

behind-all : (held : Held) (x : Input) (s u : Putting) (n : ℕ) (owing : List Input) (t : Putting) → Puts owing s t 0
    → (HoldsNoMore (held_by t.accepted) held × (u ≡ accepting x t) × (n ≡ 0)) ⊎ ((u ≡ t) × (n ≡ 1)) → Puts (owing ++ x ∷ []) s u n
behind-all held x s u n owing t p (inl q) = subst (λ k. Puts (owing ++ x ∷ []) s u k) (omega (arith, q.2)) (puts-then owing (x ∷ []) s t u 0 0 p (inl (q.1, refl)))
behind-all held x s u n owing t p (inr q) = subst (λ k. Puts (owing ++ x ∷ []) s u k) (omega (arith, q.1)) (puts-then owing (x ∷ []) s t u 0 1 p (inr (0, refl, (q.0, refl))))

-- what was owed is put too
pub between-all : (held : Held) (xs : List Input) (s t : Putting) (n : ℕ) → PutsBetween held xs s t n → (ys : List Input) × Puts ys s t n
between-all held [] s t n p = ([], p)
between-all held (x ∷ xs) s t n p =
    let b = p.3 in
    let first = behind-all (roomy held) x s p.0 p.1 b.0 b.1 (settled-puts (roomy held) b.0 s b.1 b.2) b.3 in
    let rest = between-all (after (roomy held) x) xs p.0 t p.2 p.4 in
    ((b.0 ++ x ∷ []) ++ rest.0, subst (λ k. Puts ((b.0 ++ x ∷ []) ++ rest.0) s t k) (sym p.5) (puts-then (b.0 ++ x ∷ []) rest.0 s p.0 t p.1 p.2 first rest.1))

-- and behind the last
pub taken-all : (held next : Held) (xs owing : List Input) (s t u : Putting) (n : ℕ) → PutsBetween held xs s t n → Settles next owing t u → (ys : List Input) × Puts ys s u n
taken-all held next xs owing s t u n p q =
    let b = between-all held xs s t n p in
    (b.0 ++ owing, subst (λ k. Puts (b.0 ++ owing) s u k) (omega (arith)) (puts-then b.0 owing s t u n 0 b.1 (settled-puts next owing t u q)))

-- only the list of what was accepted is another
pub between-frame : (held : Held) (xs : List Input) (s t : Putting) (n : ℕ) → PutsBetween held xs s t n → t ≡ record s { accepted = t.accepted }
between-frame held xs s t n p = let b = between-all held xs s t n p in puts-frame b.0 s t n b.1
