-- What is kept of inputs that came.
use Rattle.std.proofs.Common.{◌≡◌, ◌+◌, ◌-◌, ◌<◌, ◌≤◌, ℕ, zero, suc, Bool, true, false, List, [], ◌∷◌, ◌++◌, length, take, refl, ap, ◌∙◌, inl, inr, arith}
use Rattle.std.specs.Prelude.{nat_lt, nat_le, ◌&&◌, if◌then◌else◌}
use Rattle.std.proofs.lemmas.Bool.{ltb-true, leb-true}
use Rattle.screen.specs.declared.Input.{Input}
use Rattle.screen.specs.declared.Input.TheVariants.{Key, Pointer, Text}
use Rattle.c_screen.specs.Inputs.{is_text}
use Rattle.c_server.specs.Desk.{IsPartOf, fitting, text_size, texts_size}

either : {X : Type 0} (P : X → Type 0) (b : Bool) (x y : X) → (b ≡ true → P x) → (b ≡ false → P y) → P (if b then x else y)
either P true x y p q = p refl
either P false x y p q = q refl

both-first : (a b : Bool) → (a && b) ≡ true → a ≡ true
both-first true b h = refl
both-first false b h = absurd (cc)

both-second : (a b : Bool) → (a && b) ≡ true → b ≡ true
both-second true b h = h
both-second false b h = absurd (cc)

part-behind : {X : Type 0} (kept all : List X) (x : X) → IsPartOf kept all → IsPartOf kept (x ∷ all)
part-behind [] all x h = tt
part-behind (k ∷ kept) all x h = inr h

pub part-of-part : {X : Type 0} (a b c : List X) → IsPartOf a b → IsPartOf b c → IsPartOf a c
part-of-part [] b c p q = tt
part-of-part (x ∷ a) [] c p q = absurd p
part-of-part (x ∷ a) (y ∷ b) [] p q = absurd q
part-of-part (x ∷ a) (y ∷ b) (z ∷ c) p (inr q) = inr (part-of-part (x ∷ a) (y ∷ b) c p q)
part-of-part (x ∷ a) (y ∷ b) (z ∷ c) (inl p) (inl q) = inl (p.0 ∙ q.0, part-of-part a b c p.1 q.1)
part-of-part (x ∷ a) (y ∷ b) (z ∷ c) (inr p) (inl q) = inr (part-of-part (x ∷ a) b c p q.1)

pub take-few : {X : Type 0} (n : ℕ) (l : List X) → length l ≤ n → take n l ≡ l
take-few zero [] few = refl
take-few zero (x ∷ l) few = absurd (omega (few, arith))
take-few (suc n) [] few = refl
take-few (suc n) (x ∷ l) few = ap (λ r. x ∷ r) (take-few n l (omega (few, arith)))

pub fits-part : (n r : ℕ) (came : List (ℕ × Input)) → IsPartOf (fitting n r came).0 came
fits-part n r [] = tt
fits-part n r (i ∷ is) = either (λ (t : List (ℕ × Input) × ℕ × ℕ). IsPartOf t.0 (i ∷ is)) (nat_lt 0 n && nat_le (text_size i.1) r) _ _
    (λ so. inl (refl, fits-part (n - 1) (r - text_size i.1) is))
    (λ not. part-behind _ is i (fits-part n r is))

pub fits-few : (n r : ℕ) (came : List (ℕ × Input)) → length (fitting n r came).0 ≤ n
fits-few n r [] = omega arith
fits-few n r (i ∷ is) = either (λ (t : List (ℕ × Input) × ℕ × ℕ). length t.0 ≤ n) (nat_lt 0 n && nat_le (text_size i.1) r) _ _
    (λ so. let some : 0 < n = ltb-true 0 n (both-first _ _ so) in omega (fits-few (n - 1) (r - text_size i.1) is, some, arith))
    (λ not. fits-few n r is)

pub fits-count : (n r : ℕ) (came : List (ℕ × Input)) → length came ≡ length (fitting n r came).0 + (fitting n r came).1
fits-count n r [] = refl
fits-count n r (i ∷ is) = either (λ (t : List (ℕ × Input) × ℕ × ℕ). suc (length is) ≡ length t.0 + t.1) (nat_lt 0 n && nat_le (text_size i.1) r) _ _
    (λ so. omega (fits-count (n - 1) (r - text_size i.1) is, arith))
    (λ not. omega (fits-count n r is, arith))

pub fits-texts : (n r : ℕ) (came : List (ℕ × Input)) → texts_size (fitting n r came).0 + (fitting n r came).2 ≡ r
fits-texts n r [] = omega arith
fits-texts n r (i ∷ is) = either (λ (t : List (ℕ × Input) × ℕ × ℕ). texts_size t.0 + t.2 ≡ r) (nat_lt 0 n && nat_le (text_size i.1) r) _ _
    (λ so. let few : text_size i.1 ≤ r = leb-true (text_size i.1) r (both-second (nat_lt 0 n) (nat_le (text_size i.1) r) so) in omega (fits-texts (n - 1) (r - text_size i.1) is, few, arith))
    (λ not. fits-texts n r is)

pub texts-append : (a b : List (ℕ × Input)) → texts_size (a ++ b) ≡ texts_size a + texts_size b
texts-append [] b = omega arith
texts-append (i ∷ a) b = omega (texts-append a b, arith)

no-text : (i : ℕ × Input) → is_text i ≡ false → text_size i.1 ≡ 0
no-text (v, Key down key) h = refl
no-text (v, Pointer mask x y) h = refl
no-text (v, Text text shortened) h = absurd (cc)

-- what is no text takes no room
pub no-texts : (all waiting : List (ℕ × Input)) (i : ℕ × Input) (rest : List (ℕ × Input)) → is_text i ≡ false → waiting ≡ i ∷ rest → texts_size waiting ≡ texts_size all → texts_size rest ≡ texts_size all
no-texts all waiting i rest none is same = omega (ap texts_size is, no-text i none, same, arith)
