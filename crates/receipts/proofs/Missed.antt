-- Which viewers have receipts.
use Rattle.std.proofs.Common.{◌≡◌, ℕ, Bool, true, false, List, [], ◌∷◌, Option, None, Some, refl}
use Rattle.std.specs.Prelude.{◌==◌}
use Rattle.std.specs.Bool.{Decides}
use Rattle.std.specs.List.{All, Contains, list_any}
use Rattle.std.proofs.Common.{inl, inr}
use Rattle.std.proofs.lemmas.Bool.{eqb-true, eqb-false}
use Rattle.std.proofs.lemmas.Bool.Decides.{Decides-by_or, Decides-eqb, not_from_Decides}
use Rattle.std.proofs.lemmas.List.Elements.{All-nil, All-cons, Decides-contains}
use Rattle.receipts.specs.declared.Receipt.{Receipt}
use Rattle.receipts.specs.Checking.{receipts_for, without_one, stranger}
use Rattle.receipts.specs.Claims.{IsFirst}

pub each_has_one : (vs : List ℕ) (rs : List Receipt) → without_one vs rs ≡ None → All (λ v. receipts_for v rs ≡ 1) vs
each_has_one [] rs h = All-nil _
each_has_one (v ∷ vs) rs h = go (receipts_for v rs == 1) refl (each_has_one vs rs)
  where
    go : (b : Bool) → (receipts_for v rs == 1) ≡ b → (without_one vs rs ≡ None → All (λ w. receipts_for w rs ≡ 1) vs) → All (λ w. receipts_for w rs ≡ 1) (v ∷ vs)
    go true e rest = All-cons (λ w. receipts_for w rs ≡ 1) v vs (eqb-true _ _ e) (rest (rw e at h))
    go false e rest = let none : ◌≡◌ {A = Option ℕ} (Some v) None = rw e at h in absurd cc

pub first_without_one : (vs : List ℕ) (rs : List Receipt) (v : ℕ) → without_one vs rs ≡ Some v → IsFirst (λ w. receipts_for w rs ≡ 1) (λ w. (w ≡ v) × (receipts_for w rs ≡ 1 → ⊥)) vs
first_without_one [] rs v h = absurd cc
first_without_one (w ∷ vs) rs v h = go (receipts_for w rs == 1) refl (first_without_one vs rs v)
  where
    go : (b : Bool) → (receipts_for w rs == 1) ≡ b → (without_one vs rs ≡ Some v → IsFirst (λ u. receipts_for u rs ≡ 1) (λ u. (u ≡ v) × (receipts_for u rs ≡ 1 → ⊥)) vs) → IsFirst (λ u. receipts_for u rs ≡ 1) (λ u. (u ≡ v) × (receipts_for u rs ≡ 1 → ⊥)) (w ∷ vs)
    go true e rest = inr (eqb-true _ _ e, rest (rw e at h))
    go false e rest = let one : ◌≡◌ {A = Option ℕ} (Some w) (Some v) = rw e at h in inl (cc, eqb-false _ _ e)

connected-Decides : (v : ℕ) (vs : List ℕ) → Decides (list_any (λ w. w == v) vs) (Contains vs v)
connected-Decides v vs = Decides-contains vs v _ (Decides-by_or (λ w. w == v) (λ w. w ≡ v) (λ ws. list_any (λ w. w == v) ws) (λ w. Decides-eqb w v) refl (λ _ _. refl) vs)

pub none_else : (vs : List ℕ) (rs : List Receipt) → stranger vs rs ≡ None → All (λ r. Contains vs r.viewer) rs
none_else vs [] h = All-nil _
none_else vs (r ∷ rs) h = go (list_any (λ w. w == r.viewer) vs) refl (none_else vs rs)
  where
    go : (b : Bool) → list_any (λ w. w == r.viewer) vs ≡ b → (stranger vs rs ≡ None → All (λ s. Contains vs s.viewer) rs) → All (λ s. Contains vs s.viewer) (r ∷ rs)
    go true e rest = All-cons (λ s. Contains vs s.viewer) r rs ((connected-Decides r.viewer vs).0 e) (rest (rw e at h))
    go false e rest = let none : ◌≡◌ {A = Option ℕ} (Some r.viewer) None = rw e at h in absurd cc

pub first_stranger : (vs : List ℕ) (rs : List Receipt) (v : ℕ) → stranger vs rs ≡ Some v → IsFirst (λ r. Contains vs r.viewer) (λ r. (r.viewer ≡ v) × (Contains vs r.viewer → ⊥)) rs
first_stranger vs [] v h = absurd cc
first_stranger vs (r ∷ rs) v h = go (list_any (λ w. w == r.viewer) vs) refl (first_stranger vs rs v)
  where
    go : (b : Bool) → list_any (λ w. w == r.viewer) vs ≡ b → (stranger vs rs ≡ Some v → IsFirst (λ s. Contains vs s.viewer) (λ s. (s.viewer ≡ v) × (Contains vs s.viewer → ⊥)) rs) → IsFirst (λ s. Contains vs s.viewer) (λ s. (s.viewer ≡ v) × (Contains vs s.viewer → ⊥)) (r ∷ rs)
    go true e rest = inr ((connected-Decides r.viewer vs).0 e, rest (rw e at h))
    go false e rest = let one : ◌≡◌ {A = Option ℕ} (Some r.viewer) (Some v) = rw e at h in inl (cc, not_from_Decides _ (connected-Decides r.viewer vs) e)

pub stranger-here : (vs : List ℕ) (r : Receipt) (rs : List Receipt) → list_any (λ w. w == r.viewer) vs ≡ false → stranger vs (r ∷ rs) ≡ Some r.viewer
stranger-here vs r rs h = rw h refl

pub stranger-later : (vs : List ℕ) (r : Receipt) (rs : List Receipt) → list_any (λ w. w == r.viewer) vs ≡ true → stranger vs (r ∷ rs) ≡ stranger vs rs
stranger-later vs r rs h = rw h refl
