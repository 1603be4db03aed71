-- Which keys are in a list, for who goes through one.
use Rattle.std.proofs.Common.{◌≡◌, ◌≢◌, ◌⊎◌, inl, inr, true≢false, subst, ◌+◌, ◌<◌, ℕ, suc, Bool, true, false, List, [], ◌∷◌, ◌++◌, Result, Ok, Err, OnOk, OnErr, refl, sym, ap, ◌∙◌, arith}
use Rattle.std.specs.Prelude.{◌==◌, ◌||◌, length, slice_index_or}
use Rattle.std.proofs.lemmas.Bool.Decides.{Decides-eqb}
use Rattle.std.proofs.lemmas.List.Folds.{list_any-append}
use Rattle.key_set.specs.Among.{is_among}

pub same-key : (k j : ℕ) → (k == j) ≡ true → (j == k) ≡ true
same-key k j h = (Decides-eqb j k).1 (sym ((Decides-eqb k j).0 h))

pub apart-key : (k j : ℕ) → (k == j) ≡ false → (j == k) ≡ false
apart-key k j h = go (j == k) refl
  where
    go : (b : Bool) → (j == k) ≡ b → (j == k) ≡ false
    go true is = let no : true ≡ false = sym (same-key j k is) ∙ h in absurd cc
    go false is = is

-- a key other than the last is before it
pub among-before : (k last : ℕ) (keys : List ℕ) → (k == last) ≡ false → is_among k (keys ++ last ∷ []) ≡ true → is_among k keys ≡ true
among-before k last keys apart there = go (is_among k keys) refl (sym (list_any-append (λ j. j == k) keys (last ∷ [])) ∙ there)
  where
    go : (b : Bool) → is_among k keys ≡ b → (is_among k keys || ((last == k) || false)) ≡ true → is_among k keys ≡ true
    go true is h = is
    go false is h = let a = apart-key k last apart in absurd cc

-- where a key is
pub place-among : (k : ℕ) (keys : List ℕ) → is_among k keys ≡ true → (i : ℕ) × (i < length keys) × (slice_index_or keys i 0 ≡ k)
place-among k [] there = absurd cc
place-among k (j ∷ keys) there = go (j == k) refl there (place-among k keys)
  where
    go : (b : Bool) → (j == k) ≡ b → (b || is_among k keys) ≡ true → (is_among k keys ≡ true → (i : ℕ) × (i < length keys) × (slice_index_or keys i 0 ≡ k))
        → (i : ℕ) × (i < length (j ∷ keys)) × (slice_index_or (j ∷ keys) i 0 ≡ k)
    go true is h rest = (0, omega arith, (Decides-eqb j k).0 is)
    go false is h rest = let p = rest h in (suc p.0, omega (arith, p.1), p.2)

-- what holds of each place holds of each key
pub each-among : (P : ℕ → Type 0) (keys : List ℕ) → ((i : ℕ) → i < length keys → P (slice_index_or keys i 0)) → (k : ℕ) → is_among k keys ≡ true → P k
each-among P keys each k there = let p = place-among k keys there in subst P p.2 (each p.0 p.1)

-- what holds of the first places holds of one more
pub each-more : (P Q : ℕ → Type 0) (keys : List ℕ) (n : ℕ) → ((k : ℕ) → P k → Q k) → Q (slice_index_or keys n 0) → ((i : ℕ) → i < n → P (slice_index_or keys i 0)) → (i : ℕ) → i < n + 1 → Q (slice_index_or keys i 0)
each-more P Q keys n goes here each i below = go (i == n) refl
  where
    go : (b : Bool) → (i == n) ≡ b → Q (slice_index_or keys i 0)
    go true is = subst (λ (m : ℕ). Q (slice_index_or keys m 0)) (sym ((Decides-eqb i n).0 is)) here
    go false is = goes _ (each i (let apart : i ≢ n = λ same. true≢false (sym ((Decides-eqb i n).1 same) ∙ is) in omega (arith, below, apart)))

-- one came, or none, as a result says
pub came-by : {X E : Type 0} (r : Result X E) (old new : List ℕ) (key : ℕ) → OnOk r ((new ≡ old) ⊎ (new ≡ old ++ key ∷ [])) → OnErr r (new ≡ old) → (new ≡ old) ⊎ (new ≡ old ++ key ∷ [])
came-by (Ok x) old new key ok err = ok
came-by (Err e) old new key ok err = inl err

-- one came, or none
pub among-came : (k key : ℕ) (old new : List ℕ) → (new ≡ old) ⊎ (new ≡ old ++ key ∷ []) → is_among k new ≡ true → (is_among k old ≡ true) ⊎ (k ≡ key)
among-came k key old new (inl same) there = inl (ap (is_among k) (sym same) ∙ there)
among-came k key old new (inr same) there = go (k == key) refl
  where
    go : (b : Bool) → (k == key) ≡ b → (is_among k old ≡ true) ⊎ (k ≡ key)
    go true is = inr ((Decides-eqb k key).0 is)
    go false is = inl (among-before k key old is (ap (is_among k) (sym same) ∙ there))
