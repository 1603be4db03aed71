-- Flags of a list's keys, as keys come and go.
use Rattle.std.proofs.Common.{◌≡◌, subst, ◌+◌, ◌<◌, ℕ, zero, suc, Bool, true, false, List, [], ◌∷◌, ◌++◌, refl, sym, ap, ◌∙◌, arith}
use Rattle.std.specs.Prelude.{◌==◌, ◌||◌, ◌&&◌, not, if◌then◌else◌, length, slice_index_or, get_or, take, remove, replicate}
use Rattle.std.proofs.lemmas.Bool.Decides.{Decides-eqb}
use Rattle.std.proofs.lemmas.List.{take_more}
use Rattle.std.proofs.lemmas.List.Folds.{list_any-append, list_any_at}
use Rattle.key_set.specs.Among.{is_among, without_key, AreApart, IsFlagged}
use Rattle.key_set.specs.AmongLemmas.{same-key, apart-key}

-- ---- keys that are there once

or-false : (b : Bool) → (b || false) ≡ b
or-false true = refl
or-false false = refl

-- whether a key is among others and a last one
among-last : (k last : ℕ) (keys : List ℕ) → is_among k (keys ++ last ∷ []) ≡ (is_among k keys || (last == k))
among-last k last keys = list_any-append (λ j. j == k) keys (last ∷ []) ∙ ap (λ b. is_among k keys || b) (or-false (last == k))

apart-or : (a b : Bool) → a ≡ false → b ≡ false → (a || b) ≡ false
apart-or a b is h = ap (λ x. x || b) is ∙ h

or-parts : (a b : Bool) → (a || b) ≡ false → (a ≡ false) × (b ≡ false)
or-parts true b h = absurd cc
or-parts false b h = (refl, h)

-- one more comes that wasn't there
pub apart-pushed : (key : ℕ) (keys : List ℕ) → AreApart keys → is_among key keys ≡ false → AreApart (keys ++ key ∷ [])
apart-pushed key [] apart none = (refl, tt)
apart-pushed key (j ∷ keys) apart none =
    let p = or-parts (j == key) (is_among key keys) none in
    (among-last j key keys ∙ apart-or (is_among j keys) (key == j) apart.0 (apart-key j key p.0), apart-pushed key keys apart.1 p.1)

-- the last goes
pub apart-popped : (key : ℕ) (keys : List ℕ) → AreApart (keys ++ key ∷ []) → (is_among key keys ≡ false) × AreApart keys
apart-popped key [] apart = (refl, tt)
apart-popped key (j ∷ keys) apart =
    let p = or-parts (is_among j keys) (key == j) (sym (among-last j key keys) ∙ apart.0) in
    let q = apart-popped key keys apart.1 in
    (apart-or (j == key) (is_among key keys) (apart-key key j p.1) q.0, (p.0, q.1))

-- what isn't there can't be taken out
pub without_none : (key : ℕ) (keys : List ℕ) → is_among key keys ≡ false → without_key key keys ≡ keys
without_none key [] none = refl
without_none key (j ∷ keys) none = let p = or-parts (j == key) (is_among key keys) none in rw p.0 (ap (λ l. j ∷ l) (without_none key keys p.1))

among-place : (i key : ℕ) (keys : List ℕ) → i < length keys → slice_index_or keys i 0 ≡ key → is_among key keys ≡ true
among-place i key [] within is = absurd (omega (arith, within))
among-place zero key (j ∷ keys) within is = ap (λ b. b || is_among key keys) ((Decides-eqb j key).1 is)
among-place (suc i) key (j ∷ keys) within is = go (j == key) (among-place i key keys (omega (arith, within)) is)
  where
    go : (b : Bool) → is_among key keys ≡ true → (b || is_among key keys) ≡ true
    go true h = refl
    go false h = h

-- a key that is there once is taken out at its place
pub removed_once : (i key : ℕ) (keys : List ℕ) → i < length keys → slice_index_or keys i 0 ≡ key → AreApart keys → remove keys i ≡ without_key key keys
removed_once i key [] within is apart = absurd (omega (arith, within))
removed_once zero key (j ∷ keys) within is apart =
    let same : (j == key) ≡ true = (Decides-eqb j key).1 is in
    rw same (sym (without_none key keys (ap (λ k. is_among k keys) (sym is) ∙ apart.0)))
removed_once (suc i) key (j ∷ keys) within is apart = go (j == key) refl (removed_once i key keys (omega (arith, within)) is apart.1)
  where
    there : is_among key keys ≡ true
    there = among-place i key keys (omega (arith, within)) is

    go : (b : Bool) → (j == key) ≡ b → remove keys i ≡ without_key key keys → (j ∷ remove keys i) ≡ (if not b then j ∷ without_key key keys else without_key key keys)
    go true same rest = let no : true ≡ false = sym there ∙ ap (λ k. is_among k keys) (sym ((Decides-eqb j key).0 same)) ∙ apart.0 in absurd cc
    go false off rest = ap (λ l. j ∷ l) rest

-- what is left is what was there, but for the key
pub among-without : (k key : ℕ) (keys : List ℕ) → is_among k (without_key key keys) ≡ (is_among k keys && not (k == key))
among-without k key [] = refl
among-without k key (j ∷ keys) = go (j == key) (j == k) refl refl (among-without k key keys)
  where
    go : (b d : Bool) → (j == key) ≡ b → (j == k) ≡ d → is_among k (without_key key keys) ≡ (is_among k keys && not (k == key))
        → is_among k (if not b then j ∷ without_key key keys else without_key key keys) ≡ ((d || is_among k keys) && not (k == key))
    go true true at of h =
        let is : (k == key) ≡ true = (Decides-eqb k key).1 (sym ((Decides-eqb j k).0 of) ∙ (Decides-eqb j key).0 at) in
        h ∙ and-not (is_among k keys) (k == key) is ∙ sym (and-not true (k == key) is)
      where
        and-not : (a b : Bool) → b ≡ true → (a && not b) ≡ false
        and-not true b is = ap not is
        and-not false b is = refl
    go true false at of h = h
    go false true at of h =
        let off : (k == key) ≡ false = ap (λ i. i == key) (sym ((Decides-eqb j k).0 of)) ∙ at in
        rw of (sym (ap not off))
    go false false at of h = rw of h

pub apart-without : (key : ℕ) (keys : List ℕ) → AreApart keys → AreApart (without_key key keys)
apart-without key [] apart = tt
apart-without key (j ∷ keys) apart = go (j == key) (apart-without key keys apart.1)
  where
    go : (b : Bool) → AreApart (without_key key keys) → AreApart (if not b then j ∷ without_key key keys else without_key key keys)
    go true h = h
    go false h = (among-without j key keys ∙ ap (λ b. b && not (j == key)) apart.0, h)

-- what is at a place is there
pub among_at : (i : ℕ) (k : ℕ) (keys : List ℕ) → i < length keys → k ≡ slice_index_or keys i k → is_among k keys ≡ true
among_at i k keys within is = list_any_at (λ j. j == k) keys i k within (ap (λ j. j == k) (sym is) ∙ (Decides-eqb k k).1 refl)

-- a key that isn't at one place more isn't among so many
pub none-more : (key : ℕ) (keys : List ℕ) (n k : ℕ) → n < length keys → get_or keys n k ≡ k → (k == key) ≡ false → is_among key (take n keys) ≡ false → is_among key (take (n + 1) keys) ≡ false
none-more key keys n k within is off none =
    ap (is_among key) (take_more keys n k within ∙ ap (λ j. take n keys ++ j ∷ []) is) ∙ among-last key k (take n keys) ∙ apart-or (is_among key (take n keys)) (k == key) none off

-- ---- flags

-- the flags of no key
pub flagged-nothing : IsFlagged [] []
flagged-nothing = record { flags = λ key. refl; apart = tt }

-- the last one's flag is lowered, and it is taken out
pub flagged_popped : (old new : List Bool) (key : ℕ) (keys rest : List ℕ) → keys ≡ rest ++ key ∷ [] → IsFlagged old keys → slice_index_or new key false ≡ false
    → ((k : ℕ) → (k == key) ≡ false → slice_index_or new k false ≡ slice_index_or old k false) → IsFlagged new rest
flagged_popped old new key keys rest is flagged down others =
    let p = apart-popped key rest (subst AreApart is flagged.apart) in
    record { flags = λ k. go k (k == key) refl p.0; apart = p.1 }
  where
    go : (k : ℕ) (b : Bool) → (k == key) ≡ b → is_among key rest ≡ false → slice_index_or new k false ≡ is_among k rest
    go k true same none = let at : k ≡ key = (Decides-eqb k key).0 same in ap (λ j. slice_index_or new j false) at ∙ down ∙ sym none ∙ ap (λ j. is_among j rest) (sym at)
    go k false off none = others k off ∙ flagged.flags k ∙ ap (is_among k) is ∙ among-last k key rest ∙ ap (λ b. is_among k rest || b) (apart-key k key off) ∙ or-false (is_among k rest)

-- a key comes that wasn't there, and its flag is raised
pub flagged_pushed : (old new : List Bool) (key : ℕ) (keys : List ℕ) → IsFlagged old keys → is_among key keys ≡ false → slice_index_or new key false ≡ true
    → ((k : ℕ) → (k == key) ≡ false → slice_index_or new k false ≡ slice_index_or old k false) → IsFlagged new (keys ++ key ∷ [])
flagged_pushed old new key keys flagged none up others = record { flags = λ k. go k (k == key) refl ∙ sym (among-last k key keys); apart = apart-pushed key keys flagged.apart none }
  where
    or-true : (a b : Bool) → b ≡ true → true ≡ (a || b)
    or-true true b is = refl
    or-true false b is = sym is

    go : (k : ℕ) (b : Bool) → (k == key) ≡ b → slice_index_or new k false ≡ (is_among k keys || (key == k))
    go k true same =
        let at : k ≡ key = (Decides-eqb k key).0 same in
        ap (λ j. slice_index_or new j false) at ∙ up ∙ or-true (is_among k keys) (key == k) (same-key k key same)
    go k false off = others k off ∙ flagged.flags k ∙ sym (ap (λ b. is_among k keys || b) (apart-key k key off) ∙ or-false (is_among k keys))

-- a key goes that was at a place
pub flagged_removed : (old new : List Bool) (key i : ℕ) (keys : List ℕ) → IsFlagged old keys → i < length keys → slice_index_or keys i 0 ≡ key → slice_index_or new key false ≡ false
    → ((k : ℕ) → (k == key) ≡ false → slice_index_or new k false ≡ slice_index_or old k false) → IsFlagged new (remove keys i)
flagged_removed old new key i keys flagged within is down others =
    subst (IsFlagged new) (sym (removed_once i key keys within is flagged.apart)) (record { flags = λ k. go k (k == key) refl ∙ sym (among-without k key keys); apart = apart-without key keys flagged.apart })
  where
    and-true : (a : Bool) → a ≡ (a && true)
    and-true true = refl
    and-true false = refl

    and-false : (a : Bool) → false ≡ (a && false)
    and-false true = refl
    and-false false = refl

    go : (k : ℕ) (b : Bool) → (k == key) ≡ b → slice_index_or new k false ≡ (is_among k keys && not (k == key))
    go k true same = ap (λ j. slice_index_or new j false) ((Decides-eqb k key).0 same) ∙ down ∙ and-false (is_among k keys) ∙ ap (λ b. is_among k keys && not b) (sym same)
    go k false off = others k off ∙ flagged.flags k ∙ and-true (is_among k keys) ∙ ap (λ b. is_among k keys && not b) (sym off)

-- further flags that are down
pub down_behind : (flags more : List Bool) (n k : ℕ) → more ≡ replicate n false → slice_index_or (flags ++ more) k false ≡ slice_index_or flags k false
down_behind [] more zero k is = ap (λ l. slice_index_or l k false) is
down_behind [] more (suc n) zero is = ap (λ l. slice_index_or l 0 false) is
down_behind [] more (suc n) (suc k) is = ap (λ l. slice_index_or l (suc k) false) is ∙ down_behind [] (replicate n false) n k refl
down_behind (b ∷ flags) more n zero is = refl
down_behind (b ∷ flags) more n (suc k) is = down_behind flags more n k is

-- another key stays
pub others-stay : (key : ℕ) (keys : List ℕ) (k : ℕ) → (k == key) ≡ false → is_among k keys ≡ true → is_among k (without_key key keys) ≡ true
others-stay key keys k off there = among-without k key keys ∙ ap (λ b. b && not (k == key)) there ∙ ap not off

-- the same flags are up
pub flagged_same : (old new : List Bool) (keys : List ℕ) → ((k : ℕ) → slice_index_or new k false ≡ slice_index_or old k false) → IsFlagged old keys → IsFlagged new keys
flagged_same old new keys same flagged = record { flags = λ k. same k ∙ flagged.flags k; apart = flagged.apart }
