-- An update that is given isn't empty.
use Rattle.std.proofs.Common.{◌≡◌, ℕ, ◌<◌, Bool, true, false, List, [], ◌∷◌, ◌++◌, length, refl, subst, sym, arith}
use Rattle.std.specs.Prelude.{flat_map}
use Rattle.std.proofs.lemmas.List.{length-append}
use Rattle.messages.specs.Server.{colour_map}
use Rattle.updates.specs.declared.notices.Notice.{Notice}
use Rattle.updates.specs.declared.notices.Notice.TheVariants as notice
use Rattle.updates.specs.Bytes.{map_bytes, notice_bytes}

pub some_notice : (notices : List Notice) (rest : List ℕ) → (notices ≡ [] → ⊥) → flat_map notice_bytes notices ++ rest ≡ [] → ⊥
some_notice [] rest some e = some refl
some_notice (notice.Bell ∷ notices) rest some e = cc
some_notice (notice.CutText text ∷ notices) rest some e = cc

-- a colour map that is owed
pub some_map : (owed : Bool) (notices : List Notice) (rest : List ℕ) → owed ≡ true → (map_bytes owed ++ flat_map notice_bytes notices) ++ rest ≡ [] → ⊥
unfolding colour_map
some_map true notices rest is e = cc
some_map false notices rest is e = absurd cc

-- notices that wait behind it
pub some_behind : (owed : Bool) (notices : List Notice) (rest : List ℕ) → (notices ≡ [] → ⊥) → (map_bytes owed ++ flat_map notice_bytes notices) ++ rest ≡ [] → ⊥
some_behind true notices rest some e = some_map true notices rest refl e
some_behind false notices rest some e = some_notice notices rest some e

pub some_more : (old new : List ℕ) → new ≡ old ++ colour_map → length old < length new
unfolding colour_map
some_more old new e = subst (λ (l : List ℕ). length old < length l) (sym e) (longer 1 _)
  where
    longer : (b : ℕ) (bytes : List ℕ) → length old < length (old ++ b ∷ bytes)
    longer b bytes = let long = length-append old (b ∷ bytes) in omega (arith, long)

pub some_rest : (bytes rest : List ℕ) → (rest ≡ [] → ⊥) → bytes ++ rest ≡ [] → ⊥
some_rest [] rest some e = some e
some_rest (b ∷ bytes) rest some e = cc
