-- What the body of each call does to what was put.
use Rattle.std.proofs.Common.{◌≡◌, ◌≢◌, ◌+◌, ◌-◌, ◌<◌, ℕ, Bool, true, false, List, [], ◌++◌, length, take, drop, Option, Some, None, refl, sym, ap, ◌∙◌, subst, append-nil, arith}
use Rattle.std.specs.Prelude.{nat_lt}
use Rattle.std.specs.Io.KnownBytes.{Appends, Keeps}
use Rattle.std.proofs.KnownBytes.{Appends-nil, Appends-trans}
use Rattle.std.proofs.lemmas.List.{take-append-drop, drop_all, take_all, length-drop}
use Rattle.std.proofs.Math.Seq.{take-add, take-append-add, take-append_seam}
use Rattle.std.proofs.lemmas.Bool.{ltb-false, ltb-true}
use Rattle.scribe.specs.Scribing.{Scribed, IsScribed, Puts}
use Rattle.scribe.specs.ScribingLemmas.{not-both, scribed-added, scribed-ended}

-- ---- what a writer holds

pub appends-kept : (a b c : Option (List ℕ)) (xs : List ℕ) → Appends a b xs → Keeps b c → Appends a c xs
appends-kept None b c xs h k = tt
appends-kept (Some ks) None c xs h k = absurd h
appends-kept (Some ks) (Some ls) None xs h k = absurd k
appends-kept (Some ks) (Some ls) (Some ms) xs h k = k ∙ h

-- bytes are written piece by piece
pub appends-piece : (a b c : Option (List ℕ)) (n m : ℕ) (bytes : List ℕ) → Appends a b (take n bytes) → Appends b c (take m (take (length bytes - n) (drop n bytes))) → Appends a c (take (n + m) bytes)
appends-piece a b c n m bytes h k =
    let rest : take (length bytes - n) (drop n bytes) ≡ drop n bytes = take_all (length bytes - n) (drop n bytes) (let long = length-drop n bytes in omega arith) in
    subst (Appends a c) (sym (take-add n m bytes)) (Appends-trans a b c (take n bytes) (take m (drop n bytes)) h (subst (λ (l : List ℕ). Appends b c (take m l)) rest k))

-- ---- what lies in the buffer

-- bytes behind what waited there
pub take-copied : (xs bytes rest : List ℕ) (n : ℕ) → length xs ≡ n → take (n + length bytes) (xs ++ (bytes ++ rest)) ≡ xs ++ bytes
take-copied xs bytes rest n is =
    subst (λ (m : ℕ). take (m + length bytes) (xs ++ (bytes ++ rest)) ≡ xs ++ bytes) is (take-append-add xs (bytes ++ rest) (length bytes) ∙ ap (λ (l : List ℕ). xs ++ l) (take-append_seam bytes rest))

-- ---- what is put

pub puts-broken : (more : List ℕ) (s : Scribed) → s.broken ≡ true → Puts more s s
puts-broken more s broken began text h = scribed-ended began text more s broken h

-- it waits behind what waited
pub puts-copied : (more : List ℕ) (s t : Scribed) → s.broken ≡ false → t ≡ record s { waiting = s.waiting ++ more } → Puts more s t
puts-copied more s t fine is began text h = subst (IsScribed began (text ++ more)) (sym is) (scribed-added began text more s (record s { waiting = s.waiting ++ more }) fine h (record {
  written = [];
  lost = [];
  grew = Appends-nil s.held;
  parts = append-nil (s.waiting ++ more);
  whole = λ _. refl;
  lacks = λ broken. not-both s.broken broken fine;
  ended = λ broken. not-both s.broken broken fine;
}))

-- fewer than all are left out
some-dropped : (n : ℕ) (l : List ℕ) → nat_lt n (length l) ≡ true → drop n l ≢ []
some-dropped n l few none =
    let below : n < length l = ltb-true n (length l) few in
    let long : length (drop n l) ≡ length l - n = length-drop n l in
    let empty : length (drop n l) ≡ 0 = ap length none in
    absurd (omega arith)

-- what waited and more are written, or the first bytes of that
pub puts-written : (n : ℕ) (bytes more : List ℕ) (s t : Scribed) (held : Option (List ℕ)) → s.broken ≡ false → s.waiting ++ more ≡ bytes → Appends s.held held (take n bytes)
    → t ≡ record { held = held; waiting = []; broken = nat_lt n (length bytes) } → Puts more s t
puts-written n bytes more s t held fine all wrote is began text h =
    subst (IsScribed began (text ++ more)) (sym is) (scribed-added began text more s (record { held = held; waiting = []; broken = nat_lt n (length bytes) }) fine h (record {
      written = take n bytes;
      lost = drop n bytes;
      grew = wrote;
      parts = take-append-drop n bytes ∙ sym all;
      whole = λ enough. drop_all n bytes (ltb-false n (length bytes) enough);
      lacks = some-dropped n bytes;
      ended = λ _. refl;
    }))

-- after what waited was written, what comes next is lost
pub puts-broken_off : (more : List ℕ) (r s t : Scribed) → more ≢ [] → Puts [] r s → (s.broken ≡ false → s.waiting ≡ []) → t ≡ record s { broken = true } → Puts more r t
puts-broken_off more r s t some flushed empty is began text h = subst (IsScribed began (text ++ more)) (sym is) (go s.broken refl)
  where
    now : IsScribed began text s
    now = subst (λ (l : List ℕ). IsScribed began l s) (append-nil text) (flushed began text h)

    go : (b : Bool) → s.broken ≡ b → IsScribed began (text ++ more) (record s { broken = true })
    go true broken = subst (λ (b : Bool). IsScribed began (text ++ more) (record s { broken = b })) broken (scribed-ended began text more s broken now)
    go false fine = scribed-added began text more s (record s { broken = true }) fine now (record {
      written = [];
      lost = more;
      grew = Appends-nil s.held;
      parts = refl;
      whole = λ whole. not-both true refl whole;
      lacks = λ _. some;
      ended = λ _. empty fine;
    })
