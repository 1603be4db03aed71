-- Pieces of what waits.
use Rattle.std.proofs.Common.{◌≡◌, ◌≢◌, ◌<◌, ◌≤◌, ◌+◌, List, ℕ, zero, suc, true, [], ◌∷◌, ◌++◌, Option, Some, None, length, take, drop, refl, ap, arith, sym, ◌∙◌, append_assoc, append-nil}
use Rattle.std.proofs.lemmas.List.{length-drop, take-append-drop, drop-drop}
use Rattle.screen.specs.Alone.{some_bytes}
use Rattle.viewer.specs.Given.{bytes_given}
use Rattle.connection.specs.Waiting.{Waiting, waiting_bytes, IsFew}

-- some bytes that are made are left
pub some_made : (n : ℕ) (made rest : List ℕ) → n < length made → some_bytes (drop n made ++ rest) ≡ true
some_made n [] rest more = absurd (omega (arith, more))
some_made zero (b ∷ made) rest more = refl
some_made (suc n) (b ∷ made) rest more = some_made n made rest (omega (arith, more))

-- an update is left
pub some_update : (made : List ℕ) (update : Option (List ℕ)) (behind : List ℕ) → update ≢ None → update ≢ Some [] → some_bytes (made ++ (bytes_given update ++ behind)) ≡ true
some_update (b ∷ made) update behind there some = refl
some_update [] None behind there some = absurd (there refl)
some_update [] (Some []) behind there some = absurd (some refl)
some_update [] (Some (b ∷ bytes)) behind there some = refl

-- what is taken of a buffer, and what is left
pub taken : (n : ℕ) (b left before : List ℕ) → b ++ left ≡ before → take n b ++ (drop n b ++ left) ≡ before
taken n b left before made = sym (append_assoc (take n b) (drop n b) left) ∙ ap (λ l. l ++ left) (take-append-drop n b) ∙ made

-- more is taken of what is made
pub taken_on : (made rest : List ℕ) (done n : ℕ) → take n (drop done made) ++ (drop (done + n) made ++ rest) ≡ drop done made ++ rest
taken_on made rest done n =
    ap (λ l. take n (drop done made) ++ (l ++ rest)) (sym (drop-drop n done made)) ∙ taken n (drop done made) rest (drop done made ++ rest) refl

none_first : (xs ys : List ℕ) → xs ++ ys ≡ [] → xs ≡ []
none_first [] ys h = refl
none_first (x ∷ xs) ys h = absurd cc

none_second : (xs ys : List ℕ) → xs ++ ys ≡ [] → ys ≡ []
none_second [] ys h = h
none_second (x ∷ xs) ys h = absurd cc

-- an update is all that waits
pub started : (w : Waiting) (u : List ℕ) → waiting_bytes w ≡ [] → waiting_bytes (record w { update = Some u }) ≡ u
started w u h =
    let made = none_first w.made (bytes_given w.update ++ w.behind) h in
    let behind = none_second (bytes_given w.update) w.behind (none_second w.made (bytes_given w.update ++ w.behind) h) in
    ap (λ l. l ++ (u ++ w.behind)) made ∙ ap (λ l. u ++ l) behind ∙ append-nil u

-- what is left of few is few
pub few-left : (n : ℕ) (made behind : List ℕ) (update : Option (List ℕ)) → length made ≤ 65536 → length behind ≤ 65536 → IsFew (record { made = drop n made; update = update; behind = behind })
few-left n made behind update few few_behind = record { made = let shorter = length-drop n made in omega (arith, few, shorter); behind = few_behind }
