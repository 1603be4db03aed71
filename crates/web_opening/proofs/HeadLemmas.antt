-- Heads that come in pieces.
use Rattle.std.proofs.Common.{◌≡◌, ℕ, ◌+◌, ◌-◌, ◌<◌, ◌≤◌, min, true, false, List, [], ◌∷◌, ◌++◌, length, take, drop, refl, sym, ◌∙◌, arith, inl, inr, length-append, length-take}
use Rattle.std.proofs.Math.Seq.{take-append-add}
use Rattle.std.proofs.lemmas.Bool.{cases_Bool, cases_lt}
use Rattle.std.proofs.lemmas.Bool.Decides.{nat_tests}
use Rattle.std.proofs.lemmas.List.{drop_more, take_more, take_all, take_at, drop_at, take-take, take-append-drop}
use Rattle.web_opening.specs.Head.{most_bytes, is_done, held_after, TakesAnyCut}

-- a head that is done takes nothing
pub held_after_done : (held bytes : List ℕ) → is_done held ≡ true → held_after held bytes ≡ held
held_after_done held [] done = refl
held_after_done held (b ∷ bytes) done = rw done refl

-- one that is not takes the next byte
pub held_after_step : (bytes : List ℕ) (i : ℕ) → i < length bytes → is_done (take i bytes) ≡ false
    → held_after (take i bytes) (drop i bytes) ≡ held_after (take (i + 1) bytes) (drop (i + 1) bytes)
held_after_step bytes i inside more = rw (drop_more bytes i 0 inside, more, take_more bytes i 0 inside) refl

-- two pieces leave what one leaves
pub held_after-append : (held front back : List ℕ)
    → held_after held (front ++ back) ≡ held_after (held_after held front) back
held_after-append held [] back = refl
held_after-append held (b ∷ front) back =
    elim (cases_Bool (is_done held)) [
      | inl done ↦ rw done (sym (held_after_done held back done))
      | inr more ↦ rw more (held_after-append (held ++ b ∷ []) front back)
    ]

pub takes_any_cut : TakesAnyCut
takes_any_cut held front back = sym (held_after-append held front back)

-- a head of as many bytes as there may be is done
pub full_is_done : (bytes : List ℕ) → most_bytes ≤ length bytes → is_done bytes ≡ true
unfolding is_done
full_is_done bytes full = grind (arith, nat_tests)

-- so many bytes that the head would be longer leave it done
pub held_after_full : (held bytes : List ℕ) → most_bytes ≤ length held + length bytes → is_done (held_after held bytes) ≡ true
held_after_full held [] full = full_is_done held (omega arith)
held_after_full held (b ∷ bytes) full =
    let longer : most_bytes ≤ length (held ++ b ∷ []) + length bytes = omega (arith, length-append held (b ∷ [])) in
    elim (cases_Bool (is_done held)) [
      | inl done ↦ rw done done
      | inr more ↦ rw more (held_after_full (held ++ b ∷ []) bytes longer)
    ]

-- what is behind as many bytes as there may be changes nothing
pub held_after_enough : (held piece : List ℕ) (count : ℕ) → length held ≤ most_bytes → count ≡ min (length piece) (most_bytes - length held)
    → held_after held (take count piece) ≡ held_after held piece
held_after_enough held piece count short count_is =
    elim (cases_lt count (length piece)) [
      | inl cut ↦
          let size : length (take count piece) ≡ count = omega (arith, length-take count piece) in
          let full : most_bytes ≤ length held + length (take count piece) = omega arith in
          let whole : held_after held (take count piece ++ drop count piece) ≡ held_after held piece = rw (take-append-drop count piece) refl in
          sym (held_after_done _ (drop count piece) (held_after_full held (take count piece) full))
          ∙ sym (held_after-append held (take count piece) (drop count piece)) ∙ whole
      | inr all ↦ rw (take_all count piece all) refl
    ]

-- what is held, where the piece's bytes were put behind what was held, and cut where the head ends
pub takes_held : (held piece : List ℕ) (count end : ℕ) → length held ≤ most_bytes → count ≡ min (length piece) (most_bytes - length held)
    → take end (held ++ take count piece)
    ≡ held_after (take (length held) (held ++ take count piece)) (drop (length held) (held ++ take count piece))
    → take end (held ++ take count piece) ≡ held_after held piece
takes_held held piece count end short count_is cut =
    let front : take (length held) (held ++ take count piece) ≡ held = take_at held (take count piece) (length held) refl in
    let back : drop (length held) (held ++ take count piece) ≡ take count piece = drop_at held (take count piece) (length held) refl in
    (rw (front, back) at cut) ∙ held_after_enough held piece count short count_is

-- the bytes of the piece that were taken
pub takes_front : (held piece : List ℕ) (count end : ℕ) → length held ≤ end → end ≤ length (held ++ take count piece)
    → take end (held ++ take count piece) ≡ held ++ take (end - length held) piece
takes_front held piece count end behind within =
    let parts : end ≡ length held + (end - length held) = omega arith in
    let few : end - length held ≤ count = omega (arith, length-append held (take count piece), length-take count piece) in
    let seam = take-append-add held (take count piece) (end - length held) in
    let kept = take-take (end - length held) count piece few in
    rw (← parts, kept) at seam
