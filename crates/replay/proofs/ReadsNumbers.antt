-- Numbers are words, and are read back.
use Rattle.std.proofs.Common.{◌≡◌, ◌⊎◌, inl, inr, ℕ, suc, ◌+◌, ◌-◌, ◌%◌, ◌^◌, ◌<◌, ◌≤◌, Bool, true, false, not, cond, ◌&&◌, eqb, ltb, leb, List, [], ◌∷◌, ◌++◌, length, refl, sym, ap, ◌∙◌, arith, Option, Some, None, ℤ, bytes_eq, codes}
use Rattle.std.specs.Prelude.{pos, negsuc, neg_ℤ, option_map, FitsSigned}
use Rattle.std.specs.Int.{w32, IsInRange}
use Rattle.std.specs.Char.{digit_value, is_digit}
use Rattle.std.specs.Fmt.{decimal, signed_decimal, digits}
use Rattle.std.specs.List.{list_all}
use Rattle.std.proofs.lemmas.Bool.Decides.{nat_tests}
use Rattle.std.proofs.lemmas.Fmt.{decimal_by_steps, digits_decimal, digits_value-decimal, decimal_nonempty}
use Rattle.std.proofs.lemmas.Slice.Eq.{bytes_eq-Decides}
use Rattle.std.proofs.lemmas.Str.Parse.{digit_from_value, WeighsDigits, IsNumeralModel, IsDigitsTest, numerals_by_weight}
use Rattle.play_script.specs.Words.{value_in, are_digits, number_up_to, number, signed, viewer_number}
use Rattle.replay.specs.Lines.{corner}
use Rattle.replay.proofs.ReadsTests.{both_true, not_empty, within}
use Rattle.replay.proofs.ReadsWords.{IsWord, word_more, word_append}

-- ---- the reader's digits are std's

decimal_digit_value : (c : ℕ) → IsInRange 48 57 c → digit_value c ≡ c - 48
decimal_digit_value c h = grind (arith, nat_tests)

weighs : WeighsDigits (value_in 10)
weighs = record { empty = refl; more = λ c cs h. rw (decimal_digit_value c h) refl }

abbrev AreDecimal : List ℕ → Type 0
AreDecimal ds = list_all (λ d. is_digit d 10) ds ≡ true

below_ten : (v : ℕ) → ltb v 10 ≡ true → v < 10
below_ten v h = grind (arith, nat_tests)

ten_below : (v w : ℕ) → v ≡ w - 48 → w ≤ 57 → ltb v 10 ≡ true
ten_below v w e h = grind (arith, nat_tests)

tells : IsDigitsTest AreDecimal
tells = record {
  empty = refl;
  parts = λ c cs h. let hold = both_true (is_digit c 10) (list_all (λ d. is_digit d 10) cs) h in (digit_from_value c (below_ten (digit_value c) hold.0), hold.1);
  more = λ c cs h g. let first : is_digit c 10 ≡ true = ten_below (digit_value c) c (decimal_digit_value c h) h.1 in rw (first, g) refl;
}

own : IsNumeralModel AreDecimal (value_in 10)
own = numerals_by_weight AreDecimal tells (value_in 10) weighs

said_number : (e d l : Bool) (value n : ℕ) → e ≡ false → d ≡ true → l ≡ true → value ≡ n → cond (not e && d && l) (Some value) None ≡ Some n
said_number e d l value n p q r s = rw (p, q, r, s) refl

up_to_is_read : (limit n : ℕ) → n ≤ limit → n < 2 ^ 64 → number_up_to limit (decimal n) ≡ Some n
up_to_is_read limit n below h =
    let value : value_in 10 (decimal n) ≡ n = digits_value-decimal own n h in
    said_number (eqb (length (decimal n)) 0) (list_all (λ d. is_digit d 10) (decimal n)) (leb (value_in 10 (decimal n)) limit) (value_in 10 (decimal n)) n
    (not_empty _ (decimal_nonempty n h)) (digits_decimal own n h) (within _ _ (omega (arith, value))) value

above : (n limit : ℕ) → limit < n → leb n limit ≡ false
above n limit h = grind (arith, nat_tests)

said_none : (d l : Bool) (value : ℕ) → l ≡ false → cond (d && l) (Some value) None ≡ None
said_none true l value e = rw e refl
said_none false l value e = refl

-- and one above the limit isn't
up_to_is_none : (limit n : ℕ) → limit < n → n < 2 ^ 64 → number_up_to limit (decimal n) ≡ None
up_to_is_none limit n below h =
    let value : value_in 10 (decimal n) ≡ n = digits_value-decimal own n h in
    said_none (are_digits 10 (decimal n)) (leb (value_in 10 (decimal n)) limit) (value_in 10 (decimal n)) (above _ _ (omega (arith, value)))

pub number_is_read : (n : ℕ) → n < 2 ^ 31 → number (decimal n) ≡ Some n
number_is_read n h = up_to_is_read 0x7fff_ffff n (omega arith) (omega arith)

pub viewer_is_read : (n : ℕ) → n < 2 ^ 64 → viewer_number (decimal n) ≡ Some n
viewer_is_read n h = up_to_is_read 0xffff_ffff_ffff_ffff n (omega arith) h

-- ---- they are words

digit_is_word : (n : ℕ) → n < 10 → IsWord ((48 + n) ∷ [])
digit_is_word n h = word_more (48 + n) [] (grind (arith, nat_tests)) (grind (arith, nat_tests)) refl

pub decimal_is_word : (n : ℕ) → n < 2 ^ 64 → IsWord (decimal n)
decimal_is_word n h = decimal_by_steps (λ k ds. IsWord ds) digit_is_word (λ k ds l w. word_append ds ((48 + k % 10) ∷ []) w (digit_is_word (k % 10) (omega arith))) n h

pub signed_is_word : (z : ℤ) → FitsSigned w32 z → IsWord (signed_decimal z)
signed_is_word (pos n) h = decimal_is_word n (omega (arith, h.sfits))
signed_is_word (negsuc n) h = word_more 45 (decimal (suc n)) refl refl (decimal_is_word (suc n) (omega (arith, h.sfits)))

-- ---- signed ones

first_digit : (n : ℕ) → n < 10 → eqb (48 + n) 45 ≡ false
first_digit n h = grind (arith, nat_tests)

-- digits that don't begin with `-`
abbrev StartsPlain : List ℕ → Type 0
StartsPlain [] = ⊥
StartsPlain (b ∷ bs) = eqb b 45 ≡ false

starts-append : (ds es : List ℕ) → StartsPlain ds → StartsPlain (ds ++ es)
starts-append [] es h = absurd h
starts-append (b ∷ bs) es h = h

decimal_starts : (n : ℕ) → n < 2 ^ 64 → StartsPlain (decimal n)
decimal_starts n h = decimal_by_steps (λ k ds. StartsPlain ds) first_digit (λ k ds l s. starts-append ds ((48 + k % 10) ∷ []) s) n h

signed_plain : (w : List ℕ) → StartsPlain w → signed w ≡ option_map (λ n. pos n) (number w)
signed_plain [] h = absurd h
signed_plain (b ∷ bs) h = rw h refl

-- read as it is, or not at all
abbrev pub AtMost : {X : Type 0} → Option X → X → Type 0
AtMost o x = (o ≡ Some x) ⊎ (o ≡ None)

abbrev least : ℤ
least = neg_ℤ (pos (2 ^ 31))

least_word : signed_decimal least ≡ codes "-2147483648"
unfolding digits
least_word = refl

-- all but the least
signed_is_read : (z : ℤ) → FitsSigned w32 z → (signed (signed_decimal z) ≡ Some z) ⊎ (z ≡ least)
signed_is_read (pos n) h = inl (signed_plain (decimal n) (decimal_starts n (omega (arith, h.sfits))) ∙ ap (option_map (λ k. pos k)) (number_is_read n (omega (arith, h.sfits))))
signed_is_read (negsuc n) h = go (leb (2 ^ 31) (suc n)) refl
  where
    go : (b : Bool) → leb (2 ^ 31) (suc n) ≡ b → (signed (signed_decimal (negsuc n)) ≡ Some (negsuc n)) ⊎ (negsuc n ≡ least)
    go true e = inr (ap negsuc (let is : n ≡ 0x7fff_ffff = grind (arith, nat_tests, h.sfits) in is))
    go false e = inl (ap (option_map (λ k. neg_ℤ (pos k))) (number_is_read (suc n) (let is : suc n < 2 ^ 31 = grind (arith, nat_tests) in is)))

pub signed_at_most : (z : ℤ) → FitsSigned w32 z → AtMost (signed (signed_decimal z)) z
signed_at_most z h = go (signed_is_read z h)
  where
    go : (signed (signed_decimal z) ≡ Some z) ⊎ (z ≡ least) → AtMost (signed (signed_decimal z)) z
    go (inl e) = inl e
    go (inr e) = inr (ap (λ y. signed (signed_decimal y)) e ∙ ap signed least_word)

corner_plain : (w : List ℕ) (z : ℤ) (b : Bool) → bytes_eq w (codes "-2147483648") ≡ b → signed w ≡ Some z → cond b (Some least) (signed w) ≡ Some z
corner_plain w z true e h =
    let is : w ≡ codes "-2147483648" = (bytes_eq-Decides w (codes "-2147483648")).0 e in
    absurd (let clash : None ≡ Some z = sym (ap signed is) ∙ h in cc)
corner_plain w z false e h = h

pub corner_is_read : (z : ℤ) → FitsSigned w32 z → corner (signed_decimal z) ≡ Some z
corner_is_read z h = go (signed_is_read z h)
  where
    go : (signed (signed_decimal z) ≡ Some z) ⊎ (z ≡ least) → corner (signed_decimal z) ≡ Some z
    go (inl e) = corner_plain (signed_decimal z) z (bytes_eq (signed_decimal z) (codes "-2147483648")) refl e
    go (inr e) = ap (λ y. corner (signed_decimal y)) e ∙ ap corner least_word ∙ ap Some (sym e)
