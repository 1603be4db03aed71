-- What is printed, read again.
use Rattle.std.proofs.Common.{◌≡◌, ℕ, zero, suc, ◌+◌, ◌-◌, ◌*◌, ◌/◌, ◌%◌, ◌^◌, ◌<◌, ◌≤◌, Bool, true, false, not, cond, ◌&&◌, eqb, ltb, leb, List, [], ◌∷◌, ◌++◌, length, get_or, take, drop, map, refl, ap, ◌∙◌, arith, Option, Some, None, zero-add, bytes_eq, codes}
use Rattle.std.specs.Char.{digit_value, is_digit}
use Rattle.std.specs.Fmt.{decimal}
use Rattle.std.specs.Int.{IsInRange}
use Rattle.std.specs.List.{list_all, range_with_len, AllByRecursion}
use Rattle.std.proofs.lemmas.Bool.Decides.{nat_tests}
use Rattle.std.proofs.lemmas.Str.Parse.{digit_from_value, WeighsDigits, IsNumeralModel, IsDigitsTest, numerals_by_weight}
use Rattle.std.proofs.lemmas.Fmt.{digits_decimal, digits_value-decimal, decimal_nonempty}
use Rattle.play_script.specs.Words.{value_in, group, hex_bytes, viewer_number}
use Rattle.screen.specs.declared.Config.{Config}
use Rattle.screen.specs.declared.Event.{Event}
use Rattle.screen.specs.declared.ScreenError.{ScreenError}
use Rattle.screen.specs.Alone.{config_refusal}
use Rattle.screen.specs.Answers.{answer_to, answers, answers_after}
use Rattle.play_script.specs.declared.lines.Line.{Line}
use Rattle.play_script.specs.declared.lines.Line.TheVariants.{Start, Do}
use Rattle.play_script.specs.Texts.{hex, hex_word, hex_digit, ok, text_of}
use Rattle.play_script.specs.Transcript.{on, started, Outcome, with_text, outcome_from}
use Rattle.play_script.specs.Claims.{texts_of}
use Rattle.std.proofs.lemmas.List.{same_lists}
use Rattle.std.proofs.lemmas.List.FromFn.{length-map-range_with_len, get_or-map-range_with_len}

decimal_digit_value : (c : ℕ) → IsInRange 48 57 c → digit_value c ≡ c - 48
decimal_digit_value c h = grind (arith, nat_tests)

weighs : WeighsDigits (value_in 10)
weighs = record { empty = refl; more = λ c cs h. rw (decimal_digit_value c h) refl }

abbrev AreDecimal : List ℕ → Type 0
AreDecimal ds = list_all (λ d. is_digit d 10) ds ≡ true

below_ten : (v : ℕ) → ltb v 10 ≡ true → v < 10
below_ten v h = grind (arith, nat_tests)

ten_below : (v w : ℕ) → v ≡ w - 48 → w ≤ 57 → ltb v 10 ≡ true
ten_below v w e h = grind (arith, nat_tests)

both_true : (a b : Bool) → (a && b) ≡ true → (a ≡ true) × (b ≡ true)
both_true true b h = (refl, h)
both_true false b h = cc

tells : IsDigitsTest AreDecimal
tells = record {
  empty = refl;
  parts = λ c cs h. let hold = both_true (is_digit c 10) (list_all (λ d. is_digit d 10) cs) h in (digit_from_value c (below_ten (digit_value c) hold.0), hold.1);
  more = λ c cs h g. let first : is_digit c 10 ≡ true = ten_below (digit_value c) c (decimal_digit_value c h) h.1 in rw (first, g) refl;
}

own : IsNumeralModel AreDecimal (value_in 10)
own = numerals_by_weight AreDecimal tells (value_in 10) weighs

not_empty : (n : ℕ) → 0 < n → eqb n 0 ≡ false
not_empty n h = grind (arith, nat_tests)

within : (n limit : ℕ) → n ≤ limit → leb n limit ≡ true
within n limit h = grind (arith, nat_tests)

said_number : (e d l : Bool) (value n : ℕ) → e ≡ false → d ≡ true → l ≡ true → value ≡ n → cond (not e && d && l) (Some value) None ≡ Some n
said_number e d l value n p q r s = rw (p, q, r, s) refl

pub viewer_is_read : (n : ℕ) → n < 2 ^ 64 → viewer_number (decimal n) ≡ Some n
viewer_is_read n h =
    let value : value_in 10 (decimal n) ≡ n = digits_value-decimal own n h in
    said_number (eqb (length (decimal n)) 0) (list_all (λ d. is_digit d 10) (decimal n)) (leb (value_in 10 (decimal n)) 0xffff_ffff_ffff_ffff) (value_in 10 (decimal n)) n
    (not_empty _ (decimal_nonempty n h)) (digits_decimal own n h) (within _ _ (omega (arith, value))) value

-- Bytes.

digit_is : (n : ℕ) → n < 16 → digit_value (hex_digit n) ≡ n
digit_is n h = grind (arith, nat_tests)

pair_value : (b : ℕ) → b < 256 → value_in 16 (hex_digit (b / 16) ∷ hex_digit (b % 16) ∷ []) ≡ b
pair_value b h = rw (digit_is (b / 16) (omega arith), digit_is (b % 16) (omega arith)) (omega arith)

length-hex : (bs : List ℕ) → length (hex bs) ≡ 2 * length bs
length-hex [] = refl
length-hex (b ∷ bs) = omega (arith, length-hex bs)

below_sixteen : (n : ℕ) → n < 16 → ltb n 16 ≡ true
below_sixteen n h = grind (arith, nat_tests)

is_hex_digit : (n : ℕ) → n < 16 → is_digit (hex_digit n) 16 ≡ true
is_hex_digit n h = ap (λ v. ltb v 16) (digit_is n h) ∙ below_sixteen n h

hex_digits : (bs : List ℕ) → AllByRecursion (λ b. b < 256) bs → list_all (λ d. is_digit d 16) (hex bs) ≡ true
hex_digits [] h = refl
hex_digits (b ∷ bs) h =
    let small : b < 256 = h.0 in
    let high : is_digit (hex_digit (b / 16)) 16 ≡ true = is_hex_digit (b / 16) (omega arith) in
    let low : is_digit (hex_digit (b % 16)) 16 ≡ true = is_hex_digit (b % 16) (omega arith) in
    rw (high, low, hex_digits bs h.1) refl

group_hex : (bs : List ℕ) (k d : ℕ) → k < length bs → group 2 (hex bs) k ≡ hex_digit (get_or bs k d / 16) ∷ hex_digit (get_or bs k d % 16) ∷ []
group_hex [] k d h = absurd (omega arith)
group_hex (b ∷ bs) zero d h = refl
group_hex (b ∷ bs) (suc k) d h =
    let next : 2 * suc k ≡ suc (suc (2 * k)) = omega arith in
    ap (λ n. take 2 (drop n (hex (b ∷ bs)))) next ∙ group_hex bs k d (omega arith)

item_below : (bs : List ℕ) (k d : ℕ) → AllByRecursion (λ b. b < 256) bs → k < length bs → get_or bs k d < 256
item_below [] k d h l = absurd (omega arith)
item_below (b ∷ bs) zero d h l = h.0
item_below (b ∷ bs) (suc k) d h l = item_below bs k d h.1 (omega arith)

groups_read : (bs : List ℕ) → AllByRecursion (λ b. b < 256) bs → map (λ n. value_in 16 (group 2 (hex bs) n)) (range_with_len 0 (length (hex bs) / 2)) ≡ bs
groups_read bs h =
    let count : length (hex bs) / 2 ≡ length bs = omega (arith, length-hex bs) in
    let f : ℕ → ℕ = λ n. value_in 16 (group 2 (hex bs) n) in
    ap (λ n. map f (range_with_len 0 n)) count
    ∙ same_lists (map f (range_with_len 0 (length bs))) bs (length-map-range_with_len f 0 (length bs))
    (λ k d l. let small : k < length bs = omega (arith, l, length-map-range_with_len f 0 (length bs)) in
    get_or-map-range_with_len f 0 (length bs) k k d small (zero-add k) ∙ ap (value_in 16) (group_hex bs k d small) ∙ pair_value (get_or bs k d) (item_below bs k d h small))

and_false : (t : Bool) → (t && false) ≡ false
and_false true = refl
and_false false = refl

said_numbers : (t e d m : Bool) (xs ys : List ℕ) → t ≡ false → e ≡ false → d ≡ true → m ≡ true → xs ≡ ys → cond t (Some []) (cond (not e && d && m) (Some xs) None) ≡ Some ys
said_numbers t e d m xs ys p q r s x = rw (p, q, r, s, x) refl

even : (n m : ℕ) → n ≡ 2 * m → eqb (n % 2) 0 ≡ true
even n m e = let rest : n % 2 ≡ 0 = omega arith in rw rest refl

pub bytes_are_read_again : (bs : List ℕ) → AllByRecursion (λ b. b < 256) bs → hex_bytes (hex_word bs) ≡ Some bs
bytes_are_read_again [] h = refl
bytes_are_read_again (b ∷ bs) h =
    said_numbers (bytes_eq (hex (b ∷ bs)) (codes "-")) (eqb (length (hex (b ∷ bs))) 0) (list_all (λ d. is_digit d 16) (hex (b ∷ bs))) (eqb (length (hex (b ∷ bs)) % 2) 0) _ (b ∷ bs)
    (and_false _) (not_empty _ (omega arith)) (hex_digits (b ∷ bs) h) (even _ (length (b ∷ bs)) (length-hex (b ∷ bs))) (groups_read (b ∷ bs) h)

-- Events.

abbrev done_with : List ℕ → Outcome
done_with text = record { text = text; status = 0 }

answered_after : (n : ℕ) (c : Config) (before es : List Event) → outcome_from n (on (Some (record { config = c; events = before }))) (map (λ e. Do e) es) ≡ done_with (texts_of es (answers_after c before es))
answered_after n c before [] = refl
answered_after n c before (e ∷ es) = ap (λ o. with_text (text_of e (answer_to c before e)) o) (answered_after (n + 1) c (before ++ e ∷ []) es)

started_with : (n : ℕ) (c : Config) (lines : List Line) (r : Option ScreenError) → r ≡ None → with_text (started c r).text (outcome_from n (started c r).next lines) ≡ with_text ok (outcome_from n (on (Some (record { config = c; events = [] }))) lines)
started_with n c lines None e = refl
started_with n c lines (Some x) e = cc

pub events_answered : (n : ℕ) (c : Config) (es : List Event) → config_refusal c ≡ None → outcome_from n (on None) (Start c ∷ map (λ e. Do e) es) ≡ record { text = ok ++ texts_of es (answers c es); status = 0 }
events_answered n c es e = started_with (n + 1) c (map (λ x. Do x) es) (config_refusal c) e ∙ ap (λ o. with_text ok o) (answered_after (n + 1) c [] es)
