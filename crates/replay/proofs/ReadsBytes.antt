-- Bytes and colours are words, and are read back.
use Rattle.std.proofs.Common.{◌≡◌, ℕ, zero, suc, ◌+◌, ◌*◌, ◌/◌, ◌%◌, ◌<◌, Bool, true, false, not, cond, ◌&&◌, eqb, ltb, List, [], ◌∷◌, length, get_or, take, drop, map, refl, sym, ap, ◌∙◌, arith, Some, None, zero-add, bytes_eq, codes}
use Rattle.std.specs.Prelude.{flat_map, replicate, option_map}
use Rattle.std.specs.Char.{digit_value, is_digit}
use Rattle.std.specs.List.{list_all, list_any, range_with_len}
use Rattle.std.proofs.lemmas.Bool.Decides.{nat_tests}
use Rattle.std.proofs.lemmas.List.{same_lists, get_or-map, length-map}
use Rattle.std.proofs.lemmas.List.FromFn.{length-map-range_with_len, get_or-map-range_with_len}
use Rattle.play_script.specs.Words.{value_in, group, hex_bytes, hex_colours}
use Rattle.play_script.specs.Lines.{spread}
use Rattle.play_script.specs.Texts.{hex_word as printed_word}
use Rattle.play_script.proofs.ClaimLemmas.{bytes_are_read_again}
use Rattle.recorder.specs.Words.{hex, hex_digit, hex_word, colour_digits, same_colour, are_one, pixels_word, parts_words}
use Rattle.replay.specs.Said.{AreBytes, said_colours}
use Rattle.replay.proofs.ReadsTests.{both_true, not_empty, equal_from, some_bytes}
use Rattle.replay.proofs.ReadsWords.{IsWord, word_more, word_append}

-- ---- they are words

digit_no : (n : ℕ) → (eqb (hex_digit n) 32 ≡ false) × (eqb (hex_digit n) 10 ≡ false)
digit_no n = (grind (arith, nat_tests), grind (arith, nat_tests))

digit_more : (n : ℕ) (bs : List ℕ) → IsWord bs → IsWord (hex_digit n ∷ bs)
digit_more n bs h = word_more (hex_digit n) bs (digit_no n).0 (digit_no n).1 h

hex_is_word : (bs : List ℕ) → IsWord (hex bs)
hex_is_word [] = refl
hex_is_word (b ∷ bs) = digit_more (b / 16) (hex_digit (b % 16) ∷ hex bs) (digit_more (b % 16) (hex bs) (hex_is_word bs))

hex_some : (b : ℕ) (bs : List ℕ) → hex_word (b ∷ bs) ≡ hex (b ∷ bs)
hex_some b bs = ap (λ (t : Bool). cond t (codes "-") (hex (b ∷ bs))) (some_bytes b bs)

pixels_some : (c : ℕ) (cs : List ℕ) → pixels_word (c ∷ cs) ≡ cond (are_one (c ∷ cs)) (colour_digits c) (flat_map colour_digits (c ∷ cs))
pixels_some c cs = ap (λ (t : Bool). cond t (codes "-") (cond (are_one (c ∷ cs)) (colour_digits c) (flat_map colour_digits (c ∷ cs)))) (some_bytes c cs)

pub bytes_word : (bs : List ℕ) → IsWord (hex_word bs)
bytes_word [] = refl
bytes_word (b ∷ bs) = ap (list_any parts_words) (hex_some b bs) ∙ hex_is_word (b ∷ bs)

colours_word : (cs : List ℕ) → IsWord (flat_map colour_digits cs)
colours_word [] = refl
colours_word (c ∷ cs) = word_append (colour_digits c) (flat_map colour_digits cs) (hex_is_word (c / 0x1_0000 % 256 ∷ c / 256 % 256 ∷ c % 256 ∷ [])) (colours_word cs)

pub pixels_is_word : (cs : List ℕ) → IsWord (pixels_word cs)
pixels_is_word [] = refl
pixels_is_word (c ∷ cs) = ap (list_any parts_words) (pixels_some c cs) ∙ go (are_one (c ∷ cs))
  where
    go : (b : Bool) → IsWord (cond b (colour_digits c) (flat_map colour_digits (c ∷ cs)))
    go true = hex_is_word (c / 0x1_0000 % 256 ∷ c / 256 % 256 ∷ c % 256 ∷ [])
    go false = colours_word (c ∷ cs)

-- ---- bytes

same_word : (bs : List ℕ) → hex_word bs ≡ printed_word bs
same_word [] = refl
same_word (b ∷ bs) = hex_some b bs

pub bytes_are_read : (bs : List ℕ) → AreBytes bs → hex_bytes (hex_word bs) ≡ Some bs
bytes_are_read bs h = ap hex_bytes (same_word bs) ∙ bytes_are_read_again bs h

-- ---- colours

digit_is : (n : ℕ) → n < 16 → digit_value (hex_digit n) ≡ n
digit_is n h = grind (arith, nat_tests)

below_sixteen : (n : ℕ) → n < 16 → ltb n 16 ≡ true
below_sixteen n h = grind (arith, nat_tests)

is_hex : (n : ℕ) → n < 16 → is_digit (hex_digit n) 16 ≡ true
is_hex n h = ap (λ v. ltb v 16) (digit_is n h) ∙ below_sixteen n h

pair_sum : (b : ℕ) → b / 16 * 16 + b % 16 ≡ b
pair_sum b = omega arith

six_sum : (a b c d e f x y z : ℕ) → a * 16 + b ≡ x → c * 16 + d ≡ y → e * 16 + f ≡ z → a * 1048576 + (b * 65536 + (c * 4096 + (d * 256 + (e * 16 + (f * 1 + 0))))) ≡ x * 65536 + (y * 256 + z)
six_sum a b c d e f x y z p q r = omega arith

three_sum : (c : ℕ) → c / 0x1_0000 % 256 * 65536 + (c / 256 % 256 * 256 + c % 256) ≡ c % 0x100_0000
three_sum c = omega arith

colour_value : (c : ℕ) → value_in 16 (colour_digits c) ≡ c % 0x100_0000
colour_value c =
    let x : ℕ = c / 0x1_0000 % 256 in
    let y : ℕ = c / 256 % 256 in
    let z : ℕ = c % 256 in
    let a : digit_value (hex_digit (x / 16)) ≡ x / 16 = digit_is (x / 16) (omega arith) in
    let b : digit_value (hex_digit (x % 16)) ≡ x % 16 = digit_is (x % 16) (omega arith) in
    let d : digit_value (hex_digit (y / 16)) ≡ y / 16 = digit_is (y / 16) (omega arith) in
    let e : digit_value (hex_digit (y % 16)) ≡ y % 16 = digit_is (y % 16) (omega arith) in
    let f : digit_value (hex_digit (z / 16)) ≡ z / 16 = digit_is (z / 16) (omega arith) in
    let g : digit_value (hex_digit (z % 16)) ≡ z % 16 = digit_is (z % 16) (omega arith) in
    rw (a, b, d, e, f, g) (six_sum (x / 16) (x % 16) (y / 16) (y % 16) (z / 16) (z % 16) x y z (pair_sum x) (pair_sum y) (pair_sum z) ∙ three_sum c)

length-colours : (cs : List ℕ) → length (flat_map colour_digits cs) ≡ 6 * length cs
length-colours [] = refl
length-colours (c ∷ cs) = omega (arith, length-colours cs)

colours_digits : (cs : List ℕ) → list_all (λ d. is_digit d 16) (flat_map colour_digits cs) ≡ true
colours_digits [] = refl
colours_digits (c ∷ cs) =
    let x : ℕ = c / 0x1_0000 % 256 in
    let y : ℕ = c / 256 % 256 in
    let z : ℕ = c % 256 in
    let a : is_digit (hex_digit (x / 16)) 16 ≡ true = is_hex (x / 16) (omega arith) in
    let b : is_digit (hex_digit (x % 16)) 16 ≡ true = is_hex (x % 16) (omega arith) in
    let d : is_digit (hex_digit (y / 16)) 16 ≡ true = is_hex (y / 16) (omega arith) in
    let e : is_digit (hex_digit (y % 16)) 16 ≡ true = is_hex (y % 16) (omega arith) in
    let f : is_digit (hex_digit (z / 16)) 16 ≡ true = is_hex (z / 16) (omega arith) in
    let g : is_digit (hex_digit (z % 16)) 16 ≡ true = is_hex (z % 16) (omega arith) in
    rw (a, b, d, e, f, g, colours_digits cs) refl

group_colour : (cs : List ℕ) (k d : ℕ) → k < length cs → group 6 (flat_map colour_digits cs) k ≡ colour_digits (get_or cs k d)
group_colour [] k d h = absurd (omega arith)
group_colour (c ∷ cs) zero d h = refl
group_colour (c ∷ cs) (suc k) d h =
    let next : 6 * suc k ≡ suc (suc (suc (suc (suc (suc (6 * k)))))) = omega arith in
    ap (λ n. take 6 (drop n (flat_map colour_digits (c ∷ cs)))) next ∙ group_colour cs k d (omega arith)

groups_read : (cs : List ℕ) → map (λ n. value_in 16 (group 6 (flat_map colour_digits cs) n)) (range_with_len 0 (length (flat_map colour_digits cs) / 6)) ≡ said_colours cs
groups_read cs =
    let count : length (flat_map colour_digits cs) / 6 ≡ length cs = omega (arith, length-colours cs) in
    let f : ℕ → ℕ = λ n. value_in 16 (group 6 (flat_map colour_digits cs) n) in
    let said : ℕ → ℕ = λ c. c % 0x100_0000 in
    ap (λ n. map f (range_with_len 0 n)) count
    ∙ same_lists (map f (range_with_len 0 (length cs))) (said_colours cs) (length-map-range_with_len f 0 (length cs) ∙ sym (length-map cs said))
    (λ k d l. let small : k < length cs = omega (arith, l, length-map-range_with_len f 0 (length cs)) in
    get_or-map-range_with_len f 0 (length cs) k k d small (zero-add k) ∙ ap (value_in 16) (group_colour cs k d small) ∙ colour_value (get_or cs k d) ∙ sym (get_or-map said cs k d d small))

and_false : (t : Bool) → (t && false) ≡ false
and_false true = refl
and_false false = refl

said_numbers : (t e d m : Bool) (xs ys : List ℕ) → t ≡ false → e ≡ false → d ≡ true → m ≡ true → xs ≡ ys → cond t (Some []) (cond (not e && d && m) (Some xs) None) ≡ Some ys
said_numbers t e d m xs ys p q r s x = rw (p, q, r, s, x) refl

sixes : (n m : ℕ) → n ≡ 6 * m → eqb (n % 6) 0 ≡ true
sixes n m e = let rest : n % 6 ≡ 0 = omega arith in rw rest refl

colours_are_read : (c : ℕ) (cs : List ℕ) → hex_colours (flat_map colour_digits (c ∷ cs)) ≡ Some (said_colours (c ∷ cs))
colours_are_read c cs =
    let w : List ℕ = flat_map colour_digits (c ∷ cs) in
    said_numbers (bytes_eq w (codes "-")) (eqb (length w) 0) (list_all (λ d. is_digit d 16) w) (eqb (length w % 6) 0) _ (said_colours (c ∷ cs))
    (and_false _) (not_empty _ (omega (arith, length-colours (c ∷ cs)))) (colours_digits (c ∷ cs)) (sixes _ (length (c ∷ cs)) (length-colours (c ∷ cs))) (groups_read (c ∷ cs))

all_one : (c : ℕ) (cs : List ℕ) → list_all (λ d. same_colour d c) cs ≡ true → replicate (length cs) (c % 0x100_0000) ≡ said_colours cs
all_one c [] h = refl
all_one c (d ∷ cs) h =
    let e = both_true (same_colour d c) (list_all (λ x. same_colour x c) cs) h in
    ap (λ (x : ℕ). x ∷ replicate (length cs) (c % 0x100_0000)) (sym (equal_from _ _ e.0)) ∙ ap (λ (l : List ℕ). d % 0x100_0000 ∷ l) (all_one c cs e.1)

spread_more : (c : ℕ) (cs : List ℕ) → spread (length (c ∷ cs)) (said_colours (c ∷ cs)) ≡ said_colours (c ∷ cs)
spread_more c [] = refl
spread_more c (d ∷ cs) = refl

-- one colour stands for all where it is all of them
pub pixels_are_read : (cs : List ℕ) (n : ℕ) → length cs ≡ n → option_map (spread n) (hex_colours (pixels_word cs)) ≡ Some (said_colours cs)
pixels_are_read [] n is = refl
pixels_are_read (c ∷ cs) n is =
    ap (λ k. option_map (spread k) (hex_colours (pixels_word (c ∷ cs)))) (sym is)
    ∙ ap (λ w. option_map (spread (length (c ∷ cs))) (hex_colours w)) (pixels_some c cs)
    ∙ go (are_one (c ∷ cs)) refl
  where
    go : (b : Bool) → are_one (c ∷ cs) ≡ b → option_map (spread (length (c ∷ cs))) (hex_colours (cond b (colour_digits c) (flat_map colour_digits (c ∷ cs)))) ≡ Some (said_colours (c ∷ cs))
    go true h = ap (option_map (spread (length (c ∷ cs)))) (colours_are_read c []) ∙ ap Some (all_one c (c ∷ cs) h)
    go false h = ap (option_map (spread (length (c ∷ cs)))) (colours_are_read c cs) ∙ ap Some (spread_more c cs)
