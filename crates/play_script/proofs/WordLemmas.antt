-- Parts, numbers and groups of digits.
use Rattle.std.proofs.Common.{◌≡◌, ℕ, zero, suc, ◌+◌, ◌-◌, ◌*◌, ◌^◌, ◌<◌, ◌≤◌, Bool, true, false, not, cond, ◌&&◌, eqb, ltb, leb, List, [], ◌∷◌, ◌++◌, length, get_or, take, drop, map, refl, sym, ap, ◌∙◌, arith, Some, None, add-one, lit<, lit≤, ◌%◌, zero-add}
use Rattle.std.specs.Char.{digit_value, is_digit}
use Rattle.std.specs.List.{slice_split, onto_first, count_by, position, position_or_len, list_all, range_with_len}
use Rattle.std.proofs.lemmas.Bool.Decides.{nat_tests}
use Rattle.std.proofs.lemmas.List.Splits.{length-slice_split}
use Rattle.std.proofs.lemmas.List.FromFn.{map-range_with_len_more}
use Rattle.std.proofs.lemmas.List.Quantifiers.{position-Some}
use Rattle.std.proofs.lemmas.List.{take_rest, length-append, length-take, take_more}
use Rattle.std.proofs.Math.Nat.{pow-le-pow_right, pow-succ', pow-zero, mul-le-mul_left, mul-le-mul_right}
use Rattle.play_script.specs.Words.{next_part, parts, value_in, are_digits, number_up_to, is_groups, group}

next_part_is : (t : Bool) (b : ℕ) (ps qs : List (List ℕ)) → ps ≡ qs → next_part t b ps ≡ cond t ([] ∷ qs) (onto_first b qs)
next_part_is true b ps qs e = ap (λ r. [] ∷ r) e
next_part_is false b ps qs e = ap (λ r. onto_first b r) e

-- the parts are those that std's `split` gives
pub parts_is : (c : ℕ) (bs : List ℕ) → parts c bs ≡ slice_split (λ b. eqb b c) bs
parts_is c [] = refl
parts_is c (b ∷ bs) = next_part_is (eqb b c) b (parts c bs) (slice_split (λ x. eqb x c) bs) (parts_is c bs)

pub length-parts : (c : ℕ) (bs : List ℕ) → length (parts c bs) ≡ count_by (λ b. eqb b c) bs + 1
length-parts c bs = ap length (parts_is c bs) ∙ length-slice_split (λ b. eqb b c) bs

-- the first part ends at the first separator
parts_found : (c : ℕ) (bs : List ℕ) (end : ℕ) → end < length bs → eqb (get_or bs end 0) c ≡ true → ((k : ℕ) → k < end → eqb (get_or bs k 0) c ≡ false) → parts c bs ≡ take end bs ∷ parts c (drop (suc end) bs)
parts_found c [] end h at before = absurd (omega arith)
parts_found c (b ∷ bs) zero h at before = rw at refl
parts_found c (b ∷ bs) (suc n) h at before =
    let first : eqb b c ≡ false = before 0 (omega arith) in
    let rest : parts c bs ≡ take n bs ∷ parts c (drop (suc n) bs) = parts_found c bs n (omega arith) at (λ k l. before (suc k) (omega arith)) in
    rw (first, rest) refl

not_at_first : (t : Bool) (n m : ℕ) → suc m ≤ cond (not t) (1 + n) 0 → (t ≡ false) × (m ≤ n)
not_at_first true n m h = absurd (omega arith)
not_at_first false n m h = (refl, omega arith)

parts_none : (c : ℕ) (bs : List ℕ) → length bs ≤ position_or_len (λ b. eqb b c) bs → parts c bs ≡ bs ∷ []
parts_none c [] h = refl
parts_none c (b ∷ bs) h =
    let later = not_at_first (eqb b c) (position_or_len (λ x. eqb x c) bs) (length bs) h in
    let rest : parts c bs ≡ bs ∷ [] = parts_none c bs later.1 in
    rw (later.0, rest) refl

past_all : (p n : ℕ) → cond (ltb p n) (Some p) None ≡ None → n ≤ p
past_all p n e = grind (arith, nat_tests)

-- where there is none, there is one part
pub parts_whole : (c : ℕ) (bs : List ℕ) → position (λ b. eqb b c) bs ≡ None → parts c bs ≡ bs ∷ []
parts_whole c bs e = parts_none c bs (past_all _ _ e)

pub parts_at : (c end : ℕ) (bs : List ℕ) → position (λ b. eqb b c) bs ≡ Some end → parts c bs ≡ take end bs ∷ parts c (take (length bs - (end + 1)) (drop (end + 1) bs))
parts_at c end bs e =
    let found = position-Some (λ b. eqb b c) bs end 0 e in
    parts_found c bs end found.0 found.1 found.2 ∙ ap (λ r. take end bs ∷ parts c r) (ap (λ n. drop n bs) (sym (add-one end)) ∙ sym (take_rest bs (end + 1)))

-- Numbers.

same_below : (a b : ℕ) → a ≡ b → a < 67108864 → b < 67108864
same_below a b e h = omega arith

hex_sum : (a v p : ℕ) → a ≤ 15 * p → v < p → a + v < 16 * p
hex_sum a v p h g = omega arith

below_power : (v p : ℕ) → v < p → p ≤ 256 → v < 256
below_power v p h g = omega arith

small : (v p : ℕ) → v ≤ 3 * p → p ≤ 16777216 → v < 67108864
small v p h g = omega arith

add_up : (a b p : ℕ) → a ≤ 36 * p → b ≤ 3 * p → a + b ≤ 3 * (16 * p)
add_up a b p h g = omega arith

sum_le : (a b x y : ℕ) → a ≤ x → b ≤ y → a + b ≤ x + y
sum_le a b x y h g = omega arith

first_digit : (x base : ℕ) → x * base ^ 0 + 0 ≡ base * 0 + x
first_digit x base = rw (pow-zero base) (omega arith)

next_digit : (x y base power value : ℕ) → x * (base * power) + (base * value + y) ≡ base * (x * power + value) + y
next_digit x y base power value = omega arith

power_more : (base n m : ℕ) → m ≡ n + 1 → base ^ m ≡ base * base ^ n
power_more base n m e = ap (λ k. base ^ k) (e ∙ add-one n) ∙ pow-succ' base n

-- one digit more
pub value_in-push : (base : ℕ) (ds : List ℕ) (d : ℕ) → value_in base (ds ++ d ∷ []) ≡ base * value_in base ds + digit_value d
value_in-push base [] d = first_digit (digit_value d) base
value_in-push base (c ∷ ds) d =
    let more : value_in base (ds ++ d ∷ []) ≡ base * value_in base ds + digit_value d = value_in-push base ds d in
    let power : base ^ length (ds ++ d ∷ []) ≡ base * base ^ length ds = power_more base _ _ (length-append ds (d ∷ [])) in
    rw (more, power) (next_digit (digit_value c) (digit_value d) base (base ^ length ds) (value_in base ds))

pub value_in-more : (base : ℕ) (ds : List ℕ) (i : ℕ) → i < length ds → value_in base (take (i + 1) ds) ≡ base * value_in base (take i ds) + digit_value (get_or ds i 0)
value_in-more base ds i h = ap (value_in base) (take_more ds i 0 h) ∙ value_in-push base (take i ds) (get_or ds i 0)

pub value_in_next : (base v d : ℕ) (ds : List ℕ) (i : ℕ) → i < length ds → v ≡ value_in base (take i ds) → d ≡ digit_value (get_or ds i 0) → value_in base (take (i + 1) ds) ≡ base * v + d
value_in_next base v d ds i h e g = rw (e, g) (value_in-more base ds i h)

-- the first digits spell no more than all
pub value_in-take : (base : ℕ) (ds : List ℕ) (i : ℕ) → 1 ≤ base → value_in base (take i ds) ≤ value_in base ds
value_in-take base ds zero h = omega arith
value_in-take base [] (suc i) h = omega arith
value_in-take base (d ∷ ds) (suc i) h =
    let rest : value_in base (take i ds) ≤ value_in base ds = value_in-take base ds i h in
    let shorter : length (take i ds) ≤ length ds = omega (arith, length-take i ds) in
    let power : base ^ length (take i ds) ≤ base ^ length ds = pow-le-pow_right h shorter in
    let first : digit_value d * base ^ length (take i ds) ≤ digit_value d * base ^ length ds = mul-le-mul_left (digit_value d) power in
    sum_le _ _ _ _ first rest

over : (limit a b c : ℕ) → limit < a → b ≡ a → b ≤ c → limit < c
over limit a b c h e g = omega arith

too_large : (limit value : ℕ) (t : Bool) → limit < value → None ≡ cond (t && leb value limit) (Some value) None
too_large limit value true h = grind (arith, nat_tests)
too_large limit value false h = refl

-- Hexadecimal digits.

digit_below : (c : ℕ) → digit_value c ≤ 36
digit_below c = grind (arith, nat_tests)

digit_times : (x power : ℕ) → x ≤ 36 → x * power ≤ 36 * power
digit_times x power h = mul-le-mul_right power h

-- of any bytes
pub value_in_below : (ds : List ℕ) → value_in 16 ds ≤ 3 * 16 ^ length ds
value_in_below [] = omega arith
value_in_below (d ∷ ds) =
    let rest : value_in 16 ds ≤ 3 * 16 ^ length ds = value_in_below ds in
    let first : digit_value d * 16 ^ length ds ≤ 36 * 16 ^ length ds = digit_times (digit_value d) _ (digit_below d) in
    let power : 16 ^ suc (length ds) ≡ 16 * 16 ^ length ds = pow-succ' 16 (length ds) in
    rw power (add_up _ _ (16 ^ length ds) first rest)

pub value_in_fits : (ds : List ℕ) → length ds ≤ 6 → value_in 16 ds < 2 ^ 26
value_in_fits ds h =
    let power : 16 ^ length ds ≤ 16 ^ 6 = pow-le-pow_right (lit< tt) h in
    let below : value_in 16 ds ≤ 3 * 16 ^ length ds = value_in_below ds in
    small _ _ below power

-- a number whose first digits spell more than the limit
pub over_limit : (limit v d : ℕ) (ds : List ℕ) (i : ℕ) → i < length ds → v ≡ value_in 10 (take i ds) → d ≡ digit_value (get_or ds i 0) → limit < 10 * v + d → None ≡ number_up_to limit ds
over_limit limit v d ds i h e g big =
    let more : value_in 10 (take (i + 1) ds) ≡ 10 * v + d = value_in_next 10 v d ds i h e g in
    let less : value_in 10 (take (i + 1) ds) ≤ value_in 10 ds = value_in-take 10 ds (i + 1) (lit≤ tt) in
    too_large limit (value_in 10 ds) (are_digits 10 ds) (over limit _ _ _ big more less)

-- Groups of digits.

hex_below : (v : ℕ) → ltb v 16 ≡ true → v ≤ 15
hex_below v h = grind (arith, nat_tests)

both_true : (a b : Bool) → (a && b) ≡ true → (a ≡ true) × (b ≡ true)
both_true true b h = (refl, h)
both_true false b h = cc

list_all-take : (p : ℕ → Bool) (n : ℕ) (xs : List ℕ) → list_all p xs ≡ true → list_all p (take n xs) ≡ true
list_all-take p zero xs h = refl
list_all-take p (suc n) [] h = refl
list_all-take p (suc n) (x ∷ xs) h =
    let parts_hold = both_true (p x) (list_all p xs) h in
    let rest : list_all p (take n xs) ≡ true = list_all-take p n xs parts_hold.1 in
    rw (parts_hold.0, rest) refl

list_all-drop : (p : ℕ → Bool) (n : ℕ) (xs : List ℕ) → list_all p xs ≡ true → list_all p (drop n xs) ≡ true
list_all-drop p zero xs h = h
list_all-drop p (suc n) [] h = refl
list_all-drop p (suc n) (x ∷ xs) h = list_all-drop p n xs (both_true (p x) (list_all p xs) h).1

hex_step : (d v p : ℕ) → d ≤ 15 → v < p → d * p + v < 16 * p
hex_step d v p h g = hex_sum (d * p) v p (mul-le-mul_right p h) g

value_in_hex : (ds : List ℕ) → list_all (λ d. is_digit d 16) ds ≡ true → value_in 16 ds < 16 ^ length ds
value_in_hex [] h = omega arith
value_in_hex (d ∷ ds) h =
    let hold = both_true (is_digit d 16) (list_all (λ d. is_digit d 16) ds) h in
    let rest : value_in 16 ds < 16 ^ length ds = value_in_hex ds hold.1 in
    rw (pow-succ' 16 (length ds)) (hex_step (digit_value d) _ (16 ^ length ds) (hex_below (digit_value d) hold.0) rest)

pair_fits : (ds : List ℕ) (n : ℕ) → list_all (λ d. is_digit d 16) ds ≡ true → value_in 16 (group 2 ds n) < 256
pair_fits ds n h =
    let digits : list_all (λ d. is_digit d 16) (group 2 ds n) ≡ true = list_all-take (λ d. is_digit d 16) 2 (drop (2 * n) ds) (list_all-drop (λ d. is_digit d 16) (2 * n) ds h) in
    let short : length (group 2 ds n) ≤ 2 = omega (arith, length-take 2 (drop (2 * n) ds)) in
    let power : 16 ^ length (group 2 ds n) ≤ 16 ^ 2 = pow-le-pow_right (lit< tt) short in
    below_power _ _ (value_in_hex (group 2 ds n) digits) power

-- at most six digits so far, and one more
pub digits_fit : (ds : List ℕ) (i v d : ℕ) → length ds ≤ 6 → i < length ds → v ≡ value_in 16 (take i ds) → d ≡ digit_value (get_or ds i 0) → 16 * v + d < 67108864
digits_fit ds i v d short h e g =
    let next : value_in 16 (take (i + 1) ds) ≡ 16 * v + d = value_in_next 16 v d ds i h e g in
    let fits : value_in 16 (take (i + 1) ds) < 67108864 = value_in_fits (take (i + 1) ds) (omega (arith, length-take (i + 1) ds)) in
    same_below _ _ next fits

-- two digits spell a byte
pub byte_fits : (ds : List ℕ) (n v : ℕ) (t : Bool) → t ≡ is_groups 2 ds → t ≡ true → v ≡ value_in 16 (group 2 ds n) → v < 256
byte_fits ds n v t e h g =
    let groups : is_groups 2 ds ≡ true = sym e ∙ h in
    let digits = both_true (are_digits 16 ds) (eqb (length ds % 2) 0) groups in
    let hex = both_true (not (eqb (length ds) 0)) (list_all (λ d. is_digit d 16) ds) digits.0 in
    rw g (pair_fits ds n hex.1)

-- the numbers of so many groups, and of the next
pub groups_more : (size n v : ℕ) (ds xs ys : List ℕ) → xs ≡ map (λ k. value_in 16 (group size ds k)) (range_with_len 0 n) → v ≡ value_in 16 (group size ds n) → ys ≡ xs ++ v ∷ [] → ys ≡ map (λ k. value_in 16 (group size ds k)) (range_with_len 0 (n + 1))
groups_more size n v ds xs ys e g h =
    h ∙ rw (e, g) (sym (map-range_with_len_more (λ k. value_in 16 (group size ds k)) 0 n n (zero-add n)))
