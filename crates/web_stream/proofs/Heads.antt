-- What a browser reads of the heads and the control frames that a server writes.
use Rattle.std.proofs.Common.{◌≡◌, ℕ, zero, suc, ◌+◌, ◌-◌, ◌^◌, ◌<◌, ◌≤◌, ◌≢◌, ◌%◌, Bool, true, false, cond, ◌&&◌, eqb, ltb, leb, List, [], ◌∷◌, ◌++◌, length, refl, sym, ap, ◌∙◌, append_assoc, ne_eqb, arith}
use Rattle.std.proofs.lemmas.Bool.{le-leb, lt-leb, ltb-true, cond-true}
use Rattle.std.proofs.lemmas.List.{length-append}
use Rattle.std.proofs.lemmas.Nat.{from_be_bytes-to_be_bytes_2, from_be_bytes-to_be_bytes_8}
use Rattle.std.specs.Int.{w16, w64, to_be_bytes}
use Rattle.web_stream.specs.Frames.{is_control, extended_size, control_size, kept_size, short_size, long_size, payload_size}
use Rattle.web_stream.specs.Answers.{data_head, IsControlFrame}
use Rattle.web_stream.specs.Writing.{Writing, before, size_behind, is_whole, behind_head, placed_in, carried_in, placed, carried}

-- ---- payload

pub placed_append : (w : Writing) (xs ys : List ℕ) → placed w (xs ++ ys) ≡ placed (placed w xs) ys
placed_append w [] ys = refl
placed_append w (x ∷ xs) ys = placed_append (placed_in w.left w.head x) xs ys

pub carried_append : (w : Writing) (xs ys : List ℕ) → carried w (xs ++ ys) ≡ carried w xs ++ carried (placed w xs) ys
carried_append w [] ys = refl
carried_append w (x ∷ xs) ys =
    let next : Writing = placed_in w.left w.head x in
    ap (λ (l : List ℕ). carried_in w.left x ++ l) (carried_append next xs ys)
    ∙ sym (append_assoc (carried_in w.left x) (carried next xs) (carried (placed next xs) ys))

pub placed_payload : (bs : List ℕ) (left : ℕ) → length bs ≤ left → placed (before left) bs ≡ before (left - length bs)
placed_payload [] left h = let e : left ≡ left - 0 = omega arith in ap before e
placed_payload (b ∷ bs) zero h = absurd (omega arith)
placed_payload (b ∷ bs) (suc left) h =
    let e : left - length bs ≡ suc left - length (b ∷ bs) = omega arith in placed_payload bs left (omega arith) ∙ ap before e

pub carried_payload : (bs : List ℕ) (left : ℕ) → length bs ≤ left → carried (before left) bs ≡ bs
carried_payload [] left h = refl
carried_payload (b ∷ bs) zero h = absurd (omega arith)
carried_payload (b ∷ bs) (suc left) h = ap (λ (l : List ℕ). b ∷ l) (carried_payload bs left (omega arith))

-- ---- bytes of a head or a control frame

both : (a b c : Bool) → a ≡ true → b ≡ c → (a && b) ≡ c
both a b c e h = ap (λ (t : Bool). t && b) e ∙ h

whole : (b c : ℕ) (r : List ℕ) → kept_size 0 b c ≤ 2 + length r → behind_head (b ∷ c ∷ r) ≡ before (size_behind (b ∷ c ∷ r))
whole b c r h =
    let long : kept_size 0 b c ≤ length (b ∷ c ∷ r) = omega arith in
    let two : 2 ≤ length (b ∷ c ∷ r) = omega arith in
    cond-true (is_whole (b ∷ c ∷ r)) (before (size_behind (b ∷ c ∷ r))) (record { head = b ∷ c ∷ r; left = 0 })
    (both (leb 2 (length (b ∷ c ∷ r))) (leb (kept_size 0 b c) (length (b ∷ c ∷ r))) true (le-leb 2 (length (b ∷ c ∷ r)) two)
    (le-leb (kept_size 0 b c) (length (b ∷ c ∷ r)) long))

cut : (b c : ℕ) (r : List ℕ) → 2 + length r < kept_size 0 b c → behind_head (b ∷ c ∷ r) ≡ record { head = b ∷ c ∷ r; left = 0 }
cut b c r h =
    let short : length (b ∷ c ∷ r) < kept_size 0 b c = omega arith in
    let two : 2 ≤ length (b ∷ c ∷ r) = omega arith in
    ap (λ (t : Bool). cond t (before (size_behind (b ∷ c ∷ r))) (record { head = b ∷ c ∷ r; left = 0 }))
    (both (leb 2 (length (b ∷ c ∷ r))) (leb (kept_size 0 b c) (length (b ∷ c ∷ r))) false (le-leb 2 (length (b ∷ c ∷ r)) two)
    (lt-leb (kept_size 0 b c) (length (b ∷ c ∷ r)) short))

-- further bytes, the last of which ends it
placed_rest : (b c : ℕ) (r : List ℕ) (x : ℕ) (bs : List ℕ) → 2 + length r + length (x ∷ bs) ≡ kept_size 0 b c
    → placed (record { head = b ∷ c ∷ r; left = 0 }) (x ∷ bs) ≡ before (size_behind (b ∷ c ∷ (r ++ x ∷ bs)))
placed_rest b c r x [] h = whole b c (r ++ x ∷ []) (omega (arith, length-append r (x ∷ [])))
placed_rest b c r x (y ∷ bs) h =
    ap (λ (w : Writing). placed w (y ∷ bs)) (cut b c (r ++ x ∷ []) (omega (arith, length-append r (x ∷ []))))
    ∙ placed_rest b c (r ++ x ∷ []) y bs (omega (arith, length-append r (x ∷ [])))
    ∙ ap (λ (l : List ℕ). before (size_behind (b ∷ c ∷ l))) (append_assoc r (x ∷ []) (y ∷ bs))

carried_rest : (b c : ℕ) (r : List ℕ) (x : ℕ) (bs : List ℕ) → 2 + length r + length (x ∷ bs) ≡ kept_size 0 b c
    → carried (record { head = b ∷ c ∷ r; left = 0 }) (x ∷ bs) ≡ []
carried_rest b c r x [] h = refl
carried_rest b c r x (y ∷ bs) h =
    ap (λ (w : Writing). carried w (y ∷ bs)) (cut b c (r ++ x ∷ []) (omega (arith, length-append r (x ∷ []))))
    ∙ carried_rest b c (r ++ x ∷ []) y bs (omega (arith, length-append r (x ∷ [])))

-- all of its bytes
pub placed_own : (b c : ℕ) (bs : List ℕ) → 2 + length bs ≡ kept_size 0 b c
    → placed (before 0) (b ∷ c ∷ bs) ≡ before (size_behind (b ∷ c ∷ bs))
placed_own b c [] h = whole b c [] (omega arith)
placed_own b c (x ∷ bs) h =
    ap (λ (w : Writing). placed w (x ∷ bs)) (cut b c [] (omega arith)) ∙ placed_rest b c [] x bs (omega arith)

pub carried_own : (b c : ℕ) (bs : List ℕ) → 2 + length bs ≡ kept_size 0 b c → carried (before 0) (b ∷ c ∷ bs) ≡ []
carried_own b c [] h = refl
carried_own b c (x ∷ bs) h =
    ap (λ (w : Writing). carried w (x ∷ bs)) (cut b c [] (omega arith)) ∙ carried_rest b c [] x bs (omega arith)

-- ---- the frames that this server writes

-- bytes behind which so much payload comes, and which carry none
pub record Begins (bs : List ℕ) (left : ℕ) : Type 0 where
  pub place : placed (before 0) bs ≡ before left
  pub none : carried (before 0) bs ≡ []

-- no extended length follows a length below 126
not_126 : (n : ℕ) → n < 126 → eqb (n % 128) 126 ≡ false
not_126 n h = let ne : n % 128 ≢ 126 = omega arith in ne_eqb (n % 128) 126 ne

not_127 : (n : ℕ) → n < 126 → eqb (n % 128) 127 ≡ false
not_127 n h = let ne : n % 128 ≢ 127 = omega arith in ne_eqb (n % 128) 127 ne

no_extension : (n : ℕ) → n < 126 → extended_size n ≡ 0
no_extension n h =
    ap (λ (t : Bool). cond t 2 (cond (eqb (n % 128) 127) 8 0)) (not_126 n h) ∙ ap (λ (t : Bool). cond t 8 0) (not_127 n h)

control_length : (first : ℕ) (payload : List ℕ) → is_control first ≡ true → length payload ≤ 125
    → 2 + length payload ≡ kept_size 0 first (length payload)
control_length first payload control few =
    let n : ℕ = length payload in
    let low : n % 128 ≡ n = omega arith in
    let none : extended_size n ≡ 0 = no_extension n (omega arith) in
    let all : control_size first n ≡ n % 128 = cond-true (is_control first) (n % 128) 0 control in
    sym (ap (λ (k : ℕ). 2 + k + control_size first n) none ∙ ap (λ (k : ℕ). 2 + 0 + k) (all ∙ low))

control_none : (first : ℕ) (bs : List ℕ) → is_control first ≡ true → size_behind (first ∷ bs) ≡ 0
control_none first bs control = cond-true (is_control first) 0 (payload_size (first ∷ bs)) control

pub control_begins : (bs : List ℕ) → IsControlFrame bs → Begins bs 0
control_begins bs h =
    let long = control_length h.first h.payload h.control h.few in
    record {
      place =
          ap (placed (before 0)) h.spelled ∙ placed_own h.first (length h.payload) h.payload long
          ∙ ap before (control_none h.first (length h.payload ∷ h.payload) h.control);
      none = ap (carried (before 0)) h.spelled ∙ carried_own h.first (length h.payload) h.payload long;
    }

small_length : (n : ℕ) → n < 126 → 2 ≡ kept_size 0 130 n
small_length n h = sym (ap (λ (k : ℕ). 2 + k + 0) (no_extension n h))

small_size : (n : ℕ) → n < 126 → size_behind (130 ∷ n ∷ []) ≡ n
small_size n h =
    let low : n % 128 ≡ n = omega arith in
    ap (λ (t : Bool). cond t (short_size (130 ∷ n ∷ [])) (cond (eqb (n % 128) 127) (long_size (130 ∷ n ∷ [])) (n % 128))) (not_126 n h)
    ∙ ap (λ (t : Bool). cond t (long_size (130 ∷ n ∷ [])) (n % 128)) (not_127 n h)
    ∙ low

small_begins : (n : ℕ) → n < 126 → Begins (130 ∷ n ∷ []) n
small_begins n h = record {
  place = placed_own 130 n [] (small_length n h) ∙ ap before (small_size n h);
  none = carried_own 130 n [] (small_length n h);
}

short_begins : (n : ℕ) → n < 2 ^ 16 → Begins (130 ∷ 126 ∷ to_be_bytes w16 n) n
short_begins n h = record {
  place = placed_own 130 126 (to_be_bytes w16 n) refl ∙ ap before (from_be_bytes-to_be_bytes_2 n h);
  none = carried_own 130 126 (to_be_bytes w16 n) refl;
}

long_begins : (n : ℕ) → n < 2 ^ 64 → Begins (130 ∷ 127 ∷ to_be_bytes w64 n) n
long_begins n h = record {
  place = placed_own 130 127 (to_be_bytes w64 n) refl ∙ ap before (from_be_bytes-to_be_bytes_8 n h);
  none = carried_own 130 127 (to_be_bytes w64 n) refl;
}

by_sizes : (n : ℕ) (is_small is_short : Bool) → ltb n 126 ≡ is_small → ltb n 65536 ≡ is_short → n < 2 ^ 64
    → Begins (cond is_small (130 ∷ n ∷ []) (cond is_short (130 ∷ 126 ∷ to_be_bytes w16 n) (130 ∷ 127 ∷ to_be_bytes w64 n))) n
by_sizes n true is_short small short fits = small_begins n (ltb-true n 126 small)
by_sizes n false true small short fits = short_begins n (ltb-true n 65536 short)
by_sizes n false false small short fits = long_begins n fits

pub data_begins : (n : ℕ) → n < 2 ^ 64 → Begins (data_head n) n
data_begins n fits = by_sizes n (ltb n 126) (ltb n 65536) refl refl fits
