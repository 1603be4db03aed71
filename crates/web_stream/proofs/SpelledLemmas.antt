-- A data frame that a client sends is read as its payload, and a ping is answered.
use Rattle.std.proofs.Common.{◌≡◌, ℕ, suc, ◌+◌, ◌%◌, ◌^◌, ◌<◌, ◌≤◌, ◌≢◌, Bool, true, false, cond, not, ◌||◌, eqb, ltb, leb, List, [], ◌∷◌, ◌++◌, length, get_or, bit_xor, Option, None, Some, refl, sym, ap, subst, ◌∙◌, append_assoc, ne_eqb, le-ltb, lt-ltb, ltb-true, ltb-false, le_refl, arith}
use lib.Bits.{xor_assoc, xor_self, xor_zero_r}
use Rattle.std.proofs.lemmas.Bool.{lt-leb}
use Rattle.std.proofs.lemmas.List.{length-append}
use Rattle.std.proofs.lemmas.Nat.{from_be_bytes-to_be_bytes_2, from_be_bytes-to_be_bytes_8}
use Rattle.std.specs.Int.{w16, w64, to_be_bytes}
use Rattle.web_stream.specs.declared.fault.WebFault.{WebFault}
use Rattle.web_stream.specs.declared.fault.WebFault.TheVariants.{Reserved, Unmasked, Control, Length}
use Rattle.web_stream.specs.Answers.{control_frame}
use Rattle.web_stream.specs.Frames.{is_control, control_size, kept_size, key_at, short_size, long_size}
use Rattle.web_stream.specs.Faults.{is_reserved, control_fault, data_fault, head_fault}
use Rattle.web_stream.specs.Next.{Asked, more, payload, ping, fault, unmasked, next_of, next_of_whole, next_of_control, next_of_data}
use Rattle.web_stream.specs.Reading.{Reading, step, given, with_kept, settled, faulty, after, payloads}
use Rattle.web_stream.specs.Spelled.{IsBetween, ReadsFrames, AnswersPings, client_frame}
use Rattle.web_stream.proofs.ReadingLemmas.{payloads_append, after_append, open_gives, open_steps}
use Rattle.web_stream.proofs.NextLemmas.{short_asks, sound_asks}

-- ---- payload

unmasked_twice : (b k : ℕ) → bit_xor (bit_xor b k) k ≡ b
unmasked_twice b k = rw (xor_assoc, xor_self, xor_zero_r) refl

-- the first of these bytes is byte s.come of the payload
mask_gives : (s : Reading) (bs : List ℕ) → s.over ≡ None → s.come + length bs ≡ s.size → payloads s (unmasked s.key s.come bs) ≡ bs
mask_gives s [] over fits = refl
mask_gives s (b ∷ bs) over fits =
    let k : ℕ = get_or s.key (s.come % 4) 0 in
    let here : s.come < s.size = omega arith in
    let new : Reading = record s { come = s.come + 1 } in
    let gives : given s (bit_xor b k) ≡ b ∷ [] =
    open_gives s (bit_xor b k) over ∙ ap (λ (t : Bool). cond t (bit_xor (bit_xor b k) k ∷ []) []) (lt-ltb s.come s.size here)
    ∙ ap (λ (x : ℕ). x ∷ []) (unmasked_twice b k) in
    let steps : step s (bit_xor b k) ≡ new =
    open_steps s (bit_xor b k) over ∙ ap (λ (t : Bool). cond t new (with_kept s (bit_xor b k))) (lt-ltb s.come s.size here) in
    ap (λ (l : List ℕ). l ++ payloads (step s (bit_xor b k)) (unmasked s.key (s.come + 1) bs)) gives
    ∙ ap (λ (r : Reading). b ∷ payloads r (unmasked s.key (s.come + 1) bs)) steps
    ∙ ap (λ (l : List ℕ). b ∷ l) (mask_gives new bs over (omega arith))

mask_passes : (s : Reading) (bs : List ℕ) → s.over ≡ None → s.come + length bs ≡ s.size
    → after s (unmasked s.key s.come bs) ≡ record s { come = s.size }
mask_passes s [] over fits =
    let e : s.come ≡ s.size = omega arith in ap (λ (n : ℕ). let r : Reading = record s { come = n } in r) e
mask_passes s (b ∷ bs) over fits =
    let k : ℕ = get_or s.key (s.come % 4) 0 in
    let here : s.come < s.size = omega arith in
    let new : Reading = record s { come = s.come + 1 } in
    let steps : step s (bit_xor b k) ≡ new =
    open_steps s (bit_xor b k) over ∙ ap (λ (t : Bool). cond t new (with_kept s (bit_xor b k))) (lt-ltb s.come s.size here) in
    ap (λ (r : Reading). after r (unmasked s.key (s.come + 1) bs)) steps ∙ mask_passes new bs over (omega arith)

-- ---- the head, whose bytes are kept

holding : Reading → List ℕ → Reading
holding s bs = record s { kept = bs }

-- one byte more
keeps : (s : Reading) (r : List ℕ) (b : ℕ) → s.over ≡ None → s.size ≤ s.come → length r < 131
    → step (holding s r) b ≡ settled (holding s (r ++ b ∷ [])) (next_of s.is_within (r ++ b ∷ []))
unfolding holding
keeps s r b over done few =
    let now : Reading = record s { kept = r } in
    let ne : length r ≢ 131 = omega arith in
    open_steps now b over
    ∙ ap (λ (t : Bool). cond t (record now { come = now.come + 1 }) (with_kept now b)) (le-ltb s.come s.size done)
    ∙ ap (λ (t : Bool). cond t (faulty now Control) (settled (record now { kept = r ++ b ∷ [] }) (next_of s.is_within (r ++ b ∷ []))))
    (ne_eqb (length r) 131 ne)

silent : (s : Reading) (r : List ℕ) (b : ℕ) → s.over ≡ None → s.size ≤ s.come → given (holding s r) b ≡ []
unfolding holding
silent s r b over done =
    let now : Reading = record s { kept = r } in
    open_gives now b over ∙ ap (λ (t : Bool). cond t (bit_xor b (get_or s.key (s.come % 4) 0) ∷ []) []) (le-ltb s.come s.size done)

waits : (s : Reading) (r : List ℕ) (b : ℕ) → s.over ≡ None → s.size ≤ s.come → length r < 131 → next_of s.is_within (r ++ b ∷ []) ≡ more
    → step (holding s r) b ≡ holding s (r ++ b ∷ [])
waits s r b over done few e = keeps s r b over done few ∙ ap (settled (holding s (r ++ b ∷ []))) e

asks_more : (is_within : Bool) (b c : ℕ) (r : List ℕ) → head_fault is_within b c ≡ None → 2 + length r < kept_size 4 b c
    → next_of is_within (b ∷ c ∷ r) ≡ more
asks_more is_within b c r sound short =
    sound_asks is_within (b ∷ c ∷ r) (omega arith) sound
    ∙ ap (λ (t : Bool). cond t more (next_of_whole (b ∷ c ∷ r))) (lt-ltb (length (b ∷ c ∷ r)) (kept_size 4 b c) (omega arith))

asks_whole : (is_within : Bool) (b c : ℕ) (r : List ℕ) → head_fault is_within b c ≡ None → kept_size 4 b c ≤ 2 + length r
    → next_of is_within (b ∷ c ∷ r) ≡ next_of_whole (b ∷ c ∷ r)
asks_whole is_within b c r sound long =
    sound_asks is_within (b ∷ c ∷ r) (omega arith) sound
    ∙ ap (λ (t : Bool). cond t more (next_of_whole (b ∷ c ∷ r))) (le-ltb (length (b ∷ c ∷ r)) (kept_size 4 b c) (omega arith))

-- further bytes of the head, the last of which ends it
rest_passes : (s : Reading) (b c : ℕ) (r : List ℕ) (x : ℕ) (xs : List ℕ) → s.over ≡ None → s.size ≤ s.come
    → head_fault s.is_within b c ≡ None
    → kept_size 4 b c ≤ 131 → 2 + length r + length (x ∷ xs) ≡ kept_size 4 b c
    → after (holding s (b ∷ c ∷ r)) (x ∷ xs) ≡ settled (holding s (b ∷ c ∷ (r ++ x ∷ xs))) (next_of_whole (b ∷ c ∷ (r ++ x ∷ xs)))
rest_passes s b c r x [] over done sound few fits =
    keeps s (b ∷ c ∷ r) x over done (omega arith)
    ∙ ap (settled (holding s (b ∷ c ∷ (r ++ x ∷ []))))
    (asks_whole s.is_within b c (r ++ x ∷ []) sound (omega (arith, length-append r (x ∷ []))))
rest_passes s b c r x (y ∷ ys) over done sound few fits =
    ap (λ (t : Reading). after t (y ∷ ys))
    (waits s (b ∷ c ∷ r) x over done (omega arith)
    (asks_more s.is_within b c (r ++ x ∷ []) sound (omega (arith, length-append r (x ∷ [])))))
    ∙ rest_passes s b c (r ++ x ∷ []) y ys over done sound few (omega (arith, length-append r (x ∷ [])))
    ∙ ap (λ (l : List ℕ). settled (holding s (b ∷ c ∷ l)) (next_of_whole (b ∷ c ∷ l))) (append_assoc r (x ∷ []) (y ∷ ys))

rest_gives : (s : Reading) (b c : ℕ) (r : List ℕ) (x : ℕ) (xs : List ℕ) → s.over ≡ None → s.size ≤ s.come
    → head_fault s.is_within b c ≡ None
    → kept_size 4 b c ≤ 131 → 2 + length r + length (x ∷ xs) ≡ kept_size 4 b c → payloads (holding s (b ∷ c ∷ r)) (x ∷ xs) ≡ []
rest_gives s b c r x [] over done sound few fits =
    ap (λ (l : List ℕ). l ++ payloads (step (holding s (b ∷ c ∷ r)) x) []) (silent s (b ∷ c ∷ r) x over done)
rest_gives s b c r x (y ∷ ys) over done sound few fits =
    ap (λ (l : List ℕ). l ++ payloads (step (holding s (b ∷ c ∷ r)) x) (y ∷ ys)) (silent s (b ∷ c ∷ r) x over done)
    ∙ ap (λ (t : Reading). payloads t (y ∷ ys))
    (waits s (b ∷ c ∷ r) x over done (omega arith)
    (asks_more s.is_within b c (r ++ x ∷ []) sound (omega (arith, length-append r (x ∷ [])))))
    ∙ rest_gives s b c (r ++ x ∷ []) y ys over done sound few (omega (arith, length-append r (x ∷ [])))

-- all bytes of the head
head_passes : (s : Reading) (b c x : ℕ) (xs : List ℕ) → s.over ≡ None → s.size ≤ s.come → head_fault s.is_within b c ≡ None
    → kept_size 4 b c ≤ 131 → 2 + length (x ∷ xs) ≡ kept_size 4 b c
    → after (holding s []) (b ∷ c ∷ x ∷ xs) ≡ settled (holding s (b ∷ c ∷ x ∷ xs)) (next_of_whole (b ∷ c ∷ x ∷ xs))
head_passes s b c x xs over done sound few fits =
    ap (λ (t : Reading). after t (c ∷ x ∷ xs)) (waits s [] b over done (omega arith) (short_asks s.is_within (b ∷ []) (omega arith)))
    ∙ ap (λ (t : Reading). after t (x ∷ xs)) (waits s (b ∷ []) c over done (omega arith) (asks_more s.is_within b c [] sound (omega arith)))
    ∙ rest_passes s b c [] x xs over done sound few (omega arith)

head_gives : (s : Reading) (b c x : ℕ) (xs : List ℕ) → s.over ≡ None → s.size ≤ s.come → head_fault s.is_within b c ≡ None
    → kept_size 4 b c ≤ 131 → 2 + length (x ∷ xs) ≡ kept_size 4 b c → payloads (holding s []) (b ∷ c ∷ x ∷ xs) ≡ []
head_gives s b c x xs over done sound few fits =
    ap (λ (l : List ℕ). l ++ payloads (step (holding s []) b) (c ∷ x ∷ xs)) (silent s [] b over done)
    ∙ ap (λ (t : Reading). payloads t (c ∷ x ∷ xs)) (waits s [] b over done (omega arith) (short_asks s.is_within (b ∷ []) (omega arith)))
    ∙ ap (λ (l : List ℕ). l ++ payloads (step (holding s (b ∷ [])) c) (x ∷ xs)) (silent s (b ∷ []) c over done)
    ∙ ap (λ (t : Reading). payloads t (x ∷ xs))
    (waits s (b ∷ []) c over done (omega arith) (asks_more s.is_within b c [] sound (omega arith)))
    ∙ rest_gives s b c [] x xs over done sound few (omega arith)

-- ---- a frame, by what its head asks for

reads_with : (s : Reading) (b c : ℕ) (h key bs : List ℕ) (is_final : Bool) → IsBetween s → head_fault s.is_within b c ≡ None
    → kept_size 4 b c ≤ 131
    → 0 < length h → 2 + length h ≡ kept_size 4 b c → next_of_whole (b ∷ c ∷ h) ≡ payload key (length bs) is_final
    → (payloads s (b ∷ c ∷ (h ++ unmasked key 0 bs)) ≡ bs) × IsBetween (after s (b ∷ c ∷ (h ++ unmasked key 0 bs)))
unfolding holding
reads_with s b c [] key bs is_final between sound few some fits asks = absurd (omega arith)
reads_with s b c (x ∷ xs) key bs is_final between sound few some fits asks =
    let head : List ℕ = b ∷ c ∷ x ∷ xs in
    let masked : List ℕ = unmasked key 0 bs in
    let within : Reading = record s { kept = []; key = key; come = 0; size = length bs; is_within = not is_final } in
    let begins : s ≡ holding s [] = ap (λ (l : List ℕ). let r : Reading = record s { kept = l } in r) between.kept in
    let passes : after s head ≡ within =
    ap (λ (t : Reading). after t head) begins ∙ head_passes s b c x xs between.over between.done sound few fits
    ∙ ap (settled (holding s head)) asks in
    let gives : payloads s head ≡ [] =
    ap (λ (t : Reading). payloads t head) begins ∙ head_gives s b c x xs between.over between.done sound few fits in
    let long : 0 + length bs ≡ length bs = omega arith in
    let behind : after s (head ++ masked) ≡ record within { come = within.size } =
    after_append s head masked ∙ ap (λ (t : Reading). after t masked) passes ∙ mask_passes within bs between.over long in (
      payloads_append s head masked ∙ ap (λ (l : List ℕ). l ++ payloads (after s head) masked) gives
          ∙ ap (λ (t : Reading). payloads t masked) passes ∙ mask_gives within bs between.over long,
      subst IsBetween (sym behind) (record { over = between.over; kept = refl; done = le_refl (length bs) }),
    )

-- ---- what the head of a data frame asks for

-- by whether its seven bits are 126 or 127
by_form : Bool → Bool → ℕ → List ℕ → Asked
by_form is_126 is_127 m bs =
    let n = cond is_126 (short_size bs) (cond is_127 (long_size bs) m) in
    cond (cond is_126 (ltb n 126) (cond is_127 (ltb n 65536 || leb (2 ^ 63) n) false)) (fault Length)
    (payload (key_at (2 + cond is_126 2 (cond is_127 8 0)) bs) n (leb 128 (get_or bs 0 0)))

is_data : (first : ℕ) (bs : List ℕ) → is_control first ≡ false → next_of_whole (first ∷ bs) ≡ next_of_data (first ∷ bs)
is_data first bs control = ap (λ (t : Bool). cond t (next_of_control (first ∷ bs)) (next_of_data (first ∷ bs))) control

asks_small : (first n k0 k1 k2 k3 : ℕ) → is_control first ≡ false → n < 126
    → next_of_whole (first ∷ (128 + n) ∷ k0 ∷ k1 ∷ k2 ∷ k3 ∷ []) ≡ payload (k0 ∷ k1 ∷ k2 ∷ k3 ∷ []) n (leb 128 first)
unfolding by_form
asks_small first n k0 k1 k2 k3 control small =
    let m : ℕ = (128 + n) % 128 in
    let low : m ≡ n = omega arith in
    let not_126 : m ≢ 126 = omega arith in
    let not_127 : m ≢ 127 = omega arith in
    let bs : List ℕ = first ∷ (128 + n) ∷ k0 ∷ k1 ∷ k2 ∷ k3 ∷ [] in
    is_data first ((128 + n) ∷ k0 ∷ k1 ∷ k2 ∷ k3 ∷ []) control
    ∙ ap (λ (t : Bool). by_form t (eqb m 127) m bs) (ne_eqb m 126 not_126)
    ∙ ap (λ (t : Bool). by_form false t m bs) (ne_eqb m 127 not_127)
    ∙ ap (λ (k : ℕ). by_form false false k bs) low

asks_short : (first n k0 k1 k2 k3 : ℕ) → is_control first ≡ false → 126 ≤ n → n < 2 ^ 16
    → next_of_whole (first ∷ 254 ∷ (to_be_bytes w16 n ++ k0 ∷ k1 ∷ k2 ∷ k3 ∷ [])) ≡ payload (k0 ∷ k1 ∷ k2 ∷ k3 ∷ []) n (leb 128 first)
asks_short first n k0 k1 k2 k3 control least fits =
    let asked : ℕ → Asked = λ z. cond (ltb z 126) (fault Length) (payload (k0 ∷ k1 ∷ k2 ∷ k3 ∷ []) z (leb 128 first)) in
    is_data first (254 ∷ (to_be_bytes w16 n ++ k0 ∷ k1 ∷ k2 ∷ k3 ∷ [])) control
    ∙ ap asked (from_be_bytes-to_be_bytes_2 n fits)
    ∙ ap (λ (t : Bool). cond t (fault Length) (payload (k0 ∷ k1 ∷ k2 ∷ k3 ∷ []) n (leb 128 first))) (le-ltb n 126 least)

asks_long : (first n k0 k1 k2 k3 : ℕ) → is_control first ≡ false → 65536 ≤ n → n < 2 ^ 63
    → next_of_whole (first ∷ 255 ∷ (to_be_bytes w64 n ++ k0 ∷ k1 ∷ k2 ∷ k3 ∷ [])) ≡ payload (k0 ∷ k1 ∷ k2 ∷ k3 ∷ []) n (leb 128 first)
asks_long first n k0 k1 k2 k3 control least fits =
    let asked : ℕ → Asked = λ z. cond (ltb z 65536 || leb (2 ^ 63) z) (fault Length) (payload (k0 ∷ k1 ∷ k2 ∷ k3 ∷ []) z (leb 128 first)) in
    let right : (ltb n 65536 || leb (2 ^ 63) n) ≡ false =
    ap (λ (t : Bool). t || leb (2 ^ 63) n) (le-ltb n 65536 least) ∙ lt-leb (2 ^ 63) n fits in
    is_data first (255 ∷ (to_be_bytes w64 n ++ k0 ∷ k1 ∷ k2 ∷ k3 ∷ [])) control
    ∙ ap asked (from_be_bytes-to_be_bytes_8 n (omega arith))
    ∙ ap (λ (t : Bool). cond t (fault Length) (payload (k0 ∷ k1 ∷ k2 ∷ k3 ∷ []) n (leb 128 first))) right

-- ---- a data frame of a client

head_sound : (is_within : Bool) (first second : ℕ) → is_reserved first ≡ false → is_control first ≡ false
    → data_fault is_within first ≡ None → 128 ≤ second
    → head_fault is_within first second ≡ None
head_sound is_within first second reserved control sound masked =
    let of_masked : Option WebFault = cond (is_control first) (control_fault first second) (data_fault is_within first) in
    ap (λ (t : Bool). cond t (Some Reserved) (cond (ltb second 128) (Some Unmasked) of_masked)) reserved
    ∙ ap (λ (t : Bool). cond t (Some Unmasked) of_masked) (le-ltb second 128 masked)
    ∙ ap (λ (t : Bool). cond t (control_fault first second) (data_fault is_within first)) control
    ∙ sound

kept_small : (first n : ℕ) → is_control first ≡ false → n < 126 → kept_size 4 first (128 + n) ≡ 6
kept_small first n control small =
    let m : ℕ = (128 + n) % 128 in
    let not_126 : m ≢ 126 = omega arith in
    let not_127 : m ≢ 127 = omega arith in
    ap (λ (t : Bool). 6 + cond t 2 (cond (eqb m 127) 8 0) + control_size first (128 + n)) (ne_eqb m 126 not_126)
    ∙ ap (λ (t : Bool). 6 + cond t 8 0 + control_size first (128 + n)) (ne_eqb m 127 not_127)
    ∙ ap (λ (t : Bool). 6 + 0 + cond t m 0) control

kept_short : (first : ℕ) → is_control first ≡ false → kept_size 4 first 254 ≡ 8
kept_short first control = ap (λ (t : Bool). 8 + cond t 126 0) control

kept_long : (first : ℕ) → is_control first ≡ false → kept_size 4 first 255 ≡ 14
kept_long first control = ap (λ (t : Bool). 14 + cond t 127 0) control

-- by the form of its length
spelled_by : Bool → Bool → ℕ → List ℕ → List ℕ → List ℕ
spelled_by is_small is_short first key bs =
    first ∷ (128 + cond is_small (length bs) (cond is_short 126 127))
    ∷ (cond is_small [] (cond is_short (to_be_bytes w16 (length bs)) (to_be_bytes w64 (length bs))) ++ key ++ unmasked key 0 bs)

reads_form : (is_small is_short : Bool) (s : Reading) (first k0 k1 k2 k3 : ℕ) (bs : List ℕ) → ltb (length bs) 126 ≡ is_small
    → ltb (length bs) 65536 ≡ is_short
    → IsBetween s → is_reserved first ≡ false → is_control first ≡ false → data_fault s.is_within first ≡ None → length bs < 2 ^ 63
    → (payloads s (spelled_by is_small is_short first (k0 ∷ k1 ∷ k2 ∷ k3 ∷ []) bs) ≡ bs)
    × IsBetween (after s (spelled_by is_small is_short first (k0 ∷ k1 ∷ k2 ∷ k3 ∷ []) bs))
unfolding spelled_by
reads_form true is_short s first k0 k1 k2 k3 bs e f between reserved control sound fits =
    let small : length bs < 126 = ltb-true (length bs) 126 e in
    let kept : kept_size 4 first (128 + length bs) ≡ 6 = kept_small first (length bs) control small in
    reads_with s first (128 + length bs) (k0 ∷ k1 ∷ k2 ∷ k3 ∷ []) (k0 ∷ k1 ∷ k2 ∷ k3 ∷ []) bs (leb 128 first) between
    (head_sound s.is_within first (128 + length bs) reserved control sound (omega arith)) (omega arith) (omega arith) (sym kept)
    (asks_small first (length bs) k0 k1 k2 k3 control small)
reads_form false true s first k0 k1 k2 k3 bs e f between reserved control sound fits =
    let key : List ℕ = k0 ∷ k1 ∷ k2 ∷ k3 ∷ [] in
    let least : 126 ≤ length bs = ltb-false (length bs) 126 e in
    let short : length bs < 2 ^ 16 = ltb-true (length bs) 65536 f in
    let kept : kept_size 4 first 254 ≡ 8 = kept_short first control in
    reads_with s first 254 (to_be_bytes w16 (length bs) ++ key) key bs (leb 128 first) between
    (head_sound s.is_within first 254 reserved control sound (omega arith)) (omega arith) (omega arith) (sym kept)
    (asks_short first (length bs) k0 k1 k2 k3 control least short)
reads_form false false s first k0 k1 k2 k3 bs e f between reserved control sound fits =
    let key : List ℕ = k0 ∷ k1 ∷ k2 ∷ k3 ∷ [] in
    let least : 65536 ≤ length bs = ltb-false (length bs) 65536 f in
    let kept : kept_size 4 first 255 ≡ 14 = kept_long first control in
    reads_with s first 255 (to_be_bytes w64 (length bs) ++ key) key bs (leb 128 first) between
    (head_sound s.is_within first 255 reserved control sound (omega arith)) (omega arith) (omega arith) (sym kept)
    (asks_long first (length bs) k0 k1 k2 k3 control least fits)

pub reads_frames : ReadsFrames
unfolding spelled_by
reads_frames s first [] bs between reserved control sound four fits = absurd (omega arith)
reads_frames s first (k0 ∷ []) bs between reserved control sound four fits = absurd (omega arith)
reads_frames s first (k0 ∷ k1 ∷ []) bs between reserved control sound four fits = absurd (omega arith)
reads_frames s first (k0 ∷ k1 ∷ k2 ∷ []) bs between reserved control sound four fits = absurd (omega arith)
reads_frames s first (k0 ∷ k1 ∷ k2 ∷ k3 ∷ []) bs between reserved control sound four fits =
    reads_form (ltb (length bs) 126) (ltb (length bs) 65536) s first k0 k1 k2 k3 bs refl refl between reserved control sound fits
reads_frames s first (k0 ∷ k1 ∷ k2 ∷ k3 ∷ k4 ∷ ks) bs between reserved control sound four fits = absurd (omega arith)

-- ---- a ping, all of which is kept

masked_long : (key : List ℕ) (i : ℕ) (bs : List ℕ) → length (unmasked key i bs) ≡ length bs
masked_long key i [] = refl
masked_long key i (b ∷ bs) = ap suc (masked_long key (i + 1) bs)

masked_twice : (key : List ℕ) (i : ℕ) (bs : List ℕ) → unmasked key i (unmasked key i bs) ≡ bs
masked_twice key i [] = refl
masked_twice key i (b ∷ bs) =
    ap (λ (x : ℕ). x ∷ unmasked key (i + 1) (unmasked key (i + 1) bs)) (unmasked_twice b (get_or key (i % 4) 0))
    ∙ ap (λ (l : List ℕ). b ∷ l) (masked_twice key (i + 1) bs)

ping_sound : (is_within : Bool) (n : ℕ) → n ≤ 125 → head_fault is_within 137 (128 + n) ≡ None
ping_sound is_within n few =
    ap (λ (t : Bool). cond t (Some Unmasked) (cond (ltb 125 ((128 + n) % 128)) (Some Control) None)) (le-ltb (128 + n) 128 (omega arith))
    ∙ ap (λ (t : Bool). cond t (Some Control) None) (le-ltb 125 ((128 + n) % 128) (omega arith))

ping_kept : (n : ℕ) → n ≤ 125 → kept_size 4 137 (128 + n) ≡ 6 + n
ping_kept n few =
    let m : ℕ = (128 + n) % 128 in
    let low : m ≡ n = omega arith in
    let not_126 : m ≢ 126 = omega arith in
    let not_127 : m ≢ 127 = omega arith in
    ap (λ (t : Bool). 6 + cond t 2 (cond (eqb m 127) 8 0) + m) (ne_eqb m 126 not_126)
    ∙ ap (λ (t : Bool). 6 + cond t 8 0 + m) (ne_eqb m 127 not_127) ∙ ap (λ (k : ℕ). 6 + k) low

reads_ping : (s : Reading) (k0 k1 k2 k3 : ℕ) (bs : List ℕ) → IsBetween s → length bs ≤ 125
    → (payloads s (client_frame 137 (k0 ∷ k1 ∷ k2 ∷ k3 ∷ []) bs) ≡ [])
    × (after s (client_frame 137 (k0 ∷ k1 ∷ k2 ∷ k3 ∷ []) bs) ≡ record s { answer = Some (control_frame 138 bs) })
unfolding holding
reads_ping s k0 k1 k2 k3 bs between few =
    let key : List ℕ = k0 ∷ k1 ∷ k2 ∷ k3 ∷ [] in
    let masked : List ℕ = unmasked key 0 bs in
    let n : ℕ = length bs in
    let c : ℕ = 128 + n in
    let rest : List ℕ = k1 ∷ k2 ∷ k3 ∷ masked in
    let whole : List ℕ = 137 ∷ c ∷ k0 ∷ rest in
    let sound : head_fault s.is_within 137 c ≡ None = ping_sound s.is_within n few in
    let kept : kept_size 4 137 c ≡ 6 + n = ping_kept n few in
    let long : length masked ≡ n = masked_long key 0 bs in
    let fits : 2 + length (k0 ∷ rest) ≡ kept_size 4 137 c = omega arith in
    let least : kept_size 4 137 c ≤ 131 = omega arith in
    let begins : s ≡ holding s [] = ap (λ (l : List ℕ). let r : Reading = record s { kept = l } in r) between.kept in
    let small : ltb n 126 ≡ true = lt-ltb n 126 (omega arith) in
    let spelled : client_frame 137 key bs ≡ whole =
    ap (λ (t : Bool). 137 ∷ (128 + cond t n (cond (ltb n 65536) 126 127)) ∷ (cond t [] (cond (ltb n 65536) (to_be_bytes w16 n) (to_be_bytes w64 n)) ++ key ++ masked)) small in
    let asks : next_of_whole whole ≡ ping bs = ap (λ (l : List ℕ). ping l) (masked_twice key 0 bs) in
    let gives : payloads s whole ≡ [] =
    ap (λ (t : Reading). payloads t whole) begins ∙ head_gives s 137 c k0 rest between.over between.done sound least fits in
    let passes : after s whole ≡ record s { kept = []; answer = Some (control_frame 138 bs) } =
    ap (λ (t : Reading). after t whole) begins ∙ head_passes s 137 c k0 rest between.over between.done sound least fits
    ∙ ap (settled (holding s whole)) asks in (
      ap (payloads s) spelled ∙ gives,
      ap (after s) spelled ∙ passes ∙ ap (λ (l : List ℕ). let r : Reading = record s { kept = l; answer = Some (control_frame 138 bs) } in r) (sym between.kept),
    )

pub answers_pings : AnswersPings
answers_pings s [] bs between four few = absurd (omega arith)
answers_pings s (k0 ∷ []) bs between four few = absurd (omega arith)
answers_pings s (k0 ∷ k1 ∷ []) bs between four few = absurd (omega arith)
answers_pings s (k0 ∷ k1 ∷ k2 ∷ []) bs between four few = absurd (omega arith)
answers_pings s (k0 ∷ k1 ∷ k2 ∷ k3 ∷ []) bs between four few = reads_ping s k0 k1 k2 k3 bs between few
answers_pings s (k0 ∷ k1 ∷ k2 ∷ k3 ∷ k4 ∷ ks) bs between four few = absurd (omega arith)
