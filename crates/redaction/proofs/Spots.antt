-- What is kept of what was heard goes on as what is heard does.
use Rattle.std.proofs.Common.{◌≡◌, ℕ, zero, suc, ◌+◌, ◌*◌, ◌-◌, ◌<◌, inl, inr, Bool, true, false, cond, ◌||◌, eqb, ltb, List, [], ◌∷◌, ◌++◌, length, Result, Ok, Err, refl, sym, ap, ◌∙◌, arith}
use Rattle.std.proofs.lemmas.Bool.{le-leb, lt-leb, le-ltb, lt-ltb, cases_lt}
use Rattle.std.proofs.lemmas.Bool.Decides.{eqb_tells}
use Rattle.std.proofs.lemmas.List.{length-append}
use Rattle.pixel_translate.specs.Pixel.{be16_at, be32_at}
use Rattle.messages.specs.declared.Version.{Version}
use Rattle.messages.specs.declared.Item.{Item}
use Rattle.messages.specs.declared.Phase.{Phase}
use Rattle.messages.specs.declared.Phase.TheVariants as phase
use Rattle.messages.specs.declared.Fault.{Fault}
use Rattle.messages.specs.declared.heads.Head.{Head}
use Rattle.messages.specs.Grammar.{after, End, waiting, faulty}
use Rattle.messages.specs.Reading.{length_by, message_length, meaning, message_meaning, Conversation, with_meaning, with_unfinished, hear_byte, hear}
use Rattle.messages.specs.Steps.{front_length, head_meaning, message_head, encodings_head, text_head}
use Rattle.redaction.specs.Redaction.{is_secret_behind, is_secret_at, is_secret, redacted_byte, redacted_from}
use Rattle.redaction.specs.Places.{Spot, front, list, text, spot_by, spot_of, is_secret_spot, head_spot, front_spot, one_less, spot_after, spot_behind, hidden_by}

abbrev begun : List Item → Phase → List ℕ → Conversation
begun items p u = record { items = items; phase = p; unfinished = u; end = waiting }

-- ---- an item or a fault

begins : (p : Phase) → spot_by p waiting [] ≡ front p []
begins phase.Version = refl
begins (phase.Choice v) = refl
begins (phase.Init v) = refl
begins (phase.Open v) = refl

meant : (is : List Item) (p : Phase) (u : List ℕ) (m : Result Item Fault) → spot_of (with_meaning (begun is p u) m) ≡ head_spot p (head_meaning m)
meant is p u (Ok i) = begins (after p i)
meant is p u (Err k) = refl

chosen : (is : List Item) (p : Phase) (u w : List ℕ) (n k : ℕ) (m : Result Item Fault) (h : Head) → k ≡ n → h ≡ head_meaning m → spot_by p waiting w ≡ front p w
    → spot_of (cond (ltb (length w) n) (begun is p w) (with_meaning (begun is p u) m)) ≡ cond (ltb (length w) k) (front p w) (head_spot p h)
chosen is p u w n k m h e f g = rw (e, f) (pick (ltb (length w) n))
  where
    pick : (l : Bool) → spot_of (cond l (begun is p w) (with_meaning (begun is p u) m)) ≡ cond l (front p w) (head_spot p (head_meaning m))
    pick true = g
    pick false = meant is p u m

-- ---- a list and a text

abbrev list_of : ℕ → ℕ → ℕ → List ℕ → List ℕ
list_of p c d more = 2 ∷ p ∷ c ∷ d ∷ more

abbrev count_in : ℕ → ℕ → ℕ
count_in c d = be16_at (2 ∷ 0 ∷ c ∷ d ∷ []) 2

abbrev text_of : ℕ → ℕ → ℕ → ℕ → ℕ → ℕ → ℕ → List ℕ → List ℕ
text_of p q r a b c d more = 6 ∷ p ∷ q ∷ r ∷ a ∷ b ∷ c ∷ d ∷ more

abbrev length_in : ℕ → ℕ → ℕ → ℕ → ℕ
length_in a b c d = be32_at (a ∷ b ∷ c ∷ d ∷ []) 0

list_kept : (v : Version) (p c d : ℕ) (more : List ℕ) → spot_by (phase.Open v) waiting (list_of p c d more) ≡ list (phase.Open v) (4 + 4 * count_in c d - (4 + length more))
list_kept v p c d more = rw (le-leb 4 (length (list_of p c d more)) (omega arith)) (ap (list (phase.Open v)) (omega arith))

text_kept : (v : Version) (p q r a b c d : ℕ) (more : List ℕ) → spot_by (phase.Open v) waiting (text_of p q r a b c d more) ≡ text (phase.Open v) (8 + length_in a b c d - (8 + length more))
text_kept v p q r a b c d more = rw (le-leb 8 (length (text_of p q r a b c d more)) (omega arith)) (ap (text (phase.Open v)) (omega arith))

positive : (n : ℕ) → eqb (suc n) 0 ≡ false
positive n = elim (eqb_tells (suc n) 0) [ inl x ↦ absurd (omega arith) | inr x ↦ x.0 ]

-- a count, and a length
list_begins : (is : List Item) (v : Version) (u w : List ℕ) (n : ℕ) (m : Result Item Fault) → spot_by (phase.Open v) waiting w ≡ list (phase.Open v) (4 + 4 * n - 4) → spot_of (with_meaning (begun is (phase.Open v) u) m) ≡ front (phase.Open v) []
    → spot_of (cond (ltb 4 (4 + 4 * n)) (begun is (phase.Open v) w) (with_meaning (begun is (phase.Open v) u) m)) ≡ head_spot (phase.Open v) (encodings_head n)
list_begins is v u w zero m e f = f
list_begins is v u w (suc n) m e f = rw (lt-ltb 4 (4 + 4 * suc n) (omega arith), positive n) (e ∙ ap (list (phase.Open v)) (omega arith))

text_begins : (is : List Item) (v : Version) (u w : List ℕ) (n : ℕ) (m : Result Item Fault) → spot_by (phase.Open v) waiting w ≡ text (phase.Open v) (8 + n - 8) → spot_of (with_meaning (begun is (phase.Open v) u) m) ≡ front (phase.Open v) []
    → spot_of (cond (ltb 8 (8 + n)) (begun is (phase.Open v) w) (with_meaning (begun is (phase.Open v) u) m)) ≡ head_spot (phase.Open v) (text_head n)
text_begins is v u w zero m e f = f
text_begins is v u w (suc n) m e f = rw (lt-ltb 8 (8 + suc n) (omega arith), positive n) (e ∙ ap (text (phase.Open v)) (omega arith))

-- a byte more of what follows them: so many of so many have come
goes_on : (p : Phase) (is : List Item) (u w : List ℕ) (rest : ℕ → Spot) (come long : ℕ) (m : Result Item Fault) → length w ≡ come + 1
    → spot_by p waiting w ≡ rest (long - (come + 1)) → spot_of (with_meaning (begun is p u) m) ≡ front p []
    → spot_of (cond (ltb (length w) long) (begun is p w) (with_meaning (begun is p u) m)) ≡ one_less p rest (long - come)
goes_on p is u w rest come long m e f g =
    elim (cases_lt (length w) long) [
      | inl lt ↦ rw (lt-ltb (length w) long lt, lt-leb (long - come) 1 (omega arith)) (f ∙ ap rest (omega arith))
      | inr le ↦ rw (le-ltb (length w) long le, le-leb (long - come) 1 (omega arith)) g
    ]

-- ---- the front of a message

data Kind (x : ℕ) : Type 0 where
  a_list : x ≡ 2 → Kind x
  a_text : x ≡ 6 → Kind x
  whole : eqb x 2 ≡ false → eqb x 6 ≡ false → ((n m : ℕ) → length_by x n m ≡ front_length x) → Kind x

kind_of : (x : ℕ) → Kind x
kind_of x =
    elim (eqb_tells x 2) [
      | inl b ↦ a_list b.1
      | inr b ↦ elim (eqb_tells x 6) [
        | inl f ↦ a_text f.1
        | inr f ↦ whole b.0 f.0 (λ n m. rw (b.0, f.0) refl)
      ]
    ]

-- a front that lacks bytes
short : (is : List Item) (p : Phase) (u w : List ℕ) (n : ℕ) (m : Result Item Fault) → length w < n → spot_by p waiting w ≡ front p w
    → spot_of (cond (ltb (length w) n) (begun is p w) (with_meaning (begun is p u) m)) ≡ front p w
short is p u w n m h e = rw (lt-ltb (length w) n h) e

list_front : (is : List Item) (v : Version) (u xs : List ℕ) → length xs < 4 → spot_of (with_unfinished (begun is (phase.Open v) u) (2 ∷ xs)) ≡ front_spot (phase.Open v) (2 ∷ xs)
list_front is v u [] h = refl
list_front is v u (p ∷ []) h = refl
list_front is v u (p ∷ c ∷ []) h = short is (phase.Open v) u (2 ∷ p ∷ c ∷ []) (message_length (2 ∷ p ∷ c ∷ [])) (message_meaning (2 ∷ p ∷ c ∷ [])) (omega arith) refl
list_front is v u (p ∷ c ∷ d ∷ []) h = list_begins is v u (list_of p c d []) (count_in c d) (message_meaning (list_of p c d [])) (list_kept v p c d []) refl
list_front is v u (p ∷ c ∷ d ∷ e ∷ xs) h = absurd (omega arith)

text_front : (is : List Item) (v : Version) (u xs : List ℕ) → length xs < 8 → spot_of (with_unfinished (begun is (phase.Open v) u) (6 ∷ xs)) ≡ front_spot (phase.Open v) (6 ∷ xs)
text_front is v u [] h = refl
text_front is v u (p ∷ []) h = refl
text_front is v u (p ∷ q ∷ []) h = refl
text_front is v u (p ∷ q ∷ r ∷ []) h = refl
text_front is v u (p ∷ q ∷ r ∷ a ∷ []) h = short is (phase.Open v) u (6 ∷ p ∷ q ∷ r ∷ a ∷ []) (message_length (6 ∷ p ∷ q ∷ r ∷ a ∷ [])) (message_meaning (6 ∷ p ∷ q ∷ r ∷ a ∷ [])) (omega arith) refl
text_front is v u (p ∷ q ∷ r ∷ a ∷ b ∷ []) h = short is (phase.Open v) u (6 ∷ p ∷ q ∷ r ∷ a ∷ b ∷ []) (message_length (6 ∷ p ∷ q ∷ r ∷ a ∷ b ∷ [])) (message_meaning (6 ∷ p ∷ q ∷ r ∷ a ∷ b ∷ [])) (omega arith) refl
text_front is v u (p ∷ q ∷ r ∷ a ∷ b ∷ c ∷ []) h =
    short is (phase.Open v) u (6 ∷ p ∷ q ∷ r ∷ a ∷ b ∷ c ∷ []) (message_length (6 ∷ p ∷ q ∷ r ∷ a ∷ b ∷ c ∷ [])) (message_meaning (6 ∷ p ∷ q ∷ r ∷ a ∷ b ∷ c ∷ [])) (omega arith) refl
text_front is v u (p ∷ q ∷ r ∷ a ∷ b ∷ c ∷ d ∷ []) h = text_begins is v u (text_of p q r a b c d []) (length_in a b c d) (message_meaning (text_of p q r a b c d [])) (text_kept v p q r a b c d []) refl
text_front is v u (p ∷ q ∷ r ∷ a ∷ b ∷ c ∷ d ∷ e ∷ xs) h = absurd (omega arith)

whole_front : (is : List Item) (v : Version) (u : List ℕ) (x : ℕ) (xs : List ℕ) → eqb x 2 ≡ false → eqb x 6 ≡ false → ((n m : ℕ) → length_by x n m ≡ front_length x)
    → spot_of (with_unfinished (begun is (phase.Open v) u) (x ∷ xs)) ≡ front_spot (phase.Open v) (x ∷ xs)
whole_front is v u x xs b f e =
    chosen is (phase.Open v) u (x ∷ xs) (message_length (x ∷ xs)) (front_length x) (message_meaning (x ∷ xs)) (message_head (x ∷ xs))
    (sym (e (be16_at (x ∷ xs) 2) (be32_at (x ∷ xs) 4))) (rw (b, f) refl) (rw (b, f) refl)

-- ---- a byte more

list_byte : (is : List Item) (v : Version) (xs : List ℕ) (b : ℕ) → spot_of (with_unfinished (begun is (phase.Open v) (2 ∷ xs)) (2 ∷ (xs ++ b ∷ []))) ≡ spot_after (spot_by (phase.Open v) waiting (2 ∷ xs)) b
list_byte is v [] b = list_front is v (2 ∷ []) (b ∷ []) (omega arith)
list_byte is v (p ∷ []) b = list_front is v (2 ∷ p ∷ []) (p ∷ b ∷ []) (omega arith)
list_byte is v (p ∷ c ∷ []) b = list_front is v (2 ∷ p ∷ c ∷ []) (p ∷ c ∷ b ∷ []) (omega arith)
list_byte is v (p ∷ c ∷ d ∷ more) b =
    goes_on (phase.Open v) is (list_of p c d more) (list_of p c d (more ++ b ∷ [])) (list (phase.Open v)) (4 + length more) (4 + 4 * count_in c d) (message_meaning (list_of p c d (more ++ b ∷ [])))
    (omega (arith, length-append more (b ∷ [])))
    (list_kept v p c d (more ++ b ∷ []) ∙ ap (list (phase.Open v)) (omega (arith, length-append more (b ∷ [])))) refl
    ∙ ap (λ s. spot_after s b) (sym (list_kept v p c d more))

text_byte : (is : List Item) (v : Version) (xs : List ℕ) (byte : ℕ) → spot_of (with_unfinished (begun is (phase.Open v) (6 ∷ xs)) (6 ∷ (xs ++ byte ∷ []))) ≡ spot_after (spot_by (phase.Open v) waiting (6 ∷ xs)) byte
text_byte is v [] byte = text_front is v (6 ∷ []) (byte ∷ []) (omega arith)
text_byte is v (p ∷ []) byte = text_front is v (6 ∷ p ∷ []) (p ∷ byte ∷ []) (omega arith)
text_byte is v (p ∷ q ∷ []) byte = text_front is v (6 ∷ p ∷ q ∷ []) (p ∷ q ∷ byte ∷ []) (omega arith)
text_byte is v (p ∷ q ∷ r ∷ []) byte = text_front is v (6 ∷ p ∷ q ∷ r ∷ []) (p ∷ q ∷ r ∷ byte ∷ []) (omega arith)
text_byte is v (p ∷ q ∷ r ∷ a ∷ []) byte = text_front is v (6 ∷ p ∷ q ∷ r ∷ a ∷ []) (p ∷ q ∷ r ∷ a ∷ byte ∷ []) (omega arith)
text_byte is v (p ∷ q ∷ r ∷ a ∷ b ∷ []) byte = text_front is v (6 ∷ p ∷ q ∷ r ∷ a ∷ b ∷ []) (p ∷ q ∷ r ∷ a ∷ b ∷ byte ∷ []) (omega arith)
text_byte is v (p ∷ q ∷ r ∷ a ∷ b ∷ c ∷ []) byte = text_front is v (6 ∷ p ∷ q ∷ r ∷ a ∷ b ∷ c ∷ []) (p ∷ q ∷ r ∷ a ∷ b ∷ c ∷ byte ∷ []) (omega arith)
text_byte is v (p ∷ q ∷ r ∷ a ∷ b ∷ c ∷ d ∷ more) byte =
    goes_on (phase.Open v) is (text_of p q r a b c d more) (text_of p q r a b c d (more ++ byte ∷ [])) (text (phase.Open v)) (8 + length more) (8 + length_in a b c d) (message_meaning (text_of p q r a b c d (more ++ byte ∷ [])))
    (omega (arith, length-append more (byte ∷ [])))
    (text_kept v p q r a b c d (more ++ byte ∷ []) ∙ ap (text (phase.Open v)) (omega (arith, length-append more (byte ∷ [])))) refl
    ∙ ap (λ s. spot_after s byte) (sym (text_kept v p q r a b c d more))

first_byte : (is : List Item) (v : Version) (b : ℕ) → Kind b → spot_of (with_unfinished (begun is (phase.Open v) []) (b ∷ [])) ≡ front_spot (phase.Open v) (b ∷ [])
first_byte is v b (a_list e) = rw e refl
first_byte is v b (a_text e) = rw e refl
first_byte is v b (whole f g e) = whole_front is v [] b [] f g e

later_byte : (is : List Item) (v : Version) (x : ℕ) (xs : List ℕ) (b : ℕ) → Kind x
    → spot_of (with_unfinished (begun is (phase.Open v) (x ∷ xs)) (x ∷ (xs ++ b ∷ []))) ≡ spot_after (spot_by (phase.Open v) waiting (x ∷ xs)) b
later_byte is v x xs b (a_list e) = rw e (list_byte is v xs b)
later_byte is v x xs b (a_text e) = rw e (text_byte is v xs b)
later_byte is v x xs b (whole f g e) =
    whole_front is v (x ∷ xs) x (xs ++ b ∷ []) f g e ∙ ap (λ s. spot_after s b) (let kept : front (phase.Open v) (x ∷ xs) ≡ spot_by (phase.Open v) waiting (x ∷ xs) = rw (f, g) refl in kept)

waiting_byte : (is : List Item) (p : Phase) (u : List ℕ) (b : ℕ) → spot_of (with_unfinished (begun is p u) (u ++ b ∷ [])) ≡ spot_after (spot_by p waiting u) b
waiting_byte is phase.Version u b = chosen is phase.Version u (u ++ b ∷ []) 12 12 (meaning phase.Version (u ++ b ∷ [])) _ refl refl refl
waiting_byte is (phase.Choice v) u b = chosen is (phase.Choice v) u (u ++ b ∷ []) 1 1 (meaning (phase.Choice v) (u ++ b ∷ [])) _ refl refl refl
waiting_byte is (phase.Init v) u b = chosen is (phase.Init v) u (u ++ b ∷ []) 1 1 (meaning (phase.Init v) (u ++ b ∷ [])) _ refl refl refl
waiting_byte is (phase.Open v) [] b = first_byte is v b (kind_of b)
waiting_byte is (phase.Open v) (x ∷ xs) b = later_byte is v x xs b (kind_of x)

one_byte : (is : List Item) (p : Phase) (u : List ℕ) (end : End) (b : ℕ) → spot_of (hear_byte (record { items = is; phase = p; unfinished = u; end = end }) b) ≡ spot_after (spot_by p end u) b
one_byte is p u waiting b = waiting_byte is p u b
one_byte is p u (faulty k) b = refl

pub after_byte : (h : Conversation) (b : ℕ) → spot_of (hear_byte h b) ≡ spot_after (spot_of h) b
after_byte h b = one_byte h.items h.phase h.unfinished h.end b

-- ---- which byte is secret

abbrev is_secret_message : Version → ℕ → List ℕ → Type 0
is_secret_message v x xs = is_secret_spot (spot_by (phase.Open v) waiting (x ∷ xs)) ≡ is_secret_behind x xs

list_secret : (v : Version) (xs : List ℕ) → is_secret_message v 2 xs
list_secret v [] = refl
list_secret v (p ∷ []) = refl
list_secret v (p ∷ c ∷ []) = refl
list_secret v (p ∷ c ∷ d ∷ more) = ap is_secret_spot (list_kept v p c d more)

text_secret : (v : Version) (xs : List ℕ) → is_secret_message v 6 xs
text_secret v [] = refl
text_secret v (p ∷ []) = refl
text_secret v (p ∷ q ∷ []) = refl
text_secret v (p ∷ q ∷ r ∷ []) = refl
text_secret v (p ∷ q ∷ r ∷ a ∷ []) = refl
text_secret v (p ∷ q ∷ r ∷ a ∷ b ∷ []) = refl
text_secret v (p ∷ q ∷ r ∷ a ∷ b ∷ c ∷ []) = refl
text_secret v (p ∷ q ∷ r ∷ a ∷ b ∷ c ∷ d ∷ more) = ap is_secret_spot (text_kept v p q r a b c d more) ∙ sym (le-leb 7 (length (p ∷ q ∷ r ∷ a ∷ b ∷ c ∷ d ∷ more)) (omega arith))

whole_secret : (v : Version) (x : ℕ) (xs : List ℕ) → Kind x → is_secret_message v x xs
whole_secret v x xs (a_list e) = rw e (list_secret v xs)
whole_secret v x xs (a_text e) = rw e (text_secret v xs)
whole_secret v x xs (whole f g e) = rw (f, g) (or_false (eqb x 4) (eqb x 5))
  where
    or_false : (a b : Bool) → (a || b) ≡ ((a || b) || false)
    or_false true b = refl
    or_false false true = refl
    or_false false false = refl

message_secret : (v : Version) (u : List ℕ) → is_secret_spot (spot_by (phase.Open v) waiting u) ≡ is_secret_at (phase.Open v) u
message_secret v [] = refl
message_secret v (x ∷ xs) = whole_secret v x xs (kind_of x)

one_secret : (is : List Item) (p : Phase) (u : List ℕ) (end : End) → is_secret_spot (spot_by p end u) ≡ is_secret (record { items = is; phase = p; unfinished = u; end = end })
one_secret is p u (faulty k) = refl
one_secret is phase.Version u waiting = refl
one_secret is (phase.Choice v) u waiting = refl
one_secret is (phase.Init v) u waiting = refl
one_secret is (phase.Open v) u waiting = message_secret v u

pub same_secret : (h : Conversation) → is_secret_spot (spot_of h) ≡ is_secret h
same_secret h = one_secret h.items h.phase h.unfinished h.end

-- ---- bytes more

pub after_bytes : (h : Conversation) (bytes : List ℕ) → spot_behind (spot_of h) bytes ≡ spot_of (hear h bytes)
after_bytes h [] = refl
after_bytes h (b ∷ bytes) = ap (λ s. spot_behind s bytes) (sym (after_byte h b)) ∙ after_bytes (hear_byte h b) bytes

pub hidden_bytes : (h : Conversation) (bytes : List ℕ) → hidden_by (spot_of h) bytes ≡ redacted_from h bytes
hidden_bytes h [] = refl
hidden_bytes h (b ∷ bytes) =
    ap (λ secret. cond secret 0 b ∷ hidden_by (spot_after (spot_of h) b) bytes) (same_secret h)
    ∙ ap (λ rest. redacted_byte h b ∷ rest) (ap (λ s. hidden_by s bytes) (sym (after_byte h b)) ∙ hidden_bytes (hear_byte h b) bytes)
