-- Redacted bytes are heard as the bytes are, but for what the inputs say.
use Rattle.std.proofs.Common.{◌≡◌, ℕ, suc, inl, inr, Bool, true, false, cond, eqb, leb, ltb, List, [], ◌∷◌, ◌++◌, length, take, drop, slice_index, map, Result, Ok, Err, refl, sym, ap, ◌∙◌, arith}
use Rattle.std.proofs.lemmas.Bool.{le-leb}
use Rattle.std.proofs.lemmas.Bool.Decides.{eqb_tells}
use Rattle.std.proofs.lemmas.List.{length-map, map-append, take-map}
use Rattle.std.proofs.Math.ListN.{get_or-map}
use Rattle.pixel_translate.specs.declared.PixelFormat.{PixelFormat}
use Rattle.pixel_translate.specs.declared.FormatFault.{FormatFault}
use Rattle.pixel_translate.specs.declared.FormatFault.TheVariants as format_fault
use Rattle.pixel_translate.specs.Pixel.{format_of}
use Rattle.messages.specs.declared.Version.{Version}
use Rattle.messages.specs.declared.Input.{Input}
use Rattle.messages.specs.declared.Input.TheVariants as input
use Rattle.messages.specs.declared.Item.{Item}
use Rattle.messages.specs.declared.Item.TheVariants as item
use Rattle.messages.specs.declared.Phase.{Phase}
use Rattle.messages.specs.declared.Phase.TheVariants as phase
use Rattle.messages.specs.declared.Fault.{Fault}
use Rattle.messages.specs.declared.Fault.TheVariants as fault
use Rattle.messages.specs.Grammar.{version_of, text_limit, after, End, waiting, faulty}
use Rattle.messages.specs.Reading.{message_length, wanted, major_of, minor_of, is_version, meaning, message_meaning, format_meaning, text_meaning, key_in, pointer_in, Conversation, with_meaning, with_unfinished, hear_byte, hear}
use Rattle.redaction.specs.Redaction.{is_secret_behind, is_secret_at, is_secret, redacted_byte, redacted_from}

-- ---- what was heard, without what is secret

abbrev pub zeros : List ℕ → List ℕ
zeros bytes = map (λ b. 0) bytes

abbrev hidden_input : Input → Input
hidden_input (input.Key down key) = input.Key false 0
hidden_input (input.Pointer mask x y) = input.Pointer 0 0 0
hidden_input (input.Text text shortened) = input.Text (zeros text) shortened

abbrev pub hidden_item : Item → Item
hidden_item (item.Input i) = item.Input (hidden_input i)
hidden_item i = i

abbrev hidden_result : Result Item Fault → Result Item Fault
hidden_result (Ok i) = Ok (hidden_item i)
hidden_result (Err k) = Err k

-- the bytes of a message behind its type
abbrev hidden_behind : ℕ → List ℕ → List ℕ
hidden_behind kind bytes = cond (eqb kind 4) (zeros bytes) (cond (eqb kind 5) (zeros bytes) (cond (eqb kind 6) (take 7 bytes ++ zeros (drop 7 bytes)) bytes))

abbrev hidden_message : List ℕ → List ℕ
hidden_message [] = []
hidden_message (kind ∷ bytes) = kind ∷ hidden_behind kind bytes

abbrev hidden_bytes : Phase → List ℕ → List ℕ
hidden_bytes (phase.Open v) bytes = hidden_message bytes
hidden_bytes _ bytes = bytes

abbrev pub hidden : Conversation → Conversation
hidden h = record { items = map hidden_item h.items; phase = h.phase; unfinished = hidden_bytes h.phase h.unfinished; end = h.end }

abbrev begun : List Item → Phase → List ℕ → Conversation
begun items p u = record { items = items; phase = p; unfinished = u; end = waiting }

-- ---- the types of messages

data Kind (x : ℕ) : Type 0 where
  a_key : x ≡ 4 → Kind x
  a_pointer : x ≡ 5 → Kind x
  a_text : x ≡ 6 → Kind x
  other : eqb x 4 ≡ false → eqb x 5 ≡ false → eqb x 6 ≡ false → Kind x

kind_of : (x : ℕ) → Kind x
kind_of x =
    elim (eqb_tells x 4) [
      | inl k ↦ a_key k.1
      | inr k ↦ elim (eqb_tells x 5) [
        | inl p ↦ a_pointer p.1
        | inr p ↦ elim (eqb_tells x 6) [ inl t ↦ a_text t.1 | inr t ↦ other k.0 p.0 t.0 ]
      ]
    ]

-- ---- a message's bytes

-- a byte more
zeros_grow : (xs : List ℕ) (b : ℕ) → zeros xs ++ 0 ∷ [] ≡ zeros (xs ++ b ∷ [])
zeros_grow xs b = sym (map-append (λ (c : ℕ). 0) xs (b ∷ []))

text_grows : (xs : List ℕ) (b : ℕ) → hidden_behind 6 xs ++ cond (leb 7 (length xs)) 0 b ∷ [] ≡ hidden_behind 6 (xs ++ b ∷ [])
text_grows [] b = refl
text_grows (p ∷ []) b = refl
text_grows (p ∷ q ∷ []) b = refl
text_grows (p ∷ q ∷ r ∷ []) b = refl
text_grows (p ∷ q ∷ r ∷ a ∷ []) b = refl
text_grows (p ∷ q ∷ r ∷ a ∷ c ∷ []) b = refl
text_grows (p ∷ q ∷ r ∷ a ∷ c ∷ d ∷ []) b = refl
text_grows (p ∷ q ∷ r ∷ a ∷ c ∷ d ∷ e ∷ more) b =
    rw (le-leb 7 (length (p ∷ q ∷ r ∷ a ∷ c ∷ d ∷ e ∷ more)) (omega arith)) (ap (λ (l : List ℕ). p ∷ q ∷ r ∷ a ∷ c ∷ d ∷ e ∷ l) (zeros_grow more b))

grows : (x : ℕ) (xs : List ℕ) (b : ℕ) → Kind x → hidden_behind x xs ++ cond (is_secret_behind x xs) 0 b ∷ [] ≡ hidden_behind x (xs ++ b ∷ [])
grows x xs b (a_key e) = rw e (zeros_grow xs b)
grows x xs b (a_pointer e) = rw e (zeros_grow xs b)
grows x xs b (a_text e) = rw e (text_grows xs b)
grows x xs b (other k p t) = rw (k, p, t) refl

other_stays : (x : ℕ) (xs : List ℕ) → eqb x 4 ≡ false → eqb x 5 ≡ false → eqb x 6 ≡ false → hidden_behind x xs ≡ xs
other_stays x xs k p t = rw (k, p, t) refl

begins : (x : ℕ) → Kind x → hidden_behind x [] ≡ []
begins x (a_key e) = rw e refl
begins x (a_pointer e) = rw e refl
begins x (a_text e) = rw e refl
begins x (other k p t) = rw (k, p, t) refl

-- how many they are, and how many the message has
text_long : (xs : List ℕ) → length (hidden_behind 6 xs) ≡ length xs
text_long [] = refl
text_long (p ∷ []) = refl
text_long (p ∷ q ∷ []) = refl
text_long (p ∷ q ∷ r ∷ []) = refl
text_long (p ∷ q ∷ r ∷ a ∷ []) = refl
text_long (p ∷ q ∷ r ∷ a ∷ c ∷ []) = refl
text_long (p ∷ q ∷ r ∷ a ∷ c ∷ d ∷ []) = refl
text_long (p ∷ q ∷ r ∷ a ∷ c ∷ d ∷ e ∷ more) = omega (arith, length-map {B = ℕ} more (λ (c : ℕ). 0))

long : (x : ℕ) (xs : List ℕ) → Kind x → length (hidden_behind x xs) ≡ length xs
long x xs (a_key e) = rw e (length-map xs (λ (c : ℕ). 0))
long x xs (a_pointer e) = rw e (length-map xs (λ (c : ℕ). 0))
long x xs (a_text e) = rw e (text_long xs)
long x xs (other k p t) = rw (k, p, t) refl

text_whole : (xs : List ℕ) → message_length (6 ∷ hidden_behind 6 xs) ≡ message_length (6 ∷ xs)
text_whole [] = refl
text_whole (p ∷ []) = refl
text_whole (p ∷ q ∷ []) = refl
text_whole (p ∷ q ∷ r ∷ []) = refl
text_whole (p ∷ q ∷ r ∷ a ∷ []) = refl
text_whole (p ∷ q ∷ r ∷ a ∷ c ∷ []) = refl
text_whole (p ∷ q ∷ r ∷ a ∷ c ∷ d ∷ []) = refl
text_whole (p ∷ q ∷ r ∷ a ∷ c ∷ d ∷ e ∷ more) = refl

whole : (x : ℕ) (xs : List ℕ) → Kind x → message_length (x ∷ hidden_behind x xs) ≡ message_length (x ∷ xs)
whole x xs (a_key e) = rw e refl
whole x xs (a_pointer e) = rw e refl
whole x xs (a_text e) = rw e (text_whole xs)
whole x xs (other k p t) = rw (k, p, t) refl

-- what it says
zero_in : (xs : List ℕ) (i : ℕ) → slice_index (zeros xs) i ≡ 0
zero_in xs i = get_or-map (λ (c : ℕ). 0) xs i 0

key_hidden : (xs : List ℕ) → key_in (4 ∷ zeros xs) ≡ hidden_item (key_in (4 ∷ xs))
key_hidden xs = rw (zero_in xs 0, zero_in xs 3, zero_in xs 4, zero_in xs 5, zero_in xs 6) refl

pointer_hidden : (xs : List ℕ) → pointer_in (5 ∷ zeros xs) ≡ hidden_item (pointer_in (5 ∷ xs))
pointer_hidden xs = rw (zero_in xs 0, zero_in xs 1, zero_in xs 2, zero_in xs 3, zero_in xs 4) refl

zeros_hidden : (text : List ℕ) → text_meaning (zeros text) ≡ hidden_item (text_meaning text)
zeros_hidden text = rw (take-map {Y = ℕ} (λ (c : ℕ). 0) text_limit text, length-map {B = ℕ} text (λ (c : ℕ). 0)) refl

behind_text : (xs : List ℕ) → drop 7 (hidden_behind 6 xs) ≡ zeros (drop 7 xs)
behind_text [] = refl
behind_text (p ∷ []) = refl
behind_text (p ∷ q ∷ []) = refl
behind_text (p ∷ q ∷ r ∷ []) = refl
behind_text (p ∷ q ∷ r ∷ a ∷ []) = refl
behind_text (p ∷ q ∷ r ∷ a ∷ c ∷ []) = refl
behind_text (p ∷ q ∷ r ∷ a ∷ c ∷ d ∷ []) = refl
behind_text (p ∷ q ∷ r ∷ a ∷ c ∷ d ∷ e ∷ more) = refl

format_same : (r : Result PixelFormat FormatFault) → format_meaning r ≡ hidden_result (format_meaning r)
format_same (Ok f) = refl
format_same (Err format_fault.BadBitsPerPixel) = refl
format_same (Err format_fault.ColourMapUnsupported) = refl

other_same : (x : ℕ) (xs : List ℕ) → eqb x 4 ≡ false → eqb x 5 ≡ false → eqb x 6 ≡ false → message_meaning (x ∷ xs) ≡ hidden_result (message_meaning (x ∷ xs))
other_same x xs k p t =
    elim (eqb_tells x 0) [
      | inl a ↦ rw (a.1) (format_same (format_of (drop 3 xs)))
      | inr a ↦ elim (eqb_tells x 2) [
        | inl b ↦ rw (b.1) refl
        | inr b ↦ elim (eqb_tells x 3) [
          | inl c ↦ rw (c.1) refl
          | inr c ↦ rw (a.0, b.0, c.0, k, p, t) refl
        ]
      ]
    ]

says : (x : ℕ) (xs : List ℕ) → Kind x → message_meaning (x ∷ hidden_behind x xs) ≡ hidden_result (message_meaning (x ∷ xs))
says x xs (a_key e) = rw e (ap (λ (i : Item). Ok i) (key_hidden xs))
says x xs (a_pointer e) = rw e (ap (λ (i : Item). Ok i) (pointer_hidden xs))
says x xs (a_text e) = rw e (ap (λ (text : List ℕ). Ok (text_meaning text)) (behind_text xs) ∙ ap (λ (i : Item). Ok i) (zeros_hidden (drop 7 xs)))
says x xs (other k p t) = ap (λ (ys : List ℕ). message_meaning (x ∷ ys)) (other_stays x xs k p t) ∙ other_same x xs k p t

-- ---- a byte more

-- an item or a fault
pub after_hidden : (p : Phase) (i : Item) → after p (hidden_item i) ≡ after p i
after_hidden p (item.Version v) = refl
after_hidden p item.Choice = refl
after_hidden p (item.Init s) = refl
after_hidden p (item.Format f) = refl
after_hidden p (item.Encodings e c r) = refl
after_hidden p (item.Request i a) = refl
after_hidden phase.Version (item.Input i) = refl
after_hidden (phase.Choice v) (item.Input i) = refl
after_hidden (phase.Init v) (item.Input i) = refl
after_hidden (phase.Open v) (item.Input i) = refl

nothing_hidden : (p : Phase) → hidden_bytes p [] ≡ []
nothing_hidden phase.Version = refl
nothing_hidden (phase.Choice v) = refl
nothing_hidden (phase.Init v) = refl
nothing_hidden (phase.Open v) = refl

meant : (is : List Item) (p : Phase) (u w : List ℕ) (m : Result Item Fault) → with_meaning (begun (map hidden_item is) p u) (hidden_result m) ≡ hidden (with_meaning (begun is p w) m)
meant is p u w (Ok i) = rw (map-append hidden_item is (i ∷ []), after_hidden p i, nothing_hidden (after p i)) refl
meant is p u w (Err k) = rw (nothing_hidden p) refl

-- bytes w, where u were unfinished, and what is left of them
record AreAlike (p : Phase) (w left : List ℕ) : Type 0 where
  pub bytes : left ≡ hidden_bytes p w
  pub long : length left ≡ length w
  pub whole : wanted p left ≡ wanted p w
  pub says : meaning p left ≡ hidden_result (meaning p w)

goes_on : (is : List Item) (p : Phase) (u v w left : List ℕ) → AreAlike p w left → with_unfinished (begun (map hidden_item is) p v) left ≡ hidden (with_unfinished (begun is p u) w)
goes_on is p u v w left h = rw (h.long, h.whole, h.says) (pick (ltb (length w) (wanted p w)))
  where
    pick : (b : Bool) → cond b (begun (map hidden_item is) p left) (with_meaning (begun (map hidden_item is) p v) (hidden_result (meaning p w))) ≡ hidden (cond b (begun is p w) (with_meaning (begun is p u) (meaning p w)))
    pick true = ap (λ (bytes : List ℕ). begun (map hidden_item is) p bytes) h.bytes
    pick false = meant is p v u (meaning p w)

version_alike : (w : List ℕ) → AreAlike phase.Version w w
version_alike w = record { bytes = refl; long = refl; whole = refl; says = same (is_version w) }
  where
    same : (b : Bool) → cond b (Ok (item.Version (version_of (major_of w) (minor_of w)))) (Err fault.BadVersion) ≡ hidden_result (cond b (Ok (item.Version (version_of (major_of w) (minor_of w)))) (Err fault.BadVersion))
    same true = refl
    same false = refl

choice_alike : (v : Version) (w : List ℕ) → AreAlike (phase.Choice v) w w
choice_alike v w = record { bytes = refl; long = refl; whole = refl; says = same (eqb (slice_index w 0) 1) }
  where
    same : (b : Bool) → cond b (Ok item.Choice) (Err fault.BadSecurityType) ≡ hidden_result (cond b (Ok item.Choice) (Err fault.BadSecurityType))
    same true = refl
    same false = refl

init_alike : (v : Version) (w : List ℕ) → AreAlike (phase.Init v) w w
init_alike v w = record { bytes = refl; long = refl; whole = refl; says = refl }

message_alike : (v : Version) (x : ℕ) (xs left : List ℕ) → left ≡ hidden_behind x xs → AreAlike (phase.Open v) (x ∷ xs) (x ∷ left)
message_alike v x xs left e = rw e (record { bytes = refl; long = ap (λ (n : ℕ). suc n) (long x xs (kind_of x)); whole = whole x xs (kind_of x); says = says x xs (kind_of x) })

waiting_byte : (is : List Item) (p : Phase) (u : List ℕ) (b : ℕ)
    → with_unfinished (begun (map hidden_item is) p (hidden_bytes p u)) (hidden_bytes p u ++ cond (is_secret_at p u) 0 b ∷ []) ≡ hidden (with_unfinished (begun is p u) (u ++ b ∷ []))
waiting_byte is phase.Version u b = goes_on is phase.Version u u (u ++ b ∷ []) (u ++ b ∷ []) (version_alike (u ++ b ∷ []))
waiting_byte is (phase.Choice v) u b = goes_on is (phase.Choice v) u u (u ++ b ∷ []) (u ++ b ∷ []) (choice_alike v (u ++ b ∷ []))
waiting_byte is (phase.Init v) u b = goes_on is (phase.Init v) u u (u ++ b ∷ []) (u ++ b ∷ []) (init_alike v (u ++ b ∷ []))
waiting_byte is (phase.Open v) [] b = goes_on is (phase.Open v) [] [] (b ∷ []) (b ∷ []) (message_alike v b [] [] (sym (begins b (kind_of b))))
waiting_byte is (phase.Open v) (x ∷ xs) b =
    goes_on is (phase.Open v) (x ∷ xs) (hidden_bytes (phase.Open v) (x ∷ xs)) (x ∷ (xs ++ b ∷ [])) (x ∷ (hidden_behind x xs ++ cond (is_secret_behind x xs) 0 b ∷ [])) (message_alike v x (xs ++ b ∷ []) _ (grows x xs b (kind_of x)))

one_byte : (is : List Item) (p : Phase) (u : List ℕ) (end : End) (b : ℕ) → (let h : Conversation = record { items = is; phase = p; unfinished = u; end = end } in hear_byte (hidden h) (redacted_byte h b) ≡ hidden (hear_byte h b))
one_byte is p u waiting b = waiting_byte is p u b
one_byte is p u (faulty k) b = refl

pub hear_hidden_byte : (h : Conversation) (b : ℕ) → hear_byte (hidden h) (redacted_byte h b) ≡ hidden (hear_byte h b)
hear_hidden_byte h b = one_byte h.items h.phase h.unfinished h.end b

-- ---- bytes more

pub hear_hidden : (h : Conversation) (bytes : List ℕ) → hear (hidden h) (redacted_from h bytes) ≡ hidden (hear h bytes)
hear_hidden h [] = refl
hear_hidden h (b ∷ bytes) = ap (λ (g : Conversation). hear g (redacted_from (hear_byte h b) bytes)) (hear_hidden_byte h b) ∙ hear_hidden (hear_byte h b) bytes

-- a piece behind bytes is redacted by what the bytes were
pub redacted_more : (h : Conversation) (bytes more : List ℕ) → redacted_from h (bytes ++ more) ≡ redacted_from h bytes ++ redacted_from (hear h bytes) more
redacted_more h [] more = refl
redacted_more h (b ∷ bytes) more = ap (λ (l : List ℕ). redacted_byte h b ∷ l) (redacted_more (hear_byte h b) bytes more)

-- ---- whichever the secret bytes are

same_secret_behind : (x : ℕ) (xs : List ℕ) → is_secret_behind x (hidden_behind x xs) ≡ is_secret_behind x xs
same_secret_behind x xs = rw (long x xs (kind_of x)) refl

pub same_secret : (is : List Item) (p : Phase) (u : List ℕ) (end : End) → (let h : Conversation = record { items = is; phase = p; unfinished = u; end = end } in is_secret (hidden h) ≡ is_secret h)
same_secret is p u (faulty k) = refl
same_secret is phase.Version u waiting = refl
same_secret is (phase.Choice v) u waiting = refl
same_secret is (phase.Init v) u waiting = refl
same_secret is (phase.Open v) [] waiting = refl
same_secret is (phase.Open v) (x ∷ xs) waiting = same_secret_behind x xs

-- what is left of a byte, and what is kept behind it, without what is secret, are told by what was kept before it without that
same_byte : (h g : Conversation) (b : ℕ) → hidden h ≡ hidden g → redacted_byte h b ≡ redacted_byte g b
same_byte h g b e =
    ap (λ secret. cond secret 0 b) (sym (same_secret h.items h.phase h.unfinished h.end) ∙ ap is_secret e ∙ same_secret g.items g.phase g.unfinished g.end)

same_behind : (h g : Conversation) (b d : ℕ) → hidden h ≡ hidden g → redacted_byte h b ≡ redacted_byte g d → hidden (hear_byte h b) ≡ hidden (hear_byte g d)
same_behind h g b d e f = sym (hear_hidden_byte h b) ∙ ap (λ (k : Conversation). hear_byte k (redacted_byte h b)) e ∙ ap (λ (c : ℕ). hear_byte (hidden g) c) f ∙ hear_hidden_byte g d

pub same_redacted : (h g : Conversation) (bytes : List ℕ) → hidden h ≡ hidden g → redacted_from h bytes ≡ redacted_from g bytes
same_redacted h g [] e = refl
same_redacted h g (b ∷ bytes) e =
    ap (λ (c : ℕ). c ∷ redacted_from (hear_byte h b) bytes) (same_byte h g b e)
    ∙ ap (λ (l : List ℕ). redacted_byte g b ∷ l) (same_redacted (hear_byte h b) (hear_byte g b) bytes (same_behind h g b b e (same_byte h g b e)))

pub same_heard : (h g : Conversation) (bytes : List ℕ) → hidden h ≡ hidden g → hidden (hear h bytes) ≡ hidden (hear g bytes)
same_heard h g bytes e = sym (hear_hidden h bytes) ∙ ap (λ (k : Conversation). hear k (redacted_from h bytes)) e ∙ ap (hear (hidden g)) (same_redacted h g bytes e) ∙ hear_hidden g bytes

-- whichever a secret byte is
zero_of : (h : Conversation) (b : ℕ) → is_secret h ≡ true → redacted_byte h b ≡ 0
zero_of h b e = ap (λ secret. cond secret 0 b) e

pub same_behind_secret : (h : Conversation) (b d : ℕ) → is_secret h ≡ true → hidden (hear_byte h b) ≡ hidden (hear_byte h d)
same_behind_secret h b d e = same_behind h h b d refl (zero_of h b e ∙ sym (zero_of h d e))

pub same_secret_bytes : (h : Conversation) (b d : ℕ) (bytes : List ℕ) → is_secret h ≡ true → redacted_from h (b ∷ bytes) ≡ redacted_from h (d ∷ bytes)
same_secret_bytes h b d bytes e =
    ap (λ (c : ℕ). c ∷ redacted_from (hear_byte h b) bytes) (zero_of h b e ∙ sym (zero_of h d e))
    ∙ ap (λ (l : List ℕ). redacted_byte h d ∷ l) (same_redacted (hear_byte h b) (hear_byte h d) bytes (same_behind_secret h b d e))
