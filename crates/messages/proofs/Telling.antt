-- What is kept tells what a further byte adds.
use Rattle.std.proofs.Common.{◌≡◌, ℕ, zero, suc, ◌+◌, ◌*◌, ◌/◌, ◌<◌, ◌≤◌, inl, inr, Bool, true, false, cond, ◌||◌, eqb, ltb, List, [], ◌∷◌, ◌++◌, length, take, drop, Option, None, Some, Result, Ok, Err, refl, sym, ap, subst, ◌∙◌, arith, append_assoc}
use Rattle.std.specs.Prelude.{ℤ, filter_map, slice_get}
use Rattle.std.specs.List.{cons_option}
use Rattle.std.specs.Option.{option_or}
use Rattle.std.proofs.lemmas.Bool.{le-leb, le-ltb, cases_lt, lt-ltb, ltb-true}
use Rattle.std.proofs.lemmas.Bool.Decides.{eqb_tells}
use Rattle.std.proofs.lemmas.List.{length-append, append-nil, drop-append-le}
use Rattle.std.proofs.lemmas.List.Elements.{filter_map-append}
use Rattle.std.proofs.lemmas.List.Folds.{list_any-append}
use Rattle.std.proofs.lemmas.List.Sums.{fold-append}
use Rattle.std.proofs.Math.ListN.{drop_of_length-le}
use Rattle.pixel_translate.specs.Pixel.{be16_at, be32_at}
use Rattle.messages.specs.declared.Encoding.{Encoding}
use Rattle.messages.specs.declared.Version.{Version}
use Rattle.messages.specs.declared.Item.{Item}
use Rattle.messages.specs.declared.Input.TheVariants as input
use Rattle.messages.specs.declared.Item.TheVariants as item
use Rattle.messages.specs.declared.Phase.{Phase}
use Rattle.messages.specs.declared.Phase.TheVariants as phase
use Rattle.messages.specs.declared.Fault.{Fault}
use Rattle.messages.specs.declared.heads.Head.{Head}
use Rattle.messages.specs.Grammar.{encoding_of, is_copyrect, is_desktop_size, first_encoding, lists_copyrect, lists_desktop_size, text_limit, after, End, waiting, faulty}
use Rattle.messages.specs.Reading.{length_by, message_length, wanted, meaning, message_meaning, encodings_meaning, text_meaning, numbers_of, Conversation, with_meaning, with_unfinished, hear_byte, Given, plain, encodings, cut_text, unfinished_message, unfinished_of, Rest, rest_of, rest, hear, heard, nothing_heard}
use Rattle.messages.specs.Steps.{front_length, head_meaning, encodings_head, text_head, message_head, Told, keeps, nothing_given, head_tells, plain_tells, number_in, with_number, numbers_tell, number_tells, text_tells, byte_tells, then_tells, tells}
use Rattle.messages.proofs.Unique.{by_count, by_length, by_kind, told}
use Rattle.messages.proofs.Running.{empty_wanted}

-- the conversation has these items and then the told ones, and the same is kept
pub record Agrees (before : List Item) (h : Conversation) (t : Told) : Type 0 where
  pub items : h.items ≡ before ++ t.items
  pub rest : rest_of h ≡ t.rest

abbrev begun : List Item → Phase → List ℕ → Conversation
begun items p u = record { items = items; phase = p; unfinished = u; end = waiting }

-- ---- an item or a fault

begins : (p : Phase) → unfinished_of p waiting [] ≡ plain []
begins phase.Version = refl
begins (phase.Choice v) = refl
begins (phase.Init v) = refl
begins (phase.Open v) = refl

meant : (is : List Item) (p : Phase) (u : List ℕ) (m : Result Item Fault) → Agrees is (with_meaning (begun is p u) m) (head_tells p (head_meaning m))
meant is p u (Ok i) = record { items = refl; rest = rw (begins (after p i)) refl }
meant is p u (Err k) = record { items = sym (append-nil is); rest = refl }

waits : (is : List Item) (p : Phase) (w : List ℕ) → unfinished_of p waiting w ≡ plain w → Agrees is (begun is p w) (keeps p (plain w))
waits is p w e = record { items = sym (append-nil is); rest = rw e refl }

chosen : (is : List Item) (p : Phase) (u w : List ℕ) (n k : ℕ) (m : Result Item Fault) (h : Head) → k ≡ n → h ≡ head_meaning m → unfinished_of p waiting w ≡ plain w
    → Agrees is (cond (ltb (length w) n) (begun is p w) (with_meaning (begun is p u) m)) (cond (ltb (length w) k) (keeps p (plain w)) (head_tells p h))
chosen is p u w n k m h e f g = rw (e, f) (pick (ltb (length w) n))
  where
    pick : (l : Bool) → Agrees is (cond l (begun is p w) (with_meaning (begun is p u) m)) (cond l (keeps p (plain w)) (head_tells p (head_meaning m)))
    pick true = waits is p w g
    pick false = meant is p u m

-- ---- the types of messages

-- the front of a message is all of it, unless a list or a text follows
data Kind (x : ℕ) : Type 0 where
  list : x ≡ 2 → Kind x
  text : x ≡ 6 → Kind x
  whole : eqb x 2 ≡ false → eqb x 6 ≡ false → ((n m : ℕ) → length_by x n m ≡ front_length x) → Kind x

kind_of : (x : ℕ) → Kind x
kind_of x =
    elim (eqb_tells x 2) [
      | inl b ↦ list b.1
      | inr b ↦ elim (eqb_tells x 6) [
        | inl f ↦ text f.1
        | inr f ↦ whole b.0 f.0 (λ n m. rw (b.0, f.0) refl)
      ]
    ]

-- ---- the front of a message

short : (is : List Item) (p : Phase) (u w : List ℕ) (n : ℕ) (m : Result Item Fault) → length w < n → unfinished_of p waiting w ≡ plain w
    → Agrees is (cond (ltb (length w) n) (begun is p w) (with_meaning (begun is p u) m)) (keeps p (plain w))
short is p u w n m h e = rw (lt-ltb (length w) n h) (waits is p w e)

positive : (n : ℕ) → eqb (suc n) 0 ≡ false
positive n = elim (eqb_tells (suc n) 0) [ inl x ↦ absurd (omega arith) | inr x ↦ x.0 ]

list_begins : (is : List Item) (v : Version) (u w : List ℕ) (n : ℕ) → unfinished_of (phase.Open v) waiting w ≡ encodings n 0 nothing_given []
    → Agrees is (cond (ltb 4 (4 + 4 * n)) (begun is (phase.Open v) w) (with_meaning (begun is (phase.Open v) u) (Ok (encodings_meaning [])))) (head_tells (phase.Open v) (encodings_head n))
list_begins is v u w zero e = meant is (phase.Open v) u (Ok (encodings_meaning []))
list_begins is v u w (suc n) e = rw (lt-ltb 4 (4 + 4 * suc n) (omega arith), positive n) (record { items = sym (append-nil is); rest = rw e refl })

text_begins : (is : List Item) (v : Version) (u w : List ℕ) (n : ℕ) → unfinished_of (phase.Open v) waiting w ≡ cut_text n [] 0
    → Agrees is (cond (ltb 8 (8 + n)) (begun is (phase.Open v) w) (with_meaning (begun is (phase.Open v) u) (Ok (text_meaning [])))) (head_tells (phase.Open v) (text_head n))
text_begins is v u w zero e = meant is (phase.Open v) u (Ok (text_meaning []))
text_begins is v u w (suc n) e = rw (lt-ltb 8 (8 + suc n) (omega arith), positive n) (record { items = sym (append-nil is); rest = rw e refl })

list_front : (is : List Item) (v : Version) (u xs : List ℕ) → length xs < 4
    → Agrees is (with_unfinished (begun is (phase.Open v) u) (2 ∷ xs)) (plain_tells (phase.Open v) (2 ∷ xs))
list_front is v u [] h = waits is (phase.Open v) (2 ∷ []) refl
list_front is v u (p ∷ []) h = waits is (phase.Open v) (2 ∷ p ∷ []) refl
list_front is v u (p ∷ c ∷ []) h = short is (phase.Open v) u (2 ∷ p ∷ c ∷ []) (message_length (2 ∷ p ∷ c ∷ [])) (message_meaning (2 ∷ p ∷ c ∷ [])) (omega arith) refl
list_front is v u (p ∷ c ∷ d ∷ []) h = list_begins is v u (2 ∷ p ∷ c ∷ d ∷ []) (be16_at (2 ∷ p ∷ c ∷ d ∷ []) 2) refl
list_front is v u (p ∷ c ∷ d ∷ e ∷ xs) h = absurd (omega arith)

text_front : (is : List Item) (v : Version) (u xs : List ℕ) → length xs < 8
    → Agrees is (with_unfinished (begun is (phase.Open v) u) (6 ∷ xs)) (plain_tells (phase.Open v) (6 ∷ xs))
text_front is v u [] h = waits is (phase.Open v) (6 ∷ []) refl
text_front is v u (p ∷ []) h = waits is (phase.Open v) (6 ∷ p ∷ []) refl
text_front is v u (p ∷ q ∷ []) h = waits is (phase.Open v) (6 ∷ p ∷ q ∷ []) refl
text_front is v u (p ∷ q ∷ r ∷ []) h = waits is (phase.Open v) (6 ∷ p ∷ q ∷ r ∷ []) refl
text_front is v u (p ∷ q ∷ r ∷ a ∷ []) h =
    short is (phase.Open v) u (6 ∷ p ∷ q ∷ r ∷ a ∷ []) (message_length (6 ∷ p ∷ q ∷ r ∷ a ∷ [])) (message_meaning (6 ∷ p ∷ q ∷ r ∷ a ∷ [])) (omega arith) refl
text_front is v u (p ∷ q ∷ r ∷ a ∷ b ∷ []) h =
    short is (phase.Open v) u (6 ∷ p ∷ q ∷ r ∷ a ∷ b ∷ []) (message_length (6 ∷ p ∷ q ∷ r ∷ a ∷ b ∷ [])) (message_meaning (6 ∷ p ∷ q ∷ r ∷ a ∷ b ∷ [])) (omega arith) refl
text_front is v u (p ∷ q ∷ r ∷ a ∷ b ∷ c ∷ []) h =
    short is (phase.Open v) u (6 ∷ p ∷ q ∷ r ∷ a ∷ b ∷ c ∷ []) (message_length (6 ∷ p ∷ q ∷ r ∷ a ∷ b ∷ c ∷ [])) (message_meaning (6 ∷ p ∷ q ∷ r ∷ a ∷ b ∷ c ∷ [])) (omega arith) refl
text_front is v u (p ∷ q ∷ r ∷ a ∷ b ∷ c ∷ d ∷ []) h = text_begins is v u (6 ∷ p ∷ q ∷ r ∷ a ∷ b ∷ c ∷ d ∷ []) (be32_at (6 ∷ p ∷ q ∷ r ∷ a ∷ b ∷ c ∷ d ∷ []) 4) refl
text_front is v u (p ∷ q ∷ r ∷ a ∷ b ∷ c ∷ d ∷ e ∷ xs) h = absurd (omega arith)

whole_front : (is : List Item) (v : Version) (u : List ℕ) (x : ℕ) (xs : List ℕ) → eqb x 2 ≡ false → eqb x 6 ≡ false → ((n m : ℕ) → length_by x n m ≡ front_length x)
    → Agrees is (with_unfinished (begun is (phase.Open v) u) (x ∷ xs)) (plain_tells (phase.Open v) (x ∷ xs))
whole_front is v u x xs b f e =
    chosen is (phase.Open v) u (x ∷ xs) (message_length (x ∷ xs)) (front_length x) (message_meaning (x ∷ xs)) (message_head (x ∷ xs))
    (sym (e (be16_at (x ∷ xs) 2) (be32_at (x ∷ xs) 4))) (rw (b, f) refl) (rw (b, f) refl)

-- ---- the numbers of a list

-- whole numbers, and the bytes of the next
record Cut (more : List ℕ) (come : ℕ) (next : List ℕ) : Type 0 where
  pub count : length more / 4 ≡ come
  pub behind : drop (4 * come) more ≡ next
  pub short : length next < 4
  pub whole : length more ≡ 4 * come + length next
  pub stays : (b : ℕ) → length next < 3 → numbers_of (more ++ b ∷ []) ≡ numbers_of more
  pub grows : (b : ℕ) → length next ≡ 3 → numbers_of (more ++ b ∷ []) ≡ numbers_of more ++ number_in (next ++ b ∷ []) ∷ []

longer : (a b c d : ℕ) (more : List ℕ) (come : ℕ) (next : List ℕ) → Cut more come next → Cut (a ∷ b ∷ c ∷ d ∷ more) (suc come) next
longer a b c d more come next h = record {
  count = omega (arith, h.count);
  behind = ap (λ (n : ℕ). drop n (a ∷ b ∷ c ∷ d ∷ more)) (let e : 4 * suc come ≡ suc (suc (suc (suc (4 * come)))) = omega arith in e) ∙ h.behind;
  short = h.short;
  whole = omega (arith, h.whole);
  stays = λ e lt. ap (λ ns. number_in (a ∷ b ∷ c ∷ d ∷ []) ∷ ns) (h.stays e lt);
  grows = λ e lt. ap (λ ns. number_in (a ∷ b ∷ c ∷ d ∷ []) ∷ ns) (h.grows e lt);
}

cut : (more : List ℕ) → (come : ℕ) × (next : List ℕ) × Cut more come next
cut [] = (0, [], record { count = refl; behind = refl; short = omega arith; whole = refl; stays = λ b lt. refl; grows = λ b e. absurd (omega arith) })
cut (a ∷ []) = (0, a ∷ [], record { count = refl; behind = refl; short = omega arith; whole = refl; stays = λ b lt. refl; grows = λ b e. absurd (omega arith) })
cut (a ∷ b ∷ []) = (0, a ∷ b ∷ [], record { count = refl; behind = refl; short = omega arith; whole = refl; stays = λ b lt. refl; grows = λ b e. absurd (omega arith) })
cut (a ∷ b ∷ c ∷ []) = (0, a ∷ b ∷ c ∷ [], record { count = refl; behind = refl; short = omega arith; whole = refl; stays = λ b lt. absurd (omega arith); grows = λ b e. refl })
cut (a ∷ b ∷ c ∷ d ∷ more) = let h = cut more in (suc h.0, h.1, longer a b c d more h.0 h.1 h.2)

-- what numbers give, with one more
first_more : (ns : List ℤ) (n : ℤ) → first_encoding (ns ++ n ∷ []) ≡ option_or (first_encoding ns) (encoding_of n)
first_more ns n = ap (λ es. slice_get es 0) (filter_map-append encoding_of ns (n ∷ [])) ∙ go (filter_map encoding_of ns) (encoding_of n)
  where
    go : (es : List Encoding) (o : Option Encoding) → slice_get (es ++ cons_option o []) 0 ≡ option_or (slice_get es 0) o
    go [] None = refl
    go [] (Some e) = refl
    go (e ∷ es) o = refl

copyrect_more : (ns : List ℤ) (n : ℤ) → lists_copyrect (ns ++ n ∷ []) ≡ (lists_copyrect ns || is_copyrect n)
copyrect_more ns n = list_any-append is_copyrect ns (n ∷ []) ∙ go (lists_copyrect ns) (is_copyrect n)
  where
    go : (a b : Bool) → (a || (b || false)) ≡ (a || b)
    go true b = refl
    go false true = refl
    go false false = refl

size_more : (ns : List ℤ) (n : ℤ) → lists_desktop_size (ns ++ n ∷ []) ≡ (lists_desktop_size ns || is_desktop_size n)
size_more ns n = list_any-append is_desktop_size ns (n ∷ []) ∙ go (lists_desktop_size ns) (is_desktop_size n)
  where
    go : (a b : Bool) → (a || (b || false)) ≡ (a || b)
    go true b = refl
    go false true = refl
    go false false = refl

abbrev given_by : List ℤ → Given
given_by ns = record { first = first_encoding ns; copyrect = lists_copyrect ns; resize = lists_desktop_size ns }

given_more : (ns : List ℤ) (n : ℤ) → given_by (ns ++ n ∷ []) ≡ with_number (given_by ns) n
given_more ns n = rw (first_more ns n, copyrect_more ns n, size_more ns n) refl

-- a list whose count has come, with a byte more
abbrev list_of : ℕ → ℕ → ℕ → List ℕ → List ℕ
list_of p c d more = 2 ∷ p ∷ c ∷ d ∷ more

abbrev count_in : ℕ → ℕ → ℕ
count_in c d = be16_at (2 ∷ 0 ∷ c ∷ d ∷ []) 2

list_kept : (p c d : ℕ) (more : List ℕ) (come : ℕ) (next : List ℕ) (ns : List ℤ) → length more / 4 ≡ come → drop (4 * come) more ≡ next → numbers_of more ≡ ns
    → unfinished_message (list_of p c d more) ≡ encodings (count_in c d) come (given_by ns) next
list_kept p c d more come next ns e f g =
    rw (le-leb 4 (length (list_of p c d more)) (omega arith))
    (ap (λ (k : ℕ). encodings (count_in c d) k (given_by (numbers_of more)) (drop (4 * k) more)) e
    ∙ ap (λ (t : List ℕ). encodings (count_in c d) come (given_by (numbers_of more)) t) f
    ∙ ap (λ (ms : List ℤ). encodings (count_in c d) come (given_by ms) next) g)

lists_tell : (is : List Item) (v : Version) (u w : List ℕ) (n come : ℕ) (ns : List ℤ) → length w ≡ 4 + 4 * come → come ≤ n
    → unfinished_of (phase.Open v) waiting w ≡ encodings n come (given_by ns) []
    → Agrees is (cond (ltb (length w) (4 + 4 * n)) (begun is (phase.Open v) w) (with_meaning (begun is (phase.Open v) u) (Ok (encodings_meaning ns)))) (numbers_tell (phase.Open v) n come (given_by ns))
lists_tell is v u w n come ns e le f =
    elim (eqb_tells come n) [
      | inl x ↦ rw (le-ltb (length w) (4 + 4 * n) (omega (arith, e, x.1)), x.0) (record { items = refl; rest = refl })
      | inr x ↦ rw (lt-ltb (length w) (4 + 4 * n) (omega (arith, e, x.1)), x.0) (record { items = sym (append-nil is); rest = rw f refl })
    ]

-- with a byte more of the next number, and with its last byte
list_stays : (is : List Item) (v : Version) (p c d : ℕ) (more : List ℕ) (b come : ℕ) (next : List ℕ) → Cut more come next → length more < 4 * count_in c d → length next < 3
    → Agrees is (with_unfinished (begun is (phase.Open v) (list_of p c d more)) (list_of p c d (more ++ b ∷ []))) (number_tells (phase.Open v) (count_in c d) come (given_by (numbers_of more)) (next ++ b ∷ []))
list_stays is v p c d more b come next h short lt =
    let long : length (more ++ b ∷ []) ≡ length more + 1 = length-append more (b ∷ []) in
    let kept : unfinished_message (list_of p c d (more ++ b ∷ [])) ≡ encodings (count_in c d) come (given_by (numbers_of more)) (next ++ b ∷ []) =
    list_kept p c d (more ++ b ∷ []) come (next ++ b ∷ []) (numbers_of more)
    (omega (arith, long, h.whole, lt))
    (drop-append-le (4 * come) more (b ∷ []) (omega (arith, h.whole)) ∙ ap (λ (t : List ℕ). t ++ b ∷ []) h.behind)
    (h.stays b lt) in
    rw (
      lt-ltb (length (list_of p c d (more ++ b ∷ []))) (4 + 4 * count_in c d) (omega (arith, long, h.whole, lt, short)),
      lt-ltb (length (next ++ b ∷ [])) 4 (omega (arith, length-append next (b ∷ []), lt)),
    )
    (record { items = sym (append-nil is); rest = rw kept refl })

list_grows : (is : List Item) (v : Version) (p c d : ℕ) (more : List ℕ) (b come : ℕ) (next : List ℕ) → Cut more come next → length more < 4 * count_in c d → length next ≡ 3
    → Agrees is (with_unfinished (begun is (phase.Open v) (list_of p c d more)) (list_of p c d (more ++ b ∷ []))) (number_tells (phase.Open v) (count_in c d) come (given_by (numbers_of more)) (next ++ b ∷ []))
list_grows is v p c d more b come next h short e =
    let long : length (more ++ b ∷ []) ≡ length more + 1 = length-append more (b ∷ []) in
    let all : List ℤ = numbers_of more ++ number_in (next ++ b ∷ []) ∷ [] in
    let numbers : numbers_of (more ++ b ∷ []) ≡ all = h.grows b e in
    let kept : unfinished_message (list_of p c d (more ++ b ∷ [])) ≡ encodings (count_in c d) (come + 1) (given_by all) [] =
    list_kept p c d (more ++ b ∷ []) (come + 1) [] all
    (omega (arith, long, h.whole, e))
    (drop_of_length-le (more ++ b ∷ []) (omega (arith, long, h.whole, e)))
    numbers in
    let here = lists_tell is v (list_of p c d more) (list_of p c d (more ++ b ∷ [])) (count_in c d) (come + 1) all (omega (arith, long, h.whole, e)) (omega (arith, h.whole, e, short)) kept in
    let whole : Agrees is (at all) (numbers_tell (phase.Open v) (count_in c d) (come + 1) (with_number (given_by (numbers_of more)) (number_in (next ++ b ∷ [])))) =
    subst (λ (g : Given). Agrees is (at all) (numbers_tell (phase.Open v) (count_in c d) (come + 1) g)) (given_more (numbers_of more) (number_in (next ++ b ∷ []))) here in
    subst (λ (ns : List ℤ). Agrees is (at ns) (number_tells (phase.Open v) (count_in c d) come (given_by (numbers_of more)) (next ++ b ∷ []))) (sym numbers)
    (rw (le-ltb (length (next ++ b ∷ [])) 4 (omega (arith, length-append next (b ∷ []), e))) whole)
  where
    at : List ℤ → Conversation
    at ns = cond (ltb (length (list_of p c d (more ++ b ∷ []))) (4 + 4 * count_in c d)) (begun is (phase.Open v) (list_of p c d (more ++ b ∷ [])))
        (with_meaning (begun is (phase.Open v) (list_of p c d more)) (Ok (encodings_meaning ns)))

list_byte : (is : List Item) (v : Version) (p c d : ℕ) (more : List ℕ) (b : ℕ) → length more < 4 * count_in c d
    → Agrees is (with_unfinished (begun is (phase.Open v) (list_of p c d more)) (list_of p c d (more ++ b ∷ []))) (byte_tells (phase.Open v) (unfinished_message (list_of p c d more)) b)
list_byte is v p c d more b h =
    let k = cut more in
    let kept : unfinished_message (list_of p c d more) ≡ encodings (count_in c d) k.0 (given_by (numbers_of more)) k.1 = list_kept p c d more k.0 k.1 (numbers_of more) k.2.count k.2.behind refl in
    subst (λ u. Agrees is (with_unfinished (begun is (phase.Open v) (list_of p c d more)) (list_of p c d (more ++ b ∷ []))) (byte_tells (phase.Open v) u b)) (sym kept)
    (elim (cases_lt (length k.1) 3) [
      | inl lt ↦ list_stays is v p c d more b k.0 k.1 k.2 h lt
      | inr le ↦ list_grows is v p c d more b k.0 k.1 k.2 h (omega (arith, k.2.short, le))
    ])

-- ---- the bytes of a text

abbrev text_of : ℕ → ℕ → ℕ → ℕ → ℕ → ℕ → ℕ → List ℕ → List ℕ
text_of p q r a b c d more = 6 ∷ p ∷ q ∷ r ∷ a ∷ b ∷ c ∷ d ∷ more

abbrev length_in : ℕ → ℕ → ℕ → ℕ → ℕ
length_in a b c d = be32_at (a ∷ b ∷ c ∷ d ∷ []) 0

pub take-take_append : (n : ℕ) (xs ys : List ℕ) → take n (take n xs ++ ys) ≡ take n (xs ++ ys)
take-take_append zero xs ys = refl
take-take_append (suc n) [] ys = refl
take-take_append (suc n) (x ∷ xs) ys = ap (λ (t : List ℕ). x ∷ t) (take-take_append n xs ys)

text_kept : (p q r a b c d : ℕ) (more : List ℕ) → unfinished_message (text_of p q r a b c d more) ≡ cut_text (length_in a b c d) (take text_limit more) (length more)
text_kept p q r a b c d more = rw (le-leb 8 (length (text_of p q r a b c d more)) (omega arith)) refl

text_comes : (is : List Item) (v : Version) (u w more : List ℕ) (long come : ℕ) → length w ≡ 8 + length more → length more ≡ come → come ≤ long
    → unfinished_of (phase.Open v) waiting w ≡ cut_text long (take text_limit more) (length more)
    → Agrees is (cond (ltb (length w) (8 + long)) (begun is (phase.Open v) w) (with_meaning (begun is (phase.Open v) u) (Ok (text_meaning more)))) (text_tells (phase.Open v) long (take text_limit more) come)
text_comes is v u w more long come e g le f =
    elim (eqb_tells come long) [
      | inl x ↦ rw (le-ltb (length w) (8 + long) (omega (arith, e, g, x.1)), x.0) (record { items = ap (λ (n : ℕ). is ++ item.Input (input.Text (take text_limit more) (ltb text_limit n)) ∷ []) (g ∙ x.1); rest = refl })
      | inr x ↦ rw (lt-ltb (length w) (8 + long) (omega (arith, e, g, x.1)), x.0) (record { items = sym (append-nil is); rest = rw (f, g) refl })
    ]

text_byte : (is : List Item) (v : Version) (p q r a b c d : ℕ) (more : List ℕ) (byte : ℕ) → length more < length_in a b c d
    → Agrees is (with_unfinished (begun is (phase.Open v) (text_of p q r a b c d more)) (text_of p q r a b c d (more ++ byte ∷ []))) (byte_tells (phase.Open v) (unfinished_message (text_of p q r a b c d more)) byte)
text_byte is v p q r a b c d more byte h =
    let here : Agrees is at (text_tells (phase.Open v) (length_in a b c d) (take text_limit (more ++ byte ∷ [])) (length more + 1)) =
    text_comes is v (text_of p q r a b c d more) (text_of p q r a b c d (more ++ byte ∷ [])) (more ++ byte ∷ []) (length_in a b c d) (length more + 1) (omega arith) (length-append more (byte ∷ [])) (omega (arith, h)) (text_kept p q r a b c d (more ++ byte ∷ [])) in
    subst (λ u. Agrees is at (byte_tells (phase.Open v) u byte)) (sym (text_kept p q r a b c d more))
    (subst (λ (t : List ℕ). Agrees is at (text_tells (phase.Open v) (length_in a b c d) t (length more + 1))) (sym (take-take_append text_limit more (byte ∷ []))) here)
  where
    at : Conversation
    at = with_unfinished (begun is (phase.Open v) (text_of p q r a b c d more)) (text_of p q r a b c d (more ++ byte ∷ []))

-- ---- a byte of any message

front : (is : List Item) (v : Version) (u : List ℕ) (x : ℕ) (xs : List ℕ) → Kind x → length xs < front_length x
    → Agrees is (with_unfinished (begun is (phase.Open v) u) (x ∷ xs)) (plain_tells (phase.Open v) (x ∷ xs))
front is v u x xs (list e) h = let short : length xs < 4 = rw e at h in rw e (list_front is v u xs short)
front is v u x xs (text e) h = let short : length xs < 8 = rw e at h in rw e (text_front is v u xs short)
front is v u x xs (whole b f e) h = whole_front is v u x xs b f e

list_goes_on : (is : List Item) (v : Version) (xs : List ℕ) (b : ℕ) → length (2 ∷ xs) < message_length (2 ∷ xs)
    → Agrees is (with_unfinished (begun is (phase.Open v) (2 ∷ xs)) (2 ∷ (xs ++ b ∷ []))) (byte_tells (phase.Open v) (unfinished_message (2 ∷ xs)) b)
list_goes_on is v [] b h = list_front is v (2 ∷ []) (b ∷ []) (omega arith)
list_goes_on is v (p ∷ []) b h = list_front is v (2 ∷ p ∷ []) (p ∷ b ∷ []) (omega arith)
list_goes_on is v (p ∷ c ∷ []) b h = list_front is v (2 ∷ p ∷ c ∷ []) (p ∷ c ∷ b ∷ []) (omega arith)
list_goes_on is v (p ∷ c ∷ d ∷ more) b h = list_byte is v p c d more b (omega arith)

text_goes_on : (is : List Item) (v : Version) (xs : List ℕ) (byte : ℕ) → length (6 ∷ xs) < message_length (6 ∷ xs)
    → Agrees is (with_unfinished (begun is (phase.Open v) (6 ∷ xs)) (6 ∷ (xs ++ byte ∷ []))) (byte_tells (phase.Open v) (unfinished_message (6 ∷ xs)) byte)
text_goes_on is v [] byte h = text_front is v (6 ∷ []) (byte ∷ []) (omega arith)
text_goes_on is v (p ∷ []) byte h = text_front is v (6 ∷ p ∷ []) (p ∷ byte ∷ []) (omega arith)
text_goes_on is v (p ∷ q ∷ []) byte h = text_front is v (6 ∷ p ∷ q ∷ []) (p ∷ q ∷ byte ∷ []) (omega arith)
text_goes_on is v (p ∷ q ∷ r ∷ []) byte h = text_front is v (6 ∷ p ∷ q ∷ r ∷ []) (p ∷ q ∷ r ∷ byte ∷ []) (omega arith)
text_goes_on is v (p ∷ q ∷ r ∷ a ∷ []) byte h = text_front is v (6 ∷ p ∷ q ∷ r ∷ a ∷ []) (p ∷ q ∷ r ∷ a ∷ byte ∷ []) (omega arith)
text_goes_on is v (p ∷ q ∷ r ∷ a ∷ b ∷ []) byte h = text_front is v (6 ∷ p ∷ q ∷ r ∷ a ∷ b ∷ []) (p ∷ q ∷ r ∷ a ∷ b ∷ byte ∷ []) (omega arith)
text_goes_on is v (p ∷ q ∷ r ∷ a ∷ b ∷ c ∷ []) byte h = text_front is v (6 ∷ p ∷ q ∷ r ∷ a ∷ b ∷ c ∷ []) (p ∷ q ∷ r ∷ a ∷ b ∷ c ∷ byte ∷ []) (omega arith)
text_goes_on is v (p ∷ q ∷ r ∷ a ∷ b ∷ c ∷ d ∷ more) byte h = text_byte is v p q r a b c d more byte (omega arith)

goes_on : (is : List Item) (v : Version) (x : ℕ) (xs : List ℕ) (b : ℕ) → Kind x → length (x ∷ xs) < message_length (x ∷ xs)
    → Agrees is (with_unfinished (begun is (phase.Open v) (x ∷ xs)) (x ∷ (xs ++ b ∷ []))) (byte_tells (phase.Open v) (unfinished_message (x ∷ xs)) b)
goes_on is v x xs b (list e) h = let short : length (2 ∷ xs) < message_length (2 ∷ xs) = rw e at h in rw e (list_goes_on is v xs b short)
goes_on is v x xs b (text e) h = let short : length (6 ∷ xs) < message_length (6 ∷ xs) = rw e at h in rw e (text_goes_on is v xs b short)
goes_on is v x xs b (whole f g e) h =
    let kept : unfinished_message (x ∷ xs) ≡ plain (x ∷ xs) = rw (f, g) refl in
    subst (λ u. Agrees is (with_unfinished (begun is (phase.Open v) (x ∷ xs)) (x ∷ (xs ++ b ∷ []))) (byte_tells (phase.Open v) u b)) (sym kept) (whole_front is v (x ∷ xs) x (xs ++ b ∷ []) f g e)

opens : (x : ℕ) → 0 < front_length x
opens x =
    elim (kind_of x) [
      | list e ↦ rw e (omega arith)
      | text e ↦ rw e (omega arith)
      | whole f g e ↦ elim (told x) [
        | by_count k ↦ omega (arith, k 0 0, e 0 0)
        | by_length k ↦ omega (arith, k 0 0, e 0 0)
        | by_kind n lt k ↦ omega (arith, k 0 0, e 0 0, lt)
      ]
    ]

byte : (is : List Item) (p : Phase) (u : List ℕ) (b : ℕ) → length u < wanted p u → Agrees is (with_unfinished (begun is p u) (u ++ b ∷ [])) (byte_tells p (unfinished_of p waiting u) b)
byte is phase.Version u b h = chosen is phase.Version u (u ++ b ∷ []) 12 12 (meaning phase.Version (u ++ b ∷ [])) _ refl refl refl
byte is (phase.Choice v) u b h = chosen is (phase.Choice v) u (u ++ b ∷ []) 1 1 (meaning (phase.Choice v) (u ++ b ∷ [])) _ refl refl refl
byte is (phase.Init v) u b h = chosen is (phase.Init v) u (u ++ b ∷ []) 1 1 (meaning (phase.Init v) (u ++ b ∷ [])) _ refl refl refl
byte is (phase.Open v) [] b h = front is v [] b [] (kind_of b) (opens b)
byte is (phase.Open v) (x ∷ xs) b h = goes_on is v x xs b (kind_of x) h

-- ---- any bytes

-- a byte more can come
abbrev pub Ready : Conversation → Type 0
Ready h = elim h.end [ waiting ↦ length h.unfinished < wanted h.phase h.unfinished | faulty k ↦ Unit {0} ]

one_byte : (is : List Item) (p : Phase) (u : List ℕ) (end : End) (b : ℕ) → Ready (record { items = is; phase = p; unfinished = u; end = end })
    → Agrees is (hear_byte (record { items = is; phase = p; unfinished = u; end = end }) b) (byte_tells p (unfinished_of p end u) b)
one_byte is p u waiting b h = byte is p u b h
one_byte is p u (faulty k) b h = record { items = sym (append-nil is); rest = refl }

ready_meant : (is : List Item) (p : Phase) (u : List ℕ) (m : Result Item Fault) → Ready (with_meaning (begun is p u) m)
ready_meant is p u (Ok i) = empty_wanted (after p i)
ready_meant is p u (Err k) = tt

ready_byte : (is : List Item) (p : Phase) (u : List ℕ) (end : End) (b : ℕ) → Ready (hear_byte (record { items = is; phase = p; unfinished = u; end = end }) b)
ready_byte is p u (faulty k) b = tt
ready_byte is p u waiting b = go (ltb (length (u ++ b ∷ [])) (wanted p (u ++ b ∷ []))) refl
  where
    go : (l : Bool) → ltb (length (u ++ b ∷ [])) (wanted p (u ++ b ∷ [])) ≡ l → Ready (cond l (begun is p (u ++ b ∷ [])) (with_meaning (begun is p u) (meaning p (u ++ b ∷ []))))
    go true e = ltb-true _ _ e
    go false e = ready_meant is p u (meaning p (u ++ b ∷ []))

-- what is told of a front, and then of what follows
behind : (is : List Item) (h g : Conversation) (t : Told) (next : Rest → Told) → Agrees is h t → Agrees h.items g (next (rest_of h)) → Agrees is g (then_tells t next)
behind is h g t next a b =
    let more : Agrees h.items g (next t.rest) = subst (λ (r : Rest). Agrees h.items g (next r)) a.rest b in
    record { items = more.items ∙ ap (λ (js : List Item). js ++ (next t.rest).items) a.items ∙ append_assoc is t.items (next t.rest).items; rest = more.rest }

pub hears : (bytes : List ℕ) (h : Conversation) → Ready h → Agrees h.items (hear h bytes) (tells (rest_of h) bytes)
hears [] h ready = record { items = sym (append-nil h.items); rest = refl }
hears (b ∷ bytes) h ready =
    behind h.items (hear_byte h b) (hear (hear_byte h b) bytes) (byte_tells h.phase (unfinished_of h.phase h.end h.unfinished) b) (λ r. tells r bytes)
    (one_byte h.items h.phase h.unfinished h.end b ready)
    (hears bytes (hear_byte h b) (ready_byte h.items h.phase h.unfinished h.end b))

ready : (bytes : List ℕ) (h : Conversation) → Ready h → Ready (hear h bytes)
ready [] h r = r
ready (b ∷ bytes) h r = ready bytes (hear_byte h b) (ready_byte h.items h.phase h.unfinished h.end b)

-- what is kept of bytes tells all that further bytes add
pub heard_tells : (s t : List ℕ) → Agrees (heard s).items (heard (s ++ t)) (tells (rest s) t)
heard_tells s t =
    let start : Ready nothing_heard = omega arith in
    subst (λ (h : Conversation). Agrees (heard s).items h (tells (rest s) t)) (sym (fold-append hear_byte nothing_heard s t)) (hears t (heard s) (ready s nothing_heard start))
