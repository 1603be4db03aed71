-- What many bytes tell at once.
use Rattle.std.proofs.Common.{◌≡◌, ℕ, zero, suc, ◌+◌, ◌<◌, ◌≤◌, inl, inr, Bool, true, false, cond, eqb, ltb, List, [], ◌∷◌, ◌++◌, length, take, drop, slice_index, Result, Ok, Err, refl, sym, ap, ◌∙◌, arith, append_assoc}
use Rattle.std.proofs.lemmas.Bool.{le-ltb, lt-ltb, eq-eqb}
use Rattle.std.proofs.lemmas.Bool.Decides.{eqb_tells}
use Rattle.std.proofs.lemmas.List.{length-append, append-nil, length-take, take_all}
use Rattle.pixel_translate.specs.Pixel.{be16_at, be32_at}
use Rattle.messages.specs.declared.Input.TheVariants as input
use Rattle.messages.specs.declared.Item.{Item}
use Rattle.messages.specs.declared.Item.TheVariants as item
use Rattle.messages.specs.declared.Phase.{Phase}
use Rattle.messages.specs.declared.Phase.TheVariants as phase
use Rattle.messages.specs.declared.Fault.{Fault}
use Rattle.messages.specs.declared.heads.Head.{Head}
use Rattle.messages.specs.Grammar.{text_limit}
use Rattle.messages.specs.Reading.{meaning, message_meaning, Given, Unfinished, plain, encodings, cut_text, faulted, Rest}
use Rattle.messages.specs.Steps.{head_length, head_meaning, head_of, encodings_head, text_head, IsHead, IsBegun, Told, keeps, says, head_tells, number_in, with_number, numbers_tell, byte_tells, adds, then_tells, tells}
use Rattle.messages.specs.Partial.{rest_at}
use Rattle.messages.proofs.Telling.{take-take_append}

-- ---- bytes that are kept until there are so many

module _ (p : Phase) (n : ℕ) (state : List ℕ → Unfinished) (done : List ℕ → Told) (whole : List ℕ)
    (each : (u : List ℕ) (b : ℕ) (t : List ℕ) → u ++ b ∷ t ≡ whole → byte_tells p (state u) b ≡ cond (ltb (length (u ++ b ∷ [])) n) (keeps p (state (u ++ b ∷ []))) (done (u ++ b ∷ []))) where
  -- a byte more, and not the last
  one_kept : (u : List ℕ) (b : ℕ) (t : List ℕ) → u ++ b ∷ t ≡ whole → length u + 1 < n → tells (rest_at p (state u)) (b ∷ t) ≡ tells (rest_at p (state (u ++ b ∷ []))) t
  one_kept u b t e lt =
      let here : byte_tells p (state u) b ≡ keeps p (state (u ++ b ∷ [])) =
      each u b t e ∙ ap (λ (l : Bool). cond l (keeps p (state (u ++ b ∷ []))) (done (u ++ b ∷ []))) (lt-ltb (length (u ++ b ∷ [])) n (omega (arith, length-append u (b ∷ []), lt))) in
      ap (λ (s : Told). then_tells s (λ r. tells r t)) here

  -- the last
  one_last : (u : List ℕ) (b : ℕ) (t : List ℕ) → u ++ b ∷ t ≡ whole → length u + 1 ≡ n → tells (rest_at p (state u)) (b ∷ t) ≡ then_tells (done (u ++ b ∷ [])) (λ r. tells r t)
  one_last u b t e same =
      let here : byte_tells p (state u) b ≡ done (u ++ b ∷ []) =
      each u b t e ∙ ap (λ (l : Bool). cond l (keeps p (state (u ++ b ∷ []))) (done (u ++ b ∷ []))) (le-ltb (length (u ++ b ∷ [])) n (omega (arith, length-append u (b ∷ []), same))) in
      ap (λ (s : Told). then_tells s (λ r. tells r t)) here

  fills : (t u : List ℕ) (k : ℕ) → u ++ t ≡ whole → suc k + length u ≡ n → suc k ≤ length t
      → tells (rest_at p (state u)) t ≡ then_tells (done (u ++ take (suc k) t)) (λ r. tells r (drop (suc k) t))
  fills [] u k e f h = absurd (omega arith)
  fills (b ∷ t) u zero e f h = one_last u b t e (omega arith)
  fills (b ∷ t) u (suc k) e f h =
      one_kept u b t e (omega arith)
      ∙ fills t (u ++ b ∷ []) k (append_assoc u (b ∷ []) t ∙ e) (omega (arith, f, length-append u (b ∷ []))) (omega arith)
      ∙ ap (λ (bytes : List ℕ). then_tells (done bytes) (λ r. tells r (drop (suc k) t))) (append_assoc u (b ∷ []) (take (suc k) t))

  waits : (t u : List ℕ) → u ++ t ≡ whole → length whole < n → tells (rest_at p (state u)) t ≡ keeps p (state whole)
  waits [] u e h = ap (λ (bytes : List ℕ). keeps p (state bytes)) (sym (append-nil u) ∙ e)
  waits (b ∷ t) u e h =
      one_kept u b t e (let long : length u + suc (length t) ≡ length whole = sym (length-append u (b ∷ t)) ∙ ap length e in omega arith)
      ∙ waits t (u ++ b ∷ []) (append_assoc u (b ∷ []) t ∙ e) h

-- ---- the front of a message

first_same : (u : List ℕ) (b : ℕ) (t : List ℕ) → slice_index (u ++ b ∷ t) 0 ≡ slice_index (u ++ b ∷ []) 0
first_same [] b t = refl
first_same (x ∷ u) b t = refl

front_byte : (p : Phase) (whole u : List ℕ) (b : ℕ) (t : List ℕ) → u ++ b ∷ t ≡ whole
    → byte_tells p (plain u) b ≡ cond (ltb (length (u ++ b ∷ [])) (head_length p (slice_index whole 0))) (keeps p (plain (u ++ b ∷ []))) (head_tells p (head_of p (u ++ b ∷ [])))
front_byte p whole u b t e =
    ap (λ (x : ℕ). cond (ltb (length (u ++ b ∷ [])) (head_length p x)) (keeps p (plain (u ++ b ∷ []))) (head_tells p (head_of p (u ++ b ∷ []))))
    (sym (first_same u b t) ∙ ap (λ (bytes : List ℕ). slice_index bytes 0) e)

-- a whole front
pub head_ends : (p : Phase) (partial piece : List ℕ) (said : Head) (used : ℕ) → IsHead p partial piece said used → 0 < used → used ≤ length piece
    → tells (rest_at p (plain partial)) piece ≡ then_tells (head_tells p said) (λ r. tells r (drop used piece))
head_ends p partial piece said zero h some le = absurd (omega arith)
head_ends p partial piece said (suc k) h some le =
    fills p (head_length p (slice_index (partial ++ piece) 0)) plain (λ bytes. head_tells p (head_of p bytes)) (partial ++ piece) (front_byte p (partial ++ piece)) piece partial k refl h.whole le
    ∙ ap (λ (m : Head). then_tells (head_tells p m) (λ r. tells r (drop (suc k) piece))) (sym h.said_by)

-- a part of one
pub head_waits : (p : Phase) (partial piece : List ℕ) → length (partial ++ piece) < head_length p (slice_index (partial ++ piece) 0)
    → tells (rest_at p (plain partial)) piece ≡ keeps p (plain (partial ++ piece))
head_waits p partial piece h = waits p (head_length p (slice_index (partial ++ piece) 0)) plain (λ bytes. head_tells p (head_of p bytes)) (partial ++ piece) (front_byte p (partial ++ piece)) piece partial refl h

-- ---- a number

pub number_ends : (p : Phase) (count come : ℕ) (given : Given) (next piece : List ℕ) (used : ℕ) → used + length next ≡ 4 → 0 < used → used ≤ length piece
    → tells (rest_at p (encodings count come given next)) piece ≡ then_tells (numbers_tell p count (come + 1) (with_number given (number_in (next ++ take used piece)))) (λ r. tells r (drop used piece))
number_ends p count come given next piece zero e some le = absurd (omega arith)
number_ends p count come given next piece (suc k) e some le =
    fills p 4 (encodings count come given) (λ bytes. numbers_tell p count (come + 1) (with_number given (number_in bytes))) (next ++ piece) (λ u b t f. refl) piece next k refl e le

pub number_waits : (p : Phase) (count come : ℕ) (given : Given) (next piece : List ℕ) → length (next ++ piece) < 4
    → tells (rest_at p (encodings count come given next)) piece ≡ keeps p (encodings count come given (next ++ piece))
number_waits p count come given next piece h =
    waits p 4 (encodings count come given) (λ bytes. numbers_tell p count (come + 1) (with_number given (number_in bytes))) (next ++ piece) (λ u b t f. refl) piece next refl h

-- ---- a text

-- what has been taken of a text, where it doesn't matter that the front was cut before
retaken : (kept_bytes : List ℕ) (b : ℕ) (t : List ℕ) → take text_limit (take text_limit (kept_bytes ++ b ∷ []) ++ t) ≡ take text_limit (kept_bytes ++ b ∷ t)
retaken bytes b t = take-take_append text_limit (bytes ++ b ∷ []) t ∙ ap (λ (u : List ℕ). take text_limit u) (append_assoc bytes (b ∷ []) t)

abbrev pub text_item : ℕ → List ℕ → Item
text_item long bytes = item.Input (input.Text (take text_limit bytes) (ltb text_limit long))

apart : (m n : ℕ) → m < n → eqb m n ≡ false
apart m n lt = elim (eqb_tells m n) [ inl x ↦ absurd (omega (arith, x.1)) | inr x ↦ x.0 ]

text_fills : (p : Phase) (long : ℕ) (t bytes : List ℕ) (come k : ℕ) → come + suc k ≡ long → suc k ≤ length t
    → tells (rest_at p (cut_text long bytes come)) t ≡ then_tells (says p (text_item long (bytes ++ take (suc k) t))) (λ r. tells r (drop (suc k) t))
text_fills p long [] bytes come k e h = absurd (omega arith)
text_fills p long (b ∷ t) bytes come zero e h = rw (eq-eqb (come + 1) long (omega arith)) refl
text_fills p long (b ∷ t) bytes come (suc k) e h =
    rw (apart (come + 1) long (omega arith))
    (text_fills p long t (take text_limit (bytes ++ b ∷ [])) (come + 1) k (omega arith) (omega arith)
    ∙ ap (λ (u : List ℕ). then_tells (says p (item.Input (input.Text u (ltb text_limit long)))) (λ r. tells r (drop (suc k) t))) (retaken bytes b (take (suc k) t)))

pub text_ends : (p : Phase) (long : ℕ) (t bytes : List ℕ) (come used : ℕ) → come + used ≡ long → 0 < used → used ≤ length t
    → tells (rest_at p (cut_text long bytes come)) t ≡ then_tells (says p (text_item long (bytes ++ take used t))) (λ r. tells r (drop used t))
text_ends p long t bytes come zero e some h = absurd (omega arith)
text_ends p long t bytes come (suc k) e some h = text_fills p long t bytes come k e h

pub text_waits : (p : Phase) (long : ℕ) (t bytes : List ℕ) (come : ℕ) → come + length t < long → length bytes ≤ text_limit
    → tells (rest_at p (cut_text long bytes come)) t ≡ keeps p (cut_text long (take text_limit (bytes ++ t)) (come + length t))
text_waits p long [] bytes come h short =
    ap (λ (u : List ℕ). keeps p (cut_text long u come)) (sym (take_all text_limit bytes short) ∙ ap (λ (u : List ℕ). take text_limit u) (sym (append-nil bytes)))
    ∙ ap (λ (n : ℕ). keeps p (cut_text long (take text_limit (bytes ++ [])) n)) (let e : come ≡ come + 0 = omega arith in e)
text_waits p long (b ∷ t) bytes come h short =
    rw (apart (come + 1) long (omega arith))
    (text_waits p long t (take text_limit (bytes ++ b ∷ [])) (come + 1) (omega arith) (omega (arith, length-take text_limit (bytes ++ b ∷ [])))
    ∙ ap (λ (u : List ℕ). keeps p (cut_text long u (come + 1 + length t))) (retaken bytes b t)
    ∙ ap (λ (n : ℕ). keeps p (cut_text long (take text_limit (bytes ++ b ∷ t)) n)) (let e : come + 1 + length t ≡ come + suc (length t) = omega arith in e))

-- ---- a fault

pub fault_stays : (p : Phase) (k : Fault) (t : List ℕ) → tells (rest_at p (faulted k)) t ≡ keeps p (faulted k)
fault_stays p k [] = refl
fault_stays p k (b ∷ t) = fault_stays p k t

-- ---- behind items

pub goes_on : (items items' : List Item) (r r' : Rest) (t : Told) (left piece : List ℕ) → tells r piece ≡ then_tells t (λ q. tells q left) → items' ≡ items ++ t.items → r' ≡ t.rest
    → adds items' (tells r' left) ≡ adds items (tells r piece)
goes_on items items' r r' t left piece e f g =
    rw (f, g, e) (ap (λ (is : List Item). let told : Told = record { items = is; rest = (tells t.rest left).rest } in told) (append_assoc items t.items (tells t.rest left).items))

-- ---- what begins isn't empty

positive : (n : ℕ) → eqb (suc n) 0 ≡ false
positive n = elim (eqb_tells (suc n) 0) [ inl x ↦ absurd (omega arith) | inr x ↦ x.0 ]

list_begun : (n : ℕ) → IsBegun (encodings_head n)
list_begun zero = tt
list_begun (suc n) = rw (positive n) (omega arith)

text_begun : (n : ℕ) → IsBegun (text_head n)
text_begun zero = tt
text_begun (suc n) = rw (positive n) (omega arith)

meaning_begun : (m : Result Item Fault) → IsBegun (head_meaning m)
meaning_begun (Ok i) = tt
meaning_begun (Err k) = tt

one_of : (a b : Bool) (x y z : Head) → IsBegun x → IsBegun y → IsBegun z → IsBegun (cond a x (cond b y z))
one_of true b x y z h k l = h
one_of false true x y z h k l = k
one_of false false x y z h k l = l

pub head_begun : (p : Phase) (bytes : List ℕ) → IsBegun (head_of p bytes)
head_begun phase.Version bytes = meaning_begun (meaning phase.Version bytes)
head_begun (phase.Choice v) bytes = meaning_begun (meaning (phase.Choice v) bytes)
head_begun (phase.Init v) bytes = meaning_begun (meaning (phase.Init v) bytes)
head_begun (phase.Open v) bytes =
    one_of (eqb (slice_index bytes 0) 2) (eqb (slice_index bytes 0) 6) (encodings_head (be16_at bytes 2)) (text_head (be32_at bytes 4)) (head_meaning (message_meaning bytes))
    (list_begun (be16_at bytes 2)) (text_begun (be32_at bytes 4)) (meaning_begun (message_meaning bytes))
