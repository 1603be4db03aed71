-- The bytes that are heard are a stream of the items, and of no others.
use Rattle.std.proofs.Common.{◌≡◌, ℕ, zero, suc, ◌-◌, ◌<◌, ◌≤◌, ◌⊎◌, inl, inr, Bool, true, false, cond, ltb, List, [], ◌∷◌, ◌++◌, length, slice_index, replicate, Result, Ok, Err, refl, sym, ◌∙◌, arith, append_assoc}
use Rattle.std.proofs.lemmas.Bool.{ltb-false, ltb-true}
use Rattle.std.proofs.lemmas.List.{length-append, length-replicate, append-nil}
use Rattle.std.proofs.lemmas.List.Elements.{All-append, All-cons}
use Rattle.pixel_translate.specs.Pixel.{be16_at, be32_at}
use Rattle.messages.specs.declared.Item.{Item}
use Rattle.messages.specs.declared.Phase.{Phase}
use Rattle.messages.specs.declared.Phase.TheVariants as phase
use Rattle.messages.specs.declared.Fault.{Fault}
use Rattle.messages.specs.Grammar.{Spells, Faults, after, waiting, faulty, IsUnfinished, Stream}
use Rattle.messages.specs.Reading.{IsBytes, message_length, wanted, meaning, Conversation, hear, heard, with_meaning, ReadsTheStream}
use Rattle.messages.proofs.Unique.{by_count, by_length, by_kind, told, one_reading}
use Rattle.messages.proofs.Says.{Spelled, says}

Small : ℕ → Type 0
Small b = b < 256

-- ---- an unfinished message can end: by zeros

zero_at : (n i : ℕ) → slice_index (replicate n 0) i ≡ 0
zero_at zero i = refl
zero_at (suc n) zero = refl
zero_at (suc n) (suc i) = zero_at n i

same_at : (u : List ℕ) (n i : ℕ) → slice_index (u ++ replicate n 0) i ≡ slice_index u i
same_at [] n i = zero_at n i
same_at (x ∷ xs) n zero = refl
same_at (x ∷ xs) n (suc i) = same_at xs n i

same_length : (u : List ℕ) (n : ℕ) → message_length (u ++ replicate n 0) ≡ message_length u
same_length u n = rw (same_at u n 0, same_at u n 2, same_at u n 3, same_at u n 4, same_at u n 5, same_at u n 6, same_at u n 7) refl

same_wanted : (p : Phase) (u : List ℕ) (n : ℕ) → wanted p (u ++ replicate n 0) ≡ wanted p u
same_wanted phase.Version u n = refl
same_wanted (phase.Choice v) u n = refl
same_wanted (phase.Init v) u n = refl
same_wanted (phase.Open v) u n = same_length u n

zeros : (n : ℕ) → IsBytes (replicate n 0)
zeros zero = λ k d h. absurd (omega arith)
zeros (suc n) = All-cons (λ (b : ℕ). b < 256) 0 (replicate n 0) (omega arith) (zeros n)

item_or_fault : (p : Phase) (bytes : List ℕ) (r : Result Item Fault) → Spelled p bytes r → ((i : Item) × Spells p bytes i) ⊎ ((k : Fault) × Faults p bytes k)
item_or_fault p bytes (Ok i) h = inl (i, h)
item_or_fault p bytes (Err k) h = inr (k, h)

extends : (p : Phase) (u : List ℕ) → IsBytes u → length u < wanted p u → IsUnfinished p u
extends p u small short =
    let n : ℕ = wanted p u - length u in
    let whole : length (u ++ replicate n 0) ≡ wanted p (u ++ replicate n 0) = omega (arith, length-append u (replicate n 0), length-replicate {A = ℕ} n 0, same_wanted p u n) in (
      replicate n 0,
      omega (arith, length-replicate {A = ℕ} n 0),
      item_or_fault p _ _ (says p (u ++ replicate n 0) (All-append (λ (b : ℕ). b < 256) u (replicate n 0) small (zeros n)) whole),
    )

-- ---- one byte more

at_most : (u : List ℕ) (b i : ℕ) → slice_index u i ≤ slice_index (u ++ b ∷ []) i
at_most [] b i = omega arith
at_most (x ∷ xs) b zero = omega arith
at_most (x ∷ xs) b (suc i) = at_most xs b i

grows : (x : ℕ) (xs : List ℕ) (b : ℕ) → message_length (x ∷ xs) ≤ message_length (x ∷ xs ++ b ∷ [])
grows x xs b =
    elim (told x) [
      | by_count e ↦ omega (arith, e (be16_at u 2) (be32_at u 4), e (be16_at w 2) (be32_at w 4), at_most xs b 1, at_most xs b 2)
      | by_length e ↦ omega (arith, e (be16_at u 2) (be32_at u 4), e (be16_at w 2) (be32_at w 4), at_most xs b 3, at_most xs b 4, at_most xs b 5, at_most xs b 6)
      | by_kind n lt e ↦ omega (arith, e (be16_at u 2) (be32_at u 4), e (be16_at w 2) (be32_at w 4))
    ]
  where
    u : List ℕ
    u = x ∷ xs

    w : List ℕ
    w = x ∷ xs ++ b ∷ []

first : (b : ℕ) → 0 < message_length (b ∷ [])
first b =
    elim (told b) [
      | by_count e ↦ omega (arith, e 0 0)
      | by_length e ↦ omega (arith, e 0 0)
      | by_kind n lt e ↦ omega (arith, e 0 0, lt)
    ]

-- the byte that ends a message doesn't go past its end
one_more : (p : Phase) (u : List ℕ) (b : ℕ) → length u < wanted p u → wanted p (u ++ b ∷ []) ≤ length (u ++ b ∷ []) → length (u ++ b ∷ []) ≡ wanted p (u ++ b ∷ [])
one_more phase.Version u b h g = omega (arith, length-append u (b ∷ []))
one_more (phase.Choice v) u b h g = omega (arith, length-append u (b ∷ []))
one_more (phase.Init v) u b h g = omega (arith, length-append u (b ∷ []))
one_more (phase.Open v) [] b h g = omega (arith, first b, g)
one_more (phase.Open v) (x ∷ xs) b h g = omega (arith, length-append xs (b ∷ []), grows x xs b, h, g)

pub empty_wanted : (p : Phase) → 0 < wanted p []
empty_wanted phase.Version = omega arith
empty_wanted (phase.Choice v) = omega arith
empty_wanted (phase.Init v) = omega arith
empty_wanted (phase.Open v) = omega arith

-- ---- the whole

abbrev begun : List Item → Phase → List ℕ → Conversation
begun items p u = record { items = items; phase = p; unfinished = u; end = waiting }

abbrev stopped : List Item → Phase → Fault → Conversation
stopped items p k = record { items = items; phase = p; unfinished = []; end = faulty k }

stays : (items : List Item) (p : Phase) (k : Fault) (t : List ℕ) → hear (stopped items p k) t ≡ stopped items p k
stays items p k [] = refl
stays items p k (b ∷ t) = stays items p k t

-- what was heard are these items and the ones that the bytes have
pub record Adds (items : List Item) (p : Phase) (bytes : List ℕ) (h : Conversation) : Type 0 where
  pub added : List Item
  pub all : h.items ≡ items ++ added
  pub stream : Stream p bytes added h.end

abbrev Reads : List ℕ → Type 0
Reads t = (items : List Item) (p : Phase) (u : List ℕ) → IsBytes u → length u < wanted p u → Adds items p (u ++ t) (hear (begun items p u) t)

moved : (items : List Item) (p : Phase) (a b : List ℕ) (h : Conversation) → b ≡ a → Adds items p a h → Adds items p b h
moved items p a b h e r = rw e r

meant : (items : List Item) (p : Phase) (u t : List ℕ) (r : Result Item Fault) → Reads t → Spelled p u r → Adds items p (u ++ t) (hear (with_meaning (begun items p u) r) t)
meant items p u t (Ok i) reads s =
    let more = reads (items ++ i ∷ []) (after p i) [] (zeros 0) (empty_wanted (after p i)) in
    record {
      added = i ∷ more.added;
      all = more.all ∙ append_assoc items (i ∷ []) more.added;
      stream = (u, t, refl, s, more.stream);
    }
meant items p u t (Err k) reads s = rw (stays items p k t) (record { added = []; all = sym (append-nil items); stream = (u, t, refl, s) })

step : (items : List Item) (p : Phase) (u : List ℕ) (b : ℕ) (t : List ℕ) → Reads t → IsBytes (u ++ b ∷ []) → length u < wanted p u
    → (l : Bool) → ltb (length (u ++ b ∷ [])) (wanted p (u ++ b ∷ [])) ≡ l
    → Adds items p (u ++ b ∷ [] ++ t) (hear (cond l (begun items p (u ++ b ∷ [])) (with_meaning (begun items p u) (meaning p (u ++ b ∷ [])))) t)
step items p u b t reads small short true e = reads items p (u ++ b ∷ []) small (ltb-true _ _ e)
step items p u b t reads small short false e =
    meant items p (u ++ b ∷ []) t (meaning p (u ++ b ∷ [])) reads (says p (u ++ b ∷ []) small (one_more p u b short (ltb-false _ _ e)))

reads_on : (t : List ℕ) → IsBytes t → Reads t
reads_on [] small items p u su short =
    record { added = []; all = sym (append-nil items); stream = rw (append-nil u) (extends p u su short) }
reads_on (b ∷ t) small items p u su short =
    moved items p _ _ _ (sym (append_assoc u (b ∷ []) t))
    (step items p u b t (reads_on t (λ k d lt. small (suc k) d (omega arith))) (All-append (λ (c : ℕ). c < 256) u (b ∷ []) su (All-cons (λ (c : ℕ). c < 256) b [] (small 0 0 (omega arith)) (zeros 0))) short _ refl)

pub reads_the_stream : ReadsTheStream
reads_the_stream bytes small =
    let r = reads_on bytes small [] phase.Version [] (zeros 0) (omega arith) in
    let stream : Stream phase.Version bytes (heard bytes).items (heard bytes).end = rw r.all r.stream in
    (stream, λ items end other. one_reading phase.Version bytes items (heard bytes).items end (heard bytes).end other stream)
