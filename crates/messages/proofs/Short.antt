-- Messages of few bytes that are whole tell their item.
use Rattle.std.proofs.Common.{◌≡◌, ℕ, ◌≤◌, List, [], ◌∷◌, ◌++◌, ◌-◌, length, take, drop, slice_index, refl, sym, ap, ◌∙◌, arith, append_assoc}
use Rattle.std.proofs.lemmas.List.{take_rest}
use Rattle.messages.specs.declared.Version.{Version}
use Rattle.messages.specs.declared.Item.{Item}
use Rattle.messages.specs.declared.Phase.TheVariants as phase
use Rattle.messages.specs.Reading.{request_in, key_in, pointer_in}
use Rattle.messages.specs.Steps.{Told, fresh, adds, tells}
use Rattle.messages.specs.Partial.{TellSame}

-- an item more, and what follows it
said : (items : List Item) (i : Item) (t : Told) → adds (items ++ i ∷ []) t ≡ adds items (adds (i ∷ []) t)
said items i t = ap (λ (is : List Item). let told : Told = record { items = is; rest = t.rest } in told) (append_assoc items (i ∷ []) t.items)

tell : (items others : List Item) (i j : Item) (bytes more : List ℕ) → ((v : Version) → tells (fresh (phase.Open v)) bytes ≡ adds (i ∷ []) (tells (fresh (phase.Open v)) more)) → j ≡ i → others ≡ items ++ j ∷ []
    → TellSame items bytes others more
tell items others i j bytes more f e g =
    λ v. ap (λ (is : List Item). adds is (tells (fresh (phase.Open v)) more)) (g ∙ ap (λ (k : Item). items ++ k ∷ []) e)
    ∙ said items i (tells (fresh (phase.Open v)) more)
    ∙ ap (λ (t : Told). adds items t) (sym (f v))

pointer_cells : (v : Version) (x m a b c d : ℕ) (t : List ℕ) → x ≡ 5 → tells (fresh (phase.Open v)) (x ∷ m ∷ a ∷ b ∷ c ∷ d ∷ t) ≡ adds (pointer_in (x ∷ m ∷ a ∷ b ∷ c ∷ d ∷ t) ∷ []) (tells (fresh (phase.Open v)) t)
pointer_cells v x m a b c d t e = rw e refl

key_cells : (v : Version) (x f p q a b c d : ℕ) (t : List ℕ) → x ≡ 4 → tells (fresh (phase.Open v)) (x ∷ f ∷ p ∷ q ∷ a ∷ b ∷ c ∷ d ∷ t) ≡ adds (key_in (x ∷ f ∷ p ∷ q ∷ a ∷ b ∷ c ∷ d ∷ t) ∷ []) (tells (fresh (phase.Open v)) t)
key_cells v x f p q a b c d t e = rw e refl

request_cells : (v : Version) (x f a b c d p q r s : ℕ) (t : List ℕ) → x ≡ 3
    → tells (fresh (phase.Open v)) (x ∷ f ∷ a ∷ b ∷ c ∷ d ∷ p ∷ q ∷ r ∷ s ∷ t) ≡ adds (request_in (x ∷ f ∷ a ∷ b ∷ c ∷ d ∷ p ∷ q ∷ r ∷ s ∷ t) ∷ []) (tells (fresh (phase.Open v)) t)
request_cells v x f a b c d p q r s t e = rw e refl

data Ten (xs : List ℕ) : Type 0 where
  ten_cells : (a b c d p q r s x y : ℕ) (t : List ℕ) → xs ≡ a ∷ b ∷ c ∷ d ∷ p ∷ q ∷ r ∷ s ∷ x ∷ y ∷ t → Ten xs

ten : (xs : List ℕ) → 10 ≤ length xs → Ten xs
ten (a ∷ b ∷ c ∷ d ∷ p ∷ q ∷ r ∷ s ∷ x ∷ y ∷ t) h = ten_cells a b c d p q r s x y t refl
ten [] h = absurd (omega arith)
ten (a ∷ []) h = absurd (omega arith)
ten (a ∷ b ∷ []) h = absurd (omega arith)
ten (a ∷ b ∷ c ∷ []) h = absurd (omega arith)
ten (a ∷ b ∷ c ∷ d ∷ []) h = absurd (omega arith)
ten (a ∷ b ∷ c ∷ d ∷ p ∷ []) h = absurd (omega arith)
ten (a ∷ b ∷ c ∷ d ∷ p ∷ q ∷ []) h = absurd (omega arith)
ten (a ∷ b ∷ c ∷ d ∷ p ∷ q ∷ r ∷ []) h = absurd (omega arith)
ten (a ∷ b ∷ c ∷ d ∷ p ∷ q ∷ r ∷ s ∷ []) h = absurd (omega arith)
ten (a ∷ b ∷ c ∷ d ∷ p ∷ q ∷ r ∷ s ∷ x ∷ []) h = absurd (omega arith)

pub pointer_tells : (items others : List Item) (i : Item) (bytes : List ℕ) → 10 ≤ length bytes → slice_index bytes 0 ≡ 5 → i ≡ pointer_in bytes → others ≡ items ++ i ∷ [] → TellSame items bytes others (drop 6 bytes)
pointer_tells items others i bytes h k e g =
    elim (ten bytes h) [
      | ten_cells x m a b c d p q r s t f ↦
          tell items others (pointer_in bytes) i bytes (drop 6 bytes) (λ v. rw f (pointer_cells v x m a b c d (p ∷ q ∷ r ∷ s ∷ t) (rw f at k))) e g
    ]

pub key_tells : (items others : List Item) (i : Item) (bytes : List ℕ) → 10 ≤ length bytes → slice_index bytes 0 ≡ 4 → i ≡ key_in bytes → others ≡ items ++ i ∷ [] → TellSame items bytes others (drop 8 bytes)
key_tells items others i bytes h k e g =
    elim (ten bytes h) [
      | ten_cells x m a b c d p q r s t f ↦
          tell items others (key_in bytes) i bytes (drop 8 bytes) (λ v. rw f (key_cells v x m a b c d p q (r ∷ s ∷ t) (rw f at k))) e g
    ]

pub request_tells : (items others : List Item) (i : Item) (bytes : List ℕ) → 10 ≤ length bytes → slice_index bytes 0 ≡ 3 → i ≡ request_in bytes → others ≡ items ++ i ∷ [] → TellSame items bytes others (drop 10 bytes)
request_tells items others i bytes h k e g =
    elim (ten bytes h) [
      | ten_cells x m a b c d p q r s t f ↦
          tell items others (request_in bytes) i bytes (drop 10 bytes) (λ v. rw f (request_cells v x m a b c d p q r s t (rw f at k))) e g
    ]

-- items and what is left of a piece, once a message more is read
pub one_more : (first items new others : List Item) (piece left : List ℕ) (used n : ℕ) → others ≡ new → used ≡ n → TellSame first piece items left → TellSame items left new (drop n left)
    → TellSame first piece others (take (length left - used) (drop used left))
one_more first items new others piece left used n e f before told =
    λ v. ap (λ (bytes : List ℕ). adds others (tells (fresh (phase.Open v)) bytes)) (take_rest left used ∙ ap (λ (k : ℕ). drop k left) f)
    ∙ ap (λ (is : List Item). adds is (tells (fresh (phase.Open v)) (drop n left))) e
    ∙ told v ∙ before v
