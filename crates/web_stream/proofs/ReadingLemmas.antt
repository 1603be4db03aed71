-- What is read of bytes that come one behind the other.
use Rattle.std.proofs.Common.{◌≡◌, ℕ, ◌+◌, ◌<◌, List, [], ◌∷◌, ◌++◌, length, take, get_or, Option, None, Some, option_map, refl, sym, ap, ◌∙◌, append_assoc, append-nil}
use Rattle.std.proofs.lemmas.List.{take_more, take_min}
use Rattle.std.specs.Io.KnownBytes.{IsAtEnd}
use Rattle.web_stream.specs.declared.inward.Over.{Over}
use Rattle.web_stream.specs.Reading.{Reading, step, given, step_in, given_in, step_unless, given_unless, after, payloads, faulty, ended_by, ended_unless, closed, closed_unless}
use Rattle.web_stream.specs.declared.fault.WebFault.{WebFault}
use Rattle.web_stream.specs.Faults.{close_fault}

-- it doesn't matter how the bytes are cut
pub payloads_append : (s : Reading) (xs ys : List ℕ) → payloads s (xs ++ ys) ≡ payloads s xs ++ payloads (after s xs) ys
payloads_append s [] ys = refl
payloads_append s (x ∷ xs) ys =
    ap (λ (l : List ℕ). given s x ++ l) (payloads_append (step s x) xs ys)
    ∙ sym (append_assoc (given s x) (payloads (step s x) xs) (payloads (after (step s x) xs) ys))

pub after_append : (s : Reading) (xs ys : List ℕ) → after s (xs ++ ys) ≡ after (after s xs) ys
after_append s [] ys = refl
after_append s (x ∷ xs) ys = after_append (step s x) xs ys

pub payloads_more : (s : Reading) (xs : List ℕ) (i : ℕ) → i < length xs
    → payloads s (take (i + 1) xs) ≡ payloads s (take i xs) ++ given (after s (take i xs)) (get_or xs i 0)
payloads_more s xs i h =
    ap (payloads s) (take_more xs i 0 h) ∙ payloads_append s (take i xs) (get_or xs i 0 ∷ [])
    ∙ ap (λ (l : List ℕ). payloads s (take i xs) ++ l) (append-nil (given (after s (take i xs)) (get_or xs i 0)))

pub after_more : (s : Reading) (xs : List ℕ) (i : ℕ) → i < length xs
    → after s (take (i + 1) xs) ≡ step (after s (take i xs)) (get_or xs i 0)
after_more s xs i h = ap (after s) (take_more xs i 0 h) ∙ after_append s (take i xs) (get_or xs i 0 ∷ [])

-- ---- while the frames are not over

pub open_gives : (s : Reading) (b : ℕ) → s.over ≡ None → given s b ≡ given_in s b
unfolding given
open_gives s b e = ap (λ (v : Option Over). given_unless v s b) e

pub open_steps : (s : Reading) (b : ℕ) → s.over ≡ None → step s b ≡ step_in s b
unfolding step
open_steps s b e = ap (λ (v : Option Over). step_unless v s b) e

-- ---- once they are over

pub over_gives : (s : Reading) (o : Over) → s.over ≡ Some o → (b : ℕ) → given s b ≡ []
unfolding given
over_gives s o e b = ap (λ (v : Option Over). given_unless v s b) e

pub over_stays : (s : Reading) (o : Over) → s.over ≡ Some o → (b : ℕ) → step s b ≡ s
unfolding step
over_stays s o e b = ap (λ (v : Option Over). step_unless v s b) e

pub payloads_over : (s : Reading) (o : Over) → s.over ≡ Some o → (bs : List ℕ) → payloads s bs ≡ []
payloads_over s o e [] = refl
payloads_over s o e (b ∷ bs) =
    ap (λ (l : List ℕ). l ++ payloads (step s b) bs) (over_gives s o e b)
    ∙ ap (λ (r : Reading). payloads r bs) (over_stays s o e b) ∙ payloads_over s o e bs

-- nothing is left to be read
pub over_at_end : (s : Reading) (known : Option (List ℕ)) (o : Over) → s.over ≡ Some o → IsAtEnd (option_map (payloads s) known)
over_at_end s None o e = tt
over_at_end s (Some xs) o e = payloads_over s o e xs

-- ---- how they end

pub ends_badly : (bs : List ℕ) (s : Reading) (f : WebFault) → close_fault bs ≡ Some f → ended_by bs s ≡ faulty s f
ends_badly bs s f e = ap (λ (o : Option WebFault). ended_unless o bs s) e

pub ends_well : (bs : List ℕ) (s : Reading) → close_fault bs ≡ None → ended_by bs s ≡ ended_unless None bs s
ends_well bs s e = ap (λ (o : Option WebFault). ended_unless o bs s) e

pub closed_over : (s : Reading) (code : ℕ) (o : Over) → s.over ≡ Some o → closed s code ≡ s
closed_over s code o e = ap (λ (v : Option Over). closed_unless v s code) e

pub closed_open : (s : Reading) (code : ℕ) → s.over ≡ None → closed s code ≡ closed_unless None s code
closed_open s code e = ap (λ (v : Option Over). closed_unless v s code) e

-- ---- what `grind` is given

pub ruleset one_byte = (over_gives, over_stays, open_gives, open_steps)

pub ruleset one_more = (payloads_more, after_more)

pub ruleset ends = (ends_badly, ends_well, take_min)

pub ruleset closes = (closed_over, closed_open)
