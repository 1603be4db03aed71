-- What the first two bytes of a frame ask for.
use Rattle.std.proofs.Common.{◌≡◌, ℕ, ◌<◌, ◌≤◌, Bool, cond, List, length, slice_index, Option, None, Some, ap, ◌∙◌, le-ltb, lt-ltb}
use Rattle.web_stream.specs.declared.fault.WebFault.{WebFault}
use Rattle.web_stream.specs.Faults.{head_fault}
use Rattle.web_stream.specs.Next.{Asked, more, fault, next_of, next_unless, next_of_sound}

-- by the test of the length
by_length : Bool → Bool → List ℕ → Asked
by_length t is_within bs = cond t more (next_unless (head_fault is_within (slice_index bs 0) (slice_index bs 1)) bs)

pub short_asks : (is_within : Bool) (bs : List ℕ) → length bs < 2 → next_of is_within bs ≡ more
unfolding next_of by_length
short_asks is_within bs h = ap (λ (t : Bool). by_length t is_within bs) (lt-ltb (length bs) 2 h)

long_asks : (is_within : Bool) (bs : List ℕ) → 2 ≤ length bs
    → next_of is_within bs ≡ next_unless (head_fault is_within (slice_index bs 0) (slice_index bs 1)) bs
unfolding next_of by_length
long_asks is_within bs h = ap (λ (t : Bool). by_length t is_within bs) (le-ltb (length bs) 2 h)

pub fault_asks : (is_within : Bool) (bs : List ℕ) (f : WebFault) → 2 ≤ length bs
    → head_fault is_within (slice_index bs 0) (slice_index bs 1) ≡ Some f → next_of is_within bs ≡ fault f
fault_asks is_within bs f h e = long_asks is_within bs h ∙ ap (λ (o : Option WebFault). next_unless o bs) e

pub sound_asks : (is_within : Bool) (bs : List ℕ) → 2 ≤ length bs
    → head_fault is_within (slice_index bs 0) (slice_index bs 1) ≡ None → next_of is_within bs ≡ next_of_sound bs
sound_asks is_within bs h e = long_asks is_within bs h ∙ ap (λ (o : Option WebFault). next_unless o bs) e

pub ruleset asks = (short_asks, fault_asks, sound_asks)
