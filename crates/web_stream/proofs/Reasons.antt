-- A close's reason, by what a conversion to text says of it.
use Rattle.std.proofs.Common.{◌≡◌, ℕ, Bool, true, false, List, Option, None, Some, refl, ap}
use Rattle.std.specs.Str.{IsUtf8, is_utf8}
use Rattle.std.proofs.lemmas.Str.{IsUtf8-from_is_utf8, is_utf8-from_IsUtf8}
use Rattle.web_stream.specs.declared.fault.WebFault.{WebFault}
use Rattle.web_stream.specs.declared.fault.WebFault.TheVariants.{CloseReason}
use Rattle.web_stream.specs.Faults.{reason_fault}
use Rattle.std.specs.Prelude.{if◌then◌else◌}

fault_by : Bool → Option WebFault
fault_by b = if b then None else Some CloseReason

pub is_reason : (bs : List ℕ) → IsUtf8 bs → reason_fault bs ≡ None
unfolding fault_by
is_reason bs h = ap fault_by (is_utf8-from_IsUtf8 bs h)

no_text : (bs : List ℕ) (b : Bool) → is_utf8 bs ≡ b → (IsUtf8 bs → ⊥) → b ≡ false
no_text bs true e bad = absurd (bad (IsUtf8-from_is_utf8 bs e))
no_text bs false e bad = refl

pub is_no_reason : (bs : List ℕ) → (IsUtf8 bs → ⊥) → reason_fault bs ≡ Some CloseReason
unfolding fault_by
is_no_reason bs bad = ap fault_by (no_text bs (is_utf8 bs) refl bad)

pub ruleset reasons = (is_reason, is_no_reason)
