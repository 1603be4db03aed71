-- The numbers that calls answer: 0 and more where they are done, below 0 where they are refused.
use Rattle.std.specs.Prelude.{◌≡◌, ◌≢◌, ◌⊎◌, ℕ, ◌+◌, ℤ, pos, neg_ℤ, Bool, if◌then◌else◌, Option, Some, None, Result, Ok, Err}
use Rattle.screen.specs.declared.Fault.{Fault}
use Rattle.screen.specs.declared.Fault.TheVariants as fault
use Rattle.screen.specs.declared.ScreenError.{ScreenError}
use Rattle.screen.specs.declared.ScreenError.TheVariants as refusals

abbrev pub minus : ℕ → ℤ
minus n = neg_ℤ (pos n)

abbrev pub done : ℤ
done = pos 0

-- the screen's own refusals
abbrev pub code_of : ScreenError → ℤ
code_of refusals.BadSize = minus 1
code_of refusals.BadName = minus 2
code_of refusals.BadRectLimit = minus 3
code_of refusals.BadRect = minus 4
code_of refusals.BadPixelCount = minus 5
code_of refusals.TextTooLong = minus 6
code_of refusals.NoViewer = minus 7
code_of refusals.NumberInUse = minus 8
code_of refusals.OutOfMemory = minus 9

abbrev pub no_viewer : ℤ
no_viewer = code_of refusals.NoViewer

abbrev pub out_of_memory : ℤ
out_of_memory = code_of refusals.OutOfMemory

-- and the desk's: a coordinate of a region is too far off; a viewer has output that it wasn't sent; there is no screen; there is no such place
abbrev pub out_of_range : ℤ
out_of_range = minus 10

abbrev pub output_waits : ℤ
output_waits = minus 11

abbrev pub off_screen : ℤ
off_screen = minus 12

abbrev pub shut : ℤ
shut = minus 32

abbrev pub done_code : {X : Type 0} → Result X ScreenError → ℤ
done_code (Ok x) = done
done_code (Err e) = code_of e

-- whether something is so
abbrev pub one_or_zero : Bool → ℤ
one_or_zero b = if b then pos 1 else pos 0

abbrev pub truth_code : Result Bool ScreenError → ℤ
truth_code (Ok b) = one_or_zero b
truth_code (Err e) = code_of e

-- why a viewer is heard no further: 0 where it is, and of an unknown message its type too
abbrev pub fault_code : Option Fault → ℤ
fault_code None = pos 0
fault_code (Some fault.BadVersion) = pos 1
fault_code (Some fault.BadSecurityType) = pos 2
fault_code (Some fault.BadBitsPerPixel) = pos 3
fault_code (Some fault.ColourMapUnsupported) = pos 4
fault_code (Some (fault.UnknownMessage kind)) = pos (256 + kind)

abbrev pub fault_or_code : Result (Option Fault) ScreenError → ℤ
fault_or_code (Ok fault) = fault_code fault
fault_or_code (Err e) = code_of e

-- a call answers the refusal that is due; where none is, a number that is so, or it is refused for want of memory
abbrev pub Answers : Option ℤ → (ℤ → Type 0) → ℤ → Type 0
Answers None IsGiven code = IsGiven code ⊎ (code ≡ out_of_memory)
Answers (Some refusal) IsGiven code = code ≡ refusal

-- a number is the code of a refusal: of the one that is due, and where none is, of that for memory
pub record IsRefusal (due : Option ℤ) (code : ℤ) : Type 0 where
  pub answer : Answers due (λ n. ⊥) code
  pub refuses : code ≢ done
