-- What is heard of a source.
use Rattle.std.proofs.Common.{◌≡◌, ℕ, ◌==◌, Bool, true, false, if◌then◌else◌, List, [], ◌++◌, take, Result, Ok, Err, refl, sym, subst, inr}
use Rattle.std.specs.Prelude.{OnErr, IfErr}
use Rattle.std.specs.declared.io.Error.{Error}
use Rattle.source_talk.specs.declared.opening.Heard.{Heard}
use Rattle.source_talk.specs.declared.opening.Heard.TheVariants as heard
use Rattle.source_talk.specs.Opening.{heard_by}
use Rattle.mirror.specs.declared.ends.SourceEnd.{SourceEnd}
use Rattle.mirror.specs.declared.ends.SourceEnd.TheVariants as end
use Rattle.mirror.specs.Ends.{behind_read}
use Rattle.mirror.specs.Sources.{IsEndBehind, IsEndOf}

memory_behind : (said : List ℕ) (h : Heard) → IsEndBehind said h end.Memory
memory_behind said (heard.Awaits a) = refl
memory_behind said (heard.Open v init) = refl
memory_behind said (heard.Ends a e) = inr refl

-- an opening may end for want of memory whatever was heard
pub memory_ends : (said piece : List ℕ) → IsEndOf said piece end.Memory
memory_ends said piece = (0, memory_behind (said ++ take 0 piece) (heard_by (said ++ take 0 piece)))

none_chosen : (b : Bool) → (if b then Err end.Closed else Ok true) ≡ Ok false → ⊥
none_chosen true e = cc
none_chosen false e = cc

-- where a read is to be made again later it failed, and nothing came
pub nothing_came : (read : Result ℕ Error) (count : ℕ) (bytes : List ℕ) → behind_read read count ≡ Ok false → OnErr read (bytes ≡ []) → bytes ≡ []
nothing_came (Ok n) count bytes later none = absurd (none_chosen (n == 0) later)
nothing_came (Err error) count bytes later none = none

pub ended_for_memory : {X : Type 0} (said piece : List ℕ) (result : Result X SourceEnd) → IfErr result (λ why. why ≡ end.Memory)
    → IfErr result (λ why. IsEndOf said piece why)
ended_for_memory said piece (Ok x) is = tt
ended_for_memory said piece (Err why) is = subst (λ (w : SourceEnd). IsEndOf said piece w) (sym is) (memory_ends said piece)
