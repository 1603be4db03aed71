-- Why a script could not be read.
use Rattle.std.specs.Prelude.{ℕ, ⊤, ◌^◌, ◌<◌, List, length, Option, IfSome}
use Rattle.play_script.specs.declared.trouble.Trouble.{Trouble}
use Rattle.play_script.specs.declared.trouble.Trouble.TheVariants.{OutOfMemory, ReadFault, TooLong, NetworkFault, RecordBroken, WriteFault}

-- a read can only fail where there was one, and a script that is too long has more than 2 ^ 24 bytes
abbrev pub CanEndReading : ℕ → Option (List ℕ) → Trouble → Type 0
CanEndReading reads known OutOfMemory = ⊤
CanEndReading reads known ReadFault = 0 < reads
CanEndReading reads known TooLong = IfSome known (λ bytes. 2 ^ 24 < length bytes)
CanEndReading reads known WriteFault = ⊥
CanEndReading reads known NetworkFault = ⊥
CanEndReading reads known RecordBroken = ⊥
