-- Why a screen is not served.
use Rattle.std.specs.Prelude.{◌≡◌, ℕ, ℤ, true, List, Option, Result, Err, MatchOption, IfErr}
use Rattle.screen.specs.declared.ScreenError.{ScreenError}
use Rattle.screen.specs.declared.ScreenError.TheVariants.{OutOfMemory}
use Rattle.c_screen.specs.Codes.{code_of}
use Rattle.c_server.specs.Codes.{bad_address, cannot_listen, cannot_record, network_failed}
use Rattle.c_server.specs.Desk.{is_named}
use Rattle.c_server.specs.declared.listening.ListenError.{ListenError}
use Rattle.c_server.specs.declared.listening.ListenError.TheVariants.{Refused, BadAddress, CannotListen, CannotRecord}

abbrev pub listen_code : ListenError → ℤ
listen_code (Refused e) = code_of e
listen_code BadAddress = bad_address
listen_code CannotListen = cannot_listen
listen_code CannotRecord = cannot_record

-- the same where the server was to listen nowhere
abbrev pub unbound_code : ListenError → ℤ
unbound_code CannotListen = network_failed
unbound_code e = listen_code e

-- not for what the screen is to be: the address is no address, the system refused it, memory was refused, or the file that was named can't be made
abbrev pub IsOfSystem : List ℕ → ListenError → Type 0
IsOfSystem path (Refused e) = e ≡ OutOfMemory
IsOfSystem path BadAddress = Unit {0}
IsOfSystem path CannotListen = Unit {0}
IsOfSystem path CannotRecord = is_named path ≡ true

-- the configuration's refusal, and where there is none, at most the system's or that of memory
abbrev pub IsRefusedBy : {X : Type 0} → List ℕ → Option ScreenError → Result X ListenError → Type 0
IsRefusedBy path refusal result = MatchOption refusal (IfErr result (IsOfSystem path)) (λ e. result ≡ Err (Refused e))
