-- What is printed.
use Rattle.std.specs.Prelude.{ℕ, ◌+◌, ◌/◌, ◌%◌, nat_lt, Bool, true, false, if◌then◌else◌, List, [], ◌∷◌, ◌++◌, flat_map, codes, Option, Some, None}
use Rattle.std.specs.Fmt.{decimal}
use Rattle.pixel_translate.specs.Pixel.{be32}
use Rattle.messages.specs.declared.Fault.{Fault}
use Rattle.messages.specs.declared.Fault.TheVariants as fault
use Rattle.messages.specs.declared.Input.{Input}
use Rattle.messages.specs.declared.Input.TheVariants as input
use Rattle.screen.specs.declared.ScreenError.{ScreenError}
use Rattle.screen.specs.declared.ScreenError.TheVariants as refusals
use Rattle.screen.specs.declared.Event.{Event}
use Rattle.screen.specs.declared.Event.TheVariants.{Connect, Hear, Cut}
use Rattle.screen.specs.declared.Answer.{Answer}

-- a digit, in lower case
abbrev pub hex_digit : ℕ → ℕ
hex_digit n = if nat_lt n 10 then 48 + n else 87 + n

-- two digits for each byte
abbrev pub hex : List ℕ → List ℕ
hex bytes = flat_map (λ b. hex_digit (b / 16) ∷ hex_digit (b % 16) ∷ []) bytes

-- HEX: `-` for no bytes
abbrev pub hex_word : List ℕ → List ℕ
hex_word [] = codes "-"
hex_word (b ∷ bs) = hex (b ∷ bs)

abbrev pub flag : Bool → List ℕ
flag true = codes "1"
flag false = codes "0"

abbrev pub refusal_name : ScreenError → List ℕ
refusal_name refusals.BadSize = codes "1 BadSize"
refusal_name refusals.BadName = codes "2 BadName"
refusal_name refusals.BadRectLimit = codes "3 BadRectLimit"
refusal_name refusals.BadRect = codes "4 BadRect"
refusal_name refusals.BadPixelCount = codes "5 BadPixelCount"
refusal_name refusals.TextTooLong = codes "6 TextTooLong"
refusal_name refusals.NoViewer = codes "7 NoViewer"
refusal_name refusals.NumberInUse = codes "8 NumberInUse"
refusal_name refusals.OutOfMemory = codes "9 OutOfMemory"

-- refused CODE NAME
abbrev pub refused : ScreenError → List ℕ
refused e = codes "refused " ++ refusal_name e ++ codes "\n"

abbrev pub fault_name : Fault → List ℕ
fault_name fault.BadVersion = codes "1 BadVersion"
fault_name fault.BadSecurityType = codes "2 BadSecurityType"
fault_name (fault.UnknownMessage kind) = codes "3 UnknownMessage"
fault_name fault.BadBitsPerPixel = codes "4 BadBitsPerPixel"
fault_name fault.ColourMapUnsupported = codes "5 ColourMapUnsupported"

-- the type that no message has
abbrev pub unknown_type : Fault → Option ℕ
unknown_type (fault.UnknownMessage kind) = Some kind
unknown_type _ = None

abbrev pub type_named : Option ℕ → List ℕ
type_named None = []
type_named (Some kind) = codes " " ++ decimal kind

-- closed V CODE NAME, where there is a fault; behind UnknownMessage the type in decimal
abbrev pub closed : ℕ → Option Fault → List ℕ
closed v None = []
closed v (Some f) = codes "closed " ++ decimal v ++ codes " " ++ fault_name f ++ type_named (unknown_type f) ++ codes "\n"

-- key V D KKKKKKKK, pointer V MM X Y, text V S HEX
abbrev pub input_line : ℕ → Input → List ℕ
input_line v (input.Key down key) = codes "key " ++ decimal v ++ codes " " ++ flag down ++ codes " " ++ hex (be32 key) ++ codes "\n"
input_line v (input.Pointer mask x y) = codes "pointer " ++ decimal v ++ codes " " ++ hex (mask ∷ []) ++ codes " " ++ decimal x ++ codes " " ++ decimal y ++ codes "\n"
input_line v (input.Text text shortened) = codes "text " ++ decimal v ++ codes " " ++ flag shortened ++ codes " " ++ hex_word text ++ codes "\n"

-- NAME V HEX
abbrev pub bytes_line : List ℕ → ℕ → List ℕ → List ℕ
bytes_line name v bytes = name ++ decimal v ++ codes " " ++ hex_word bytes ++ codes "\n"

abbrev pub ok : List ℕ
ok = codes "ok\n"

-- what is printed of the answer to an event that was not refused
abbrev pub answered : Event → Answer → List ℕ
answered (Connect v) a = bytes_line (codes "connect ") v a.bytes
answered (Hear v piece) a = bytes_line (codes "hear ") v a.bytes ++ flat_map (input_line v) a.inputs ++ closed v a.closed
answered (Cut v) a = bytes_line (codes "cut ") v a.bytes
answered _ a = ok

abbrev pub text_by : Event → Answer → Option ScreenError → List ℕ
text_by e a None = answered e a
text_by e a (Some refusal) = refused refusal

-- what is printed of the answer to an event
abbrev pub text_of : Event → Answer → List ℕ
text_of e a = text_by e a a.refused

-- bad line N
abbrev pub bad_line : ℕ → List ℕ
bad_line n = codes "bad line " ++ decimal n ++ codes "\n"
