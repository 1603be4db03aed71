-- What a source says until the conversation is open, and what it is answered: RFC 6143 sections 7.1 to 7.3 and appendix A, at the viewer's side.
use Rattle.std.specs.Prelude.{ℕ, ◌+◌, ◌-◌, ◌==◌, nat_lt, Bool, true, false, if◌then◌else◌, min, List, [], ◌∷◌, ◌++◌, length, take, drop, codes, slice_index}
use Rattle.std.specs.List.{list_any}
use Rattle.pixel_translate.specs.Pixel.{be16_at, be32_at}
use Rattle.messages.specs.declared.Version.{Version}
use Rattle.messages.specs.declared.Version.TheVariants.{V33, V37, V38}
use Rattle.messages.specs.Grammar.{version_of}
use Rattle.messages.specs.Reading.{is_version, major_of, minor_of}
use Rattle.source_talk.specs.declared.opening.Answered.{Answered}
use Rattle.source_talk.specs.declared.opening.Answered.TheVariants as answered
use Rattle.source_talk.specs.declared.opening.Init.{Init}
use Rattle.source_talk.specs.declared.opening.OpeningEnd.TheVariants as end
use Rattle.source_talk.specs.declared.opening.Heard.{Heard}
use Rattle.source_talk.specs.declared.opening.Heard.TheVariants as heard

-- ---- what is answered

-- 7.1.1
abbrev pub version_said : Version → List ℕ
version_said V33 = codes "RFB 003.003\n"
version_said V37 = codes "RFB 003.007\n"
version_said V38 = codes "RFB 003.008\n"

abbrev pub first_said : Answered → List ℕ
first_said answered.Nothing = []
first_said (answered.Version v) = version_said v
first_said answered.Choice = version_said V38
first_said (answered.Init v) = version_said v

-- 7.1.2, A: None is chosen by 1, but in 3.3 the source decides; 7.3.1: others may watch too, by another 1
abbrev pub rest_said : Answered → List ℕ
rest_said answered.Nothing = []
rest_said (answered.Version v) = []
rest_said answered.Choice = 1 ∷ []
rest_said (answered.Init V33) = 1 ∷ []
rest_said (answered.Init v) = 1 ∷ 1 ∷ []

-- all that was answered
abbrev pub answers : Answered → List ℕ
answers a = first_said a ++ rest_said a

-- ---- what is heard, from a place on

-- how much of a reason is told
abbrev pub most_told : ℕ
most_told = 255

-- 7.1.2, 7.1.3: a reason; it is awaited as far as it is told
abbrev pub reason_from : Answered → List ℕ → (place : ℕ) → Heard
reason_from before said i =
    if nat_lt (length said) (i + 4) then heard.Awaits before
    else (if nat_lt (length said) (i + 4 + min (be32_at said i) most_told) then heard.Awaits before
    else heard.Ends before (end.Refused (i + 4) (min (be32_at said i) most_told)))

-- 7.3.2: a picture's size, a format, and how long the name is
abbrev pub init_in : List ℕ → (place : ℕ) → Init
init_in said i = record { width = be16_at said i; height = be16_at said (i + 2); name = be32_at said (i + 20) }

abbrev pub init_from : Version → List ℕ → (place : ℕ) → Heard
init_from v said i = if nat_lt (length said) (i + 24) then heard.Awaits (answered.Init v) else heard.Open v (init_in said i)

-- 7.1.3: in 3.8 the choice has a result
abbrev pub verdict_from : List ℕ → (place : ℕ) → Heard
verdict_from said i =
    if nat_lt (length said) (i + 4) then heard.Awaits answered.Choice
    else (if be32_at said i == 0 then init_from V38 said (i + 4)
    else reason_from answered.Choice said (i + 4))

abbrev pub result_from : Version → List ℕ → (place : ℕ) → Heard
result_from V38 said i = verdict_from said i
result_from v said i = init_from v said i

-- A: in 3.3 the source decides on a type
abbrev pub decision_from : List ℕ → (place : ℕ) → Heard
decision_from said i =
    if nat_lt (length said) (i + 4) then heard.Awaits (answered.Version V33)
    else (if be32_at said i == 0 then reason_from (answered.Version V33) said (i + 4)
    else (if be32_at said i == 1 then init_from V33 said (i + 4)
    else heard.Ends (answered.Version V33) (end.SecurityType (be32_at said i))))

-- the security type None
abbrev pub is_none_type : ℕ → Bool
is_none_type kind = kind == 1

-- 7.1.2: in 3.7 and 3.8 it lists types, or none and a reason
abbrev pub kinds_from : Version → List ℕ → (place count : ℕ) → Heard
kinds_from v said i count =
    if nat_lt (length said) (i + count) then heard.Awaits (answered.Version v)
    else (if list_any is_none_type (take count (drop i said)) then result_from v said (i + count)
    else heard.Ends (answered.Version v) (end.SecurityTypes i count))

abbrev pub list_from : Version → List ℕ → (place : ℕ) → Heard
list_from v said i =
    if nat_lt (length said) (i + 1) then heard.Awaits (answered.Version v)
    else (if slice_index said i == 0 then reason_from (answered.Version v) said (i + 1)
    else kinds_from v said (i + 1) (slice_index said i))

abbrev pub security_from : Version → List ℕ → (place : ℕ) → Heard
security_from V33 said i = decision_from said i
security_from v said i = list_from v said i

-- 7.1.1: every version but 3.7 and 3.8 is spoken as 3.3
abbrev pub version_in : List ℕ → Version
version_in said = version_of (major_of said) (minor_of said)

-- all that a source said so far
abbrev pub heard_by : List ℕ → Heard
heard_by said =
    if nat_lt (length said) 12 then heard.Awaits answered.Nothing
    else (if is_version (take 12 said) then security_from (version_in (take 12 said)) said 12
    else heard.Ends answered.Nothing end.NoVersion)

-- ---- what follows from it

abbrev pub is_awaited : Heard → Bool
is_awaited (heard.Awaits a) = true
is_awaited _ = false

-- what was answered last by the time that something is heard
abbrev pub answered_by : Heard → Answered
answered_by (heard.Awaits a) = a
answered_by (heard.Open v init) = answered.Init v
answered_by (heard.Ends a e) = a

-- an opening: what the source said, and how many bytes it was answered
pub record View : Type 0 where
  pub said : List ℕ
  pub told : ℕ

-- ---- the name

-- how much of a name is kept: as much as a screen's name may have
abbrev pub most_named : ℕ
most_named = 255

-- a name, of which so many bytes are to come
pub record Name : Type 0 where
  pub init : Init
  pub left : ℕ
  pub kept : List ℕ

-- the first bytes of a piece are of the name
abbrev pub named : Name → (piece : List ℕ) → Name
named n piece = record n { left = n.left - length piece; kept = take most_named (n.kept ++ take n.left piece) }
