-- A source: how far the conversation with it is, what of its bytes wasn't read, and what waits to be written to it.
use Rattle.std.specs.Prelude.{◌≡◌, ◌⊎◌, ℕ, ◌≤◌, ◌<◌, ◌==◌, Bool, true, false, not, if◌then◌else◌, max, List, [], ◌++◌, length, take, drop, Option, Some, None, Result, Ok, Err}
use Rattle.std.specs.declared.io.Error.{Error}
use Rattle.std.specs.Io.KnownBytes.{Appends}
use Rattle.source_talk.specs.declared.opening.Heard.{Heard}
use Rattle.source_talk.specs.declared.opening.Heard.TheVariants as heard
use Rattle.source_talk.specs.Opening.{View, heard_by, answers, answered_by, is_awaited, named}
use Rattle.source_talk.specs.Outbox.{Waiting, put, most_waiting, written}
use Rattle.source_picture.specs.Mirroring.{is_owing}
use Rattle.mirror.specs.declared.ends.SourceEnd.{SourceEnd}
use Rattle.mirror.specs.declared.ends.SourceEnd.TheVariants as end
use Rattle.mirror.specs.declared.source.Desktop.{Desktop}
use Rattle.mirror.specs.declared.source.Stage.{Stage}
use Rattle.mirror.specs.declared.source.Stage.TheVariants as stage
use Rattle.mirror.specs.Ends.{end_by}

-- ---- how far the conversation is

-- nothing was said
abbrev pub first_stage : Stage
first_stage = stage.Opening (record { said = []; told = 0 })

-- what comes behind what was heard of an opening, if it is another stage: the name in ServerInit
abbrev pub next_stage : Heard → Option Stage
next_stage (heard.Open v init) = Some (stage.Naming (record { init = init; left = init.name; kept = [] }))
next_stage _ = None

abbrev pub is_shown : Stage → Bool
is_shown (stage.Picture picture) = true
is_shown _ = false

-- the name came whole, or the picture comes
abbrev pub is_open : Stage → Bool
is_open (stage.Opening opening) = false
is_open (stage.Naming name) = name.left == 0
is_open (stage.Picture picture) = true

-- what it says of its picture, once all of that came, and until the picture comes
abbrev pub desktop_of : Stage → Option Desktop
desktop_of (stage.Naming name) = if name.left == 0 then Some (record { width = name.init.width; height = name.init.height; name = name.kept }) else None
desktop_of _ = None

-- its opening, the rest of its name, its first update, or the rest of a message has to come
abbrev pub owes : Stage → Bool
owes (stage.Opening opening) = true
owes (stage.Naming name) = not (name.left == 0)
owes (stage.Picture picture) = is_owing picture

-- ---- what is heard

-- why an opening of these bytes is no longer gone on with: by what was heard of it, or for want of memory
abbrev pub IsEndBehind : (said : List ℕ) → Heard → SourceEnd → Type 0
IsEndBehind said (heard.Ends a e) why = (why ≡ end_by said e) ⊎ (why ≡ end.Memory)
IsEndBehind said _ why = why ≡ end.Memory

-- an opening ended by some bytes of a piece, or for want of memory
abbrev pub IsEndOf : (said piece : List ℕ) → SourceEnd → Type 0
IsEndOf said piece why = (n : ℕ) × IsEndBehind (said ++ take n piece) (heard_by (said ++ take n piece)) why

-- The front of a piece was taken: all of it, unless what was heard is more than awaited by then. What is answered to it and wasn't yet waits,
-- and the next stage is that of what was heard.
pub record IsHeard (before : View) (piece : List ℕ) (waiting : Waiting) (after : View) (left : List ℕ) (answered : Waiting) (next : Option Stage) : Type 0 where
  pub taken : ℕ
  pub few : taken ≤ length piece
  pub all : taken < length piece → is_awaited (heard_by after.said) ≡ false
  pub said : after.said ≡ before.said ++ take taken piece
  pub rest : left ≡ drop taken piece
  pub waits : answered ≡ put most_waiting (drop before.told (answers (answered_by (heard_by after.said)))) waiting
  pub told : after.told ≡ max before.told (length (answers (answered_by (heard_by after.said))))
  pub follows : next ≡ next_stage (heard_by after.said)

-- the stage behind: an opening that isn't over, or the next stage
abbrev pub stage_then : View → Option Stage → Stage
stage_then after None = stage.Opening after
stage_then after (Some next) = next

-- an opening is heard, or the front of a piece is the name's, or the piece is for later
abbrev pub IsHeardOf : Stage → (piece : List ℕ) → Waiting → Stage → (left : List ℕ) → Waiting → Type 0
IsHeardOf (stage.Opening before) piece waiting after left answered =
    (behind : View) × (next : Option Stage) × IsHeard before piece waiting behind left answered next × (after ≡ stage_then behind next)
IsHeardOf (stage.Naming name) piece waiting after left answered =
    (after ≡ stage.Naming (named name piece)) × (left ≡ drop name.left piece) × (answered ≡ waiting)
IsHeardOf (stage.Picture picture) piece waiting after left answered = (after ≡ stage.Picture picture) × (left ≡ piece) × (answered ≡ waiting)

-- ---- what is written

-- what waits behind a write; where it failed, all waits on
abbrev pub out_behind : Result ℕ Error → Waiting → Waiting
out_behind (Ok n) waiting = written n waiting
out_behind (Err error) waiting = waiting

-- what was written, and then what waits, is what waited, and then what was put there meanwhile
pub record Sends (before after : Option (List ℕ)) (waited waits : List ℕ) : Type 0 where
  pub sent : List ℕ
  pub put : List ℕ
  pub appends : Appends before after sent
  pub whole : sent ++ waits ≡ waited ++ put
