-- A mirror: its source, if there is one.
use Rattle.std.specs.Prelude.{◌≡◌, ℕ, ◌+◌, ◌-◌, ◌^◌, ◌==◌, nat_lt, min, Bool, false, ◌&&◌, ◌||◌, not, if◌then◌else◌, [], Option, Some, None}
use Rattle.std.specs.Bool.{OnTrue, OnFalse}
use Rattle.screen.specs.declared.Input.{Input}
use Rattle.source_talk.specs.Outbox.{nothing_waits, with_input}
use Rattle.mirror.specs.declared.source.Desktop.{Desktop}
use Rattle.mirror.specs.declared.source.Source.{Source}
use Rattle.mirror.specs.declared.mirror.Mirror.{Mirror}
use Rattle.mirror.specs.Sources.{first_stage, is_shown, desktop_of, owes}

-- what the source says of its picture
abbrev pub source_desktop : {S : Type 0} → Option (Source S) → Option Desktop
source_desktop None = None
source_desktop (Some source) = desktop_of source.stage

-- what a viewer did waits for a source that is shown
abbrev pub handed_on : {S : Type 0} → (view_only : Bool) → Input → Option (Source S) → Option (Source S)
handed_on view_only input None = None
handed_on view_only input (Some source) = Some (if view_only || not (is_shown source.stage) then source else record source { out = with_input input source.out })

-- a source said nothing yet, and nothing waits for it
pub record IsNew {S : Type 0} (source : Source S) : Type 0 where
  pub first : source.stage ≡ first_stage
  pub none : source.out ≡ nothing_waits
  pub unread : source.inbox ≡ []
  pub unheard : source.heard ≡ 0

-- it has to say something, and as many bytes came as by the last look
abbrev pub is_silent : {S : Type 0} → Option (Source S) → (heard : ℕ) → Bool
is_silent None heard = false
is_silent (Some source) heard = (source.heard == heard) && owes source.stage

-- for how many looks it has been silent
abbrev pub silent_behind : (silent : Bool) → ℕ → ℕ
silent_behind silent looks = if silent then min (looks + 1) (2 ^ 32 - 1) else 0

-- ten looks are too many
abbrev pub patience : ℕ
patience = 10

-- A source of which so many bytes came is looked at: it has been silent for so many looks, and is parted with where these are too many.
pub record IsLookedAt {S : Type 0} (looks heard : ℕ) (old new : Mirror S) : Type 0 where
  pub kept : OnTrue (nat_lt looks patience) (new ≡ record old { heard = heard; silent = looks })
  pub parted : OnFalse (nat_lt looks patience) (new.source ≡ None)
  pub counted : (new.heard ≡ heard) × (new.silent ≡ looks)
