-- What the connections of a screen's viewers are by the events of the screen.
use Rattle.std.specs.Prelude.{IfSome, length, ◌≡◌, ◌≢◌, ◌⊎◌, ℕ, ◌≤◌, ◌<◌, Result, Bool, true, false, ◌&&◌, List, [], ◌++◌, Option, Some, None, option_map, unwrap_or, slice_index_or}
use Rattle.std.specs.Io.KnownBytes.{Appends, Consumes}
use Rattle.screen.specs.declared.Config.{Config}
use Rattle.screen.specs.declared.Event.{Event}
use Rattle.screen.specs.declared.History.{History}
use Rattle.screen.specs.declared.History.TheVariants.{Kept, NotKept}
use Rattle.screen.specs.Answers.{viewer_of}
use Rattle.receipts.specs.declared.Receipt.{Receipt}
use Rattle.receipts.specs.declared.Ended.{Ended}
use Rattle.receipts.specs.declared.Ended.TheVariants.{Memory}
use Rattle.receipts.specs.Checking.{may_break_off}
use Rattle.receipts.specs.Histories.{bytes_of, heard_of}
use Rattle.screen.specs.Reading.{is_open_rest}
use Rattle.screen.specs.State.{State, state, viewer_at, history_by}
use Rattle.connection.specs.Waiting.{waiting_bytes, IsFew}
use Rattle.connections.specs.Drawing.{Surface, IsDrawnFrom}
use Rattle.connections.specs.Recorded.{IsRecordedBy}
use Rattle.key_set.specs.Among.{is_among}
use Rattle.held_inputs.specs.Held.{nothing}
use Rattle.connections.specs.Telling.{Told, words_of, receipts_in, held_of, words_after, IsTold}
use Rattle.connection.specs.Known.{floods}
use Rattle.connections.specs.Attending.{asks, next_bytes, IsSettled}
use Rattle.connection.specs.Counting.{no_counts, HasCounts}
use Rattle.connection.specs.Connection.{Carried, ViewerConnection, Moves, breaks_off, may_read, has_work}
use Rattle.connections.specs.Counting.{counts_of}

-- how it began
pub record Began : Type 0 where
  -- what each viewer's transport carried when the viewer connected, by its number
  pub carried : ℕ → Carried
  -- where there is a record, what its writer held, where that is known
  pub held : Option (Option (List ℕ))

-- nothing can be done for a connection until its transport is found ready or something is drawn
pub record HasNothingToDo (c : Config) (list : List Event) (connection : ViewerConnection) : Type 0 where
  -- it hasn't ended, or bytes wait for it that are still to be written
  pub stays : (connection.ended ≡ None) ⊎ ((breaks_off connection.ended ≡ false) × (waiting_bytes connection.waiting ≢ []))
  -- while it hasn't ended, its transport isn't known to be ready to be read
  pub unread : connection.ended ≡ None → connection.known.may_read ≡ false
  -- where its transport is known to take bytes, nothing waits for it
  pub written : breaks_off connection.ended ≡ false → connection.known.may_write ≡ true → waiting_bytes connection.waiting ≡ []
  -- and, while it hasn't ended, the screen has nothing to send to it
  pub sent : connection.ended ≡ None → connection.known.may_write ≡ true → next_bytes c connection.number list ≡ []

-- a viewer is served, or was until it ended
pub record IsServed (c : Config) (list : List Event) (began : Carried) (connection : ViewerConnection) : Type 0 where
  pub unheard : List ℕ
  pub written : List ℕ
  pub unwritten : List ℕ
  -- what was read of it is what the screen heard of it, and what isn't heard
  pub moved : Moves began connection.carried (heard_of connection.number list ++ unheard) written
  -- what was written to it, and what isn't, is what the screen with this one viewer gives
  pub due : written ++ unwritten ≡ bytes_of c connection.number list
  -- all was heard, unless memory was refused; then all but a last piece was
  pub heard : connection.ended ≢ Some Memory → unheard ≡ []
  pub short : length unheard ≤ 128
  -- what isn't written waits, unless the viewer ended by a failure
  pub waits : breaks_off connection.ended ≡ false → unwritten ≡ waiting_bytes connection.waiting
  -- few bytes are made before they are written
  pub few : IsFew connection.waiting
  -- what it holds down is what its inputs leave
  pub held : connection.held ≡ held_of c connection.number list
  -- the pieces, the cuts and the bytes that were heard are those of the events that happened
  pub counted : connection.counts ≡ counts_of c connection.number list

-- a viewer was served that left, by its transport and its receipt
pub record WasServed {T : Type 0} (c : Config) (list : List Event) (began : Carried) (unread written : T → Option (List ℕ)) (transport : T) (r : Receipt) : Type 0 where
  pub unheard : List ℕ
  pub given : List ℕ
  pub unwritten : List ℕ
  -- what was read of it is what the screen heard of it, and what isn't heard
  pub read : Consumes began.unread (unread transport) (heard_of r.viewer list ++ unheard)
  pub taken : Appends began.written (written transport) given
  -- the receipt has what was written, where that is kept
  pub sent : r.sent ≡ unwrap_or (option_map (λ bytes. bytes ++ given) began.sent) []
  -- what was written to it, and what isn't, is what the screen with this one viewer gives
  pub due : given ++ unwritten ≡ bytes_of c r.viewer list
  -- all was heard, unless memory was refused; then all but a last piece was
  pub heard : r.ended ≢ Memory → unheard ≡ []
  pub short : length unheard ≤ 128
  -- all was written, unless the viewer ended by a failure
  pub whole : may_break_off r.ended ≡ false → unwritten ≡ []
  -- the receipt's pieces, cuts and bytes are those of the events that happened
  pub counted : HasCounts (counts_of c r.viewer list) r

-- a connection's viewer ended, and nothing waits for it that is still to be written
abbrev pub IsOver : Option ViewerConnection → ℕ → Ended → Type 0
IsOver None v ended = ⊥
IsOver (Some connection) v ended = (connection.number ≡ v) × (connection.ended ≡ Some ended) × (may_break_off ended ≡ false → waiting_bytes connection.waiting ≡ [])

-- a screen with its viewers' connections
pub record Serving : Type 0 where
  pub surface : Surface
  -- whether what moves is kept
  pub kept : Bool
  -- the number of the next viewer
  pub next : ℕ
  -- the connections by key
  pub slots : List (Option ViewerConnection)
  -- the key of the next one
  pub vacant : ℕ
  -- the keys of those that are to be looked at
  pub agenda : List ℕ
  -- the keys of those that may have a request unanswered
  pub asking : List ℕ

-- the connection with a key, if there is one
abbrev pub at_key : List (Option ViewerConnection) → ℕ → Option ViewerConnection
at_key slots key = slice_index_or slots key None

-- whether something can be done for the connection with a key
abbrev pub works_at : List (Option ViewerConnection) → ℕ → Bool
works_at slots key = elim (at_key slots key) [ None ↦ false | Some connection ↦ has_work connection ]

-- whether an update may be ready for it; for none it is as if one were
abbrev pub may_cut_at : List (Option ViewerConnection) → ℕ → Bool
may_cut_at slots key = elim (at_key slots key) [ None ↦ true | Some connection ↦ connection.known.may_cut ]

-- whether a request of its may be unanswered
abbrev pub may_ask_at : List (Option ViewerConnection) → ℕ → Bool
may_ask_at slots key = elim (at_key slots key) [ None ↦ false | Some connection ↦ connection.known.may_ask ]

-- whether it floods, and may say more; none doesn't
abbrev pub floods_at : List (Option ViewerConnection) → ℕ → Bool
floods_at slots key = elim (at_key slots key) [ None ↦ false | Some connection ↦ floods connection.known && may_read connection ]

-- the number of the viewer that has a key
abbrev pub number_at : List (Option ViewerConnection) → ℕ → Option ℕ
number_at slots key = option_map (λ connection. connection.number) (at_key slots key)

-- whether a viewer of a screen had its ServerInit (RFC 6143, 7.3.2), and met no fault; no viewer has not
abbrev pub is_open_on : State → Option ℕ → Bool
is_open_on screen None = false
is_open_on screen (Some number) = elim (viewer_at screen number) [ None ↦ false | Some viewer ↦ is_open_rest viewer.heard ]

-- whether what moves is kept, beside the history
abbrev pub is_kept : History → Bool
is_kept Kept = true
is_kept NotKept = false

-- a connection is looked at where something can be done for it
pub record IsAttended (c : Config) (list : List Event) (s : Serving) (key : ℕ) (connection : ViewerConnection) : Type 0 where
  -- its key is on the agenda then
  pub listed : has_work connection ≡ true → is_among key s.agenda ≡ true
  -- where a request of its may be unanswered, its key is among the asking
  pub asking : connection.known.may_ask ≡ true → is_among key s.asking ≡ true
  -- else none is
  pub answered : connection.known.may_ask ≡ false → asks (viewer_of c connection.number list) ≡ false
  -- where no update may be ready, there is nothing to send to it, but for what was drawn since
  pub settled : connection.known.may_cut ≡ false → IsSettled c list s.surface connection.number

-- the screen stands for a list of events, and each viewer is served by it, or was until it ended
pub record Serves (c : Config) (began : Began) (list : List Event) (s : Serving) : Type 0 where
  pub screen : s.surface.screen ≡ state c list
  -- where there is a record, it is the session of the events that happened
  pub recorded : IfSome began.held (λ held. IsRecordedBy held c list s.surface.scribed)
  pub kept : s.kept ≡ is_kept c.history
  pub each : (key : ℕ) (connection : ViewerConnection) → at_key s.slots key ≡ Some connection → (connection.number < s.next) × IsServed c list (began.carried connection.number) connection
  pub attended : (key : ℕ) (connection : ViewerConnection) → at_key s.slots key ≡ Some connection → IsAttended c list s key connection
  -- no two connections have one number
  pub apart : (j k : ℕ) (first second : ViewerConnection) → at_key s.slots j ≡ Some first → at_key s.slots k ≡ Some second → first.number ≡ second.number → j ≡ k
  -- nothing was heard of the viewers that are still to come, nor given to them, they hold nothing, nothing was counted of them, and they aren't there
  pub unused : (v : ℕ) → s.next ≤ v → (heard_of v list ≡ []) × (bytes_of c v list ≡ []) × (held_of c v list ≡ nothing) × (counts_of c v list ≡ no_counts (history_by c.history [])) × (viewer_of c v list ≡ None)

-- whatever the connections stood for, they stand for it with more events behind it, in which no viewer says anything, and none leaves
abbrev pub GoesOn : Serving → Serving → Type 0
GoesOn old new = (c : Config) (began : Began) (list : List Event) → Serves c began list old → (more : List Event) × Serves c began (list ++ more) new × (words_after c list more ≡ [])

-- whatever the connections stood for, they stand for it with more events behind it, in which no viewer leaves, and an application is told the inputs of these
abbrev pub GoesOnTelling : {A X E : Type 0} → (A → List Told → Type 0) → Serving → Serving → A → A → Result X E → Type 0
GoesOnTelling stands old new before after result = (c : Config) (began : Began) (list : List Event) → Serves c began list old →
    (more : List Event) × Serves c began (list ++ more) new × (told : List Told) × (words_of told ≡ words_after c list more) × (receipts_in told ≡ []) × IsTold stands told before after result

-- Viewers that are served by a list of events are served, once their screen was drawn on, by that list with the drawing calls behind it.
abbrev pub drawn_is_served : Type 0
drawn_is_served = (c : Config) (began : Began) (list : List Event) (s : Serving) (surface : Surface) (drawn : IsDrawnFrom c list s.surface surface) → Serves c began list s → Serves c began (list ++ drawn.calls) (record s { surface = surface })
