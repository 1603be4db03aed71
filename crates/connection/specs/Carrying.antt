-- What a recorded transport carries.
use Rattle.std.specs.Prelude.{ℕ, List, Option}
use Rattle.connection.specs.declared.recording.Recording.{Recording}
use Rattle.connection.specs.Connection.{Carried}

-- by what is known of the transport itself
abbrev pub carried_by : {T : Type 0} → (T → Option (List ℕ)) → (T → Option (List ℕ)) → Recording T → Carried
carried_by unread written r = record { unread = unread r.transport; written = written r.transport; sent = r.sent.items }
