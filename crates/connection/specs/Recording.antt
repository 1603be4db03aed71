-- Bytes that are kept, or not.
use Rattle.std.specs.Prelude.{ℕ, Bool, true, false, List, [], Option, Some, None}

-- nothing yet, where bytes are kept
abbrev pub none_yet : Bool → Option (List ℕ)
none_yet true = Some []
none_yet false = None
