-- Known bytes that stay.
use Rattle.std.proofs.Common.{ℕ, List, Option}
use Rattle.std.specs.Io.KnownBytes.{Keeps}
use Rattle.std.proofs.KnownBytes.{Keeps-refl}

pub kept_still : (a : Option (List ℕ)) → Keeps a a
kept_still a = Keeps-refl a
