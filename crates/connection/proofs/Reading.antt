-- What a read makes known.
use Rattle.std.proofs.Common.{◌≡◌, ℕ, Bool, refl}
use Rattle.connection.specs.Known.{Known}
use Rattle.connection.specs.Reasons.{known_by_read}
use Rattle.connection.specs.declared.connection.Got.{Got}
use Rattle.connection.specs.declared.connection.Got.TheVariants.{Piece, Nothing, Again, End, Failed, Wrong}

-- what is known of a read says whether it was full
pub full_as_known : (got : Got) (full : Bool) (now : ℕ) (known : Known) → known_by_read got full now known ≡ known_by_read got (known_by_read got full now known).was_full now known
full_as_known (Piece count) full now known = refl
full_as_known Nothing full now known = refl
full_as_known Again full now known = refl
full_as_known End full now known = refl
full_as_known Failed full now known = refl
full_as_known (Wrong code) full now known = refl
