-- What lies at a pointer that C was given. Assumes nothing.
use base.Fraction.{full_share}
use base.Fml.{Fml, fex, fsep}
use denote.RattleType.{RattleType}
use denote.RawPtr.{Ptr, lies_at}
use Rattle.c_screen.specs.contracts.desk.Desk.{the_row}
use Rattle.c_screen.specs.contracts.update.DeskUpdate as update

abbrev pub desk_row : RattleType
desk_row = the_row

abbrev pub update_row : RattleType
update_row = update.the_row

-- this desk lies at p
abbrev pub holds : Ptr → desk_row.Denot → Fml
holds p desk = lies_at desk_row full_share p desk

-- a desk lies at p of which this is so
abbrev pub leaves : Ptr → (desk_row.Denot → Type 0) → Fml
leaves p IsSo = fex desk_row.Denot (λ desk. fex (IsSo desk) (λ _. holds p desk))

-- this update lies at p
abbrev pub holds_update : Ptr → update_row.Denot → Fml
holds_update p u = lies_at update_row full_share p u

-- an update lies at p of which this is so
abbrev pub leaves_update : Ptr → (update_row.Denot → Type 0) → Fml
leaves_update p IsSo = fex update_row.Denot (λ u. fex (IsSo u) (λ _. holds_update p u))

-- this desk lies at p, and this update at q
abbrev pub holds_both : Ptr → Ptr → desk_row.Denot → update_row.Denot → Fml
holds_both p q desk u = fsep (holds p desk) (holds_update q u)

-- a desk lies at p and an update at q of which this is so
abbrev pub leaves_both : Ptr → Ptr → (desk_row.Denot → update_row.Denot → Type 0) → Fml
leaves_both p q IsSo = fex desk_row.Denot (λ desk. fex update_row.Denot (λ u. fex (IsSo desk u) (λ _. holds_both p q desk u)))
