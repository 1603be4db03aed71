-- What lies at a pointer that C was given. Assumes nothing.
use Rattle.std.specs.Prelude.{◌≡◌}
use base.Fraction.{full_share}
use base.Fml.{Fml, fex, fsep}
use denote.RattleType.{RattleType}
use denote.RawPtr.{Ptr, lies_at, room_at}
use Rattle.c_server.specs.contracts.desk.ServerDesk.{the_row}
use Rattle.c_server.specs.contracts.waker.ServerWaker as waker

abbrev pub desk_row : RattleType
desk_row = the_row

abbrev pub waker_row : RattleType
waker_row = waker.the_row

-- this desk lies at p
abbrev pub holds : Ptr → desk_row.Denot → Fml
holds p desk = lies_at desk_row full_share p desk

-- a desk lies at p of which this is so
abbrev pub leaves : Ptr → (desk_row.Denot → Type 0) → Fml
leaves p IsSo = fex desk_row.Denot (λ desk. fex (IsSo desk) (λ _. holds p desk))

-- this waker lies at p
abbrev pub holds_waker : Ptr → waker_row.Denot → Fml
holds_waker p w = lies_at waker_row full_share p w

-- a waker lies at p of which this is so
abbrev pub leaves_waker : Ptr → (waker_row.Denot → Type 0) → Fml
leaves_waker p IsSo = fex waker_row.Denot (λ w. fex (IsSo w) (λ _. holds_waker p w))

-- a waker lies at p
abbrev pub some_waker : Ptr → Fml
some_waker p = fex waker_row.Denot (λ w. holds_waker p w)

-- this desk lies at p, and there is room for a waker at q
abbrev pub holds_beside_room : Ptr → Ptr → desk_row.Denot → Fml
holds_beside_room p q desk = fsep (holds p desk) (room_at waker_row q)

-- it lies there still, as it was, and a waker lies at q
abbrev pub leaves_beside_waker : Ptr → Ptr → desk_row.Denot → Fml
leaves_beside_waker p q desk = fsep (leaves p (λ now. now ≡ desk)) (some_waker q)
