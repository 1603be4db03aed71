-- What the viewers end as, where a `&mut` to one's value is returned.
use Rattle.std.specs.Prelude.{ℕ, Option}
use Rattle.std.specs.Borrow.{Lends, LendsIf, Fml, RattleType, MutBor}
use Rattle.client_list.specs.Connected.{Connected, index_of, index_of_number, with_value}
use Rattle.client_list.specs.contracts.Clients.{the_row}

module _ (T : RattleType) (c : MutBor (Connected T.Denot)) where
  -- once the borrow r ends, the viewer at the position has the last value written through r
  abbrev pub lends_at : ℕ → MutBor T.Denot → Fml
  lends_at position r = Lends (the_row T) T c r (with_value c.now (index_of c.now.positions position))

  -- the same of the viewer with a number; at `None` all stays as it is
  abbrev pub lends_number : ℕ → Option (MutBor T.Denot) → Fml
  lends_number number r = LendsIf (the_row T) T c r (with_value c.now (index_of_number c.now number)) c.now
