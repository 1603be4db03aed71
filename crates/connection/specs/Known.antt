-- What is known of a connection.
use Rattle.std.specs.Prelude.{ℕ, nat_lt, Bool, ◌||◌}
use Rattle.connection.specs.declared.transport.Readiness.{Readiness}

-- whether a connection's transport may give bytes and may take some, whether an update may be there to be cut for its viewer, and whether a request of that one may be unanswered
pub record Known : Type 0 where
  pub may_read : Bool
  pub may_write : Bool
  pub may_cut : Bool
  pub may_ask : Bool
  -- whether its peer sends no more: what it sent can be read to its end
  pub hung_up : Bool
  -- whether its last read filled the buffer, or left more to be read at once
  pub was_full : Bool
  -- how many bytes it said of late, and when that was reckoned, in milliseconds: when its last bytes came, or, before any came, it
  pub level : ℕ
  pub since : ℕ

-- what was found of a transport is known besides what was known before
abbrev pub noted : Readiness → Known → Known
noted found known = record known { may_read = known.may_read || found.may_read; may_write = known.may_write || found.may_write; hung_up = known.hung_up || found.is_hung_up }

-- whether more than 64 KB were said of late
abbrev pub says_much : Known → Bool
says_much known = nat_lt 65536 known.level

-- whether a connection is one that floods: its last read filled the buffer or left more, or much was said of late
abbrev pub floods : Known → Bool
floods known = known.was_full || says_much known
