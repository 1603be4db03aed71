-- What moved of a viewer.
use Rattle.std.specs.Prelude.{◌≡◌, ℕ, ◌*◌, Some}
use Rattle.std.specs.Duration.{as_nanos}
use Rattle.connections.specs.Serving.{Serving, at_key}
use Rattle.connection.specs.Connection.{ViewerConnection}
use Rattle.event_loop.specs.declared.traffic.Traffic.{Traffic}

-- what moved of a viewer that is connected
pub record IsTrafficOf (s : Serving) (viewer : ℕ) (traffic : Traffic) : Type 0 where
  pub key : ℕ
  pub connection : ViewerConnection
  pub there : at_key s.slots key ≡ Some connection
  pub number : connection.number ≡ viewer
  -- as many updates as were cut for it
  pub updates : traffic.updates ≡ connection.counts.cuts
  -- when its last bytes came, or, before any came, it
  pub heard_at : as_nanos traffic.heard_at ≡ connection.known.since * 1000000
