-- What the system is told, and tells.
use Rattle.std.specs.Prelude.{ℕ, ◌-◌, ◌^◌, min, List, Option, Some, None}
use Rattle.std.specs.Int.{div_ceil}
use Rattle.std.specs.Duration.{as_nanos}
use Rattle.std.specs.declared.time.Duration.{Duration}
use Rattle.std.specs.declared.net.ip_addr.IpAddr.{IpAddr}
use Rattle.std.specs.declared.net.socket_addr.SocketAddr.{SocketAddr}
use Rattle.std.specs.Net.Grammar.{IsIpText}
use Rattle.std.specs.Net.Socket.{socket_ip, IsPlainSocket}

-- a text is an IP address in digits
abbrev pub IsAddress : List ℕ → Type 0
IsAddress digits = (ip : IpAddr) × IsIpText digits ip

-- it is none
abbrev pub IsNoAddress : List ℕ → Type 0
IsNoAddress digits = (ip : IpAddr) → ¬ (IsIpText digits ip)

-- the IP address that a text spells, and a port
abbrev pub IsAt : List ℕ → ℕ → SocketAddr → Type 0
IsAt digits port address = IsIpText digits (socket_ip address) × IsPlainSocket address port

-- how many milliseconds a wait takes: the least number that is no shorter, at most 2^31 - 1, also where it has no end
abbrev pub milliseconds_of : Option Duration → ℕ
milliseconds_of None = 2 ^ 31 - 1
milliseconds_of (Some wait) = min (div_ceil (as_nanos wait) 1_000_000) (2 ^ 31 - 1)
