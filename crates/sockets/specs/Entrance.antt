-- Where connections come in.
use Rattle.std.specs.Prelude.{Bool, false, nat_lt, Option, None, Some}
use Rattle.std.specs.List.{list_any}
use Rattle.sockets.specs.declared.browsers.Browsers.{Browsers}
use Rattle.sockets.specs.declared.doors.Doors.{Doors}

-- a connection may wait at a listener for viewers
abbrev pub may_accept_viewer : Doors → Bool
may_accept_viewer viewers = list_any (λ door. door.may_accept) viewers.doors.items

-- one may wait at that for browsers, if there is one
abbrev pub may_accept_browser : Option Browsers → Bool
may_accept_browser None = false
may_accept_browser (Some browsers) = browsers.door.may_accept

-- more may have come of a request
abbrev pub is_due : Option Browsers → Bool
is_due None = false
is_due (Some browsers) = nat_lt 0 browsers.due

-- more may be read of one at once
abbrev pub goes_on : Option Browsers → Bool
goes_on None = false
goes_on (Some browsers) = browsers.goes_on
