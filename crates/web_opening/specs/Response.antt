-- The bytes of the answers (RFC 6455, 4.2.2; RFC 9110, 15; RFC 6585, 5).
use Rattle.std.specs.Prelude.{ℕ, ◌+◌, ◌/◌, ◌%◌, Bool, true, false, List, [], ◌∷◌, ◌++◌, length, codes, if◌then◌else◌}
use Rattle.web_opening.specs.declared.answers.Acceptance.{Acceptance}
use Rattle.web_opening.specs.declared.answers.Refusal.{Refusal}
use Rattle.web_opening.specs.declared.answers.Refusal.TheVariants.{BadRequest, Forbidden, MethodNotAllowed, UpgradeRequired, HeadTooLarge, VersionNotSupported}
use Rattle.web_opening.specs.declared.answers.Verdict.{Verdict}
use Rattle.web_opening.specs.declared.answers.Verdict.TheVariants.{Accept, Refuse}

-- the line that says that `binary` is spoken, or none (RFC 6455, 4.2.2, 5.5)
abbrev pub protocol_line : Bool → List ℕ
protocol_line speaks_binary = if speaks_binary then codes "Sec-WebSocket-Protocol: binary\r\n" else []

-- 101, with the accept key (RFC 6455, 4.2.2, 5)
abbrev pub acceptance_bytes : Acceptance → List ℕ
acceptance_bytes acceptance =
    codes "HTTP/1.1 101 Switching Protocols\r\nUpgrade: websocket\r\nConnection: Upgrade\r\nSec-WebSocket-Accept: "
    ++ acceptance.accept_key ++ codes "\r\n" ++ protocol_line acceptance.speaks_binary ++ codes "\r\n"

-- the number of a refusal's status
abbrev pub refusal_status : Refusal → ℕ
refusal_status BadRequest = 400
refusal_status Forbidden = 403
refusal_status MethodNotAllowed = 405
refusal_status UpgradeRequired = 426
refusal_status HeadTooLarge = 431
refusal_status VersionNotSupported = 505

-- its name
abbrev pub reason_of : Refusal → List ℕ
reason_of BadRequest = codes "Bad Request"
reason_of Forbidden = codes "Forbidden"
reason_of MethodNotAllowed = codes "Method Not Allowed"
reason_of UpgradeRequired = codes "Upgrade Required"
reason_of HeadTooLarge = codes "Request Header Fields Too Large"
reason_of VersionNotSupported = codes "HTTP Version Not Supported"

-- the lines that the status wants besides `Connection: close` (RFC 9110, 15.5.6, 15.5.22 and 7.8; RFC 6455, 4.4)
abbrev pub lines_of : Refusal → List ℕ
lines_of BadRequest = codes "Connection: close\r\n"
lines_of Forbidden = codes "Connection: close\r\n"
lines_of MethodNotAllowed = codes "Allow: GET\r\nConnection: close\r\n"
lines_of UpgradeRequired = codes "Upgrade: websocket\r\nSec-WebSocket-Version: 13\r\nConnection: Upgrade, close\r\n"
lines_of HeadTooLarge = codes "Connection: close\r\n"
lines_of VersionNotSupported = codes "Connection: close\r\n"

-- what the body says
abbrev pub body_of : Refusal → List ℕ
body_of BadRequest = codes "The request is malformed.\n"
body_of Forbidden = codes "This host or this origin is not let in.\n"
body_of MethodNotAllowed = codes "Only GET is allowed.\n"
body_of UpgradeRequired = codes "Only WebSockets are served.\n"
body_of HeadTooLarge = codes "The head is longer than 8192 bytes.\n"
body_of VersionNotSupported = codes "Only HTTP/1.1 is spoken.\n"

-- a number from 10 to 99
abbrev pub two_digits : ℕ → List ℕ
two_digits n = (48 + n / 10) ∷ (48 + n % 10) ∷ []

-- a number from 100 to 999
abbrev pub three_digits : ℕ → List ℕ
three_digits n = (48 + n / 100) ∷ two_digits (n % 100)

-- a refusal: the status, the lines that it wants, the body's kind and length, and the body
abbrev pub refusal_bytes : Refusal → List ℕ
refusal_bytes refusal =
    codes "HTTP/1.1 " ++ three_digits (refusal_status refusal) ++ codes " " ++ reason_of refusal ++ codes "\r\n"
    ++ lines_of refusal ++ codes "Content-Type: text/plain\r\nContent-Length: " ++ two_digits (length (body_of refusal))
    ++ codes "\r\n\r\n" ++ body_of refusal

-- the request is accepted
abbrev pub is_accepted : Verdict → Bool
is_accepted (Accept acceptance) = true
is_accepted (Refuse refusal) = false

-- the number of the status that is answered
abbrev pub status_of : Verdict → ℕ
status_of (Accept acceptance) = 101
status_of (Refuse refusal) = refusal_status refusal

-- the bytes that are answered
abbrev pub response_of : Verdict → List ℕ
response_of (Accept acceptance) = acceptance_bytes acceptance
response_of (Refuse refusal) = refusal_bytes refusal
