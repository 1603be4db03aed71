-- What is answered to a request (RFC 6455, 4.2).
use Rattle.std.specs.Prelude.{◌≡◌, ◌↔◌, ℕ, ◌<◌, ◌≤◌, Bool, false, true, not, ◌&&◌, ◌||◌, ◌==◌, nat_le, List, [], length, map, take, codes, bytes_eq, Option, Some, None, unwrap_or, if◌then◌else◌, IsTrue, MatchBool, MatchOption}
use Rattle.httparse.specs.declared.spans.HeaderSpan.{HeaderSpan}
use Rattle.httparse.specs.declared.spans.RequestSpans.{RequestSpans}
use Rattle.httparse.specs.Grammar.{RequestHead, ReadsRequest}
use Rattle.httparse.specs.Spans.{span_bytes, name_and_value}
use Rattle.websocket.specs.Handshake.{IsValidKey, accept_key_of}
use Rattle.websocket.specs.Headers.{Fields, fields_of, header_value, value_is}
use Rattle.web_opening.specs.declared.answers.Refusal.{Refusal}
use Rattle.web_opening.specs.declared.answers.Refusal.TheVariants.{BadRequest, Forbidden, MethodNotAllowed, UpgradeRequired, HeadTooLarge, VersionNotSupported}
use Rattle.web_opening.specs.declared.answers.Verdict.{Verdict}
use Rattle.web_opening.specs.declared.answers.Verdict.TheVariants.{Accept, Refuse}
use Rattle.web_opening.specs.declared.text.Letters.TheVariants.{AnyCase, Exact}
use Rattle.web_opening.specs.Head.{ends_in_empty_line}
use Rattle.web_opening.specs.Text.{begins_with}
use Rattle.web_opening.specs.Lines.{count_named, lists}
use Rattle.web_opening.specs.LetIn.{is_let_in, IsLetIn}
use Rattle.web_opening.specs.Response.{is_accepted}

-- the most header lines of a request
abbrev pub most_lines : ℕ
most_lines = 64

-- what a head says: its method, its target, the minor number of its version, and its header lines
pub record Request : Type 0 where
  pub method : List ℕ
  pub target : List ℕ
  pub minor : ℕ
  pub fields : Fields

-- what a head of the grammar says
abbrev pub request_of : RequestHead → Request
request_of h = record { method = h.method; target = h.target; minor = h.minor; fields = map name_and_value h.fields }

-- what the parser's offsets into a head say
abbrev pub request_at : List ℕ → List HeaderSpan → RequestSpans → Request
request_at head spans r = record {
  method = span_bytes head r.method;
  target = span_bytes head r.path;
  minor = r.version;
  fields = fields_of head (take r.headers spans);
}

-- a path, or a URI of HTTP or HTTPS (RFC 6455, 4.2.1, 1)
unfoldable pub is_target : List ℕ → Bool
is_target target =
    begins_with target (codes "/") || begins_with target (codes "http://") || begins_with target (codes "https://")

-- at most one line has the name
abbrev pub comes_once_at_most : Fields → List ℕ → Bool
comes_once_at_most fields name = nat_le (count_named fields name) 1

-- what may come once comes once (RFC 6454, 7.3; RFC 6455, 11.3.1 and 11.3.5)
unfoldable pub repeats_nothing : Fields → Bool
repeats_nothing fields =
    comes_once_at_most fields (codes "Origin") && comes_once_at_most fields (codes "Sec-WebSocket-Key")
    && comes_once_at_most fields (codes "Sec-WebSocket-Version")

-- the target is one, there is one Host (RFC 9112, 3.2), and what may come once comes once
unfoldable pub is_well_formed : Request → Bool
is_well_formed request =
    is_target request.target && count_named request.fields (codes "Host") == 1 && repeats_nothing request.fields

-- the lines ask for a WebSocket of version 13 (RFC 6455, 4.2.1, 3, 4 and 6)
unfoldable pub asks_for_web_socket : Fields → Bool
asks_for_web_socket fields =
    lists fields (codes "Upgrade") (codes "websocket") AnyCase
    && lists fields (codes "Connection") (codes "Upgrade") AnyCase
    && value_is fields (codes "Sec-WebSocket-Version") (codes "13")

-- why a request is refused whatever its key is, if it is: the first of these that holds
abbrev pub refusal_of : List ℕ → List ℕ → Request → Option Refusal
refusal_of hosts origins request =
    if request.minor == 0 then Some VersionNotSupported
    else (if not (is_well_formed request) then Some BadRequest
    else (if not (bytes_eq request.method (codes "GET")) then Some MethodNotAllowed
    else (if not (is_let_in hosts origins request.fields) then Some Forbidden
    else (if not (asks_for_web_socket request.fields) then Some UpgradeRequired
    else None))))

-- the key, or nothing
abbrev pub key_in : Fields → List ℕ
key_in fields = unwrap_or (header_value fields (codes "Sec-WebSocket-Key")) []

-- `binary` is among the subprotocols that are offered (RFC 6455, 4.2.1, 8)
abbrev pub offers_binary : Fields → Bool
offers_binary fields = lists fields (codes "Sec-WebSocket-Protocol") (codes "binary") Exact

-- a key of sixteen bytes is accepted, and any other is refused (RFC 6455, 4.2.1, 5, and 4.2.2, 5.4)
abbrev pub IsAnswerToKey : List ℕ → Bool → Verdict → Type 0
IsAnswerToKey key offers (Accept acceptance) =
    IsValidKey key × (acceptance.accept_key ≡ accept_key_of key) × (acceptance.speaks_binary ≡ offers)
IsAnswerToKey key offers (Refuse refusal) = ¬ (IsValidKey key) × (refusal ≡ BadRequest)

-- the verdict on a request
abbrev pub IsVerdictOn : List ℕ → List ℕ → Request → Verdict → Type 0
IsVerdictOn hosts origins request verdict =
    MatchOption (refusal_of hosts origins request)
    (IsAnswerToKey (key_in request.fields) (offers_binary request.fields) verdict)
    (λ refusal. verdict ≡ Refuse refusal)

-- a request that RFC 6455 (4.2.1) allows, and that is let in
pub record IsAllowed (hosts origins : List ℕ) (request : Request) : Type 0 where
  pub version : (request.minor == 0) ≡ false
  pub well_formed : is_well_formed request ≡ true
  pub method : bytes_eq request.method (codes "GET") ≡ true
  pub let_in : IsLetIn hosts origins request.fields
  pub asks : asks_for_web_socket request.fields ≡ true
  pub key : IsValidKey (key_in request.fields)

-- the verdict on a head that has ended: on the request that it is, if it is one of at most 64 header lines
pub record IsVerdictOnHead (hosts origins head : List ℕ) (verdict : Verdict) : Type 0 where
  pub request : (h : RequestHead) → ReadsRequest head h [] → length h.fields ≤ most_lines
      → IsVerdictOn hosts origins (request_of h) verdict
  pub other : ((h : RequestHead) → ReadsRequest head h [] → most_lines < length h.fields)
      → verdict ≡ Refuse BadRequest
  pub accepted : IsTrue (is_accepted verdict)
      → (h : RequestHead) × ReadsRequest head h [] × (length h.fields ≤ most_lines)

-- the verdict on what is held once it is done
abbrev pub IsVerdictOnHeld : List ℕ → List ℕ → List ℕ → Verdict → Type 0
IsVerdictOnHeld hosts origins held verdict =
    MatchBool (ends_in_empty_line held) (IsVerdictOnHead hosts origins held verdict) (verdict ≡ Refuse HeadTooLarge)

-- what is held is a head that has ended, of a request of at most 64 header lines that is allowed
pub record IsAllowedHead (hosts origins held : List ℕ) (h : RequestHead) : Type 0 where
  pub ended : ends_in_empty_line held ≡ true
  pub reads : ReadsRequest held h []
  pub few : length h.fields ≤ most_lines
  pub allowed : IsAllowed hosts origins (request_of h)

-- those heads are accepted, and no others
abbrev pub AcceptsWhatIsAllowed : Type 0
AcceptsWhatIsAllowed =
    (hosts origins held : List ℕ) (verdict : Verdict) → IsVerdictOnHeld hosts origins held verdict
    → (IsTrue (is_accepted verdict) ↔ ((h : RequestHead) × IsAllowedHead hosts origins held h))
