-- What is done with a browser's connection until it is a viewer's, or closed: what of its bytes is read, and what is written to it.
use Rattle.std.specs.Prelude.{◌≡◌, ℕ, Bool, false, true, List, ◌++◌, length, ⊤, Option}
use Rattle.std.specs.declared.io.ErrorKind.{ErrorKind}
use Rattle.std.specs.declared.io.ErrorKind.TheVariants as kinds
use Rattle.std.specs.Io.KnownBytes.{Appends, Consumes, Keeps}
use Rattle.web_opening.specs.declared.answers.Verdict.{Verdict}
use Rattle.web_opening.specs.Request.{IsVerdictOnHeld}
use Rattle.web_opening.specs.Response.{is_accepted, response_of}
use Rattle.sockets.specs.declared.request.Request.{Request}
use Rattle.sockets.specs.declared.request.Step.{Step}
use Rattle.sockets.specs.declared.request.Step.TheVariants.{Waits, Continues, Accepted, Over}

-- what is known of a request: the bytes of its head that were read; what is left to be read of its connection, and what was written to it, where these bytes are known; and whether it was refused
pub record Known : Type 0 where
  pub head : List ℕ
  pub unread : Option (List ℕ)
  pub written : Option (List ℕ)
  pub refused : Bool

abbrev pub known_of : {T : Type 0} → (T → Option (List ℕ)) → (T → Option (List ℕ)) → Request T → Known
known_of unread written r = record { head = r.opening; unread = unread r.transport; written = written r.transport; refused = r.is_refused }

-- what comes of a request behind a failure of its connection: it waits where nothing is there now, and a read that was interrupted is made again
abbrev pub step_behind : ErrorKind → Step
step_behind kinds.WouldBlock = Waits
step_behind kinds.Interrupted = Continues
step_behind kind = Over

-- bytes of the head were read, and nothing was written: what came behind them is left
pub record TakesHead (old new : Known) : Type 0 where
  pub bytes : List ℕ
  pub head : new.head ≡ old.head ++ bytes
  pub unread : Consumes old.unread new.unread bytes
  pub written : Keeps old.written new.written
  pub refused : new.refused ≡ old.refused

-- a read of the head ended so, if the connection stands
abbrev pub IsRead : Step → Known → Known → Type 0
IsRead Over old new = ⊤
IsRead (Accepted n) old new = ⊥
IsRead _ old new = TakesHead old new

-- bytes were written, and nothing was read
pub record Writes (bytes : List ℕ) (old new : Known) : Type 0 where
  pub head : new.head ≡ old.head
  pub unread : Keeps old.unread new.unread
  pub written : Appends old.written new.written bytes

-- the response to a verdict was written whole, if the connection stands
abbrev pub IsAnswer : Verdict → Step → Known → Known → Type 0
IsAnswer verdict Over old new = ⊤
IsAnswer verdict Waits old new = ⊥
IsAnswer verdict (Accepted n) old new = (is_accepted verdict ≡ true) × (n ≡ length (response_of verdict)) × (new.refused ≡ old.refused) × Writes (response_of verdict) old new
IsAnswer verdict Continues old new = (is_accepted verdict ≡ false) × (new.refused ≡ true) × Writes (response_of verdict) old new

-- what came behind a refused request was dropped, and nothing was written
pub record StaysRefused (old new : Known) : Type 0 where
  pub head : new.head ≡ old.head
  pub written : Keeps old.written new.written
  pub refused : new.refused ≡ old.refused

abbrev pub IsPassedOver : Step → Known → Known → Type 0
IsPassedOver Over old new = ⊤
IsPassedOver (Accepted n) old new = ⊥
IsPassedOver _ old new = StaysRefused old new

-- the head was read up to its end, and what came behind it is left; the response that accepts it was written, of so many bytes, and nothing else
pub record IsAccepted (hosts origins : List ℕ) (n : ℕ) (old new : Known) : Type 0 where
  pub unrefused : old.refused ≡ false
  pub bytes : List ℕ
  pub head : new.head ≡ old.head ++ bytes
  pub unread : Consumes old.unread new.unread bytes
  pub verdict : Verdict
  pub on_held : IsVerdictOnHeld hosts origins new.head verdict
  pub accepts : is_accepted verdict ≡ true
  pub count : n ≡ length (response_of verdict)
  pub written : Appends old.written new.written (response_of verdict)

-- the head was read up to its end, and the response that refuses it was written, and nothing else
pub record IsRefused (hosts origins : List ℕ) (old new : Known) : Type 0 where
  pub bytes : List ℕ
  pub head : new.head ≡ old.head ++ bytes
  pub verdict : Verdict
  pub on_held : IsVerdictOnHeld hosts origins new.head verdict
  pub refuses : is_accepted verdict ≡ false
  pub written : Appends old.written new.written (response_of verdict)

-- a request is as it was but for bytes of its head, or it is refused; one that was refused is so still
pub record GoesOn (hosts origins : List ℕ) (old new : Known) : Type 0 where
  pub waits : new.refused ≡ false → TakesHead old new
  pub refused : old.refused ≡ false → new.refused ≡ true → IsRefused hosts origins old new
  pub stays : old.refused ≡ true → (new.refused ≡ true) × StaysRefused old new

-- what came of a request, if its connection stands
abbrev pub IsStep : List ℕ → List ℕ → Step → Known → Known → Type 0
IsStep hosts origins Over old new = ⊤
IsStep hosts origins (Accepted n) old new = IsAccepted hosts origins n old new
IsStep hosts origins _ old new = GoesOn hosts origins old new
