-- What is put into a scribe, and what becomes of it.
use Rattle.std.specs.Prelude.{◌≡◌, ◌≢◌, ℕ, Bool, true, false, List, [], ◌++◌, Option}
use Rattle.std.specs.Io.KnownBytes.{Appends}

-- what the writer holds, where that is known; what waits to be written behind it; and whether something that was put is lost
pub record Scribed : Type 0 where
  pub held : Option (List ℕ)
  pub waiting : List ℕ
  pub broken : Bool

-- A text was put since the writer held other bytes: its first bytes were written behind them, the next ones wait, and the others are lost.
-- Bytes are lost where it is broken, and nowhere else; then none wait.
pub record IsScribed (began : Option (List ℕ)) (text : List ℕ) (s : Scribed) : Type 0 where
  pub written : List ℕ
  pub lost : List ℕ
  pub grew : Appends began s.held written
  pub parts : written ++ (s.waiting ++ lost) ≡ text
  pub whole : s.broken ≡ false → lost ≡ []
  pub lacks : s.broken ≡ true → lost ≢ []
  pub ended : s.broken ≡ true → s.waiting ≡ []

-- Whatever text was put, more was put behind it. So where some of the text is lost, all of this is, and nothing more is written (`puts-ended`).
abbrev pub Puts : List ℕ → Scribed → Scribed → Type 0
Puts more old new = (began : Option (List ℕ)) (text : List ℕ) → IsScribed began text old → IsScribed began (text ++ more) new

-- what is broken stays as it is
abbrev pub StaysBroken : Scribed → Scribed → Type 0
StaysBroken old new = old.broken ≡ true → new ≡ old
