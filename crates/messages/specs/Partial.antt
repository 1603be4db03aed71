-- What the reader's own types keep, and say.
use Rattle.std.specs.Prelude.{◌≡◌, ℕ, List}
use Rattle.messages.specs.declared.Item.{Item}
use Rattle.messages.specs.declared.Version.{Version}
use Rattle.messages.specs.declared.Phase.{Phase}
use Rattle.messages.specs.declared.Phase.TheVariants as phase
use Rattle.messages.specs.declared.partial.Partial.{Partial}
use Rattle.messages.specs.declared.partial.Partial.TheVariants as partial
use Rattle.messages.specs.declared.partial.Numbers.{Numbers}
use Rattle.messages.specs.declared.text.Text.{Text}
use Rattle.messages.specs.declared.reading.Reading.{Reading}
use Rattle.messages.specs.Reading.{Given, Unfinished, plain, encodings, cut_text, faulted, Rest}
use Rattle.messages.specs.declared.ear.Kind.{Kind}
use Rattle.messages.specs.declared.ear.Kind.TheVariants as kind
use Rattle.messages.specs.Progress.{Progress, becomes, text_goes_on}
use Rattle.messages.specs.Steps.{IsShort, Told, fresh, tells, adds}

abbrev pub given_by : Numbers → Given
given_by n = record { first = n.first; copyrect = n.copyrect; resize = n.resize }

abbrev pub unfinished_numbers : Numbers → Unfinished
unfinished_numbers n = encodings n.count n.come (given_by n) n.next.items

abbrev pub unfinished_text : Text → Unfinished
unfinished_text t = cut_text t.length t.bytes.items t.come

abbrev pub unfinished_in : Partial → Unfinished
unfinished_in (partial.Plain bytes) = plain bytes.items
unfinished_in (partial.Encodings n) = unfinished_numbers n
unfinished_in (partial.Text t) = unfinished_text t
unfinished_in (partial.Faulted k) = faulted k

abbrev pub rest_at : Phase → Unfinished → Rest
rest_at p u = record { phase = p; unfinished = u }

abbrev pub rest_in : Phase → Partial → Rest
rest_in p h = rest_at p (unfinished_in h)

-- what a reading has told
abbrev pub told_of : Reading → Told
told_of r = record { items = r.items.items; rest = rest_in r.phase r.partial }

-- items that were read, and then what bytes tell
abbrev pub reads : List Item → Phase → Partial → List ℕ → Told
reads items p h bytes = adds items (tells (rest_in p h) bytes)

-- between the messages of an open conversation: items and what bytes tell behind them are other items and what other
-- bytes tell
abbrev pub TellSame : List Item → List ℕ → List Item → List ℕ → Type 0
TellSame items bytes others more = (v : Version) → adds others (tells (fresh (phase.Open v)) more) ≡ adds items (tells (fresh (phase.Open v)) bytes)

-- how an ear goes on
abbrev pub progress_of : Kind → Progress
progress_of (kind.Becomes p h) = becomes (rest_in p h)
progress_of (kind.TextGoesOn bytes) = text_goes_on bytes.items

-- what the ear becomes leaves room for a byte more
abbrev pub IsShortBehind : Kind → Type 0
IsShortBehind (kind.Becomes p h) = IsShort p (unfinished_in h)
IsShortBehind (kind.TextGoesOn bytes) = Unit {0}
