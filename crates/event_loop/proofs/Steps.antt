-- Steps of a loop, one after the other.
use Rattle.std.proofs.Common.{◌≡◌, ℕ, List, [], ◌∷◌, ◌++◌, Option, None, Some, Result, Ok, Err, refl, sym, ap, ◌∙◌, append_assoc, append-nil, subst, inr}
use Rattle.std.specs.Prelude.{IfOk, MatchOption, IsOkUnless}
use Rattle.std.specs.List.{All}
use Rattle.std.proofs.lemmas.List.Elements.{All-nil, All-cons, All-same, All-append, All-weaker}
use Rattle.screen.specs.declared.ScreenError.{ScreenError}
use Rattle.screen.specs.declared.ScreenError.TheVariants.{OutOfMemory}
use Rattle.event_loop.specs.declared.event_loop.LoopError.{LoopError}
use Rattle.event_loop.specs.declared.event_loop.LoopError.TheVariants.{Screen}
use Rattle.event_loop.specs.Opening.{IsOpenedOr}
use Rattle.screen.specs.declared.Config.{Config}
use Rattle.screen.specs.declared.Event.{Event}
use Rattle.screen.specs.declared.Event.TheVariants.{Connect, Close}
use Rattle.screen.specs.declared.Input.{Input}
use Rattle.receipts.specs.declared.Receipt.{Receipt}
use Rattle.connections.specs.Telling.{Leaves, Told, Left, words_of, says, said_by, receipts_in, words_after, Stays, IsTold}
use Rattle.connections.specs.TellingLemmas.{words-append, words-both, receipts-both, said-words, said-none, told-nothing, told-all, told-then, told-ended}
use Rattle.connection.specs.Recording.{none_yet}
use Rattle.connections.specs.Serving.{Began, Serving, Serves, WasServed, GoesOn, GoesOnTelling}
use Rattle.connection.specs.Connection.{Carried}
use Rattle.event_loop.specs.Admitting.{GoesOnFrom}
use Rattle.event_loop.specs.Sockets.{sockets, sockets_and, IsOfLeaver, IsAccountOf, GoesOnServing, GoesOnServingTelling}

pub on-then : (a b d : Serving) → GoesOnServing a b → GoesOnServing b d → GoesOnServing a d
on-then a b d g h held c list s =
    let first = g held c list s in
    let second = h held c (list ++ first.0) first.1 in (
      first.0 ++ second.0,
      subst (λ (l : List Event). Serves c (sockets_and held c) l d) (append_assoc list first.0 second.0) second.1,
      words-append c list first.0 second.0 ∙ ap (λ l. l ++ words_after c (list ++ first.0) second.0) first.2 ∙ second.2,
    )

pub on-same : (a b : Serving) → a ≡ b → GoesOnServing a b
on-same a b is held c list s = ([], subst (λ (l : List Event). Serves c (sockets_and held c) l b) (sym (append-nil list)) (subst (λ (x : Serving). Serves c (sockets_and held c) list x) is s), refl)

-- what goes on for any transports goes on for sockets
pub on-from : (a before b : Serving) → before ≡ a → GoesOn before b → GoesOnServing a b
on-from a before b is g held c list s = g c (sockets_and held c) list (subst (λ (x : Serving). Serves c (sockets_and held c) list x) (sym is) s)

-- what goes on from a socket goes on for sockets
pub on-came : (a before b : Serving) → before ≡ a → GoesOnFrom (record { unread = None; written = None; sent = none_yet before.kept }) before b → GoesOnServing a b
on-came a before b is g held c list s =
    let t : Serves c (sockets_and held c) list before = subst (λ (x : Serving). Serves c (sockets_and held c) list x) (sym is) s in
    g c (sockets_and held c) list t (ap (λ kept. record { unread = None; written = None; sent = none_yet kept }) (sym t.kept))

-- ---- for any transports

pub goes-same : (a b : Serving) → a ≡ b → GoesOn a b
goes-same a b is c began list s = ([], subst (λ (l : List Event). Serves c began l b) (sym (append-nil list)) (subst (λ (x : Serving). Serves c began list x) is s), refl)

pub goes-then : (a b d : Serving) → GoesOn a b → GoesOn b d → GoesOn a d
goes-then a b d g h c began list s =
    let first = g c began list s in
    let second = h c began (list ++ first.0) first.1 in (
      first.0 ++ second.0,
      subst (λ (l : List Event). Serves c began l d) (append_assoc list first.0 second.0) second.1,
      words-append c list first.0 second.0 ∙ ap (λ l. l ++ words_after c (list ++ first.0) second.0) first.2 ∙ second.2,
    )

-- nobody came
pub from-same : (came : Carried) (a b : Serving) → a ≡ b → GoesOnFrom came a b
from-same came a b is c began list s from = goes-same a b is c began list s

-- a viewer came
pub from-admitted : (came : Carried) (a b : Serving) → ((c : Config) (began : Began) (list : List Event) → Serves c began list a → began.carried a.next ≡ came → Serves c began (list ++ Connect a.next ∷ []) b) → GoesOnFrom came a b
from-admitted came a b admits c began list s from = (Connect a.next ∷ [], admits c began list s from, refl)

-- and then it went on
pub from-then : (came : Carried) (a b d : Serving) → GoesOnFrom came a b → GoesOn b d → GoesOnFrom came a d
from-then came a b d g h c began list s from =
    let first = g c began list s from in
    let second = h c began (list ++ first.0) first.1 in (
      first.0 ++ second.0,
      subst (λ (l : List Event). Serves c began l d) (append_assoc list first.0 second.0) second.1,
      words-append c list first.0 second.0 ∙ ap (λ l. l ++ words_after c (list ++ first.0) second.0) first.2 ∙ second.2,
    )

-- ---- accounts

-- a viewer left, also by a list with more events behind it
leaver-still : (c : Config) (list first second : List Event) (r : Receipt) → IsOfLeaver c (list ++ first) r → IsOfLeaver c (list ++ (first ++ second)) r
leaver-still c list first second r h = (
  h.0,
  h.1 ++ second,
  sym (append_assoc h.0 (Close r.viewer ∷ h.1) second) ∙ ap (λ l. l ++ second) h.2 ∙ append_assoc list first second,
  h.3,
)

-- nothing is told where no viewer says anything, and none leaves
pub account-none : (c : Config) (list more : List Event) → words_after c list more ≡ [] → IsAccountOf c list more []
account-none c list more none = record { said = sym none; left = All-nil (IsOfLeaver c (list ++ more)) }

-- one account and then another
pub account-then : (c : Config) (list first second : List Event) (told more : List Told) → IsAccountOf c list first told → IsAccountOf c (list ++ first) second more → IsAccountOf c list (first ++ second) (told ++ more)
account-then c list first second told more a b =
    let all : List Event = list ++ (first ++ second) in
    let before : All (IsOfLeaver c all) (receipts_in told) = All-weaker (IsOfLeaver c (list ++ first)) (IsOfLeaver c all) (λ r h. leaver-still c list first second r h) (receipts_in told) a.left in
    let behind : All (IsOfLeaver c all) (receipts_in more) = subst (λ (l : List Event). All (IsOfLeaver c l) (receipts_in more)) (append_assoc list first second) b.left in
    record {
      said = words-both told more ∙ ap (λ l. l ++ words_of more) a.said ∙ ap (λ l. words_after c list first ++ l) b.said ∙ sym (words-append c list first second);
      left = All-same (IsOfLeaver c all) (receipts_in (told ++ more)) (receipts_in told ++ receipts_in more) (receipts-both told more) (All-append (IsOfLeaver c all) (receipts_in told) (receipts_in more) before behind);
    }

-- and then nothing more is said
pub account-still : (c : Config) (list first second : List Event) (told : List Told) → IsAccountOf c list first told → words_after c (list ++ first) second ≡ [] → IsAccountOf c list (first ++ second) told
account-still c list first second told a none =
    subst (λ (l : List Told). IsAccountOf c list (first ++ second) l) (append-nil told) (account-then c list first second told [] a (account-none c (list ++ first) second none))

-- nobody leaves
pub account-said : (c : Config) (list more : List Event) (told : List Told) → words_of told ≡ words_after c list more → receipts_in told ≡ [] → IsAccountOf c list more told
account-said c list more told said none =
    record { said = said; left = All-same (IsOfLeaver c (list ++ more)) (receipts_in told) [] none (All-nil (IsOfLeaver c (list ++ more))) }

-- a viewer leaves
pub account-left : {T : Type 0} (held : Option (Option (List ℕ))) (c : Config) (list more : List Event) (unread written : T → Option (List ℕ)) (transport : T) (inputs : List Input) (r : Receipt)
    → words_after c list more ≡ says r.viewer inputs ++ Leaves r.viewer ∷ [] → more ≡ Close r.viewer ∷ [] → WasServed c (list ++ more) ((sockets_and held c).carried r.viewer) unread written transport r
    → IsAccountOf c list more (said_by r.viewer inputs ++ Left r ∷ [])
account-left held c list more unread written transport inputs r words is was =
    let w : WasServed c (list ++ Close r.viewer ∷ []) ((sockets_and held c).carried r.viewer) unread written transport r = subst (λ (l : List Event). WasServed c (list ++ l) ((sockets_and held c).carried r.viewer) unread written transport r) is was in
    let served : WasServed {T = Unit {0}} c (list ++ Close r.viewer ∷ []) ((sockets c).carried r.viewer) (λ _. None) (λ _. None) tt r = record {
      unheard = w.unheard;
      given = w.given;
      unwritten = w.unwritten;
      read = tt;
      taken = tt;
      sent = w.sent;
      due = w.due;
      heard = w.heard;
      short = w.short;
      whole = w.whole;
      counted = w.counted;
    } in
    let leaver : IsOfLeaver c (list ++ more) r = (list, [], ap (λ l. list ++ l) (sym is), served) in
    let one : All (IsOfLeaver c (list ++ more)) (r ∷ []) = All-cons (IsOfLeaver c (list ++ more)) r [] leaver (All-nil (IsOfLeaver c (list ++ more))) in
    record {
      said = words-both (said_by r.viewer inputs) (Left r ∷ []) ∙ ap (λ l. l ++ Leaves r.viewer ∷ []) (said-words r.viewer inputs) ∙ sym words;
      left = All-same (IsOfLeaver c (list ++ more)) (receipts_in (said_by r.viewer inputs ++ Left r ∷ [])) (r ∷ [])
          (receipts-both (said_by r.viewer inputs) (Left r ∷ []) ∙ ap (λ l. l ++ r ∷ []) (said-none r.viewer inputs)) one;
    }

-- ---- what an application is told

module _ {A : Type 0} (stands : A → List Told → Type 0) where
  -- an application was told all
  abbrev pub TellsAll : Serving → Serving → A → A → Type 0
  TellsAll a b x y = GoesOnServingTelling {X = Unit {0}} {E = LoopError} stands a b x y (Ok tt)

  told-stays : {X E : Type 0} (x y : A) (r : Result X E) → Stays stands x y → IsTold stands [] x y r
  told-stays x y r stays before h = let p = told-nothing stands x r before h in (p.0, p.1, p.2, p.3, stays (before ++ p.0) p.4)

  -- it is told nothing
  pub tells-silently : {X E : Type 0} (x y : A) (r : Result X E) (a b : Serving) → Stays stands x y → GoesOnServing a b → GoesOnServingTelling stands a b x y r
  tells-silently x y r a b stays g held c list s = let p = g held c list s in (p.0, p.1, [], account-none c list p.0 p.2, told-stays x y r stays)

  pub tells-all : {X E : Type 0} (x y : A) (r : Result X E) (value : X) (a b : Serving) → r ≡ Ok value → GoesOnServingTelling stands a b x y r → GoesOnServingTelling {X = Unit {0}} {E = LoopError} stands a b x y (Ok tt)
  tells-all x y r value a b ok g held c list s = let p = g held c list s in (p.0, p.1, p.2, p.3, told-all stands x y p.2 r value ok p.4)

  -- it was told all, and is told more
  pub tells-then : {X E : Type 0} (x y z : A) (r : Result X E) (a b d : Serving) → TellsAll a b x y → GoesOnServingTelling stands b d y z r → GoesOnServingTelling stands a d x z r
  tells-then x y z r a b d g h held c list s =
      let first = g held c list s in
      let second = h held c (list ++ first.0) first.1 in (
        first.0 ++ second.0,
        subst (λ (l : List Event). Serves c (sockets_and held c) l d) (append_assoc list first.0 second.0) second.1,
        first.2 ++ second.2,
        account-then c list first.0 second.0 first.2 second.2 first.3 second.3,
        told-then stands x y z first.2 second.2 r first.4 second.4,
      )

  -- what it was told, however it ended
  pub tells-any : {X E : Type 0} (x y : A) (r : Result X E) (a b : Serving) → TellsAll a b x y → GoesOnServingTelling stands a b x y r
  tells-any x y r a b told = tells-then x y y r a b b told (tells-silently y y r b b (λ inputs h. h) (on-same b b refl))

  -- it was told, and then nothing more
  pub tells-before : {X E : Type 0} (x y : A) (r : Result X E) (a b d : Serving) → GoesOnServingTelling stands a b x y r → GoesOnServing b d → GoesOnServingTelling stands a d x y r
  tells-before x y r a b d g h held c list s =
      let first = g held c list s in
      let second = h held c (list ++ first.0) first.1 in (
        first.0 ++ second.0,
        subst (λ (l : List Event). Serves c (sockets_and held c) l d) (append_assoc list first.0 second.0) second.1,
        first.2,
        account-still c list first.0 second.0 first.2 first.3 second.2,
        first.4,
      )

  -- a viewer that ended is parted with, and the application told its last inputs and its receipt
  pub tells-parted : {X E T : Type 0} (x y : A) (r : Result X E) (a before b d : Serving) (unread written : T → Option (List ℕ)) (transport : T) (inputs : List Input) (receipt : Receipt) → before ≡ a
      → ((c : Config) (began : Began) (list : List Event) → Serves c began list before → (more : List Event) × Serves c began (list ++ more) b
      × ((words_after c list more ≡ says receipt.viewer inputs ++ Leaves receipt.viewer ∷ []) × (more ≡ Close receipt.viewer ∷ []) × WasServed c (list ++ more) (began.carried receipt.viewer) unread written transport receipt))
      → GoesOn b d → IsTold stands (said_by receipt.viewer inputs ++ Left receipt ∷ []) x y r → GoesOnServingTelling stands a d x y r
  tells-parted x y r a before b d unread written transport inputs receipt is parts goes told held c list s =
      let all : List Told = said_by receipt.viewer inputs ++ Left receipt ∷ [] in
      let first = parts c (sockets_and held c) list (subst (λ (x : Serving). Serves c (sockets_and held c) list x) (sym is) s) in
      let second = goes c (sockets_and held c) (list ++ first.0) first.1 in (
        first.0 ++ second.0,
        subst (λ (l : List Event). Serves c (sockets_and held c) l d) (append_assoc list first.0 second.0) second.1,
        all,
        account-still c list first.0 second.0 all (account-left held c list first.0 unread written transport inputs receipt first.2.0 first.2.1 first.2.2) second.2,
        told,
      )

  -- as an error says that ended it
  pub tells-ended : {X Y E F : Type 0} (x y : A) (q : Result X E) (r : Result Y F) (f : F) (a b : Serving) → r ≡ Err f → GoesOnServingTelling stands a b x y q → GoesOnServingTelling stands a b x y r
  tells-ended x y q r f a b err g held c list s = let p = g held c list s in (p.0, p.1, p.2, p.3, told-ended stands x y p.2 q r f err p.4)

  -- what goes on for any transports goes on for sockets
  pub tells-from : {X E : Type 0} (x y : A) (r : Result X E) (a before b : Serving) → before ≡ a → GoesOnTelling stands before b x y r → GoesOnServingTelling stands a b x y r
  tells-from x y r a before b is g held c list s =
      let p = g c (sockets_and held c) list (subst (λ (x : Serving). Serves c (sockets_and held c) list x) (sym is) s) in
      (p.0, p.1, p.2, account-said c list p.0 p.2 p.3 p.4, p.5)

-- a loop's connections are those that it was made of
pub served-same : (c : Config) (began : Began) (list : List Event) (made : Serving) (r : Result Serving LoopError) → IfOk r (λ served. served ≡ made) → Serves c began list made → IfOk r (λ served. Serves c began list served)
served-same c began list made (Ok served) same s = subst (λ (x : Serving). Serves c began list x) (sym same) s
served-same c began list made (Err e) same s = tt

-- connections that were refused are no loop
pub refused-connections : {X : Type 0} (Y : Type 0) (made : Result X ScreenError) (refusal : ScreenError) (due : Option ScreenError) → made ≡ Err refusal → MatchOption due (IsOkUnless made OutOfMemory) (λ e. made ≡ Err e)
    → MatchOption due (IsOpenedOr {X = Y} (Err (Screen refusal))) (λ e. ◌≡◌ {A = Result Y LoopError} (Err (Screen refusal)) (Err (Screen e)))
refused-connections {X = X} Y made refusal None is h = inr (ap Screen (subst (λ (r : Result X ScreenError). IsOkUnless r OutOfMemory) is h))
refused-connections Y made refusal (Some e) is h = let same : refusal ≡ e = cc in ap (λ r. Err (Screen r)) same
