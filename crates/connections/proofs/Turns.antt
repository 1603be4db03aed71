-- What a step of one connection, or of the screen, makes of all of them.
use Rattle.std.proofs.Common.{◌≡◌, ◌≢◌, ◌⊎◌, ℕ, Bool, true, false, List, [], ◌∷◌, ◌++◌, Option, Some, None, Result, refl, sym, ap, ◌∙◌, append_assoc, append-nil, subst, inl, inr, arith}
use Rattle.std.specs.Prelude.{IfSome, ◌&&◌, ◌≤◌, length}
use Rattle.std.proofs.lemmas.Bool.{and_from}
use Rattle.std.proofs.lemmas.Bool.Decides.{Decides-eqb}
use Rattle.std.proofs.lemmas.List.Folds.{list_all-append}
use Rattle.screen.specs.declared.Config.{Config}
use Rattle.screen.specs.declared.Event.{Event}
use Rattle.screen.specs.declared.Event.TheVariants.{Hear, Cut}
use Rattle.screen.specs.declared.Input.{Input}
use Rattle.screen.specs.Alone.{owner_of}
use Rattle.screen.specs.Answers.{is_owner, answer_to}
use Rattle.screen.specs.Refusals.{held_as_alone}
use Rattle.receipts.specs.declared.Ended.{Ended}
use Rattle.receipts.specs.declared.Ended.TheVariants.{Memory}
use Rattle.receipts.specs.declared.Ended.TheVariants as ends
use Rattle.screen.specs.declared.Fault.{Fault}
use Rattle.receipts.specs.Histories.{heard_of, bytes_of}
use Rattle.screen.specs.State.{state}
use Rattle.screen.specs.History.{accepted}
use Rattle.screen.specs.Happening.{AllHappen}
use Rattle.connection.specs.Waiting.{waiting_bytes, IsFew}
use Rattle.connections.specs.Recorded.{RecordsMore}
use Rattle.connections.specs.RecordedLemmas.{records-same, records-then}
use Rattle.connections.specs.Drawing.{Surface, IsDrawnFrom, Draws, is_asking_on}
use Rattle.connection.specs.Known.{Known}
use Rattle.connections.specs.Attending.{next_bytes}
use Rattle.connection.specs.Counting.{Counts, with_piece, with_cut}
use Rattle.connections.specs.Counting.{counts_of}
use Rattle.connection.specs.Reasons.{ended_by_read, known_by_read, ended_by_fault}
use Rattle.connection.specs.declared.connection.Got.{Got}
use Rattle.connection.specs.declared.connection.Got.TheVariants.{Piece}
use Rattle.connection.specs.Connection.{Carried, ViewerConnection, Moves, breaks_off}
use Rattle.connection.specs.MovesLemmas.{moves-nothing, moves-then}
use Rattle.connections.specs.Serving.{IsServed}
use Rattle.connections.specs.Telling.{Word, Told, says, said_by, held_of, told_behind, words_after, IsTold}
use Rattle.connection.specs.Holding.{held_behind}
use Rattle.connection.specs.Reasons.{got_bytes}
use Rattle.connections.specs.Turns.{are_of, Knows, IsTurnFrom, HasRead, HearsPiece, TakesTurn, TakesTurnTelling}
use Rattle.connections.specs.TellingLemmas.{words-append, words-drawings, told-nothing}
use Rattle.connections.proofs.Given.{SameFor, bytes-own, heard-own, heard-same, held-own, held-same, counts-heard, counts-cut, counts-uncut, same-drawings, drawings-own}
use Rattle.connections.proofs.Knowing.{knows-known, knows-looked, knows-drawn, knows-heard, knows-none, knows-cut}

moves-read : (a b d : Carried) (r s w : List ℕ) → Moves a b (r ++ []) w → Moves b d s [] → Moves a d (r ++ s) w
moves-read a b d r s w m n =
    subst (λ (l : List ℕ). Moves a d l w) (ap (λ l. l ++ s) (append-nil r)) (subst (λ (l : List ℕ). Moves a d ((r ++ []) ++ s) l) (append-nil w) (moves-then a b d (r ++ []) s w [] m n))

moves-written : (a b d : Carried) (r w x : List ℕ) → Moves a b r w → Moves b d [] x → Moves a d r (w ++ x)
moves-written a b d r w x m n = subst (λ (l : List ℕ). Moves a d l (w ++ x)) (append-nil r) (moves-then a b d r [] w x m n)

-- ---- one viewer

-- a failure is no end that lets all be written
fails : (ended : Option Ended) → breaks_off ended ≡ false → ended ≢ Some Memory
fails ended whole is = let e : breaks_off ended ≡ true = ap breaks_off is in absurd cc

pub served-same : (c : Config) (es fs : List Event) (began : Carried) (e : ViewerConnection) → SameFor c e.number es fs → IsServed c es began e → IsServed c fs began e
served-same c es fs began e same h = record {
  unheard = h.unheard;
  written = h.written;
  unwritten = h.unwritten;
  moved = subst (λ (l : List ℕ). Moves began e.carried (l ++ h.unheard) h.written) (sym same.0) h.moved;
  due = h.due ∙ sym same.1;
  heard = h.heard;
  waits = h.waits;
  few = h.few;
  held = h.held ∙ sym same.2;
  short = h.short;
  counted = h.counted ∙ sym same.3;
}

-- what is known of a connection doesn't matter
pub served-alike : (c : Config) (es : List Event) (began : Carried) (e f : ViewerConnection) → f ≡ record e { known = f.known } → IsServed c es began e → IsServed c es began f
served-alike c es began e f same h = subst (λ (x : ViewerConnection). IsServed c es began x) (sym same) (record {
  unheard = h.unheard;
  written = h.written;
  unwritten = h.unwritten;
  moved = h.moved;
  due = h.due;
  heard = h.heard;
  waits = h.waits;
  few = h.few;
  held = h.held;
  short = h.short;
  counted = h.counted;
})

own-then : (v : ℕ) (es fs : List Event) → are_of v es ≡ true → are_of v fs ≡ true → are_of v (es ++ fs) ≡ true
own-then v es fs a b = list_all-append (λ e. is_owner v (owner_of e)) es fs ∙ and_from _ _ a b

own-one : (v : ℕ) (e : Event) → owner_of e ≡ Some v → are_of v (e ∷ []) ≡ true
own-one v e h = ap (λ o. is_owner v o && true) h ∙ ap (λ b. b && true) ((Decides-eqb v v).1 refl)

-- drawing calls behind a list
pub drawn-on : (c : Config) (list : List Event) (a b : Surface) → a.screen ≡ state c list → Draws a b → IsDrawnFrom c list a b
drawn-on c list a b stands draws = draws c list a (record { calls = []; drawings = refl; screen = stands ∙ ap (state c) (sym (append-nil list)); recorded = records-same c list a.scribed; none = λ h. (h, refl); quiet = λ h. (h, refl) })

-- the application draws in a viewer's turn
pub turn-drawn : (a b : Surface) (e : ViewerConnection) → Draws a b → TakesTurn a e b e
turn-drawn a b e draws c list began v said since t =
    let d = drawn-on c (list ++ t.events) a b t.screen draws in
    let far : (list ++ t.events) ++ d.calls ≡ list ++ (t.events ++ d.calls) = append_assoc list t.events d.calls in
    record {
      events = t.events ++ d.calls;
      words = words-append c list t.events d.calls ∙ ap (λ l. l ++ words_after c (list ++ t.events) d.calls) t.words ∙ ap (λ l. said ++ l) (words-drawings c (list ++ t.events) d.calls d.drawings) ∙ append-nil said;
      own = own-then v t.events d.calls t.own (drawings-own v d.calls d.drawings);
      screen = d.screen ∙ ap (state c) far;
      recorded = records-then c list t.events d.calls since.scribed a.scribed b.scribed t.recorded d.recorded;
      number = t.number;
      served = subst (λ (l : List Event). IsServed c l began e) far
          (served-same c (list ++ t.events) ((list ++ t.events) ++ d.calls) began e (same-drawings c e.number (list ++ t.events) d.calls d.drawings) t.served);
      knows = subst (λ (l : List Event). Knows c list l v since b e.known) far (knows-drawn c list (list ++ t.events) v since a b e.known d t.knows);
    }

-- a read of a viewer that hasn't ended
pub turn-read : (c : Config) (list : List Event) (began : Carried) (v : ℕ) (said : List Word) (since a : Surface) (e f : ViewerConnection) (known : Known) (piece : List ℕ) → e.ended ≡ None
    → f ≡ record e { carried = f.carried; known = known } → known.may_cut ≡ e.known.may_cut → known.may_ask ≡ e.known.may_ask → Moves e.carried f.carried piece [] → length piece ≤ 128 → IsTurnFrom c list began v said since a e → HasRead c list began v said piece since a f
turn-read c list began v said since a e f known piece live same cut ask moved short t =
    let s = t.served in
    let none : s.unheard ≡ [] = s.heard (λ is. let no : ◌≡◌ {A = Option Ended} None (Some Memory) = sym live ∙ is in absurd cc) in
    let all : s.unwritten ≡ waiting_bytes e.waiting = s.waits (ap breaks_off live) in
    let number : f.number ≡ e.number = ap (λ (x : ViewerConnection). x.number) same in
    let waiting : f.waiting ≡ e.waiting = ap (λ (x : ViewerConnection). x.waiting) same in
    record {
      events = t.events;
      words = t.words;
      own = t.own;
      screen = t.screen;
      recorded = t.recorded;
      number = number ∙ t.number;
      live = ap (λ (x : ViewerConnection). x.ended) same ∙ live;
      written = s.written;
      moved = moves-read began e.carried f.carried (heard_of v (list ++ t.events)) piece s.written
          (subst (λ (n : ℕ). Moves began e.carried (heard_of n (list ++ t.events) ++ []) s.written) t.number
          (subst (λ (l : List ℕ). Moves began e.carried (heard_of e.number (list ++ t.events) ++ l) s.written) none s.moved)) moved;
      due = ap (λ w. s.written ++ waiting_bytes w) waiting ∙ ap (λ l. s.written ++ l) (sym all) ∙ s.due ∙ ap (λ n. bytes_of c n (list ++ t.events)) t.number;
      few = subst IsFew (sym waiting) s.few;
      held = ap (λ (x : ViewerConnection). x.held) same ∙ s.held ∙ ap (λ n. held_of c n (list ++ t.events)) t.number;
      counted = ap (λ (x : ViewerConnection). x.counts) same ∙ s.counted ∙ ap (λ n. counts_of c n (list ++ t.events)) t.number;
      short = short;
      knows = let is : f.known ≡ known = ap (λ (x : ViewerConnection). x.known) same in
          knows-known c list (list ++ t.events) v since a a e.known f.known refl (ap (λ (x : Known). x.may_cut) is ∙ cut) (ap (λ (x : Known). x.may_ask) is ∙ ask) t.knows;
    }

-- a viewer of which nothing was read goes on, or ends
pub turn-unread : (c : Config) (list : List Event) (began : Carried) (v : ℕ) (said : List Word) (since a : Surface) (e f : ViewerConnection)
    → f ≡ record e { ended = f.ended } → HasRead c list began v said [] since a e → IsTurnFrom c list began v said since a f
turn-unread c list began v said since a e f same h =
    let number : f.number ≡ v = ap (λ (x : ViewerConnection). x.number) same ∙ h.number in
    let carried : f.carried ≡ e.carried = ap (λ (x : ViewerConnection). x.carried) same in
    let waiting : f.waiting ≡ e.waiting = ap (λ (x : ViewerConnection). x.waiting) same in
    let es = list ++ h.events in
    record {
      events = h.events;
      words = h.words;
      own = h.own;
      screen = h.screen;
      recorded = h.recorded;
      number = number;
      served = record {
        unheard = [];
        written = h.written;
        unwritten = waiting_bytes e.waiting;
        moved = subst (λ (n : ℕ). Moves began f.carried (heard_of n es ++ []) h.written) (sym number) (subst (λ (x : Carried). Moves began x (heard_of v es ++ []) h.written) (sym carried) h.moved);
        due = h.due ∙ ap (λ n. bytes_of c n es) (sym number);
        heard = λ fine. refl;
        waits = λ fine. ap waiting_bytes (sym waiting);
        few = subst IsFew (sym waiting) h.few;
        held = ap (λ (x : ViewerConnection). x.held) same ∙ h.held ∙ ap (λ n. held_of c n es) (sym number);
        short = h.short;
        counted = ap (λ (x : ViewerConnection). x.counts) same ∙ h.counted ∙ ap (λ n. counts_of c n es) (sym number);
      };
      knows = subst (λ (k : Known). Knows c list es v since a k) (sym (ap (λ (x : ViewerConnection). x.known) same)) h.knows;
    }

-- memory was refused to hear a piece
pub turn-unheard : {A X E : Type 0} (stands : A → List Told → Type 0) (x : A) (r : Result X E) (a b : Surface) (e f : ViewerConnection) (room : ℕ) (piece : List ℕ) → b ≡ a → f ≡ record e { room = room; ended = Some Memory } → HearsPiece stands piece a e b f x x r
turn-unheard stands x r a b e f room piece still same c list began v said since h =
    let number : f.number ≡ v = ap (λ (x : ViewerConnection). x.number) same ∙ h.number in
    let carried : f.carried ≡ e.carried = ap (λ (x : ViewerConnection). x.carried) same in
    let ended : f.ended ≡ Some Memory = ap (λ (x : ViewerConnection). x.ended) same in
    let es = list ++ h.events in (
      [],
      record {
        events = h.events;
        words = h.words ∙ sym (append-nil said);
        own = h.own;
        screen = ap (λ (x : Surface). x.screen) still ∙ h.screen;
        recorded = subst (λ (x : Surface). RecordsMore c list h.events since.scribed x.scribed) (sym still) h.recorded;
        number = number;
        served = record {
          unheard = piece;
          written = h.written;
          unwritten = waiting_bytes e.waiting;
          moved = subst (λ (n : ℕ). Moves began f.carried (heard_of n es ++ piece) h.written) (sym number) (subst (λ (x : Carried). Moves began x (heard_of v es ++ piece) h.written) (sym carried) h.moved);
          due = h.due ∙ ap (λ n. bytes_of c n es) (sym number);
          heard = λ fine. absurd (fine ended);
          waits = λ fine. let e : breaks_off f.ended ≡ true = ap breaks_off ended in absurd cc;
          few = subst IsFew (sym (ap (λ (x : ViewerConnection). x.waiting) same)) h.few;
          held = ap (λ (x : ViewerConnection). x.held) same ∙ h.held ∙ ap (λ n. held_of c n es) (sym number);
          short = h.short;
          counted = ap (λ (x : ViewerConnection). x.counts) same ∙ h.counted ∙ ap (λ n. counts_of c n es) (sym number);
        };
        knows = let is : f.known ≡ e.known = ap (λ (x : ViewerConnection). x.known) same in
            knows-known c list es v since a b e.known f.known still (ap (λ (x : Known). x.may_cut) is) (ap (λ (x : Known). x.may_ask) is) h.knows;
      },
      told-nothing stands x r,
    )

-- a piece is heard and answered
heard-turn : (c : Config) (list : List Event) (began : Carried) (v : ℕ) (said : List Word) (since a b : Surface) (e f : ViewerConnection) (piece bytes : List ℕ)
    → (h : HasRead c list began v said piece since a e) → b.drawn ≡ a.drawn → b.noticed ≡ a.noticed → f.known.may_cut ≡ true → f.known.may_ask ≡ true → b.screen ≡ state c ((list ++ h.events) ++ Hear v piece ∷ []) → RecordsMore c (list ++ h.events) (Hear v piece ∷ []) a.scribed b.scribed → AllHappen c (list ++ h.events) (Hear v piece ∷ []) → bytes ≡ (answer_to c (list ++ h.events) (Hear v piece)).bytes
    → f.number ≡ e.number → f.carried ≡ e.carried → f.counts ≡ with_piece piece e.counts → (breaks_off f.ended ≡ false → waiting_bytes f.waiting ≡ waiting_bytes e.waiting ++ bytes) → IsFew f.waiting
    → f.held ≡ held_behind e.held (answer_to c (list ++ h.events) (Hear v piece)).inputs
    → IsTurnFrom c list began v (said ++ says v (told_behind (held_of c v (list ++ h.events)) (answer_to c (list ++ h.events) (Hear v piece)).inputs)) since b f
heard-turn c list began v said since a b e f piece bytes h drawn noticed cut ask stands recorded happened answered its carried counts waits few holds =
    let number : f.number ≡ v = its ∙ h.number in
    let es = list ++ h.events in
    let fs = es ++ Hear v piece ∷ [] in
    let far : fs ≡ list ++ (h.events ++ Hear v piece ∷ []) = append_assoc list h.events (Hear v piece ∷ []) in
    record {
      events = h.events ++ Hear v piece ∷ [];
      words = words-append c list h.events (Hear v piece ∷ []) ∙ ap (λ l. l ++ words_after c es (Hear v piece ∷ [])) h.words ∙ ap (λ l. said ++ l) (append-nil (says v (told_behind (held_of c v es) (answer_to c es (Hear v piece)).inputs)));
      own = own-then v h.events (Hear v piece ∷ []) h.own (own-one v (Hear v piece) refl);
      screen = stands ∙ ap (state c) far;
      recorded = records-then c list h.events (Hear v piece ∷ []) since.scribed a.scribed b.scribed h.recorded recorded;
      number = number;
      served = subst (λ (l : List Event). IsServed c l began f) far (record {
        unheard = [];
        written = h.written;
        unwritten = waiting_bytes e.waiting ++ bytes;
        moved = subst (λ (n : ℕ). Moves began f.carried (heard_of n fs ++ []) h.written) (sym number)
            (subst (λ (x : Carried). Moves began x (heard_of v fs ++ []) h.written) (sym carried)
            (subst (λ (l : List ℕ). Moves began e.carried l h.written) (sym (append-nil (heard_of v fs) ∙ heard-own v es piece)) h.moved));
        due = sym (append_assoc h.written (waiting_bytes e.waiting) bytes) ∙ ap (λ l. l ++ bytes) h.due ∙ ap (λ l. bytes_of c v es ++ l) answered
            ∙ sym (bytes-own c v es (Hear v piece) refl) ∙ ap (λ n. bytes_of c n fs) (sym number);
        heard = λ fine. refl;
        waits = λ fine. sym (waits fine);
        few = few;
        held = holds ∙ ap (λ h. held_behind h (answer_to c es (Hear v piece)).inputs) h.held ∙ sym (held-own c v es piece) ∙ ap (λ n. held_of c n fs) (sym number);
        short = omega arith;
        counted = counts ∙ ap (with_piece piece) h.counted ∙ sym (counts-heard c v es piece happened) ∙ ap (λ n. counts_of c n fs) (sym number);
      });
      knows = subst (λ (l : List Event). Knows c list l v since b f.known) far (knows-heard c list es v since a b e.known f.known piece drawn noticed cut ask h.knows);
    }

-- and the application is told what it says, and draws
pub turn-heard : {A X E : Type 0} (stands : A → List Told → Type 0) (x y : A) (r : Result X E) (inputs : List Input) (a b d : Surface) (e f : ViewerConnection) (n : ℕ) (piece bytes : List ℕ)
    → n ≡ e.number → b.drawn ≡ a.drawn → b.noticed ≡ a.noticed → f.known.may_cut ≡ true → f.known.may_ask ≡ true
    → ((c : Config) (list : List Event) → a.screen ≡ state c list → b.screen ≡ state c (list ++ Hear n piece ∷ []))
    → ((c : Config) (list : List Event) → a.screen ≡ state c list → RecordsMore c list (Hear n piece ∷ []) a.scribed b.scribed)
    → ((c : Config) (list : List Event) → a.screen ≡ state c list → AllHappen c list (Hear n piece ∷ []))
    → ((c : Config) (list : List Event) → a.screen ≡ state c list → bytes ≡ (answer_to c list (Hear n piece)).bytes)
    → ((c : Config) (list : List Event) → a.screen ≡ state c list → inputs ≡ (answer_to c list (Hear n piece)).inputs)
    → f.number ≡ e.number → f.carried ≡ e.carried → f.counts ≡ with_piece piece e.counts → (breaks_off f.ended ≡ false → waiting_bytes f.waiting ≡ waiting_bytes e.waiting ++ bytes) → IsFew f.waiting
    → f.held ≡ held_behind e.held inputs → Draws b d
    → IsTold stands (said_by n (told_behind e.held inputs)) x y r → HearsPiece stands piece a e d f x y r
turn-heard stands x y r inputs a b d e f n piece bytes its drawn noticed cut ask steps records happens answers hears numbered carried counts waits few holds draws told c list began v said since h =
    let es = list ++ h.events in
    let number : n ≡ v = its ∙ h.number in
    let heard : inputs ≡ (answer_to c es (Hear v piece)).inputs = subst (λ (m : ℕ). inputs ≡ (answer_to c es (Hear m piece)).inputs) number (hears c es h.screen) in
    let all : List Input = told_behind (held_of c v es) (answer_to c es (Hear v piece)).inputs in
    let is : said_by n (told_behind e.held inputs) ≡ said_by v all = ap (λ m. said_by m (told_behind e.held inputs)) number ∙ ap (λ k. said_by v (told_behind k inputs)) h.held ∙ ap (λ l. said_by v (told_behind (held_of c v es) l)) heard in (
      all,
      turn-drawn b d f draws c list began v (said ++ says v all) since
          (heard-turn c list began v said since a b e f piece bytes h drawn noticed cut ask
          (subst (λ (m : ℕ). b.screen ≡ state c (es ++ Hear m piece ∷ [])) number (steps c es h.screen))
          (subst (λ (m : ℕ). RecordsMore c es (Hear m piece ∷ []) a.scribed b.scribed) number (records c es h.screen))
          (subst (λ (m : ℕ). AllHappen c es (Hear m piece ∷ [])) number (happens c es h.screen))
          (subst (λ (m : ℕ). bytes ≡ (answer_to c es (Hear m piece)).bytes) number (answers c es h.screen)) numbered carried counts waits few (holds ∙ ap (held_behind e.held) heard)),
      subst (λ l. IsTold stands l x y r) is told,
    )

-- an update is cut for a viewer, or there is none
cut-turn : (a b : Surface) (e f : ViewerConnection) (m : ℕ) (bytes : List ℕ) (counts : Counts) → m ≡ e.number
    → ((c : Config) (list : List Event) → a.screen ≡ state c list → b.screen ≡ state c (list ++ Cut m ∷ []))
    → ((c : Config) (list : List Event) → a.screen ≡ state c list → RecordsMore c list (Cut m ∷ []) a.scribed b.scribed)
    → ((c : Config) (list : List Event) → a.screen ≡ state c list → bytes ≡ (answer_to c list (Cut m)).bytes)
    → f ≡ record e { waiting = f.waiting; known = f.known; counts = counts } → waiting_bytes f.waiting ≡ waiting_bytes e.waiting ++ bytes → (IsFew e.waiting → IsFew f.waiting)
    → ((c : Config) (list : List Event) → a.screen ≡ state c list → e.counts ≡ counts_of c e.number list → counts ≡ counts_of c e.number (list ++ Cut e.number ∷ []))
    → ((c : Config) (before list : List Event) (since : Surface) → a.screen ≡ state c list → Knows c before list e.number since a e.known → Knows c before (list ++ Cut e.number ∷ []) e.number since b f.known) → TakesTurn a e b f
cut-turn a b e f m bytes counts its steps-at records answers-at same waits few counted knows c list began v said since t =
    let steps : (c : Config) (list : List Event) → a.screen ≡ state c list → b.screen ≡ state c (list ++ Cut e.number ∷ []) = λ c list h. subst (λ (m : ℕ). b.screen ≡ state c (list ++ Cut m ∷ [])) its (steps-at c list h) in
    let answers : (c : Config) (list : List Event) → a.screen ≡ state c list → bytes ≡ (answer_to c list (Cut e.number)).bytes = λ c list h. subst (λ (m : ℕ). bytes ≡ (answer_to c list (Cut m)).bytes) its (answers-at c list h) in
    let number : f.number ≡ e.number = ap (λ (x : ViewerConnection). x.number) same in
    let carried : f.carried ≡ e.carried = ap (λ (x : ViewerConnection). x.carried) same in
    let ended : f.ended ≡ e.ended = ap (λ (x : ViewerConnection). x.ended) same in
    let s = t.served in
    let n = e.number in
    let es = list ++ t.events in
    let fs = es ++ Cut n ∷ [] in
    let far : fs ≡ list ++ (t.events ++ Cut n ∷ []) = append_assoc list t.events (Cut n ∷ []) in
    record {
      events = t.events ++ Cut n ∷ [];
      words = words-append c list t.events (Cut n ∷ []) ∙ append-nil (words_after c list t.events) ∙ t.words;
      own = own-then v t.events (Cut n ∷ []) t.own (own-one v (Cut n) (ap Some t.number));
      screen = steps c es t.screen ∙ ap (state c) far;
      recorded = records-then c list t.events (Cut n ∷ []) since.scribed a.scribed b.scribed t.recorded (subst (λ (k : ℕ). RecordsMore c es (Cut k ∷ []) a.scribed b.scribed) its (records c es t.screen));
      number = number ∙ t.number;
      served = subst (λ (l : List Event). IsServed c l began f) far (record {
        unheard = s.unheard;
        written = s.written;
        unwritten = s.unwritten ++ bytes;
        moved = subst (λ (m : ℕ). Moves began f.carried (heard_of m fs ++ s.unheard) s.written) (sym number)
            (subst (λ (x : Carried). Moves began x (heard_of n fs ++ s.unheard) s.written) (sym carried)
            (subst (λ (l : List ℕ). Moves began e.carried (l ++ s.unheard) s.written) (sym (heard-same n es (Cut n) refl)) s.moved));
        due = sym (append_assoc s.written s.unwritten bytes) ∙ ap (λ l. l ++ bytes) s.due ∙ ap (λ l. bytes_of c n es ++ l) (answers c es t.screen)
            ∙ sym (bytes-own c n es (Cut n) refl) ∙ ap (λ m. bytes_of c m fs) (sym number);
        heard = λ fine. s.heard (λ is. fine (ended ∙ is));
        waits = λ fine. ap (λ l. l ++ bytes) (s.waits (ap breaks_off (sym ended) ∙ fine)) ∙ sym waits;
        few = few s.few;
        held = ap (λ (x : ViewerConnection). x.held) same ∙ s.held ∙ sym (held-same c n es (Cut n) refl) ∙ ap (λ m. held_of c m fs) (sym number);
        short = s.short;
        counted = ap (λ (x : ViewerConnection). x.counts) same ∙ counted c es t.screen s.counted ∙ ap (λ m. counts_of c m fs) (sym number);
      });
      knows = subst (λ (m : ℕ). Knows c list (list ++ (t.events ++ Cut n ∷ [])) m since b f.known) t.number
          (subst (λ (l : List Event). Knows c list l n since b f.known) far (knows c list es since t.screen (subst (λ (m : ℕ). Knows c list es m since a e.known) (sym t.number) t.knows)));
    }

-- an update is cut
pub turn-cut : held_as_alone → (a b : Surface) (e f : ViewerConnection) (m : ℕ) (bytes : List ℕ) → m ≡ e.number
    → ((c : Config) (list : List Event) → a.screen ≡ state c list → b.screen ≡ state c (list ++ Cut m ∷ []))
    → ((c : Config) (list : List Event) → a.screen ≡ state c list → RecordsMore c list (Cut m ∷ []) a.scribed b.scribed)
    → ((c : Config) (list : List Event) → a.screen ≡ state c list → AllHappen c list (Cut m ∷ []))
    → ((c : Config) (list : List Event) → a.screen ≡ state c list → bytes ≡ (answer_to c list (Cut m)).bytes)
    → f ≡ record e { waiting = f.waiting; known = f.known; counts = with_cut e.counts } → waiting_bytes f.waiting ≡ waiting_bytes e.waiting ++ bytes → (IsFew e.waiting → IsFew f.waiting)
    → b.drawn ≡ a.drawn → b.noticed ≡ a.noticed → f.known.may_cut ≡ is_asking_on b.screen m → f.known.may_ask ≡ (e.known.may_ask && is_asking_on b.screen m) → TakesTurn a e b f
turn-cut held a b e f m bytes its steps records happens answers same waits few drawn noticed cut ask =
    cut-turn a b e f m bytes (with_cut e.counts) its steps records answers same waits few
    (λ c list stands was. ap with_cut was ∙ sym (counts-cut c e.number list (subst (λ (n : ℕ). AllHappen c list (Cut n ∷ [])) its (happens c list stands))))
    (λ c before list since stands k.
    knows-cut held c before list e.number since a b e.known f.known drawn noticed (subst (λ (n : ℕ). b.screen ≡ state c (list ++ Cut n ∷ [])) its (steps c list stands))
    (cut ∙ ap (λ n. is_asking_on b.screen n) its)
    (ask ∙ ap (λ n. e.known.may_ask && is_asking_on b.screen n) its) k)

-- there is none to be cut
pub turn-uncut : (a b : Surface) (e f : ViewerConnection) (m : ℕ) → m ≡ e.number
    → ((c : Config) (list : List Event) → a.screen ≡ state c list → b.screen ≡ state c (list ++ Cut m ∷ []))
    → ((c : Config) (list : List Event) → a.screen ≡ state c list → RecordsMore c list (Cut m ∷ []) a.scribed b.scribed)
    → ((c : Config) (list : List Event) → a.screen ≡ state c list → accepted c (list ++ Cut m ∷ []) ≡ accepted c list)
    → ((c : Config) (list : List Event) → a.screen ≡ state c list → [] ≡ (answer_to c list (Cut m)).bytes)
    → f ≡ record e { known = f.known } → b.drawn ≡ a.drawn → b.noticed ≡ a.noticed → f.known.may_ask ≡ e.known.may_ask → TakesTurn a e b f
turn-uncut a b e f m its steps records none answers same drawn noticed ask =
    let waiting : f.waiting ≡ e.waiting = ap (λ (x : ViewerConnection). x.waiting) same in
    cut-turn a b e f m [] e.counts its steps records answers (same ∙ ap (λ w. record e { waiting = w; known = f.known }) (sym waiting)) (ap waiting_bytes waiting ∙ sym (append-nil (waiting_bytes e.waiting))) (subst IsFew (sym waiting))
    (λ c list stands was. was ∙ sym (counts-uncut c e.number list (subst (λ (n : ℕ). accepted c (list ++ Cut n ∷ []) ≡ accepted c list) its (none c list stands))))
    (λ c before list since stands k.
    knows-none c before list e.number since a b e.known f.known drawn noticed ask (ap (λ n. next_bytes c n list) (sym its) ∙ sym (answers c list stands)) k)

-- an update may be there to be cut
pub turn-looked : (a : Surface) (e f : ViewerConnection) → f ≡ record e { known = f.known } → f.known.may_cut ≡ true → f.known.may_ask ≡ e.known.may_ask → TakesTurn a e a f
turn-looked a e f same cut ask c list began v said since t = record {
  events = t.events;
  words = t.words;
  own = t.own;
  screen = t.screen;
  recorded = t.recorded;
  number = ap (λ (x : ViewerConnection). x.number) same ∙ t.number;
  served = served-alike c (list ++ t.events) began e f same t.served;
  knows = knows-looked c list (list ++ t.events) v since a e.known f.known cut ask t.knows;
}

-- more is known of its transport
pub turn-noted : (a : Surface) (e f : ViewerConnection) → f ≡ record e { known = f.known } → f.known.may_cut ≡ e.known.may_cut → f.known.may_ask ≡ e.known.may_ask → TakesTurn a e a f
turn-noted a e f same cut ask c list began v said since t = record {
  events = t.events;
  words = t.words;
  own = t.own;
  screen = t.screen;
  recorded = t.recorded;
  number = ap (λ (x : ViewerConnection). x.number) same ∙ t.number;
  served = served-alike c (list ++ t.events) began e f same t.served;
  knows = knows-known c list (list ++ t.events) v since a a e.known f.known refl cut ask t.knows;
}

-- what waits is written, as far as it is taken
pub turn-written : (a b : Surface) (e f : ViewerConnection) (known : Known) (added unwritten : List ℕ) → b ≡ a → breaks_off e.ended ≡ false
    → f ≡ record e { carried = f.carried; waiting = f.waiting; ended = f.ended; known = known } → known.may_cut ≡ e.known.may_cut → known.may_ask ≡ e.known.may_ask → Moves e.carried f.carried [] added → added ++ unwritten ≡ waiting_bytes e.waiting
    → (breaks_off f.ended ≡ false → unwritten ≡ waiting_bytes f.waiting) → IsFew f.waiting → TakesTurn a e b f
turn-written a b e f known added unwritten still whole same cut ask moved parts waits few c list began v said since t =
    let number : f.number ≡ e.number = ap (λ (x : ViewerConnection). x.number) same in
    let s = t.served in
    let es = list ++ t.events in
    let all : s.unwritten ≡ waiting_bytes e.waiting = s.waits whole in
    record {
      events = t.events;
      words = t.words;
      own = t.own;
      screen = ap (λ (x : Surface). x.screen) still ∙ t.screen;
      recorded = subst (λ (x : Surface). RecordsMore c list t.events since.scribed x.scribed) (sym still) t.recorded;
      number = number ∙ t.number;
      knows = let is : f.known ≡ known = ap (λ (x : ViewerConnection). x.known) same in
          knows-known c list es v since a b e.known f.known still (ap (λ (x : Known). x.may_cut) is ∙ cut) (ap (λ (x : Known). x.may_ask) is ∙ ask) t.knows;
      served = record {
        unheard = s.unheard;
        written = s.written ++ added;
        unwritten = unwritten;
        moved = subst (λ (m : ℕ). Moves began f.carried (heard_of m es ++ s.unheard) (s.written ++ added)) (sym number)
            (moves-written began e.carried f.carried (heard_of e.number es ++ s.unheard) s.written added s.moved moved);
        due = append_assoc s.written added unwritten ∙ ap (λ l. s.written ++ l) (parts ∙ sym all) ∙ s.due ∙ ap (λ m. bytes_of c m es) (sym number);
        heard = λ fine. s.heard (fails e.ended whole);
        waits = waits;
        few = few;
        held = ap (λ (x : ViewerConnection). x.held) same ∙ s.held ∙ ap (λ m. held_of c m es) (sym number);
        short = s.short;
        counted = ap (λ (x : ViewerConnection). x.counts) same ∙ s.counted ∙ ap (λ m. counts_of c m es) (sym number);
      };
    }

-- its transport writes what it has to say of its own, which is none of what is sent
pub turn-flushed : (a : Surface) (e f : ViewerConnection) (known : Known) → breaks_off e.ended ≡ false → f ≡ record e { carried = f.carried; ended = f.ended; known = known } → known.may_cut ≡ e.known.may_cut → known.may_ask ≡ e.known.may_ask
    → Moves e.carried f.carried [] [] → TakesTurn a e a f
turn-flushed a e f known whole same cut ask moved c list began v said since t =
    let waiting : f.waiting ≡ e.waiting = ap (λ (x : ViewerConnection). x.waiting) same in
    turn-written a a e f known [] (waiting_bytes e.waiting) refl whole (same ∙ ap (λ w. record e { carried = f.carried; waiting = w; ended = f.ended; known = known }) (sym waiting)) cut ask moved refl
    (λ fine. ap waiting_bytes (sym waiting)) (subst IsFew (sym waiting) t.served.few) c list began v said since t

-- a viewer ends, by a failure or by being closed
pub turn-ended : (a b : Surface) (e f : ViewerConnection) → b ≡ a → e.ended ≡ None → f ≡ record e { ended = f.ended } → TakesTurn a e b f
turn-ended a b e f still live same c list began v said since t =
    let h = turn-read c list began v said since a e e e.known [] live refl refl refl (moves-nothing e.carried) (omega arith) t in
    subst (λ (x : Surface). IsTurnFrom c list began v said since x f) (sym still) (turn-unread c list began v said since a e f same h)

-- a viewer is let go, unless it ended before
pub turn-closed : (a : Surface) (e f : ViewerConnection) (o : Option Ended) → (f ≡ e) ⊎ ((e.ended ≡ None) × (f ≡ record e { ended = o })) → TakesTurn a e a f
turn-closed a e f o (inl same) c list began v said since t = subst (λ (x : ViewerConnection). IsTurnFrom c list began v said since a x) (sym same) t
turn-closed a e f o (inr h) c list began v said since t = turn-ended a a e f refl h.0 (h.1 ∙ ap (λ o. record e { ended = o }) (sym (ap (λ (x : ViewerConnection). x.ended) h.1))) c list began v said since t

pub turn-stays : (a : Surface) (e : ViewerConnection) → TakesTurn a e a e
turn-stays a e c list began v said since t = t

pub turn-then : (a b d : Surface) (e f g : ViewerConnection) → TakesTurn a e b f → TakesTurn b f d g → TakesTurn a e d g
turn-then a b d e f g s t c list began v said since h = t c list began v said since (s c list began v said since h)

-- an application is told nothing
pub turn-silently : {A X E : Type 0} (stands : A → List Told → Type 0) (x : A) (r : Result X E) (a b : Surface) (e f : ViewerConnection) → TakesTurn a e b f → TakesTurnTelling stands a e b f x x r
turn-silently stands x r a b e f turn c list began v said since t =
    ([], subst (λ l. IsTurnFrom c list began v l since b f) (sym (append-nil said)) (turn c list began v said since t), told-nothing stands x r)

-- nothing is read of a viewer that hasn't ended
pub turn-nothing : (a : Surface) (e f h : ViewerConnection) (known : Known) → e.ended ≡ None → f ≡ record e { carried = f.carried; known = known } → known.may_cut ≡ e.known.may_cut → known.may_ask ≡ e.known.may_ask → Moves e.carried f.carried [] []
    → h ≡ record f { ended = h.ended } → TakesTurn a e a h
turn-nothing a e f h known live same cut ask moved ended c list began v said since t =
    turn-unread c list began v said since a f h ended (turn-read c list began v said since a e f known [] live same cut ask moved (omega arith) t)

ended-so : (f h : ViewerConnection) (o : Option Ended) → h ≡ record f { ended = o } → h ≡ record f { ended = h.ended }
ended-so f h o is = is ∙ ap (λ o. record f { ended = o }) (sym (ap (λ (x : ViewerConnection). x.ended) is))

-- a read that gave no piece
pub turn-missed : (a : Surface) (e h : ViewerConnection) (got : Got) (full : Bool) (now : ℕ) (room : List ℕ) → ((count : ℕ) → got ≡ Piece count → ⊥) → e.ended ≡ None
    → h ≡ record e { carried = h.carried; ended = ended_by_read got e.ended; known = known_by_read got full now e.known } → Moves e.carried h.carried (got_bytes got room) [] → TakesTurn a e a h
turn-missed a e h (Piece count) full now room missed live same moved = absurd (missed count refl)
turn-missed a e h got full now room missed live same moved =
    let known : Known = known_by_read got full now e.known in
    let f : ViewerConnection = record e { carried = h.carried; known = known } in
    turn-nothing a e f h known live refl refl refl moved (ended-so f h (ended_by_read got e.ended) same)

-- ---- a viewer that met a fault has ended

pub ended-memory : (o : Option Fault) (e : Option Ended) → e ≡ Some Memory → IfSome o (λ f. (e ≡ Some (ends.Fault f)) ⊎ (e ≡ Some Memory))
ended-memory None e is = tt
ended-memory (Some f) e is = inr is

pub ended-fault : (o p : Option Fault) (before e : Option Ended) → o ≡ p → (e ≡ ended_by_fault o before) ⊎ (e ≡ Some Memory) → IfSome p (λ f. (e ≡ Some (ends.Fault f)) ⊎ (e ≡ Some Memory))
ended-fault o None before e same is = tt
ended-fault o (Some f) before e same is = subst (λ (o : Option Fault). (e ≡ ended_by_fault o before) ⊎ (e ≡ Some Memory)) same is
