-- What a step makes of all connections.
use Rattle.std.proofs.Common.{◌≡◌, ◌≢◌, ◌⊎◌, inl, inr, true≢false, ◌<◌, ◌≤◌, ℕ, zero, suc, Bool, true, false, List, [], ◌∷◌, ◌++◌, Option, Some, None, Result, Ok, Err, refl, sym, ap, ◌∙◌, append_assoc, append-nil, subst, arith, ◌+◌}
use Rattle.std.specs.Prelude.{IfSome, ◌==◌, ◌&&◌, unwrap_or, length, slice_set}
use Rattle.std.proofs.lemmas.List.{get_or-set_same, get_or-set_other}
use Rattle.std.specs.Io.KnownBytes.{Appends, Consumes}
use Rattle.std.proofs.lemmas.Bool.Decides.{Decides-eqb}
use Rattle.screen.specs.declared.Config.{Config}
use Rattle.screen.specs.declared.Event.{Event}
use Rattle.screen.specs.declared.Event.TheVariants.{Connect, Close}
use Rattle.screen.specs.declared.ScreenError.{ScreenError}
use Rattle.screen.specs.Answers.{viewer_of, answer_to}
use Rattle.slab.specs.Slab.{Slab, get, Updates}
use Rattle.receipts.specs.declared.Receipt.{Receipt}
use Rattle.receipts.specs.declared.Ended.{Ended}
use Rattle.receipts.specs.declared.Ended.TheVariants.{Memory}
use Rattle.receipts.specs.Histories.{heard_of, bytes_of}
use Rattle.screen.specs.State.{state, history_by}
use Rattle.screen.specs.declared.History.{History}
use Rattle.screen.specs.declared.History.TheVariants.{Kept, NotKept}
use Rattle.connection.specs.Waiting.{waiting_bytes, IsFew}
use Rattle.connections.specs.Drawing.{Surface, Draws, IsDrawnFrom}
use Rattle.key_set.specs.Among.{is_among}
use Rattle.connections.specs.Attending.{asks, IsSettled}
use Rattle.connection.specs.Counting.{Counts, no_counts, HasCounts}
use Rattle.connections.specs.Counting.{counts_of}
use Rattle.connection.specs.Recording.{none_yet}
use Rattle.held_inputs.specs.Held.{Held, nothing}
use Rattle.connections.specs.Telling.{Word, Leaves, Told, words_of, says, said_by, receipts_in, releases, held_of, words_after}
use Rattle.connections.specs.Recorded.{IsRecordedBy, RecordsMore}
use Rattle.connections.specs.RecordedLemmas.{records-same, recorded-same, recorded-more}
use Rattle.connections.specs.Serving.{Began, IsServed, WasServed, IsOver, IsAttended, Serving, at_key, works_at, may_cut_at, may_ask_at, is_kept, Serves, GoesOn, GoesOnTelling, drawn_is_served}
use Rattle.connection.specs.Connection.{Carried, ViewerConnection, Moves, breaks_off, has_work}
use Rattle.connections.specs.Turns.{Knows, IsTurnFrom, TakesTurn, TakesTurnTelling}
use Rattle.connections.specs.TellingLemmas.{words-append, words-drawings, words-both, receipts-both, said-words, said-none, told-nothing, told-all, told-then, told-ended}
use Rattle.connections.proofs.Given.{SameFor, bytes-own, heard-same, held-same, counts-same, same-others, same-drawings}
use Rattle.connections.proofs.Turns.{served-same, drawn-on}
use Rattle.connection.specs.MovesLemmas.{moves-nothing}
use Rattle.connections.proofs.Seen.{asks-drawings, asks-others, absent-drawings, absent-others}
use Rattle.connections.proofs.Knowing.{settled-looked, settled-other, settled-drawn}

-- ---- steps one after the other

pub goes-then : (a b d : Serving) → GoesOn a b → GoesOn b d → GoesOn a d
goes-then a b d g h c began list s =
    let first = g c began list s in
    let second = h c began (list ++ first.0) first.1 in (
      first.0 ++ second.0,
      subst (λ (l : List Event). Serves c began l d) (append_assoc list first.0 second.0) second.1,
      words-append c list first.0 second.0 ∙ ap (λ l. l ++ words_after c (list ++ first.0) second.0) first.2 ∙ second.2,
    )

module _ {A : Type 0} (stands : A → List Told → Type 0) where
  -- an application was told all
  abbrev pub TellsAll : Serving → Serving → A → A → Type 0
  TellsAll a b x y = GoesOnTelling {X = Unit {0}} {E = ScreenError} stands a b x y (Ok tt)

  -- an application is told nothing
  pub goes-silently : {X E : Type 0} (x : A) (r : Result X E) (a b : Serving) → GoesOn a b → GoesOnTelling stands a b x x r
  goes-silently x r a b g c began list s = let p = g c began list s in (p.0, p.1, [], sym p.2, refl, told-nothing stands x r)

  pub tells-all : {X E : Type 0} (x y : A) (r : Result X E) (value : X) (a b : Serving) → r ≡ Ok value → GoesOnTelling stands a b x y r → TellsAll a b x y
  tells-all x y r value a b ok g c began list s = let p = g c began list s in (p.0, p.1, p.2, p.3, p.4, told-all stands x y p.2 r value ok p.5)

  -- it was told all, and is told more
  pub tells-then : {X E : Type 0} (x y z : A) (r : Result X E) (a b d : Serving) → TellsAll a b x y → GoesOnTelling stands b d y z r → GoesOnTelling stands a d x z r
  tells-then x y z r a b d g h c began list s =
      let first = g c began list s in
      let second = h c began (list ++ first.0) first.1 in (
        first.0 ++ second.0,
        subst (λ (l : List Event). Serves c began l d) (append_assoc list first.0 second.0) second.1,
        first.2 ++ second.2,
        words-both first.2 second.2 ∙ ap (λ l. l ++ words_of second.2) first.3 ∙ ap (λ l. words_after c list first.0 ++ l) second.3 ∙ sym (words-append c list first.0 second.0),
        receipts-both first.2 second.2 ∙ ap (λ l. l ++ receipts_in second.2) first.4 ∙ second.4,
        told-then stands x y z first.2 second.2 r first.5 second.5,
      )

  -- as an error says that ended it
  pub tells-ended : {X Y E F : Type 0} (x y : A) (q : Result X E) (r : Result Y F) (f : F) (a b : Serving) → r ≡ Err f → GoesOnTelling stands a b x y q → GoesOnTelling stands a b x y r
  tells-ended x y q r f a b err g c began list s = let p = g c began list s in (p.0, p.1, p.2, p.3, p.4, told-ended stands x y p.2 q r f err p.5)

-- ---- which are to be looked at

-- other lists that have what they are to have
pub serves-listed : (c : Config) (began : Began) (list : List Event) (a b : Serving) → b.surface ≡ a.surface → b.kept ≡ a.kept → b.next ≡ a.next → b.slots ≡ a.slots
    → ((key : ℕ) → works_at a.slots key ≡ true → is_among key a.agenda ≡ true → is_among key b.agenda ≡ true)
    → ((key : ℕ) → may_ask_at a.slots key ≡ true → is_among key a.asking ≡ true → is_among key b.asking ≡ true)
    → Serves c began list a → Serves c began list b
serves-listed c began list a b surface kept next slots listed asked s = record {
  screen = ap (λ (x : Surface). x.screen) surface ∙ s.screen;
  recorded = recorded-same began.held c list a.surface.scribed b.surface.scribed (ap (λ (x : Surface). x.scribed) surface) s.recorded;
  kept = kept ∙ s.kept;
  each = λ key e there. let h = s.each key e (ap (λ l. at_key l key) (sym slots) ∙ there) in (subst (λ (n : ℕ). e.number < n) (sym next) h.0, h.1);
  attended = λ key e there.
      let was : at_key a.slots key ≡ Some e = ap (λ l. at_key l key) (sym slots) ∙ there in
      let h = s.attended key e was in
      record {
        listed = λ works. listed key (ap (λ o. elim o [ None ↦ false | Some e ↦ has_work e ]) was ∙ works) (h.listed works);
        asking = λ asks. asked key (ap (λ o. elim o [ None ↦ false | Some e ↦ e.known.may_ask ]) was ∙ asks) (h.asking asks);
        answered = h.answered;
        settled = λ none. subst (λ (x : Surface). IsSettled c list x e.number) (sym surface) (h.settled none);
      };
  apart = λ j k d e dj ek same. s.apart j k d e (ap (λ l. at_key l j) (sym slots) ∙ dj) (ap (λ l. at_key l k) (sym slots) ∙ ek) same;
  unused = λ v free. s.unused v (subst (λ (n : ℕ). n ≤ v) next free);
}

pub goes-listed : (a b : Serving) → b.surface ≡ a.surface → b.kept ≡ a.kept → b.next ≡ a.next → b.slots ≡ a.slots
    → ((key : ℕ) → works_at a.slots key ≡ true → is_among key a.agenda ≡ true → is_among key b.agenda ≡ true)
    → ((key : ℕ) → may_ask_at a.slots key ≡ true → is_among key a.asking ≡ true → is_among key b.asking ≡ true) → GoesOn a b
goes-listed a b surface kept next slots listed asked c began list s =
    ([], subst (λ (l : List Event). Serves c began l b) (sym (append-nil list)) (serves-listed c began list a b surface kept next slots listed asked s), refl)

pub goes-nowhere : (a : Serving) → GoesOn a a
goes-nowhere a = goes-listed a a refl refl refl refl (λ key works h. h) (λ key asks h. h)

pub goes-is : (a b : Serving) → b ≡ a → GoesOn a b
goes-is a b is = subst (λ (x : Serving). GoesOn a x) (sym is) (goes-nowhere a)

-- those stay on the agenda for whom something can be done
pub goes-busy : (a b : Serving) → b ≡ record a { agenda = b.agenda } → ((key : ℕ) → works_at a.slots key ≡ true → is_among key a.agenda ≡ true → is_among key b.agenda ≡ true) → GoesOn a b
goes-busy a b same listed =
    goes-listed a b (ap (λ (x : Serving). x.surface) same) (ap (λ (x : Serving). x.kept) same) (ap (λ (x : Serving). x.next) same) (ap (λ (x : Serving). x.slots) same) listed
    (λ key asks h. ap (λ (x : Serving). is_among key x.asking) same ∙ h)

-- other lists of keys
pub goes-among : (a : Serving) (surface : Surface) (kept : Bool) (next : ℕ) (slots : List (Option ViewerConnection)) (vacant : ℕ) (agenda asking later_agenda later_asking : List ℕ)
    → record { surface = surface; kept = kept; next = next; slots = slots; vacant = vacant; agenda = agenda; asking = asking } ≡ a
    → ((key : ℕ) → works_at slots key ≡ true → is_among key agenda ≡ true → is_among key later_agenda ≡ true)
    → ((key : ℕ) → may_ask_at slots key ≡ true → is_among key asking ≡ true → is_among key later_asking ≡ true)
    → GoesOn a (record { surface = surface; kept = kept; next = next; slots = slots; vacant = vacant; agenda = later_agenda; asking = later_asking })
goes-among a surface kept next slots vacant agenda asking later_agenda later_asking is listed asked =
    let was : Serving = record { surface = surface; kept = kept; next = next; slots = slots; vacant = vacant; agenda = agenda; asking = asking } in
    let b : Serving = record { surface = surface; kept = kept; next = next; slots = slots; vacant = vacant; agenda = later_agenda; asking = later_asking } in
    subst (λ (x : Serving). GoesOn x b) is (goes-listed was b refl refl refl refl listed asked)

-- those were looked at for whom drawing may have left something
pub goes-settled : (a b : Serving) → b ≡ record a { surface = b.surface } → b.surface.screen ≡ a.surface.screen → b.surface.scribed ≡ a.surface.scribed
    → ((key : ℕ) → may_cut_at a.slots key ≡ false → (a.surface.noticed ≡ false) × (is_among key a.asking ≡ false)) → GoesOn a b
goes-settled a b same screen scribed looked c began list s =
    let slots : b.slots ≡ a.slots = ap (λ (x : Serving). x.slots) same in
    let next : b.next ≡ a.next = ap (λ (x : Serving). x.next) same in (
      [],
      subst (λ (l : List Event). Serves c began l b) (sym (append-nil list)) (record {
        screen = screen ∙ s.screen;
        recorded = recorded-same began.held c list a.surface.scribed b.surface.scribed scribed s.recorded;
        kept = ap (λ (x : Serving). x.kept) same ∙ s.kept;
        each = λ key e there. let h = s.each key e (ap (λ l. at_key l key) (sym slots) ∙ there) in (subst (λ (n : ℕ). e.number < n) (sym next) h.0, h.1);
        attended = λ key e there. one key e (ap (λ l. at_key l key) (sym slots) ∙ there);
        apart = λ j k d e dj ek same. s.apart j k d e (ap (λ l. at_key l j) (sym slots) ∙ dj) (ap (λ l. at_key l k) (sym slots) ∙ ek) same;
        unused = λ v free. s.unused v (subst (λ (n : ℕ). n ≤ v) next free);
      }),
      refl,
    )
  where
    unasked : (key : ℕ) (e : ViewerConnection) → is_among key a.asking ≡ false → IsAttended c list a key e → (w : Bool) → e.known.may_ask ≡ w → asks (viewer_of c e.number list) ≡ false
    unasked key e away h true is = absurd (true≢false (sym (h.asking is) ∙ away))
    unasked key e away h false is = h.answered is

    one : (key : ℕ) (e : ViewerConnection) → at_key a.slots key ≡ Some e → IsAttended c list b key e
    one key e was =
        let h = s.attended key e was in
        record {
          listed = λ works. ap (λ (x : Serving). is_among key x.agenda) same ∙ h.listed works;
          asking = λ asks. ap (λ (x : Serving). is_among key x.asking) same ∙ h.asking asks;
          answered = h.answered;
          settled = λ none.
              let p = looked key (ap (λ o. elim o [ None ↦ true | Some e ↦ e.known.may_cut ]) was ∙ none) in
              settled-looked c list a.surface b.surface e.number (unasked key e p.1 h e.known.may_ask refl) p.0 (h.settled none);
        }

-- ---- the application draws

-- after calls that were drawn each viewer is served by the list with them behind it
serves-drawn : (c : Config) (began : Began) (list : List Event) (a b : Serving) (d : IsDrawnFrom c list a.surface b.surface) → b ≡ record a { surface = b.surface } → Serves c began list a → Serves c began (list ++ d.calls) b
serves-drawn c began list a b d same s =
    let next : b.next ≡ a.next = ap (λ (x : Serving). x.next) same in
    let slots : b.slots ≡ a.slots = ap (λ (x : Serving). x.slots) same in
    let stays : (v : ℕ) → SameFor c v list (list ++ d.calls) = λ v. same-drawings c v list d.calls d.drawings in
    record {
      screen = d.screen;
      recorded = recorded-more began.held c list d.calls a.surface.scribed b.surface.scribed d.recorded s.recorded;
      kept = ap (λ (x : Serving). x.kept) same ∙ s.kept;
      each = λ key e there. let h = s.each key e (ap (λ l. at_key l key) (sym slots) ∙ there) in
          (subst (λ (n : ℕ). e.number < n) (sym next) h.0, served-same c list (list ++ d.calls) (began.carried e.number) e (stays e.number) h.1);
      attended = λ key e there.
          let h = s.attended key e (ap (λ l. at_key l key) (sym slots) ∙ there) in
          record {
            listed = λ works. ap (λ (x : Serving). is_among key x.agenda) same ∙ h.listed works;
            asking = λ asks. ap (λ (x : Serving). is_among key x.asking) same ∙ h.asking asks;
            answered = λ none. asks-drawings c e.number list d.calls d.drawings (h.answered none);
            settled = λ none. settled-drawn c list a.surface b.surface e.number d (h.settled none);
          };
      apart = λ j k d e dj ek same. s.apart j k d e (ap (λ l. at_key l j) (sym slots) ∙ dj) (ap (λ l. at_key l k) (sym slots) ∙ ek) same;
      unused = λ v free. let h = s.unused v (subst (λ (n : ℕ). n ≤ v) next free) in ((stays v).0 ∙ h.0, (stays v).1 ∙ h.1, (stays v).2 ∙ h.2, (stays v).3 ∙ h.3, absent-drawings c v list d.calls d.drawings h.4);
    }

pub goes-drawn : (a b : Serving) → Draws a.surface b.surface → b ≡ record a { surface = b.surface } → GoesOn a b
goes-drawn a b draws same c began list s =
    let d = drawn-on c list a.surface b.surface s.screen draws in
    (d.calls, serves-drawn c began list a b d same s, words-drawings c list d.calls d.drawings)

pub drawn-serves : drawn_is_served
drawn-serves c began list s surface drawn serves = serves-drawn c began list s (record s { surface = surface }) drawn refl serves

pub goes-drawn-by : (a : Serving) (before after : Surface) (kept : Bool) (next : ℕ) (slots : List (Option ViewerConnection)) (vacant : ℕ) (agenda asking : List ℕ)
    → record { surface = before; kept = kept; next = next; slots = slots; vacant = vacant; agenda = agenda; asking = asking } ≡ a → Draws before after
    → GoesOn a (record { surface = after; kept = kept; next = next; slots = slots; vacant = vacant; agenda = agenda; asking = asking })
goes-drawn-by a before after kept next slots vacant agenda asking is draws =
    subst (λ (x : Serving). GoesOn x (record { surface = after; kept = kept; next = next; slots = slots; vacant = vacant; agenda = agenda; asking = asking })) is
    (goes-drawn (record { surface = before; kept = kept; next = next; slots = slots; vacant = vacant; agenda = agenda; asking = asking }) (record { surface = after; kept = kept; next = next; slots = slots; vacant = vacant; agenda = agenda; asking = asking }) draws refl)

-- ---- one connection's turn

less-apart : (m n v : ℕ) → m < n → n ≤ v → m ≡ v → ⊥
less-apart m n v less free is = omega (arith, less, free, is)

-- a turn begins
begun : (c : Config) (began : Began) (list : List Event) (a : Serving) (key : ℕ) (e : ViewerConnection) → at_key a.slots key ≡ Some e → Serves c began list a → IsTurnFrom c list (began.carried e.number) e.number [] a.surface a.surface e
begun c began list a key e there s =
    let n = e.number in
    let known = s.attended key e there in
    record {
      events = [];
      words = refl;
      own = refl;
      screen = s.screen ∙ ap (state c) (sym (append-nil list));
      recorded = records-same c list a.surface.scribed;
      number = refl;
      served = subst (λ (l : List Event). IsServed c l (began.carried n) e) (sym (append-nil list)) (s.each key e there).1;
      knows = subst (λ (l : List Event). Knows c list l n a.surface a.surface e.known) (sym (append-nil list)) (record { answered = known.answered; settled = known.settled; others = λ u apart h. h });
    }

serves-by-turn : (c : Config) (began : Began) (list : List Event) (a b : Serving) (key : ℕ) (e f : ViewerConnection) (said : List Word) → at_key a.slots key ≡ Some e → at_key b.slots key ≡ Some f
    → ((other : ℕ) → other ≢ key → at_key b.slots other ≡ at_key a.slots other) → b.kept ≡ a.kept → b.next ≡ a.next → b.agenda ≡ a.agenda → b.asking ≡ a.asking
    → is_among key a.agenda ≡ true → (f.known.may_ask ≡ true → (e.known.may_ask ≡ true) ⊎ (is_among key a.asking ≡ true))
    → (t : IsTurnFrom c list (began.carried e.number) e.number said a.surface b.surface f) → Serves c began list a → Serves c began (list ++ t.events) b
serves-by-turn c began list a b key e f said there now others kept next agenda asking among asked t s =
    let n = e.number in
    let mine = s.each key e there in
    let stays : (v : ℕ) → (n ≡ v → ⊥) → SameFor c v list (list ++ t.events) = λ v apart. same-others c n v apart list t.events t.own in
    record {
      screen = t.screen;
      recorded = recorded-more began.held c list t.events a.surface.scribed b.surface.scribed t.recorded s.recorded;
      kept = kept ∙ s.kept;
      each = λ j g at. at-one j g at (j == key) refl t stays;
      attended = λ j g at. known-one j g at (j == key) refl t;
      apart = λ j k d g dj gk same. apart-two j k d g dj gk same t;
      unused = λ v free. let f = subst (λ (n : ℕ). n ≤ v) next free in let h = s.unused v f in let far = less-apart n a.next v mine.0 f in let w = stays v far in (w.0 ∙ h.0, w.1 ∙ h.1, w.2 ∙ h.2, w.3 ∙ h.3, absent-others c n v far list t.events t.own h.4);
    }
  where
    Turned : Type 0
    Turned = IsTurnFrom c list (began.carried e.number) e.number said a.surface b.surface f

    same-f : (g : ViewerConnection) → at_key b.slots key ≡ Some g → f ≡ g
    same-f g at = let two : ◌≡◌ {A = Option ViewerConnection} (Some f) (Some g) = sym now ∙ at in cc

    at-one : (j : ℕ) (g : ViewerConnection) → at_key b.slots j ≡ Some g → (w : Bool) → (j == key) ≡ w → (t : Turned) → ((v : ℕ) → (e.number ≡ v → ⊥) → SameFor c v list (list ++ t.events))
        → (g.number < b.next) × IsServed c (list ++ t.events) (began.carried g.number) g
    at-one j g at true is t stays =
        let here : f ≡ g = same-f g (ap (at_key b.slots) (sym ((Decides-eqb j key).0 is)) ∙ at) in
        let number : g.number ≡ e.number = ap (λ (x : ViewerConnection). x.number) (sym here) ∙ t.number in (
          subst (λ (m : ℕ). g.number < m) (sym next) (subst (λ (m : ℕ). m < a.next) (sym number) (s.each key e there).0),
          subst (λ (m : ℕ). IsServed c (list ++ t.events) (began.carried m) g) (sym number) (subst (λ (x : ViewerConnection). IsServed c (list ++ t.events) (began.carried e.number) x) here t.served),
        )
    at-one j g at false is t stays =
        let away : j ≢ key = λ same. let yes : (j == key) ≡ true = (Decides-eqb j key).1 same in absurd cc in
        let was : at_key a.slots j ≡ Some g = sym (others j away) ∙ at in
        let h = s.each j g was in (
          subst (λ (m : ℕ). g.number < m) (sym next) h.0,
          served-same c list (list ++ t.events) (began.carried g.number) g (stays g.number (λ same. away (s.apart j key g e was there (sym same)))) h.1,
        )

    known-one : (j : ℕ) (g : ViewerConnection) → at_key b.slots j ≡ Some g → (w : Bool) → (j == key) ≡ w → (t : Turned) → IsAttended c (list ++ t.events) b j g
    known-one j g at true is t =
        let same : j ≡ key = (Decides-eqb j key).0 is in
        let here : f ≡ g = same-f g (ap (at_key b.slots) (sym same) ∙ at) in
        let asks : f.known.may_ask ≡ true → is_among key a.asking ≡ true = λ ask. elim (asked ask) [ inl before ↦ (s.attended key e there).asking before | inr now ↦ now ] in
        subst (λ (x : ViewerConnection). IsAttended c (list ++ t.events) b j x) here (record {
          listed = λ works. ap (is_among j) agenda ∙ ap (λ k. is_among k a.agenda) same ∙ among;
          asking = λ ask. ap (is_among j) asking ∙ ap (λ k. is_among k a.asking) same ∙ asks ask;
          answered = λ none. ap (λ m. asks_of m) t.number ∙ t.knows.answered none;
          settled = λ none. subst (λ (m : ℕ). IsSettled c (list ++ t.events) b.surface m) (sym t.number) (t.knows.settled none);
        })
      where
        asks_of : ℕ → Bool
        asks_of m = asks (viewer_of c m (list ++ t.events))
    known-one j g at false is t =
        let away : j ≢ key = λ same. let yes : (j == key) ≡ true = (Decides-eqb j key).1 same in absurd cc in
        let was : at_key a.slots j ≡ Some g = sym (others j away) ∙ at in
        let h = s.attended j g was in
        let apart : e.number ≡ g.number → ⊥ = λ same. away (s.apart j key g e was there (sym same)) in
        record {
          listed = λ works. ap (is_among j) agenda ∙ h.listed works;
          asking = λ ask. ap (is_among j) asking ∙ h.asking ask;
          answered = λ none. asks-others c e.number g.number apart list t.events t.own (h.answered none);
          settled = λ none. t.knows.others g.number apart (h.settled none);
        }

    -- each one's number is what it was
    was-one : (j : ℕ) (g : ViewerConnection) → at_key b.slots j ≡ Some g → (w : Bool) → (j == key) ≡ w → Turned → (d : ViewerConnection) × (at_key a.slots j ≡ Some d) × (d.number ≡ g.number)
    was-one j g at true is t =
        let same : j ≡ key = (Decides-eqb j key).0 is in
        let here : f ≡ g = same-f g (ap (at_key b.slots) (sym same) ∙ at) in
        (e, ap (at_key a.slots) same ∙ there, sym t.number ∙ ap (λ (x : ViewerConnection). x.number) here)
    was-one j g at false is t = (g, sym (others j (λ same. let yes : (j == key) ≡ true = (Decides-eqb j key).1 same in absurd cc)) ∙ at, refl)

    apart-two : (j k : ℕ) (d g : ViewerConnection) → at_key b.slots j ≡ Some d → at_key b.slots k ≡ Some g → d.number ≡ g.number → Turned → j ≡ k
    apart-two j k d g dj gk same t =
        let p = was-one j d dj (j == key) refl t in
        let q = was-one k g gk (k == key) refl t in
        s.apart j k p.0 q.0 p.1 q.1 (p.2 ∙ same ∙ sym q.2)

pub goes-by-turn : (a b : Serving) (key : ℕ) (e f : ViewerConnection) → at_key a.slots key ≡ Some e → at_key b.slots key ≡ Some f
    → ((other : ℕ) → other ≢ key → at_key b.slots other ≡ at_key a.slots other) → b.kept ≡ a.kept → b.next ≡ a.next → b.agenda ≡ a.agenda → b.asking ≡ a.asking
    → is_among key a.agenda ≡ true → (f.known.may_ask ≡ true → (e.known.may_ask ≡ true) ⊎ (is_among key a.asking ≡ true)) → TakesTurn a.surface e b.surface f → GoesOn a b
goes-by-turn a b key e f there now others kept next agenda asking among asked turn c began list s =
    let t = turn c list (began.carried e.number) e.number [] a.surface (begun c began list a key e there s) in
    (t.events, serves-by-turn c began list a b key e f [] there now others kept next agenda asking among asked t s, t.words)

-- the same where an application is told what came
pub goes-by-telling : {A X E : Type 0} (stands : A → List Told → Type 0) (x y : A) (r : Result X E) (a b : Serving) (key : ℕ) (e f : ViewerConnection) → at_key a.slots key ≡ Some e → at_key b.slots key ≡ Some f
    → ((other : ℕ) → other ≢ key → at_key b.slots other ≡ at_key a.slots other) → b.kept ≡ a.kept → b.next ≡ a.next → b.agenda ≡ a.agenda → b.asking ≡ a.asking
    → is_among key a.agenda ≡ true → (f.known.may_ask ≡ true → (e.known.may_ask ≡ true) ⊎ (is_among key a.asking ≡ true)) → TakesTurnTelling stands a.surface e b.surface f x y r → GoesOnTelling stands a b x y r
goes-by-telling stands x y r a b key e f there now others kept next agenda asking among asked turn c began list s =
    let t = turn c list (began.carried e.number) e.number [] a.surface (begun c began list a key e there s) in
    let said = said_by e.number t.0 in (
      t.1.events,
      serves-by-turn c began list a b key e f (says e.number t.0) there now others kept next agenda asking among asked t.1 s,
      said,
      said-words e.number t.0 ∙ sym t.1.words,
      said-none e.number t.0,
      t.2,
    )

-- a key with a connection is one of the slots
within : (slots : List (Option ViewerConnection)) (key : ℕ) (e : ViewerConnection) → at_key slots key ≡ Some e → key < length slots
within [] key e h = absurd cc
within (x ∷ slots) zero e h = omega arith
within (x ∷ slots) (suc key) e h = let r = within slots key e h in omega (arith, r)

pub goes-at : (a : Serving) (before after : Surface) (kept : Bool) (next : ℕ) (slots : List (Option ViewerConnection)) (vacant : ℕ) (agenda asking : List ℕ) (key : ℕ) (e f : ViewerConnection)
    → record { surface = before; kept = kept; next = next; slots = slots; vacant = vacant; agenda = agenda; asking = asking } ≡ a → at_key slots key ≡ Some e
    → is_among key agenda ≡ true → (f.known.may_ask ≡ true → (e.known.may_ask ≡ true) ⊎ (is_among key asking ≡ true)) → TakesTurn before e after f
    → GoesOn a (record { surface = after; kept = kept; next = next; slots = slice_set slots key (Some f); vacant = vacant; agenda = agenda; asking = asking })
goes-at a before after kept next slots vacant agenda asking key e f is there listed asked turn =
    let b : Serving = record { surface = after; kept = kept; next = next; slots = slice_set slots key (Some f); vacant = vacant; agenda = agenda; asking = asking } in
    subst (λ (x : Serving). GoesOn x b) is
    (goes-by-turn (record { surface = before; kept = kept; next = next; slots = slots; vacant = vacant; agenda = agenda; asking = asking }) b key e f there
    (get_or-set_same slots key (Some f) None (within slots key e there))
    (λ other away. get_or-set_other slots key other (Some f) None away) refl refl refl refl listed asked turn)

pub goes-at-telling : {A X E : Type 0} (stands : A → List Told → Type 0) (x y : A) (r : Result X E) (a : Serving) (before after : Surface) (kept : Bool) (next : ℕ) (slots : List (Option ViewerConnection)) (vacant : ℕ) (agenda asking : List ℕ) (key : ℕ)
    (e f : ViewerConnection) → record { surface = before; kept = kept; next = next; slots = slots; vacant = vacant; agenda = agenda; asking = asking } ≡ a → at_key slots key ≡ Some e
    → is_among key agenda ≡ true → (f.known.may_ask ≡ true → (e.known.may_ask ≡ true) ⊎ (is_among key asking ≡ true)) → TakesTurnTelling stands before e after f x y r
    → GoesOnTelling stands a (record { surface = after; kept = kept; next = next; slots = slice_set slots key (Some f); vacant = vacant; agenda = agenda; asking = asking }) x y r
goes-at-telling stands x y r a before after kept next slots vacant agenda asking key e f is there listed asked turn =
    let b : Serving = record { surface = after; kept = kept; next = next; slots = slice_set slots key (Some f); vacant = vacant; agenda = agenda; asking = asking } in
    subst (λ (s : Serving). GoesOnTelling stands s b x y r) is
    (goes-by-telling stands x y r (record { surface = before; kept = kept; next = next; slots = slots; vacant = vacant; agenda = agenda; asking = asking }) b key e f there
    (get_or-set_same slots key (Some f) None (within slots key e there))
    (λ other away. get_or-set_other slots key other (Some f) None away) refl refl refl refl listed asked turn)

-- what a key has once it was written
pub at-set : (slots : List (Option ViewerConnection)) (key : ℕ) (e f : ViewerConnection) → at_key slots key ≡ Some e → at_key (slice_set slots key (Some f)) key ≡ Some f
at-set slots key e f there = get_or-set_same slots key (Some f) None (within slots key e there)

-- it may ask as little as before
pub asks-same : (e f : ViewerConnection) (asking : List ℕ) (key : ℕ) → f.known.may_ask ≡ e.known.may_ask → f.known.may_ask ≡ true → (e.known.may_ask ≡ true) ⊎ (is_among key asking ≡ true)
asks-same e f asking key same ask = inl (sym same ∙ ask)

pub asks-closed : (e f : ViewerConnection) (o : Option Ended) (asking : List ℕ) (key : ℕ) → (f ≡ e) ⊎ ((e.ended ≡ None) × (f ≡ record e { ended = o })) → f.known.may_ask ≡ true → (e.known.may_ask ≡ true) ⊎ (is_among key asking ≡ true)
asks-closed e f o asking key (inl same) ask = inl (sym (ap (λ (x : ViewerConnection). x.known.may_ask) same) ∙ ask)
asks-closed e f o asking key (inr same) ask = inl (sym (ap (λ (x : ViewerConnection). x.known.may_ask) same.1) ∙ ask)

-- ---- all that are to be looked at are

-- a connection for which none may be there to be cut wasn't listed
pub unlooked : (before after : List (Option ViewerConnection)) (agenda asking : List ℕ) (noticed : Bool) → ((key : ℕ) → is_among key agenda ≡ true → may_cut_at after key ≡ true) → ((key : ℕ) → may_cut_at before key ≡ true → may_cut_at after key ≡ true)
    → ((key : ℕ) → may_cut_at before key ≡ false → is_among key agenda ≡ false → (noticed ≡ false) × (is_among key asking ≡ false))
    → (key : ℕ) → may_cut_at after key ≡ false → (noticed ≡ false) × (is_among key asking ≡ false)
unlooked before after agenda asking noticed looked others listed key none = listed key (was (may_cut_at before key) refl) (off (is_among key agenda) refl)
  where
    was : (b : Bool) → may_cut_at before key ≡ b → may_cut_at before key ≡ false
    was true is = absurd (true≢false (sym (others key is) ∙ none))
    was false is = is

    off : (b : Bool) → is_among key agenda ≡ b → is_among key agenda ≡ false
    off true is = absurd (true≢false (sym (looked key is) ∙ none))
    off false is = is

-- those are listed for whom drawing may have left something to send, then all on the agenda are looked at, and then nothing is drawn
pub goes-watched : (a b d e : Serving) → b ≡ record a { agenda = b.agenda; asking = b.asking } → GoesOn a b
    → ((key : ℕ) → may_cut_at a.slots key ≡ false → is_among key b.agenda ≡ false → (a.surface.noticed ≡ false) × (is_among key b.asking ≡ false))
    → d ≡ record b { slots = d.slots } → GoesOn b d → ((key : ℕ) → is_among key b.agenda ≡ true → may_cut_at d.slots key ≡ true) → ((key : ℕ) → may_cut_at b.slots key ≡ true → may_cut_at d.slots key ≡ true)
    → e ≡ record d { surface = e.surface } → e.surface.screen ≡ d.surface.screen → e.surface.scribed ≡ d.surface.scribed → GoesOn a e
goes-watched a b d e first on listed second then_on looked others third screen scribed =
    goes-then a d e (goes-then a b d on then_on) (goes-settled d e third screen scribed (λ key none.
    let p = unlooked a.slots d.slots b.agenda b.asking a.surface.noticed looked (λ k h. others k (ap (λ (x : Serving). may_cut_at x.slots k) first ∙ h)) listed key none in
    (ap (λ (x : Serving). x.surface.noticed) second ∙ ap (λ (x : Serving). x.surface.noticed) first ∙ p.0, ap (λ (x : Serving). is_among key x.asking) second ∙ p.1)))

-- ---- a viewer comes, or has left

pub none-yet : (c : Config) (began : Began) (s : Serving) → IfSome began.held (λ h. IsRecordedBy h c [] s.surface.scribed) → s.surface.screen ≡ state c [] → s.kept ≡ is_kept c.history → s.slots ≡ [] → Serves c began [] s
none-yet c began s recorded screen kept none = record {
  screen = screen;
  recorded = recorded;
  kept = kept;
  each = λ key e there. let no : ◌≡◌ {A = Option ViewerConnection} None (Some e) = sym (ap (λ l. at_key l key) none) ∙ there in absurd cc;
  attended = λ key e there. let no : ◌≡◌ {A = Option ViewerConnection} None (Some e) = sym (ap (λ l. at_key l key) none) ∙ there in absurd cc;
  apart = λ j k d e dj ek same. let no : ◌≡◌ {A = Option ViewerConnection} None (Some d) = sym (ap (λ l. at_key l j) none) ∙ dj in absurd cc;
  unused = λ v free. (refl, refl, refl, refl, refl);
}

-- a list of keys takes in one
abbrev pub Takes : ℕ → List ℕ → List ℕ → Type 0
Takes key before after = (is_among key after ≡ true) × ((k : ℕ) → is_among k before ≡ true → is_among k after ≡ true)

-- one leaves a list of keys
abbrev pub Lets : ℕ → List ℕ → List ℕ → Type 0
Lets key before after = (k : ℕ) → (k == key) ≡ false → is_among k before ≡ true → is_among k after ≡ true

none-yet-kept : (h : History) → none_yet (is_kept h) ≡ history_by h []
none-yet-kept Kept = refl
none-yet-kept NotKept = refl

pub one-more : (c : Config) (began : Began) (list : List Event) (a b : Serving) (key : ℕ) (f : ViewerConnection) (bytes : List ℕ)
    → b.surface.screen ≡ state c (list ++ Connect a.next ∷ []) → RecordsMore c list (Connect a.next ∷ []) a.surface.scribed b.surface.scribed → bytes ≡ (answer_to c list (Connect a.next)).bytes → b.kept ≡ a.kept → b.next ≡ a.next + 1
    → at_key a.slots key ≡ None → at_key b.slots key ≡ Some f → ((other : ℕ) → other ≢ key → at_key b.slots other ≡ at_key a.slots other)
    → f.number ≡ a.next → began.carried a.next ≡ f.carried → f.held ≡ nothing → f.counts ≡ no_counts (none_yet a.kept) → (breaks_off f.ended ≡ false → waiting_bytes f.waiting ≡ bytes) → IsFew f.waiting
    → b.surface.drawn ≡ a.surface.drawn → b.surface.noticed ≡ a.surface.noticed → f.known.may_cut ≡ true → f.known.may_ask ≡ true → Takes key a.agenda b.agenda → Takes key a.asking b.asking → Serves c began list a
    → Serves c began (list ++ Connect a.next ∷ []) b
one-more c began list a b key f bytes screen recorded answered kept next vacant now others number carried holds counts waits few drawn noticed cuts asked agenda asking s = record {
  screen = screen;
  recorded = recorded-more began.held c list (Connect a.next ∷ []) a.surface.scribed b.surface.scribed recorded s.recorded;
  kept = kept ∙ s.kept;
  each = λ j g at. at-one j g at (j == key) refl;
  attended = λ j g at. known-one j g at (j == key) refl;
  apart = λ j k d g dj gk same. apart-two j k d g dj gk same (j == key) refl (k == key) refl;
  unused = λ v free.
      let above : n < v = let f = subst (λ (m : ℕ). m ≤ v) next free in omega (arith, f) in
      let h = s.unused v (omega (arith, above)) in
      let far : a.next ≡ v → ⊥ = λ is. omega (arith, above, is) in
      let w = stays v far in
      (w.0 ∙ h.0, w.1 ∙ h.1, w.2 ∙ h.2, w.3 ∙ h.3, absent-others c a.next v far list (Connect a.next ∷ []) (ap (λ b. b && true) ((Decides-eqb a.next a.next).1 refl)) h.4);
}
  where
    n : ℕ
    n = a.next

    more : List Event
    more = list ++ Connect a.next ∷ []

    stays : (v : ℕ) → (a.next ≡ v → ⊥) → SameFor c v list more
    stays v apart = same-others c a.next v apart list (Connect a.next ∷ []) (ap (λ b. b && true) ((Decides-eqb a.next a.next).1 refl))

    same-f : (g : ViewerConnection) → at_key b.slots key ≡ Some g → f ≡ g
    same-f g at = let two : ◌≡◌ {A = Option ViewerConnection} (Some f) (Some g) = sym now ∙ at in cc

    first : IsServed c more (began.carried a.next) f
    first =
        let none = s.unused a.next (omega arith) in
        let heard : heard_of a.next more ≡ [] = heard-same a.next list (Connect a.next) refl ∙ none.0 in
        let due : bytes_of c a.next more ≡ bytes = bytes-own c a.next list (Connect a.next) refl ∙ ap (λ l. l ++ (answer_to c list (Connect a.next)).bytes) none.1 ∙ sym answered in
        record {
          unheard = [];
          written = [];
          unwritten = bytes;
          moved = subst (λ (m : ℕ). Moves (began.carried a.next) f.carried (heard_of m more ++ []) []) (sym number)
              (subst (λ (l : List ℕ). Moves (began.carried a.next) f.carried (l ++ []) []) (sym heard)
              (subst (λ (x : Carried). Moves (began.carried a.next) x [] []) carried (moves-nothing (began.carried a.next))));
          due = sym due ∙ ap (λ m. bytes_of c m more) (sym number);
          heard = λ fine. refl;
          waits = λ fine. sym (waits fine);
          few = few;
          held = holds ∙ sym (held-same c a.next list (Connect a.next) refl ∙ none.2) ∙ ap (λ m. held_of c m more) (sym number);
          short = omega arith;
          counted = counts ∙ ap (λ k. no_counts (none_yet k)) s.kept ∙ ap no_counts (none-yet-kept c.history) ∙ sym (counts-same c a.next list (Connect a.next) refl refl ∙ none.3) ∙ ap (λ m. counts_of c m more) (sym number);
        }

    at-one : (j : ℕ) (g : ViewerConnection) → at_key b.slots j ≡ Some g → (w : Bool) → (j == key) ≡ w → (g.number < b.next) × IsServed c more (began.carried g.number) g
    at-one j g at true is =
        let here : f ≡ g = same-f g (ap (at_key b.slots) (sym ((Decides-eqb j key).0 is)) ∙ at) in
        let mine : g.number ≡ a.next = ap (λ (x : ViewerConnection). x.number) (sym here) ∙ number in
        (omega (arith, mine, next), subst (λ (m : ℕ). IsServed c more (began.carried m) g) (sym mine) (subst (λ (x : ViewerConnection). IsServed c more (began.carried a.next) x) here first))
    at-one j g at false is =
        let was : at_key a.slots j ≡ Some g = sym (others j (λ same. let yes : (j == key) ≡ true = (Decides-eqb j key).1 same in absurd cc)) ∙ at in
        let h = s.each j g was in
        (omega (arith, h.0, next), served-same c list more (began.carried g.number) g (stays g.number (λ is. omega (arith, h.0, is))) h.1)

    known-one : (j : ℕ) (g : ViewerConnection) → at_key b.slots j ≡ Some g → (w : Bool) → (j == key) ≡ w → IsAttended c more b j g
    known-one j g at true is =
        let same : j ≡ key = (Decides-eqb j key).0 is in
        let here : f ≡ g = same-f g (ap (at_key b.slots) (sym same) ∙ at) in
        subst (λ (x : ViewerConnection). IsAttended c more b j x) here (record {
          listed = λ works. ap (λ k. is_among k b.agenda) same ∙ agenda.0;
          asking = λ ask. ap (λ k. is_among k b.asking) same ∙ asking.0;
          answered = λ none. absurd (true≢false (sym asked ∙ none));
          settled = λ none. absurd (true≢false (sym cuts ∙ none));
        })
    known-one j g at false is =
        let was : at_key a.slots j ≡ Some g = sym (others j (λ same. let yes : (j == key) ≡ true = (Decides-eqb j key).1 same in absurd cc)) ∙ at in
        let below = (s.each j g was).0 in
        let apart : a.next ≡ g.number → ⊥ = λ is. omega (arith, below, is) in
        let h = s.attended j g was in
        record {
          listed = λ works. agenda.1 j (h.listed works);
          asking = λ ask. asking.1 j (h.asking ask);
          answered = λ none. asks-others c a.next g.number apart list (Connect a.next ∷ []) (ap (λ b. b && true) ((Decides-eqb a.next a.next).1 refl)) (h.answered none);
          settled = λ none. settled-other c list a.surface b.surface a.next g.number (Connect a.next) apart refl drawn noticed (h.settled none);
        }

    apart-two : (j k : ℕ) (d g : ViewerConnection) → at_key b.slots j ≡ Some d → at_key b.slots k ≡ Some g → d.number ≡ g.number → (w : Bool) → (j == key) ≡ w → (x : Bool) → (k == key) ≡ x → j ≡ k
    apart-two j k d g dj gk same true wj true wk = (Decides-eqb j key).0 wj ∙ sym ((Decides-eqb k key).0 wk)
    apart-two j k d g dj gk same true wj false wk =
        let here : f ≡ d = same-f d (ap (at_key b.slots) (sym ((Decides-eqb j key).0 wj)) ∙ dj) in
        let mine : d.number ≡ a.next = ap (λ (x : ViewerConnection). x.number) (sym here) ∙ number in
        let h = s.each k g (sym (others k (λ same. let yes : (k == key) ≡ true = (Decides-eqb k key).1 same in absurd cc)) ∙ gk) in
        absurd (less-apart g.number a.next a.next h.0 (omega arith) (sym same ∙ mine))
    apart-two j k d g dj gk same false wj true wk =
        let here : f ≡ g = same-f g (ap (at_key b.slots) (sym ((Decides-eqb k key).0 wk)) ∙ gk) in
        let mine : g.number ≡ a.next = ap (λ (x : ViewerConnection). x.number) (sym here) ∙ number in
        let h = s.each j d (sym (others j (λ same. let yes : (j == key) ≡ true = (Decides-eqb j key).1 same in absurd cc)) ∙ dj) in
        absurd (less-apart d.number a.next a.next h.0 (omega arith) (same ∙ mine))
    apart-two j k d g dj gk same false wj false wk =
        s.apart j k d g (sym (others j (λ same. let yes : (j == key) ≡ true = (Decides-eqb j key).1 same in absurd cc)) ∙ dj)
        (sym (others k (λ same. let yes : (k == key) ≡ true = (Decides-eqb k key).1 same in absurd cc)) ∙ gk) same

-- the same, as it is admitted
pub admitted : (c : Config) (began : Began) (list : List Event) (a : Serving) (before after : Surface) (kept : Bool) (next following : ℕ) (old new : Slab ViewerConnection) (agenda asking later_agenda later_asking : List ℕ) (key : ℕ)
    (f : ViewerConnection) (bytes : List ℕ) (carried : Carried) → record { surface = before; kept = kept; next = next; slots = old.slots; vacant = old.vacant_key; agenda = agenda; asking = asking } ≡ a
    → (before.screen ≡ state c list → after.screen ≡ state c (list ++ Connect next ∷ [])) → (before.screen ≡ state c list → RecordsMore c list (Connect next ∷ []) before.scribed after.scribed) → (before.screen ≡ state c list → bytes ≡ (answer_to c list (Connect next)).bytes) → following ≡ next + 1
    → get old key ≡ None → Updates old new key (Some f) → f.number ≡ next → f.carried ≡ carried → f.held ≡ nothing → f.counts ≡ no_counts (none_yet kept) → (breaks_off f.ended ≡ false → waiting_bytes f.waiting ≡ bytes)
    → IsFew f.waiting → after ≡ record before { screen = after.screen; scribed = after.scribed } → f.known.may_cut ≡ true → f.known.may_ask ≡ true → Takes key agenda later_agenda → Takes key asking later_asking → Serves c began list a → began.carried a.next ≡ carried
    → Serves c began (list ++ Connect a.next ∷ []) (record { surface = after; kept = kept; next = following; slots = new.slots; vacant = new.vacant_key; agenda = later_agenda; asking = later_asking })
admitted c began list a before after kept next following old new agenda asking later_agenda later_asking key f bytes carried is steps records answered more vacant updates number carries holds counts waits few still cuts asked listed asking_too =
    let b : Serving = record { surface = after; kept = kept; next = following; slots = new.slots; vacant = new.vacant_key; agenda = later_agenda; asking = later_asking } in
    let was : Serving = record { surface = before; kept = kept; next = next; slots = old.slots; vacant = old.vacant_key; agenda = agenda; asking = asking } in
    subst (λ (x : Serving). Serves c began list x → began.carried x.next ≡ carried → Serves c began (list ++ Connect x.next ∷ []) b) is
    (λ s start. one-more c began list was b key f bytes (steps s.screen) (records s.screen) (answered s.screen) refl more vacant updates.changed updates.others number (start ∙ sym carries) holds counts waits few
    (ap (λ (x : Surface). x.drawn) still) (ap (λ (x : Surface). x.noticed) still) cuts asked listed asking_too s)

-- a viewer that ended is closed, and its connection is gone
pub one-less : {T : Type 0} (c : Config) (began : Began) (list : List Event) (a b : Serving) (key : ℕ) (e : ViewerConnection) (unread written : T → Option (List ℕ)) (transport : T) (r : Receipt)
    → b.surface.screen ≡ state c (list ++ Close e.number ∷ []) → RecordsMore c list (Close e.number ∷ []) a.surface.scribed b.surface.scribed → (answer_to c list (Close e.number)).bytes ≡ [] → b.kept ≡ a.kept → b.next ≡ a.next
    → at_key a.slots key ≡ Some e → at_key b.slots key ≡ None → ((other : ℕ) → other ≢ key → at_key b.slots other ≡ at_key a.slots other)
    → IsOver (Some e) e.number r.ended → r.viewer ≡ e.number → r.sent ≡ unwrap_or e.carried.sent [] → HasCounts e.counts r → record { unread = unread transport; written = written transport; sent = e.carried.sent } ≡ e.carried
    → b.surface.drawn ≡ a.surface.drawn → b.surface.noticed ≡ a.surface.noticed → Lets key a.agenda b.agenda → Lets key a.asking b.asking → Serves c began list a
    → Serves c began (list ++ Close e.number ∷ []) b × WasServed c (list ++ Close e.number ∷ []) (began.carried r.viewer) unread written transport r
one-less {T = T} c began list a b key e unread written transport r screen recorded quiet kept next there gone others over viewer sent counts carried drawn noticed agenda asking s = (
  record {
    screen = screen;
    recorded = recorded-more began.held c list (Close e.number ∷ []) a.surface.scribed b.surface.scribed recorded s.recorded;
    kept = kept ∙ s.kept;
    each = λ j g at. at-one j g at;
    attended = λ j g at. known-one j g at (j == key) refl;
    apart = λ j k d g dj gk same. s.apart j k d g (sym (others j (away j d dj)) ∙ dj) (sym (others k (away k g gk)) ∙ gk) same;
    unused = λ v free.
        let f = subst (λ (m : ℕ). m ≤ v) next free in
        let h = s.unused v f in
        let far = less-apart e.number a.next v (s.each key e there).0 f in
        let w = stays v far in
        (w.0 ∙ h.0, w.1 ∙ h.1, w.2 ∙ h.2, w.3 ∙ h.3, absent-others c e.number v far list (Close e.number ∷ []) (ap (λ b. b && true) ((Decides-eqb e.number e.number).1 refl)) h.4);
  },
  subst (λ (m : ℕ). WasServed c more (began.carried m) unread written transport r) (sym viewer) was,
)
  where
    more : List Event
    more = list ++ Close e.number ∷ []

    stays : (v : ℕ) → (e.number ≡ v → ⊥) → SameFor c v list more
    stays v apart = same-others c e.number v apart list (Close e.number ∷ []) (ap (λ b. b && true) ((Decides-eqb e.number e.number).1 refl))

    away : (j : ℕ) (g : ViewerConnection) → at_key b.slots j ≡ Some g → j ≢ key
    away j g at same = let no : ◌≡◌ {A = Option ViewerConnection} None (Some g) = sym gone ∙ ap (at_key b.slots) (sym same) ∙ at in absurd cc

    at-one : (j : ℕ) (g : ViewerConnection) → at_key b.slots j ≡ Some g → (g.number < b.next) × IsServed c more (began.carried g.number) g
    at-one j g at =
        let before : at_key a.slots j ≡ Some g = sym (others j (away j g at)) ∙ at in
        let h = s.each j g before in (
          subst (λ (m : ℕ). g.number < m) (sym next) h.0,
          served-same c list more (began.carried g.number) g (stays g.number (λ same. away j g at (s.apart j key g e before there (sym same)))) h.1,
        )

    known-one : (j : ℕ) (g : ViewerConnection) → at_key b.slots j ≡ Some g → (w : Bool) → (j == key) ≡ w → IsAttended c more b j g
    known-one j g at true is = absurd (away j g at ((Decides-eqb j key).0 is))
    known-one j g at false is =
        let before : at_key a.slots j ≡ Some g = sym (others j (away j g at)) ∙ at in
        let h = s.attended j g before in
        let apart : e.number ≡ g.number → ⊥ = λ same. away j g at (s.apart j key g e before there (sym same)) in
        record {
          listed = λ works. agenda j is (h.listed works);
          asking = λ ask. asking j is (h.asking ask);
          answered = λ none. asks-others c e.number g.number apart list (Close e.number ∷ []) (ap (λ b. b && true) ((Decides-eqb e.number e.number).1 refl)) (h.answered none);
          settled = λ none. settled-other c list a.surface b.surface e.number g.number (Close e.number) apart refl drawn noticed (h.settled none);
        }

    was : WasServed c more (began.carried e.number) unread written transport r
    was =
        let h = (s.each key e there).1 in
        let n = e.number in
        let heard : heard_of r.viewer more ≡ heard_of n list = ap (λ m. heard_of m more) viewer ∙ heard-same n list (Close n) refl in
        let bytes : bytes_of c n more ≡ bytes_of c n list = bytes-own c n list (Close n) refl ∙ ap (λ l. bytes_of c n list ++ l) quiet ∙ append-nil (bytes_of c n list) in
        let is : e.carried ≡ record { unread = unread transport; written = written transport; sent = e.carried.sent } = sym carried in
        record {
          unheard = h.unheard;
          given = h.written;
          unwritten = h.unwritten;
          read = subst (λ (l : List ℕ). Consumes (began.carried n).unread (unread transport) (l ++ h.unheard)) (sym heard) (subst (λ (x : Option (List ℕ)). Consumes (began.carried n).unread x (heard_of n list ++ h.unheard)) (ap (λ (x : Carried). x.unread) is) h.moved.read);
          taken = subst (λ (x : Option (List ℕ)). Appends (began.carried n).written x h.written) (ap (λ (x : Carried). x.written) is) h.moved.written;
          sent = sent ∙ ap (λ o. unwrap_or o []) h.moved.sent;
          due = h.due ∙ sym bytes ∙ ap (λ m. bytes_of c m more) (sym viewer);
          heard = λ fine. h.heard (λ is. let two : ◌≡◌ {A = Option Ended} (Some r.ended) (Some Memory) = sym over.1 ∙ is in fine cc);
          whole = λ fine. h.waits (ap breaks_off over.1 ∙ fine) ∙ over.2 fine;
          short = h.short;
          counted = subst (λ (k : Counts). HasCounts k r) (h.counted ∙ sym (counts-same c n list (Close n) refl refl) ∙ ap (λ m. counts_of c m more) (sym viewer)) counts;
        }

-- the same, as it is parted with
pub parted : {T : Type 0} (c : Config) (began : Began) (list : List Event) (a : Serving) (before after : Surface) (kept : Bool) (next : ℕ) (old new : Slab ViewerConnection) (agenda asking later_agenda later_asking : List ℕ) (key v : ℕ)
    (e : ViewerConnection) (ended : Ended) (unread written : T → Option (List ℕ)) (transport : T) (held : Held) (r : Receipt) → record { surface = before; kept = kept; next = next; slots = old.slots; vacant = old.vacant_key; agenda = agenda; asking = asking } ≡ a
    → (before.screen ≡ state c list → after.screen ≡ state c (list ++ Close v ∷ [])) → (before.screen ≡ state c list → RecordsMore c list (Close v ∷ []) before.scribed after.scribed) → (before.screen ≡ state c list → (answer_to c list (Close v)).bytes ≡ [])
    → get old key ≡ Some e → Updates old new key None → IsOver (get old key) v ended → held ≡ e.held → r.viewer ≡ e.number → r.ended ≡ ended → r.sent ≡ unwrap_or e.carried.sent [] → HasCounts e.counts r
    → record { unread = unread transport; written = written transport; sent = e.carried.sent } ≡ e.carried → after ≡ record before { screen = after.screen; scribed = after.scribed } → Lets key agenda later_agenda → Lets key asking later_asking → Serves c began list a
    → (more : List Event) × Serves c began (list ++ more) (record { surface = after; kept = kept; next = next; slots = new.slots; vacant = new.vacant_key; agenda = later_agenda; asking = later_asking }) × ((words_after c list more ≡ says r.viewer (releases held) ++ Leaves r.viewer ∷ []) × (more ≡ Close r.viewer ∷ []) × WasServed c (list ++ more) (began.carried r.viewer) unread written transport r)
parted {T = T} c began list a before after kept next old new agenda asking later_agenda later_asking key v e ended unread written transport held r is steps records quiet there updates over holds viewer so sent counts carried still listed asked =
    let b : Serving = record { surface = after; kept = kept; next = next; slots = new.slots; vacant = new.vacant_key; agenda = later_agenda; asking = later_asking } in
    let was : Serving = record { surface = before; kept = kept; next = next; slots = old.slots; vacant = old.vacant_key; agenda = agenda; asking = asking } in
    let ended_so : IsOver (Some e) v ended = subst (λ (o : Option ViewerConnection). IsOver o v ended) there over in
    let number : v ≡ e.number = sym ended_so.0 in
    subst (λ (x : Serving). Serves c began list x → (more : List Event) × Serves c began (list ++ more) b × ((words_after c list more ≡ says r.viewer (releases held) ++ Leaves r.viewer ∷ []) × (more ≡ Close r.viewer ∷ []) × WasServed c (list ++ more) (began.carried r.viewer) unread written transport r)) is
    (λ s.
    let both = one-less c began list was b key e unread written transport r (subst (λ (n : ℕ). after.screen ≡ state c (list ++ Close n ∷ [])) number (steps s.screen))
    (subst (λ (n : ℕ). RecordsMore c list (Close n ∷ []) before.scribed after.scribed) number (records s.screen))
    (subst (λ (n : ℕ). (answer_to c list (Close n)).bytes ≡ []) number (quiet s.screen)) refl refl there updates.changed updates.others
    (subst (λ (x : Ended). IsOver (Some e) e.number x) (sym so) (subst (λ (n : ℕ). IsOver (Some e) n ended) number ended_so)) viewer sent counts carried
    (ap (λ (x : Surface). x.drawn) still) (ap (λ (x : Surface). x.noticed) still) listed asked s in
    let words = append-nil (says e.number (releases (held_of c e.number list)) ++ Leaves e.number ∷ [])
    ∙ ap (λ h. says e.number (releases h) ++ Leaves e.number ∷ []) (sym (holds ∙ (s.each key e there).1.held)) ∙ ap (λ n. says n (releases held) ++ Leaves n ∷ []) (sym viewer) in
    (Close e.number ∷ [], both.0, (words, ap (λ n. Close n ∷ []) (sym viewer), both.1)))
