-- Events of a session that a question needs, one after the other.
use Rattle.std.proofs.Common.{◌≡◌, ℕ, List, [], ◌∷◌, ◌++◌, refl, sym, ap, subst, ◌∙◌, append_assoc, Option, Some, None, true, false, Bool, cond, Result, Ok, Err}
use Rattle.std.proofs.lemmas.List.{append-nil}
use Rattle.std.specs.Prelude.{option_map, flat_map, filter, IfSome, IsErrAnd}
use Rattle.std.specs.List.{list_all}
use Rattle.std.proofs.lemmas.Bool.{and_from}
use Rattle.std.specs.Io.KnownBytes.{Appends}
use Rattle.screen.specs.declared.Config.{Config}
use Rattle.screen.specs.declared.Event.{Event}
use Rattle.screen.specs.declared.Answer.{Answer}
use Rattle.screen.specs.State.{State, state}
use Rattle.scene.specs.Alone.{owner_of, alone, after, empty_screen}
use Rattle.scene.specs.Answers.{own, is_owner, is_drawing, answer_to, answers, answers_after, picture_of}
use Rattle.play_script.specs.declared.lines.Line.{Line}
use Rattle.play_script.specs.declared.lines.Line.TheVariants.{Skipped, Start, Do, Bad}
use Rattle.replay.specs.Sessions.{Session, events_of, said_by, sent_in}
use Rattle.replay.specs.BadLines.{needs, needed_of, bad_behind, bad_from}
use Rattle.replay.specs.Pictures.{Draws}
use Rattle.replay.specs.Reading.{Both, Opens, GoesOn, Judged}
use Rattle.replay.specs.declared.answered.Answered.{Answered}
use Rattle.replay.specs.declared.replaying.Question.{Question}
use Rattle.replay.specs.declared.replaying.Question.TheVariants.{Sent, Drawn}
use Rattle.replay.specs.declared.stop.Stop.{Stop}
use Rattle.replay.specs.declared.stop.Stop.TheVariants.{BadLine, Trouble}
use Rattle.replay.proofs.Events.{handed_on}
use Rattle.replay.proofs.Growing.{appends_more, appends_nothing}

abbrev session : Config → List Event → Session
session c es = record { config = c; events = es }

-- a session of these events, and of those behind them
abbrev behind : Config → List Event → Option (List Event) → Option Session
behind c front es = option_map (λ (l : List Event). session c (front ++ l)) es

-- a session with the events alone that a question needs
abbrev needed_in : Question → Option Session → Option Session
needed_in q s = option_map (λ (t : Session). record { config = t.config; events = filter (needs q) t.events }) s

-- those that a question needs of all events
needed_events : (q : Question) (ls : List Line) → option_map (filter (needs q)) (events_of ls) ≡ needed_of q ls
needed_events q [] = refl
needed_events q (Skipped ∷ ls) = needed_events q ls
needed_events q (Start c ∷ ls) = refl
needed_events q (Bad ∷ ls) = refl
needed_events q (Do e ∷ ls) = joined (events_of ls) ∙ ap (λ o. cond (needs q e) (option_map (λ es. e ∷ es) o) o) (needed_events q ls)
  where
    picked : (b : Bool) (es : List Event) → Some (cond b (e ∷ filter (needs q) es) (filter (needs q) es)) ≡ cond b (Some (e ∷ filter (needs q) es)) (Some (filter (needs q) es))
    picked true es = refl
    picked false es = refl

    either : (b : Bool) (o : Option (List Event)) → o ≡ cond b o o
    either true o = refl
    either false o = refl

    joined : (o : Option (List Event)) → option_map (filter (needs q)) (option_map (λ es. e ∷ es) o) ≡ cond (needs q e) (option_map (λ es. e ∷ es) (option_map (filter (needs q)) o)) (option_map (filter (needs q)) o)
    joined None = either (needs q e) None
    joined (Some es) = picked (needs q e) es

-- The screen did the events so far.
pub record Replaying (q : Question) (n m : ℕ) (s : State) (ls rest : List Line) : Type 0 where
  pub config : Config
  pub front : List Event
  pub holds : s ≡ state config front
  pub said : needed_in q (said_by ls) ≡ behind config front (needed_of q rest)
  pub bad : bad_from q n ls ≡ bad_behind q config front m rest

abbrev pub Replays : Question → Option (List Line) → Option (List Line) → ℕ → ℕ → State → Type 0
Replays q a b n m s = Both a b (Replaying q n m s)

begun : (q : Question) (c : Config) (o : Option (List Event)) → needed_in q (option_map (λ (es : List Event). session c es) o) ≡ behind c [] (option_map (filter (needs q)) o)
begun q c None = refl
begun q c (Some es) = refl

pub replays_begin : (q : Question) (a b : Option (List Line)) (n m : ℕ) (s : State) → Opens q a b n m (Ok (Some s)) → Replays q a b n m s
replays_begin q None b n m s o = tt
replays_begin q (Some y) None n m s o = absurd o
replays_begin q (Some y) (Some z) n m s o = record {
  config = o.0;
  front = [];
  holds = o.1;
  said = ap (needed_in q) o.2 ∙ begun q o.0 (events_of z) ∙ ap (behind o.0 []) (needed_events q z);
  bad = o.3;
}

-- what the next call gives, whatever the screen did
abbrev pub Next : Question → State → State → Option (List Line) → Option (List Line) → ℕ → ℕ → Result (Option Answered) Stop → Type 0
Next q s t b d m k r = (c : Config) (list : List Event) → s ≡ state c list → GoesOn q c list t b d m k r

joined : (c : Config) (front : List Event) (e : Event) (o : Option (List Event)) → behind c front (option_map (λ es. e ∷ es) o) ≡ behind c (front ++ e ∷ []) o
joined c front e None = refl
joined c front e (Some es) = ap (λ (l : List Event). Some (session c l)) (sym (append_assoc front (e ∷ []) es))

went_on : (q : Question) (y z w : List Line) (n m k : ℕ) (s t : State) (r : Answered) → Replaying q n m s y z → Next q s t (Some z) (Some w) m k (Ok (Some r)) → Replaying q n k t y w
went_on q y z w n m k s t r h g =
    let did = g h.config h.front h.holds in
    record {
      config = h.config;
      front = h.front ++ r.event ∷ [];
      holds = did.0.0;
      said = h.said ∙ ap (behind h.config h.front) did.1 ∙ joined h.config h.front r.event (needed_of q w);
      bad = h.bad ∙ did.2;
    }

pub replays_next : (q : Question) (a b d : Option (List Line)) (n m k : ℕ) (s t : State) (r : Answered) → Replays q a b n m s → Next q s t b d m k (Ok (Some r)) → Replays q a d n k t
replays_next q None b d n m k s t r h g = tt
replays_next q (Some y) None d n m k s t r h g = absurd h
replays_next q (Some y) (Some z) None n m k s t r h g = absurd (g h.config h.front h.holds)
replays_next q (Some y) (Some z) (Some w) n m k s t r h g = went_on q y z w n m k s t r h g

pub replays_over : {X : Type 0} (q : Question) (a b d : Option (List Line)) (n m k : ℕ) (s t : State) (x : X) → Replays q a b n m s → Next q s t b d m k (Ok None) → Judged q a n k (Ok x)
replays_over q None b d n m k s t x h g = tt
replays_over q (Some y) None d n m k s t x h g = absurd h
replays_over q (Some y) (Some z) d n m k s t x h g = h.bad ∙ (g h.config h.front h.holds).1

pub replays_bad : (X : Type 0) (q : Question) (a b d : Option (List Line)) (n m k : ℕ) (s t : State) (r : Stop) → Replays q a b n m s → Next q s t b d m k (Err r) → Judged {X = X} q a n k (Err r)
replays_bad X q a b d n m k s t (Trouble r) h g = tt
replays_bad X q None b d n m k s t BadLine h g = tt
replays_bad X q (Some y) None d n m k s t BadLine h g = absurd h
replays_bad X q (Some y) (Some z) d n m k s t BadLine h g = h.bad ∙ g h.config h.front h.holds

pub opens_none : {X : Type 0} (q : Question) (a b : Option (List Line)) (n m : ℕ) (x : X) → Opens q a b n m (Ok None) → Judged q a n m (Ok x)
opens_none q None b n m x o = tt
opens_none q (Some y) b n m x o = o.1

pub opens_bad : (X : Type 0) (q : Question) (a b : Option (List Line)) (n m : ℕ) (r : Stop) → Opens q a b n m (Err r) → Judged {X = X} q a n m (Err r)
opens_bad X q a b n m (Trouble r) o = tt
opens_bad X q a b n m BadLine o = o

pub troubled : (X : Type 0) (q : Question) (a : Option (List Line)) (n m : ℕ) (r : Stop) → (r ≡ BadLine → ⊥) → Judged {X = X} q a n m (Err r)
troubled X q a n m (Trouble r) h = tt
troubled X q a n m BadLine h = absurd (h refl)

-- All events of a session that a question needs are done.
pub record Replayed (q : Question) (s : State) (ls : List Line) : Type 0 where
  pub config : Config
  pub front : List Event
  pub holds : s ≡ state config front
  pub said : needed_in q (said_by ls) ≡ Some (session config front)

pub replays_all : (q : Question) (a b d : Option (List Line)) (n m k : ℕ) (s t : State) → Replays q a b n m s → Next q s t b d m k (Ok None) → IfSome a (Replayed q s)
replays_all q None b d n m k s t h g = tt
replays_all q (Some y) None d n m k s t h g = absurd h
replays_all q (Some y) (Some z) d n m k s t h g = record {
  config = h.config;
  front = h.front;
  holds = h.holds;
  said = h.said ∙ ap (behind h.config h.front) (g h.config h.front h.holds).0 ∙ ap (λ (l : List Event). Some (session h.config l)) (append-nil h.front);
}

-- What a viewer was sent.

-- the answers to one event more
answers-more : (c : Config) (before es : List Event) (e : Event) → answers_after c before (es ++ e ∷ []) ≡ answers_after c before es ++ answer_to c (before ++ es) e ∷ []
answers-more c before [] e = ap (λ l. answer_to c l e ∷ []) (sym (append-nil before))
answers-more c before (x ∷ es) e =
    ap (λ l. answer_to c before x ∷ l) (answers-more c (before ++ x ∷ []) es e ∙ ap (λ l. answers_after c (before ++ x ∷ []) es ++ answer_to c l e ∷ []) (append_assoc before (x ∷ []) es))

bytes-append : (xs : List Answer) (a : Answer) → flat_map (λ x. x.bytes) (xs ++ a ∷ []) ≡ flat_map (λ x. x.bytes) xs ++ a.bytes
bytes-append [] a = append-nil a.bytes
bytes-append (x ∷ xs) a = ap (λ l. x.bytes ++ l) (bytes-append xs a) ∙ sym (append_assoc x.bytes (flat_map (λ y. y.bytes) xs) a.bytes)

bytes_more : (c : Config) (es : List Event) (e : Event) → flat_map (λ a. a.bytes) (answers c (es ++ e ∷ [])) ≡ flat_map (λ a. a.bytes) (answers c es) ++ (answer_to c es e).bytes
bytes_more c es e = ap (flat_map (λ a. a.bytes)) (answers-more c [] es e) ∙ bytes-append (answers c es) (answer_to c es e)

-- a viewer was sent what the screen answered so far
pub record Sending (v : ℕ) (w x : Option (List ℕ)) (n m : ℕ) (s : State) (ls rest : List Line) : Type 0 where
  pub replaying : Replaying (Sent v) n m s ls rest
  pub sent : Appends w x (flat_map (λ a. a.bytes) (answers replaying.config replaying.front))

abbrev pub Sends : ℕ → Option (List Line) → Option (List Line) → Option (List ℕ) → Option (List ℕ) → ℕ → ℕ → State → Type 0
Sends v a b w x n m s = Both a b (Sending v w x n m s)

pub sends_begin : (v : ℕ) (a b : Option (List Line)) (w : Option (List ℕ)) (n m : ℕ) (s : State) → Opens (Sent v) a b n m (Ok (Some s)) → Sends v a b w w n m s
unfolding replays_begin
sends_begin v None b w n m s o = tt
sends_begin v (Some y) None w n m s o = absurd o
sends_begin v (Some y) (Some z) w n m s o = record { replaying = replays_begin (Sent v) (Some y) (Some z) n m s o; sent = appends_nothing w }

pub sends_next : (v : ℕ) (a b d : Option (List Line)) (w x z : Option (List ℕ)) (n m k : ℕ) (s t : State) (r : Answered) → Sends v a b w x n m s → Next (Sent v) s t b d m k (Ok (Some r)) → Appends x z r.answer.bytes → Sends v a d w z n k t
unfolding went_on
sends_next v None b d w x z n m k s t r h g wrote = tt
sends_next v (Some y) None d w x z n m k s t r h g wrote = absurd h
sends_next v (Some y) (Some u) None w x z n m k s t r h g wrote = absurd (g h.replaying.config h.replaying.front h.replaying.holds)
sends_next v (Some y) (Some u) (Some i) w x z n m k s t r h g wrote =
    let c = h.replaying.config in
    let front = h.replaying.front in
    let told = (g c front h.replaying.holds).0.1 in
    record {
      replaying = went_on (Sent v) y u i n m k s t r h.replaying g;
      sent = subst (Appends w z) (ap (λ (a : Answer). flat_map (λ b. b.bytes) (answers c front) ++ a.bytes) told ∙ sym (bytes_more c front r.event)) (appends_more w x z _ r.answer.bytes h.sent wrote);
    }

pub sends_replays : (v : ℕ) (a b : Option (List Line)) (w x : Option (List ℕ)) (n m : ℕ) (s : State) → Sends v a b w x n m s → Replays (Sent v) a b n m s
sends_replays v None b w x n m s h = tt
sends_replays v (Some y) None w x n m s h = absurd h
sends_replays v (Some y) (Some z) w x n m s h = h.replaying

own_are_own : (v : ℕ) (es : List Event) → list_all (λ e. is_owner v (owner_of e)) (own v es) ≡ true
own_are_own v [] = refl
own_are_own v (e ∷ es) = go (is_owner v (owner_of e)) refl (own_are_own v es)
  where
    go : (b : Bool) → is_owner v (owner_of e) ≡ b → list_all (λ x. is_owner v (owner_of x)) (own v es) ≡ true → list_all (λ x. is_owner v (owner_of x)) (cond b (e ∷ own v es) (own v es)) ≡ true
    go true h rest = and_from _ _ h rest
    go false h rest = rest

abbrev pub AreAlone : Type 0
AreAlone = (c : Config) (v : ℕ) (es : List Event) → list_all (λ e. is_owner v (owner_of e)) es ≡ true → answers c es ≡ alone c es

abbrev IsAllSent : ℕ → Option (List ℕ) → Option (List ℕ) → List Line → Type 0
IsAllSent v w x ls = Appends w x (sent_in v (said_by ls))

sent_of : (v : ℕ) (o : Option Session) (c : Config) (front : List Event) → AreAlone → needed_in (Sent v) o ≡ Some (session c front) → flat_map (λ a. a.bytes) (answers c front) ≡ sent_in v o
sent_of v None c front law h = cc
sent_of v (Some t) c front law h =
    let same : session t.config (own v t.events) ≡ session c front = cc in
    ap (λ (k : Session). flat_map (λ a. a.bytes) (answers k.config k.events)) (sym same)
    ∙ ap (flat_map (λ a. a.bytes)) (law t.config v (own v t.events) (own_are_own v t.events))

pub all_sent : (v : ℕ) (a b d : Option (List Line)) (w x : Option (List ℕ)) (n m k : ℕ) (s t : State) → AreAlone → Sends v a b w x n m s → Next (Sent v) s t b d m k (Ok None) → IfSome a (IsAllSent v w x)
unfolding replays_all
all_sent v None b d w x n m k s t law h g = tt
all_sent v (Some y) None d w x n m k s t law h g = absurd h
all_sent v (Some y) (Some z) d w x n m k s t law h g =
    let r = replays_all (Sent v) (Some y) (Some z) d n m k s t h.replaying g in
    subst (Appends w x) (sent_of v (said_by y) h.replaying.config h.replaying.front law r.said) h.sent

pub none_sent : (v : ℕ) (a b : Option (List Line)) (w : Option (List ℕ)) (n m : ℕ) → Opens (Sent v) a b n m (Ok None) → IfSome a (IsAllSent v w w)
none_sent v None b w n m o = tt
none_sent v (Some y) b w n m o = subst (Appends w w) (ap (sent_in v) (sym o.0)) (appends_nothing w)

-- What was drawn.

drawings_again : (es : List Event) → filter (λ e. is_drawing (owner_of e)) (filter (λ e. is_drawing (owner_of e)) es) ≡ filter (λ e. is_drawing (owner_of e)) es
drawings_again [] = refl
drawings_again (e ∷ es) = go (is_drawing (owner_of e)) refl (drawings_again es)
  where
    go : (b : Bool) → is_drawing (owner_of e) ≡ b → filter (λ x. is_drawing (owner_of x)) (filter (λ x. is_drawing (owner_of x)) es) ≡ filter (λ x. is_drawing (owner_of x)) es
        → filter (λ x. is_drawing (owner_of x)) (cond b (e ∷ filter (λ x. is_drawing (owner_of x)) es) (filter (λ x. is_drawing (owner_of x)) es)) ≡ cond b (e ∷ filter (λ x. is_drawing (owner_of x)) es) (filter (λ x. is_drawing (owner_of x)) es)
    go true h rest = ap (λ b. cond b (e ∷ filter (λ x. is_drawing (owner_of x)) (filter (λ x. is_drawing (owner_of x)) es)) (filter (λ x. is_drawing (owner_of x)) (filter (λ x. is_drawing (owner_of x)) es))) h ∙ ap (λ l. e ∷ l) rest
    go false h rest = rest

drawn_of : (o : Option Session) (s : State) (c : Config) (front : List Event) → s ≡ state c front → needed_in Drawn o ≡ Some (session c front) → (t : Session) × (o ≡ Some t) × (s.picture ≡ picture_of t.config t.events)
drawn_of None s c front is h = absurd cc
drawn_of (Some t) s c front is h =
    let same : session t.config (filter (λ e. is_drawing (owner_of e)) t.events) ≡ session c front = cc in
    (t, refl, ap (λ (k : State). k.picture) is ∙ ap (λ (k : Session). picture_of k.config k.events) (sym same) ∙ ap (λ l. (after t.config l (empty_screen t.config)).picture) (drawings_again t.events))

pub all_drawn : (a b d : Option (List Line)) (n m k : ℕ) (s t : State) → Replays Drawn a b n m s → Next Drawn s t b d m k (Ok None) → IfSome a (Draws (Some s))
all_drawn None b d n m k s t h g = tt
all_drawn (Some y) None d n m k s t h g = absurd h
all_drawn (Some y) (Some z) d n m k s t h g =
    let r = replays_all Drawn (Some y) (Some z) d n m k s t h g in
    drawn_of (said_by y) s r.config r.front r.holds r.said

pub none_drawn : (a b : Option (List Line)) (n m : ℕ) → Opens Drawn a b n m (Ok None) → IfSome a (Draws None)
none_drawn None b n m o = tt
none_drawn (Some y) b n m o = o.0

-- The same, of a result that a pattern opened.

pub begin_at : (q : Question) (a b : Option (List Line)) (n m : ℕ) (o : Option State) (s : State) → Opens q a b n m (Ok o) → o ≡ Some s → Replays q a b n m s
begin_at q a b n m o s h e = replays_begin q a b n m s (subst (λ x. Opens q a b n m (Ok x)) e h)

pub none_at : (q : Question) (a b : Option (List Line)) (n m : ℕ) (o : Option State) → Opens q a b n m (Ok o) → o ≡ None → IfSome a (λ ls. bad_from q n ls ≡ None)
none_at q a b n m o h e = opens_none {X = ℕ} q a b n m 0 (subst (λ y. Opens q a b n m (Ok y)) e h)

pub next_at : (q : Question) (a b d : Option (List Line)) (n m k : ℕ) (s t : State) (o : Option Answered) (r : Answered) → Replays q a b n m s → Next q s t b d m k (Ok o) → o ≡ Some r → Replays q a d n k t
next_at q a b d n m k s t o r h g e = replays_next q a b d n m k s t r h (subst (λ x. Next q s t b d m k (Ok x)) e g)

pub over_at : (q : Question) (a b d : Option (List Line)) (n m k : ℕ) (s t : State) (o : Option Answered) → Replays q a b n m s → Next q s t b d m k (Ok o) → o ≡ None → IfSome a (λ ls. bad_from q n ls ≡ None)
over_at q a b d n m k s t o h g e = replays_over {X = ℕ} q a b d n m k s t 0 h (subst (λ y. Next q s t b d m k (Ok y)) e g)

pub sends_begin_at : (v : ℕ) (a b : Option (List Line)) (w : Option (List ℕ)) (n m : ℕ) (o : Option State) (s : State) → Opens (Sent v) a b n m (Ok o) → o ≡ Some s → Sends v a b w w n m s
sends_begin_at v a b w n m o s h e = sends_begin v a b w n m s (subst (λ x. Opens (Sent v) a b n m (Ok x)) e h)

pub sends_next_at : (v : ℕ) (a b d : Option (List Line)) (w x z : Option (List ℕ)) (n m k : ℕ) (s t : State) (o : Option Answered) (r : Answered) → Sends v a b w x n m s → Next (Sent v) s t b d m k (Ok o) → o ≡ Some r → Appends x z r.answer.bytes → Sends v a d w z n k t
sends_next_at v a b d w x z n m k s t o r h g e wrote = sends_next v a b d w x z n m k s t r h (subst (λ y. Next (Sent v) s t b d m k (Ok y)) e g) wrote

pub all_sent_at : (v : ℕ) (a b d : Option (List Line)) (w x : Option (List ℕ)) (n m k : ℕ) (s t : State) (o : Option Answered) → AreAlone → Sends v a b w x n m s → Next (Sent v) s t b d m k (Ok o) → o ≡ None → IfSome a (λ ls. Appends w x (sent_in v (said_by ls)))
all_sent_at v a b d w x n m k s t o law h g e = all_sent v a b d w x n m k s t law h (subst (λ y. Next (Sent v) s t b d m k (Ok y)) e g)

pub none_sent_at : (v : ℕ) (a b : Option (List Line)) (w : Option (List ℕ)) (n m : ℕ) (o : Option State) → Opens (Sent v) a b n m (Ok o) → o ≡ None → IfSome a (λ ls. Appends w w (sent_in v (said_by ls)))
none_sent_at v a b w n m o h e = none_sent v a b w n m (subst (λ y. Opens (Sent v) a b n m (Ok y)) e h)

pub all_drawn_at : (a b d : Option (List Line)) (n m k : ℕ) (s t : State) (o : Option Answered) → Replays Drawn a b n m s → Next Drawn s t b d m k (Ok o) → o ≡ None → t ≡ s → IfSome a (Draws (Some t))
all_drawn_at a b d n m k s t o h g e kept = subst (λ x. IfSome a (Draws (Some x))) (sym kept) (all_drawn a b d n m k s t h (subst (λ y. Next Drawn s t b d m k (Ok y)) e g))

pub none_drawn_at : (a b : Option (List Line)) (n m : ℕ) (o : Option State) → Opens Drawn a b n m (Ok o) → o ≡ None → IfSome a (Draws None)
none_drawn_at a b n m o h e = none_drawn a b n m (subst (λ y. Opens Drawn a b n m (Ok y)) e h)

-- a bad line, as `?` hands it on
pub opens_bad_at : (X : Type 0) (q : Question) (a : Option (List Line)) (n m : ℕ) (r : Result X Stop) (e : Stop) → IsErrAnd r (λ y. y ≡ e) → Opens q a None n m (Err e) → Judged q a n m r
opens_bad_at X q a n m r e h o = handed_on (Judged q a n m) r e h (opens_bad X q a None n m e o)

pub bad_at : (X : Type 0) (q : Question) (a b : Option (List Line)) (n m k : ℕ) (s t : State) (r : Result X Stop) (e : Stop) → IsErrAnd r (λ y. y ≡ e) → Replays q a b n m s → Next q s t b None m k (Err e) → Judged q a n k r
bad_at X q a b n m k s t r e h p g = handed_on (Judged q a n k) r e h (replays_bad X q a b None n m k s t e p g)
