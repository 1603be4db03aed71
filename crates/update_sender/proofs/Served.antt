-- What a viewer's threads read and wrote, step after step.
use Rattle.std.specs.Prelude.{Bool, true, false, drop, nat_lt, take, MatchBool, Result, Ok, Err, IsOk, IsErrAnd, MatchOption, MatchResult}
use Rattle.std.proofs.lemmas.Result.{err_from_is_err_and}
use Rattle.std.proofs.Common.{◌≡◌, ◌≢◌, ◌+◌, ◌≤◌, ◌<◌, ◌⊎◌, ℕ, List, [], ◌∷◌, ◌++◌, length, Option, Some, None, refl, sym, ap, ◌∙◌, subst, arith, append_assoc, append-nil, inl, inr}
use Rattle.std.specs.Prelude.{option_map}
use Rattle.std.proofs.lemmas.List.Elements.{All-append, All-nil, All-cons}
use Rattle.std.proofs.lemmas.List.{length-append, length-drop, take_all, take-append-drop}
use Rattle.std.proofs.lemmas.List.Folds.{concat-append}
use Rattle.std.specs.Io.KnownBytes.{Appends, Consumes, ReadConsumes}
use Rattle.std.proofs.KnownBytes.{Appends-trans, Appends-nil, Consumes-trans, Consumes-nil, Consumes-kept}
use Rattle.std.specs.List.{concat}
use Rattle.messages.specs.declared.Fault.{Fault as Met}
use Rattle.screen.specs.declared.Answer.{Answer}
use Rattle.screen.specs.declared.ScreenError.{ScreenError}
use Rattle.screen.specs.declared.ScreenError.TheVariants.{NoViewer, OutOfMemory}
use Rattle.receipts.specs.declared.Ended.{Ended}
use Rattle.receipts.specs.declared.Ended.TheVariants.{EndOfInput, Fault, ReadFailed, WriteFailed, Memory, Gate, Closed, Stopped, Frames}
use Rattle.update_sender.specs.Ends.{Listening, Speaking, counted, listened, without_waiting, has_sent, has_cut}
use Rattle.update_sender.specs.Reasons.{unheard_for}
use Rattle.update_sender.specs.Serving.{IsPiece, after_pieces, Hears, ReadingEnds, OpeningEnds, HearsPiece, HearsNoMore, WritingEnds, Sends, Writes, Replies, GreetingEnds, bytes_of, after_update, after_updates, after_last, SendingEnds, SendsUpdate, SendsNoMore, SendsUpdates, CutsAndSends}

-- an error that is handed on
pub on_error : {X : Type 0} (r : Result X Ended) (e : Ended) (good : X → Type 0) (bad : Ended → Type 0) → IsErrAnd r (λ y. y ≡ e) → bad e → MatchResult r good bad
on_error {X = X} r e good bad failed h =
    let error = err_from_is_err_and r failed in
    subst (λ (q : Result X Ended). MatchResult q good bad) (sym error.1) (subst bad (sym error.2) h)

-- ---- reading

after_pieces-append : (ps qs : List (List ℕ)) (l : Listening) → after_pieces (ps ++ qs) l ≡ after_pieces qs (after_pieces ps l)
after_pieces-append [] qs l = refl
after_pieces-append (p ∷ ps) qs l = after_pieces-append ps qs (listened p l)

pub hears-nothing : (a : Option (List ℕ)) (l : Listening) → Hears a a l l []
hears-nothing a l = record { pieces = []; each = All-nil IsPiece; heard = refl; read = Consumes-nil a }

pub hears-no-more : (a b : Option (List ℕ)) (l : Listening) (unheard : List ℕ) → Consumes a b unheard → Hears a b l l unheard
hears-no-more a b l unheard read = record { pieces = []; each = All-nil IsPiece; heard = refl; read = read }

-- whatever inputs wait
pub hears-waiting : (a b : Option (List ℕ)) (l m n : Listening) (unheard : List ℕ) → Hears a b l m unheard → without_waiting n ≡ without_waiting m → Hears a b l n unheard
hears-waiting a b l m n unheard h is = record { pieces = h.pieces; each = h.each; heard = is ∙ h.heard; read = h.read }

pub hears-from : (a b : Option (List ℕ)) (l k m : Listening) (unheard : List ℕ) → Hears a b k m unheard → without_waiting k ≡ without_waiting l → Hears a b l m unheard
hears-from a b l k m unheard h is = record { pieces = h.pieces; each = h.each; heard = h.heard ∙ ap (after_pieces h.pieces) is; read = h.read }

pub hears-a-piece : (a b : Option (List ℕ)) (l m : Listening) → HearsPiece a b l m → Hears a b l m []
hears-a-piece a b l m h = record {
  pieces = h.0 ∷ [];
  each = All-cons IsPiece h.0 [] h.1 (All-nil IsPiece);
  heard = ap without_waiting h.3;
  read = subst (Consumes a b) (sym (append-nil (h.0 ++ []) ∙ append-nil h.0)) h.2;
}

pub hears-then : (a b c : Option (List ℕ)) (l m n : Listening) (unheard : List ℕ) → Hears a b l m [] → Hears b c m n unheard → Hears a c l n unheard
hears-then a b c l m n unheard h k = record {
  pieces = h.pieces ++ k.pieces;
  each = All-append IsPiece h.pieces k.pieces h.each k.each;
  heard = k.heard ∙ ap (after_pieces k.pieces) h.heard ∙ sym (after_pieces-append h.pieces k.pieces (without_waiting l));
  read = subst (Consumes a c) (sym (ap (λ bytes. bytes ++ unheard) (concat-append h.pieces k.pieces) ∙ append_assoc (concat h.pieces) (concat k.pieces) unheard))
      (Consumes-trans a b c (concat h.pieces) (concat k.pieces ++ unheard) (subst (Consumes a b) (append-nil (concat h.pieces)) h.read) k.read);
}

after_pieces-viewer : (ps : List (List ℕ)) (l : Listening) → (after_pieces ps l).viewer ≡ l.viewer
after_pieces-viewer [] l = refl
after_pieces-viewer (p ∷ ps) l = after_pieces-viewer ps (listened p l)

pub hears-one-viewer : (a b : Option (List ℕ)) (l m : Listening) (unheard : List ℕ) → Hears a b l m unheard → m.viewer ≡ l.viewer
hears-one-viewer a b l m unheard h = ap (λ (n : Listening). n.viewer) h.heard ∙ after_pieces-viewer h.pieces (without_waiting l)

abbrev err_of : {X : Type 0} → Ended → Result X Ended → Ended
err_of other (Ok x) = other
err_of other (Err e) = e

-- a read that gave nothing ends reading
pub reading-over : {E : Type 0} (r : Result ℕ E) (e : Ended) (a b : Option (List ℕ)) (buffer : List ℕ) → ReadConsumes a b r buffer → 0 < length buffer
    → MatchResult r (λ n. (n ≡ 0) × (e ≡ EndOfInput)) (λ _. e ≡ ReadFailed) → HearsNoMore a b e
reading-over (Err x) e a b buffer read some why = ([], Consumes-kept a a b [] (Consumes-nil a) read, subst (λ (d : Ended). ReadingEnds d b []) (sym why) refl)
reading-over (Ok n) e a b buffer read some why = ([], subst (λ k. Consumes a b (take k buffer)) why.0 read.0, subst (λ (d : Ended). ReadingEnds d b []) (sym why.1) (refl, read.1 why.0 some))

-- a piece stays unheard where the viewer is closed or memory was refused
pub piece-unheard : (refusal : ScreenError) (e : Ended) (a b : Option (List ℕ)) (piece : List ℕ) → (refusal ≡ NoViewer) ⊎ (refusal ≡ OutOfMemory) → e ≡ unheard_for refusal → IsPiece piece → Consumes a b piece → HearsNoMore a b e
piece-unheard refusal e a b piece why is whole read = (piece, read, go why)
  where
    go : (refusal ≡ NoViewer) ⊎ (refusal ≡ OutOfMemory) → ReadingEnds e b piece
    go (inl h) = subst (λ (d : Ended). ReadingEnds d b piece) (sym (is ∙ ap unheard_for h)) whole
    go (inr h) = subst (λ (d : Ended). ReadingEnds d b piece) (sym (is ∙ ap unheard_for h)) whole

-- a fault ends reading once its piece is heard
pub fault-ends : (X : Type 0) (fault : Option Met) (e : Ended) (a : Option (List ℕ)) → MatchOption fault (IsOk {T = X} {E = Ended} (Err e)) (λ f. ◌≡◌ {A = Result X Ended} (Err e) (Err (Fault f))) → ReadingEnds e a []
fault-ends X None e a h = absurd cc
fault-ends X (Some f) e a h = subst (λ (d : Ended). ReadingEnds d a []) (sym (ap (err_of e) h)) refl

-- what ends an opening that did not end by reading
pub opening-ends : (e : Ended) (a : Option (List ℕ)) → (e ≡ Memory) ⊎ (e ≡ WriteFailed) → OpeningEnds e a []
opening-ends e a h = inr (h, refl)

-- ---- writing

append-none : (kept : Option (List ℕ)) → option_map (λ bytes. bytes ++ []) kept ≡ kept
append-none None = refl
append-none (Some bytes) = ap (λ l. Some l) (append-nil bytes)

append-twice : (kept : Option (List ℕ)) (xs ys : List ℕ) → option_map (λ bytes. bytes ++ ys) (option_map (λ bytes. bytes ++ xs) kept) ≡ option_map (λ bytes. bytes ++ (xs ++ ys)) kept
append-twice None xs ys = refl
append-twice (Some bytes) xs ys = ap (λ l. Some l) (append_assoc bytes xs ys)

abbrev speaking : ℕ → ℕ → Option (List ℕ) → Speaking
speaking viewer cuts sent = record { viewer = viewer; cuts = cuts; sent = sent }

pub sent-nothing : (s : Speaking) → s ≡ has_sent [] s
sent-nothing s = ap (speaking s.viewer s.cuts) (sym (append-none s.sent))

pub sent-twice : (s : Speaking) (xs ys : List ℕ) → has_sent ys (has_sent xs s) ≡ has_sent (xs ++ ys) s
sent-twice s xs ys = ap (speaking s.viewer s.cuts) (append-twice s.sent xs ys)

pub sends-nothing : (a : Option (List ℕ)) (s : Speaking) → Sends a a s s []
sends-nothing a s = (Appends-nil a, sent-nothing s)

pub sends-then : (a b c : Option (List ℕ)) (s t u : Speaking) (xs ys : List ℕ) → Sends a b s t xs → Sends b c t u ys → Sends a c s u (xs ++ ys)
sends-then a b c s t u xs ys p q = (Appends-trans a b c xs ys p.0 q.0, q.1 ∙ ap (has_sent ys) p.1 ∙ sent-twice s xs ys)

-- ---- cutting and writing

after_updates-append : (us vs : List (List ℕ)) (s : Speaking) → after_updates (us ++ vs) s ≡ after_updates vs (after_updates us s)
after_updates-append [] vs s = refl
after_updates-append (u ∷ us) vs s = after_updates-append us vs (after_update u s)

pub updates-none : (P : List ℕ → Type 0) (a : Option (List ℕ)) (s : Speaking) → SendsUpdates P a a s s
updates-none P a s = record { updates = []; each = All-nil P; cut = refl; bytes = Appends-nil a }

pub updates-more : (P : List ℕ → Type 0) (a b c : Option (List ℕ)) (s t u : Speaking) → SendsUpdates P a b s t → SendsUpdate P b c t u → SendsUpdates P a c s u
updates-more P a b c s t u p q = record {
  updates = p.updates ++ q.0 ∷ [];
  each = All-append P p.updates (q.0 ∷ []) p.each (All-cons P q.0 [] q.1 (All-nil P));
  cut = q.3 ∙ ap (after_update q.0) p.cut ∙ sym (after_updates-append p.updates (q.0 ∷ []) s);
  bytes = subst (Appends a c) (sym (concat-append p.updates (q.0 ∷ []) ∙ ap (λ l. concat p.updates ++ l) (append-nil q.0))) (Appends-trans a b c (concat p.updates) q.0 p.bytes q.2);
}

pub updates-end : (P : List ℕ → Type 0) (W : Type 0) (a b c : Option (List ℕ)) (s t u : Speaking) (e : Ended) → SendsUpdates P a b s t → SendsNoMore W b c t u e → CutsAndSends P W a c s u e
updates-end P W a b c s t u e p q = record {
  updates = p.updates;
  each = p.each;
  last = q.0;
  cut = q.2 ∙ ap (after_last q.0) p.cut;
  bytes = Appends-trans a b c (concat p.updates) (bytes_of q.0) p.bytes q.1;
  ends = q.3;
  passed = q.4;
}

-- an update was cut, and its sender broke off before anything was written of it
pub broken-unwritten : (W : Type 0) (a : Option (List ℕ)) (s t : Speaking) (update : List ℕ) (e : Ended) → t ≡ has_cut s → (e ≡ Gate) ⊎ (e ≡ Memory) → SendsNoMore W a a s t e
broken-unwritten W a s t update e cut why = (Some (record { update = update; written = [] }), Appends-nil a, cut ∙ sent-nothing (has_cut s), go why, λ some. absurd (some refl))
  where
    go : (e ≡ Gate) ⊎ (e ≡ Memory) → SendingEnds e (Some (record { update = update; written = [] }))
    go (inl h) = subst (λ (d : Ended). SendingEnds d (Some (record { update = update; written = [] }))) (sym h) refl
    go (inr h) = subst (λ (d : Ended). SendingEnds d (Some (record { update = update; written = [] }))) (sym h) (update, refl)

writing-broken : (e : Ended) (written update : List ℕ) → WritingEnds e written update → SendingEnds e (Some (record { update = update; written = written }))
writing-broken EndOfInput written update h = absurd h
writing-broken (Fault fault) written update h = absurd h
writing-broken ReadFailed written update h = absurd h
writing-broken WriteFailed written update h = h
writing-broken Memory written update h = h
writing-broken Gate written update h = absurd h
writing-broken Closed written update h = absurd h
writing-broken Stopped written update h = absurd h
writing-broken (Frames code) written update h = absurd h

-- some of it was written
pub broken-written : (W : Type 0) (a b : Option (List ℕ)) (s t u : Speaking) (update : List ℕ) (e : Ended) → W → t ≡ has_cut s → (added : List ℕ) × Appends a b added × (u ≡ has_sent added t) × WritingEnds e added update → SendsNoMore W a b s u e
broken-written W a b s t u update e may cut w = (Some (record { update = update; written = w.0 }), w.1, w.2 ∙ ap (has_sent w.0) cut, writing-broken e w.0 update w.3, λ some. may)

pub sent-whole : (P : List ℕ → Type 0) (a b : Option (List ℕ)) (s t u : Speaking) (update : List ℕ) → P update → t ≡ has_cut s → (added : List ℕ) × Appends a b added × (u ≡ has_sent added t) × (added ≡ update) → SendsUpdate P a b s u
sent-whole P a b s t u update some cut w = (update, some, subst (Appends a b) w.3 w.1, w.2 ∙ ap (has_sent w.0) cut ∙ ap (λ (l : List ℕ). has_sent l (has_cut s)) w.3)

-- ---- writing a buffer at a time

-- of some bytes what is written is kept and counted, and the rest is left
abbrev pub SendsSome : Option (List ℕ) → Option (List ℕ) → Speaking → Speaking → List ℕ → List ℕ → ℕ → Type 0
SendsSome wrote written before after left all count =
    (added : List ℕ) × Appends wrote written added × (after ≡ has_sent added before) × (added ++ left ≡ all) × (count ≡ counted (length added))

pub sends-further : (a b c : Option (List ℕ)) (s t u : Speaking) (left all buffer rest : List ℕ) (count more : ℕ) → SendsSome a b s t left all count → buffer ++ rest ≡ left
    → (added : List ℕ) × Appends b c added × (u ≡ has_sent added t) × (added ≡ buffer) → more ≡ counted (count + length buffer) → SendsSome a c s u rest all more
unfolding sends-then
sends-further a b c s t u left all buffer rest count more p filled q counts =
    let both = sends-then a b c s t u p.0 q.0 (p.1, p.2) (q.1, q.2) in
    let same = ap (λ (l : List ℕ). length l) q.3 in
    let e = p.4 in (
      p.0 ++ q.0,
      both.0,
      both.1,
      append_assoc p.0 q.0 rest ∙ ap (λ l. p.0 ++ l) (ap (λ l. l ++ rest) q.3 ∙ filled) ∙ p.3,
      omega (arith, e, counts, same, length-append p.0 q.0),
    )

still : (xs ys : List ℕ) → xs ≢ [] → xs ++ ys ≢ []
still [] ys h = absurd (h refl)
still (x ∷ xs) ys h = λ e. absurd cc

joined : (before added more buffer rest left all : List ℕ) → before ++ left ≡ all → buffer ++ rest ≡ left → added ++ more ≡ buffer → before ++ added ++ (more ++ rest) ≡ all
joined before added more buffer rest left all whole part is =
    append_assoc before added (more ++ rest)
    ∙ ap (λ l. before ++ l) (sym (append_assoc added more rest) ∙ ap (λ l. l ++ rest) is ∙ part)
    ∙ whole

-- the writing of what is left breaks off
pub ending-further : (e : Ended) (before added buffer rest left all : List ℕ) → before ++ left ≡ all → buffer ++ rest ≡ left → WritingEnds e added buffer → WritingEnds e (before ++ added) all
ending-further EndOfInput before added buffer rest left all whole part h = absurd h
ending-further (Fault fault) before added buffer rest left all whole part h = absurd h
ending-further ReadFailed before added buffer rest left all whole part h = absurd h
ending-further WriteFailed before added buffer rest left all whole part h = (h.0 ++ rest, still h.0 rest h.1, joined before added h.0 buffer rest left all whole part h.2)
ending-further Memory before added buffer rest left all whole part h = (h.0 ++ rest, joined before added h.0 buffer rest left all whole part h.1)
ending-further Gate before added buffer rest left all whole part h = absurd h
ending-further Closed before added buffer rest left all whole part h = absurd h
ending-further Stopped before added buffer rest left all whole part h = absurd h
ending-further (Frames code) before added buffer rest left all whole part h = absurd h

-- ---- answering

writing-ends : (e : Ended) (written due : List ℕ) → WritingEnds e written due → (e ≡ Memory) ⊎ (e ≡ WriteFailed)
writing-ends EndOfInput written due h = absurd h
writing-ends (Fault fault) written due h = absurd h
writing-ends ReadFailed written due h = absurd h
writing-ends WriteFailed written due h = inr refl
writing-ends Memory written due h = inl refl
writing-ends Gate written due h = absurd h
writing-ends Closed written due h = absurd h
writing-ends Stopped written due h = absurd h
writing-ends (Frames code) written due h = absurd h

-- an opening that ends with an answer has heard all that was read
pub reply-ends : (e : Ended) (a : Option (List ℕ)) (added bytes : List ℕ) (closed : Option Met) → ((added ≡ bytes) × ((fault : Met) × (closed ≡ Some fault) × (e ≡ Fault fault))) ⊎ WritingEnds e added bytes → OpeningEnds e a []
reply-ends e a added bytes closed (inl h) = inl (subst (λ (q : Ended). ReadingEnds q a []) (sym h.1.2) refl)
reply-ends e a added bytes closed (inr h) = inr (writing-ends e added bytes h, refl)

-- it was written, and an answer more
pub greeted-further : (a b c : Option (List ℕ)) (s t u : Speaking) (version answers more : List ℕ) → Sends a b s t (version ++ answers) → Sends b c t u more → Sends a c s u (version ++ (answers ++ more))
greeted-further a b c s t u version answers more p q = subst (λ (l : List ℕ). Sends a c s u l) (append_assoc version answers more) (sends-then a b c s t u (version ++ answers) more p q)

-- the version is broken off
pub version-broken : (e : Ended) (added version : List ℕ) → WritingEnds e added version → GreetingEnds e added version
version-broken e added version h = ([], inr (subst (WritingEnds e added) (sym (append-nil version)) h))

-- it was written, with some answers, and then came more
pub greets-further : (e : Ended) (added version answers : List ℕ) → GreetingEnds e added [] → GreetingEnds e (version ++ answers ++ added) version
greets-further e added version answers h = (answers ++ h.0, go h.1)
  where
    go : (added ≡ h.0) ⊎ WritingEnds e added h.0 → (version ++ answers ++ added ≡ version ++ (answers ++ h.0)) ⊎ WritingEnds e (version ++ answers ++ added) (version ++ (answers ++ h.0))
    go (inl k) = inl (append_assoc version answers added ∙ ap (λ l. version ++ (answers ++ l)) k)
    go (inr k) = inr (ending-further e (version ++ answers) added h.0 [] (h.0 ++ []) (version ++ (answers ++ h.0)) (ap (λ l. version ++ answers ++ l) (append-nil h.0) ∙ append_assoc version answers h.0) refl k)

-- an answer is out, and its viewer met no fault or the one that stands in it
pub fault-told : {X : Type 0} (r : Result X Ended) (answer : Answer) (added : List ℕ) → added ≡ answer.bytes → MatchOption answer.closed (IsOk r) (λ f. r ≡ Err (Fault f)) → Replies r added answer
fault-told {X = X} r answer added whole h = go answer.closed refl h
  where
    calm : (q : Result X Ended) → answer.closed ≡ None → IsOk q → Replies q added answer
    calm (Ok x) is ok = (whole, is)
    calm (Err e) is ok = absurd cc

    go : (o : Option Met) → answer.closed ≡ o → MatchOption o (IsOk r) (λ f. r ≡ Err (Fault f)) → Replies r added answer
    go None is k = calm r is k
    go (Some f) is k = subst (λ (q : Result X Ended). Replies q added answer) (sym k) (inl (whole, (f, is, refl)))

-- ---- writing

some-left : (bytes : List ℕ) (n : ℕ) → n < length bytes → drop n bytes ≢ []
some-left bytes n less = λ none. omega (arith, less, length-drop n bytes, ap (λ (l : List ℕ). length l) none)

-- what a writer took of some bytes
pub written-out : {X : Type 0} (r : Result X Ended) (bytes : List ℕ) (taken : ℕ) → MatchBool (nat_lt taken (length bytes)) (r ≡ Err WriteFailed) (IsOk r) → Writes r (take taken bytes) bytes
written-out {X = X} r bytes taken h = go (nat_lt taken (length bytes)) refl h
  where
    whole : (q : Result X Ended) → length bytes ≤ taken → IsOk q → Writes q (take taken bytes) bytes
    whole (Ok x) all ok = take_all taken bytes all
    whole (Err e) all ok = absurd cc

    go : (b : Bool) → nat_lt taken (length bytes) ≡ b → MatchBool b (r ≡ Err WriteFailed) (IsOk r) → Writes r (take taken bytes) bytes
    go true is k = subst (λ (q : Result X Ended). Writes q (take taken bytes) bytes) (sym k) (drop taken bytes, some-left bytes taken (search arith), take-append-drop taken bytes)
    go false is k = whole r (search arith) k

pub gate-shut : (X : Type 0) (answer : Bool) (e : Ended) → MatchBool answer (IsOk {T = X} {E = Ended} (Err e)) (◌≡◌ {A = Result X Ended} (Err e) (Err Gate)) → e ≡ Gate
gate-shut X true e h = absurd cc
gate-shut X false e h = ap (err_of e) h
