-- What one viewer was heard of, is given and holds down, over more events.
use Rattle.std.proofs.Common.{◌≡◌, ℕ, Bool, true, false, cond, List, [], ◌∷◌, ◌++◌, Option, Some, None, refl, sym, ap, ◌∙◌, append_assoc, append-nil, subst, arith, length-append}
use Rattle.std.specs.Prelude.{flat_map, ◌==◌, ◌&&◌, ◌+◌, ◌-◌, ◌^◌, min, length, option_map}
use Rattle.std.specs.List.{filter_map}
use Rattle.std.proofs.lemmas.List.Elements.{filter-append, filter_map-append}
use Rattle.std.proofs.lemmas.Grind.{flat_map-append}
use Rattle.std.proofs.lemmas.List.Sums.{sum_by_push}
use Rattle.std.proofs.lemmas.Bool.{and_parts}
use Rattle.std.proofs.lemmas.Bool.Decides.{Decides-eqb}
use Rattle.screen.specs.declared.Config.{Config}
use Rattle.screen.specs.declared.ScreenError.{ScreenError}
use Rattle.screen.specs.declared.Answer.{Answer}
use Rattle.screen.specs.declared.Event.{Event}
use Rattle.screen.specs.declared.Event.TheVariants.{Write, Paint, Mark, ScheduleCopy, DoCopy, Bell, CutText, Resize, Connect, Hear, Cut, Close}
use Rattle.screen.specs.Alone.{One, at_size, step, draw_step, after, answers_from, alone, owner_of, drawing_refusal, empty_screen}
use Rattle.screen.specs.Answers.{own, is_owner, is_drawing, last_of, answer_to}
use Rattle.screen.specs.declared.History.{History}
use Rattle.screen.specs.declared.History.TheVariants.{Kept, NotKept}
use Rattle.screen.specs.History.{has_happened, accepted}
use Rattle.screen.specs.Happening.{AllHappen}
use Rattle.screen.specs.HappeningLemmas.{one-happens, none-happens}
use Rattle.screen.specs.State.{history_by}
use Rattle.receipts.specs.Histories.{piece_of, pieces_of, heard_of, is_cut_of, cuts_of, bytes_of}
use Rattle.held_inputs.specs.Held.{Held, nothing}
use Rattle.connection.specs.Counting.{Counts, stopping, with_piece, with_cut}
use Rattle.connections.specs.Counting.{counted_in, counts_of}
use Rattle.connections.specs.Drawing.{are_drawings}
use Rattle.connection.specs.Holding.{held_behind}
use Rattle.connections.specs.Telling.{held_with, held_after, held_of}
use Rattle.connections.specs.Turns.{are_of}

-- ---- one event more

answers-more : (c : Config) (es : List Event) (e : Event) (s : One) → answers_from c (es ++ e ∷ []) s ≡ answers_from c es s ++ (step c e (after c es s)).1 ∷ []
answers-more c [] e s = refl
answers-more c (a ∷ es) e s = ap (λ l. (step c a s).1 ∷ l) (answers-more c es e (step c a s).0)

last-more : (told : List Answer) (a : Answer) → last_of (told ++ a ∷ []) ≡ a
last-more [] a = refl
last-more (b ∷ []) a = refl
last-more (b ∷ d ∷ told) a = last-more (d ∷ told) a

pub own-more : (v : ℕ) (es : List Event) (e : Event) → is_owner v (owner_of e) ≡ true → own v (es ++ e ∷ []) ≡ own v es ++ e ∷ []
own-more v es e h = filter-append (λ a. is_owner v (owner_of a)) es (e ∷ []) ∙ ap (λ b. own v es ++ cond b (e ∷ []) []) h

pub own-less : (v : ℕ) (es : List Event) (e : Event) → is_owner v (owner_of e) ≡ false → own v (es ++ e ∷ []) ≡ own v es
own-less v es e h = filter-append (λ a. is_owner v (owner_of a)) es (e ∷ []) ∙ ap (λ b. own v es ++ cond b (e ∷ []) []) h ∙ append-nil (own v es)

abbrev given : Config → List Event → List ℕ
given c es = flat_map (λ (a : Answer). a.bytes) (alone c es)

given-more : (c : Config) (es : List Event) (e : Event) → given c (es ++ e ∷ []) ≡ given c es ++ (step c e (after c es (empty_screen c))).1.bytes
given-more c es e =
    let a : Answer = (step c e (after c es (empty_screen c))).1 in
    ap (flat_map (λ (a : Answer). a.bytes)) (answers-more c es e (empty_screen c))
    ∙ flat_map-append (λ (a : Answer). a.bytes) (alone c es) (a ∷ [])
    ∙ ap (λ l. given c es ++ l) (append-nil a.bytes)

is_mine : (v : ℕ) → (v == v) ≡ true
is_mine v = (Decides-eqb v v).1 refl

pub mine : (v : ℕ) (e : Event) → owner_of e ≡ Some v → is_owner v (owner_of e) ≡ true
mine v e h = ap (is_owner v) h ∙ is_mine v

pub answer-own : (c : Config) (v : ℕ) (es : List Event) (e : Event) → owner_of e ≡ Some v → answer_to c es e ≡ (step c e (after c (own v es) (empty_screen c))).1
answer-own c v es e h =
    let last : last_of (alone c (own v (es ++ e ∷ []))) ≡ (step c e (after c (own v es) (empty_screen c))).1 =
    ap (λ l. last_of (alone c l)) (own-more v es e (mine v e h)) ∙ ap last_of (answers-more c (own v es) e (empty_screen c)) ∙ last-more (alone c (own v es)) _ in
    let to : answer_to c es e ≡ last_of (alone c (own v (es ++ e ∷ []))) = rw h refl in
    to ∙ last

-- a viewer's own event gives it what it is answered
pub bytes-own : (c : Config) (v : ℕ) (es : List Event) (e : Event) → owner_of e ≡ Some v → bytes_of c v (es ++ e ∷ []) ≡ bytes_of c v es ++ (answer_to c es e).bytes
bytes-own c v es e h =
    ap (given c) (own-more v es e (mine v e h)) ∙ given-more c (own v es) e ∙ ap (λ (a : Answer). bytes_of c v es ++ a.bytes) (sym (answer-own c v es e h))

drawn-bytes : (c : Config) (e : Event) (s : One) (r : Option ScreenError) → (draw_step c e s r).1.bytes ≡ []
drawn-bytes c e s None = refl
drawn-bytes c e s (Some r) = refl

step-bytes : (c : Config) (e : Event) (s : One) → owner_of e ≡ None → (step c e s).1.bytes ≡ []
step-bytes c e s h = let d = drawn-bytes (at_size s.picture c) e s (drawing_refusal (at_size s.picture c) e) in rw h d

-- a drawing call gives none anything
bytes-drawing : (c : Config) (v : ℕ) (es : List Event) (e : Event) → owner_of e ≡ None → bytes_of c v (es ++ e ∷ []) ≡ bytes_of c v es
bytes-drawing c v es e h =
    ap (given c) (own-more v es e (ap (is_owner v) h)) ∙ given-more c (own v es) e
    ∙ ap (λ l. bytes_of c v es ++ l) (step-bytes c e (after c (own v es) (empty_screen c)) h) ∙ append-nil (bytes_of c v es)

-- nor does another viewer's event
bytes-other : (c : Config) (v : ℕ) (es : List Event) (e : Event) → is_owner v (owner_of e) ≡ false → bytes_of c v (es ++ e ∷ []) ≡ bytes_of c v es
bytes-other c v es e h = ap (given c) (own-less v es e h)

-- ---- what was heard

abbrev joined : List (List ℕ) → List ℕ
joined pieces = flat_map (λ (piece : List ℕ). piece) pieces

heard-more : (v : ℕ) (es : List Event) (e : Event) → heard_of v (es ++ e ∷ []) ≡ heard_of v es ++ joined (filter_map (piece_of v) (e ∷ []))
heard-more v es e = ap joined (filter_map-append (piece_of v) es (e ∷ [])) ∙ flat_map-append (λ (piece : List ℕ). piece) (filter_map (piece_of v) es) (filter_map (piece_of v) (e ∷ []))

heard-one : (v : ℕ) (e : Event) (o : Option (List ℕ)) → piece_of v e ≡ o → joined (filter_map (piece_of v) (e ∷ [])) ≡ joined (filter_map (λ (o : Option (List ℕ)). o) (o ∷ []))
heard-one v e o h = rw h refl

-- a piece of a viewer is heard
pub heard-own : (v : ℕ) (es : List Event) (piece : List ℕ) → heard_of v (es ++ Hear v piece ∷ []) ≡ heard_of v es ++ piece
heard-own v es piece =
    let mine : piece_of v (Hear v piece) ≡ Some piece = ap (λ b. cond b (Some piece) None) (is_mine v) in
    heard-more v es (Hear v piece) ∙ ap (λ l. heard_of v es ++ l) (heard-one v (Hear v piece) (Some piece) mine ∙ append-nil piece)

pub heard-same : (v : ℕ) (es : List Event) (e : Event) → piece_of v e ≡ None → heard_of v (es ++ e ∷ []) ≡ heard_of v es
heard-same v es e h = heard-more v es e ∙ ap (λ l. heard_of v es ++ l) (heard-one v e None h) ∙ append-nil (heard_of v es)

no-piece-drawn : (v : ℕ) (e : Event) → owner_of e ≡ None → piece_of v e ≡ None
no-piece-drawn v (Connect n) h = absurd cc
no-piece-drawn v (Close n) h = absurd cc
no-piece-drawn v (Hear n piece) h = absurd cc
no-piece-drawn v (Cut n) h = absurd cc
no-piece-drawn v (Paint r colours) h = refl
no-piece-drawn v (Write r colours) h = refl
no-piece-drawn v (Mark rects) h = refl
no-piece-drawn v (ScheduleCopy rects dx dy) h = refl
no-piece-drawn v (DoCopy rects dx dy) h = refl
no-piece-drawn v Bell h = refl
no-piece-drawn v (CutText text) h = refl
no-piece-drawn v (Resize w k) h = refl

no-piece-other : (v : ℕ) (e : Event) → is_owner v (owner_of e) ≡ false → piece_of v e ≡ None
no-piece-other v (Connect n) h = refl
no-piece-other v (Close n) h = refl
no-piece-other v (Hear n piece) h = ap (λ b. cond b (Some piece) None) h
no-piece-other v (Cut n) h = refl
no-piece-other v (Paint r colours) h = refl
no-piece-other v (Write r colours) h = refl
no-piece-other v (Mark rects) h = refl
no-piece-other v (ScheduleCopy rects dx dy) h = refl
no-piece-other v (DoCopy rects dx dy) h = refl
no-piece-other v Bell h = refl
no-piece-other v (CutText text) h = refl
no-piece-other v (Resize w k) h = refl

-- ---- what is held down

held-more : (c : Config) (v : ℕ) (held : Held) (before es : List Event) (e : Event) → held_after c v held before (es ++ e ∷ []) ≡ held_with c v (before ++ es) (held_after c v held before es) (piece_of v e)
held-more c v held before [] e = ap (λ (l : List Event). held_with c v l held (piece_of v e)) (sym (append-nil before))
held-more c v held before (a ∷ es) e =
    let now : Held = held_with c v before held (piece_of v a) in
    held-more c v now (before ++ a ∷ []) es e
    ∙ ap (λ (l : List Event). held_with c v l (held_after c v now (before ++ a ∷ []) es) (piece_of v e)) (append_assoc before (a ∷ []) es)

-- a viewer's inputs change what it holds
pub held-own : (c : Config) (v : ℕ) (es : List Event) (piece : List ℕ) → held_of c v (es ++ Hear v piece ∷ []) ≡ held_behind (held_of c v es) (answer_to c es (Hear v piece)).inputs
held-own c v es piece =
    let mine : piece_of v (Hear v piece) ≡ Some piece = ap (λ b. cond b (Some piece) None) (is_mine v) in
    held-more c v nothing [] es (Hear v piece) ∙ ap (λ (o : Option (List ℕ)). held_with c v es (held_of c v es) o) mine

pub held-same : (c : Config) (v : ℕ) (es : List Event) (e : Event) → piece_of v e ≡ None → held_of c v (es ++ e ∷ []) ≡ held_of c v es
held-same c v es e h = held-more c v nothing [] es e ∙ ap (λ (o : Option (List ℕ)). held_with c v es (held_of c v es) o) h

-- ---- what is counted

abbrev counted_so : ℕ → ℕ → Option (List ℕ) → Counts
counted_so pieces cuts heard = record { pieces = pieces; cuts = cuts; heard = heard }

same-counts : (p q k l : ℕ) (h i : Option (List ℕ)) → p ≡ q → k ≡ l → h ≡ i → counted_so p k h ≡ counted_so q l i
same-counts p q k l h i pieces cuts heard = ap (λ n. counted_so n k h) pieces ∙ ap (λ n. counted_so q n h) cuts ∙ ap (λ o. counted_so q l o) heard

-- one more of what stops
stops : (m n : ℕ) → min (n + 1) m ≡ min (min n m + 1) m
stops m n = omega arith

stopping-more : (n : ℕ) → stopping (n + 1) ≡ stopping (stopping n + 1)
stopping-more n = stops (2 ^ 64 - 1) n

kept-more : (h : History) (bytes piece : List ℕ) → history_by h (bytes ++ piece) ≡ option_map (λ l. l ++ piece) (history_by h bytes)
kept-more Kept bytes piece = refl
kept-more NotKept bytes piece = refl

pieces-one : (v : ℕ) (e : Event) (o : Option (List ℕ)) → piece_of v e ≡ o → filter_map (piece_of v) (e ∷ []) ≡ filter_map (λ (o : Option (List ℕ)). o) (o ∷ [])
pieces-one v e o h = rw h refl

pieces-more : (v : ℕ) (es : List Event) (e : Event) (o : Option (List ℕ)) → piece_of v e ≡ o → pieces_of v (es ++ e ∷ []) ≡ pieces_of v es ++ filter_map (λ (o : Option (List ℕ)). o) (o ∷ [])
pieces-more v es e o h = filter_map-append (piece_of v) es (e ∷ []) ∙ ap (λ (l : List (List ℕ)). pieces_of v es ++ l) (pieces-one v e o h)

pieces-none : (v : ℕ) (es : List Event) (e : Event) → piece_of v e ≡ None → length (pieces_of v (es ++ e ∷ [])) ≡ length (pieces_of v es)
pieces-none v es e h = ap (λ (l : List (List ℕ)). length l) (pieces-more v es e None h ∙ append-nil (pieces_of v es))

cuts-more : (v : ℕ) (es : List Event) (e : Event) (b : Bool) → is_cut_of v e ≡ b → cuts_of v (es ++ e ∷ []) ≡ cuts_of v es + cond b 1 0
cuts-more v es e b h = sum_by_push (λ (e : Event). cond (is_cut_of v e) 1 0) es e ∙ ap (λ (b : Bool). cuts_of v es + cond b 1 0) h

cuts-none : (v : ℕ) (es : List Event) (e : Event) → is_cut_of v e ≡ false → cuts_of v (es ++ e ∷ []) ≡ cuts_of v es
cuts-none v es e h = let more = cuts-more v es e false h in omega (arith, more)

counted-none : (h : History) (v : ℕ) (es : List Event) (e : Event) → piece_of v e ≡ None → is_cut_of v e ≡ false → counted_in h v (es ++ e ∷ []) ≡ counted_in h v es
counted-none h v es e piece cut = same-counts _ _ _ _ _ _ (ap stopping (pieces-none v es e piece)) (ap stopping (cuts-none v es e cut)) (ap (history_by h) (heard-same v es e piece))

counted-heard : (h : History) (v : ℕ) (es : List Event) (piece : List ℕ) → counted_in h v (es ++ Hear v piece ∷ []) ≡ with_piece piece (counted_in h v es)
counted-heard h v es piece =
    let mine : piece_of v (Hear v piece) ≡ Some piece = ap (λ b. cond b (Some piece) None) (is_mine v) in
    let more : length (pieces_of v (es ++ Hear v piece ∷ [])) ≡ length (pieces_of v es) + 1 =
    ap (λ (l : List (List ℕ)). length l) (pieces-more v es (Hear v piece) (Some piece) mine) ∙ length-append (pieces_of v es) (piece ∷ []) in
    same-counts _ _ _ _ _ _ (ap stopping more ∙ stopping-more (length (pieces_of v es))) (ap stopping (cuts-none v es (Hear v piece) refl)) (ap (history_by h) (heard-own v es piece) ∙ kept-more h (heard_of v es) piece)

counted-cut : (h : History) (v : ℕ) (es : List Event) → counted_in h v (es ++ Cut v ∷ []) ≡ with_cut (counted_in h v es)
counted-cut h v es =
    let more : cuts_of v (es ++ Cut v ∷ []) ≡ cuts_of v es + 1 = cuts-more v es (Cut v) true (is_mine v) in
    same-counts _ _ _ _ _ _ (ap stopping (pieces-none v es (Cut v) refl)) (ap stopping more ∙ stopping-more (cuts_of v es)) (ap (history_by h) (heard-same v es (Cut v) refl))

-- an event that isn't counted, whether it happened or not
pub counts-same : (c : Config) (v : ℕ) (es : List Event) (e : Event) → piece_of v e ≡ None → is_cut_of v e ≡ false → counts_of c v (es ++ e ∷ []) ≡ counts_of c v es
counts-same c v es e piece cut = go (has_happened e (answer_to c es e)) refl
  where
    go : (b : Bool) → has_happened e (answer_to c es e) ≡ b → counts_of c v (es ++ e ∷ []) ≡ counts_of c v es
    go true is = ap (counted_in c.history v) (one-happens c es e is) ∙ counted-none c.history v (accepted c es) e piece cut
    go false is = ap (counted_in c.history v) (none-happens c es e is)

pub counts-heard : (c : Config) (v : ℕ) (es : List Event) (piece : List ℕ) → AllHappen c es (Hear v piece ∷ []) → counts_of c v (es ++ Hear v piece ∷ []) ≡ with_piece piece (counts_of c v es)
counts-heard c v es piece happened = ap (counted_in c.history v) happened ∙ counted-heard c.history v (accepted c es) piece

pub counts-cut : (c : Config) (v : ℕ) (es : List Event) → AllHappen c es (Cut v ∷ []) → counts_of c v (es ++ Cut v ∷ []) ≡ with_cut (counts_of c v es)
counts-cut c v es happened = ap (counted_in c.history v) happened ∙ counted-cut c.history v (accepted c es)

-- a cut that gave nothing
pub counts-uncut : (c : Config) (v : ℕ) (es : List Event) → accepted c (es ++ Cut v ∷ []) ≡ accepted c es → counts_of c v (es ++ Cut v ∷ []) ≡ counts_of c v es
counts-uncut c v es none = ap (counted_in c.history v) none

no-cut-drawn : (v : ℕ) (e : Event) → owner_of e ≡ None → is_cut_of v e ≡ false
no-cut-drawn v (Cut n) h = absurd cc
no-cut-drawn v e h = refl

no-cut-other : (v : ℕ) (e : Event) → is_owner v (owner_of e) ≡ false → is_cut_of v e ≡ false
no-cut-other v (Cut n) h = h
no-cut-other v e h = refl

-- ---- many events more

-- a viewer was heard of, is given, holds and was counted the same by both lists
abbrev pub SameFor : Config → ℕ → List Event → List Event → Type 0
SameFor c v es fs = (heard_of v fs ≡ heard_of v es) × (bytes_of c v fs ≡ bytes_of c v es) × (held_of c v fs ≡ held_of c v es) × (counts_of c v fs ≡ counts_of c v es)

same-then : (c : Config) (v : ℕ) (es fs gs : List Event) → SameFor c v es fs → SameFor c v fs gs → SameFor c v es gs
same-then c v es fs gs a b = (b.0 ∙ a.0, b.1 ∙ a.1, b.2 ∙ a.2, b.3 ∙ a.3)

same-drawing : (c : Config) (v : ℕ) (es : List Event) (e : Event) → owner_of e ≡ None → SameFor c v es (es ++ e ∷ [])
same-drawing c v es e h = (heard-same v es e (no-piece-drawn v e h), bytes-drawing c v es e h, held-same c v es e (no-piece-drawn v e h), counts-same c v es e (no-piece-drawn v e h) (no-cut-drawn v e h))

same-other : (c : Config) (v : ℕ) (es : List Event) (e : Event) → is_owner v (owner_of e) ≡ false → SameFor c v es (es ++ e ∷ [])
same-other c v es e h = (heard-same v es e (no-piece-other v e h), bytes-other c v es e h, held-same c v es e (no-piece-other v e h), counts-same c v es e (no-piece-other v e h) (no-cut-other v e h))

-- another viewer's event, or a drawing call
same-one : (c : Config) (n v : ℕ) → (n ≡ v → ⊥) → (es : List Event) (e : Event) → is_owner n (owner_of e) ≡ true → SameFor c v es (es ++ e ∷ [])
same-one c n v apart es e h = go (owner_of e) refl h
  where
    other : (m : ℕ) (b : Bool) → (m == v) ≡ b → owner_of e ≡ Some m → (m == n) ≡ true → SameFor c v es (es ++ e ∷ [])
    other m true mv is mn = absurd (apart (sym ((Decides-eqb m n).0 mn) ∙ (Decides-eqb m v).0 mv))
    other m false mv is mn = same-other c v es e (ap (is_owner v) is ∙ mv)

    go : (o : Option ℕ) → owner_of e ≡ o → is_owner n o ≡ true → SameFor c v es (es ++ e ∷ [])
    go None is h = same-drawing c v es e is
    go (Some m) is h = other m (m == v) refl is h

-- other viewers' events change nothing for a viewer
pub same-others : (c : Config) (n v : ℕ) → (n ≡ v → ⊥) → (es more : List Event) → are_of n more ≡ true → SameFor c v es (es ++ more)
same-others c n v apart es [] h = (ap (heard_of v) (append-nil es), ap (bytes_of c v) (append-nil es), ap (held_of c v) (append-nil es), ap (counts_of c v) (append-nil es))
same-others c n v apart es (e ∷ more) h =
    let both = and_parts _ _ h in
    let rest : SameFor c v (es ++ e ∷ []) ((es ++ e ∷ []) ++ more) = same-others c n v apart (es ++ e ∷ []) more both.1 in
    same-then c v es (es ++ e ∷ []) (es ++ e ∷ more) (same-one c n v apart es e both.0)
    (subst (λ (l : List Event). SameFor c v (es ++ e ∷ []) l) (append_assoc es (e ∷ []) more) rest)

pub drawing : (o : Option ℕ) → is_drawing o ≡ true → o ≡ None
drawing None h = refl
drawing (Some v) h = absurd cc

-- nor do drawing calls
pub same-drawings : (c : Config) (v : ℕ) (es more : List Event) → are_drawings more ≡ true → SameFor c v es (es ++ more)
same-drawings c v es [] h = (ap (heard_of v) (append-nil es), ap (bytes_of c v) (append-nil es), ap (held_of c v) (append-nil es), ap (counts_of c v) (append-nil es))
same-drawings c v es (e ∷ more) h =
    let both = and_parts _ _ h in
    let rest : SameFor c v (es ++ e ∷ []) ((es ++ e ∷ []) ++ more) = same-drawings c v (es ++ e ∷ []) more both.1 in
    same-then c v es (es ++ e ∷ []) (es ++ e ∷ more) (same-drawing c v es e (drawing (owner_of e) both.0))
    (subst (λ (l : List Event). SameFor c v (es ++ e ∷ []) l) (append_assoc es (e ∷ []) more) rest)

-- drawing calls are anyone's
pub drawings-own : (v : ℕ) (es : List Event) → are_drawings es ≡ true → are_of v es ≡ true
drawings-own v [] h = refl
drawings-own v (e ∷ es) h =
    let both = and_parts _ _ h in
    ap (λ o. is_owner v o && are_of v es) (drawing (owner_of e) both.0) ∙ drawings-own v es both.1
