-- A history with one event more, as what is behind the lock stands for it.
use Rattle.std.proofs.Common.{◌≡◌, ℕ, suc, Bool, true, false, List, [], ◌∷◌, ◌++◌, length, Option, Some, None, Result, Ok, Err, sym, refl, ap, ◌∙◌, subst, arith, lt-ltb}
use Rattle.std.specs.Prelude.{◌≢◌, ◌&&◌, ◌+◌, nat_lt, is_none, if◌then◌else◌, IfSome, MatchOption}
use Rattle.std.proofs.lemmas.List.{append-nil, append_assoc, length_push}
use Rattle.screen.specs.declared.Config.{Config}
use Rattle.screen.specs.declared.ScreenError.{ScreenError}
use Rattle.screen.specs.declared.Answer.{Answer}
use Rattle.screen.specs.declared.Event.{Event}
use Rattle.screen.specs.declared.Event.TheVariants.{Write, Paint, Mark, ScheduleCopy, DoCopy, Bell, CutText, Resize, Connect, Hear, Cut, Close}
use Rattle.screen.specs.Alone.{Tells, owner_of, some_bytes, gives}
use Rattle.screen.specs.Answers.{answer_to, is_drawing}
use Rattle.screen.specs.History.{has_happened, accepted_after, accepted, drawings, connects}
use Rattle.screen.specs.State.{State, state, kept_is_enough}
use Rattle.update_sender.specs.Numbers.{rises, newest, is_next}
use Rattle.update_sender.specs.Locked.{Locked, Stands, Steps}
use Rattle.screen.specs.Calls.{event_of}
use Rattle.screen.specs.declared.Drawing.{Drawing}
use Rattle.screen.specs.declared.Drawing.TheVariants as calls

-- ---- what happened

abbrev if_happened : Bool → Event → List Event → List Event
if_happened b e rest = if b then e ∷ rest else rest

accepted-append : (c : Config) (before es : List Event) (e : Event)
    → accepted_after c before (es ++ e ∷ []) ≡ accepted_after c before es ++ if_happened (has_happened e (answer_to c (before ++ es) e)) e []
accepted-append c before [] e = ap (λ l. if_happened (has_happened e (answer_to c l e)) e []) (sym (append-nil before))
accepted-append c before (x ∷ es) e =
    go (has_happened x (answer_to c before x))
    (accepted-append c (before ++ x ∷ []) es e
    ∙ ap (λ l. accepted_after c (before ++ x ∷ []) es ++ if_happened (has_happened e (answer_to c l e)) e []) (append_assoc before (x ∷ []) es))
  where
    more : List Event
    more = accepted_after c (before ++ x ∷ []) (es ++ e ∷ [])

    less : List Event
    less = accepted_after c (before ++ x ∷ []) es

    last : List Event
    last = if_happened (has_happened e (answer_to c (before ++ x ∷ es) e)) e []

    go : (b : Bool) → more ≡ less ++ last → if_happened b x more ≡ if_happened b x less ++ last
    go true h = ap (λ l. x ∷ l) h
    go false h = h

happened-last : (c : Config) (h : List Event) (e : Event) → accepted c h ≡ h → has_happened e (answer_to c h e) ≡ true → accepted c (h ++ e ∷ []) ≡ h ++ e ∷ []
happened-last c h e all last = accepted-append c [] h e ∙ ap (λ b. accepted c h ++ if_happened b e []) last ∙ ap (λ l. l ++ e ∷ []) all

unhappened-last : (c : Config) (h : List Event) (e : Event) → has_happened e (answer_to c h e) ≡ false → accepted c (h ++ e ∷ []) ≡ accepted c h
unhappened-last c h e last = accepted-append c [] h e ∙ ap (λ b. accepted c h ++ if_happened b e []) last ∙ append-nil (accepted c h)

-- what is answered is no refusal
told-unrefused : {X : Type 0} (answer : X → Answer) (x : X) (a : Answer) → Tells answer (Ok x) a → is_none a.refused ≡ true
told-unrefused {X = X} answer x a told = go a.refused told
  where
    go : (o : Option ScreenError) → MatchOption o (answer x ≡ a) (λ e. ◌≡◌ {A = Result X ScreenError} (Ok x) (Err e)) → is_none o ≡ true
    go None h = refl
    go (Some e) h = absurd cc

-- ---- a history's numbers and drawing calls, with one event more

connects-append : (es more : List Event) → connects (es ++ more) ≡ connects es ++ connects more
connects-append [] more = refl
connects-append (Write r l ∷ es) more = connects-append es more
connects-append (Paint r l ∷ es) more = connects-append es more
connects-append (Mark r ∷ es) more = connects-append es more
connects-append (ScheduleCopy r x y ∷ es) more = connects-append es more
connects-append (DoCopy r x y ∷ es) more = connects-append es more
connects-append (Bell ∷ es) more = connects-append es more
connects-append (CutText t ∷ es) more = connects-append es more
connects-append (Resize w k ∷ es) more = connects-append es more
connects-append (Connect v ∷ es) more = ap (λ l. v ∷ l) (connects-append es more)
connects-append (Hear v p ∷ es) more = connects-append es more
connects-append (Cut v ∷ es) more = connects-append es more
connects-append (Close v ∷ es) more = connects-append es more

drawings-append : (es more : List Event) → drawings (es ++ more) ≡ drawings es ++ drawings more
drawings-append [] more = refl
drawings-append (x ∷ es) more = go (is_drawing (owner_of x)) (drawings-append es more)
  where
    go : (b : Bool) → drawings (es ++ more) ≡ drawings es ++ drawings more
        → (if b then x ∷ drawings (es ++ more) else drawings (es ++ more)) ≡ (if b then x ∷ drawings es else drawings es) ++ drawings more
    go true h = ap (λ l. x ∷ l) h
    go false h = h

newest-push : (vs : List ℕ) (n : ℕ) → newest (vs ++ n ∷ []) ≡ Some n
newest-push [] n = refl
newest-push (v ∷ []) n = refl
newest-push (v ∷ w ∷ vs) n = newest-push (w ∷ vs) n

rises-push : (vs : List ℕ) (n : ℕ) → rises vs ≡ true → is_next (newest vs) n ≡ true → rises (vs ++ n ∷ []) ≡ true
rises-push [] n h less = refl
rises-push (v ∷ []) n h less = ap (λ b. b && true) less
rises-push (v ∷ w ∷ vs) n h less = both (nat_lt v w) (rises (w ∷ vs)) (rises (w ∷ vs ++ n ∷ [])) h (λ e. rises-push (w ∷ vs) n e less)
  where
    both : (a b c : Bool) → (a && b) ≡ true → (b ≡ true → c ≡ true) → (a && c) ≡ true
    both true b c e f = f e
    both false b c e f = e

-- ---- one event more

stepped : (s t : State) (h : List Event) (greatest now : Option ℕ) (counted more : ℕ) (e : Event) → Stands s h greatest counted → t ≡ state s.config (h ++ e ∷ [])
    → has_happened e (answer_to s.config h e) ≡ true
    → rises (connects h ++ connects (e ∷ [])) ≡ true → newest (connects h ++ connects (e ∷ [])) ≡ now → more ≡ length (drawings h ++ drawings (e ∷ []))
    → Stands t (h ++ e ∷ []) now more
stepped s t h greatest now counted more e k is happened rising last as_many =
    let same : s.config ≡ t.config = sym (ap (λ (x : State). x.config) is) in
    record {
      stands = is ∙ ap (λ c. state c (h ++ e ∷ [])) same;
      happened = subst (λ c. accepted c (h ++ e ∷ []) ≡ h ++ e ∷ []) same (happened-last s.config h e k.happened happened);
      rising = ap rises (connects-append h (e ∷ [])) ∙ rising;
      last = ap newest (connects-append h (e ∷ [])) ∙ last;
      as_many = as_many ∙ ap (λ (l : List Event). length l) (sym (drawings-append h (e ∷ [])));
    }

-- one that neither connects nor draws
pub quiet : (s t : State) (h : List Event) (greatest : Option ℕ) (counted : ℕ) (e : Event) → Stands s h greatest counted → t ≡ state s.config (h ++ e ∷ [])
    → has_happened e (answer_to s.config h e) ≡ true → connects (e ∷ []) ≡ [] → drawings (e ∷ []) ≡ [] → Stands t (h ++ e ∷ []) greatest counted
quiet s t h greatest counted e k is happened none undrawn =
    let numbers : connects h ++ connects (e ∷ []) ≡ connects h = ap (λ l. connects h ++ l) none ∙ append-nil (connects h) in
    stepped s t h greatest greatest counted counted e k is happened
    (ap rises numbers ∙ k.rising)
    (ap newest numbers ∙ k.last)
    (k.as_many ∙ ap (λ (l : List Event). length l) (sym (ap (λ (l : List Event). drawings h ++ l) undrawn ∙ append-nil (drawings h))))

-- a viewer that connects
pub joined : {X : Type 0} (answer : X → Answer) (x : X) (s t : State) (h : List Event) (greatest : Option ℕ) (counted n : ℕ) → Stands s h greatest counted
    → t ≡ state s.config (h ++ Connect n ∷ []) → Tells answer (Ok x) (answer_to s.config h (Connect n)) → is_next greatest n ≡ true → Stands t (h ++ Connect n ∷ []) (Some n) counted
joined answer x s t h greatest counted n k is told less =
    stepped s t h greatest (Some n) counted counted (Connect n) k is
    (told-unrefused answer x (answer_to s.config h (Connect n)) told)
    (rises-push (connects h) n k.rising (ap (λ o. is_next o n) k.last ∙ less))
    (newest-push (connects h) n)
    (k.as_many ∙ ap (λ (l : List Event). length l) (sym (append-nil (drawings h))))

-- one that is answered, and that is no cut
pub answered : {X : Type 0} (answer : X → Answer) (x : X) (s : State) (h : List Event) (e : Event) → Tells answer (Ok x) (answer_to s.config h e)
    → ((a : Answer) → has_happened e a ≡ is_none a.refused) → has_happened e (answer_to s.config h e) ≡ true
answered answer x s h e told by = by (answer_to s.config h e) ∙ told-unrefused answer x (answer_to s.config h e) told

-- ---- a drawing call

call-connects : (d : Drawing) → connects (event_of d ∷ []) ≡ []
call-connects (calls.Write r l) = refl
call-connects (calls.Paint r l) = refl
call-connects (calls.MarkRect r) = refl
call-connects (calls.MarkRegion r) = refl
call-connects (calls.ScheduleCopyRect r x y) = refl
call-connects (calls.ScheduleCopyRegion r x y) = refl
call-connects (calls.DoCopyRect r x y) = refl
call-connects (calls.DoCopyRegion r x y) = refl
call-connects calls.Bell = refl
call-connects (calls.CutText t) = refl
call-connects (calls.NewFramebuffer w h) = refl

call-drawn : (d : Drawing) → drawings (event_of d ∷ []) ≡ event_of d ∷ []
call-drawn (calls.Write r l) = refl
call-drawn (calls.Paint r l) = refl
call-drawn (calls.MarkRect r) = refl
call-drawn (calls.MarkRegion r) = refl
call-drawn (calls.ScheduleCopyRect r x y) = refl
call-drawn (calls.ScheduleCopyRegion r x y) = refl
call-drawn (calls.DoCopyRect r x y) = refl
call-drawn (calls.DoCopyRegion r x y) = refl
call-drawn calls.Bell = refl
call-drawn (calls.CutText t) = refl
call-drawn (calls.NewFramebuffer w h) = refl

call-happened : (d : Drawing) (a : Answer) → has_happened (event_of d) a ≡ is_none a.refused
call-happened (calls.Write r l) a = refl
call-happened (calls.Paint r l) a = refl
call-happened (calls.MarkRect r) a = refl
call-happened (calls.MarkRegion r) a = refl
call-happened (calls.ScheduleCopyRect r x y) a = refl
call-happened (calls.ScheduleCopyRegion r x y) a = refl
call-happened (calls.DoCopyRect r x y) a = refl
call-happened (calls.DoCopyRegion r x y) a = refl
call-happened calls.Bell a = refl
call-happened (calls.CutText t) a = refl
call-happened (calls.NewFramebuffer w h) a = refl

pub drawn : {X : Type 0} (answer : X → Answer) (x : X) (s t : State) (h : List Event) (greatest : Option ℕ) (counted more : ℕ) (d : Drawing) → Stands s h greatest counted
    → t ≡ state s.config (h ++ event_of d ∷ []) → Tells answer (Ok x) (answer_to s.config h (event_of d)) → more ≡ counted + 1 → Stands t (h ++ event_of d ∷ []) greatest more
drawn answer x s t h greatest counted more d k is told one_more =
    let e = event_of d in
    let numbers : connects h ++ connects (e ∷ []) ≡ connects h = ap (λ l. connects h ++ l) (call-connects d) ∙ append-nil (connects h) in
    stepped s t h greatest greatest counted more e k is
    (answered answer x s h e told (call-happened d))
    (ap rises numbers ∙ k.rising)
    (ap newest numbers ∙ k.last)
    (one_more ∙ ap (λ n. n + 1) k.as_many ∙ sym (length_push (drawings h) e) ∙ ap (λ (l : List Event). length (drawings h ++ l)) (sym (call-drawn d)))

-- ---- a cut

some-bytes : (bytes : List ℕ) → bytes ≢ [] → some_bytes bytes ≡ true
some-bytes [] h = absurd (h refl)
some-bytes (b ∷ bytes) h = refl

-- one that gave something is an event
pub cut-something : {X : Type 0} (answer : X → Answer) (x : X) (v : ℕ) (a : Answer) (bytes : List ℕ) → Tells answer (Ok x) a → answer x ≡ gives bytes → bytes ≢ [] → has_happened (Cut v) a ≡ true
cut-something {X = X} answer x v a bytes told given some = go a.refused told
  where
    go : (o : Option ScreenError) → MatchOption o (answer x ≡ a) (λ e. ◌≡◌ {A = Result X ScreenError} (Ok x) (Err e)) → has_happened (Cut v) a ≡ true
    go None h = ap (has_happened (Cut v)) (sym h ∙ given) ∙ some-bytes bytes some
    go (Some e) h = absurd cc

cut-nothing : {X : Type 0} (answer : X → Answer) (x : X) (v : ℕ) (a : Answer) → Tells answer (Ok x) a → answer x ≡ gives [] → has_happened (Cut v) a ≡ false
cut-nothing {X = X} answer x v a told empty = go a.refused told
  where
    go : (o : Option ScreenError) → MatchOption o (answer x ≡ a) (λ e. ◌≡◌ {A = Result X ScreenError} (Ok x) (Err e)) → has_happened (Cut v) a ≡ false
    go None h = ap (has_happened (Cut v)) (sym h ∙ empty)
    go (Some e) h = absurd cc

-- one that gave nothing changed nothing
pub cut-idle : kept_is_enough → {X : Type 0} (answer : X → Answer) (x : X) (s t : State) (h : List Event) (greatest : Option ℕ) (counted v : ℕ) → Stands s h greatest counted
    → t ≡ state s.config (h ++ Cut v ∷ []) → Tells answer (Ok x) (answer_to s.config h (Cut v)) → answer x ≡ gives [] → t ≡ s
cut-idle enough answer x s t h greatest counted v k is told empty =
    is
    ∙ sym (enough s.config (h ++ Cut v ∷ []))
    ∙ ap (state s.config) (unhappened-last s.config h (Cut v) (cut-nothing answer x v (answer_to s.config h (Cut v)) told empty) ∙ k.happened)
    ∙ sym k.stands

-- no event changes the configuration
pub config-kept : (e : Event) (old new : Locked) (h : List Event) (greatest : Option ℕ) (counted : ℕ) → Stands old.screen h greatest counted → Steps e old new → new.screen.config ≡ old.screen.config
config-kept e old new h greatest counted stands steps = ap (λ (s : State). s.config) (steps old.screen.config h stands.stands)
