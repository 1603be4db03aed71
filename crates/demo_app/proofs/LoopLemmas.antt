-- Runs of one thread: what its application was told, and what is judged of it.
use Rattle.std.proofs.Common.{◌≡◌, ◌⊎◌, ℕ, Bool, true, false, true≢false, List, [], ◌∷◌, ◌++◌, Option, Some, None, Result, Ok, Err, IfOk, OnOk, OnErr, IsPermutation, is_none, refl, sym, ap, ◌∙◌, subst, inl, inr, append-nil}
use Rattle.std.specs.Global.{Vec}
use Rattle.std.specs.Option.{option_to_list}
use Rattle.std.specs.Prelude.{IfSome, option_map}
use Rattle.std.specs.List.Sorted.{IsNonDecreasingBy}
use Rattle.std.proofs.lemmas.Grind.{flat_map-append}
use Rattle.std.proofs.lemmas.List.{map-append}
use Rattle.screen.specs.declared.Config.{Config}
use Rattle.screen.specs.declared.Event.{Event}
use Rattle.screen.specs.declared.Input.{Input}
use Rattle.screen.specs.History.{accepted}
use Rattle.screen.specs.State.{history_of}
use Rattle.screen.specs.State as screen_state
use Rattle.receipts.specs.declared.FinishError.{FinishError}
use Rattle.receipts.specs.declared.FinishError.TheVariants as errors
use Rattle.receipts.specs.declared.Receipt.{Receipt}
use Rattle.receipts.specs.declared.Report.{Report}
use Rattle.connections.specs.Serving.{Serving, Serves}
use Rattle.connections.specs.Telling.{Told, Said, Left, inputs_in, inputs_told, inputs_after}
use Rattle.connections.specs.TellingLemmas.{inputs-said, inputs-left, receipts-said, receipts-left}
use Rattle.event_loop.specs.Sockets.{sockets, sockets_and, GoesOnServingTelling}
use Rattle.event_loop.proofs.Steps.{TellsAll}
use Rattle.demo_app.specs.declared.serve.Easel.{Easel}
use Rattle.demo_app.specs.declared.serve.ServeOptions.{ServeOptions}
use Rattle.demo_app.specs.Application.{drawn_by, drawn_for, event_for, kept_in, own_calls, receipts_kept, said, KeepsOwn, KeepsTold, WasTold}
use Rattle.demo_app.specs.Endings.{IsJudged, PrintsOf, PrintsOwn}
use Rattle.demo_app.specs.Runs.{IsCheckOf, IsOwnCheck, JudgesLoop, JudgesOwn, PrintsLoop, RanOwn, inputs_of}
use Rattle.demo_app.specs.Screens.{config_by, history_by, own_config}

-- ---- what the application was told

-- the drawing calls of one input more
drawn-more : (w h : ℕ) (inputs : List (ℕ × Input)) (v : ℕ) (input : Input) → drawn_by w h (said (inputs ++ (v, input) ∷ [])) ≡ drawn_by w h (said inputs) ++ option_to_list (event_for w h input)
drawn-more w h inputs v input =
    ap (drawn_by w h) (map-append (λ i. i.1) inputs ((v, input) ∷ []))
    ∙ (flat_map-append (drawn_for w h) (said inputs) (input ∷ [])
    ∙ ap (λ l. drawn_by w h (said inputs) ++ l) (append-nil (drawn_for w h input)))

-- it draws one call more, and keeps it
kept-more : (w h : ℕ) (old new : Option (List Event)) (inputs : List (ℕ × Input)) (v : ℕ) (input : Input) (e : Event) → event_for w h input ≡ Some e
    → new ≡ option_map (λ l. l ++ e ∷ []) old → IfSome old (λ l. l ≡ drawn_by w h (said inputs)) → IfSome new (λ l. l ≡ drawn_by w h (said (inputs ++ (v, input) ∷ [])))
kept-more w h None new inputs v input e one kept was = subst (λ (o : Option (List Event)). IfSome o (λ l. l ≡ drawn_by w h (said (inputs ++ (v, input) ∷ [])))) (sym kept) tt
kept-more w h (Some l) new inputs v input e one kept was =
    subst (λ (o : Option (List Event)). IfSome o (λ l. l ≡ drawn_by w h (said (inputs ++ (v, input) ∷ [])))) (sym kept)
    (ap (λ k. k ++ e ∷ []) was ∙ (ap (λ (o : Option Event). drawn_by w h (said inputs) ++ option_to_list o) (sym one) ∙ sym (drawn-more w h inputs v input)))

-- it draws nothing
kept-same : (w h : ℕ) (old : Option (List Event)) (inputs : List (ℕ × Input)) (v : ℕ) (input : Input) → event_for w h input ≡ None
    → IfSome old (λ l. l ≡ drawn_by w h (said inputs)) → IfSome old (λ l. l ≡ drawn_by w h (said (inputs ++ (v, input) ∷ [])))
kept-same w h None inputs v input none was = tt
kept-same w h (Some l) inputs v input none was =
    was ∙ (sym (append-nil (drawn_by w h (said inputs))) ∙ (ap (λ (o : Option Event). drawn_by w h (said inputs) ++ option_to_list o) (sym none) ∙ sym (drawn-more w h inputs v input)))

event-at : (a b w h : ℕ) (input : Input) (o : Option Event) → a ≡ w → b ≡ h → o ≡ event_for a b input → event_for w h input ≡ o
event-at a b w h input o is_w is_h is = sym (is ∙ (ap (λ n. event_for n b input) is_w ∙ ap (λ n. event_for w n input) is_h))

pub told-none : (w h : ℕ) (easel : Easel) (drawn : Option (Vec Event)) (inputs : List (ℕ × Input)) (v : ℕ) (input : Input) → None ≡ event_for easel.width easel.height input
    → WasTold w h easel drawn inputs → WasTold w h easel drawn (inputs ++ (v, input) ∷ [])
told-none w h easel drawn inputs v input none was =
    record { wide = was.wide; high = was.high; kept = kept-same w h (kept_in drawn) inputs v input (event-at easel.width easel.height w h input None was.wide was.high none) was.kept }

pub told-more : (w h : ℕ) (old new : Easel) (drawn after : Option (Vec Event)) (inputs : List (ℕ × Input)) (v : ℕ) (input : Input) (e : Event) → new ≡ old → Some e ≡ event_for old.width old.height input
    → kept_in after ≡ option_map (λ l. l ++ e ∷ []) (kept_in drawn) → WasTold w h old drawn inputs → WasTold w h new after (inputs ++ (v, input) ∷ [])
told-more w h old new drawn after inputs v input e same one kept was =
    record {
      wide = ap (λ (it : Easel). it.width) same ∙ was.wide;
      high = ap (λ (it : Easel). it.height) same ∙ was.high;
      kept = kept-more w h (kept_in drawn) (kept_in after) inputs v input e (event-at old.width old.height w h input (Some e) was.wide was.high one) kept was.kept;
    }

-- nothing is kept any longer
pub told-refused : (w h : ℕ) (old new : Easel) (drawn after : Option (Vec Event)) (inputs more : List (ℕ × Input)) → new ≡ old → after ≡ None → WasTold w h old drawn inputs → WasTold w h new after more
told-refused w h old new drawn after inputs more same none was =
    record {
      wide = ap (λ (it : Easel). it.width) same ∙ was.wide;
      high = ap (λ (it : Easel). it.height) same ∙ was.high;
      kept = subst (λ (o : Option (Vec Event)). IfSome (kept_in o) (λ l. l ≡ drawn_by w h (said more))) (sym none) tt;
    }

-- ---- and which receipts it kept

-- an input is no receipt
kept-said : (forever : Bool) (told : List Told) (v : ℕ) (input : Input) → receipts_kept forever (told ++ Said v input ∷ []) ≡ receipts_kept forever told
kept-said true told v input = refl
kept-said false told v input = receipts-said told v input

pub keeps-said : (w h : ℕ) (forever : Bool) (easel : Easel) (drawn : Option (Vec Event)) (viewers viewers' : Option ℕ) (receipts receipts' : List Receipt) (told : List Told) (v : ℕ) (input : Input) → viewers' ≡ viewers → receipts' ≡ receipts
    → WasTold w h easel drawn (inputs_told told ++ (v, input) ∷ []) → is_none viewers ≡ forever → receipts ≡ receipts_kept forever told → KeepsTold w h forever easel drawn viewers' receipts' (told ++ Said v input ∷ [])
keeps-said w h forever easel drawn viewers viewers' receipts receipts' told v input same_v same_r was ends kept = record {
  drew = subst (λ (l : List (ℕ × Input)). WasTold w h easel drawn l) (sym (inputs-said told v input)) was;
  ends = ap is_none same_v ∙ ends;
  kept = same_r ∙ kept ∙ sym (kept-said forever told v input);
}

same-told : (w h : ℕ) (easel easel' : Easel) (drawn drawn' : Option (Vec Event)) (inputs : List (ℕ × Input)) → easel' ≡ easel → drawn' ≡ drawn → WasTold w h easel drawn inputs → WasTold w h easel' drawn' inputs
same-told w h easel easel' drawn drawn' inputs same_e same_d was =
    subst (λ (e : Easel). WasTold w h e drawn' inputs) (sym same_e) (subst (λ (d : Option (Vec Event)). WasTold w h easel d inputs) (sym same_d) was)

-- a receipt is kept where a number of viewers is waited for
kept-left : (forever : Bool) (viewers : Option ℕ) (receipts receipts' : List Receipt) (told : List Told) (r : Receipt) → ((n : ℕ) → viewers ≡ Some n → receipts' ≡ receipts ++ r ∷ []) → (viewers ≡ None → receipts' ≡ receipts)
    → is_none viewers ≡ forever → receipts ≡ receipts_kept forever told → receipts' ≡ receipts_kept forever (told ++ Left r ∷ [])
kept-left true None receipts receipts' told r some none ends kept = none refl ∙ kept
kept-left false None receipts receipts' told r some none ends kept = absurd (true≢false ends)
kept-left true (Some n) receipts receipts' told r some none ends kept = absurd (true≢false (sym ends))
kept-left false (Some n) receipts receipts' told r some none ends kept = some n refl ∙ ap (λ l. l ++ r ∷ []) kept ∙ sym (receipts-left told r)

pub keeps-left : (w h : ℕ) (forever : Bool) (easel easel' : Easel) (drawn drawn' : Option (Vec Event)) (viewers viewers' : Option ℕ) (receipts receipts' : List Receipt) (told : List Told) (r : Receipt) → easel' ≡ easel → drawn' ≡ drawn → viewers' ≡ viewers
    → ((n : ℕ) → viewers ≡ Some n → receipts' ≡ receipts ++ r ∷ []) → (viewers ≡ None → receipts' ≡ receipts) → KeepsTold w h forever easel drawn viewers receipts told → KeepsTold w h forever easel' drawn' viewers' receipts' (told ++ Left r ∷ [])
keeps-left w h forever easel easel' drawn drawn' viewers viewers' receipts receipts' told r same_e same_d same_v some none was = record {
  drew = subst (λ (l : List (ℕ × Input)). WasTold w h easel' drawn' l) (sym (inputs-left told r)) (same-told w h easel easel' drawn drawn' (inputs_told told) same_e same_d was.drew);
  ends = ap is_none same_v ∙ was.ends;
  kept = kept-left forever viewers receipts receipts' told r some none was.ends was.kept;
}

-- it is not kept, as an error says
pub keeps-refused : {X E : Type 0} (result : Result X E) (w h : ℕ) (forever : Bool) (easel easel' : Easel) (drawn drawn' : Option (Vec Event)) (viewers viewers' : Option ℕ) (receipts receipts' : List Receipt) → easel' ≡ easel → drawn' ≡ drawn → viewers' ≡ viewers → receipts' ≡ receipts
    → OnErr result ((told : List Told) → KeepsTold w h forever easel drawn viewers receipts told → KeepsTold w h forever easel' drawn' viewers' receipts' told)
keeps-refused (Ok x) w h forever easel easel' drawn drawn' viewers viewers' receipts receipts' same_e same_d same_v same_r = tt
keeps-refused (Err e) w h forever easel easel' drawn drawn' viewers viewers' receipts receipts' same_e same_d same_v same_r = λ told was. record {
  drew = same-told w h easel easel' drawn drawn' (inputs_told told) same_e same_d was.drew;
  ends = ap is_none same_v ∙ was.ends;
  kept = same_r ∙ was.kept;
}

-- the same of `self`
pub own-said : (drawn drawn' : List Event) (receipts receipts' : List Receipt) (told : List Told) (v : ℕ) (input : Input) → (drawn' ≡ drawn) ⊎ (drawn' ≡ own_calls) → receipts' ≡ receipts → KeepsOwn drawn receipts told → KeepsOwn drawn' receipts' (told ++ Said v input ∷ [])
own-said drawn drawn' receipts receipts' told v input (inl same) same_r was = record {
  drew = subst (λ (l : List Event). (l ≡ []) ⊎ (l ≡ own_calls)) (sym same) was.drew;
  kept = same_r ∙ was.kept ∙ sym (receipts-said told v input);
}
own-said drawn drawn' receipts receipts' told v input (inr all) same_r was = record { drew = inr all; kept = same_r ∙ was.kept ∙ sym (receipts-said told v input) }

pub own-left : (drawn drawn' : List Event) (receipts receipts' : List Receipt) (told : List Told) (r : Receipt) → drawn' ≡ drawn → receipts' ≡ receipts ++ r ∷ [] → KeepsOwn drawn receipts told → KeepsOwn drawn' receipts' (told ++ Left r ∷ [])
own-left drawn drawn' receipts receipts' told r same more was = record {
  drew = subst (λ (l : List Event). (l ≡ []) ⊎ (l ≡ own_calls)) (sym same) was.drew;
  kept = more ∙ ap (λ l. l ++ r ∷ []) was.kept ∙ sym (receipts-left told r);
}

pub own-refused : {X E : Type 0} (result : Result X E) (drawn drawn' : List Event) (receipts receipts' : List Receipt) → drawn' ≡ drawn → receipts' ≡ receipts → OnErr result ((told : List Told) → KeepsOwn drawn receipts told → KeepsOwn drawn' receipts' told)
own-refused (Ok x) drawn drawn' receipts receipts' same same_r = tt
own-refused (Err e) drawn drawn' receipts receipts' same same_r = λ told was. record {
  drew = subst (λ (l : List Event). (l ≡ []) ⊎ (l ≡ own_calls)) (sym same) was.drew;
  kept = same_r ∙ was.kept;
}

-- ---- what is judged

-- want of memory may come in place of each answer
wants-memory : (c : Config) (history drawn : List Event) (receipts : List Receipt) → IsCheckOf c history drawn receipts (Err errors.OutOfMemory)
wants-memory c history drawn receipts = record { checked = inr refl; report = tt; refusal = inr refl }

pub check-both : (c : Config) (history drawn drawn' : List Event) (receipts receipts' : List Receipt) (result : Result Report FinishError) → drawn ≡ drawn' → receipts ≡ receipts' → IsCheckOf c history drawn receipts result → IsCheckOf c history drawn' receipts' result
check-both c history drawn drawn' receipts receipts' result is_d is_r h = subst (λ (l : List Event). IsCheckOf c history l receipts' result) is_d (subst (λ (rs : List Receipt). IsCheckOf c history drawn rs result) is_r h)

-- by what is lent of a history
pub judges-kept : (c : Config) (history drawn : Option (List Event)) (receipts : List Receipt) (result : Result Report FinishError) (events calls : List Event)
    → history ≡ Some events → drawn ≡ Some calls → IsCheckOf c events calls receipts result → JudgesLoop c history drawn receipts result
judges-kept c history drawn receipts result events calls is_h is_d j = rw (is_h, is_d) j

pub judges-memory : (c : Config) (history drawn : Option (List Event)) (receipts : List Receipt) (events : List Event) → history ≡ Some events → drawn ≡ None → JudgesLoop c history drawn receipts (Err errors.OutOfMemory)
judges-memory c history drawn receipts events is_h is_d = rw (is_h, is_d) refl

pub judges-none : (c : Config) (history drawn : Option (List Event)) (receipts : List Receipt) → history ≡ None → JudgesLoop c history drawn receipts (Err errors.NotKept)
judges-none c history drawn receipts is_h = rw is_h refl

-- the same of `self`
pub judges-own : (c : Config) (history : Option (List Event)) (drawn : List Event) (receipts : List Receipt) (result : Result Report FinishError) (events : List Event) → history ≡ Some events → IsCheckOf c events drawn receipts result → JudgesOwn c history drawn receipts result
judges-own c history drawn receipts result events is h = rw is h

pub judges-own-none : (c : Config) (history : Option (List Event)) (drawn : List Event) (receipts : List Receipt) → history ≡ None → JudgesOwn c history drawn receipts (Err errors.NotKept)
judges-own-none c history drawn receipts is = rw is refl

-- ---- a whole run

-- a loop, whatever a record's file held before
pub opened : {E : Type 0} (c : Config) (held : Option (Option (List ℕ))) (r : Result Serving E) → IfOk r (λ s. Serves c (sockets_and held c) [] s) → IfOk r (λ s. (held : Option (Option (List ℕ))) × Serves c (sockets_and held c) [] s)
opened c held (Ok s) h = (held, h)
opened c held (Err e) h = tt

all-kept : (c : Config) (check : Bool) (events : List Event) → c.history ≡ history_by check → check ≡ true → history_of c events ≡ Some (accepted c events)
all-kept c check events by by_it = ap (λ k. screen_state.history_by k (accepted c events)) (by ∙ ap history_by by_it)

-- the check is that of what happened, and of what the inputs had the application draw
checked-loop : (c : Config) (check : Bool) (events calls : List Event) (history drawn : Option (List Event)) (receipts : List Receipt) (result : Result Report FinishError)
    → c.history ≡ history_by check → check ≡ true → history ≡ history_of c events → IfSome drawn (λ l. l ≡ calls)
    → JudgesLoop c history drawn receipts result → IsCheckOf c (accepted c events) calls receipts result
checked-loop c check events calls None drawn receipts result by by_it is was j = let all = all-kept c check events by by_it in absurd (cc)
checked-loop c check events calls (Some history) None receipts result by by_it is was j = subst (λ (r : Result Report FinishError). IsCheckOf c (accepted c events) calls receipts r) (sym j) (wants-memory c (accepted c events) calls receipts)
checked-loop c check events calls (Some history) (Some drawn) receipts result by by_it is was j =
    let all = all-kept c check events by by_it in
    let same : history ≡ accepted c events = cc in
    subst (λ (l : List Event). IsCheckOf c l calls receipts result) same (subst (λ (l : List Event). IsCheckOf c history l receipts result) was j)

judged-loop : (o : ServeOptions) (events calls : List Event) (history drawn : Option (List Event)) (receipts : List Receipt) (judgement : Option (Result Report FinishError))
    → history ≡ history_of (config_by o) events → IfSome drawn (λ l. l ≡ calls)
    → IsJudged o.check (JudgesLoop (config_by o) history drawn receipts) judgement
    → IsJudged o.check (IsCheckOf (config_by o) (accepted (config_by o) events) calls receipts) judgement
judged-loop o events calls history drawn receipts None is was fine = fine
judged-loop o events calls history drawn receipts (Some judgement) is was j = (j.0, checked-loop (config_by o) o.check events calls history drawn receipts judgement refl j.0 is was j.1)

all-told : (told rest all : List Told) → told ++ rest ≡ all → rest ≡ [] → told ≡ all
all-told told rest all parts none = sym (append-nil told) ∙ ap (λ l. told ++ l) (sym none) ∙ parts

kept-nothing : (forever : Bool) → receipts_kept forever [] ≡ []
kept-nothing true = refl
kept-nothing false = refl

pub prints-loop : {A E : Type 0} (easel : A → Easel) (drawn : A → Option (Vec Event)) (viewers : A → Option ℕ) (kept : A → List Receipt) (o : ServeOptions) (w h : ℕ) (forever : Bool) (x y : A) (a b : Serving) (receipts : List Receipt) (before after : Option (List ℕ)) (r : Result ℕ E)
    → o.width ≡ w → o.height ≡ h → ((held : Option (Option (List ℕ))) × Serves (config_by o) (sockets_and held (config_by o)) [] a)
    → WasTold w h (easel x) (drawn x) [] → is_none (viewers x) ≡ forever → kept x ≡ [] → TellsAll (λ s told. KeepsTold w h forever (easel s) (drawn s) (viewers s) (kept s) told) a b x y
    → IsPermutation (kept y) receipts → IsNonDecreasingBy (λ (r : Receipt). r.viewer) receipts
    → IfOk r (PrintsOf o.check receipts (JudgesLoop (config_by o) b.surface.screen.history (kept_in (drawn y)) receipts) before after)
    → IfOk r (PrintsLoop o forever before after)
prints-loop easel drawn viewers kept o w h forever x y a b receipts before after (Err e) is_w is_h began told ends none tells moved sorted p = tt
prints-loop easel drawn viewers kept o w h forever x y a b receipts before after (Ok s) is_w is_h began told ends none tells moved sorted p =
    let c = config_by o in
    let first : KeepsTold w h forever (easel x) (drawn x) (viewers x) (kept x) [] = record { drew = told; ends = ends; kept = none ∙ sym (kept-nothing forever) } in
    let ran = tells began.0 c [] began.1 in
    let t = ran.4 [] first in
    let whole : t.0 ≡ ran.2 = all-told t.0 t.1 ran.2 t.2 t.3 in
    let inputs : inputs_told t.0 ≡ inputs_after c [] ran.0 = ap inputs_told whole ∙ ap inputs_in ran.3.said in
    let calls = drawn_by o.width o.height (inputs_of c ran.0) in
    let was : IfSome (kept_in (drawn y)) (λ l. l ≡ calls) =
    subst (λ (n : ℕ). IfSome (kept_in (drawn y)) (λ k. k ≡ drawn_by n o.height (inputs_of c ran.0))) (sym is_w)
    (subst (λ (n : ℕ). IfSome (kept_in (drawn y)) (λ k. k ≡ drawn_by w n (inputs_of c ran.0))) (sym is_h)
    (subst (λ (l : List (ℕ × Input)). IfSome (kept_in (drawn y)) (λ k. k ≡ drawn_by w h (said l))) inputs t.4.drew.kept)) in
    record {
      events = ran.0;
      served = b;
      held = began.0;
      serves = ran.1;
      told = ran.2;
      account = ran.3;
      receipts = receipts;
      all = subst (λ (l : List Receipt). IsPermutation l receipts) (t.4.kept ∙ ap (receipts_kept forever) whole) moved;
      sorted = sorted;
      printed = (p.0, judged-loop o ran.0 calls b.surface.screen.history (kept_in (drawn y)) receipts p.0 (ap (λ s. s.history) ran.1.screen) was p.1, p.2, p.3);
    }

-- ---- a run of `self`

-- the loop served, and told its application all
pub ran-own : {A E : Type 0} (drawn : A → List Event) (kept : A → List Receipt) (x y : A) (a b : Serving) (r : Result (Unit {0}) E) (value : Unit {0}) → r ≡ Ok value → drawn x ≡ [] → kept x ≡ []
    → GoesOnServingTelling (λ s told. KeepsOwn (drawn s) (kept s) told) a b x y r → RanOwn a b (drawn y) (kept y)
ran-own {E = E} drawn kept x y a b r value is blank none goes held c list s =
    let first : KeepsOwn (drawn x) (kept x) [] = record { drew = inl blank; kept = none } in
    let ran = goes held c list s in
    let t = ran.4 [] first in
    let whole : t.0 ≡ ran.2 = all-told t.0 t.1 ran.2 t.2 (subst (λ (r : Result (Unit {0}) E). OnOk r (t.1 ≡ [])) is t.3) in
    (ran.0, ran.1, ran.2, ran.3, subst (λ (l : List Told). KeepsOwn (drawn y) (kept y) l) whole t.4)

judged-own : (c : Config) (history : Option (List Event)) (events drawn : List Event) (receipts : List Receipt) (result : Result Report FinishError) → history ≡ Some events → JudgesOwn c history drawn receipts result → IsCheckOf c events drawn receipts result
judged-own c history events drawn receipts result is j = subst (λ (o : Option (List Event)). JudgesOwn c o drawn receipts result) is j

own-check : (start served : Serving) (drawn : List Event) (kept receipts : List Receipt) (judgement : Result Report FinishError) → Serves own_config (sockets own_config) [] start → RanOwn start served drawn kept
    → IsPermutation kept receipts → IsNonDecreasingBy (λ (r : Receipt). r.viewer) receipts → JudgesOwn own_config served.surface.screen.history drawn receipts judgement → IsOwnCheck judgement
own-check start served drawn kept receipts judgement began ran moved sorted judged =
    let w = ran None own_config [] began in
    let history : served.surface.screen.history ≡ Some (accepted own_config w.0) = ap (λ s. s.history) w.1.screen in
    record {
      events = w.0;
      served = served;
      serves = w.1;
      told = w.2;
      account = w.3;
      drawn = drawn;
      drew = w.4.drew;
      receipts = receipts;
      all = subst (λ (l : List Receipt). IsPermutation l receipts) w.4.kept moved;
      sorted = sorted;
      checked = judged-own own_config served.surface.screen.history (accepted own_config w.0) drawn receipts judgement history judged;
    }

pub own-checked : {E : Type 0} (viewers count : ℕ) (start served : Serving) (drawn : List Event) (kept receipts : List Receipt) (before after : Option (List ℕ)) (r : Result ℕ E) → count ≡ viewers
    → Serves own_config (sockets own_config) [] start → RanOwn start served drawn kept → IsPermutation kept receipts → IsNonDecreasingBy (λ (r : Receipt). r.viewer) receipts
    → IfOk r (PrintsOwn count (JudgesOwn own_config served.surface.screen.history drawn receipts) before after) → IfOk r (PrintsOwn viewers IsOwnCheck before after)
own-checked viewers count start served drawn kept receipts before after (Ok s) same began ran moved sorted p = (p.0, p.1, p.2 ∙ same, own-check start served drawn kept receipts p.1 began ran moved sorted p.3, p.4, p.5)
own-checked viewers count start served drawn kept receipts before after (Err e) same began ran moved sorted p = tt
