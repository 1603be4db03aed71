-- Turns, and what begins them.
use Rattle.std.proofs.Common.{◌≡◌, ◌≢◌, ◌≤◌, ◌<◌, ◌-◌, ◌+◌, ◌^◌, ℕ, zero, suc, ℤ, List, [], ◌∷◌, ◌++◌, length, take, Option, Some, None, Result, Ok, Err, refl, sym, ap, ◌∙◌, inl, inr, subst, append-nil, arith}
use Rattle.std.specs.declared.alloc.AllocError.{AllocError}
use Rattle.std.specs.Prelude.{Bool, false, IfErr, OnOk, option_map, min, ◌⊎◌}
use Rattle.screen.specs.declared.Input.{Input}
use Rattle.screen.specs.declared.Config.{Config}
use Rattle.screen.specs.declared.Event.{Event}
use Rattle.screen.specs.declared.ScreenError.{ScreenError}
use Rattle.screen.specs.declared.ScreenError.TheVariants.{OutOfMemory}
use Rattle.screen.specs.declared.ScreenError.TheVariants as refusals
use Rattle.screen.specs.Alone.{config_refusal}
use Rattle.connections.specs.Serving.{Serving, Serves, number_at}
use Rattle.connections.specs.Telling.{Told, words_of, inputs_in, inputs_told, words_after, inputs_after}
use Rattle.connections.specs.TellingLemmas.{inputs-told-both}
use Rattle.event_loop.specs.Sockets.{GoesOnServing}
use Rattle.event_loop.specs.declared.event_loop.LoopError.{LoopError}
use Rattle.event_loop.specs.declared.event_loop.LoopError.TheVariants.{Network, Clock, Screen, TooManyListeners}
use Rattle.c_screen.specs.Codes.{Answers, code_of, done, out_of_memory}
use Rattle.c_server.specs.declared.listening.ListenError.{ListenError}
use Rattle.c_server.specs.declared.listening.ListenError.TheVariants.{Refused, BadAddress, CannotListen, CannotRecord}
use Rattle.c_server.specs.declared.visits.Visit.{Visit}
use Rattle.c_server.specs.Codes.{closed_code, turn_code}
use Rattle.c_server.specs.Listening.{IsOfSystem, IsRefusedBy, listen_code, unbound_code}
use Rattle.c_server.specs.Calls.{IsListenCode, IsServeCode, LetsGo, Listens, ServesUnbound, TakesTurn}
use Rattle.c_server.specs.Desk.{Standing, IsPartOf, IsPutBehind, desk_sockets, held_where, is_named, fitting, texts_limit, texts_size}
use Rattle.c_server.specs.Gathering.{IsKept}
use Rattle.c_server.specs.System.{IsAddress, IsNoAddress}
use Rattle.std.proofs.lemmas.List.{length-take, take-take}
use Rattle.c_server.proofs.Fits.{part-of-part, take-few, texts-append, fits-part, fits-few, fits-count, fits-texts}

-- ---- listening

never_done : (e : ScreenError) → code_of e ≢ done
never_done refusals.BadSize = λ same. absurd (cc)
never_done refusals.BadName = λ same. absurd (cc)
never_done refusals.BadRectLimit = λ same. absurd (cc)
never_done refusals.BadRect = λ same. absurd (cc)
never_done refusals.BadPixelCount = λ same. absurd (cc)
never_done refusals.TextTooLong = λ same. absurd (cc)
never_done refusals.NoViewer = λ same. absurd (cc)
never_done refusals.NumberInUse = λ same. absurd (cc)
never_done refusals.OutOfMemory = λ same. absurd (cc)

never-listens : (e : ListenError) → listen_code e ≢ done
never-listens (Refused e) = never_done e
never-listens BadAddress = λ same. absurd (cc)
never-listens CannotListen = λ same. absurd (cc)
never-listens CannotRecord = λ same. absurd (cc)

pub refused-so : {X : Type 0} (path : List ℕ) (result : Result X ListenError) (o : Option ScreenError) (r : ScreenError) → o ≡ Some r → result ≡ Err (Refused r) → IsRefusedBy path o result
refused-so path result o r is so = rw is so

pub unrefused-so : {X : Type 0} (path : List ℕ) (result : Result X ListenError) (o : Option ScreenError) → o ≡ None → IfErr result (IsOfSystem path) → IsRefusedBy path o result
unrefused-so path result o is so = rw is so

-- what was made was not refused
listens-ok : {X : Type 0} (digits path : List ℕ) (result : Result X ListenError) (x : X) (o : Option ScreenError) → result ≡ Ok x → IsRefusedBy path o result → Answers (option_map code_of o) (IsListenCode digits path) done
listens-ok digits path result x None is h = inl (inl refl)
listens-ok digits path result x (Some e) is h = absurd (cc)

of-system : (digits path : List ℕ) (e : ListenError) → IsOfSystem path e → (e ≡ BadAddress → IsNoAddress digits) → IsListenCode digits path (listen_code e) ⊎ (listen_code e ≡ out_of_memory)
of-system digits path (Refused e) h bad = inr (ap code_of h)
of-system digits path BadAddress h bad = inl (inr (inl (refl, bad refl)))
of-system digits path CannotListen h bad = inl (inr (inr (inl refl)))
of-system digits path CannotRecord h bad = inl (inr (inr (inr (refl, h))))

listens-err : {X : Type 0} (digits path : List ℕ) (result : Result X ListenError) (e : ListenError) (o : Option ScreenError) → result ≡ Err e → IsRefusedBy path o result → IfErr result (λ e. e ≡ BadAddress → IsNoAddress digits) → Answers (option_map code_of o) (IsListenCode digits path) (listen_code e)
listens-err {X = X} digits path result e None is h bad = of-system digits path e (subst (λ (r : Result X ListenError). IfErr r (IsOfSystem path)) is h) (subst (λ (r : Result X ListenError). IfErr r (λ e. e ≡ BadAddress → IsNoAddress digits)) is bad)
listens-err digits path result e (Some r) is h bad = let same : e ≡ Refused r = cc in ap listen_code same

-- it listens
pub listens : {X : Type 0} (result : Result X ListenError) (x : X) (c : Config) (desk new : Standing) (s : Serving) (viewers : ℕ) (digits : List ℕ) (asked port granted : ℕ) (path : List ℕ) → path ≡ desk.record_path
    → new ≡ record { served = Some s; port = port; viewers = granted; inputs = []; visits = []; text = []; lost = 0; full_requests = 0; text_room = texts_limit; record_path = []; recorded = is_named desk.record_path }
    → Serves c (desk_sockets (is_named path) c) [] s → result ≡ Ok x → IsRefusedBy path (config_refusal c) result → (asked ≢ 0 → port ≡ asked) → IsAddress digits → granted ≡ viewers → Listens c viewers digits asked desk new done
listens result x c desk new s viewers digits asked port granted path same so serves is h port_is spelled as_many = rw so (record {
  answer = subst (λ (p : List ℕ). Answers (option_map code_of (config_refusal c)) (IsListenCode digits p) done) same (listens-ok digits path result x (config_refusal c) is h);
  spelled = λ is_done. spelled;
  serves = λ is_done. subst (λ (p : List ℕ). Serves c (desk_sockets (is_named p) c) [] s) same serves;
  port_is = λ is_done some. port_is some;
  granted = λ is_done. as_many;
  recorded = λ is_done. refl;
  unnamed = λ is_done. refl;
  inputs = λ is_done. refl;
  visits = λ is_done. refl;
  text = λ is_done. refl;
  lost = λ is_done. refl;
  full_requests = λ is_done. refl;
  text_room = λ is_done. refl;
  refused = λ not_done. absurd (not_done refl);
})

-- it does not
pub listens-not : {X : Type 0} (result : Result X ListenError) (e : ListenError) (c : Config) (viewers : ℕ) (digits : List ℕ) (asked : ℕ) (desk : Standing) (code : ℤ) (path : List ℕ) → path ≡ desk.record_path → code ≡ listen_code e → result ≡ Err e → IsRefusedBy path (config_refusal c) result → IfErr result (λ e. e ≡ BadAddress → IsNoAddress digits) → Listens c viewers digits asked desk desk code
listens-not result e c viewers digits asked desk code path same code_is is h bad = rw code_is (record {
  answer = subst (λ (p : List ℕ). Answers (option_map code_of (config_refusal c)) (IsListenCode digits p) (listen_code e)) same (listens-err digits path result e (config_refusal c) is h bad);
  spelled = λ is_done. absurd (never-listens e is_done);
  serves = λ is_done. absurd (never-listens e is_done);
  port_is = λ is_done. absurd (never-listens e is_done);
  granted = λ is_done. absurd (never-listens e is_done);
  recorded = λ is_done. absurd (never-listens e is_done);
  unnamed = λ is_done. absurd (never-listens e is_done);
  inputs = λ is_done. absurd (never-listens e is_done);
  visits = λ is_done. absurd (never-listens e is_done);
  text = λ is_done. absurd (never-listens e is_done);
  lost = λ is_done. absurd (never-listens e is_done);
  full_requests = λ is_done. absurd (never-listens e is_done);
  text_room = λ is_done. absurd (never-listens e is_done);
  refused = λ not_done. refl;
})

-- ---- listening nowhere

pub at-path : {X : Type 0} (path : List ℕ) (result : Result X ListenError) → IfErr result (λ e. (p : List ℕ) → IsOfSystem p e) → IfErr result (IsOfSystem path)
at-path path (Ok x) h = tt
at-path path (Err e) h = h path

never-serves : (e : ListenError) → unbound_code e ≢ done
never-serves (Refused e) = never_done e
never-serves BadAddress = λ same. absurd (cc)
never-serves CannotListen = λ same. absurd (cc)
never-serves CannotRecord = λ same. absurd (cc)

serves-ok : {X : Type 0} (path : List ℕ) (result : Result X ListenError) (x : X) (o : Option ScreenError) → result ≡ Ok x → IsRefusedBy path o result → Answers (option_map code_of o) (IsServeCode path) done
serves-ok path result x None is h = inl (inl refl)
serves-ok path result x (Some e) is h = absurd (cc)

unbound-of-system : (path : List ℕ) (e : ListenError) → IsOfSystem path e → e ≢ BadAddress → IsServeCode path (unbound_code e) ⊎ (unbound_code e ≡ out_of_memory)
unbound-of-system path (Refused e) h later = inr (ap code_of h)
unbound-of-system path BadAddress h later = absurd (later refl)
unbound-of-system path CannotListen h later = inl (inr (inl refl))
unbound-of-system path CannotRecord h later = inl (inr (inr (refl, h)))

serves-err : {X : Type 0} (path : List ℕ) (result : Result X ListenError) (e : ListenError) (o : Option ScreenError) → result ≡ Err e → IsRefusedBy path o result → IfErr result (λ e. e ≢ BadAddress) → Answers (option_map code_of o) (IsServeCode path) (unbound_code e)
serves-err {X = X} path result e None is h later = unbound-of-system path e (subst (λ (r : Result X ListenError). IfErr r (IsOfSystem path)) is h) (subst (λ (r : Result X ListenError). IfErr r (λ e. e ≢ BadAddress)) is later)
serves-err path result e (Some r) is h later = let same : e ≡ Refused r = cc in ap unbound_code same

-- it serves
pub serves-unbound : {X : Type 0} (result : Result X ListenError) (x : X) (c : Config) (desk new : Standing) (s : Serving) (viewers granted : ℕ) (path : List ℕ) → path ≡ desk.record_path
    → new ≡ record { served = Some s; port = 0; viewers = granted; inputs = []; visits = []; text = []; lost = 0; full_requests = 0; text_room = texts_limit; record_path = []; recorded = is_named desk.record_path }
    → Serves c (desk_sockets (is_named path) c) [] s → result ≡ Ok x → IsRefusedBy path (config_refusal c) result → granted ≡ viewers → ServesUnbound c viewers desk new done
serves-unbound result x c desk new s viewers granted path same so serves is h as_many = rw so (record {
  answer = subst (λ (p : List ℕ). Answers (option_map code_of (config_refusal c)) (IsServeCode p) done) same (serves-ok path result x (config_refusal c) is h);
  serves = λ is_done. subst (λ (p : List ℕ). Serves c (desk_sockets (is_named p) c) [] s) same serves;
  others = λ is_done. ap standing as_many;
  refused = λ not_done. absurd (not_done refl);
})
  where
    standing : ℕ → Standing
    standing n = record { served = Some s; port = 0; viewers = n; inputs = []; visits = []; text = []; lost = 0; full_requests = 0; text_room = texts_limit; record_path = []; recorded = is_named desk.record_path }

-- it does not
pub serves-not : {X : Type 0} (result : Result X ListenError) (e : ListenError) (c : Config) (viewers : ℕ) (desk : Standing) (code : ℤ) (path : List ℕ) → path ≡ desk.record_path → code ≡ unbound_code e → result ≡ Err e → IsRefusedBy path (config_refusal c) result → IfErr result (λ e. e ≢ BadAddress) → ServesUnbound c viewers desk desk code
serves-not result e c viewers desk code path same code_is is h later = rw code_is (record {
  answer = subst (λ (p : List ℕ). Answers (option_map code_of (config_refusal c)) (IsServeCode p) (unbound_code e)) same (serves-err path result e (config_refusal c) is h later);
  serves = λ is_done. absurd (never-serves e is_done);
  others = λ is_done. absurd (never-serves e is_done);
  refused = λ not_done. refl;
})

-- ---- turns

nothing : {X : Type 0} (k : ℕ) → take {A = X} k [] ≡ []
nothing zero = refl
nothing (suc k) = refl

-- nothing came
puts-none : {X : Type 0} (most : ℕ) (old new : List X) → new ≡ old → IsPutBehind most old new
puts-none most old new same = ([], same ∙ (sym (append-nil old) ∙ ap (λ l. old ++ l) (sym (nothing (most - length old)))))

done-all : (answer : Result (Unit {0}) LoopError) (P : Type 0) → OnOk answer P → turn_code answer ≡ done → P
done-all (Ok x) P h is_done = h
done-all (Err Network) P h is_done = absurd (cc)
done-all (Err TooManyListeners) P h is_done = absurd (cc)
done-all (Err Clock) P h is_done = absurd (cc)
done-all (Err (Screen e)) P h is_done = absurd (never_done e is_done)

part-few : {X : Type 0} (kept all : List X) → IsPartOf kept all → length kept ≤ length all
part-few [] all h = omega arith
part-few (k ∷ kept) [] h = absurd h
part-few (k ∷ kept) (x ∷ all) (inl h) = let few : length kept ≤ length all = part-few kept all h.1 in omega (few, arith)
part-few (k ∷ kept) (x ∷ all) (inr h) = let few : length (k ∷ kept) ≤ length all = part-few (k ∷ kept) all h in omega (few, arith)

-- of who came and went in a turn the first are put, as many as may wait
first-put : {X : Type 0} (old put came all : List X) → put ≡ old ++ take (1024 - length old) came → came ≡ take 1024 all → put ≡ old ++ take (1024 - length old) all
first-put old put came all is first = is ∙ ap (λ l. old ++ l) (ap (λ l. take (1024 - length old) l) first ∙ take-take (1024 - length old) 1024 all (omega arith))

-- what is missing is counted, as far as that goes: of the inputs that were told those that didn't come, and others for which there was no place; and of those who came and went all beyond 1,024, and others
all-counted : (told came came_lost fit others all visits waited kept_lost lost now : ℕ) → came ≡ fit + others → fit ≤ told → (came_lost < 2 ^ 64 - 1 → came_lost + came ≡ told + (all - 1024)) → visits ≡ min 1024 all
    → kept_lost ≡ min (came_lost + (others + (visits - (1024 - waited)))) (2 ^ 64 - 1) → now ≡ min (lost + kept_lost) (2 ^ 64 - 1) → now < 2 ^ 64 - 1 → now ≡ lost + ((told - fit) + (all - (1024 - waited)))
all-counted told came came_lost fit others all visits waited kept_lost lost now sum part missing first put is few =
    let fine : came_lost < 2 ^ 64 - 1 = omega (put, is, few, arith) in
    omega (sum, part, missing fine, first, put, is, few, arith)

-- what is put takes from the room for texts
texts-kept : (inputs kept put fit : List (ℕ × Input)) (texts now left : ℕ) → kept ≡ inputs → put ≡ kept ++ fit → now ≡ left → texts_size fit + left ≡ texts → texts_size put + now ≡ texts_size inputs + texts
texts-kept inputs kept put fit texts now left same is now_is sum = rw is (rw same (rw now_is (omega (texts-append inputs fit, sum, arith))))

-- what was told of a turn, and what was not, by their inputs
pub inputs-parts : (c : Config) (list more : List Event) (all told rest : List Told) → words_of all ≡ words_after c list more → told ++ rest ≡ all → inputs_told told ++ inputs_told rest ≡ inputs_after c list more
inputs-parts c list more all told rest said parts = sym (inputs-told-both told rest) ∙ ap inputs_told parts ∙ ap inputs_in said

pub none-untold : {X E : Type 0} (answer : Result X E) (rest : List Told) → OnOk answer (rest ≡ []) → OnOk answer (inputs_told rest ≡ [])
none-untold (Ok x) rest none = ap inputs_told none
none-untold (Err e) rest none = tt

pub turns : (desk : Standing) (before : Option Serving) (s t : Serving) (answer : Result (Unit {0}) LoopError) (code : ℤ) (port granted : ℕ) (inputs inputs_kept inputs_put came : List (ℕ × Input)) (visits visits_kept visits_put visits_come : List Visit) (room : ℕ) (text : List ℕ) (lost lost_now came_lost kept_lost full full_now texts texts_now : ℕ) (path : List ℕ) (on : Bool)
    → record { served = before; port = port; viewers = granted; inputs = inputs; visits = visits; text = text; lost = lost; full_requests = full; text_room = texts; record_path = path; recorded = on } ≡ desk → before ≡ Some s → code ≡ turn_code answer
    → ((c : Config) (list : List Event) → Serves c (desk_sockets on c) list s → (more : List Event) × Serves c (desk_sockets on c) (list ++ more) t
    × ((told rest : List (ℕ × Input)) × (told ++ rest ≡ inputs_after c list more) × OnOk answer (rest ≡ []) × IsKept told came visits_come room came_lost))
    → inputs_kept ≡ inputs → visits_kept ≡ visits → inputs_put ≡ inputs_kept ++ (fitting (4096 - length inputs_kept) texts came).0 → kept_lost ≡ min (came_lost + ((fitting (4096 - length inputs_kept) texts came).1 + (length visits_come - (1024 - length visits_kept)))) (2 ^ 64 - 1) → texts_now ≡ (fitting (4096 - length inputs_kept) texts came).2 → visits_put ≡ visits_kept ++ take (1024 - length visits_kept) visits_come
    → lost_now ≡ min (lost + kept_lost) (2 ^ 64 - 1) → lost ≤ lost_now → full ≤ full_now
    → TakesTurn desk (record { served = Some t; port = port; viewers = granted; inputs = inputs_put; visits = visits_put; text = text; lost = lost_now; full_requests = full_now; text_room = texts_now; record_path = path; recorded = on }) code
turns desk before s t answer code port granted inputs inputs_kept inputs_put came visits visits_kept visits_put visits_come room text lost lost_now came_lost kept_lost full full_now texts texts_now path on view is code_is goes inputs_are visits_are inputs_come all_lost texts_are visits_are_put lost_is more more_full =
    let fit = fitting (4096 - length inputs_kept) texts came in
    rw (sym view) (rw is (record {
      answer = (answer, code_is);
      served = λ c list stands.
          let p = goes c list stands in
          let k = p.2 in
          record {
            more = p.0;
            stands = p.1;
            told = k.0;
            rest = k.1;
            inputs = k.2;
            all = λ is_done. done-all answer (k.1 ≡ []) k.3 (sym code_is ∙ is_done);
            kept = fit.0;
            part = part k.0 k.4;
            waiting = inputs_come ∙ ap (λ l. l ++ fit.0) inputs_are;
            visits = k.4.all;
            are = k.4.are;
            put = subst (λ (l : List Visit). visits_put ≡ l ++ take (1024 - length l) k.4.all) visits_are (first-put visits_kept visits_put visits_come k.4.all visits_are_put k.4.first);
            lost = λ few.
                subst (λ (l : List Visit). lost_now ≡ lost + ((length k.0 - length fit.0) + (length k.4.all - (1024 - length l)))) visits_are
                (all-counted (length k.0) (length came) came_lost (length fit.0) fit.1 (length k.4.all) (length visits_come) (length visits_kept) kept_lost lost lost_now
                (fits-count (4096 - length inputs_kept) texts came) (part-few fit.0 k.0 (part k.0 k.4)) k.4.counted (ap (λ (l : List Visit). length l) k.4.first ∙ length-take 1024 k.4.all) all_lost lost_is few);
          };
      inputs = subst (λ (l : List (ℕ × Input)). IsPutBehind 4096 l inputs_put) inputs_are
          (fit.0, inputs_come ∙ ap (λ l. inputs_kept ++ l) (sym (take-few (4096 - length inputs_kept) fit.0 (fits-few (4096 - length inputs_kept) texts came))));
      visits = subst (λ (l : List Visit). IsPutBehind 1024 l visits_put) visits_are (visits_come, visits_are_put);
      lost = more;
      full_requests = more_full;
      texts = texts-kept inputs inputs_kept inputs_put fit.0 texts texts_now fit.2 inputs_are inputs_come texts_are (fits-texts (4096 - length inputs_kept) texts came);
      same = refl;
    }))
  where
    part : (told : List (ℕ × Input)) → IsKept told came visits_come room came_lost → IsPartOf (fitting (4096 - length inputs_kept) texts came).0 told
    part told kept = part-of-part (fitting (4096 - length inputs_kept) texts came).0 came told (fits-part (4096 - length inputs_kept) texts came) kept.part

-- memory is refused before it begins
pub no-turn : (desk : Standing) (before : Option Serving) (s : Serving) (port granted : ℕ) (inputs inputs_kept : List (ℕ × Input)) (visits visits_kept : List Visit) (text : List ℕ) (lost full texts : ℕ) (path : List ℕ) (on : Bool) (code : ℤ)
    → record { served = before; port = port; viewers = granted; inputs = inputs; visits = visits; text = text; lost = lost; full_requests = full; text_room = texts; record_path = path; recorded = on } ≡ desk → before ≡ Some s → code ≡ out_of_memory → inputs_kept ≡ inputs → visits_kept ≡ visits
    → TakesTurn desk (record { served = Some s; port = port; viewers = granted; inputs = inputs_kept; visits = visits_kept; text = text; lost = lost; full_requests = full; text_room = texts; record_path = path; recorded = on }) code
no-turn desk before s port granted inputs inputs_kept visits visits_kept text lost full texts path on code view is code_is inputs_are visits_are =
    rw (sym view) (rw is (rw code_is (record {
      answer = (Err (Screen OutOfMemory), refl);
      served = λ c list stands. record {
        more = [];
        stands = rw (append-nil list) stands;
        told = [];
        rest = [];
        inputs = refl;
        all = λ is_done. refl;
        kept = [];
        part = tt;
        waiting = inputs_are ∙ sym (append-nil inputs);
        visits = [];
        are = tt;
        put = visits_are ∙ (sym (append-nil visits) ∙ ap (λ l. visits ++ l) (sym (nothing (1024 - length visits))));
        lost = λ few. omega arith;
      };
      inputs = puts-none 4096 inputs inputs_kept inputs_are;
      visits = puts-none 1024 visits visits_kept visits_are;
      lost = omega arith;
      full_requests = omega arith;
      texts = ap (λ l. texts_size l + texts) inputs_are;
      same = refl;
    })))

-- a viewer is let go, where one has the number
pub lets_go : (desk : Standing) (before : Option Serving) (s t : Serving) (v : ℕ) (there : Result Bool AllocError) (number code : ℤ) (port granted : ℕ) (inputs : List (ℕ × Input)) (visits : List Visit) (text : List ℕ) (lost full texts : ℕ) (path : List ℕ) (on : Bool)
    → number ≡ code → record { served = before; port = port; viewers = granted; inputs = inputs; visits = visits; text = text; lost = lost; full_requests = full; text_room = texts; record_path = path; recorded = on } ≡ desk → before ≡ Some s → code ≡ closed_code there
    → (there ≡ Ok false → (key : ℕ) → number_at s.slots key ≢ Some v) → GoesOnServing s t
    → LetsGo v desk (record { served = Some t; port = port; viewers = granted; inputs = inputs; visits = visits; text = text; lost = lost; full_requests = full; text_room = texts; record_path = path; recorded = on }) number
lets_go desk before s t v there number code port granted inputs visits text lost full texts path on number_is view is code_is none goes =
    rw (sym view) (rw is (rw number_is (record {
      answer = (there, code_is, none);
      served = λ c list stands. let p = goes (held_where on) c list stands in (p.0, p.1);
      same = refl;
    })))
