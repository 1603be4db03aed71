-- What is read of a record sends each viewer what it was sent.
use Rattle.std.proofs.Common.{◌≡◌, ◌⊎◌, inl, inr, ℕ, zero, suc, ◌<◌, Bool, true, false, cond, List, [], ◌∷◌, ◌++◌, length, take, refl, ◌∙◌, ap, append_assoc, Some, None}
use Rattle.std.specs.Prelude.{flat_map}
use Rattle.screen.specs.declared.Config.{Config}
use Rattle.screen.specs.declared.Event.{Event}
use Rattle.scene.specs.Alone.{One, step, answers_from, owner_of, empty_screen}
use Rattle.scene.specs.Answers.{own, is_owner}
use Rattle.scene.specs.History.{accepted}
use Rattle.receipts.specs.Histories.{bytes_of}
use Rattle.recorder.specs.Events.{session_text}
use Rattle.replay.specs.Sessions.{session_of, sent_in}
use Rattle.replay.specs.Said.{IsRun, said_session}
use Rattle.replay.specs.Claims.{recorded_is_replayed}
use Rattle.replay.proofs.ReadsAccepted.{accepted_sends}
use Rattle.replay.proofs.ReadsAlike.{bytes_said}
use Rattle.replay.proofs.ReadsSessions.{all_read, cut_read}
use Rattle.replay.proofs.ReadsSound.{accepted_sound}

said_sends : (c : Config) (list : List Event) (v : ℕ) → sent_in v (Some (said_session c list)) ≡ bytes_of c v list
said_sends c list v = bytes_said c v list

all_replayed : (c : Config) (list : List Event) (v lines : ℕ) → IsRun c list → length (accepted c list) < lines → sent_in v (session_of lines (session_text c (accepted c list))) ≡ bytes_of c v list
all_replayed c list v lines h l = ap (sent_in v) (all_read c (accepted c list) lines (accepted_sound c list h) l) ∙ said_sends c (accepted c list) v ∙ accepted_sends c v list

-- ---- the first events send a beginning

abbrev sent_from : Config → List Event → One → List ℕ
sent_from c es s = flat_map (λ a. a.bytes) (answers_from c es s)

abbrev Begins : List ℕ → List ℕ → Type 0
Begins front all = (rest : List ℕ) × (front ++ rest ≡ all)

first_sent : (c : Config) (v : ℕ) (es : List Event) (k : ℕ) (s : One) → Begins (sent_from c (own v (take k es)) s) (sent_from c (own v es) s)
first_sent c v es zero s = (sent_from c (own v es) s, refl)
first_sent c v [] (suc k) s = ([], refl)
first_sent c v (e ∷ es) (suc k) s = go (is_owner v (owner_of e)) (first_sent c v es k (step c e s).0) (first_sent c v es k s)
  where
    go : (b : Bool) → Begins (sent_from c (own v (take k es)) (step c e s).0) (sent_from c (own v es) (step c e s).0) → Begins (sent_from c (own v (take k es)) s) (sent_from c (own v es) s)
        → Begins (sent_from c (cond b (e ∷ own v (take k es)) (own v (take k es))) s) (sent_from c (cond b (e ∷ own v es) (own v es)) s)
    go true with_it without = (with_it.0, append_assoc (step c e s).1.bytes (sent_from c (own v (take k es)) (step c e s).0) with_it.0 ∙ ap (λ l. (step c e s).1.bytes ++ l) with_it.1)
    go false with_it without = without

beginning_replayed : (c : Config) (list : List Event) (v lines n : ℕ) → IsRun c list → Begins (sent_in v (session_of lines (take n (session_text c (accepted c list))))) (bytes_of c v list)
beginning_replayed c list v lines n h = go (cut_read c (accepted c list) n lines (accepted_sound c list h))
  where
    go : (session_of lines (take n (session_text c (accepted c list))) ≡ None) ⊎ ((count : ℕ) × (session_of lines (take n (session_text c (accepted c list))) ≡ Some (said_session c (take count (accepted c list)))))
        → Begins (sent_in v (session_of lines (take n (session_text c (accepted c list))))) (bytes_of c v list)
    go (inl e) = (bytes_of c v list, ap (λ s. sent_in v s ++ bytes_of c v list) e)
    go (inr e) =
        let first = first_sent c v (accepted c list) e.0 (empty_screen c) in
        (first.0, ap (λ l. l ++ first.0) (ap (sent_in v) e.1 ∙ said_sends c (take e.0 (accepted c list)) v) ∙ first.1 ∙ accepted_sends c v list)

pub recorded_is_replayed-holds : recorded_is_replayed
recorded_is_replayed-holds = record { all = all_replayed; beginning = beginning_replayed }
