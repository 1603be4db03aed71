-- A viewer whose bytes are redacted is sent what it is sent without that.
use Rattle.std.proofs.Common.{◌≡◌, ℕ, Bool, true, false, cond, List, [], ◌∷◌, ◌++◌, length, drop, map, Option, Some, None, refl, sym, ap, subst, ◌∙◌}
use Rattle.std.specs.Prelude.{flat_map, filter, option_map, unwrap_or}
use Rattle.std.proofs.lemmas.Bool.{eqb-true}
use Rattle.std.proofs.lemmas.List.{length-map, drop-map}
use Rattle.std.proofs.lemmas.List.Sums.{fold-append}
use Rattle.copy_schedule.specs.Marks.{Sent, cut_of}
use Rattle.messages.specs.declared.Item.{Item}
use Rattle.messages.specs.declared.Item.TheVariants as item
use Rattle.messages.specs.declared.Phase.{Phase}
use Rattle.messages.specs.declared.Phase.TheVariants as phase
use Rattle.messages.specs.Grammar.{after as phase_after}
use Rattle.messages.specs.Reading.{Conversation, nothing_heard, hear_byte, hear, heard, new_items, fault_of}
use Rattle.messages.specs.Server.{server_init, answer as greeting, answers as greetings}
use Rattle.viewer.specs.Viewer.{Viewer, is_open_viewer, after_item}
use Rattle.viewer.specs.Hearing.{after_items}
use Rattle.viewer.specs.Sending.{sending, tells_size, with_size, with_update}
use Rattle.scene.specs.declared.ScreenError.{ScreenError}
use Rattle.scene.specs.declared.Config.{Config}
use Rattle.scene.specs.declared.Event.{Event}
use Rattle.scene.specs.declared.Event.TheVariants as event
use Rattle.scene.specs.declared.Answer.{Answer}
use Rattle.scene.specs.Alone.{One, gives, at_size, drawing_refusal, drawn, shown_drawing, heard_answer, draw_step, own_step, hearing, owner_of, step, empty_screen, after, answers_from, alone}
use Rattle.scene.specs.Answers.{own, is_owner, is_drawing, last_of, refused_or_nothing, answer_to, answers_after, picture_of}
use Rattle.receipts.specs.Histories.{bytes_of}
use Rattle.redaction.specs.Redaction.{redacted_from}
use Rattle.redaction.specs.Sessions.{heard_next, conversation_of, redacted_piece, redacted_event, redacted_after, redacted}
use Rattle.redaction.specs.Claims.{but_inputs, redacted_is_answered_alike}
use Rattle.framebuffer.specs.Frame.{Frame}
use Rattle.redaction.proofs.Traces.{redacted_append}
use Rattle.redaction.proofs.Alike.{hidden_item, hidden, after_hidden, hear_hidden, redacted_more}

-- ---- one viewer

abbrev hide : List ℕ → List ℕ
hide bytes = redacted_from nothing_heard bytes

heard_hidden : (bytes : List ℕ) → heard (hide bytes) ≡ hidden (heard bytes)
heard_hidden bytes = hear_hidden nothing_heard bytes

abbrev with_heard : Viewer (List ℕ) → List ℕ → Viewer (List ℕ)
with_heard v bytes = record v { heard = bytes }

abbrev hidden_viewer : Viewer (List ℕ) → Viewer (List ℕ)
hidden_viewer v = with_heard v (hide v.heard)

open_hidden : (v : Viewer (List ℕ)) → is_open_viewer (hidden_viewer v) ≡ is_open_viewer v
open_hidden v = rw (heard_hidden v.heard) refl

-- ---- a piece

items_hidden : (s t : List ℕ) → new_items (hide s) (redacted_from (heard s) t) ≡ map hidden_item (new_items s t)
items_hidden s t =
    ap (λ (n : ℕ). drop n (heard (hide s ++ redacted_from (heard s) t)).items) (ap (λ (h : Conversation). length h.items) (heard_hidden s) ∙ length-map (heard s).items hidden_item)
    ∙ ap (λ (bytes : List ℕ). drop (length (heard s).items) (heard bytes).items) (sym (redacted_more nothing_heard s t))
    ∙ ap (λ (h : Conversation). drop (length (heard s).items) h.items) (heard_hidden (s ++ t))
    ∙ drop-map hidden_item (length (heard s).items) (heard (s ++ t)).items

item_same : (w h : ℕ) (i : Item) (v : Viewer (List ℕ)) → after_item w h (hidden_item i) v ≡ after_item w h i v
item_same w h (item.Version x) v = refl
item_same w h item.Choice v = refl
item_same w h (item.Init s) v = refl
item_same w h (item.Format f) v = refl
item_same w h (item.Encodings e c r) v = refl
item_same w h (item.Request i a) v = refl
item_same w h (item.Input i) v = refl

items_same : (w h : ℕ) (is : List Item) (v : Viewer (List ℕ)) → after_items w h (map hidden_item is) v ≡ after_items w h is v
items_same w h [] v = refl
items_same w h (i ∷ is) v = ap (after_items w h (map hidden_item is)) (item_same w h i v) ∙ items_same w h is (after_item w h i v)

item_with : (w h : ℕ) (i : Item) (v : Viewer (List ℕ)) (bytes : List ℕ) → after_item w h i (with_heard v bytes) ≡ with_heard (after_item w h i v) bytes
item_with w h (item.Version x) v bytes = refl
item_with w h item.Choice v bytes = refl
item_with w h (item.Init s) v bytes = refl
item_with w h (item.Format f) v bytes = refl
item_with w h (item.Encodings e c r) v bytes = refl
item_with w h (item.Request i a) v bytes = refl
item_with w h (item.Input i) v bytes = refl

-- what was heard of a viewer is no matter of its items
items_with : (w h : ℕ) (is : List Item) (v : Viewer (List ℕ)) (bytes : List ℕ) → after_items w h is (with_heard v bytes) ≡ with_heard (after_items w h is v) bytes
items_with w h [] v bytes = refl
items_with w h (i ∷ is) v bytes = ap (after_items w h is) (item_with w h i v bytes) ∙ items_with w h is (after_item w h i v) bytes

answer_same : (init : List ℕ) (p : Phase) (i : Item) → greeting init p (hidden_item i) ≡ greeting init p i
answer_same init p (item.Version v) = refl
answer_same init p item.Choice = refl
answer_same init p (item.Init s) = refl
answer_same init p (item.Format f) = refl
answer_same init p (item.Encodings e c r) = refl
answer_same init p (item.Request i a) = refl
answer_same init phase.Version (item.Input i) = refl
answer_same init (phase.Choice v) (item.Input i) = refl
answer_same init (phase.Init v) (item.Input i) = refl
answer_same init (phase.Open v) (item.Input i) = refl

answers_same : (init : List ℕ) (p : Phase) (is : List Item) → greetings init p (map hidden_item is) ≡ greetings init p is
answers_same init p [] = refl
answers_same init p (i ∷ is) =
    ap (λ (bytes : List ℕ). bytes ++ greetings init (phase_after p (hidden_item i)) (map hidden_item is)) (answer_same init p i)
    ∙ ap (λ (q : Phase). greeting init p i ++ greetings init q (map hidden_item is)) (after_hidden p i)
    ∙ ap (λ (bytes : List ℕ). greeting init p i ++ bytes) (answers_same init (phase_after p i) is)

-- two answers differ at most in their inputs
abbrev AreAlike : Answer → Answer → Type 0
AreAlike a b = but_inputs a ≡ but_inputs b

alike : (a b : Answer) → a.bytes ≡ b.bytes → a.closed ≡ b.closed → a.refused ≡ b.refused → AreAlike a b
alike a b same ends refuses = rw (same, ends, refuses) refl

-- a viewer whose bytes are redacted, and what it is answered
record IsHidden (hid : Viewer (List ℕ) × Answer) (full : Viewer (List ℕ) × Answer) : Type 0 where
  pub viewer : hid.0 ≡ hidden_viewer full.0
  pub answer : AreAlike hid.1 full.1

viewer_hidden : (c : Config) (t : List ℕ) (v : Viewer (List ℕ)) → (hearing c (redacted_from (heard v.heard) t) (hidden_viewer v)).0 ≡ hidden_viewer (hearing c t v).0
viewer_hidden c t v =
    let is : List Item = new_items v.heard t in
    ap (λ (js : List Item). after_items c.width c.height js (with_heard v (hide v.heard ++ redacted_from (heard v.heard) t))) (items_hidden v.heard t)
    ∙ items_same c.width c.height is (with_heard v (hide v.heard ++ redacted_from (heard v.heard) t))
    ∙ items_with c.width c.height is v (hide v.heard ++ redacted_from (heard v.heard) t)
    ∙ ap (with_heard (after_items c.width c.height is v)) (sym (redacted_more nothing_heard v.heard t))
    ∙ sym (ap hidden_viewer (items_with c.width c.height is v (v.heard ++ t)))

piece_hidden : (c : Config) (t : List ℕ) (v : Viewer (List ℕ)) → IsHidden (hearing c (redacted_from (heard v.heard) t) (hidden_viewer v)) (hearing c t v)
piece_hidden c t v = record {
  viewer = viewer_hidden c t v;
  answer =
      alike (hearing c (redacted_from (heard v.heard) t) (hidden_viewer v)).1 (heard_answer c v.heard t)
      (ap (λ (js : List Item). greetings (server_init c.width c.height c.name) (heard (hide v.heard)).phase js) (items_hidden v.heard t)
      ∙ ap (λ (h : Conversation). greetings (server_init c.width c.height c.name) h.phase (map hidden_item (new_items v.heard t))) (heard_hidden v.heard)
      ∙ answers_same (server_init c.width c.height c.name) (heard v.heard).phase (new_items v.heard t))
      (ap (λ (bytes : List ℕ). fault_of (heard bytes).end) (sym (redacted_more nothing_heard v.heard t)) ∙ ap (λ (h : Conversation). fault_of h.end) (heard_hidden (v.heard ++ t)))
      refl;
}

-- ---- a sending step

abbrev sent : Config → List ℕ → Viewer (List ℕ) → Bool → Bool → Option Sent → List ℕ × Viewer (List ℕ)
sent c picture v b tells o = cond b (cond tells (with_size c.width c.height v) (with_update c.width c.height picture v o)) ([], v)

-- the same bytes, and the viewer after it
record IsSent (hid full : List ℕ × Viewer (List ℕ)) : Type 0 where
  pub bytes : hid.0 ≡ full.0
  pub viewer : hid.1 ≡ hidden_viewer full.1

sent_hidden : (c : Config) (picture : List ℕ) (v : Viewer (List ℕ)) (b tells : Bool) (o : Option Sent) → IsSent (sent c picture (hidden_viewer v) b tells o) (sent c picture v b tells o)
sent_hidden c picture v false tells o = record { bytes = refl; viewer = refl }
sent_hidden c picture v true true o = record { bytes = refl; viewer = refl }
sent_hidden c picture v true false None = record { bytes = refl; viewer = refl }
sent_hidden c picture v true false (Some s) = record { bytes = refl; viewer = refl }

sending_hidden : (c : Config) (picture : List ℕ) (v : Viewer (List ℕ))
    → IsSent (sending c.width c.height c.rects_per_update picture (hidden_viewer v)) (sending c.width c.height c.rects_per_update picture v)
sending_hidden c picture v =
    subst (λ (b : Bool). IsSent (sent c picture (hidden_viewer v) b (tells_size c.width c.height v) (cut_of c.rects_per_update v.marks)) (sending c.width c.height c.rects_per_update picture v)) (sym (open_hidden v))
    (sent_hidden c picture v (is_open_viewer v) (tells_size c.width c.height v) (cut_of c.rects_per_update v.marks))

-- ---- a drawing call

shown_hidden : (c : Config) (e : Event) (b : Bool) (v : Viewer (List ℕ)) → shown_drawing c e b (hidden_viewer v) ≡ hidden_viewer (shown_drawing c e b v)
shown_hidden c (event.Write r l) b v = refl
shown_hidden c (event.Paint r l) b v = refl
shown_hidden c (event.Mark rs) b v = refl
shown_hidden c (event.ScheduleCopy rs dx dy) b v = refl
shown_hidden c (event.DoCopy rs dx dy) b v = refl
shown_hidden c event.Bell b v = refl
shown_hidden c (event.CutText t) b v = refl
shown_hidden c (event.Resize w h) b v = refl
shown_hidden c (event.Connect n) b v = refl
shown_hidden c (event.Hear n p) b v = refl
shown_hidden c (event.Cut n) b v = refl
shown_hidden c (event.Close n) b v = refl

-- a drawing call leaves what was heard
shown_heard : (c : Config) (e : Event) (b : Bool) (v : Viewer (List ℕ)) → (shown_drawing c e b v).heard ≡ v.heard
shown_heard c (event.Write r l) b v = refl
shown_heard c (event.Paint r l) b v = refl
shown_heard c (event.Mark rs) b v = refl
shown_heard c (event.ScheduleCopy rs dx dy) b v = refl
shown_heard c (event.DoCopy rs dx dy) b v = refl
shown_heard c event.Bell b v = refl
shown_heard c (event.CutText t) b v = refl
shown_heard c (event.Resize w h) b v = refl
shown_heard c (event.Connect n) b v = refl
shown_heard c (event.Hear n p) b v = refl
shown_heard c (event.Cut n) b v = refl
shown_heard c (event.Close n) b v = refl

-- ---- a step

abbrev with_viewer : One → Option (Viewer (List ℕ)) → One
with_viewer s o = record s { viewer = o }

abbrev hidden_one : One → One
hidden_one s = with_viewer s (option_map hidden_viewer s.viewer)

abbrev heard_in : Option (Viewer (List ℕ)) → Option Conversation
heard_in o = option_map (λ v. heard v.heard) o

-- a step of the one viewer whose bytes are redacted
record IsStep (hid full : One × Answer) : Type 0 where
  pub after : hid.0 ≡ hidden_one full.0
  pub answer : AreAlike hid.1 full.1

drawn_hidden : (c : Config) (e : Event) (s : One) (o : Option ScreenError) → IsStep (draw_step c e (hidden_one s) o) (draw_step c e s o)
drawn_hidden c e s (Some refusal) = record { after = refl; answer = refl }
drawn_hidden c e s None = record { after = ap (λ (o : Option (Viewer (List ℕ))). let one : One = record { picture = drawn e s.picture; viewer = o } in one) (go s.viewer); answer = refl }
  where
    go : (o : Option (Viewer (List ℕ))) → option_map (λ v. shown_drawing c e (is_open_viewer v) v) (option_map hidden_viewer o) ≡ option_map hidden_viewer (option_map (λ v. shown_drawing c e (is_open_viewer v) v) o)
    go None = refl
    go (Some v) = ap (λ (b : Bool). Some (shown_drawing c e b (hidden_viewer v))) (open_hidden v) ∙ ap (λ (u : Viewer (List ℕ)). Some u) (shown_hidden c e (is_open_viewer v) v)

-- an event of the viewer's own, by what was heard of it
abbrev redacted_by : Option Conversation → Event → Event
redacted_by o (event.Hear n piece) = event.Hear n (redacted_piece o piece)
redacted_by o e = e

own_hidden : (c : Config) (e : Event) (s : One) (o : Option (Viewer (List ℕ))) → IsStep (own_step c (redacted_by (heard_in o) e) (hidden_one s) (option_map hidden_viewer o)) (own_step c e s o)
own_hidden c (event.Connect n) s None = record { after = refl; answer = refl }
own_hidden c (event.Connect n) s (Some v) = record { after = refl; answer = refl }
own_hidden c (event.Hear n piece) s None = record { after = refl; answer = refl }
own_hidden c (event.Hear n piece) s (Some v) = let h = piece_hidden c piece v in record { after = ap (λ (u : Viewer (List ℕ)). with_viewer s (Some u)) h.viewer; answer = h.answer }
own_hidden c (event.Cut n) s None = record { after = refl; answer = refl }
own_hidden c (event.Cut n) s (Some v) =
    let h = sending_hidden c s.picture.colours v in record { after = ap (λ (u : Viewer (List ℕ)). with_viewer s (Some u)) h.viewer; answer = ap (λ (bytes : List ℕ). gives bytes) h.bytes }
own_hidden c (event.Close n) s None = record { after = refl; answer = refl }
own_hidden c (event.Close n) s (Some v) = record { after = refl; answer = refl }
own_hidden c (event.Write r l) s o = record { after = refl; answer = refl }
own_hidden c (event.Paint r l) s o = record { after = refl; answer = refl }
own_hidden c (event.Mark rs) s o = record { after = refl; answer = refl }
own_hidden c (event.ScheduleCopy rs dx dy) s o = record { after = refl; answer = refl }
own_hidden c (event.DoCopy rs dx dy) s o = record { after = refl; answer = refl }
own_hidden c event.Bell s o = record { after = refl; answer = refl }
own_hidden c (event.CutText t) s o = record { after = refl; answer = refl }
own_hidden c (event.Resize w h) s o = record { after = refl; answer = refl }

-- ---- what was heard of the viewer, which the events tell

step_hidden : (c : Config) (v : ℕ) (before : List Event) (e : Event) (s : One) → conversation_of v before ≡ heard_in s.viewer → is_owner v (owner_of e) ≡ true
    → IsStep (step c (redacted_event before e) (hidden_one s)) (step c e s)
step_hidden c v before (event.Write r l) s t h = drawn_hidden (at_size s.picture c) (event.Write r l) s (drawing_refusal (at_size s.picture c) (event.Write r l))
step_hidden c v before (event.Paint r l) s t h = drawn_hidden (at_size s.picture c) (event.Paint r l) s (drawing_refusal (at_size s.picture c) (event.Paint r l))
step_hidden c v before (event.Mark rs) s t h = drawn_hidden (at_size s.picture c) (event.Mark rs) s None
step_hidden c v before (event.ScheduleCopy rs dx dy) s t h = drawn_hidden (at_size s.picture c) (event.ScheduleCopy rs dx dy) s None
step_hidden c v before (event.DoCopy rs dx dy) s t h = drawn_hidden (at_size s.picture c) (event.DoCopy rs dx dy) s None
step_hidden c v before event.Bell s t h = drawn_hidden (at_size s.picture c) event.Bell s None
step_hidden c v before (event.CutText x) s t h = drawn_hidden (at_size s.picture c) (event.CutText x) s (drawing_refusal (at_size s.picture c) (event.CutText x))
step_hidden c v before (event.Resize w k) s t h = drawn_hidden (at_size s.picture c) (event.Resize w k) s (drawing_refusal (at_size s.picture c) (event.Resize w k))
step_hidden c v before (event.Connect n) s t h = own_hidden (at_size s.picture c) (event.Connect n) s s.viewer
step_hidden c v before (event.Hear n piece) s t h =
    subst (λ (o : Option Conversation). IsStep (step c (event.Hear n (redacted_piece o piece)) (hidden_one s)) (step c (event.Hear n piece) s)) (sym (ap (λ (k : ℕ). conversation_of k before) (eqb-true n v h) ∙ t))
    (own_hidden (at_size s.picture c) (event.Hear n piece) s s.viewer)
step_hidden c v before (event.Cut n) s t h = own_hidden (at_size s.picture c) (event.Cut n) s s.viewer
step_hidden c v before (event.Close n) s t h = own_hidden (at_size s.picture c) (event.Close n) s s.viewer

drawn_heard : (c : Config) (e : Event) (s : One) (o : Option ScreenError) → heard_in s.viewer ≡ heard_in (draw_step c e s o).0.viewer
drawn_heard c e s (Some refusal) = refl
drawn_heard c e s None = go s.viewer
  where
    go : (o : Option (Viewer (List ℕ))) → heard_in o ≡ heard_in (option_map (λ v. shown_drawing c e (is_open_viewer v) v) o)
    go None = refl
    go (Some v) = ap (λ (bytes : List ℕ). Some (heard bytes)) (sym (shown_heard c e (is_open_viewer v) v))

sent_heard : (c : Config) (picture : List ℕ) (v : Viewer (List ℕ)) (b tells : Bool) (o : Option Sent) → v.heard ≡ (sent c picture v b tells o).1.heard
sent_heard c picture v false tells o = refl
sent_heard c picture v true true o = refl
sent_heard c picture v true false None = refl
sent_heard c picture v true false (Some s) = refl

-- of an event of the viewer's own
connected_heard : (c : Config) (n : ℕ) (s : One) (o : Option (Viewer (List ℕ))) → s.viewer ≡ o → Some (unwrap_or (heard_in o) nothing_heard) ≡ heard_in (own_step c (event.Connect n) s o).0.viewer
connected_heard c n s None is = refl
connected_heard c n s (Some v) is = ap heard_in (sym is)

piece_heard : (c : Config) (n : ℕ) (piece : List ℕ) (s : One) (o : Option (Viewer (List ℕ))) → s.viewer ≡ o → option_map (λ h. hear h piece) (heard_in o) ≡ heard_in (own_step c (event.Hear n piece) s o).0.viewer
piece_heard c n piece s None is = ap heard_in (sym is)
piece_heard c n piece s (Some v) is =
    ap (λ (h : Conversation). Some h) (sym (fold-append hear_byte nothing_heard v.heard piece))
    ∙ ap (λ (u : Viewer (List ℕ)). Some (heard u.heard)) (sym (items_with c.width c.height (new_items v.heard piece) v (v.heard ++ piece)))

cut_heard : (c : Config) (n : ℕ) (s : One) (o : Option (Viewer (List ℕ))) → s.viewer ≡ o → heard_in o ≡ heard_in (own_step c (event.Cut n) s o).0.viewer
cut_heard c n s None is = ap heard_in (sym is)
cut_heard c n s (Some v) is =
    ap (λ (bytes : List ℕ). Some (heard bytes)) (sent_heard c s.picture.colours v (is_open_viewer v) (tells_size c.width c.height v) (cut_of c.rects_per_update v.marks))

closed_heard : (c : Config) (n : ℕ) (s : One) (o : Option (Viewer (List ℕ))) → s.viewer ≡ o → heard_in None ≡ heard_in (own_step c (event.Close n) s o).0.viewer
closed_heard c n s None is = ap heard_in (sym is)
closed_heard c n s (Some v) is = refl

step_heard : (c : Config) (v : ℕ) (e : Event) (s : One) → is_owner v (owner_of e) ≡ true → heard_next v (heard_in s.viewer) e ≡ heard_in (step c e s).0.viewer
step_heard c v (event.Write r l) s h = drawn_heard (at_size s.picture c) (event.Write r l) s (drawing_refusal (at_size s.picture c) (event.Write r l))
step_heard c v (event.Paint r l) s h = drawn_heard (at_size s.picture c) (event.Paint r l) s (drawing_refusal (at_size s.picture c) (event.Paint r l))
step_heard c v (event.Mark rs) s h = drawn_heard (at_size s.picture c) (event.Mark rs) s None
step_heard c v (event.ScheduleCopy rs dx dy) s h = drawn_heard (at_size s.picture c) (event.ScheduleCopy rs dx dy) s None
step_heard c v (event.DoCopy rs dx dy) s h = drawn_heard (at_size s.picture c) (event.DoCopy rs dx dy) s None
step_heard c v event.Bell s h = drawn_heard (at_size s.picture c) event.Bell s None
step_heard c v (event.CutText x) s h = drawn_heard (at_size s.picture c) (event.CutText x) s (drawing_refusal (at_size s.picture c) (event.CutText x))
step_heard c v (event.Resize w k) s h = drawn_heard (at_size s.picture c) (event.Resize w k) s (drawing_refusal (at_size s.picture c) (event.Resize w k))
step_heard c v (event.Connect n) s h = rw h (connected_heard (at_size s.picture c) n s s.viewer refl)
step_heard c v (event.Hear n piece) s h = rw h (piece_heard (at_size s.picture c) n piece s s.viewer refl)
step_heard c v (event.Cut n) s h = cut_heard (at_size s.picture c) n s s.viewer refl
step_heard c v (event.Close n) s h = rw h (closed_heard (at_size s.picture c) n s s.viewer refl)

-- of another's
other_heard : (v : ℕ) (e : Event) (o : Option Conversation) → is_owner v (owner_of e) ≡ false → heard_next v o e ≡ o
other_heard v (event.Write r l) o h = refl
other_heard v (event.Paint r l) o h = refl
other_heard v (event.Mark rs) o h = refl
other_heard v (event.ScheduleCopy rs dx dy) o h = refl
other_heard v (event.DoCopy rs dx dy) o h = refl
other_heard v event.Bell o h = refl
other_heard v (event.CutText x) o h = refl
other_heard v (event.Resize w k) o h = refl
other_heard v (event.Connect n) o h = rw h refl
other_heard v (event.Hear n piece) o h = rw h refl
other_heard v (event.Cut n) o h = refl
other_heard v (event.Close n) o h = rw h refl

-- ---- lists

owner_redacted : (before : List Event) (e : Event) → owner_of (redacted_event before e) ≡ owner_of e
owner_redacted before (event.Write r l) = refl
owner_redacted before (event.Paint r l) = refl
owner_redacted before (event.Mark rs) = refl
owner_redacted before (event.ScheduleCopy rs dx dy) = refl
owner_redacted before (event.DoCopy rs dx dy) = refl
owner_redacted before event.Bell = refl
owner_redacted before (event.CutText x) = refl
owner_redacted before (event.Resize w h) = refl
owner_redacted before (event.Connect n) = refl
owner_redacted before (event.Hear n piece) = refl
owner_redacted before (event.Cut n) = refl
owner_redacted before (event.Close n) = refl

-- what events are answered, but for inputs
abbrev answered_from : Config → List Event → One → List Answer
answered_from c es s = map but_inputs (answers_from c es s)

-- events of a viewer whose bytes are redacted
abbrev AreAnsweredAlike : Config → ℕ → List Event → Type 0
AreAnsweredAlike c v es =
    (before : List Event) (s : One) → conversation_of v before ≡ heard_in s.viewer → answered_from c (own v (redacted_after before es)) (hidden_one s) ≡ answered_from c (own v es) s

one_more : (c : Config) (v : ℕ) (e : Event) (es : List Event) → AreAnsweredAlike c v es → AreAnsweredAlike c v (e ∷ es)
one_more c v e es behind before s t =
    ap (λ (o : Option ℕ). answered_from c (cond (is_owner v o) (redacted_event before e ∷ rest) rest) (hidden_one s)) (owner_redacted before e) ∙ go (is_owner v (owner_of e)) refl
  where
    rest : List Event
    rest = own v (redacted_after (before ++ e ∷ []) es)

    told : conversation_of v (before ++ e ∷ []) ≡ heard_next v (heard_in s.viewer) e
    told = fold-append (heard_next v) None before (e ∷ []) ∙ ap (λ (o : Option Conversation). heard_next v o e) t

    go : (b : Bool) → is_owner v (owner_of e) ≡ b → answered_from c (cond b (redacted_event before e ∷ rest) rest) (hidden_one s) ≡ answered_from c (cond b (e ∷ own v es) (own v es)) s
    go true h =
        let one : IsStep (step c (redacted_event before e) (hidden_one s)) (step c e s) = step_hidden c v before e s t h in
        ap (λ (a : Answer). a ∷ answered_from c rest (step c (redacted_event before e) (hidden_one s)).0) one.answer
        ∙ ap (λ (next : One). but_inputs (step c e s).1 ∷ answered_from c rest next) one.after
        ∙ ap (λ (l : List Answer). but_inputs (step c e s).1 ∷ l) (behind (before ++ e ∷ []) (step c e s).0 (told ∙ step_heard c v e s h))
    go false h = behind (before ++ e ∷ []) s (told ∙ other_heard v e (heard_in s.viewer) h)

answered_alike : (c : Config) (v : ℕ) (es : List Event) → AreAnsweredAlike c v es
answered_alike c v [] = λ before s t. refl
answered_alike c v (e ∷ es) = one_more c v e es (answered_alike c v es)

alone_alike : (c : Config) (v : ℕ) (es : List Event) → map but_inputs (alone c (own v (redacted es))) ≡ map but_inputs (alone c (own v es))
alone_alike c v es = answered_alike c v es [] (empty_screen c) refl

bytes_stay : (l : List Answer) → flat_map (λ (a : Answer). a.bytes) l ≡ flat_map (λ (a : Answer). a.bytes) (map but_inputs l)
bytes_stay [] = refl
bytes_stay (a ∷ l) = ap (λ (bytes : List ℕ). a.bytes ++ bytes) (bytes_stay l)

bytes_redacted : (c : Config) (v : ℕ) (es : List Event) → bytes_of c v (redacted es) ≡ bytes_of c v es
bytes_redacted c v es =
    bytes_stay (alone c (own v (redacted es))) ∙ ap (flat_map (λ (a : Answer). a.bytes)) (alone_alike c v es) ∙ sym (bytes_stay (alone c (own v es)))

drawings_same : (es before : List Event) → filter (λ e. is_drawing (owner_of e)) (redacted_after before es) ≡ filter (λ e. is_drawing (owner_of e)) es
drawings_same [] before = refl
drawings_same (event.Write r l ∷ es) before = ap (λ (more : List Event). event.Write r l ∷ more) (drawings_same es (before ++ event.Write r l ∷ []))
drawings_same (event.Paint r l ∷ es) before = ap (λ (more : List Event). event.Paint r l ∷ more) (drawings_same es (before ++ event.Paint r l ∷ []))
drawings_same (event.Mark rs ∷ es) before = ap (λ (l : List Event). event.Mark rs ∷ l) (drawings_same es (before ++ event.Mark rs ∷ []))
drawings_same (event.ScheduleCopy rs dx dy ∷ es) before = ap (λ (l : List Event). event.ScheduleCopy rs dx dy ∷ l) (drawings_same es (before ++ event.ScheduleCopy rs dx dy ∷ []))
drawings_same (event.DoCopy rs dx dy ∷ es) before = ap (λ (l : List Event). event.DoCopy rs dx dy ∷ l) (drawings_same es (before ++ event.DoCopy rs dx dy ∷ []))
drawings_same (event.Bell ∷ es) before = ap (λ (l : List Event). event.Bell ∷ l) (drawings_same es (before ++ event.Bell ∷ []))
drawings_same (event.CutText x ∷ es) before = ap (λ (l : List Event). event.CutText x ∷ l) (drawings_same es (before ++ event.CutText x ∷ []))
drawings_same (event.Resize w h ∷ es) before = ap (λ (l : List Event). event.Resize w h ∷ l) (drawings_same es (before ++ event.Resize w h ∷ []))
drawings_same (event.Connect n ∷ es) before = drawings_same es (before ++ event.Connect n ∷ [])
drawings_same (event.Hear n piece ∷ es) before = drawings_same es (before ++ event.Hear n piece ∷ [])
drawings_same (event.Cut n ∷ es) before = drawings_same es (before ++ event.Cut n ∷ [])
drawings_same (event.Close n ∷ es) before = drawings_same es (before ++ event.Close n ∷ [])

picture_redacted : (c : Config) (es : List Event) → picture_of c (redacted es) ≡ picture_of c es
picture_redacted c es = ap (λ (l : List Event). (after c l (empty_screen c)).picture) (drawings_same es [])

-- ---- all answers

last_stays : (l : List Answer) → but_inputs (last_of l) ≡ last_of (map but_inputs l)
last_stays [] = refl
last_stays (a ∷ []) = refl
last_stays (a ∷ b ∷ l) = last_stays (b ∷ l)

-- an event of a viewer
own_alike : (c : Config) (n : ℕ) (before : List Event) (e : Event) → AreAlike (last_of (alone c (own n (redacted before ++ redacted_event before e ∷ [])))) (last_of (alone c (own n (before ++ e ∷ []))))
own_alike c n before e =
    ap (λ (l : List Event). but_inputs (last_of (alone c (own n l)))) (sym (redacted_append before [] (e ∷ [])))
    ∙ last_stays (alone c (own n (redacted (before ++ e ∷ []))))
    ∙ ap last_of (alone_alike c n (before ++ e ∷ []))
    ∙ sym (last_stays (alone c (own n (before ++ e ∷ []))))

-- a drawing call
drawing_alike : (c : Config) (before : List Event) (e : Event)
    → AreAlike (refused_or_nothing (drawing_refusal (at_size (picture_of c (redacted before)) c) e)) (refused_or_nothing (drawing_refusal (at_size (picture_of c before) c) e))
drawing_alike c before e = ap (λ (f : Frame). but_inputs (refused_or_nothing (drawing_refusal (at_size f c) e))) (picture_redacted c before)

answer_alike : (c : Config) (before : List Event) (e : Event) → AreAlike (answer_to c (redacted before) (redacted_event before e)) (answer_to c before e)
answer_alike c before (event.Write r l) = drawing_alike c before (event.Write r l)
answer_alike c before (event.Paint r l) = drawing_alike c before (event.Paint r l)
answer_alike c before (event.Mark rs) = refl
answer_alike c before (event.ScheduleCopy rs dx dy) = refl
answer_alike c before (event.DoCopy rs dx dy) = refl
answer_alike c before event.Bell = refl
answer_alike c before (event.CutText x) = refl
answer_alike c before (event.Resize w h) = refl
answer_alike c before (event.Connect n) = own_alike c n before (event.Connect n)
answer_alike c before (event.Hear n piece) = own_alike c n before (event.Hear n piece)
answer_alike c before (event.Cut n) = own_alike c n before (event.Cut n)
answer_alike c before (event.Close n) = own_alike c n before (event.Close n)

answers_alike : (c : Config) (es before : List Event) → map but_inputs (answers_after c (redacted before) (redacted_after before es)) ≡ map but_inputs (answers_after c before es)
answers_alike c [] before = refl
answers_alike c (e ∷ es) before =
    ap (λ (a : Answer). a ∷ map but_inputs (answers_after c (redacted before ++ redacted_event before e ∷ []) (redacted_after (before ++ e ∷ []) es))) (answer_alike c before e)
    ∙ ap (λ (l : List Event). but_inputs (answer_to c before e) ∷ map but_inputs (answers_after c l (redacted_after (before ++ e ∷ []) es))) (sym (redacted_append before [] (e ∷ [])))
    ∙ ap (λ (l : List Answer). but_inputs (answer_to c before e) ∷ l) (answers_alike c es (before ++ e ∷ []))

pub redacted_is_answered_alike-holds : redacted_is_answered_alike
redacted_is_answered_alike-holds = record { answers = λ c es. answers_alike c es []; bytes = bytes_redacted; picture = picture_redacted }
