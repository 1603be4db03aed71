-- What is held of a group, and the steps of a reader.
use Rattle.std.proofs.Common.{◌≡◌, ℕ, zero, suc, ◌+◌, ◌<◌, ◌≤◌, Bool, true, false, cond, not, ◌==◌, ◌&&◌, List, [], ◌∷◌, ◌++◌, length, take, drop, slice_index, Option, refl, sym, ap, subst, ◌∙◌, arith, append_assoc, append-nil}
use Rattle.std.specs.Prelude.{None, Some, Result}
use Rattle.std.proofs.lemmas.Bool.{ne_eqb}
use Rattle.std.proofs.lemmas.List.{length-append, take-append-drop}
use Rattle.encode_raw.specs.Reading.{◌>>=◌, bytes_at, Shown}
use Rattle.viewer_picture.specs.Messages.{Display, ColourMap, messages_in}
use Rattle.server_reader.specs.declared.fault.ReadFault.{ReadFault}
use Rattle.server_reader.specs.declared.step.Step.{Step}
use Rattle.server_reader.specs.declared.step.Step.TheVariants as step
use Rattle.server_reader.specs.declared.step.Next.{Next}
use Rattle.server_reader.specs.declared.stage.PixelRows.{PixelRows}
use Rattle.server_reader.specs.declared.stage.Size.{Size}
use Rattle.server_reader.specs.declared.stage.Stage.{Stage}
use Rattle.server_reader.specs.declared.stage.Stage.TheVariants as stage
use Rattle.server_reader.specs.declared.stage.State.{State}
use Rattle.server_reader.specs.declared.stage.Turn.{Turn}
use Rattle.server_reader.specs.Groups.{needed}
use Rattle.server_reader.specs.Heard.{is_quiet, HearsAt, Hears}
use Rattle.server_reader.specs.Stages.{display, rest_of, Point, reads, Same}
use Rattle.server_reader.specs.Steps.{state_at, shown_after, colours_after, IsTurn, IsRefused, View, IsView, GoesOn, is_update_end, work_left, IsStep, IsKept, IsNoMessage, IsRead}
use Rattle.server_reader.proofs.ByteLemmas.{text_goes_on}
use Rattle.server_reader.proofs.MessageTurns.{end_turn}

abbrev at_bytes : State → Shown → ColourMap → List ℕ → Point
at_bytes state shown colours bytes = record { state = state; shown = shown; colours = colours; bytes = bytes }

-- ---- turns

-- a stage's rest behind a group is another's
pub turn_by : (size : Size) (at after : Stage) (group : List ℕ) (step : Step)
    → ((shown : Shown) (colours : ColourMap) (later : List ℕ)
    → rest_of at (display size shown colours) (group ++ later) ≡ rest_of after (display size (shown_after step shown) (colours_after step colours)) later)
    → IsTurn (state_at size at) group (record { state = state_at size after; step = step })
turn_by size at after group step rest shown colours later n room = record {
  left = n;
  room = omega (arith, length-append group later, room);
  is = ap (λ (o : Option (Display × List ℕ)). o >>= λ (r : Display × List ℕ). messages_in n r.0 r.1) (rest shown colours later);
}

pub refused_by : (size : Size) (at : Stage) (group : List ℕ)
    → ((shown : Shown) (colours : ColourMap) (later : List ℕ) → rest_of at (display size shown colours) (group ++ later) ≡ None) → IsRefused (state_at size at) group
refused_by size at group none shown colours later n = ap (λ (o : Option (Display × List ℕ)). o >>= λ (r : Display × List ℕ). messages_in n r.0 r.1) (none shown colours later)

-- a turn to a state by its stage
pub as_turn : (before : State) (group : List ℕ) (after state : State) (step : Step) → state ≡ after → IsTurn before group (record { state = after; step = step }) → IsTurn before group (record { state = state; step = step })
as_turn before group after state step is turn = let P : State → Type 0 = λ s. IsTurn before group (record { state = s; step = step }) in subst P (sym is) turn

pub same_turn : (before : State) (group : List ℕ) (turn : Turn) (after : State) (step : Step) → turn.state ≡ after → turn.step ≡ step
    → IsTurn before group (record { state = after; step = step }) → IsTurn before group turn
same_turn before group turn after step is-state is-step here =
    let P : Step → Type 0 = λ done. IsTurn before group (record { state = turn.state; step = done }) in
    subst P (sym is-step) (as_turn before group after turn.state step is-state here)

-- ---- a reader that awaits bytes

pub awaits_text : (text : ℕ) (ends : Bool) → 0 < text → not (text == 0 && ends) ≡ true
awaits_text text ends some = ap (λ (none : Bool). not (none && ends)) (ne_eqb text 0 (λ none. omega (arith, some, none)))

pub awaits_group : (text : ℕ) (ends : Bool) → text ≡ 0 → ends ≡ false → not (text == 0 && ends) ≡ true
awaits_group text ends none inner = ap (λ (t : ℕ). not (t == 0 && ends)) none ∙ ap not inner

-- ---- a reader's steps

abbrev StepsTo : View → List ℕ → Step → View → Type 0
StepsTo before front step after = (shown : Shown) (colours : ColourMap)
    → GoesOn (record { view = before; shown = shown; colours = colours; left = front }) (record { view = after; shown = shown_after step shown; colours = colours_after step colours; left = [] })

turned_here : (before : View) (front : List ℕ) (turn : Turn) → IsTurn before.state (before.held ++ front) turn
    → StepsTo before front turn.step (record { state = turn.state; held = [] })
turned_here before front turn is shown colours later n room =
    let q : Point = at_bytes turn.state (shown_after turn.step shown) (colours_after turn.step colours) later in
    let P : List ℕ → Type 0 = λ bytes. length bytes ≤ n → Same n (at_bytes before.state shown colours bytes) q in
    subst P (append_assoc before.held front later) (is shown colours later n) room

-- what is held and the front of a piece are a group
pub turned : (before after : View) (piece front : List ℕ) (turn : Turn) (next : Next) → piece ≡ front ++ next.rest.now
    → after ≡ record { state = turn.state; held = [] } → next.step ≡ turn.step → Hears before.state.text before.state.stage (before.held ++ front) front next.step
    → IsTurn before.state (before.held ++ front) turn → IsStep before piece next after
turned before after piece front turn next is-piece is-after is-step heard is =
    let Q : View → Type 0 = λ v. StepsTo before front next.step v in
    let R : Step → Type 0 = λ s. StepsTo before front s (record { state = turn.state; held = [] }) in
    record { front = front; is = is-piece; heard = heard; goes = subst Q (sym is-after) (subst R (sym is-step) (turned_here before front turn is)) }

-- what is held, the front of a piece, its rest and what follows
regrouped : (held front rest later : List ℕ) → held ++ ((front ++ rest) ++ later) ≡ (held ++ front) ++ (rest ++ later)
regrouped held front rest later = ap (λ (l : List ℕ). held ++ l) (append_assoc front rest later) ∙ sym (append_assoc held front (rest ++ later))

-- they are a group without a reading
pub refused : (before : View) (piece front rest : List ℕ) → piece ≡ front ++ rest → IsRefused before.state (before.held ++ front) → IsNoMessage before piece
refused before piece front rest is-piece none shown colours later n =
    let P : List ℕ → Type 0 = λ p. reads n (at_bytes before.state shown colours (before.held ++ (p ++ later))) ≡ None in
    let Q : List ℕ → Type 0 = λ bytes. reads n (at_bytes before.state shown colours bytes) ≡ None in
    subst P (sym is-piece) (subst Q (sym (regrouped before.held front rest later)) (none shown colours (rest ++ later) n))

-- they are not yet a group
pub kept : (before after : View) (piece : List ℕ) → after ≡ record { state = before.state; held = before.held ++ piece } → IsKept before piece after
kept before after piece is shown colours later n room =
    let p : Point = at_bytes before.state shown colours (before.held ++ (piece ++ later)) in
    let one : before.held ++ piece ++ later ≡ before.held ++ (piece ++ later) = append_assoc before.held piece later in
    let P : View → Type 0 = λ v. Same n p (at_bytes v.state shown colours (v.held ++ later)) in
    let Q : List ℕ → Type 0 = λ bytes. Same n p (at_bytes before.state shown colours bytes) in
    subst P (sym is) (subst Q (sym one) (record { left = n; room = room; is = refl }))

-- nothing came
pub kept_none : (before : View) (piece : List ℕ) → piece ≡ [] → IsKept before piece before
kept_none before piece none =
    let whole : before.held ++ piece ≡ before.held = ap (λ (p : List ℕ). before.held ++ p) none ∙ append-nil before.held in
    let view : List ℕ → View = λ held. record { state = before.state; held = held } in
    kept before before piece (ap view (sym whole))

-- behind a fault nothing has a reading
pub stopped : (before : View) (piece : List ℕ) → ((d : Display) (bytes : List ℕ) → rest_of before.state.stage d bytes ≡ None) → IsNoMessage before piece
stopped before piece none shown colours later n = by (bytes_at before.state.text (before.held ++ (piece ++ later)))
  where
    by : (o : Option (List ℕ × List ℕ)) → (o >>= λ (t : List ℕ × List ℕ). rest_of before.state.stage (display before.state.size shown colours) t.1 >>= λ (r : Display × List ℕ). messages_in n r.0 r.1) ≡ None
    by None = refl
    by (Some t) = ap (λ (o : Option (Display × List ℕ)). o >>= λ (r : Display × List ℕ). messages_in n r.0 r.1) (none (display before.state.size shown colours) t.1)

pub faulted : (before : View) (piece : List ℕ) (fault : ReadFault) → before.state.stage ≡ stage.Faulted fault → IsNoMessage before piece
faulted before piece fault is = stopped before piece (λ d bytes. ap (λ (a : Stage). rest_of a d bytes) is)

-- ---- texts and rows, which are read where they stand

-- a piece is its front and its rest
pub in_parts : (n : ℕ) (piece front rest : List ℕ) → front ≡ take n piece → rest ≡ drop n piece → piece ≡ front ++ rest
in_parts n piece front rest is-front is-rest = sym (ap (λ (l : List ℕ). l ++ rest) is-front ∙ ap (λ (l : List ℕ). take n piece ++ l) is-rest ∙ take-append-drop n piece)

text_here : (state : State) (text : ℕ) (front : List ℕ) (step : Step) → state.text ≡ length front + text
    → ((shown : Shown) → shown_after step shown ≡ shown) → ((colours : ColourMap) → colours_after step colours ≡ colours)
    → StepsTo (record { state = state; held = [] }) front step (record { state = record state { text = text }; held = [] })
text_here state text front step is same-shown same-colours shown colours later n room =
    let d : Display = display state.size shown colours in
    let f : List ℕ → Option Display = λ bytes. rest_of state.stage d bytes >>= λ (r : Display × List ℕ). messages_in n r.0 r.1 in
    let p : Point = at_bytes state shown colours (front ++ later) in
    let Q : Shown → Type 0 = λ s. Same n p (at_bytes (record state { text = text }) s colours later) in
    let R : ColourMap → Type 0 = λ c. Same n p (at_bytes (record state { text = text }) (shown_after step shown) c later) in
    subst R (sym (same-colours colours)) (subst Q (sym (same-shown shown)) (record {
      left = n;
      room = omega (arith, room, length-append front later);
      is = text_goes_on f state.text text front later is;
    }))

-- bytes of a text
pub text_taken : (before after : View) (piece front : List ℕ) (text : ℕ) (next : Next) → before.held ≡ [] → piece ≡ front ++ next.rest.now → before.state.text ≡ length front + text → Hears before.state.text before.state.stage (before.held ++ front) front next.step
    → after ≡ record { state = record before.state { text = text }; held = [] }
    → ((shown : Shown) → shown_after next.step shown ≡ shown) → ((colours : ColourMap) → colours_after next.step colours ≡ colours) → IsStep before piece next after
text_taken before after piece front text next none is-piece is heard is-after same-shown same-colours =
    let end : View = record { state = record before.state { text = text }; held = [] } in
    let Q : View → Type 0 = λ v. StepsTo before front next.step v in
    let R : List ℕ → Type 0 = λ h. StepsTo (record { state = before.state; held = h }) front next.step end in
    record {
      front = front;
      is = is-piece;
      heard = heard;
      goes = subst Q (sym is-after) (subst R (sym none) (text_here before.state text front next.step is same-shown same-colours));
    }

-- ---- a state by its stage

pub state_is : (s : State) (at : Stage) → s.text ≡ 0 → s.stage ≡ at → s ≡ state_at s.size at
state_is s at none is =
    ap (λ n. let state : State = record s { text = n } in state) none ∙ ap (λ (a : Stage). state_at s.size a) is

-- what is read at a stage is read at a state that has it
pub read_as : (s : State) (at : Stage) (group : List ℕ) (read : Result Turn ReadFault) → s.text ≡ 0 → s.stage ≡ at → IsRead (state_at s.size at) group read → IsRead s group read
read_as s at group read none is here = let P : State → Type 0 = λ state. IsRead state group read in subst P (sym (state_is s at none is)) here

pub read_turn_as : (s : State) (at : Stage) (group : List ℕ) (state after : State) (step : Step) → s.text ≡ 0 → s.stage ≡ at → state ≡ after
    → IsTurn (state_at s.size at) group (record { state = after; step = step }) → IsTurn s group (record { state = state; step = step })
read_turn_as s at group state after step none is same turn =
    let P : State → Type 0 = λ before. IsTurn before group (record { state = state; step = step }) in
    subst P (sym (state_is s at none is)) (as_turn (state_at s.size at) group after state step same turn)

pub refused_as : (s : State) (at : Stage) (group : List ℕ) → s.text ≡ 0 → s.stage ≡ at → IsRefused (state_at s.size at) group → IsRefused s group
refused_as s at group none is refused = let P : State → Type 0 = λ before. IsRefused before group in subst P (sym (state_is s at none is)) refused

-- where no text is to come, a step is its group's
pub hears_group : (text : ℕ) (at stage : Stage) (group front : List ℕ) (done : Step) → text ≡ 0 → stage ≡ at → HearsAt at group done → Hears text stage group front done
hears_group text at stage group front done none is heard =
    let P : ℕ → Type 0 = λ n. Hears n stage group front done in
    let Q : Stage → Type 0 = λ a. HearsAt a group done in
    subst P (sym none) (subst Q (sym is) heard)

pub hears_text : (text : ℕ) (at : Stage) (group front : List ℕ) (done : Step) → 0 < text → ((n : ℕ) → Hears (suc n) at group front done) → Hears text at group front done
hears_text zero at group front done some heard = absurd (omega (arith, some))
hears_text (suc n) at group front done some heard = heard n

-- pixels that are read where they stand
pub rows_taken : (before after : View) (piece front : List ℕ) (rows : PixelRows) (at : Stage) (next : Next) → before.state.text ≡ 0 → before.state.stage ≡ stage.Pixels rows → before.held ≡ [] → is_quiet next.step ≡ true
    → piece ≡ front ++ next.rest.now → after ≡ record { state = state_at before.state.size at; held = [] }
    → ((shown : Shown) (colours : ColourMap) (later : List ℕ)
    → rest_of (stage.Pixels rows) (display before.state.size shown colours) (front ++ later)
    ≡ rest_of at (display before.state.size (shown_after next.step shown) (colours_after next.step colours)) later)
    → IsStep before piece next after
rows_taken before after piece front rows at next none is-stage no-held quiet is-piece is-after goes =
    let turn : Turn = record { state = state_at before.state.size at; step = next.step } in
    let P : State → Type 0 = λ s. IsTurn s (before.held ++ front) turn in
    let Q : List ℕ → Type 0 = λ h. IsTurn (state_at before.state.size (stage.Pixels rows)) (h ++ front) turn in
    turned before after piece front turn next is-piece is-after refl
    (hears_group before.state.text (stage.Pixels rows) before.state.stage (before.held ++ front) front next.step none is-stage quiet)
    (subst P (sym (state_is before.state (stage.Pixels rows) none is-stage)) (subst Q (sym no-held) (turn_by before.state.size (stage.Pixels rows) at front next.step goes)))

-- ---- an update's end

pub update_ends : (at : Stage) → is_update_end at ≡ true → at ≡ stage.UpdateEnd
update_ends stage.Message e = absurd cc
update_ends stage.UpdateEnd e = refl
update_ends (stage.Rectangle behind) e = absurd cc
update_ends (stage.Pixels rows) e = absurd cc
update_ends (stage.Source rectangle) e = absurd cc
update_ends (stage.Rre rectangle) e = absurd cc
update_ends (stage.RreParts parts) e = absurd cc
update_ends (stage.Tile tile) e = absurd cc
update_ends (stage.TileParts parts) e = absurd cc
update_ends (stage.MapEntries entries) e = absurd cc
update_ends (stage.Faulted fault) e = absurd cc

-- it has no bytes
pub none_held : (v : View) → IsView v → is_update_end v.state.stage ≡ true → v.held ≡ []
none_held v is end = by v.held is.short
  where
    by : (held : List ℕ) → (0 < length held → length held < needed v.state.stage (slice_index held 0)) → held ≡ []
    by [] short = refl
    by (b ∷ held) short =
        let few : suc (length held) < needed v.state.stage b = short (omega arith) in
        absurd (let none : needed v.state.stage b ≡ 0 = ap (λ at. needed at b) (update_ends v.state.stage end) in omega (arith, few, none))

pub ended : (before after : View) (piece : List ℕ) (next : Next) → IsView before → before.state.text ≡ 0 → is_update_end before.state.stage ≡ true
    → piece ≡ next.rest.now → next.step ≡ step.UpdateEnd → after ≡ record { state = state_at before.state.size stage.Message; held = [] } → IsStep before piece next after
ended before after piece next is none end all is-step is-after =
    let turn : Turn = record { state = state_at before.state.size stage.Message; step = step.UpdateEnd } in
    let no_held = none_held before is end in
    let group : length (before.held ++ []) ≡ 0 = ap (λ (h : List ℕ). length (h ++ [])) no_held in
    turned before after piece [] turn next all is-after is-step
    (hears_group before.state.text stage.UpdateEnd before.state.stage (before.held ++ []) [] next.step none (update_ends before.state.stage end) is-step)
    (read_turn_as before.state stage.UpdateEnd (before.held ++ []) turn.state turn.state step.UpdateEnd none (update_ends before.state.stage end) refl
    (end_turn before.state.size (before.held ++ []) group))

-- any other stage needs bytes
pub some_needed : (at : Stage) (first : ℕ) → is_update_end at ≡ false → 0 < needed at first
some_needed stage.Message first e = grind arith
some_needed stage.UpdateEnd first e = absurd cc
some_needed (stage.Rectangle behind) first e = omega arith
some_needed (stage.Pixels rows) first e = omega arith
some_needed (stage.Source rectangle) first e = omega arith
some_needed (stage.Rre rectangle) first e = omega arith
some_needed (stage.RreParts parts) first e = omega arith
some_needed (stage.Tile tile) first e = grind arith
some_needed (stage.TileParts parts) first e = grind arith
some_needed (stage.MapEntries entries) first e = omega arith
some_needed (stage.Faulted fault) first e = omega arith

-- a group lacks some, and less is left to do behind it
pub some_missing : (at : Stage) (first held missing : ℕ) → is_update_end at ≡ false → held + missing ≡ needed at first → (0 < held → 0 < missing) → 0 < missing
some_missing at first zero missing e all some = omega (arith, all, some_needed at first e)
some_missing at first (suc held) missing e all some = some (omega arith)

pub less_left : (before after : View) (piece rest : List ℕ) (n : ℕ) → 0 < n → length rest + n ≡ length piece → work_left after rest < work_left before piece
less_left before after piece rest n some all =
    let few = at_most_one (is_update_end after.state.stage) in omega (arith, some, all, few)
  where
    at_most_one : (b : Bool) → cond b 1 0 ≤ 1
    at_most_one true = omega arith
    at_most_one false = omega arith
