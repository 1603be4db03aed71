-- The laws of the reading.
use Rattle.std.proofs.Common.{◌≡◌, ℕ, zero, suc, ◌+◌, ◌-◌, Bool, true, false, cond, List, [], ◌++◌, length, Option, None, Some, refl, sym, ap, ◌∙◌, arith, append-nil}
use Rattle.std.proofs.lemmas.Bool.{and_parts, eqb-true}
use Rattle.std.proofs.lemmas.List.{nil_from_length}
use Rattle.encode_raw.specs.Reading.{◌>>=◌, bytes_at, Dot, Shown, is_inside}
use Rattle.viewer_picture.specs.Messages.{Display, ColourMap, messages_in, messages_at}
use Rattle.server_reader.specs.declared.step.Step.TheVariants as step
use Rattle.server_reader.specs.declared.stage.Size.{Size}
use Rattle.server_reader.specs.declared.stage.Stage.{Stage}
use Rattle.server_reader.specs.declared.stage.Stage.TheVariants as stage
use Rattle.server_reader.specs.Stages.{display, rest_of}
use Rattle.server_reader.specs.Steps.{View, shown_after, colours_after, ReadingPoint, GoesOn, HasNoReading, is_message, is_between}
use Rattle.server_reader.specs.Readings.{start, ReadsAsTheRfc}
use Rattle.server_reader.specs.ReadingPointLemmas.{goes_on_itself, goes_on_through, goes_on_with}
use Rattle.server_reader.proofs.EndLemmas.{some_reading}
use Rattle.server_reader.specs.Pictures.{HasColour, drawn_agrees}

-- ---- what is shown

record IsBetween (s : ReadingPoint) : Type 0 where
  pub held : length s.view.held ≡ 0
  pub text : s.view.state.text ≡ 0
  pub stage : is_message s.view.state.stage ≡ true

between : (s : ReadingPoint) → is_between s.view ≡ true → IsBetween s
between s e =
    let parts = and_parts _ _ e in
    let first = and_parts _ _ parts.0 in
    record { held = eqb-true _ _ first.0; text = eqb-true _ _ first.1; stage = parts.1 }

-- between messages, without further bytes, a reading is what is shown
ends : (n : ℕ) (d : Display) → messages_in n d [] ≡ Some d
unfolding messages_in
ends zero d = refl
ends (suc n) d = refl

message_rest : (at : Stage) (d : Display) → is_message at ≡ true → rest_of at d [] ≡ Some (d, [])
message_rest stage.Message d e = refl
message_rest stage.UpdateEnd d e = absurd cc
message_rest (stage.Rectangle behind) d e = absurd cc
message_rest (stage.Pixels rows) d e = absurd cc
message_rest (stage.Source rectangle) d e = absurd cc
message_rest (stage.Rre rectangle) d e = absurd cc
message_rest (stage.RreParts parts) d e = absurd cc
message_rest (stage.Tile tile) d e = absurd cc
message_rest (stage.TileParts parts) d e = absurd cc
message_rest (stage.MapEntries entries) d e = absurd cc
message_rest (stage.Faulted fault) d e = absurd cc

-- what is read behind a text of so many bytes
behind_text : (n : ℕ) (at : Stage) (d : Display) (text : ℕ) (bytes : List ℕ) → Option Display
behind_text n at d text bytes = bytes_at text bytes >>= λ t. rest_of at d t.1 >>= λ r. messages_in n r.0 r.1

nothing_left : (n : ℕ) (at : Stage) (d : Display) (text : ℕ) (bytes : List ℕ) → text ≡ 0 → bytes ≡ [] → is_message at ≡ true → behind_text n at d text bytes ≡ Some d
unfolding behind_text
nothing_left n at d text bytes none ended is =
    ap (λ (m : ℕ). behind_text n at d m bytes) none
    ∙ ap (λ (b : List ℕ). behind_text n at d 0 b) ended
    ∙ ap (λ (o : Option (Display × List ℕ)). o >>= λ r. messages_in n r.0 r.1) (message_rest at d is)
    ∙ ends n d

shows_pictures : (size : Size) (shown : Shown) (colours : ColourMap) (bytes : List ℕ) (s : ReadingPoint) → GoesOn (start size shown colours bytes) s → is_between s.view ≡ true → s.left ≡ []
    → messages_at (display size shown colours) bytes ≡ Some (display s.view.state.size s.shown s.colours)
unfolding behind_text
shows_pictures size first colours bytes s goes whole none =
    let at = between s whole in
    let all : bytes ++ [] ≡ bytes = append-nil bytes in
    let same = goes [] (length bytes) (let e : length (bytes ++ []) ≡ length bytes = ap length all in omega (arith, e)) in
    let ended : s.view.held ++ (s.left ++ []) ≡ [] =
    ap (λ (h : List ℕ). h ++ (s.left ++ [])) (nil_from_length s.view.held at.held) ∙ ap (λ (l : List ℕ). l ++ []) none in
    ap (messages_in (length bytes) (display size first colours)) (sym all)
    ∙ same.is
    ∙ nothing_left same.left s.view.state.stage (display s.view.state.size s.shown s.colours) s.view.state.text (s.view.held ++ (s.left ++ [])) at.text ended at.stage

no_reading : (size : Size) (shown : Shown) (colours : ColourMap) (bytes : List ℕ) (s : ReadingPoint) → GoesOn (start size shown colours bytes) s → HasNoReading s
    → (later : List ℕ) → messages_at (display size shown colours) (bytes ++ later) ≡ None
no_reading size first colours bytes s goes none later =
    let same = goes later (length (bytes ++ later)) (omega arith) in same.is ∙ none later same.left

-- where a reader is, with so many bytes left of a piece
abbrev reading_point : View → Shown → ColourMap → List ℕ → ReadingPoint
reading_point view shown colours left = record { view = view; shown = shown; colours = colours; left = left }

pub reads_as_the_rfc : ReadsAsTheRfc
reads_as_the_rfc = record {
  begins = λ size shown colours. goes_on_itself (start size shown colours []);
  step = λ r bytes piece next after read s.
      goes_on_through (start r.size r.first r.map (bytes ++ s.front)) (reading_point r.view r.shown r.colours s.front) (reading_point after (shown_after next.step r.shown) (colours_after next.step r.colours) [])
      (goes_on_with (start r.size r.first r.map bytes) (reading_point r.view r.shown r.colours []) s.front read) (s.goes r.shown r.colours);
  kept = λ r bytes piece after read k.
      goes_on_through (start r.size r.first r.map (bytes ++ piece)) (reading_point r.view r.shown r.colours piece) (reading_point after r.shown r.colours [])
      (goes_on_with (start r.size r.first r.map bytes) (reading_point r.view r.shown r.colours []) piece read) (k r.shown r.colours);
  shows = λ r bytes read whole. shows_pictures r.size r.first r.map bytes (reading_point r.view r.shown r.colours []) read whole refl;
  refuses = λ r bytes piece read none.
      no_reading r.size r.first r.map (bytes ++ piece) (reading_point r.view r.shown r.colours piece)
      (goes_on_with (start r.size r.first r.map bytes) (reading_point r.view r.shown r.colours []) piece read) (none r.shown r.colours);
  refuses_at_once = λ r bytes read is held sound. some_reading r.size r.first r.map bytes (reading_point r.view r.shown r.colours []) read is held refl sound;
}

-- ---- pictures

chosen : (b : Bool) (dot other : Option Dot) (c d : ℕ) → HasColour dot c → HasColour other d → HasColour (cond b dot other) (cond b c d)
chosen true dot other c d here there = here
chosen false dot other c d here there = there

pub drawn_right : drawn_agrees
drawn_right (step.Pixels a bytes) picture shown agrees x y = chosen (is_inside a x y) _ (shown x y) _ (picture x y) refl (agrees x y)
drawn_right (step.Fill a pixel) picture shown agrees x y = chosen (is_inside a x y) _ (shown x y) _ (picture x y) refl (agrees x y)
drawn_right (step.Copy a from_x from_y) picture shown agrees x y =
    chosen (is_inside a x y) (shown (x - a.x + from_x) (y - a.y + from_y)) (shown x y) (picture (x - a.x + from_x) (y - a.y + from_y)) (picture x y)
    (agrees (x - a.x + from_x) (y - a.y + from_y)) (agrees x y)
drawn_right (step.Size width height) picture shown agrees x y = tt
drawn_right step.Head picture shown agrees x y = agrees x y
drawn_right step.UpdateEnd picture shown agrees x y = agrees x y
drawn_right step.Bell picture shown agrees x y = agrees x y
drawn_right (step.TextBegins long) picture shown agrees x y = agrees x y
drawn_right (step.Text bytes) picture shown agrees x y = agrees x y
drawn_right (step.MapEntry entry red green blue) picture shown agrees x y = agrees x y
