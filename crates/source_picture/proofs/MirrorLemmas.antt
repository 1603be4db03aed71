-- What is drawn mirrors what is shown.
use Rattle.std.proofs.Common.{◌≡◌, ℕ, ◌+◌, ◌-◌, ◌<◌, Bool, true, false, cond, Option, refl, sym, subst, ap, ◌∙◌, arith}
use Rattle.std.proofs.lemmas.Bool.Decides.{nat_tests}
use Rattle.pixel_translate.specs.declared.Area.{Area}
use Rattle.encode_raw.specs.Reading.{Dot, Shown, is_inside}
use Rattle.server_reader.specs.declared.step.Step.{Step}
use Rattle.server_reader.specs.declared.step.Step.TheVariants as step
use Rattle.server_reader.specs.declared.stage.Size.{Size}
use Rattle.server_reader.specs.OnPicture.{IsOn, StepIsOn, size_after}
use Rattle.server_reader.specs.Steps.{shown_after}
use Rattle.server_reader.specs.Pictures.{Picture, HasColour, picture_drawn}
use Rattle.screen.specs.Frame.{Frame}
use Rattle.screen.specs.Taken.{colour_on}
use Rattle.source_picture.specs.Painting.{IsPainted, IsDone, LiesOn}

-- the places of a picture of this size that show something have its colour
abbrev AgreesOn : Size → Picture → Shown → Type 0
AgreesOn size picture shown = (x y : ℕ) → x < size.width → y < size.height → HasColour (shown x y) (picture x y)

chosen : (b : Bool) (dot other : Option Dot) (c d : ℕ) → (b ≡ true → HasColour dot c) → HasColour other d → HasColour (cond b dot other) (cond b c d)
chosen true dot other c d here there = here refl
chosen false dot other c d here there = there

-- a place that an area of the picture has, at the same area elsewhere on the picture
from_x_on : (size : Size) (a : Area) (from_x from_y x y : ℕ) → IsOn size (record a { x = from_x; y = from_y }) → is_inside a x y ≡ true → x - a.x + from_x < size.width
from_x_on size a from_x from_y x y on inside = grind (arith, nat_tests, on.right)

from_y_on : (size : Size) (a : Area) (from_x from_y x y : ℕ) → IsOn size (record a { x = from_x; y = from_y }) → is_inside a x y ≡ true → y - a.y + from_y < size.height
from_y_on size a from_x from_y x y on inside = grind (arith, nat_tests, on.bottom)

-- a step that lies on the picture leaves it as what is shown behind the step; behind a new size nothing is shown
still_agrees : (size : Size) (done : Step) (picture : Picture) (shown : Shown) → StepIsOn size done → AgreesOn size picture shown → AgreesOn size (picture_drawn done picture) (shown_after done shown)
still_agrees size (step.Pixels a bytes) picture shown on agrees x y p q = chosen (is_inside a x y) _ (shown x y) _ (picture x y) (λ e. refl) (agrees x y p q)
still_agrees size (step.Fill a pixel) picture shown on agrees x y p q = chosen (is_inside a x y) _ (shown x y) _ (picture x y) (λ e. refl) (agrees x y p q)
still_agrees size (step.Copy a from_x from_y) picture shown on agrees x y p q =
    chosen (is_inside a x y) (shown (x - a.x + from_x) (y - a.y + from_y)) (shown x y) (picture (x - a.x + from_x) (y - a.y + from_y)) (picture x y)
    (λ inside. agrees (x - a.x + from_x) (y - a.y + from_y) (from_x_on size a from_x from_y x y on.1 inside) (from_y_on size a from_x from_y x y on.1 inside)) (agrees x y p q)
still_agrees size (step.Size width height) picture shown on agrees x y p q = tt
still_agrees size step.Head picture shown on agrees x y p q = agrees x y p q
still_agrees size step.UpdateEnd picture shown on agrees x y p q = agrees x y p q
still_agrees size step.Bell picture shown on agrees x y p q = agrees x y p q
still_agrees size (step.TextBegins long) picture shown on agrees x y p q = agrees x y p q
still_agrees size (step.Text bytes) picture shown on agrees x y p q = agrees x y p q
still_agrees size (step.MapEntry entry red green blue) picture shown on agrees x y p q = agrees x y p q

-- A picture has a size, and at each of its places that shows something, the colour shown.
pub record AgreesAt (size : Size) (shown : Shown) (picture : Frame) : Type 0 where
  pub wide : picture.width ≡ size.width
  pub high : picture.height ≡ size.height
  pub colours : (x y : ℕ) → x < picture.width → y < picture.height → HasColour (shown x y) (colour_on picture x y)

-- its size, as the record that a step lies on
size_is : (size : Size) (picture : Frame) → picture.width ≡ size.width → picture.height ≡ size.height → size ≡ record { width = picture.width; height = picture.height }
size_is size picture wide high =
    let across : ℕ → Size = λ w. record { width = w; height = size.height } in
    let down : ℕ → Size = λ h. record { width = picture.width; height = h } in
    sym (ap down high ∙ ap across wide)

-- the picture behind a change of its places
painted : (size : Size) (done : Step) (shown : Shown) (old new : Frame) → StepIsOn size done → IsPainted (picture_drawn done) old new → AgreesAt size shown old → AgreesAt size (shown_after done shown) new
painted size done shown old new on paint agrees = record {
  wide = paint.wide ∙ agrees.wide;
  high = paint.high ∙ agrees.high;
  colours = λ x y left top.
      let across : x < old.width = let e = paint.wide in omega arith in
      let down : y < old.height = let e = paint.high in omega arith in
      let P : ℕ → Type 0 = λ c. HasColour (shown_after done shown x y) c in
      subst P (sym (paint.colours x y across down))
      (still_agrees size done (colour_on old) shown on (λ u v p q. agrees.colours u v (let e = agrees.wide in omega arith) (let e = agrees.high in omega arith)) x y
      (let e = agrees.wide in omega arith) (let e = agrees.high in omega arith));
}

-- a step that tells no size
same : (before after : Size) (done : Step) (shown : Shown) (old new : Frame) → after ≡ before → StepIsOn after done → (LiesOn done old → IsPainted (picture_drawn done) old new)
    → AgreesAt before shown old → AgreesAt after (shown_after done shown) new
same before after done shown old new sized on paint agrees =
    let P : Size → Type 0 = λ s. StepIsOn s done in
    let Q : Size → Type 0 = λ s. AgreesAt s (shown_after done shown) new in
    let here : StepIsOn before done = subst P sized on in
    subst Q (sym sized) (painted before done shown old new here (paint (subst P (size_is before old agrees.wide agrees.high) here)) agrees)

-- a step of a reader, done to a picture of the reader's size
pub step_agrees : (before after : Size) (done : Step) (shown : Shown) (old new : Frame) → after ≡ size_after done before → StepIsOn after done → (LiesOn done old → IsDone done old new)
    → AgreesAt before shown old → AgreesAt after (shown_after done shown) new
step_agrees before after (step.Size width height) shown old new sized on done agrees =
    let it = done tt in
    record {
      wide = it.wide ∙ sym (ap (λ (s : Size). s.width) sized);
      high = it.high ∙ sym (ap (λ (s : Size). s.height) sized);
      colours = λ x y left top. tt;
    }
step_agrees before after (step.Pixels a bytes) shown old new sized on done agrees = same before after (step.Pixels a bytes) shown old new sized on done agrees
step_agrees before after (step.Fill a pixel) shown old new sized on done agrees = same before after (step.Fill a pixel) shown old new sized on done agrees
step_agrees before after (step.Copy a from_x from_y) shown old new sized on done agrees = same before after (step.Copy a from_x from_y) shown old new sized on done agrees
step_agrees before after step.Head shown old new sized on done agrees = same before after step.Head shown old new sized on done agrees
step_agrees before after step.UpdateEnd shown old new sized on done agrees = same before after step.UpdateEnd shown old new sized on done agrees
step_agrees before after step.Bell shown old new sized on done agrees = same before after step.Bell shown old new sized on done agrees
step_agrees before after (step.TextBegins long) shown old new sized on done agrees = same before after (step.TextBegins long) shown old new sized on done agrees
step_agrees before after (step.Text bytes) shown old new sized on done agrees = same before after (step.Text bytes) shown old new sized on done agrees
step_agrees before after (step.MapEntry entry red green blue) shown old new sized on done agrees = same before after (step.MapEntry entry red green blue) shown old new sized on done agrees
