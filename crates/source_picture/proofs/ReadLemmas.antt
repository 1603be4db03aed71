-- What is read of a piece, step by step.
use Rattle.std.proofs.Common.{◌≡◌, ℕ, inl, inr, List, [], ◌∷◌, ◌++◌, append_assoc, refl, sym, subst, ap, ◌∙◌}
use Rattle.std.specs.Prelude.{Result, Ok, Err, IfErr}
use Rattle.std.specs.Result.{IsErrAnd}
use Rattle.encode_raw.specs.Reading.{Shown}
use Rattle.viewer_picture.specs.Messages.{ColourMap}
use Rattle.server_reader.specs.declared.step.Step.{Step}
use Rattle.server_reader.specs.declared.step.Next.{Next}
use Rattle.server_reader.specs.declared.stage.Size.{Size}
use Rattle.server_reader.specs.OnPicture.{StepIsOn, size_after}
use Rattle.server_reader.specs.Steps.{View, shown_after, colours_after, ReadingPoint, GoesOn, IsStep, IsKept, IsNoMessage}
use Rattle.server_reader.specs.ReadingPointLemmas.{goes_on_itself, goes_on_through, goes_on_with}
use Rattle.screen.specs.Frame.{Frame}
use Rattle.source_picture.specs.declared.source.DrawEnd.{DrawEnd}
use Rattle.source_picture.specs.declared.source.DrawEnd.TheVariants as end
use Rattle.source_picture.specs.declared.asking.Asking.{Asking}
use Rattle.source_picture.specs.Bands.{BandView}
use Rattle.source_picture.specs.Texts.{TextView}
use Rattle.source_picture.specs.Painting.{IsDone, LiesOn}
use Rattle.source_picture.specs.Mirroring.{SourceView, shown_behind, colours_behind, asked_behind, text_behind, IsReadAs, IsRead, IsNext, Mirrors, IsMirrored, IsMirroredNext, GivesNoReading, HasEnded}
use Rattle.source_picture.proofs.MirrorLemmas.{AgreesAt, step_agrees}

-- where a reader is, with so many bytes left of a piece
abbrev reading_point : View → Shown → ColourMap → List ℕ → ReadingPoint
reading_point view shown colours left = record { view = view; shown = shown; colours = colours; left = left }

-- ---- pieces

-- what was read of a piece, with what is read of its rest
pub further : (piece front left more end rest : List ℕ) → piece ≡ front ++ left → left ≡ more ++ end → end ≡ rest → piece ≡ (front ++ more) ++ rest
further piece front left more end rest one two is = one ∙ ap (λ l. front ++ l) (two ∙ ap (λ l. more ++ l) is) ∙ sym (append_assoc front more rest)

-- ---- steps

-- nothing was read
pub read_none : (v : SourceView) (piece : List ℕ) → IsReadAs v piece [] v piece
read_none v piece = record { read = inl (refl, refl); goes = λ shown colours. goes_on_itself (reading_point v.reader shown colours piece); asked = refl; text = refl }

-- all of a piece was taken, and more is needed
pub read_kept : (before after : SourceView) (piece : List ℕ) → IsKept before.reader piece after.reader → after.asking ≡ before.asking → after.text ≡ before.text → IsReadAs before piece [] after []
read_kept before after piece kept asked text = record { read = inr (kept, refl); goes = kept; asked = asked; text = text }

step_goes : (before after : View) (piece : List ℕ) (next : Next) → IsStep before piece next after → (shown : Shown) (colours : ColourMap)
    → GoesOn (reading_point before shown colours piece) (reading_point after (shown_after next.step shown) (colours_after next.step colours) next.rest.now)
step_goes before after piece next it shown colours =
    let P : List ℕ → Type 0 = λ l. GoesOn (reading_point before shown colours l) (reading_point after (shown_after next.step shown) (colours_after next.step colours) next.rest.now) in
    subst P (sym it.is)
    (goes_on_with (reading_point before shown colours it.front) (reading_point after (shown_after next.step shown) (colours_after next.step colours) []) next.rest.now (it.goes shown colours))

-- a step, and then others
pub read_more : (a b c : SourceView) (piece rest : List ℕ) (next : Next) (steps : List Step) → IsNext a piece next b → IsReadAs b next.rest.now steps c rest → IsReadAs a piece (next.step ∷ steps) c rest
read_more a b c piece rest next steps one others = record {
  read = record { next = next; after = b.reader; read = one.read; is = refl; ended = one.ended; more = others.read };
  goes = λ shown colours.
      goes_on_through (reading_point a.reader shown colours piece) (reading_point b.reader (shown_after next.step shown) (colours_after next.step colours) next.rest.now)
      (reading_point c.reader (shown_behind steps (shown_after next.step shown)) (colours_behind steps (colours_after next.step colours)) rest)
      (step_goes a.reader b.reader piece next one.read shown colours) (others.goes (shown_after next.step shown) (colours_after next.step colours));
  asked = others.asked ∙ ap (asked_behind steps) one.asked;
  text = others.text ∙ ap (text_behind steps) one.text;
}

pub is_read_more : (a b c : SourceView) (piece left rest : List ℕ) (next : Next) (steps : List Step) → IsNext a piece next b → next.rest.now ≡ left → IsReadAs b left steps c rest → IsReadAs a piece (next.step ∷ steps) c rest
is_read_more a b c piece left rest next steps one is others =
    let P : List ℕ → Type 0 = λ l. IsReadAs b l steps c rest in read_more a b c piece rest next steps one (subst P (sym is) others)

-- ---- mirrors

mirrors_agrees : (reader : View) (shown : Shown) (picture : Frame) → Mirrors reader shown picture → AgreesAt reader.state.size shown picture
mirrors_agrees reader shown picture m = record { wide = m.wide; high = m.high; colours = m.colours }

agrees_mirrors : (reader : View) (shown : Shown) (picture : Frame) → AgreesAt reader.state.size shown picture → Mirrors reader shown picture
agrees_mirrors reader shown picture m = record { wide = m.wide; high = m.high; colours = m.colours }

-- nothing was drawn
pub mirrored_none : (v : SourceView) (piece : List ℕ) (picture : Frame) → IsMirrored v piece v piece picture picture
mirrored_none v piece picture = record { steps = []; read = read_none v piece; mirrors = λ shown m. m }

pub mirrored_kept : (before after : SourceView) (piece : List ℕ) (picture : Frame) → IsReadAs before piece [] after [] → after.reader.state.size ≡ before.reader.state.size → IsMirrored before piece after [] picture picture
mirrored_kept before after piece picture read same = record {
  steps = [];
  read = read;
  mirrors = λ shown m.
      let P : Size → Type 0 = λ s. AgreesAt s shown picture in agrees_mirrors after.reader shown picture (subst P (sym same) (mirrors_agrees before.reader shown picture m));
}

-- a step was drawn
pub mirrored_one : (before after : SourceView) (piece : List ℕ) (next : Next) (old new : Frame) → IsNext before piece next after → after.reader.state.size ≡ size_after next.step before.reader.state.size
    → StepIsOn after.reader.state.size next.step → (LiesOn next.step old → IsDone next.step old new) → IsMirroredNext before piece after next.rest.now old new
mirrored_one before after piece next old new read sized on paint = record {
  next = next;
  read = read;
  left = refl;
  mirrors = λ shown m.
      agrees_mirrors after.reader (shown_after next.step shown) new
      (step_agrees before.reader.state.size after.reader.state.size next.step shown old new sized on paint (mirrors_agrees before.reader shown old m));
}

-- a step, and then others
pub mirrored_more : (a b c : SourceView) (piece left rest : List ℕ) (old now new : Frame) → IsMirroredNext a piece b left old now → IsMirrored b left c rest now new → IsMirrored a piece c rest old new
mirrored_more a b c piece left rest old now new one others = record {
  steps = one.next.step ∷ others.steps;
  read = is_read_more a b c piece left rest one.next others.steps one.read one.left others.read;
  mirrors = λ shown m. others.mirrors (shown_after one.next.step shown) (one.mirrors shown m);
}

-- ---- what waits

abbrev pub view : View → Asking → TextView → BandView → SourceView
view reader asking text waiting = record { reader = reader; asking = asking; text = text; waiting = waiting }

-- whatever waits, and by an equal text
read_around : (r q : View) (s k : Asking) (t t' u u' : TextView) (v v' w w' : BandView) (piece rest : List ℕ) (steps : List Step) → t' ≡ t → u' ≡ u
    → IsReadAs (view r s t v) piece steps (view q k u w) rest → IsReadAs (view r s t' v') piece steps (view q k u' w') rest
read_around r q s k t t' u u' v v' w w' piece rest steps before after it = record {
  read = it.read;
  goes = it.goes;
  asked = it.asked;
  text = after ∙ it.text ∙ ap (text_behind steps) (sym before);
}

pub mirrored_around : (r q : View) (s k : Asking) (t t' u u' : TextView) (v v' w w' : BandView) (piece rest : List ℕ) (old old' new new' : Frame) → t' ≡ t → u' ≡ u → old' ≡ old → new' ≡ new
    → IsMirrored (view r s t v) piece (view q k u w) rest old new → IsMirrored (view r s t' v') piece (view q k u' w') rest old' new'
mirrored_around r q s k t t' u u' v v' w w' piece rest old old' new new' before after from to it =
    let P : Frame → Type 0 = λ f. IsMirrored (view r s t' v') piece (view q k u' w') rest f new' in
    let Q : Frame → Type 0 = λ f. IsMirrored (view r s t' v') piece (view q k u' w') rest old f in
    subst P (sym from) (subst Q (sym to) (record { steps = it.steps; read = read_around r q s k t t' u u' v v' w w' piece rest it.steps before after it.read; mirrors = it.mirrors }))

-- ---- ends

pub no_message : (v : View) (piece : List ℕ) → IsNoMessage v piece → GivesNoReading v piece
no_message v piece none shown colours later n room = none shown colours later n

none_through : (a b : SourceView) (piece left : List ℕ) → IsRead a piece b left → GivesNoReading b.reader left → GivesNoReading a.reader piece
none_through a b piece left read none shown colours later n room =
    let same = read.1.goes shown colours later n room in
    same.is ∙ none (shown_behind read.0 shown) (colours_behind read.0 colours) later same.left same.room

pub ended_through : (why : DrawEnd) (a b : SourceView) (after : View) (piece left : List ℕ) → IsRead a piece b left → HasEnded why b.reader left after → HasEnded why a.reader piece after
ended_through (end.Fault fault) a b after piece left read ended = none_through a b piece left read ended
ended_through end.Size a b after piece left read ended = ended
ended_through end.Memory a b after piece left read ended = ended

-- an end that is handed on
pub handed_on : {X : Type 0} (r : Result X DrawEnd) (why : DrawEnd) (before : View) (piece : List ℕ) (after : View) → IsErrAnd r (λ e. e ≡ why) → HasEnded why before piece after → IfErr r (λ e. HasEnded e before piece after)
handed_on (Ok x) why before piece after is ended = tt
handed_on (Err e) why before piece after is ended = let P : DrawEnd → Type 0 = λ d. HasEnded d before piece after in subst P (sym is) ended
