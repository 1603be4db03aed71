-- The refusal that is due by what a screen holds is the one that is answered.
use Rattle.std.proofs.Common.{◌≡◌, ◌≢◌, ℕ, Bool, true, false, cond, List, Option, Some, None, Result, Ok, Err, refl, sym, ◌∙◌, ap, OnErr, IfOk}
use Rattle.std.specs.Prelude.{MatchOption, MatchResult, IsOk, length, nat_abs, not, nat_lt, ◌==◌, ◌*◌, ◌-ℤ◌}
use Rattle.std.specs.Option.{option_map}
use Rattle.std.specs.declared.alloc.AllocError.{AllocError}
use Rattle.viewer.specs.Viewer.{Viewer, KeptViewer, kept_viewer}
use Rattle.scene.specs.declared.Config.{Config}
use Rattle.scene.specs.declared.ScreenError.{ScreenError}
use Rattle.scene.specs.declared.ScreenError.TheVariants as refusals
use Rattle.scene.specs.declared.Event.{Event}
use Rattle.scene.specs.declared.Event.TheVariants.{Write, Paint, Mark, ScheduleCopy, DoCopy, Bell, CutText, Resize, Connect, Hear, Cut, Close}
use Rattle.scene.specs.declared.Answer.{Answer}
use Rattle.scene.specs.Alone.{own_step, drawing_refusal, settled, is_size, is_within}
use Rattle.scene.specs.Answers.{viewer_of, entry_of, refused_or_nothing, answer_to, SceneState, scene_after}
use Rattle.scene.specs.Refusals.{viewer_at, absence, presence, refusal, Refuses}
use Rattle.scene.proofs.Everyones.{one_of, now_at}
use Rattle.scene.proofs.Owners.{answer-hit, state-find}
use Rattle.scene.proofs.Connected.{found-viewer}

-- what a screen keeps of a viewer with a number
pub kept-at : (c : Config) (es : List Event) (v : ℕ) → viewer_at (scene_after c es) v ≡ option_map kept_viewer (viewer_of c v es)
kept-at c es v = go (viewer_at (scene_after c es) v) (viewer_of c v es) (sym (found-viewer v (scene_after c es).viewers) ∙ state-find c es v)
  where
    go : (a : Option KeptViewer) (b : Option (Viewer (List ℕ))) → option_map {T = KeptViewer} {U = ℕ × KeptViewer} (λ w. (v, w)) a ≡ entry_of v b → a ≡ option_map kept_viewer b
    go None None e = refl
    go (Some w) (Some u) e = ap (λ (o : Option (ℕ × KeptViewer)). elim o [ None ↦ Some w | Some p ↦ Some p.1 ]) e
    go None (Some u) e = absurd cc
    go (Some w) None e = absurd cc

drawing-due : (o : Option ScreenError) → (refused_or_nothing o).refused ≡ o
drawing-due None = refl
drawing-due (Some e) = refl

own-due : (c : Config) (es : List Event) (e : Event) (v : ℕ) (due : Option KeptViewer → Option ScreenError) → answer_to c es e ≡ (own_step (now_at c es) e (one_of c v es) (viewer_of c v es)).1
    → ((o : Option (Viewer (List ℕ))) → (own_step (now_at c es) e (one_of c v es) o).1.refused ≡ due (option_map kept_viewer o)) → (answer_to c es e).refused ≡ due (viewer_at (scene_after c es) v)
own-due c es e v due hit each = ap (λ (a : Answer). a.refused) hit ∙ each (viewer_of c v es) ∙ sym (ap due (kept-at c es v))

-- an event is answered the refusal that is due
pub refused-as-due : (c : Config) (es : List Event) (e : Event) → (answer_to c es e).refused ≡ refusal (scene_after c es) e
refused-as-due c es (Write r colours) = drawing-due (drawing_refusal (now_at c es) (Write r colours))
refused-as-due c es (Paint r colours) = drawing-due (drawing_refusal (now_at c es) (Paint r colours))
refused-as-due c es (Mark rects) = refl
refused-as-due c es (ScheduleCopy rects dx dy) = refl
refused-as-due c es (DoCopy rects dx dy) = refl
refused-as-due c es Bell = refl
refused-as-due c es (CutText text) = drawing-due (drawing_refusal (now_at c es) (CutText text))
refused-as-due c es (Resize w h) = drawing-due (drawing_refusal (now_at c es) (Resize w h))
refused-as-due c es (Connect v) = own-due c es (Connect v) v presence (answer-hit c v es (Connect v) refl) each
  where
    each : (o : Option (Viewer (List ℕ))) → (own_step (now_at c es) (Connect v) (one_of c v es) o).1.refused ≡ presence (option_map kept_viewer o)
    each None = refl
    each (Some w) = refl
refused-as-due c es (Hear v piece) = own-due c es (Hear v piece) v absence (answer-hit c v es (Hear v piece) refl) each
  where
    each : (o : Option (Viewer (List ℕ))) → (own_step (now_at c es) (Hear v piece) (one_of c v es) o).1.refused ≡ absence (option_map kept_viewer o)
    each None = refl
    each (Some w) = refl
refused-as-due c es (Cut v) = own-due c es (Cut v) v absence (answer-hit c v es (Cut v) refl) each
  where
    each : (o : Option (Viewer (List ℕ))) → (own_step (now_at c es) (Cut v) (one_of c v es) o).1.refused ≡ absence (option_map kept_viewer o)
    each None = refl
    each (Some w) = refl
refused-as-due c es (Close v) = own-due c es (Close v) v absence (answer-hit c v es (Close v) refl) each
  where
    each : (o : Option (Viewer (List ℕ))) → (own_step (now_at c es) (Close v) (one_of c v es) o).1.refused ≡ absence (option_map kept_viewer o)
    each None = refl
    each (Some w) = refl

-- want of memory is never due
pixels-due : (a b : Bool) → cond a (Some refusals.BadRect) (cond b (Some refusals.BadPixelCount) None) ≡ Some refusals.OutOfMemory → ⊥
pixels-due true b e = cc
pixels-due false true e = cc
pixels-due false false e = cc

size-due : (b : Bool) → cond b None (Some refusals.BadSize) ≡ Some refusals.OutOfMemory → ⊥
size-due true e = cc
size-due false e = cc

text-due : (b : Bool) → cond b (Some refusals.TextTooLong) None ≡ Some refusals.OutOfMemory → ⊥
text-due true e = cc
text-due false e = cc

presence-due : (o : Option KeptViewer) → presence o ≡ Some refusals.OutOfMemory → ⊥
presence-due None e = cc
presence-due (Some w) e = cc

absence-due : (o : Option KeptViewer) → absence o ≡ Some refusals.OutOfMemory → ⊥
absence-due None e = cc
absence-due (Some w) e = cc

pub not-memory : (s : SceneState) (e : Event) → refusal s e ≡ Some refusals.OutOfMemory → ⊥
not-memory s (Write r colours) h = pixels-due (not (is_within s.picture.width s.picture.height r)) (not (length colours == nat_abs (r.x2 -ℤ r.x1) * nat_abs (r.y2 -ℤ r.y1))) h
not-memory s (Paint r colours) h = pixels-due (not (is_within s.picture.width s.picture.height r)) (not (length colours == nat_abs (r.x2 -ℤ r.x1) * nat_abs (r.y2 -ℤ r.y1))) h
not-memory s (Mark rects) h = cc
not-memory s (ScheduleCopy rects dx dy) h = cc
not-memory s (DoCopy rects dx dy) h = cc
not-memory s Bell h = cc
not-memory s (CutText text) h = text-due (nat_lt 65536 (length text)) h
not-memory s (Resize w k) h = size-due (is_size w k) h
not-memory s (Connect v) h = presence-due (viewer_at s v) h
not-memory s (Hear v piece) h = absence-due (viewer_at s v) h
not-memory s (Cut v) h = absence-due (viewer_at s v) h
not-memory s (Close v) h = absence-due (viewer_at s v) h

-- ---- what is made of a call's result

pub refuses-as : {X : Type 0} (given : Result X ScreenError) (result : Result Answer ScreenError) (view : X → Answer) (due : Option ScreenError)
    → MatchResult given (λ x. result ≡ Ok (view x)) (λ e. result ≡ Err e) → Refuses given due → Refuses result due
refuses-as (Ok x) result view None is told = rw is tt
refuses-as (Ok x) result view (Some e) is told = absurd cc
refuses-as (Err k) result view None is told = rw is told
refuses-as {X = X} (Err k) result view (Some e) is told = is ∙ ap (λ (r : Result X ScreenError). elim r [ Ok x ↦ result | Err p ↦ Err p ]) told

-- a call that takes no memory
pub refuses-surely : {X : Type 0} (given : Result X ScreenError) (due : Option ScreenError) → MatchOption due (IsOk given) (λ e. given ≡ Err e) → Refuses given due
refuses-surely (Ok x) None told = tt
refuses-surely (Err k) None told = absurd cc
refuses-surely (Ok x) (Some e) told = told
refuses-surely (Err k) (Some e) told = told

pub settled-refused : (given : Result Answer ScreenError) (m : Result Answer AllocError) (due : Option ScreenError) → MatchResult given (λ x. m ≡ Ok x) (λ e. m ≡ settled e)
    → Refuses given due → IfOk given (λ a. a.refused ≡ None) → (due ≡ Some refusals.OutOfMemory → ⊥) → MatchResult m (λ a. a.refused ≡ due) (λ _. due ≡ None)
settled-refused (Ok x) m None is told accepted never = rw is accepted
settled-refused (Ok x) m (Some e) is told accepted never = absurd cc
settled-refused (Err q) m None is told accepted never = rw (is, told) refl
settled-refused (Err q) m (Some e) is told accepted never =
    let same : q ≡ e = ap (λ (r : Result Answer ScreenError). elim r [ Ok x ↦ q | Err p ↦ p ]) told in
    rw (is, same) (kind e never)
  where
    kind : (e : ScreenError) → (Some e ≡ Some refusals.OutOfMemory → ⊥) → MatchResult (settled e) (λ a. a.refused ≡ Some e) (λ _. Some e ≡ None)
    kind refusals.BadSize never = refl
    kind refusals.BadName never = refl
    kind refusals.BadRectLimit never = refl
    kind refusals.BadRect never = refl
    kind refusals.BadPixelCount never = refl
    kind refusals.TextTooLong never = refl
    kind refusals.NoViewer never = refl
    kind refusals.NumberInUse never = refl
    kind refusals.OutOfMemory never = absurd (never refl)

pub settled-unchanged : (Q : Type 0) (given : Result Answer ScreenError) (m : Result Answer AllocError) → MatchResult given (λ x. m ≡ Ok x) (λ e. m ≡ settled e)
    → IfOk given (λ a. a.refused ≡ None) → OnErr given Q → IfOk m (λ a. a.refused ≢ None → Q)
settled-unchanged Q (Ok x) m is accepted kept = rw is (λ some. absurd (some accepted))
settled-unchanged Q (Err q) m is accepted kept = rw is (kind q)
  where
    kind : (e : ScreenError) → IfOk (settled e) (λ a. a.refused ≢ None → Q)
    kind refusals.BadSize = λ some. kept
    kind refusals.BadName = λ some. kept
    kind refusals.BadRectLimit = λ some. kept
    kind refusals.BadRect = λ some. kept
    kind refusals.BadPixelCount = λ some. kept
    kind refusals.TextTooLong = λ some. kept
    kind refusals.NoViewer = λ some. kept
    kind refusals.NumberInUse = λ some. kept
    kind refusals.OutOfMemory = tt

pub with-due : (P Q : Answer → Type 0) (R S : Type 0) (m : Result Answer AllocError) → IfOk m P → MatchResult m Q (λ _. R) → (R → S) → MatchResult m P (λ _. S)
with-due P Q R S (Ok x) given refused then_so = given
with-due P Q R S (Err e) given refused then_so = then_so refused
