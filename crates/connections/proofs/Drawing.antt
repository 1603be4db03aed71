-- What a call of the screen makes of a canvas.
use Rattle.std.proofs.Common.{◌≡◌, ℕ, Bool, true, false, List, [], ◌∷◌, ◌++◌, Option, Some, None, Result, Ok, Err, OnOk, OnErr, IfOk, refl, sym, ap, ◌∙◌, append_assoc, append-nil, subst}
use Rattle.std.specs.Prelude.{MatchOption, MatchResult, IsOkUnless, ◌&&◌, ◌||◌}
use Rattle.std.proofs.lemmas.Bool.{and_from, or_parts, or_from}
use Rattle.std.proofs.lemmas.List.Folds.{list_all-append, list_any-append}
use Rattle.screen.specs.declared.Config.{Config}
use Rattle.screen.specs.declared.ScreenError.{ScreenError}
use Rattle.screen.specs.declared.ScreenError.TheVariants.{OutOfMemory}
use Rattle.screen.specs.declared.Event.{Event}
use Rattle.screen.specs.declared.Answer.{Answer}
use Rattle.screen.specs.Alone.{owner_of, Tells}
use Rattle.screen.specs.Answers.{is_drawing}
use Rattle.screen.specs.Calls.{event_of}
use Rattle.screen.specs.declared.Drawing.{Drawing}
use Rattle.screen.specs.declared.Drawing.TheVariants.{Write, Paint, MarkRect, MarkRegion, ScheduleCopyRect, ScheduleCopyRegion, DoCopyRect, DoCopyRegion, Bell, CutText, NewFramebuffer}
use Rattle.screen.specs.State.{State, state}
use Rattle.source_pixels.specs.declared.pieces.Piece.{Piece}
use Rattle.screen.specs.Paints.{paints_of}
use Rattle.scribe.specs.Scribing.{Scribed}
use Rattle.screen.specs.Happening.{AllHappen}
use Rattle.connections.specs.Recorded.{PutsWhere, RecordsMore}
use Rattle.screen.specs.HappeningLemmas.{happen-nothing}
use Rattle.connections.specs.RecordedLemmas.{PutsLines, records-then, records-lines}
use Rattle.connections.specs.Drawing.{Surface, Draws, are_drawings, is_notice, has_notice}

-- no bell or text is among more calls
still-quiet : (since : Bool) (calls : List Event) (e : Event) (before after : Bool) → after ≡ (is_notice e || before) → (before ≡ false → (since ≡ false) × (has_notice calls ≡ false)) → after ≡ false
    → (since ≡ false) × (has_notice (calls ++ e ∷ []) ≡ false)
still-quiet since calls e before after is quiet fine =
    let parts = or_parts _ _ (sym is ∙ fine) in
    let was = quiet parts.1 in
    (was.0, list_any-append is_notice calls (e ∷ []) ∙ or_from _ _ was.1 (or_from _ _ parts.0 refl))

-- a drawing call, which is refused or not
pub draws_by : {X : Type 0} (r : Result X ScreenError) (a b : Surface) (e : Event) → owner_of e ≡ None
    → ((c : Config) (list : List Event) → a.screen ≡ state c list → OnOk r (b.screen ≡ state c (list ++ e ∷ []))) → OnErr r (b.screen ≡ a.screen) → OnErr r (b.scribed ≡ a.scribed)
    → ((c : Config) (list : List Event) → a.screen ≡ state c list → OnOk r (RecordsMore c list (e ∷ []) a.scribed b.scribed)) → b.drawn ≡ true → b.noticed ≡ (is_notice e || a.noticed) → Draws a b
draws_by (Ok x) a b e own steps err still recorded drawn noticed c list since d = record {
  calls = d.calls ++ e ∷ [];
  drawings = list_all-append (λ e. is_drawing (owner_of e)) d.calls (e ∷ []) ∙ and_from _ _ d.drawings (ap (λ o. is_drawing o && true) own);
  screen = steps c (list ++ d.calls) d.screen ∙ ap (state c) (append_assoc list d.calls (e ∷ []));
  recorded = records-then c list d.calls (e ∷ []) since.scribed a.scribed b.scribed d.recorded (recorded c (list ++ d.calls) d.screen);
  none = λ no. let both : true ≡ false = sym drawn ∙ no in absurd cc;
  quiet = still-quiet since.noticed d.calls e a.noticed b.noticed noticed d.quiet;
}
draws_by (Err x) a b e own steps err still recorded drawn noticed c list since d = record {
  calls = d.calls;
  drawings = d.drawings;
  screen = err ∙ d.screen;
  recorded = subst (λ (s : Option Scribed). RecordsMore c list d.calls since.scribed s) (sym still) d.recorded;
  none = λ no. let both : true ≡ false = sym drawn ∙ no in absurd cc;
  quiet = λ fine. d.quiet (or_parts _ _ (sym noticed ∙ fine)).1;
}

pub draws_from : {X : Type 0} (r : Result X ScreenError) (a b : Surface) (before : State) (scribed : Option Scribed) (drawn noticed : Bool) (e : Event) → record { screen = before; scribed = scribed; drawn = drawn; noticed = noticed } ≡ a → owner_of e ≡ None
    → ((c : Config) (list : List Event) → before ≡ state c list → OnOk r (b.screen ≡ state c (list ++ e ∷ []))) → OnErr r (b.screen ≡ before) → OnErr r (b.scribed ≡ scribed)
    → ((c : Config) (list : List Event) → before ≡ state c list → OnOk r (RecordsMore c list (e ∷ []) scribed b.scribed)) → b.drawn ≡ true → b.noticed ≡ (is_notice e || noticed) → Draws a b
draws_from r a b before scribed drawn noticed e is own steps err still recorded now quiet =
    subst (λ (x : Surface). Draws x b) is (draws_by r (record { screen = before; scribed = scribed; drawn = drawn; noticed = noticed }) b e own steps err still recorded now quiet)

-- a drawing call is nobody's
pub nobodys : (d : Drawing) → owner_of (event_of d) ≡ None
nobodys (Write rect colours) = refl
nobodys (Paint rect colours) = refl
nobodys (MarkRect rect) = refl
nobodys (MarkRegion region) = refl
nobodys (ScheduleCopyRect rect dx dy) = refl
nobodys (ScheduleCopyRegion region dx dy) = refl
nobodys (DoCopyRect rect dx dy) = refl
nobodys (DoCopyRegion region dx dy) = refl
nobodys Bell = refl
nobodys (CutText text) = refl
nobodys (NewFramebuffer width height) = refl

-- paints are drawing calls, and no notices
paints-drawings : (left top : ℕ) (qs : List Piece) → are_drawings (paints_of left top qs) ≡ true
paints-drawings left top [] = refl
paints-drawings left top (q ∷ qs) = paints-drawings left top qs

paints-quiet : (left top : ℕ) (qs : List Piece) → has_notice (paints_of left top qs) ≡ false
paints-quiet left top [] = refl
paints-quiet left top (q ∷ qs) = paints-quiet left top qs

-- a program's own pixels are taken in
draws-painted : (left top : ℕ) (a b : Surface)
    → ((c : Config) (list : List Event) → a.screen ≡ state c list → (qs : List Piece) × (b.screen ≡ state c (list ++ paints_of left top qs)) × PutsLines (paints_of left top qs) a.scribed b.scribed × AllHappen c list (paints_of left top qs)) → b.drawn ≡ true → b.noticed ≡ a.noticed → Draws a b
draws-painted left top a b paints drawn noticed c list since d =
    let p = paints c (list ++ d.calls) d.screen in
    let more : List Event = paints_of left top p.0 in
    record {
      calls = d.calls ++ more;
      drawings = list_all-append (λ e. is_drawing (owner_of e)) d.calls more ∙ and_from _ _ d.drawings (paints-drawings left top p.0);
      screen = p.1 ∙ ap (state c) (append_assoc list d.calls more);
      recorded = records-then c list d.calls more since.scribed a.scribed b.scribed d.recorded (records-lines c (list ++ d.calls) more a.scribed b.scribed p.3 p.2);
      none = λ no. let both : true ≡ false = sym drawn ∙ no in absurd cc;
      quiet = λ fine.
          let was = d.quiet (sym noticed ∙ fine) in
          (was.0, list_any-append is_notice d.calls more ∙ or_from _ _ was.1 (paints-quiet left top p.0));
    }

pub draws_taken : (left top : ℕ) (a b : Surface) (before : State) (scribed : Option Scribed) (drawn noticed : Bool) → record { screen = before; scribed = scribed; drawn = drawn; noticed = noticed } ≡ a
    → ((c : Config) (list : List Event) → before ≡ state c list → (qs : List Piece) × (b.screen ≡ state c (list ++ paints_of left top qs)) × PutsLines (paints_of left top qs) scribed b.scribed × AllHappen c list (paints_of left top qs)) → b.drawn ≡ true → b.noticed ≡ noticed → Draws a b
draws_taken left top a b before scribed drawn noticed is paints now quiet =
    subst (λ (x : Surface). Draws x b) is (draws-painted left top (record { screen = before; scribed = scribed; drawn = drawn; noticed = noticed }) b paints now quiet)

-- what waits of a record is written
pub draws-flushed : (a b : Surface) → b ≡ record a { scribed = b.scribed } → PutsWhere [] a.scribed b.scribed → Draws a b
draws-flushed a b same puts c list since d =
    let more : RecordsMore c (list ++ d.calls) [] a.scribed b.scribed = records-lines c (list ++ d.calls) [] a.scribed b.scribed (happen-nothing c (list ++ d.calls)) puts in
    record {
      calls = d.calls;
      drawings = d.drawings;
      screen = ap (λ (x : Surface). x.screen) same ∙ d.screen;
      recorded = subst (λ (l : List Event). RecordsMore c list l since.scribed b.scribed) (append-nil d.calls) (records-then c list d.calls [] since.scribed a.scribed b.scribed d.recorded more);
      none = λ no. d.none (sym (ap (λ (x : Surface). x.drawn) same) ∙ no);
      quiet = λ fine. d.quiet (sym (ap (λ (x : Surface). x.noticed) same) ∙ fine);
    }

-- the bytes that a call told
pub told-bytes : {X : Type 0} (f : X → Answer) (r : Result X ScreenError) (a : Answer) → Tells f r a → IfOk r (λ x. (f x).bytes ≡ a.bytes)
told-bytes {X = X} f r a h = go a.refused refl h
  where
    ok : (q : Result X ScreenError) → MatchResult q (λ x. f x ≡ a) (λ e. e ≡ OutOfMemory) → IfOk q (λ x. (f x).bytes ≡ a.bytes)
    ok (Ok x) h = ap (λ (b : Answer). b.bytes) h
    ok (Err e) h = tt

    go : (o : Option ScreenError) → a.refused ≡ o → MatchOption o (MatchResult r (λ x. f x ≡ a) (λ e. e ≡ OutOfMemory)) (λ e. r ≡ Err e) → IfOk r (λ x. (f x).bytes ≡ a.bytes)
    go None is h = ok r h
    go (Some e) is h = subst (λ (q : Result X ScreenError). IfOk q (λ x. (f x).bytes ≡ a.bytes)) (sym h) tt

-- a screen that was made was not refused
pub accepted : {X : Type 0} (r : Result X ScreenError) (o : Option ScreenError) (x : X) → r ≡ Ok x → MatchOption o (IsOkUnless r OutOfMemory) (λ e. r ≡ Err e) → o ≡ None
accepted r None x is h = refl
accepted {X = X} r (Some e) x is h = let two : ◌≡◌ {A = Result X ScreenError} (Ok x) (Err e) = sym is ∙ h in absurd cc

-- what is refused for memory alone once a screen was made
pub refused-after : {X : Type 0} (r : Result X ScreenError) (o : Option ScreenError) → o ≡ None → IsOkUnless r OutOfMemory → MatchOption o (IsOkUnless r OutOfMemory) (λ e. r ≡ Err e)
refused-after r None is h = h
refused-after r (Some e) is h = absurd cc

-- what a configuration is refused as
pub refused-as : (X : Type 0) (o : Option ScreenError) (e : ScreenError) → o ≡ Some e → MatchOption o (e ≡ OutOfMemory) (λ f. ◌≡◌ {A = Result X ScreenError} (Err e) (Err f))
refused-as X None e is = absurd cc
refused-as X (Some f) e is = cc

-- what was made was not refused
pub made-unrefused : {X : Type 0} (x : X) (o : Option ScreenError) → o ≡ None → MatchOption o (IsOkUnless (Ok x) OutOfMemory) (λ e. ◌≡◌ {A = Result X ScreenError} (Ok x) (Err e))
made-unrefused x None is = tt
made-unrefused x (Some e) is = absurd cc
