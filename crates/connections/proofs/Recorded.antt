-- What is written of a call that the screen took.
use Rattle.std.proofs.Common.{◌≡◌, ◌≢◌, ℕ, Bool, true, false, List, [], ◌∷◌, ◌++◌, Option, Some, None, Result, Ok, Err, refl, sym, ap, ◌∙◌, subst}
use Rattle.std.specs.Prelude.{◌&&◌, is_none, MatchOption, IfSome}
use Rattle.std.proofs.lemmas.Bool.{and_from}
use Rattle.screen.specs.declared.Config.{Config}
use Rattle.screen.specs.declared.Event.{Event}
use Rattle.screen.specs.declared.Event.TheVariants.{Cut, Hear}
use Rattle.screen.specs.declared.Answer.{Answer}
use Rattle.screen.specs.declared.ScreenError.{ScreenError}
use Rattle.screen.specs.Alone.{Tells, gives, some_bytes}
use Rattle.screen.specs.Answers.{answer_to}
use Rattle.screen.specs.History.{has_happened, accepted}
use Rattle.screen.specs.Happening.{AllHappen}
use Rattle.screen.specs.HappeningLemmas.{one-happens, none-happens, told-accepted}
use Rattle.scribe.specs.Scribing.{Scribed}
use Rattle.recorder.specs.Events.{event_line}
use Rattle.connections.specs.Recorded.{cut_gives, PutsWhere, RecordsMore}
use Rattle.connections.specs.RecordedLemmas.{lines-one, records-lines, records-nothing}

-- an event that happened, and its line
pub records-event : (c : Config) (list : List Event) (e : Event) (old new : Option Scribed) → has_happened e (answer_to c list e) ≡ true → PutsWhere (event_line e) old new → RecordsMore c list (e ∷ []) old new
records-event c list e old new happened puts = records-lines c list (e ∷ []) old new (one-happens c list e happened) (lines-one e old new puts)

-- a call that answered no error, where it isn't a cut
pub records-told : {X : Type 0} (f : X → Answer) (x : X) (e : Event) (c : Config) (list : List Event) (old new : Option Scribed) → ((a : Answer) → has_happened e a ≡ is_none a.refused)
    → Tells f (Ok x) (answer_to c list e) → PutsWhere (event_line e) old new → RecordsMore c list (e ∷ []) old new
records-told f x e c list old new plain told puts = records-event c list e old new (plain (answer_to c list e) ∙ told-accepted f (Ok x) (answer_to c list e) told) puts

some-bytes : (u : List ℕ) → u ≢ [] → some_bytes u ≡ true
some-bytes [] h = absurd (h refl)
some-bytes (b ∷ u) h = refl

cut-happened : (v : ℕ) (u : List ℕ) (a : Answer) → u ≢ [] → Tells cut_gives (Ok (Some u)) a → has_happened (Cut v) a ≡ true
cut-happened v u a some h = go a.refused refl h
  where
    go : (o : Option ScreenError) → a.refused ≡ o → MatchOption o (gives u ≡ a) (λ e. ◌≡◌ {A = Result (Option (List ℕ)) ScreenError} (Ok (Some u)) (Err e)) → has_happened (Cut v) a ≡ true
    go None is h = and_from _ _ (ap is_none is) (ap (λ (b : Answer). some_bytes b.bytes) (sym h) ∙ some-bytes u some)
    go (Some e) is h = absurd cc

nothing-cut : (v : ℕ) (a : Answer) → Tells cut_gives (Ok None) a → has_happened (Cut v) a ≡ false
nothing-cut v a h = go a.refused refl h
  where
    no-bytes : (b : Bool) → some_bytes a.bytes ≡ false → (b && some_bytes a.bytes) ≡ false
    no-bytes true is = is
    no-bytes false is = refl

    go : (o : Option ScreenError) → a.refused ≡ o → MatchOption o (gives [] ≡ a) (λ e. ◌≡◌ {A = Result (Option (List ℕ)) ScreenError} (Ok None) (Err e)) → has_happened (Cut v) a ≡ false
    go None is h = no-bytes (is_none a.refused) (ap (λ (b : Answer). some_bytes b.bytes) (sym h))
    go (Some e) is h = absurd cc

-- a cut that gave an update, and one that gave none
pub records-cut : (c : Config) (list : List Event) (v : ℕ) (o : Option (List ℕ)) (u : List ℕ) (old new : Option Scribed) → o ≡ Some u → IfSome o (λ w. w ≢ []) → Tells cut_gives (Ok o) (answer_to c list (Cut v)) → PutsWhere (event_line (Cut v)) old new
    → RecordsMore c list (Cut v ∷ []) old new
records-cut c list v o u old new is full told puts =
    records-event c list (Cut v) old new
    (cut-happened v u (answer_to c list (Cut v)) (subst (λ (q : Option (List ℕ)). IfSome q (λ w. w ≢ [])) is full) (subst (λ (q : Option (List ℕ)). Tells cut_gives (Ok q) (answer_to c list (Cut v))) is told)) puts

pub records-uncut : (c : Config) (list : List Event) (v : ℕ) (o : Option (List ℕ)) (s : Option Scribed) → o ≡ None → Tells cut_gives (Ok o) (answer_to c list (Cut v)) → RecordsMore c list (Cut v ∷ []) s s
records-uncut c list v o s is told =
    records-nothing c list (Cut v ∷ []) s s (none-happens c list (Cut v) (nothing-cut v (answer_to c list (Cut v)) (subst (λ (q : Option (List ℕ)). Tells cut_gives (Ok q) (answer_to c list (Cut v))) is told))) refl

-- a piece that was heard happened
pub heard-happens : (c : Config) (list : List Event) (n : ℕ) (piece : List ℕ) (x : Answer) → Tells (λ (q : Answer). q) (Ok x) (answer_to c list (Hear n piece)) → AllHappen c list (Hear n piece ∷ [])
heard-happens c list n piece x told = one-happens c list (Hear n piece) (told-accepted (λ (q : Answer). q) (Ok x) (answer_to c list (Hear n piece)) told)

-- and so did a cut that gave an update; one that gave none didn't
pub cut-happens : (c : Config) (list : List Event) (n : ℕ) (o : Option (List ℕ)) (u : List ℕ) → o ≡ Some u → IfSome o (λ w. w ≢ []) → Tells cut_gives (Ok o) (answer_to c list (Cut n)) → AllHappen c list (Cut n ∷ [])
cut-happens c list n o u is full told =
    one-happens c list (Cut n)
    (cut-happened n u (answer_to c list (Cut n)) (subst (λ (q : Option (List ℕ)). IfSome q (λ w. w ≢ [])) is full) (subst (λ (q : Option (List ℕ)). Tells cut_gives (Ok q) (answer_to c list (Cut n))) is told))

pub uncut-happens : (c : Config) (list : List Event) (n : ℕ) (o : Option (List ℕ)) → o ≡ None → Tells cut_gives (Ok o) (answer_to c list (Cut n)) → accepted c (list ++ Cut n ∷ []) ≡ accepted c list
uncut-happens c list n o is told = none-happens c list (Cut n) (nothing-cut n (answer_to c list (Cut n)) (subst (λ (q : Option (List ℕ)). Tells cut_gives (Ok q) (answer_to c list (Cut n))) is told))
