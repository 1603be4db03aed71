-- What a record stands for, step after step.
use Rattle.std.proofs.Common.{◌≡◌, ℕ, List, [], ◌∷◌, ◌++◌, Option, Some, None, sym, ap, ◌∙◌, subst, append_assoc, append-nil}
use Rattle.std.specs.Prelude.{flat_map, IfSome}
use Rattle.std.proofs.lemmas.List.Concat.{flat_map-append}
use Rattle.scribe.specs.Scribing.{Scribed, Puts}
use Rattle.recorder.specs.Events.{event_line, screen_line, session_text}
use Rattle.screen.specs.declared.Config.{Config}
use Rattle.screen.specs.declared.Event.{Event}
use Rattle.screen.specs.History.{accepted}
use Rattle.screen.specs.Happening.{AllHappen}
use Rattle.connections.specs.Recorded.{IsScribedBy, PutsWhere, IsRecordedBy, RecordsMore}

-- the lines of events are put
abbrev pub PutsLines : List Event → Option Scribed → Option Scribed → Type 0
PutsLines es old new = PutsWhere (flat_map event_line es) old new

scribed-as : (began : Option (List ℕ)) (a b : List ℕ) (s : Option Scribed) → a ≡ b → IsScribedBy began a s → IsScribedBy began b s
scribed-as began a b s is h = subst (λ (l : List ℕ). IsScribedBy began l s) is h

pub puts-nothing : (s : Option Scribed) → PutsWhere [] s s
puts-nothing s began text h = scribed-as began text (text ++ []) s (sym (append-nil text)) h

pub puts-then : (first second : List ℕ) (r s t : Option Scribed) → PutsWhere first r s → PutsWhere second s t → PutsWhere (first ++ second) r t
puts-then first second r s t a b began text h = scribed-as began ((text ++ first) ++ second) (text ++ (first ++ second)) t (append_assoc text first second) (b began (text ++ first) (a began text h))

-- where there is a record, and where there is none
pub puts-some : (more : List ℕ) (a b : Scribed) → Puts more a b → PutsWhere more (Some a) (Some b)
puts-some more a b puts began text h = puts began text h

pub lines-nothing : (s : Option Scribed) → PutsLines [] s s
lines-nothing s = puts-nothing s

pub lines-then : (first second : List Event) (r s t : Option Scribed) → PutsLines first r s → PutsLines second s t → PutsLines (first ++ second) r t
lines-then first second r s t a b =
    subst (λ (l : List ℕ). PutsWhere l r t) (sym (flat_map-append event_line first second)) (puts-then (flat_map event_line first) (flat_map event_line second) r s t a b)

pub lines-one : (e : Event) (r s : Option Scribed) → PutsWhere (event_line e) r s → PutsLines (e ∷ []) r s
lines-one e r s puts = subst (λ (l : List ℕ). PutsWhere l r s) (sym (append-nil (event_line e))) puts

-- ---- what a record stands for

session-more : (c : Config) (es more : List Event) → session_text c es ++ flat_map event_line more ≡ session_text c (es ++ more)
session-more c es more = append_assoc (screen_line c) (flat_map event_line es) (flat_map event_line more) ∙ ap (λ l. screen_line c ++ l) (sym (flat_map-append event_line es more))

pub records-lines : (c : Config) (list more : List Event) (old new : Option Scribed) → AllHappen c list more → PutsLines more old new → RecordsMore c list more old new
records-lines c list more old new happened puts began h =
    scribed-as began (session_text c (accepted c list) ++ flat_map event_line more) (session_text c (accepted c (list ++ more))) new
    (session-more c (accepted c list) more ∙ ap (session_text c) (sym happened)) (puts began (session_text c (accepted c list)) h)

-- an event that changed nothing
pub records-nothing : (c : Config) (list more : List Event) (old new : Option Scribed) → accepted c (list ++ more) ≡ accepted c list → new ≡ old → RecordsMore c list more old new
records-nothing c list more old new none same began h =
    scribed-as began (session_text c (accepted c list)) (session_text c (accepted c (list ++ more))) new (ap (session_text c) (sym none)) (subst (λ (s : Option Scribed). IsRecordedBy began c list s) (sym same) h)

-- one that begins
pub records-began : (c : Config) (held : Option (List ℕ)) (s : Option Scribed) → IsScribedBy held (screen_line c) s → IsRecordedBy held c [] s
records-began c held s h = scribed-as held (screen_line c) (session_text c []) s (sym (append-nil (screen_line c))) h

pub records-same : (c : Config) (list : List Event) (s : Option Scribed) → RecordsMore c list [] s s
records-same c list s began h = subst (λ (l : List Event). IsRecordedBy began c l s) (sym (append-nil list)) h

pub records-still : (c : Config) (list : List Event) (old new : Option Scribed) → new ≡ old → RecordsMore c list [] old new
records-still c list old new is = subst (λ (x : Option Scribed). RecordsMore c list [] old x) (sym is) (records-same c list old)

pub records-then : (c : Config) (list first second : List Event) (r s t : Option Scribed) → RecordsMore c list first r s → RecordsMore c (list ++ first) second s t → RecordsMore c list (first ++ second) r t
records-then c list first second r s t a b began h = subst (λ (l : List Event). IsRecordedBy began c l t) (append_assoc list first second) (b began (a began h))

-- where there is a record, it stands for more
pub recorded-more : (held : Option (Option (List ℕ))) (c : Config) (list more : List Event) (old new : Option Scribed) → RecordsMore c list more old new
    → IfSome held (λ h. IsRecordedBy h c list old) → IfSome held (λ h. IsRecordedBy h c (list ++ more) new)
recorded-more None c list more old new records h = tt
recorded-more (Some held) c list more old new records h = records held h

-- and it stays
pub recorded-same : (held : Option (Option (List ℕ))) (c : Config) (list : List Event) (old new : Option Scribed) → new ≡ old → IfSome held (λ h. IsRecordedBy h c list old) → IfSome held (λ h. IsRecordedBy h c list new)
recorded-same held c list old new is h = subst (λ (s : Option Scribed). IfSome held (λ h. IsRecordedBy h c list s)) (sym is) h

-- no record, and one that begins
pub none-recorded : (held : Option (Option (List ℕ))) (c : Config) (list : List Event) (s : Option Scribed) → held ≡ None → IfSome held (λ h. IsRecordedBy h c list s)
none-recorded None c list s is = tt
none-recorded (Some h) c list s is = absurd cc

pub one-recorded : (held : Option (Option (List ℕ))) (h : Option (List ℕ)) (c : Config) (list : List Event) (s : Option Scribed) → held ≡ Some h → IsRecordedBy h c list s → IfSome held (λ h. IsRecordedBy h c list s)
one-recorded None h c list s is r = tt
one-recorded (Some g) h c list s is r = let same : h ≡ g = cc in subst (λ (x : Option (List ℕ)). IsRecordedBy x c list s) same r
