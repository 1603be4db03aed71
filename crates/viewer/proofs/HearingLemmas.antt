-- What is done to a seat, and the inputs among items.
use Rattle.std.proofs.Common.{◌≡◌, true, false, ℕ, ℤ, pos, negsuc, ◌+◌, List, [], ◌∷◌, ◌++◌, reverse, Option, None, refl, sym, ap, ◌∙◌, arith, append_assoc}
use Rattle.std.specs.Prelude.{min}
use Rattle.std.specs.List.{filter_map, cons_option}
use Rattle.std.proofs.lemmas.Bool.Decides.{nat_tests}
use Rattle.std.proofs.lemmas.List.{reverse-append, append-nil}
use Rattle.std.proofs.lemmas.List.Elements.{filter_map-append}
use mathlib.Core.Path.{fun_ext}
use Rattle.pixel_translate.specs.declared.Area.{Area}
use Rattle.messages.specs.declared.Input.{Input}
use Rattle.messages.specs.declared.Item.{Item}
use Rattle.messages.specs.declared.Item.TheVariants as item
use Rattle.messages.specs.declared.Phase.{Phase}
use Rattle.messages.specs.declared.Fault.{Fault}
use Rattle.messages.specs.Reading.{Rest, heard, new_items, fault_of}
use Rattle.messages.specs.Server.{server_init, answers as greetings}
use Rattle.viewer.specs.declared.Reply.{Reply}
use Rattle.copy_schedule.specs.declared.LogEntry.{LogEntry}
use Rattle.copy_schedule.specs.declared.LogEntry.TheVariants.{Mark, Copy}
use Rattle.copy_schedule.specs.Marks.{Marks}
use Rattle.copy_schedule.specs.Log.{after_entry, logged}
use Rattle.std.specs.Prelude.{Bool}
use Rattle.region.specs.Region.{in_rect}
use Rattle.viewer.specs.Hearing.{input_of, after_items, heard_reply}
use Rattle.viewer.specs.Told.{told_unless}
use Rattle.viewer.specs.Viewer.{Viewer, KeptViewer, area_places, after_item}

item-size : {B : Type 0} (w h : ℕ) (i : Item) (v : Viewer B) → ((after_item w h i v).marks.width ≡ v.marks.width) × ((after_item w h i v).marks.height ≡ v.marks.height)
item-size w h (item.Encodings preferred true resize) v = (refl, refl)
item-size w h (item.Encodings preferred false resize) v = (refl, refl)
item-size w h (item.Request true area) v = (refl, refl)
item-size w h (item.Request false area) v = (refl, refl)
item-size w h (item.Version version) v = (refl, refl)
item-size w h item.Choice v = (refl, refl)
item-size w h (item.Init shared) v = (refl, refl)
item-size w h (item.Format f) v = (refl, refl)
item-size w h (item.Input input) v = (refl, refl)

-- a viewer's messages leave the size of its marks
pub items-size : {B : Type 0} (w h : ℕ) (is : List Item) (v : Viewer B) → ((after_items w h is v).marks.width ≡ v.marks.width) × ((after_items w h is v).marks.height ≡ v.marks.height)
items-size w h [] v = (refl, refl)
items-size w h (i ∷ is) v =
    let first = item-size w h i v in
    let rest = items-size w h is (after_item w h i v) in (rest.0 ∙ first.0, rest.1 ∙ first.1)

-- what messages make of a viewer doesn't look at what is kept of its bytes
pub items-heard : (w h : ℕ) (is : List Item) (v : KeptViewer) (r : Rest) → after_items w h is (record v { heard = r }) ≡ record (after_items w h is v) { heard = r }
items-heard w h [] v r = refl
items-heard w h (i ∷ is) v r = ap (after_items w h is) (item-heard i v r) ∙ items-heard w h is (after_item w h i v) r
  where
    item-heard : (i : Item) (v : KeptViewer) (r : Rest) → after_item w h i (record v { heard = r }) ≡ record (after_item w h i v) { heard = r }
    item-heard (item.Encodings preferred copyrect resize) v r = refl
    item-heard (item.Request incremental area) v r = refl
    item-heard (item.Version version) v r = refl
    item-heard item.Choice v r = refl
    item-heard (item.Init shared) v r = refl
    item-heard (item.Format f) v r = refl
    item-heard (item.Input input) v r = refl

-- an input at the end goes to the front of the inputs
pub input-last : (items rest : List Item) (i : Input) (inputs all : List Input) → items ≡ rest ++ item.Input i ∷ [] → filter_map input_of items ++ reverse inputs ≡ all
    → filter_map input_of rest ++ reverse (inputs ++ i ∷ []) ≡ all
input-last items rest i inputs all e h =
    ap (λ l. filter_map input_of rest ++ l) (reverse-append inputs (i ∷ []))
    ∙ sym (append_assoc (filter_map input_of rest) (i ∷ []) (reverse inputs))
    ∙ ap (λ l. l ++ reverse inputs) (sym (filter_map-append input_of rest (item.Input i ∷ [])) ∙ ap (filter_map input_of) (sym e))
    ∙ h

no-input : (x : Item) → ((i : Input) → x ≡ item.Input i → ⊥) → input_of x ≡ None
no-input (item.Input i) other = absurd (other i refl)
no-input (item.Version v) other = refl
no-input item.Choice other = refl
no-input (item.Init shared) other = refl
no-input (item.Format f) other = refl
no-input (item.Encodings preferred copyrect resize) other = refl
no-input (item.Request incremental area) other = refl

-- another item at the end leaves them
pub other-last : (items rest : List Item) (x : Item) (inputs all : List Input) → items ≡ rest ++ x ∷ [] → ((i : Input) → x ≡ item.Input i → ⊥) → filter_map input_of items ++ reverse inputs ≡ all
    → filter_map input_of rest ++ reverse inputs ≡ all
other-last items rest x inputs all e other h =
    ap (λ l. l ++ reverse inputs)
    (sym (append-nil (filter_map input_of rest)) ∙ ap (λ o. filter_map input_of rest ++ cons_option o []) (sym (no-input x other))
    ∙ sym (filter_map-append input_of rest (x ∷ [])) ∙ ap (filter_map input_of) (sym e))
    ∙ h

-- the rectangle of an area's places that are on a screen has just these places
pub area_cut : (w h : ℕ) (a : Area) → in_rect (record { x1 = pos a.x; y1 = pos a.y; x2 = pos (min (a.x + a.w) w); y2 = pos (min (a.y + a.h) h) }) ≡ area_places w h a
area_cut w h a = fun_ext (λ x. fun_ext (λ y. go x y))
  where
    go : (x y : ℤ) → in_rect (record { x1 = pos a.x; y1 = pos a.y; x2 = pos (min (a.x + a.w) w); y2 = pos (min (a.y + a.h) h) }) x y ≡ area_places w h a x y
    go (negsuc x) y = refl
    go (pos x) (negsuc y) = grind (arith, nat_tests)
    go (pos x) (pos y) = grind (arith, nat_tests)

-- a reply, by its parts
pub reply-so : (w h w' h' : ℕ) (name before piece : List ℕ) (p : Phase) (items : List Item) (bytes : List ℕ) (inputs : List Input) (fault : Option Fault) → w ≡ w' → h ≡ h' → p ≡ (heard before).phase → items ≡ new_items before piece
    → bytes ≡ greetings (server_init w h name) p items → inputs ≡ filter_map input_of items → fault ≡ fault_of (heard (before ++ piece)).end
    → record { bytes = bytes; inputs = inputs; fault = fault } ≡ heard_reply w' h' name before piece
reply-so w h w' h' name before piece p items bytes inputs fault wide high phase same said told fails =
    let reply : List ℕ → List Input → Option Fault → Reply = λ b i f. record { bytes = b; inputs = i; fault = f } in
    ap (λ b. reply b inputs fault)
    (said ∙ ap (λ n. greetings (server_init n h name) p items) wide ∙ ap (λ n. greetings (server_init w' n name) p items) high
    ∙ ap (λ (q : Phase). greetings (server_init w' h' name) q items) phase ∙ ap (λ (is : List Item). greetings (server_init w' h' name) (heard before).phase is) same)
    ∙ ap (λ i. reply (greetings (server_init w' h' name) (heard before).phase (new_items before piece)) i fault) (told ∙ ap (λ (is : List Item). filter_map input_of is) same)
    ∙ ap (λ f. reply (greetings (server_init w' h' name) (heard before).phase (new_items before piece)) (filter_map input_of (new_items before piece)) f) fails

entry-size : (uses : Bool) (e : LogEntry) (m : Marks) → ((after_entry uses e m).width ≡ m.width) × ((after_entry uses e m).height ≡ m.height)
entry-size uses (Mark region) m = (refl, refl)
entry-size true (Copy region dx dy) m = (refl, refl)
entry-size false (Copy region dx dy) m = (refl, refl)

-- drawing leaves the size of marks
pub logged-size : (uses : Bool) (es : List LogEntry) (m : Marks) → ((logged uses es m).width ≡ m.width) × ((logged uses es m).height ≡ m.height)
logged-size uses [] m = (refl, refl)
logged-size uses (e ∷ es) m =
    let first = entry-size uses e m in
    let others = logged-size uses es (after_entry uses e m) in (others.0 ∙ first.0, others.1 ∙ first.1)

-- what it is told later doesn't look at what is kept of its bytes either, and leaves the size of its marks
pub told-heard : (knows : Bool) (log : List LogEntry) (v : KeptViewer) (r : Rest) → told_unless knows log (record v { heard = r }) ≡ record (told_unless knows log v) { heard = r }
told-heard true log v r = refl
told-heard false log v r = refl

pub told-size : (knows : Bool) (log : List LogEntry) (v : KeptViewer)
    → ((told_unless knows log v).marks.width ≡ v.marks.width) × ((told_unless knows log v).marks.height ≡ v.marks.height)
told-size true log v = (refl, refl)
told-size false log v = logged-size v.uses_copyrect log v.marks
