-- What a line lets be heard is sound.
use Rattle.std.proofs.Common.{◌≡◌, ℕ, ◌^◌, ◌<◌, Bool, true, false, ◌&&◌, cond, leb, List, [], ◌∷◌, length, map, refl, sym, subst, arith, Option, Some, None, codes, bytes_eq, ◌/◌, ℤ, drop}
use Rattle.std.specs.Prelude.{option_map, option_and_then}
use Rattle.std.specs.List.{range_with_len}
use Rattle.std.proofs.lemmas.Bool.Decides.{nat_tests}
use Rattle.region.specs.declared.Rect.{Rect}
use Rattle.screen.specs.declared.Config.{Config}
use Rattle.screen.specs.declared.Event.{Event}
use Rattle.screen.specs.declared.Event.TheVariants as event
use Rattle.play_script.specs.declared.lines.Line.{Line}
use Rattle.play_script.specs.declared.lines.Line.TheVariants.{Skipped, Start, Do, Bad}
use Rattle.play_script.specs.Words.{words_of, word, value_in, group, is_groups, are_digits, hex_bytes, number, viewer_number}
use Rattle.play_script.specs.Lines.{is_skipped, verb_of as script_verb, line_of, started_by, done_by, command_of, config_of, write_of, paint_of, pixels_of, corners_of, move_of, size_in, hear_of, only_viewer}
use Rattle.play_script.proofs.WordLemmas.{byte_fits}
use Rattle.replay.specs.declared.lines.Verb.{Verb}
use Rattle.replay.specs.declared.lines.Verb.TheVariants as verb
use Rattle.replay.specs.Lines.{verb_of, own_command, own_line, unless_bad, region_event, rects_of, behind_rects, corners, desktop_of, session_line}
use Rattle.replay.specs.Said.{AreBytes}

-- what it lets be heard, if anything
abbrev pub HearsSound : Line → Type 0
HearsSound (Do (event.Hear v piece)) = (v < 2 ^ 64) × AreBytes piece
HearsSound (Do (event.Write r cs)) = Unit {0}
HearsSound (Do (event.Paint r cs)) = Unit {0}
HearsSound (Do (event.Mark rs)) = Unit {0}
HearsSound (Do (event.ScheduleCopy rs dx dy)) = Unit {0}
HearsSound (Do (event.DoCopy rs dx dy)) = Unit {0}
HearsSound (Do event.Bell) = Unit {0}
HearsSound (Do (event.CutText text)) = Unit {0}
HearsSound (Do (event.Resize w h)) = Unit {0}
HearsSound (Do (event.Connect v)) = Unit {0}
HearsSound (Do (event.Cut v)) = Unit {0}
HearsSound (Do (event.Close v)) = Unit {0}
HearsSound Skipped = Unit {0}
HearsSound (Start c) = Unit {0}
HearsSound Bad = Unit {0}

started_sound : (o : Option Config) → HearsSound (started_by o)
started_sound None = tt
started_sound (Some c) = tt

-- an event that is made of what was read
made_sound : {A : Type 0} (f : A → Event) → ((a : A) → HearsSound (Do (f a))) → (o : Option A) → HearsSound (done_by (option_map f o))
made_sound f h None = tt
made_sound f h (Some a) = h a

if_sound : (b : Bool) (o : Option Event) → HearsSound (done_by o) → HearsSound (done_by (cond b o None))
if_sound true o h = h
if_sound false o h = tt

size_sound : (ws : List (List ℕ)) → HearsSound (done_by (size_in ws))
unfolding size_in
size_sound ws = go (number (word ws 1)) (number (word ws 2))
  where
    go : (o p : Option ℕ) → HearsSound (done_by (option_and_then (λ width. option_and_then (λ height. Some (event.Resize width height)) p) o))
    go None p = tt
    go (Some width) None = tt
    go (Some width) (Some height) = tt

-- bytes that were read are bytes
groups_sound : (w : List ℕ) (ns : List ℕ) → is_groups 2 w ≡ true → AreBytes (map (λ n. value_in 16 (group 2 w n)) ns)
groups_sound w [] h = tt
groups_sound w (n ∷ ns) h = (byte_fits w n (value_in 16 (group 2 w n)) true (sym h) refl refl, groups_sound w ns h)

hex_sound : (w : List ℕ) (piece : List ℕ) → hex_bytes w ≡ Some piece → AreBytes piece
hex_sound w piece h = go (bytes_eq w (codes "-")) (is_groups 2 w) refl h
  where
    go : (a b : Bool) → is_groups 2 w ≡ b → cond a (Some []) (cond b (Some (map (λ n. value_in 16 (group 2 w n)) (range_with_len 0 (length w / 2)))) None) ≡ Some piece → AreBytes piece
    go true b e f = subst AreBytes (let same : [] ≡ piece = cc in same) tt
    go false true e f = subst AreBytes (let same : map (λ n. value_in 16 (group 2 w n)) (range_with_len 0 (length w / 2)) ≡ piece = cc in same) (groups_sound w (range_with_len 0 (length w / 2)) e)
    go false false e f = absurd cc

viewer_sound : (w : List ℕ) (v : ℕ) → viewer_number w ≡ Some v → v < 2 ^ 64
viewer_sound w v h = go (are_digits 10 w) (leb (value_in 10 w) 0xffff_ffff_ffff_ffff) refl h
  where
    small : (n : ℕ) → leb n 0xffff_ffff_ffff_ffff ≡ true → n < 2 ^ 64
    small n e = grind (arith, nat_tests)

    go : (a b : Bool) → leb (value_in 10 w) 0xffff_ffff_ffff_ffff ≡ b → cond (a && b) (Some (value_in 10 w)) None ≡ Some v → v < 2 ^ 64
    go true true e f = subst (λ n. n < 2 ^ 64) (let same : value_in 10 w ≡ v = cc in same) (small (value_in 10 w) e)
    go true false e f = absurd cc
    go false b e f = absurd cc

hear_sound : (ws : List (List ℕ)) → HearsSound (done_by (hear_of ws))
unfolding hear_of
hear_sound ws = go (viewer_number (word ws 1)) (hex_bytes (word ws 2)) refl refl
  where
    go : (o : Option ℕ) (p : Option (List ℕ)) → viewer_number (word ws 1) ≡ o → hex_bytes (word ws 2) ≡ p
        → HearsSound (done_by (option_and_then (λ v. option_and_then (λ piece. Some (event.Hear v piece)) p) o))
    go None p h g = tt
    go (Some v) None h g = tt
    go (Some v) (Some piece) h g = (viewer_sound (word ws 1) v h, hex_sound (word ws 2) piece g)

cond_holds : {A : Type 0} (F : A → Type 0) (b : Bool) (x y : A) → F x → F y → F (cond b x y)
cond_holds F true x y h g = h
cond_holds F false x y h g = g

command_sound : (w : List ℕ) (ws : List (List ℕ)) → HearsSound (command_of (script_verb w) ws)
command_sound w ws =
    cond_holds (λ o. HearsSound (command_of o ws)) (bytes_eq w (codes "screen")) _ _
    (started_sound (config_of ws))
    (cond_holds (λ o. HearsSound (command_of o ws)) (bytes_eq w (codes "write")) _ _
    (if_sound _ (write_of ws) (made_sound _ (λ p. tt) (pixels_of ws)))
    (cond_holds (λ o. HearsSound (command_of o ws)) (bytes_eq w (codes "paint")) _ _
    (if_sound _ (paint_of ws) (made_sound _ (λ p. tt) (pixels_of ws)))
    (cond_holds (λ o. HearsSound (command_of o ws)) (bytes_eq w (codes "mark")) _ _
    (if_sound _ _ (made_sound _ (λ p. tt) (corners_of ws)))
    (cond_holds (λ o. HearsSound (command_of o ws)) (bytes_eq w (codes "schedule")) _ _
    (if_sound _ _ (made_sound _ (λ p. tt) (move_of ws)))
    (cond_holds (λ o. HearsSound (command_of o ws)) (bytes_eq w (codes "docopy")) _ _
    (if_sound _ _ (made_sound _ (λ p. tt) (move_of ws)))
    (cond_holds (λ o. HearsSound (command_of o ws)) (bytes_eq w (codes "bell")) _ _
    (if_sound _ (Some event.Bell) tt)
    (cond_holds (λ o. HearsSound (command_of o ws)) (bytes_eq w (codes "cuttext")) _ _
    (if_sound _ _ (made_sound _ (λ p. tt) (hex_bytes (word ws 1))))
    (cond_holds (λ o. HearsSound (command_of o ws)) (bytes_eq w (codes "resize")) _ _
    (if_sound _ _ (size_sound ws))
    (cond_holds (λ o. HearsSound (command_of o ws)) (bytes_eq w (codes "connect")) _ _
    (made_sound _ (λ v. tt) (only_viewer ws))
    (cond_holds (λ o. HearsSound (command_of o ws)) (bytes_eq w (codes "hear")) _ _
    (if_sound _ (hear_of ws) (hear_sound ws))
    (cond_holds (λ o. HearsSound (command_of o ws)) (bytes_eq w (codes "cut")) _ _
    (made_sound _ (λ v. tt) (only_viewer ws))
    (cond_holds (λ o. HearsSound (command_of o ws)) (bytes_eq w (codes "close")) _ _
    (made_sound _ (λ v. tt) (only_viewer ws))
    tt))))))))))))

script_sound : (l : List ℕ) → HearsSound (line_of l)
script_sound l = go (is_skipped l)
  where
    go : (b : Bool) → HearsSound (cond b Skipped (command_of (script_verb (word (words_of l) 0)) (words_of l)))
    go true = tt
    go false = command_sound (word (words_of l) 0) (words_of l)

event_of_region : (v : Verb) (rs : List Rect) (ns : List ℤ) → HearsSound (done_by (region_event v rs ns))
event_of_region verb.Mark rs [] = tt
event_of_region verb.Mark rs (x ∷ ns) = tt
event_of_region verb.Desktop rs ns = tt
event_of_region verb.Schedule rs [] = tt
event_of_region verb.Schedule rs (x ∷ []) = tt
event_of_region verb.Schedule rs (x ∷ y ∷ []) = tt
event_of_region verb.Schedule rs (x ∷ y ∷ z ∷ ns) = tt
event_of_region verb.DoCopy rs [] = tt
event_of_region verb.DoCopy rs (x ∷ []) = tt
event_of_region verb.DoCopy rs (x ∷ y ∷ []) = tt
event_of_region verb.DoCopy rs (x ∷ y ∷ z ∷ ns) = tt

region_sound : (v : Verb) (o : Option (List ℤ)) → HearsSound (done_by (option_and_then (λ ns. region_event v (rects_of ns) (behind_rects ns)) o))
region_sound v None = tt
region_sound v (Some ns) = event_of_region v (rects_of ns) (behind_rects ns)

own_sound : (o : Option Verb) (ws : List (List ℕ)) → HearsSound (own_command o ws)
own_sound None ws = tt
own_sound (Some verb.Desktop) ws = started_sound (desktop_of ws)
own_sound (Some verb.Mark) ws = region_sound verb.Mark (corners (drop 1 ws))
own_sound (Some verb.Schedule) ws = region_sound verb.Schedule (corners (drop 1 ws))
own_sound (Some verb.DoCopy) ws = region_sound verb.DoCopy (corners (drop 1 ws))

either_sound : (l own : Line) → HearsSound l → HearsSound own → HearsSound (unless_bad l own)
either_sound Bad own h g = g
either_sound Skipped own h g = tt
either_sound (Start c) own h g = tt
either_sound (Do e) own h g = h

pub line_sound : (l : List ℕ) → HearsSound (session_line l)
line_sound l = either_sound (line_of l) (own_line (words_of l)) (script_sound l) (own_sound (verb_of (word (words_of l) 0)) (words_of l))
