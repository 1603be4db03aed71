-- Each event's line says it.
use Rattle.std.proofs.Common.{◌≡◌, inl, inr, ℕ, ◌^◌, ◌<◌, List, [], ◌∷◌, ◌++◌, refl, sym, ap, ◌∙◌, arith, Option, Some, ℤ, codes}
use Rattle.std.specs.Prelude.{flat_map, option_map, FitsSigned}
use Rattle.std.specs.Int.{w32}
use Rattle.std.specs.Fmt.{decimal, signed_decimal}
use Rattle.std.specs.List.{AllByRecursion}
use Rattle.std.proofs.lemmas.List.{append-nil}
use Rattle.region.specs.declared.Rect.{Rect}
use Rattle.screen.specs.declared.Event.{Event}
use Rattle.screen.specs.declared.Event.TheVariants as event
use Rattle.recorder.specs.Words.{corner_words, place_words, hex_word, pixels_word}
use Rattle.recorder.specs.Events.{mark_line, copy_line, offset_words, event_line}
use Rattle.play_script.specs.declared.lines.Line.TheVariants.{Do}
use Rattle.play_script.specs.Words.{signed}
use Rattle.play_script.specs.Lines.{done_by, pixels_of, corners_of, move_of, size_in, hear_of, mark_of}
use Rattle.replay.specs.declared.lines.Verb.{Verb}
use Rattle.replay.specs.declared.lines.Verb.TheVariants as verb
use Rattle.replay.specs.Lines.{corners, unless_bad, region_of, region_event, rects_of, behind_rects}
use Rattle.replay.specs.Said.{IsSound, AreCorners, AreMoved, AreColoursOf, AreBytes, said_event, said_colours}
use Rattle.replay.specs.Claims.{IsLine}
use Rattle.replay.proofs.ReadsWords.{AreWords, words-append, line_says}
use Rattle.replay.proofs.ReadsNumbers.{AtMost, number_is_read, viewer_is_read, decimal_is_word, signed_is_word, signed_at_most, corner_is_read}
use Rattle.replay.proofs.ReadsBytes.{bytes_word, bytes_are_read, pixels_is_word, pixels_are_read}
use Rattle.replay.proofs.ReadsPlaces.{place_are_words, pixels_by_place, corner_are_words, corners_at_most, numbers_of, two_read, rects_read, rects_back, behind_back}

-- ---- write and paint

pixels_words : (r : Rect) (cs : List ℕ) → AreColoursOf r cs → AreWords (place_words r ++ pixels_word cs ∷ [])
pixels_words r cs h = words-append (place_words r) (pixels_word cs ∷ []) (place_are_words r cs h) (pixels_is_word cs, tt)

pixels_said : (command : List ℕ) (r : Rect) (cs : List ℕ) → AreColoursOf r cs → pixels_of (command ∷ (place_words r ++ pixels_word cs ∷ [])) ≡ Some (record { rect = r; colours = said_colours cs })
pixels_said command r cs h = pixels_by_place command (pixels_word cs) r cs h (pixels_are_read cs)

write_says : (r : Rect) (cs : List ℕ) → AreColoursOf r cs → IsLine (event_line (event.Write r cs)) (Do (event.Write r (said_colours cs)))
write_says r cs h = line_says (codes "write") (place_words r ++ pixels_word cs ∷ []) _ refl (pixels_words r cs h) refl (rw (pixels_said (codes "write") r cs h) refl)

paint_says : (r : Rect) (cs : List ℕ) → AreColoursOf r cs → IsLine (event_line (event.Paint r cs)) (Do (event.Paint r (said_colours cs)))
paint_says r cs h = line_says (codes "paint") (place_words r ++ pixels_word cs ∷ []) _ refl (pixels_words r cs h) refl (rw (pixels_said (codes "paint") r cs h) refl)

-- ---- regions

-- what a script says, or a session says alone
either_says : (o p : Option Event) (e : Event) → AtMost o e → p ≡ Some e → unless_bad (done_by o) (done_by p) ≡ Do e
either_says o p e (inl h) g = rw h refl
either_says o p e (inr h) g = rw (h, g) refl

corners_words : (rs : List Rect) → AllByRecursion AreCorners rs → AreWords (flat_map corner_words rs)
corners_words [] h = tt
corners_words (r ∷ rs) h = words-append (corner_words r) (flat_map corner_words rs) (corner_are_words r h.0) (corners_words rs h.1)

offset_are_words : (dx dy : ℤ) → FitsSigned w32 dx → FitsSigned w32 dy → AreWords (offset_words dx dy)
offset_are_words dx dy h g = (signed_is_word dx h, (signed_is_word dy g, tt))

region_by : (v : Verb) (command : List ℕ) (ws : List (List ℕ)) (rs : List Rect) (ns : List ℤ) → corners ws ≡ Some (flat_map numbers_of rs ++ ns) → region_of v (command ∷ ws) ≡ region_event v (rs ++ rects_of ns) (behind_rects ns)
region_by v command ws rs ns e = rw (e, rects_back rs ns, behind_back rs ns) refl

marks_read : (command : List ℕ) (rs : List Rect) → AllByRecursion AreCorners rs → region_of verb.Mark (command ∷ flat_map corner_words rs) ≡ Some (event.Mark rs)
marks_read command rs h =
    ap (λ ws. region_of verb.Mark (command ∷ ws)) (sym (append-nil (flat_map corner_words rs)))
    ∙ region_by verb.Mark command (flat_map corner_words rs ++ []) rs [] (rects_read rs [] [] h refl) ∙ ap (λ l. Some (event.Mark l)) (append-nil rs)

moves_read : (v : Verb) (command : List ℕ) (rs : List Rect) (dx dy : ℤ) → AreMoved rs dx dy → region_of v (command ∷ (flat_map corner_words rs ++ offset_words dx dy)) ≡ region_event v rs (dx ∷ dy ∷ [])
moves_read v command rs dx dy h =
    region_by v command (flat_map corner_words rs ++ offset_words dx dy) rs (dx ∷ dy ∷ [])
    (rects_read rs (offset_words dx dy) (dx ∷ dy ∷ []) h.corners (two_read (signed_decimal dx) (signed_decimal dy) dx dy (corner_is_read dx h.right) (corner_is_read dy h.down)))
    ∙ ap (λ l. region_event v l (dx ∷ dy ∷ [])) (append-nil rs)

-- a rectangle alone
mark_at_most : (command : List ℕ) (r : Rect) → AreCorners r → AtMost (mark_of (command ∷ corner_words r)) (event.Mark (r ∷ []))
mark_at_most command r h = go (corners_at_most command r [] h)
  where
    go : AtMost (corners_of (command ∷ corner_words r)) r → AtMost (option_map (λ q. event.Mark (q ∷ [])) (corners_of (command ∷ corner_words r))) (event.Mark (r ∷ []))
    go (inl e) = inl (rw e refl)
    go (inr e) = inr (rw e refl)

move_at_most : {X : Type 0} (f : Rect → ℤ → ℤ → X) (command : List ℕ) (r : Rect) (dx dy : ℤ) → AreCorners r → FitsSigned w32 dx → FitsSigned w32 dy
    → AtMost (option_map (λ m. f m.rect m.dx m.dy) (move_of (command ∷ (corner_words r ++ offset_words dx dy)))) (f r dx dy)
unfolding move_of
move_at_most f command r dx dy h p q = go (corners_at_most command r (offset_words dx dy) h) (signed_at_most dx p) (signed_at_most dy q)
  where
    go : AtMost (corners_of (command ∷ (corner_words r ++ offset_words dx dy))) r → AtMost (signed (signed_decimal dx)) dx → AtMost (signed (signed_decimal dy)) dy
        → AtMost (option_map (λ m. f m.rect m.dx m.dy) (move_of (command ∷ (corner_words r ++ offset_words dx dy)))) (f r dx dy)
    go (inl a) (inl b) (inl c) = inl (rw (a, b, c) refl)
    go (inl a) (inl b) (inr c) = inr (rw (a, b, c) refl)
    go (inl a) (inr b) c = inr (rw (a, b) refl)
    go (inr a) b c = inr (rw a refl)

mark_says : (rs : List Rect) → AllByRecursion AreCorners rs → IsLine (mark_line rs) (Do (event.Mark rs))
mark_says [] h = line_says (codes "marks") [] _ refl tt refl refl
mark_says (r ∷ []) h = line_says (codes "mark") (corner_words r) _ refl (corner_are_words r h.0) refl (either_says _ _ (event.Mark (r ∷ [])) (mark_at_most (codes "mark") r h.0) (marks_read (codes "mark") (r ∷ []) h))
mark_says (r ∷ q ∷ rs) h = line_says (codes "marks") (flat_map corner_words (r ∷ q ∷ rs)) _ refl (corners_words (r ∷ q ∷ rs) h) refl (ap done_by (marks_read (codes "marks") (r ∷ q ∷ rs) h))

moved_words : (rs : List Rect) (dx dy : ℤ) → AreMoved rs dx dy → AreWords (flat_map corner_words rs ++ offset_words dx dy)
moved_words rs dx dy h = words-append (flat_map corner_words rs) (offset_words dx dy) (corners_words rs h.corners) (offset_are_words dx dy h.right h.down)

schedule_says : (rs : List Rect) (dx dy : ℤ) → AreMoved rs dx dy → IsLine (copy_line (codes "schedule") (codes "schedules") rs dx dy) (Do (event.ScheduleCopy rs dx dy))
schedule_says [] dx dy h = line_says (codes "schedules") (offset_words dx dy) _ refl (moved_words [] dx dy h) refl (ap done_by (moves_read verb.Schedule (codes "schedules") [] dx dy h))
schedule_says (r ∷ []) dx dy h =
    line_says (codes "schedule") (corner_words r ++ offset_words dx dy) _ refl (moved_words (r ∷ []) dx dy h) refl
    (either_says _ _ (event.ScheduleCopy (r ∷ []) dx dy) (move_at_most (λ q x y. event.ScheduleCopy (q ∷ []) x y) (codes "schedule") r dx dy h.corners.0 h.right h.down) (moves_read verb.Schedule (codes "schedule") (r ∷ []) dx dy h))
schedule_says (r ∷ q ∷ rs) dx dy h =
    line_says (codes "schedules") (flat_map corner_words (r ∷ q ∷ rs) ++ offset_words dx dy) _ refl (moved_words (r ∷ q ∷ rs) dx dy h) refl (ap done_by (moves_read verb.Schedule (codes "schedules") (r ∷ q ∷ rs) dx dy h))

copy_says : (rs : List Rect) (dx dy : ℤ) → AreMoved rs dx dy → IsLine (copy_line (codes "docopy") (codes "docopies") rs dx dy) (Do (event.DoCopy rs dx dy))
copy_says [] dx dy h = line_says (codes "docopies") (offset_words dx dy) _ refl (moved_words [] dx dy h) refl (ap done_by (moves_read verb.DoCopy (codes "docopies") [] dx dy h))
copy_says (r ∷ []) dx dy h =
    line_says (codes "docopy") (corner_words r ++ offset_words dx dy) _ refl (moved_words (r ∷ []) dx dy h) refl
    (either_says _ _ (event.DoCopy (r ∷ []) dx dy) (move_at_most (λ q x y. event.DoCopy (q ∷ []) x y) (codes "docopy") r dx dy h.corners.0 h.right h.down) (moves_read verb.DoCopy (codes "docopy") (r ∷ []) dx dy h))
copy_says (r ∷ q ∷ rs) dx dy h =
    line_says (codes "docopies") (flat_map corner_words (r ∷ q ∷ rs) ++ offset_words dx dy) _ refl (moved_words (r ∷ q ∷ rs) dx dy h) refl (ap done_by (moves_read verb.DoCopy (codes "docopies") (r ∷ q ∷ rs) dx dy h))

-- ---- the others

size_said : (w h : ℕ) → w < 2 ^ 31 → h < 2 ^ 31 → size_in (codes "resize" ∷ decimal w ∷ decimal h ∷ []) ≡ Some (event.Resize w h)
unfolding size_in
size_said w h p q = rw (number_is_read w p, number_is_read h q) refl

hear_said : (v : ℕ) (piece : List ℕ) → v < 2 ^ 64 → AreBytes piece → hear_of (codes "hear" ∷ decimal v ∷ hex_word piece ∷ []) ≡ Some (event.Hear v piece)
unfolding hear_of
hear_said v piece p q = rw (viewer_is_read v p, bytes_are_read piece q) refl

-- the line of a sound event
pub event_says : (e : Event) → IsSound e → IsLine (event_line e) (Do (said_event e))
event_says (event.Write r cs) h = write_says r cs h
event_says (event.Paint r cs) h = paint_says r cs h
event_says (event.Mark rs) h = mark_says rs h
event_says (event.ScheduleCopy rs dx dy) h = schedule_says rs dx dy h
event_says (event.DoCopy rs dx dy) h = copy_says rs dx dy h
event_says event.Bell h = line_says (codes "bell") [] _ refl tt refl refl
event_says (event.CutText text) h = line_says (codes "cuttext") (hex_word text ∷ []) _ refl (bytes_word text, tt) refl (rw (bytes_are_read text h) refl)
event_says (event.Resize w k) h = line_says (codes "resize") (decimal w ∷ decimal k ∷ []) _ refl (decimal_is_word w (omega (arith, h.0)), (decimal_is_word k (omega (arith, h.1)), tt)) refl (rw (size_said w k h.0 h.1) refl)
event_says (event.Connect v) h = line_says (codes "connect") (decimal v ∷ []) _ refl (decimal_is_word v h, tt) refl (rw (viewer_is_read v h) refl)
event_says (event.Hear v piece) h = line_says (codes "hear") (decimal v ∷ hex_word piece ∷ []) _ refl (decimal_is_word v h.0, (bytes_word piece, tt)) refl (rw (hear_said v piece h.0 h.1) refl)
event_says (event.Cut v) h = line_says (codes "cut") (decimal v ∷ []) _ refl (decimal_is_word v h, tt) refl (rw (viewer_is_read v h) refl)
event_says (event.Close v) h = line_says (codes "close") (decimal v ∷ []) _ refl (decimal_is_word v h, tt) refl (rw (viewer_is_read v h) refl)
