-- Worked examples of what viewers show, which compute.
use Rattle.std.specs.Prelude.{◌≡◌, ℕ, List, [], ◌∷◌, ◌++◌, drop, map, pos, Option, Some, None, refl}
use Rattle.std.specs.List.{range_with_len}
use Rattle.pixel_translate.specs.declared.PixelFormat.{PixelFormat}
use Rattle.pixel_translate.specs.Pixel.{server_format}
use Rattle.pixel_translate.specs.Examples.{rgb565}
use Rattle.region.specs.Examples.{rect}
use Rattle.encode_raw.specs.Reading.{Dot, pixels_at}
use Rattle.subrectangles.specs.Subrectangles.{rows_of}
use Rattle.subrectangles.specs.Reading.{subrectangles_at as rre_subrectangles_at}
use Rattle.encode_hextile.specs.Reading.{subrectangles_at}
use Rattle.viewer_picture.specs.Messages.{rectangles_at, messages_in}
use Rattle.scene.specs.declared.Config.{Config}
use Rattle.scene.specs.declared.History.TheVariants.{NotKept}
use Rattle.scene.specs.declared.Event.{Event}
use Rattle.scene.specs.declared.Event.TheVariants.{Write, Paint, ScheduleCopy, DoCopy, Bell, CutText, Connect, Hear, Cut, Close}
use Rattle.scene.specs.declared.Answer.{Answer}
use Rattle.scene.specs.Alone.{gives, nothing_to_say}
use Rattle.scene.specs.Answers.{answers, picture_of}
use Rattle.scene.specs.Examples.{demo, opens, ask, clean}
use Rattle.scene.specs.Drawing.{six, right_to_left, twice, four, four_start, lost_source, grown, shrunk}
use Rattle.scene.specs.Shown.{shown_to}

-- what viewer 1 shows of the first row
abbrev shows : ℕ → Config → List Event → List (Option Dot)
shows w c es = map (λ x. shown_to 1 es (answers c es) x 0) (range_with_len 0 w)

abbrev in_format : PixelFormat → ℕ → Option Dot
in_format f n = Some (record { format = f; pixel = n })

abbrev colours : List ℕ → List (Option Dot)
colours ns = map (in_format server_format) ns

-- copies that are sent right to left
two_copies : shows 6 six right_to_left ≡ colours (1 ∷ 2 ∷ 1 ∷ 4 ∷ 3 ∷ 6 ∷ [])
unfolding pixels_at rectangles_at messages_in
two_copies = refl

-- two copies by one offset, the second over the first's places
copied_twice : shows 6 six twice ≡ colours (1 ∷ 2 ∷ 2 ∷ 2 ∷ 3 ∷ 6 ∷ [])
unfolding pixels_at rectangles_at messages_in
copied_twice = refl

-- a copy whose source is asked for anew
source_asked_for : shows 4 four lost_source ≡ colours (1 ∷ 2 ∷ 2 ∷ 4 ∷ [])
unfolding pixels_at rectangles_at messages_in
source_asked_for = refl

-- what is asked for anew and not sent is shown no more
asked_for_anew : shows 4 four (four_start ++ Hear 1 (ask 0 1 0 2 1) ∷ []) ≡ in_format server_format 1 ∷ None ∷ None ∷ in_format server_format 4 ∷ []
unfolding pixels_at rectangles_at messages_in
asked_for_anew = refl

-- a format that is set between, and a text and a bell between
abbrev in_565 : List Event
in_565 = clean 1 4 3 ++ Hear 1 (0 ∷ 0 ∷ 0 ∷ 0 ∷ 0x10 ∷ 0x10 ∷ 0 ∷ 1 ∷ 0 ∷ 0x1f ∷ 0 ∷ 0x3f ∷ 0 ∷ 0x1f ∷ 0x0b ∷ 0x05 ∷ 0 ∷ 0 ∷ 0 ∷ 0 ∷ []) ∷ Bell ∷ CutText (0x68 ∷ 0x69 ∷ [])
    ∷ Paint (rect 0 0 1 1) (0xff8000 ∷ []) ∷ Hear 1 (ask 1 0 0 4 3) ∷ Cut 1 ∷ []

two_formats : shows 2 demo in_565 ≡ in_format rgb565 0xfc00 ∷ in_format server_format 0 ∷ []
unfolding pixels_at rectangles_at messages_in
two_formats = refl

-- a copy that waits while another place is painted and sent
abbrev painted_between : List Event
painted_between = four_start ++ DoCopy (rect 2 0 3 1 ∷ []) (pos 1) (pos 0) ∷ Paint (rect 0 0 1 1) (10 ∷ []) ∷ Hear 1 (ask 1 0 0 1 1) ∷ Cut 1 ∷ []

painted_place : shows 4 four painted_between ≡ colours (10 ∷ 2 ∷ 3 ∷ 4 ∷ [])
unfolding pixels_at rectangles_at messages_in
painted_place = refl

then_the_copy : shows 4 four (painted_between ++ Hear 1 (ask 1 0 0 4 1) ∷ Cut 1 ∷ []) ≡ colours (10 ∷ 2 ∷ 2 ∷ 4 ∷ [])
unfolding pixels_at rectangles_at messages_in
then_the_copy = refl

-- a copy of what the viewer lacks
owed_source : shows 4 four (four_start ++ Paint (rect 0 0 1 1) (10 ∷ []) ∷ DoCopy (rect 1 0 2 1 ∷ []) (pos 1) (pos 0) ∷ Hear 1 (ask 1 0 0 4 1) ∷ Cut 1 ∷ []) ≡ colours (10 ∷ 10 ∷ 3 ∷ 4 ∷ [])
unfolding pixels_at rectangles_at messages_in
owed_source = refl

-- RRE and Hextile
abbrev lists : ℕ → List Event
lists n = opens 1 ++ Hear 1 (2 ∷ 0 ∷ 0 ∷ 1 ∷ 0 ∷ 0 ∷ 0 ∷ n ∷ []) ∷ Paint (rect 0 0 9 1) (1 ∷ 1 ∷ 1 ∷ 2 ∷ 2 ∷ 1 ∷ 1 ∷ 1 ∷ 1 ∷ []) ∷ Hear 1 (ask 0 0 0 9 1) ∷ Cut 1 ∷ []

abbrev nine : Config
nine = record { width = 9; height = 1; name = []; rects_per_update = 50; history = NotKept }

by_rre : shows 9 nine (lists 2) ≡ colours (1 ∷ 1 ∷ 1 ∷ 2 ∷ 2 ∷ 1 ∷ 1 ∷ 1 ∷ 1 ∷ [])
unfolding pixels_at rectangles_at messages_in rows_of rre_subrectangles_at
by_rre = refl

by_hextile : shows 9 nine (lists 5) ≡ colours (1 ∷ 1 ∷ 1 ∷ 2 ∷ 2 ∷ 1 ∷ 1 ∷ 1 ∷ 1 ∷ [])
unfolding pixels_at rectangles_at messages_in rows_of subrectangles_at
by_hextile = refl

-- a connection that begins anew shows nothing
anew : shows 4 four (four_start ++ Close 1 ∷ Connect 1 ∷ []) ≡ None ∷ None ∷ None ∷ None ∷ []
unfolding pixels_at rectangles_at messages_in
anew = refl

-- what it would show of other answers than this server's: behind bytes that are no messages it shows nothing, whatever comes then
abbrev shows_given : List Event → List Answer → List (Option Dot)
shows_given es given = map (λ x. shown_to 1 (opens 1 ++ es) (answers demo (opens 1) ++ given) x 0) (range_with_len 0 2)

abbrev one_place : ℕ → List ℕ
one_place x = 0 ∷ 0 ∷ 0 ∷ 1 ∷ 0 ∷ x ∷ 0 ∷ 0 ∷ 0 ∷ 1 ∷ 0 ∷ 1 ∷ 0 ∷ 0 ∷ 0 ∷ 0 ∷ 5 ∷ 0 ∷ 0 ∷ 0 ∷ []

abbrev in_rre : List ℕ
in_rre = 0 ∷ 0 ∷ 0 ∷ 1 ∷ 0 ∷ 1 ∷ 0 ∷ 0 ∷ 0 ∷ 1 ∷ 0 ∷ 1 ∷ 0 ∷ 0 ∷ 0 ∷ 2 ∷ 0 ∷ 0 ∷ 0 ∷ 0 ∷ 6 ∷ 0 ∷ 0 ∷ 0 ∷ []

on_the_screen : shows_given (Cut 1 ∷ Cut 1 ∷ []) (gives (one_place 0) ∷ gives (one_place 1) ∷ []) ≡ colours (5 ∷ 5 ∷ [])
unfolding pixels_at rectangles_at messages_in
on_the_screen = refl

beyond_the_screen : shows_given (Cut 1 ∷ Cut 1 ∷ Cut 1 ∷ []) (gives (one_place 0) ∷ gives (one_place 4) ∷ gives (one_place 1) ∷ []) ≡ None ∷ None ∷ []
unfolding pixels_at rectangles_at messages_in
beyond_the_screen = refl

not_listed : shows_given (Cut 1 ∷ Cut 1 ∷ []) (gives (one_place 0) ∷ gives in_rre ∷ []) ≡ None ∷ None ∷ []
unfolding pixels_at rectangles_at messages_in rre_subrectangles_at
not_listed = refl

abbrev asks_for_rre : List ℕ
asks_for_rre = 2 ∷ 0 ∷ 0 ∷ 1 ∷ 0 ∷ 0 ∷ 0 ∷ 2 ∷ []

listed : shows_given (Cut 1 ∷ Hear 1 asks_for_rre ∷ Cut 1 ∷ []) (gives (one_place 0) ∷ nothing_to_say ∷ gives in_rre ∷ []) ≡ colours (5 ∷ 6 ∷ [])
unfolding pixels_at rectangles_at messages_in rre_subrectangles_at
listed = refl

no_version : map (λ x. shown_to 1 (opens 1 ++ Cut 1 ∷ []) (gives [] ∷ (drop 1 (answers demo (opens 1)) ++ gives (one_place 0) ∷ [])) x 0) (range_with_len 0 2) ≡ None ∷ None ∷ []
unfolding pixels_at rectangles_at messages_in
no_version = refl

-- where a viewer isn't told of what is drawn, or is told of what isn't, it shows something else
abbrev written_unseen : List Event
written_unseen = four_start ++ Write (rect 0 0 1 1) (9 ∷ []) ∷ Hear 1 (ask 1 0 0 4 1) ∷ Cut 1 ∷ []

shows_the_old : shows 4 four written_unseen ≡ colours (1 ∷ 2 ∷ 3 ∷ 4 ∷ [])
unfolding pixels_at rectangles_at messages_in
shows_the_old = refl

drawn_anew : (picture_of four written_unseen).colours ≡ (9 ∷ 2 ∷ 3 ∷ 4 ∷ [])
drawn_anew = refl

abbrev scheduled_only : List Event
scheduled_only = four_start ++ ScheduleCopy (rect 1 0 2 1 ∷ []) (pos 1) (pos 0) ∷ Hear 1 (ask 1 0 0 4 1) ∷ Cut 1 ∷ []

shows_the_copy : shows 4 four scheduled_only ≡ colours (1 ∷ 1 ∷ 3 ∷ 4 ∷ [])
unfolding pixels_at rectangles_at messages_in
shows_the_copy = refl

drawn_as_before : (picture_of four scheduled_only).colours ≡ (1 ∷ 2 ∷ 3 ∷ 4 ∷ [])
drawn_as_before = refl

-- a new size: a viewer that is told it shows nothing until it asks anew, and then all of it; one that isn't shows what it has of it
abbrev rows_shown : ℕ → List (Option Dot)
rows_shown v = map (λ x. shown_to v grown (answers four grown) x 1) (range_with_len 0 6)

told_anew : rows_shown 1 ≡ colours (0 ∷ 0 ∷ 0 ∷ 0 ∷ 0 ∷ 10 ∷ [])
unfolding pixels_at rectangles_at messages_in
told_anew = refl

not_told : rows_shown 2 ≡ None ∷ None ∷ None ∷ None ∷ None ∷ None ∷ []
unfolding pixels_at rectangles_at messages_in
not_told = refl

shows_less : shows 4 four shrunk ≡ colours (0 ∷ 0 ∷ 0 ∷ 0 ∷ [])
unfolding pixels_at rectangles_at messages_in
shows_less = refl
