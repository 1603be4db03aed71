-- Worked examples of drawing calls, copies, encodings and notices, which compute.
use Rattle.std.specs.Prelude.{◌≡◌, ℕ, ◌+◌, ◌%◌, List, [], ◌∷◌, ◌++◌, replicate, map, flat_map, pos, refl}
use Rattle.std.specs.List.{range_with_len}
use Rattle.region.specs.Examples.{rect}
use Rattle.subrectangles.specs.Subrectangles.{rows_of}
use Rattle.pixel_translate.specs.Pixel.{format_bytes, server_format}
use Rattle.messages.specs.Server.{server_version, server_init, colour_map}
use Rattle.scene.specs.declared.Config.{Config}
use Rattle.scene.specs.declared.Event.{Event}
use Rattle.scene.specs.declared.Event.TheVariants.{Write, Paint, Mark, ScheduleCopy, DoCopy, Bell, CutText, Resize, Connect, Hear, Cut}
use Rattle.scene.specs.declared.ScreenError.TheVariants as refusals
use Rattle.scene.specs.Alone.{nothing_to_say, gives, refuses}
use Rattle.scene.specs.Answers.{answers, picture_of}
use Rattle.scene.specs.Examples.{demo, opens, ask, last_answers, sized, clean, update, head, px}

-- one that uses CopyRect too
abbrev pub clean_with_copies : (viewer width height : ℕ) → List Event
clean_with_copies v w h = opens v ++ Hear v (2 ∷ 0 ∷ 0 ∷ 2 ∷ 0 ∷ 0 ∷ 0 ∷ 1 ∷ 0 ∷ 0 ∷ 0 ∷ 0 ∷ []) ∷ Hear v (ask 0 0 0 w h) ∷ Cut v ∷ []

-- two viewers, one with CopyRect
two_viewers : last_answers 2 (answers (sized 4 1 50) (Paint (rect 0 0 4 1) (1 ∷ 2 ∷ 3 ∷ 4 ∷ []) ∷ clean_with_copies 1 4 1 ++ clean 2 4 1
    ++ DoCopy (rect 1 0 4 1 ∷ []) (pos 1) (pos 0) ∷ Hear 1 (ask 1 0 0 4 1) ∷ Hear 2 (ask 1 0 0 4 1) ∷ Cut 1 ∷ Cut 2 ∷ [])) ≡
    (gives (update 1 ++ head 1 0 3 1 1 ++ 0 ∷ 0 ∷ 0 ∷ 0 ∷ []) ∷ gives (update 1 ++ head 1 0 3 1 0 ++ px (1 ∷ 2 ∷ 3 ∷ [])) ∷ [])
two_viewers = refl

abbrev pub six : Config
six = sized 6 1 50

abbrev pub six_start : List Event
six_start = Paint (rect 0 0 6 1) (1 ∷ 2 ∷ 3 ∷ 4 ∷ 5 ∷ 6 ∷ []) ∷ clean_with_copies 1 6 1

-- copies that are sent right to left
abbrev pub right_to_left : List Event
right_to_left = six_start ++ DoCopy (rect 4 0 5 1 ∷ []) (pos 2) (pos 0) ∷ DoCopy (rect 2 0 3 1 ∷ []) (pos 2) (pos 0) ∷ Hear 1 (ask 1 0 0 6 1) ∷ Cut 1 ∷ []

sent_right_to_left : last_answers 1 (answers six right_to_left) ≡ (gives (update 2 ++ head 4 0 1 1 1 ++ 0 ∷ 2 ∷ 0 ∷ 0 ∷ head 2 0 1 1 1 ++ 0 ∷ 0 ∷ 0 ∷ 0 ∷ []) ∷ [])
sent_right_to_left = refl

-- bells and texts
notices : last_answers 4 (answers demo (opens 1 ++ Bell ∷ CutText (0x68 ∷ 0x69 ∷ []) ∷ Cut 1 ∷ Cut 1 ∷ [])) ≡
    (nothing_to_say ∷ nothing_to_say ∷ gives (2 ∷ 3 ∷ 0 ∷ 0 ∷ 0 ∷ 0 ∷ 0 ∷ 0 ∷ 2 ∷ 0x68 ∷ 0x69 ∷ []) ∷ nothing_to_say ∷ [])
notices = refl

sixty_four : last_answers 1 (answers demo (opens 1 ++ replicate 65 Bell ++ Cut 1 ∷ [])) ≡ (gives (replicate 64 2) ∷ [])
sixty_four = refl

not_opened : last_answers 1 (answers demo (Connect 1 ∷ Bell ∷ Cut 1 ∷ [])) ≡ (nothing_to_say ∷ [])
not_opened = refl

long_text : answers demo (CutText (replicate 65537 0) ∷ []) ≡ (refuses refusals.TextTooLong ∷ [])
long_text = refl

-- two copies by one offset, the second over the first's places
abbrev pub twice : List Event
twice = six_start ++ DoCopy (rect 2 0 4 1 ∷ []) (pos 1) (pos 0) ∷ DoCopy (rect 3 0 5 1 ∷ []) (pos 1) (pos 0) ∷ Hear 1 (ask 1 0 0 6 1) ∷ Cut 1 ∷ []

twice_sent : last_answers 1 (answers six twice) ≡ (gives (update 1 ++ head 2 0 3 1 0 ++ px (2 ∷ 2 ∷ 3 ∷ [])) ∷ [])
twice_sent = refl

abbrev pub four : Config
four = sized 4 1 50

abbrev pub four_start : List Event
four_start = Paint (rect 0 0 4 1) (1 ∷ 2 ∷ 3 ∷ 4 ∷ []) ∷ clean_with_copies 1 4 1

-- a copy whose source is asked for anew
abbrev pub lost_source : List Event
lost_source = four_start ++ DoCopy (rect 2 0 3 1 ∷ []) (pos 1) (pos 0) ∷ Hear 1 (ask 0 1 0 1 1) ∷ Cut 1 ∷ Hear 1 (ask 1 0 0 4 1) ∷ Cut 1 ∷ []

lost_source_sent : last_answers 3 (answers four lost_source) ≡ (gives (update 1 ++ head 1 0 1 1 0 ++ px (2 ∷ [])) ∷ nothing_to_say ∷ gives (update 1 ++ head 2 0 1 1 0 ++ px (2 ∷ [])) ∷ [])
lost_source_sent = refl

-- a copy that waits while another place is painted and sent
painted_between : last_answers 3 (answers four (four_start ++ DoCopy (rect 2 0 3 1 ∷ []) (pos 1) (pos 0) ∷ Paint (rect 0 0 1 1) (10 ∷ []) ∷ Hear 1 (ask 1 0 0 1 1) ∷ Cut 1 ∷ Hear 1 (ask 1 0 0 4 1) ∷ Cut 1 ∷ [])) ≡
    (gives (update 1 ++ head 0 0 1 1 0 ++ px (10 ∷ [])) ∷ nothing_to_say ∷ gives (update 1 ++ head 2 0 1 1 0 ++ px (2 ∷ [])) ∷ [])
painted_between = refl

-- a copy of what the viewer lacks
owed_source : last_answers 1 (answers four (four_start ++ Paint (rect 0 0 1 1) (10 ∷ []) ∷ DoCopy (rect 1 0 2 1 ∷ []) (pos 1) (pos 0) ∷ Hear 1 (ask 1 0 0 4 1) ∷ Cut 1 ∷ [])) ≡
    (gives (update 1 ++ head 0 0 2 1 0 ++ px (10 ∷ 10 ∷ [])) ∷ [])
owed_source = refl

-- down by one, over itself
abbrev tall : Config
tall = sized 1 4 50

abbrev tall_start : List Event
tall_start = Paint (rect 0 0 1 4) (1 ∷ 2 ∷ 3 ∷ 4 ∷ []) ∷ clean_with_copies 1 1 4

abbrev asked_and_cut : List Event
asked_and_cut = Hear 1 (ask 1 0 0 1 4) ∷ Cut 1 ∷ []

down_sent : last_answers 1 (answers tall (tall_start ++ DoCopy (rect 0 1 1 4 ∷ []) (pos 0) (pos 1) ∷ asked_and_cut)) ≡ (gives (update 1 ++ head 0 1 1 3 1 ++ 0 ∷ 0 ∷ 0 ∷ 0 ∷ []) ∷ [])
down_sent = refl

down_picture : (picture_of tall (tall_start ++ DoCopy (rect 0 1 1 4 ∷ []) (pos 0) (pos 1) ∷ [])).colours ≡ (1 ∷ 1 ∷ 2 ∷ 3 ∷ [])
down_picture = refl

scheduled_sent : last_answers 1 (answers tall (tall_start ++ ScheduleCopy (rect 0 1 1 4 ∷ []) (pos 0) (pos 1) ∷ asked_and_cut)) ≡ (gives (update 1 ++ head 0 1 1 3 1 ++ 0 ∷ 0 ∷ 0 ∷ 0 ∷ []) ∷ [])
scheduled_sent = refl

scheduled_picture : (picture_of tall (tall_start ++ ScheduleCopy (rect 0 1 1 4 ∷ []) (pos 0) (pos 1) ∷ [])).colours ≡ (1 ∷ 2 ∷ 3 ∷ 4 ∷ [])
scheduled_picture = refl

no_move : last_answers 1 (answers tall (tall_start ++ DoCopy (rect 0 1 1 4 ∷ []) (pos 0) (pos 0) ∷ DoCopy (rect 0 1 1 4 ∷ []) (pos 0) (pos 9) ∷ asked_and_cut)) ≡ (nothing_to_say ∷ [])
no_move = refl

-- written colours are sent once they are marked
written_then_marked : last_answers 3 (answers four (clean 1 4 1 ++ Write (rect 0 0 1 1) (0xff ∷ []) ∷ Hear 1 (ask 1 0 0 4 1) ∷ Cut 1 ∷ Mark (record { x1 = pos 1; y1 = pos 1; x2 = pos 0; y2 = pos 0 } ∷ []) ∷ Cut 1 ∷ [])) ≡
    (nothing_to_say ∷ nothing_to_say ∷ gives (update 1 ++ head 0 0 1 1 0 ++ px (0xff ∷ [])) ∷ [])
written_then_marked = refl

-- without CopyRect a SetEncodings makes the copies pixels
no_more_copies : last_answers 1 (answers four (four_start ++ DoCopy (rect 1 0 4 1 ∷ []) (pos 1) (pos 0) ∷ Hear 1 (2 ∷ 0 ∷ 0 ∷ 1 ∷ 0 ∷ 0 ∷ 0 ∷ 0 ∷ []) ∷ Hear 1 (ask 1 0 0 4 1) ∷ Cut 1 ∷ [])) ≡
    (gives (update 1 ++ head 1 0 3 1 0 ++ px (1 ∷ 2 ∷ 3 ∷ [])) ∷ [])
no_more_copies = refl

-- RRE, and Hextile
abbrev asks_for : List ℕ → List ℕ
asks_for numbers = 2 ∷ 0 ∷ 0 ∷ 2 ∷ flat_map (λ n. 0 ∷ 0 ∷ 0 ∷ n ∷ []) numbers

in_rre : last_answers 1 (answers (sized 4 4 50) (opens 1 ++ Hear 1 (asks_for (7 ∷ 2 ∷ [])) ∷ Paint (rect 0 0 4 4) (replicate 16 0x112233) ∷ Hear 1 (ask 0 0 0 4 4) ∷ Cut 1 ∷ [])) ≡
    (gives (update 1 ++ head 0 0 4 4 2 ++ 0 ∷ 0 ∷ 0 ∷ 0 ∷ 0x33 ∷ 0x22 ∷ 0x11 ∷ 0 ∷ []) ∷ [])
unfolding rows_of
in_rre = refl

in_hextile : last_answers 1 (answers (sized 17 1 50) (opens 1 ++ Hear 1 (asks_for (5 ∷ 2 ∷ [])) ∷ Paint (rect 0 0 17 1) (replicate 17 0x112233) ∷ Hear 1 (ask 0 0 0 17 1) ∷ Cut 1 ∷ [])) ≡
    (gives (update 1 ++ head 0 0 17 1 5 ++ 2 ∷ 0x33 ∷ 0x22 ∷ 0x11 ∷ 0 ∷ 0 ∷ []) ∷ [])
unfolding rows_of
in_hextile = refl

-- 300 marks, for two viewers
abbrev nine : Config
nine = sized 9 1 50

abbrev many_marks : List Event
many_marks = clean 1 9 1 ++ clean 2 9 1 ++ map (λ k. Mark (rect ((k + 1) % 5) 0 ((k + 1) % 5 + 1) 1 ∷ [])) (range_with_len 0 300) ++ Hear 1 (ask 1 0 0 9 1) ∷ Cut 1 ∷ Hear 2 (ask 1 0 0 9 1) ∷ Cut 2 ∷ []

marks_joined : last_answers 4 (answers nine many_marks) ≡
    (nothing_to_say ∷ gives (update 1 ++ head 0 0 5 1 0 ++ replicate 20 0) ∷ nothing_to_say ∷ gives (update 1 ++ head 0 0 5 1 0 ++ replicate 20 0) ∷ [])
marks_joined = refl

-- a colour map of eight bits: the map comes first, once
abbrev pub in_map : List ℕ
in_map = 0 ∷ 0 ∷ 0 ∷ 0 ∷ 8 ∷ 8 ∷ 0 ∷ 0 ∷ 0 ∷ 0 ∷ 0 ∷ 0 ∷ 0 ∷ 0 ∷ 0 ∷ 0 ∷ 0 ∷ 0 ∷ 0 ∷ 0 ∷ []

map_sent : last_answers 5 (answers demo (opens 1 ++ Hear 1 in_map ∷ Cut 1 ∷ Paint (rect 0 0 1 1) (0xff8000 ∷ []) ∷ Hear 1 (ask 0 0 0 1 1) ∷ Cut 1 ∷ [])) ≡
    (nothing_to_say ∷ gives colour_map ∷ nothing_to_say ∷ nothing_to_say ∷ gives (update 1 ++ head 0 0 1 1 0 ++ 39 ∷ []) ∷ [])
unfolding colour_map
map_sent = refl

-- also where 64 notices wait; and not where the format has none any more
map_before_notices : last_answers 1 (answers demo (opens 1 ++ replicate 64 Bell ++ Hear 1 in_map ∷ Cut 1 ∷ [])) ≡ (gives (colour_map ++ replicate 64 2) ∷ [])
map_before_notices = refl

no_map_any_more : last_answers 1 (answers demo (opens 1 ++ Hear 1 in_map ∷ Hear 1 (0 ∷ 0 ∷ 0 ∷ 0 ∷ format_bytes server_format) ∷ Cut 1 ∷ [])) ≡ (nothing_to_say ∷ [])
no_map_any_more = refl

-- a new size: viewer 1, which lists DesktopSize, is told it first, and then sees all of it; viewer 2 sees what it has of it
abbrev pub lists_size : List ℕ
lists_size = 2 ∷ 0 ∷ 0 ∷ 2 ∷ 0 ∷ 0 ∷ 0 ∷ 0 ∷ 0xff ∷ 0xff ∷ 0xff ∷ 0x21 ∷ []

abbrev pub takes_sizes : (viewer width height : ℕ) → List Event
takes_sizes v w h = opens v ++ Hear v lists_size ∷ Hear v (ask 0 0 0 w h) ∷ Cut v ∷ []

abbrev pub size_head : ℕ → ℕ → List ℕ
size_head w h = 0 ∷ 0 ∷ 0 ∷ 0 ∷ 0 ∷ w ∷ 0 ∷ h ∷ 0xff ∷ 0xff ∷ 0xff ∷ 0x21 ∷ []

abbrev pub grown : List Event
grown = Paint (rect 0 0 4 1) (1 ∷ 2 ∷ 3 ∷ 4 ∷ []) ∷ takes_sizes 1 4 1 ++ clean 2 4 1
    ++ Resize 6 2 ∷ Paint (rect 5 1 6 2) (10 ∷ []) ∷ Hear 1 (ask 1 0 0 4 1) ∷ Hear 2 (ask 1 0 0 4 1) ∷ Cut 1 ∷ Cut 2
    ∷ Hear 1 (ask 0 0 0 6 2) ∷ Cut 1 ∷ Hear 2 (ask 1 0 0 6 2) ∷ Cut 2 ∷ []

grown_sent : last_answers 6 (answers four grown) ≡
    (gives (update 1 ++ size_head 6 2) ∷ gives (update 1 ++ head 0 0 4 1 0 ++ replicate 16 0)
    ∷ nothing_to_say ∷ gives (update 1 ++ head 0 0 6 2 0 ++ replicate 44 0 ++ 10 ∷ 0 ∷ 0 ∷ 0 ∷ []) ∷ nothing_to_say ∷ nothing_to_say ∷ [])
grown_sent = refl

-- a viewer that doesn't list it, on a smaller screen
abbrev pub shrunk : List Event
shrunk = clean 1 4 1 ++ Resize 2 1 ∷ Hear 1 (ask 1 3 0 1 1) ∷ Cut 1 ∷ Hear 1 (ask 1 0 0 4 1) ∷ Cut 1 ∷ []

shrunk_sent : last_answers 3 (answers four shrunk) ≡ (nothing_to_say ∷ nothing_to_say ∷ gives (update 1 ++ head 0 0 2 1 0 ++ replicate 8 0) ∷ [])
shrunk_sent = refl

no_size : last_answers 1 (answers four (Resize 0 1 ∷ [])) ≡ (refuses refusals.BadSize ∷ [])
no_size = refl

-- nothing is told to a viewer that asks for nothing; back at its size, every place is owed
abbrev pub there_and_back : List Event
there_and_back = takes_sizes 1 4 1 ++ Resize 6 2 ∷ Cut 1 ∷ Resize 4 1 ∷ Hear 1 (ask 1 0 0 4 1) ∷ Cut 1 ∷ []

there_and_back_sent : last_answers 4 (answers four there_and_back) ≡
    (nothing_to_say ∷ nothing_to_say ∷ nothing_to_say ∷ gives (update 1 ++ head 0 0 4 1 0 ++ replicate 16 0) ∷ [])
there_and_back_sent = refl

-- a rectangle is refused by the size of now, and a ServerInit tells it
sized_anew : last_answers 3 (answers four (Resize 5 1 ∷ Paint (rect 0 0 6 1) [] ∷ Connect 3 ∷ Hear 3 (server_version ++ 1 ∷ 1 ∷ []) ∷ [])) ≡
    (refuses refusals.BadRect ∷ gives server_version ∷ gives (1 ∷ 1 ∷ 0 ∷ 0 ∷ 0 ∷ 0 ∷ server_init 5 1 []) ∷ [])
sized_anew = refl
