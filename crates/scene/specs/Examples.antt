-- Worked examples, which compute.
use Rattle.std.specs.Prelude.{◌≡◌, ℕ, ◌+◌, List, [], ◌∷◌, ◌++◌, replicate, reverse, take, drop, map, flat_map, Some, None, refl}
use Rattle.region.specs.Examples.{rect}
use Rattle.messages.specs.Server.{server_version}
use Rattle.messages.specs.declared.Fault.TheVariants as faults
use Rattle.scene.specs.declared.Config.{Config}
use Rattle.scene.specs.declared.History.TheVariants.{NotKept}
use Rattle.scene.specs.declared.Event.{Event}
use Rattle.scene.specs.declared.Event.TheVariants.{Paint, Connect, Hear, Cut, Close}
use Rattle.scene.specs.declared.ScreenError.TheVariants as refusals
use Rattle.scene.specs.Alone.{config_refusal, nothing_to_say, refuses, gives}
use Rattle.scene.specs.declared.Answer.{Answer}
use Rattle.scene.specs.Answers.{answers}

-- the server's format
abbrev F : List ℕ
F = 0x20 ∷ 0x18 ∷ 0 ∷ 1 ∷ 0 ∷ 0xff ∷ 0 ∷ 0xff ∷ 0 ∷ 0xff ∷ 0x10 ∷ 0x08 ∷ 0 ∷ 0 ∷ 0 ∷ 0 ∷ []

-- a viewer's opening in version 3.8
abbrev opening : List ℕ
opening = server_version ++ 1 ∷ 1 ∷ []

abbrev pub demo : Config
demo = record { width = 4; height = 3; name = 0x64 ∷ 0x65 ∷ 0x6d ∷ 0x6f ∷ []; rects_per_update = 50; history = NotKept }

-- the ServerInit of that screen
abbrev demo_init : List ℕ
demo_init = 0 ∷ 4 ∷ 0 ∷ 3 ∷ F ++ 0 ∷ 0 ∷ 0 ∷ 4 ∷ 0x64 ∷ 0x65 ∷ 0x6d ∷ 0x6f ∷ []

abbrev pub opens : ℕ → List Event
opens v = Connect v ∷ Hear v opening ∷ []

opened : answers demo (opens 1) ≡ (gives server_version ∷ gives (1 ∷ 1 ∷ 0 ∷ 0 ∷ 0 ∷ 0 ∷ demo_init) ∷ [])
opened = refl

-- byte by byte
byte_by_byte : answers demo (Connect 1 ∷ map (λ b. Hear 1 (b ∷ [])) opening) ≡ (gives server_version ∷ replicate 11 nothing_to_say ++ gives (1 ∷ 1 ∷ []) ∷ gives (0 ∷ 0 ∷ 0 ∷ 0 ∷ []) ∷ gives demo_init ∷ [])
byte_by_byte = refl

-- version 3.5 is served as 3.3
version_3_5 : answers demo (Connect 1 ∷ Hear 1 (0x52 ∷ 0x46 ∷ 0x42 ∷ 0x20 ∷ 0x30 ∷ 0x30 ∷ 0x33 ∷ 0x2e ∷ 0x30 ∷ 0x30 ∷ 0x35 ∷ 0x0a ∷ []) ∷ Hear 1 (1 ∷ []) ∷ []) ≡ (gives server_version ∷ gives (0 ∷ 0 ∷ 0 ∷ 1 ∷ []) ∷ gives demo_init ∷ [])
version_3_5 = refl

-- no result in version 3.7
version_3_7 : answers demo (Connect 1 ∷ Hear 1 (0x52 ∷ 0x46 ∷ 0x42 ∷ 0x20 ∷ 0x30 ∷ 0x30 ∷ 0x33 ∷ 0x2e ∷ 0x30 ∷ 0x30 ∷ 0x37 ∷ 0x0a ∷ 1 ∷ 1 ∷ []) ∷ []) ≡ (gives server_version ∷ gives (1 ∷ 1 ∷ demo_init) ∷ [])
version_3_7 = refl

-- a FramebufferUpdateRequest of what begins in the corner
abbrev request : ℕ → ℕ → ℕ → List ℕ
request incremental w h = 3 ∷ incremental ∷ 0 ∷ 0 ∷ 0 ∷ 0 ∷ 0 ∷ w ∷ 0 ∷ h ∷ []

asked_and_sent : answers demo (opens 1 ++ Hear 1 (request 0 4 3) ∷ Cut 1 ∷ Hear 1 (request 1 4 3) ∷ Cut 1 ∷ Paint (rect 2 1 3 2) (0xff8000 ∷ []) ∷ Cut 1 ∷ Cut 1 ∷ []) ≡
    (gives server_version ∷ gives (1 ∷ 1 ∷ 0 ∷ 0 ∷ 0 ∷ 0 ∷ demo_init) ∷ nothing_to_say
    ∷ gives (0 ∷ 0 ∷ 0 ∷ 1 ∷ 0 ∷ 0 ∷ 0 ∷ 0 ∷ 0 ∷ 4 ∷ 0 ∷ 3 ∷ 0 ∷ 0 ∷ 0 ∷ 0 ∷ replicate 48 0) ∷ nothing_to_say ∷ nothing_to_say ∷ nothing_to_say
    ∷ gives (0 ∷ 0 ∷ 0 ∷ 1 ∷ 0 ∷ 2 ∷ 0 ∷ 1 ∷ 0 ∷ 1 ∷ 0 ∷ 1 ∷ 0 ∷ 0 ∷ 0 ∷ 0 ∷ 0 ∷ 0x80 ∷ 0xff ∷ 0 ∷ []) ∷ nothing_to_say ∷ [])
asked_and_sent = refl

-- what is asked for outside the screen is not sent
abbrev pub ask : ℕ → ℕ → ℕ → ℕ → ℕ → List ℕ
ask incremental x y w h = 3 ∷ incremental ∷ 0 ∷ x ∷ 0 ∷ y ∷ 0 ∷ w ∷ 0 ∷ h ∷ []

-- the last answers of a run
abbrev pub last_answers : ℕ → List Answer → List Answer
last_answers n answers = reverse (take n (reverse answers))

outside : last_answers 3 (answers demo (opens 1 ++ Hear 1 (ask 0 4 0 1 1) ∷ Cut 1 ∷ Hear 1 (ask 1 3 2 10 10) ∷ Cut 1 ∷ [])) ≡
    (nothing_to_say ∷ nothing_to_say ∷ gives (0 ∷ 0 ∷ 0 ∷ 1 ∷ 0 ∷ 3 ∷ 0 ∷ 2 ∷ 0 ∷ 1 ∷ 0 ∷ 1 ∷ 0 ∷ 0 ∷ 0 ∷ 0 ∷ 0 ∷ 0 ∷ 0 ∷ 0 ∷ []) ∷ [])
outside = refl

abbrev pub sized : ℕ → ℕ → ℕ → Config
sized w h limit = record { width = w; height = h; name = []; rects_per_update = limit; history = NotKept }

-- a viewer that has everything
abbrev pub clean : ℕ → ℕ → ℕ → List Event
clean v w h = opens v ++ Hear v (ask 0 0 0 w h) ∷ Cut v ∷ []

-- RFC 6143, 7.6.1: an update of so many rectangles, and the head of one
abbrev pub update : ℕ → List ℕ
update n = 0 ∷ 0 ∷ 0 ∷ n ∷ []

abbrev pub head : ℕ → ℕ → ℕ → ℕ → ℕ → List ℕ
head x y w h encoding = 0 ∷ x ∷ 0 ∷ y ∷ 0 ∷ w ∷ 0 ∷ h ∷ 0 ∷ 0 ∷ 0 ∷ encoding ∷ []

-- small colours in the server's format
abbrev pub px : List ℕ → List ℕ
px colours = flat_map (λ n. n ∷ 0 ∷ 0 ∷ 0 ∷ []) colours

abbrev painted_places : List ℕ → List Event
painted_places xs = map (λ x. Paint (rect x 0 (x + 1) 1) (0x0a ∷ [])) xs

more_than_the_limit : last_answers 8 (answers (sized 9 1 2) (clean 1 9 1 ++ painted_places (0 ∷ 2 ∷ 4 ∷ 6 ∷ 8 ∷ [])
    ++ Hear 1 (ask 1 0 0 9 1) ∷ Cut 1 ∷ Hear 1 (ask 1 0 0 9 1) ∷ Cut 1 ∷ Hear 1 (ask 1 0 0 9 1) ∷ Cut 1 ∷ Hear 1 (ask 1 0 0 9 1) ∷ Cut 1 ∷ [])) ≡
    (nothing_to_say ∷ gives (update 2 ++ head 0 0 1 1 0 ++ px (10 ∷ []) ++ head 2 0 1 1 0 ++ px (10 ∷ []))
    ∷ nothing_to_say ∷ gives (update 2 ++ head 4 0 1 1 0 ++ px (10 ∷ []) ++ head 6 0 1 1 0 ++ px (10 ∷ []))
    ∷ nothing_to_say ∷ gives (update 1 ++ head 8 0 1 1 0 ++ px (10 ∷ []))
    ∷ nothing_to_say ∷ nothing_to_say ∷ [])
more_than_the_limit = refl

-- refusals
refused : answers demo (Paint (rect 3 0 5 1) (1 ∷ 2 ∷ []) ∷ Paint (rect 0 0 2 2) (1 ∷ 2 ∷ []) ∷ Paint (rect 3 0 5 1) (1 ∷ []) ∷ Cut 9 ∷ Connect 1 ∷ Connect 1 ∷ Close 1 ∷ Connect 1 ∷ []) ≡
    (refuses refusals.BadRect ∷ refuses refusals.BadPixelCount ∷ refuses refusals.BadRect ∷ refuses refusals.NoViewer
    ∷ gives server_version ∷ refuses refusals.NumberInUse ∷ nothing_to_say ∷ gives server_version ∷ [])
refused = refl

-- a faulty viewer, and one that isn't
faulty_viewer : drop 4 (answers demo (opens 1 ++ opens 2 ++ Hear 1 (7 ∷ []) ∷ Hear 1 (0 ∷ []) ∷ Cut 1 ∷ Cut 2 ∷ [])) ≡
    (record nothing_to_say { closed = Some (faults.UnknownMessage 7) } ∷ record nothing_to_say { closed = Some (faults.UnknownMessage 7) } ∷ nothing_to_say ∷ nothing_to_say ∷ [])
faulty_viewer = refl

-- what a screen can't be made with
abbrev with_name : ℕ → Config
with_name n = record { width = 1; height = 1; name = replicate n 0; rects_per_update = 50; history = NotKept }

limits : map config_refusal (sized 0 3 50 ∷ sized 8193 1 50 ∷ sized 8192 2049 50 ∷ sized 8192 2048 50 ∷ with_name 256 ∷ with_name 255 ∷ sized 1 1 0 ∷ sized 1 1 1001 ∷ sized 1 1 1000 ∷ []) ≡
    (Some refusals.BadSize ∷ Some refusals.BadSize ∷ Some refusals.BadSize ∷ None ∷ Some refusals.BadName ∷ None ∷ Some refusals.BadRectLimit ∷ Some refusals.BadRectLimit ∷ None ∷ [])
limits = refl
