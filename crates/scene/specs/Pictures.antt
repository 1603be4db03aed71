-- What holds of the viewers' pictures (RFC 6143, 7.6.1), and of their colour maps (7.6.2).
use Rattle.std.specs.Prelude.{◌≡◌, ℕ, ◌<◌, Bool, true, false, List, All, None, Some}
use Rattle.std.specs.List.{list_all}
use Rattle.copy_schedule.specs.Marks.{Marks}
use Rattle.pixel_translate.specs.Pixel.{is_colour_map}
use Rattle.messages.specs.Reading.{is_open_rest}
use Rattle.messages.specs.Server.{map_entry}
use Rattle.viewer_picture.specs.Messages.{ColourMap}
use Rattle.viewer_picture.specs.Pictures.{ShowsPicture}
use Rattle.viewer.specs.Viewer.{KeptViewer}
use Rattle.scene.specs.declared.Config.{Config}
use Rattle.scene.specs.declared.Event.{Event}
use Rattle.scene.specs.declared.Event.TheVariants.{Write, ScheduleCopy}
use Rattle.scene.specs.declared.Answer.{Answer}
use Rattle.scene.specs.Alone.{config_refusal}
use Rattle.scene.specs.Answers.{answers, scene_after}
use Rattle.scene.specs.Shown.{Watching, at_first, watching}

-- the viewers are told of what it draws, and of nothing else
abbrev pub is_told : Event → Bool
is_told (Write r colours) = false
is_told (ScheduleCopy rects dx dy) = false
is_told _ = true

-- a viewer could read all that it was sent, and shows a picture by its marks
pub record ReadsAndShows (w h : ℕ) (picture : List ℕ) (marks : Marks) (s : Watching) : Type 0 where
  pub legal : s.legal ≡ true
  pub shows : ShowsPicture w h picture marks s.shown

-- each viewer that is there does so with what is drawn, by what it said and was answered
abbrev pub ShowPictures : Config → List Event → List Answer → Type 0
ShowPictures c es given =
    let f = (scene_after c es).picture in
    All (λ p. ReadsAndShows f.width f.height f.colours p.1.marks (watching p.0 es given at_first)) (scene_after c es).viewers

-- a viewer's colour map is the server's
abbrev pub IsServers : ColourMap → Type 0
IsServers colours = (pixel : ℕ) → pixel < 256 → colours pixel ≡ Some (map_entry pixel)

-- an open viewer whose format has a colour map, and to which no map is owed, could read all that it was sent, and has the server's map
pub record HasMap (v : KeptViewer) (s : Watching) : Type 0 where
  pub legal : s.legal ≡ true
  pub colours : is_open_rest v.heard ≡ true → is_colour_map v.format ≡ true → v.map_owed ≡ false → IsServers s.colours

-- each viewer that is there does so, by what it said and was answered
abbrev pub HaveMaps : Config → List Event → List Answer → Type 0
HaveMaps c es given = All (λ p. HasMap p.1 (watching p.0 es given at_first)) (scene_after c es).viewers

-- whatever is drawn
abbrev pub maps_are_there : Type 0
maps_are_there = (c : Config) (es : List Event) → config_refusal c ≡ None → HaveMaps c es (answers c es)

-- where colours are neither written nor copied without the other
abbrev pub pictures_are_shown : Type 0
pictures_are_shown = (c : Config) (es : List Event) → config_refusal c ≡ None → list_all is_told es ≡ true → ShowPictures c es (answers c es)
