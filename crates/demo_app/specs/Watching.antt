-- What a viewer waits for, and what it shows.
use Rattle.std.specs.Prelude.{◌≡◌, ℕ, Bool, Some, nat_lt}
use Rattle.pixel_translate.specs.Pixel.{server_format}
use Rattle.rfb_viewer.specs.Counts.{is_open_at}
use Rattle.rfb_viewer.specs.Shown.{View, shown_at}
use Rattle.demo_app.specs.declared.watching.Awaited.{Awaited}
use Rattle.demo_app.specs.declared.watching.Awaited.TheVariants as awaited

-- It was read whole.
abbrev pub has_come : Awaited → View → Bool
has_come awaited.Opening v = is_open_at v.reading.stage
has_come awaited.Text v = nat_lt 0 v.reading.texts
has_come awaited.Update v = nat_lt 0 v.reading.updates

-- The place in this column of the first row shows a colour, in the server's format.
abbrev pub ShowsAt : View → ℕ → ℕ → Type 0
ShowsAt v x colour = shown_at v x 0 ≡ Some (server_format, colour)
