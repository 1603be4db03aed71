-- How a viewer reads what the server says until the conversation is open, by RFC 6143 sections 7.1 to 7.3 and appendix A alone.
use Rattle.std.specs.Prelude.{ℕ, ◌==◌, if◌then◌else◌, List, Option, None, Some, Result, Ok, Err}
use Rattle.std.specs.List.{list_any}
use Rattle.std.specs.Int.{w8, w16, w32}
use Rattle.pixel_translate.specs.declared.PixelFormat.{PixelFormat}
use Rattle.pixel_translate.specs.declared.FormatFault.{FormatFault}
use Rattle.pixel_translate.specs.Pixel.{format_of}
use Rattle.encode_raw.specs.Reading.{◌>>=◌, bytes_at, number_at}
use Rattle.messages.specs.declared.Version.{Version}
use Rattle.messages.specs.declared.Version.TheVariants.{V33, V38}

-- 7.1.2, A: in 3.3 the server sets the security type, which is 1; else it lists types, one of which is 1
abbrev pub security_at : Version → List ℕ → Option (List ℕ)
security_at V33 bytes = do
  kind ← number_at w32 bytes
  if kind.0 == 1 then Some kind.1 else None
security_at _ bytes = do
  count ← number_at w8 bytes
  kinds ← bytes_at count.0 count.1
  if list_any (λ k. k == 1) kinds.0 then Some kinds.1 else None

-- 7.1.3, A: only in 3.8 the server says that the type is accepted, by 0
abbrev pub result_at : Version → List ℕ → Option (List ℕ)
result_at V38 bytes = do
  result ← number_at w32 bytes
  if result.0 == 0 then Some result.1 else None
result_at _ bytes = Some bytes

-- 7.3.2: the picture's size, the format that pixels have at first, and a name
pub record Init : Type 0 where
  pub width : ℕ
  pub height : ℕ
  pub format : PixelFormat

abbrev pub told_format : Result PixelFormat FormatFault → Option PixelFormat
told_format (Ok f) = Some f
told_format (Err e) = None

abbrev pub init_at : List ℕ → Option (Init × List ℕ)
init_at bytes = do
  width ← number_at w16 bytes
  height ← number_at w16 width.1
  sixteen ← bytes_at 16 height.1
  format ← told_format (format_of sixteen.0)
  long ← number_at w32 sixteen.1
  name ← bytes_at long.0 long.1
  Some (record { width = width.0; height = height.0; format = format }, name.1)
