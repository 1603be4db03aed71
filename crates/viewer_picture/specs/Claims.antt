-- What a viewer shows that reads what is sent to it.
use Rattle.std.specs.Prelude.{◌≡◌, ℕ, ℤ, pos, true, ◌+◌, ◌<◌, ◌≤◌, ◌*◌, ◌⊎◌, List, ◌++◌, length, Some, Contains, unwrap_or}
use Rattle.std.specs.Int.{w16}
use Rattle.pixel_translate.specs.declared.Area.{Area}
use Rattle.pixel_translate.specs.Pixel.{IsArea}
use Rattle.encode_raw.specs.Raw.{raw, copyrect}
use Rattle.encode_raw.specs.Reading.{number_at, Head, head_at, Shown, patched, shown_after_copy}
use Rattle.encode_raw.specs.Claims.{pixels_of}
use Rattle.encode_rre.specs.Rre.{rre}
use Rattle.encode_hextile.specs.Hextile.{hextile}
use Rattle.messages.specs.declared.Encoding.TheVariants.{Raw}
use Rattle.messages.specs.Grammar.{first_encoding, lists_copyrect, lists_desktop_size}
use Rattle.viewer_picture.specs.Messages.{Agreed, is_in_picture, may_come, rectangle_at}
use Rattle.viewer_picture.specs.Encodings.{taken}

-- an area that can be sent, in the picture
pub record IsPart (agreed : Agreed) (a : Area) : Type 0 where
  pub fits : IsArea a
  pub inside : is_in_picture agreed a ≡ true

-- these bytes, with whatever follows them, are a rectangle that shows each colour's pixel at its place
abbrev pub IsRead : Agreed → Area → List ℕ → List ℕ → Type 0
IsRead agreed a colours bytes = (shown : Shown) (more : List ℕ)
    → rectangle_at agreed shown (bytes ++ more) ≡ Some (patched agreed.format a (pixels_of agreed.format a.w colours) shown, more)

-- A rectangle of the picture, of as many colours as places, in Raw or an encoding that was listed; and a copy, which moves what
-- is shown.
pub record RectanglesAreRead : Type 0 where
  pub raw : (agreed : Agreed) (a : Area) (colours : List ℕ) → IsPart agreed a
      → length colours ≡ a.w * a.h → IsRead agreed a colours (raw agreed.format a colours)
  pub rre : (agreed : Agreed) (a : Area) (colours : List ℕ) → IsPart agreed a → may_come agreed.listed (pos 2) ≡ true
      → 0 < length colours → length colours ≡ a.w * a.h → IsRead agreed a colours (rre agreed.format a colours)
  pub hextile : (agreed : Agreed) (a : Area) (colours : List ℕ) → IsPart agreed a → may_come agreed.listed (pos 5) ≡ true
      → 0 < length colours → length colours ≡ a.w * a.h → IsRead agreed a colours (hextile agreed.format a colours)
  pub copyrect : (agreed : Agreed) (a : Area) (src_x src_y : ℕ) → IsPart agreed a → IsPart agreed (record a { x = src_x; y = src_y })
      → may_come agreed.listed (pos 1) ≡ true
      → (shown : Shown) (more : List ℕ) → rectangle_at agreed shown (copyrect a src_x src_y ++ more) ≡ Some (shown_after_copy a src_x src_y shown, more)

-- an area whose places are all in the picture
pub record IsIn (agreed : Agreed) (a : Area) : Type 0 where
  pub right : a.x + a.w ≤ agreed.width
  pub bottom : a.y + a.h ≤ agreed.height

-- what a copy names is in the picture
pub record IsCopied (agreed : Agreed) (a : Area) (body : List ℕ) : Type 0 where
  pub x : ℕ
  pub y : ℕ
  pub rows : List ℕ
  pub more : List ℕ
  pub column : number_at w16 body ≡ Some (x, rows)
  pub row : number_at w16 rows ≡ Some (y, more)
  pub source : IsIn agreed (record a { x = x; y = y })

-- a rectangle of the picture, in Raw or an encoding that was listed
pub record IsLegal (agreed : Agreed) (bytes : List ℕ) : Type 0 where
  pub head : Head
  pub body : List ℕ
  pub begins : head_at bytes ≡ Some (head, body)
  pub place : IsIn agreed head.area
  pub encoding : (head.encoding ≡ pos 0) ⊎ Contains agreed.listed head.encoding
  pub copy : head.encoding ≡ pos 1 → IsCopied agreed head.area body

-- 7.5.2, 7.6.1: nothing else is read
abbrev pub all_read_is_legal : Type 0
all_read_is_legal = (agreed : Agreed) (shown : Shown) (bytes : List ℕ) (read : Shown × List ℕ)
    → rectangle_at agreed shown bytes ≡ Some read → IsLegal agreed bytes

-- 7.5.2: what may come by what is taken of a list may come by the list
abbrev pub taken_was_listed : Type 0
taken_was_listed = (numbers : List ℤ) (encoding : ℤ)
    → may_come (taken (unwrap_or (first_encoding numbers) Raw) (lists_copyrect numbers) (lists_desktop_size numbers)) encoding ≡ true
    → may_come numbers encoding ≡ true
