-- A tile is coded or raw.
use Rattle.std.proofs.Common.{◌≡◌, ℕ, suc, ◌*◌, ◌<◌, ◌≤◌, ◌++◌, inl, inr, Bool, true, false, cond, ltb, List, length, refl, sym, ap, ◌∙◌, arith}
use Rattle.std.specs.List.{concat}
use Rattle.std.proofs.lemmas.Bool.{lt-ltb}
use Rattle.std.proofs.lemmas.Bool.Decides.{leb_tells}
use Rattle.pixel_translate.specs.declared.PixelFormat.{PixelFormat}
use Rattle.pixel_translate.specs.Pixel.{bytes_per_pixel}
use Rattle.subrectangles.specs.Subrectangles.{background_of, subrectangles}
use Rattle.encode_hextile.specs.declared.Carried.{Carried}
use Rattle.encode_hextile.specs.declared.TilePixels.{TilePixels}
use Rattle.encode_hextile.specs.Hextile.{Coded, others_of, said_bytes, list_bytes, coded, raw_tile, tile}

pick_yes : (t : Bool) (x y : Coded) → t ≡ true → cond t x y ≡ x
pick_yes true x y e = refl
pick_yes false x y e = absurd cc

pick_no : (t : Bool) (x y : Coded) → t ≡ false → cond t x y ≡ y
pick_no true x y e = absurd cc
pick_no false x y e = refl

not_below : (m n : ℕ) → n ≤ m → ltb m n ≡ false
not_below m n le = elim (leb_tells (suc m) n) [ inl q ↦ absurd (omega (arith, q.1)) | inr q ↦ q.0 ]

-- a tile, where its pixels, its background and its other pixels are known
abbrev tile_of : PixelFormat → Carried → List (List ℕ) → List ℕ → ℕ → TilePixels → Coded
tile_of f carried rows ps b others =
    cond (ltb (length (said_bytes f carried b others ++ list_bytes f (subrectangles b rows) others)) (length ps * bytes_per_pixel f)) (coded f carried b (subrectangles b rows) others) (raw_tile f ps)

tile_is : (f : PixelFormat) (carried : Carried) (rows : List (List ℕ)) (ps : List ℕ) (b : ℕ) (others : TilePixels) → concat rows ≡ ps → b ≡ background_of ps → others ≡ others_of (background_of ps) ps
    → tile f carried rows ≡ tile_of f carried rows ps b others
tile_is f carried rows ps b others e g o =
    ap (λ (t : List ℕ). tile_of f carried rows t (background_of t) (others_of (background_of t) t)) e
    ∙ ap (λ (t : ℕ). tile_of f carried rows ps t (others_of (background_of ps) ps)) (sym g)
    ∙ ap (λ (t : TilePixels). tile_of f carried rows ps b t) (sym o)

pub tile_short : (f : PixelFormat) (carried : Carried) (rows : List (List ℕ)) (ps : List ℕ) (b : ℕ) (others : TilePixels) → concat rows ≡ ps → b ≡ background_of ps → others ≡ others_of (background_of ps) ps
    → length (said_bytes f carried b others ++ list_bytes f (subrectangles b rows) others) < length ps * bytes_per_pixel f → tile f carried rows ≡ coded f carried b (subrectangles b rows) others
tile_short f carried rows ps b others e g o lt =
    tile_is f carried rows ps b others e g o ∙ pick_yes _ (coded f carried b (subrectangles b rows) others) (raw_tile f ps) (lt-ltb _ _ lt)

pub tile_long : (f : PixelFormat) (carried : Carried) (rows : List (List ℕ)) (ps : List ℕ) (b : ℕ) (others : TilePixels) → concat rows ≡ ps → b ≡ background_of ps → others ≡ others_of (background_of ps) ps
    → length ps * bytes_per_pixel f ≤ length (said_bytes f carried b others ++ list_bytes f (subrectangles b rows) others) → tile f carried rows ≡ raw_tile f ps
tile_long f carried rows ps b others e g o le =
    tile_is f carried rows ps b others e g o ∙ pick_no _ (coded f carried b (subrectangles b rows) others) (raw_tile f ps) (not_below _ _ le)
