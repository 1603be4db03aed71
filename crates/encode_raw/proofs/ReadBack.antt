-- A rectangle in Raw is read back.
use Rattle.std.proofs.Common.{◌≡◌, ℕ, pos, ◌+◌, ◌*◌, ◌<◌, List, ◌++◌, map, get_or, Some, Option, sym, ap, ◌∙◌, arith, append_assoc, FitsSigned}
use Rattle.std.specs.List.{flat_map}
use Rattle.std.specs.Int.{w32}
use Rattle.std.proofs.lemmas.Nat.{mul-add-lt}
use Rattle.std.proofs.lemmas.List.{get_or-map}
use Rattle.pixel_translate.specs.Pixel.{pixel, colour_bytes}
use Rattle.pixel_translate.specs.Bounds.{pixel_below}
use Rattle.encode_raw.specs.Raw.{head}
use Rattle.encode_raw.specs.Reading.{◌>>=◌, head_at, raw_at, pixels_at, row_by_row}
use Rattle.encode_raw.specs.Claims.{pixels_of, raw_reads_back}
use Rattle.encode_raw.specs.Back.{pixels_back, head_back, same_patched}

pub reads_back : raw_reads_back
reads_back f a colours more fits whole =
    let written : List ℕ = flat_map (colour_bytes f) colours in
    let small : FitsSigned w32 (pos 0) = record { sfits = omega arith } in record {
      body = written ++ more;
      patch = row_by_row a.w (map (pixel f) colours);
      head = ap head_at (append_assoc (head a (pos 0)) written more) ∙ head_back a (pos 0) (written ++ more) fits small;
      pixels = read;
      shown = λ before x y. same_patched f a (row_by_row a.w (map (pixel f) colours)) (pixels_of f a.w colours) before (λ i j left top. at (j * a.w + i) (mul-add-lt j a.w i a.h top left)) x y;
    }
  where
    read : raw_at f a.w a.h (flat_map (colour_bytes f) colours ++ more) ≡ Some (row_by_row a.w (map (pixel f) colours), more)
    read =
        ap (λ n. pixels_at f n (flat_map (colour_bytes f) colours ++ more) >>= λ pixels. Some (row_by_row a.w pixels.0, pixels.1)) (sym whole)
        ∙ ap (λ (o : Option (List ℕ × List ℕ)). o >>= λ pixels. Some (row_by_row a.w pixels.0, pixels.1)) (pixels_back f (pixel_below f) colours more)

    at : (k : ℕ) → k < a.w * a.h → get_or (map (pixel f) colours) k 0 ≡ pixel f (get_or colours k 0)
    at k below = get_or-map (pixel f) colours k 0 0 (omega (arith, whole))
