-- Bytes as pixels of one size.
use Rattle.std.proofs.Common.{◌≡◌, ℕ, ◌+◌, ◌-◌, ◌*◌, ◌/◌, ◌<◌, zero, suc, List, [], length, get_or, take, drop, map, slice_index, false, Bor, Option, MatchOption, refl, sym, ◌∙◌, ap, subst, arith}
use Rattle.std.specs.Simd.{first_chunks}
use Rattle.std.proofs.lemmas.List.{drop-drop, drop-take, take-take, get_or-map, length-map}
use Rattle.std.proofs.lemmas.List.FromFn.{fill_by_all, length-map-range_with_len, get_or-map-range_with_len}
use Rattle.std.proofs.Math.Nat.{mul-div_cancel}
use Rattle.source_pixels.specs.declared.formats.BytesPerPixel.{BytesPerPixel}
use Rattle.source_pixels.specs.declared.formats.BytesPerPixel.TheVariants.{One, Two, Three, Four}
use Rattle.source_pixels.specs.declared.formats.TrueColour.{TrueColour}
use Rattle.source_pixels.specs.declared.formats.SourceFormat.{SourceFormat}
use Rattle.source_pixels.specs.declared.formats.SourceFormat.TheVariants as kind
use Rattle.source_pixels.specs.declared.rows.RowDifference.{RowDifference}
use Rattle.source_pixels.specs.Source.{Source, colours_by, row_colours, component_colours, colours_at, pixel_at}
use Rattle.source_pixels.specs.Formats.{byte_count, pixel_size, colour_of, number_of, true_colour, table_colour, server_format}
use Rattle.source_pixels.specs.Rows.{AreSame, IsDifference}

length_chunks : (n k : ℕ) (xs : List ℕ) → length (first_chunks n k xs) ≡ k
length_chunks n zero xs = refl
length_chunks n (suc k) xs = ap suc (length_chunks n k (drop n xs))

chunk_at : (n k i : ℕ) (xs : List ℕ) → i < k → get_or (first_chunks n k xs) i [] ≡ take n (drop (i * n) xs)
chunk_at n zero i xs below = absurd (omega arith)
chunk_at n (suc k) zero xs below = let e : 0 * n ≡ 0 = omega arith in rw e refl
chunk_at n (suc k) (suc i) xs below =
    chunk_at n k i (drop n xs) (omega arith) ∙ ap (take n) (drop-drop (i * n) n xs ∙ ap (λ m. drop m xs) (let e : n + i * n ≡ suc i * n = omega arith in e))

-- the colours of chunks
pub chunk_colours : (colour : List ℕ → ℕ) (n count : ℕ) (xs : List ℕ) (k : ℕ) → k ≡ count → map colour (first_chunks n k xs) ≡ colours_by colour n xs count
chunk_colours colour n count xs k same =
    fill_by_all (λ i. colour (take n (drop (i * n) xs))) (map colour (first_chunks n k xs)) count 0 (long ∙ same)
    (λ i below. let inside : i < length (first_chunks n k xs) = omega (arith, length_chunks n k xs) in
    get_or-map colour (first_chunks n k xs) i [] 0 inside ∙ ap colour (chunk_at n k i xs (omega arith)))
  where
    long : length (map colour (first_chunks n k xs)) ≡ k
    long = length-map (first_chunks n k xs) colour ∙ length_chunks n k xs

some_bytes : (b : BytesPerPixel) → 0 < byte_count b
some_bytes One = omega arith
some_bytes Two = omega arith
some_bytes Three = omega arith
some_bytes Four = omega arith

quotient : (count n size : ℕ) → 0 < n → size ≡ count * n → size / n ≡ count
quotient count n size some whole = ap (λ m. m / n) whole ∙ mul-div_cancel count some

-- those of pixels of components
pub component_chunks : (f : TrueColour) (b : BytesPerPixel) (pixels : List ℕ) (count : ℕ) (chunks : List (List ℕ)) → f.bytes ≡ b → length pixels ≡ count * byte_count f.bytes
    → chunks ≡ first_chunks (byte_count b) (length pixels / byte_count b) pixels → map (λ pixel. true_colour f (number_of f.big_endian pixel)) chunks ≡ component_colours f pixels count
component_chunks f b pixels count chunks is whole cut =
    let cut' : chunks ≡ first_chunks (byte_count f.bytes) (length pixels / byte_count f.bytes) pixels =
    subst (λ (b : BytesPerPixel). chunks ≡ first_chunks (byte_count b) (length pixels / byte_count b) pixels) (sym is) cut in
    ap (map (λ pixel. true_colour f (number_of f.big_endian pixel))) cut'
    ∙ chunk_colours (λ pixel. true_colour f (number_of f.big_endian pixel)) (byte_count f.bytes) count pixels (length pixels / byte_count f.bytes)
    (quotient count (byte_count f.bytes) (length pixels) (some_bytes f.bytes) whole)

-- those of pixels of components, where a format is the same
pub format_chunks : (g f : TrueColour) (b : BytesPerPixel) (pixels : List ℕ) (count : ℕ) (chunks : List (List ℕ)) → g ≡ f → f.bytes ≡ b → length pixels ≡ count * byte_count f.bytes
    → chunks ≡ first_chunks (byte_count b) (length pixels / byte_count b) pixels → map (λ pixel. true_colour g (number_of g.big_endian pixel)) chunks ≡ component_colours f pixels count
format_chunks g f b pixels count chunks same is whole cut =
    ap (λ (h : TrueColour). map (λ pixel. true_colour h (number_of h.big_endian pixel)) chunks) same ∙ component_chunks f b pixels count chunks is whole cut

-- and of the server's
pub direct_chunks : (f : TrueColour) (pixels : List ℕ) (count : ℕ) (chunks : List (List ℕ)) → f ≡ server_format → length pixels ≡ count * byte_count f.bytes
    → chunks ≡ first_chunks 4 (length pixels / 4) pixels → map (λ pixel. true_colour server_format (number_of false pixel)) chunks ≡ component_colours f pixels count
direct_chunks f pixels count chunks server whole cut =
    component_chunks server_format Four pixels count chunks refl (whole ∙ ap (λ (g : TrueColour). count * byte_count g.bytes) server) cut ∙ sym (ap (λ (g : TrueColour). component_colours g pixels count) server)

-- and of places of a table
pub table_chunks : (table pixels : List ℕ) (count : ℕ) (chunks : List (List ℕ)) → length pixels ≡ count * 1 → chunks ≡ first_chunks 1 (length pixels / 1) pixels
    → map (λ pixel. table_colour table (slice_index pixel 0)) chunks ≡ colours_by (λ pixel. table_colour table (slice_index pixel 0)) 1 pixels count
table_chunks table pixels count chunks whole cut =
    ap (map (λ pixel. table_colour table (slice_index pixel 0))) cut
    ∙ chunk_colours (λ pixel. table_colour table (slice_index pixel 0)) 1 count pixels (length pixels / 1) (quotient count 1 (length pixels) (omega arith) whole)

-- what is said of some colours is said of the same
pub compared : {theirs colours : List ℕ} → theirs ≡ colours → (row : List ℕ) (result : Option RowDifference)
    → MatchOption result (AreSame theirs row 0 (length row)) (λ d. IsDifference theirs row d) → MatchOption result (AreSame colours row 0 (length row)) (λ d. IsDifference colours row d)
compared same row result h = subst (λ (l : List ℕ). MatchOption result (AreSame l row 0 (length row)) (λ d. IsDifference l row d)) same h

-- the same, where the format is a table
pub table_row : (format : SourceFormat) (table : Bor (List ℕ)) (pixels : List ℕ) (count : ℕ) (chunks : List (List ℕ)) → format ≡ kind.Table table → length pixels ≡ count * pixel_size format
    → chunks ≡ first_chunks 1 (length pixels / 1) pixels → map (λ pixel. table_colour table.now (slice_index pixel 0)) chunks ≡ row_colours format pixels count
table_row format table pixels count chunks is whole cut =
    table_chunks table.now pixels count chunks (whole ∙ ap (λ (f : SourceFormat). count * pixel_size f) is) cut ∙ sym (ap (λ (f : SourceFormat). row_colours f pixels count) is)

piece : (n k r start : ℕ) (bytes : List ℕ) → take n (drop (k * n) (take ((k + suc r) * n) (drop start bytes))) ≡ take n (drop (start + k * n) bytes)
piece n k r start bytes =
    let size : (k + suc r) * n ≡ k * n + (n + r * n) = omega arith in
    ap (λ m. take n (drop (k * n) (take m (drop start bytes)))) size
    ∙ ap (take n) (drop-take (k * n) (n + r * n) (drop start bytes))
    ∙ take-take n (n + r * n) (drop (k * n) (drop start bytes)) (omega arith)
    ∙ ap (take n) (drop-drop (k * n) start bytes)

-- the pixels of a row are those of the source
pub row_is : (s : Source) (x y count : ℕ) → row_colours s.format (take (count * pixel_size s.format) (drop (y * s.stride + x * pixel_size s.format) s.bytes)) count ≡ colours_at s x y count
row_is s x y count =
    fill_by_all (λ k. colour_of s.format (pixel_at s (x + k) y)) _ count 0
    (length-map-range_with_len (λ k. colour_of s.format (take n (drop (k * n) part))) 0 count)
    (λ k below. get_or-map-range_with_len (λ k. colour_of s.format (take n (drop (k * n) part))) 0 count k k 0 below (omega arith)
    ∙ ap (colour_of s.format)
    (ap (λ c. take n (drop (k * n) (take (c * n) (drop start s.bytes)))) (let e : count ≡ k + suc (count - k - 1) = omega arith in e)
    ∙ piece n k (count - k - 1) start s.bytes
    ∙ ap (λ m. take n (drop m s.bytes)) (let e : start + k * n ≡ y * s.stride + (x + k) * n = omega arith in e)))
  where
    n : ℕ
    n = pixel_size s.format

    start : ℕ
    start = y * s.stride + x * n

    part : List ℕ
    part = take (count * n) (drop start s.bytes)
