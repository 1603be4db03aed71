-- Bytes and pixels that stand in front of others.
use Rattle.std.proofs.Common.{◌≡◌, ℕ, zero, suc, ◌+◌, ◌*◌, ◌<◌, List, [], ◌∷◌, ◌++◌, length, slice_index, Option, None, Some, refl, sym, ap, ◌∙◌, arith, zero-add}
use Rattle.std.specs.Int.{w32, from_le_bytes}
use Rattle.pixel_translate.specs.declared.PixelFormat.{PixelFormat}
use Rattle.pixel_translate.specs.Pixel.{server_format}
use Rattle.encode_raw.specs.Reading.{◌>>=◌, bytes_at, pixel_at, pixels_at}
use Rattle.server_reader.specs.Groups.{pixel_in}

-- ---- bytes

first_off : {A : Type 0} (f : List ℕ → Option A) (b : ℕ) (o : Option (List ℕ × List ℕ)) → ((o >>= λ (r : List ℕ × List ℕ). Some (b ∷ r.0, r.1)) >>= λ (t : List ℕ × List ℕ). f t.1) ≡ (o >>= λ (t : List ℕ × List ℕ). f t.1)
first_off f b None = refl
first_off f b (Some r) = refl

-- behind the first bytes of a text the others are still to come
pub text_goes_on : {A : Type 0} (f : List ℕ → Option A) (n k : ℕ) (front more : List ℕ) → n ≡ length front + k
    → (bytes_at n (front ++ more) >>= λ (t : List ℕ × List ℕ). f t.1) ≡ (bytes_at k more >>= λ (t : List ℕ × List ℕ). f t.1)
text_goes_on f n k [] more e = ap (λ (m : ℕ). bytes_at m more >>= λ (t : List ℕ × List ℕ). f t.1) (let same : n ≡ k = omega (arith, e) in same)
text_goes_on f n k (b ∷ front) more e =
    ap (λ (m : ℕ). bytes_at m (b ∷ front ++ more) >>= λ (t : List ℕ × List ℕ). f t.1) (let one : n ≡ suc (length front + k) = omega (arith, e) in one)
    ∙ first_off f b (bytes_at (length front + k) (front ++ more))
    ∙ text_goes_on f (length front + k) k front more refl

-- ---- pixels

abbrev pair : List ℕ → List ℕ → Option (List ℕ × List ℕ)
pair pixels bytes = Some (pixels, bytes)

-- pixels behind others
behind_others : Option (List ℕ × List ℕ) → (ℕ → List ℕ → Option (List ℕ × List ℕ)) → ℕ → Option (List ℕ × List ℕ)
behind_others None read n = None
behind_others (Some p) read n = read n p.1 >>= λ (q : List ℕ × List ℕ). pair (p.0 ++ q.0) q.1

one_before : (first : ℕ) (o : Option (List ℕ × List ℕ)) (read : ℕ → List ℕ → Option (List ℕ × List ℕ)) (n : ℕ)
    → (behind_others o read n >>= λ (r : List ℕ × List ℕ). pair (first ∷ r.0) r.1) ≡ behind_others (o >>= λ (r : List ℕ × List ℕ). pair (first ∷ r.0) r.1) read n
unfolding behind_others
one_before first None read n = refl
one_before first (Some p) read n = by (read n p.1)
  where
    by : (o : Option (List ℕ × List ℕ)) → ((o >>= λ (q : List ℕ × List ℕ). pair (p.0 ++ q.0) q.1) >>= λ (r : List ℕ × List ℕ). pair (first ∷ r.0) r.1) ≡ (o >>= λ (q : List ℕ × List ℕ). pair (first ∷ p.0 ++ q.0) q.1)
    by None = refl
    by (Some q) = refl

unit : (o : Option (List ℕ × List ℕ)) → o ≡ (o >>= λ (q : List ℕ × List ℕ). pair q.0 q.1)
unit None = refl
unit (Some q) = refl

split_pixels : (f : PixelFormat) (m n : ℕ) (bytes : List ℕ) → pixels_at f (m + n) bytes ≡ behind_others (pixels_at f m bytes) (pixels_at f) n
unfolding behind_others pixels_at
split_pixels f zero n bytes = ap (λ (k : ℕ). pixels_at f k bytes) (zero-add n) ∙ unit (pixels_at f n bytes)
split_pixels f (suc m) n bytes =
    ap (λ (k : ℕ). pixels_at f k bytes) (let e : suc m + n ≡ suc (m + n) = omega arith in e) ∙ by (λ b. split_pixels f m n b) (pixel_at f bytes)
  where
    by : ((b : List ℕ) → pixels_at f (m + n) b ≡ behind_others (pixels_at f m b) (pixels_at f) n) → (o : Option (ℕ × List ℕ)) → (o >>= λ (first : ℕ × List ℕ). pixels_at f (m + n) first.1 >>= λ (r : List ℕ × List ℕ). pair (first.0 ∷ r.0) r.1)
        ≡ behind_others (o >>= λ (first : ℕ × List ℕ). pixels_at f m first.1 >>= λ (r : List ℕ × List ℕ). pair (first.0 ∷ r.0) r.1) (pixels_at f) n
    by others None = refl
    by others (Some first) =
        ap (λ (o : Option (List ℕ × List ℕ)). o >>= λ (r : List ℕ × List ℕ). pair (first.0 ∷ r.0) r.1) (others first.1)
        ∙ one_before first.0 (pixels_at f m first.1) (pixels_at f) n

-- four bytes, the lowest first
four : (a b c d : ℕ) → ℕ
four a b c d = from_le_bytes w32 (a ∷ b ∷ c ∷ d ∷ [])

pixel_behind : (a b c d : ℕ) (front : List ℕ) (i j : ℕ) → j ≡ suc (suc (suc (suc i))) → pixel_in (a ∷ b ∷ c ∷ d ∷ front) j ≡ pixel_in front i
unfolding four
pixel_behind a b c d front i j e =
    let all : List ℕ = a ∷ b ∷ c ∷ d ∷ front in
    let at : (k : ℕ) → ℕ = slice_index all in
    let e1 : j + 1 ≡ suc (suc (suc (suc (i + 1)))) = omega (arith, e) in
    let e2 : j + 2 ≡ suc (suc (suc (suc (i + 2)))) = omega (arith, e) in
    let e3 : j + 3 ≡ suc (suc (suc (suc (i + 3)))) = omega (arith, e) in
    ap (λ (n : ℕ). four (at n) (at (j + 1)) (at (j + 2)) (at (j + 3))) e
    ∙ ap (λ (n : ℕ). four (slice_index front i) (at n) (at (j + 2)) (at (j + 3))) e1
    ∙ ap (λ (n : ℕ). four (slice_index front i) (slice_index front (i + 1)) (at n) (at (j + 3))) e2
    ∙ ap (λ (n : ℕ). four (slice_index front i) (slice_index front (i + 1)) (slice_index front (i + 2)) (at n)) e3

-- the pixels of bytes that stand in front of others
pub record Front (m : ℕ) (front more : List ℕ) : Type 0 where
  pub pixels : List ℕ
  pub long : length pixels ≡ m
  pub is : pixels_at server_format m (front ++ more) ≡ Some (pixels, more)
  pub at : (k : ℕ) → k < m → slice_index pixels k ≡ pixel_in front (4 * k)

pub front_pixels : (m : ℕ) (front more : List ℕ) → length front ≡ 4 * m → Front m front more
unfolding pixels_at
front_pixels zero [] more long = record { pixels = []; long = refl; is = refl; at = λ k below. absurd (omega (arith, below)) }
front_pixels zero (b ∷ front) more long = absurd (omega (arith, long))
front_pixels (suc m) (a ∷ b ∷ c ∷ d ∷ front) more long =
    let rest = front_pixels m front more (omega (arith, long)) in
    let first : ℕ = from_le_bytes w32 (a ∷ b ∷ c ∷ d ∷ []) in
    record {
      pixels = first ∷ rest.pixels;
      long = omega (arith, rest.long);
      is = ap (λ (o : Option (List ℕ × List ℕ)). o >>= λ (r : List ℕ × List ℕ). pair (first ∷ r.0) r.1) rest.is;
      at = by rest.pixels rest.at;
    }
  where
    by : (pixels : List ℕ) → ((k : ℕ) → k < m → slice_index pixels k ≡ pixel_in front (4 * k))
        → (k : ℕ) → k < suc m → slice_index (from_le_bytes w32 (a ∷ b ∷ c ∷ d ∷ []) ∷ pixels) k ≡ pixel_in (a ∷ b ∷ c ∷ d ∷ front) (4 * k)
    by pixels at zero below = refl
    by pixels at (suc k) below = at k (omega (arith, below)) ∙ sym (pixel_behind a b c d front (4 * k) (4 * suc k) (omega arith))
front_pixels (suc m) _ more long = absurd (omega (arith, long))

-- the first pixels, and those behind them
pub pixels_go_on : (n m k : ℕ) (front more : List ℕ) → n ≡ m + k → (read : Front m front more)
    → pixels_at server_format n (front ++ more) ≡ (pixels_at server_format k more >>= λ (q : List ℕ × List ℕ). pair (read.pixels ++ q.0) q.1)
unfolding behind_others
pixels_go_on n m k front more e read =
    ap (λ (c : ℕ). pixels_at server_format c (front ++ more)) e
    ∙ split_pixels server_format m k (front ++ more)
    ∙ ap (λ (o : Option (List ℕ × List ℕ)). behind_others o (pixels_at server_format) k) read.is
