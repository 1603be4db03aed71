use Rattle.std.proofs.Common.{◌≡◌, ◌+◌, ◌-◌, ◌*◌, ◌/◌, ◌<◌, ◌≤◌, ◌++◌, ◌^◌, pos, ℕ, List, length, length-append, append_assoc, flat_map, arith, ap, sym, take, drop, refl, ◌∙◌, subst}
use Rattle.std.proofs.Math.Nat.{mul-div_cancel}
use Rattle.std.proofs.Math.Seq.{take-length}
use Rattle.pixel_translate.specs.Pixel.{be32, bytes_per_pixel, pixel_bytes}
use Rattle.pixel_translate.specs.Bounds.{pixel_length}
use Rattle.encode_raw.specs.Raw.{head}
use Rattle.subrectangles.specs.declared.Subrectangle.{Subrectangle}
use Rattle.subrectangles.specs.Bytes.{subrectangle_bytes, subs_length}
use Rattle.subrectangles.specs.Subrectangles.{background_of, subrectangles, rows_of}
use Rattle.subrectangles.specs.Lines.{values_in}
use Rattle.subrectangles.specs.Pixels.{pixels_in, pixel_lines}
use Rattle.encode_rre.proofs.Coded.{four_written}
use Rattle.encode_rre.proofs.Lengths.{raw_where, rre_where, too_many, le_more, same_subs, few}
use Rattle.encode_rre.proofs.put_coded.Goals as goal

pub returns-then-many : goal.returns-then-many
returns-then-many c =
    let ps : List ℕ = pixels_in c.args.pixels.now in
    let places : c.args.pixels.now.colours.width * c.args.pixels.now.colours.height ≡ c.args.area.w * c.args.area.h = ap (λ (n : ℕ). n * c.args.pixels.now.colours.height) c.requires.width ∙ ap (λ (n : ℕ). c.args.area.w * n) c.requires.height in
    let b : ℕ = background_of ps in
    let subs : List Subrectangle = subrectangles b (rows_of c.args.area.w c.args.area.h ps) in
    let pl : ℕ = c.bytes_per_pixel-pixel_len.result in
    let raw_len : ℕ = c.args.pixels.now.colours.width * c.args.pixels.now.colours.height * pl in
    let more : raw_len / (pl + 8) < length (subrectangles b (pixel_lines c.args.pixels.now)) = c.in_ok-many.ensures c.if-many.true b in
    let same : subrectangles b (pixel_lines c.args.pixels.now) ≡ subs =
    same_subs b c.args.pixels.now.colours.width c.args.area.w c.args.pixels.now.colours.height c.args.area.h ps ps c.requires.width c.requires.height refl in
    let enough : raw_len ≤ length subs * (pl + 8) = too_many (length subs) raw_len (pl + 8) (omega arith) (subst (λ (t : List Subrectangle). raw_len / (pl + 8) < length t) same more) in
    let there = subst (λ (k : ℕ). k * pl ≤ length subs * (pl + 8)) places enough in
    let last = subst (λ (p : ℕ). c.args.area.w * c.args.area.h * p ≤ length subs * (p + 8)) c.bytes_per_pixel-pixel_len.ensures there in
    record {
      coded = λ e. absurd cc;
      longer = λ e. raw_where c.args.format.now c.args.area (values_in c.args.pixels.now.colours) ps b c.requires.translated refl (le_more _ _ (bytes_per_pixel c.args.format.now) last);
      front = take-length c.args.out.now.items;
    }

pub returns-then-shorter-clause-coded : goal.returns-then-shorter-clause-coded
returns-then-shorter-clause-coded c done =
    let f = c.args.format.now in
    let area = c.args.area in
    let old : List ℕ = c.args.out.now.items in
    let ps : List ℕ = pixels_in c.args.pixels.now in
    let places : c.args.pixels.now.colours.width * c.args.pixels.now.colours.height ≡ area.w * area.h = ap (λ (n : ℕ). n * c.args.pixels.now.colours.height) c.requires.width ∙ ap (λ (n : ℕ). area.w * n) c.requires.height in
    let b : ℕ = c.in_ok-background.background in
    let g : b ≡ background_of ps = c.in_ok-background.ensures in
    let subs : List Subrectangle = subrectangles b (rows_of area.w area.h ps) in
    let body : List ℕ = flat_map (subrectangle_bytes f) subs in
    let same : subrectangles b (pixel_lines c.args.pixels.now) ≡ subs = same_subs b c.args.pixels.now.colours.width area.w c.args.pixels.now.colours.height area.h ps ps c.requires.width c.requires.height refl in
    let before : List ℕ = old ++ head area (pos 2) in
    let number : List ℕ = be32 0 in
    let back : List ℕ = pixel_bytes f b in
    let all : c.put_subrectangles.new.out.items ≡ before ++ (number ++ (back ++ body)) =
    c.in_ok-shorter.ensures.all c.if-shorter.true ∙ ap (λ (t : List Subrectangle). c.put_front.new.out.items ++ flat_map (subrectangle_bytes f) t) same
    ∙ ap (λ (t : List ℕ). t ++ body) c.in_ok-put_front.ensures.ok ∙ append_assoc before (number ++ back) body ∙ ap (λ (t : List ℕ). before ++ t) (append_assoc number back body) in
    let len : length before ≡ c.len-start.result + 12 = omega (arith, length-append old (head area (pos 2)), c.len-start.ensures) in
    let long : length c.put_subrectangles.new.out.items ≡ c.len-start.result + 12 + 4 + bytes_per_pixel f + length subs * (bytes_per_pixel f + 8) =
    omega (arith, ap (length {A = ℕ}) all, length-append before (number ++ (back ++ body)), length-append number (back ++ body), length-append back body, pixel_length f b, subs_length f subs, len) in
    let short = c.in_ok-shorter.ensures.shorter c.if-shorter.true in
    let n : ℕ = length subs in
    let pl : ℕ = c.bytes_per_pixel-pixel_len.result in
    let start : ℕ = c.len-start.result + 12 in
    let lt : 4 + bytes_per_pixel f + n * (bytes_per_pixel f + 8) < c.args.pixels.now.colours.width * c.args.pixels.now.colours.height * pl = omega (arith, long, short) in
    let there = subst (λ (k : ℕ). 4 + bytes_per_pixel f + n * (bytes_per_pixel f + 8) < k * pl) places lt in
    let last = subst (λ (p : ℕ). 4 + bytes_per_pixel f + n * (bytes_per_pixel f + 8) < area.w * area.h * p) c.bytes_per_pixel-pixel_len.ensures there in
    let small : n < 2 ^ 32 = few area.w area.h (bytes_per_pixel f) n (omega arith) (omega arith) last in
    let unit : n * (bytes_per_pixel f + 8) ≡ n * (pl + 8) = ap (λ (p : ℕ). n * (p + 8)) (sym c.bytes_per_pixel-pixel_len.ensures) in
    let rest : c.len.result - (start + 4 + pl) ≡ n * (pl + 8) = omega (arith, c.len.ensures, long, unit, c.bytes_per_pixel-pixel_len.ensures) in
    let count : (c.len.result - (start + 4 + pl)) / (pl + 8) ≡ n = ap (λ (t : ℕ). t / (pl + 8)) rest ∙ mul-div_cancel n (omega arith) in
    c.write_count.ensures
    ∙ ap (λ (t : ℕ). take start c.put_subrectangles.new.out.items ++ (be32 t ++ drop (start + 4) c.put_subrectangles.new.out.items)) count
    ∙ four_written before (be32 n) (back ++ body) c.put_subrectangles.new.out.items start len all
    ∙ append_assoc old (head area (pos 2)) (be32 n ++ (back ++ body))
    ∙ ap (λ (t : List ℕ). old ++ t) (rre_where f area (values_in c.args.pixels.now.colours) ps b c.requires.translated g last)

pub returns-else-shorter-clause-longer : goal.returns-else-shorter-clause-longer
returns-else-shorter-clause-longer c less =
    let f = c.args.format.now in
    let area = c.args.area in
    let old : List ℕ = c.args.out.now.items in
    let ps : List ℕ = pixels_in c.args.pixels.now in
    let places : c.args.pixels.now.colours.width * c.args.pixels.now.colours.height ≡ area.w * area.h = ap (λ (n : ℕ). n * c.args.pixels.now.colours.height) c.requires.width ∙ ap (λ (n : ℕ). area.w * n) c.requires.height in
    let b : ℕ = c.in_ok-background.background in
    let g : b ≡ background_of ps = c.in_ok-background.ensures in
    let subs : List Subrectangle = subrectangles b (rows_of area.w area.h ps) in
    let n : ℕ = length subs in
    let same : subrectangles b (pixel_lines c.args.pixels.now) ≡ subs = same_subs b c.args.pixels.now.colours.width area.w c.args.pixels.now.colours.height area.h ps ps c.requires.width c.requires.height refl in
    let before : List ℕ = old ++ head area (pos 2) in
    let len : length before ≡ c.len-start.result + 12 = omega (arith, length-append old (head area (pos 2)), c.len-start.ensures) in
    let front : length c.put_front.new.out.items ≡ c.len-start.result + 12 + 4 + bytes_per_pixel f =
    omega (arith, ap (length {A = ℕ}) c.in_ok-put_front.ensures.ok, length-append before (be32 0 ++ pixel_bytes f b), length-append (be32 0) (pixel_bytes f b), pixel_length f b, len) in
    let body : length (flat_map (subrectangle_bytes f) (subrectangles b (pixel_lines c.args.pixels.now))) ≡ n * (bytes_per_pixel f + 8) =
    ap (λ (t : List Subrectangle). length (flat_map (subrectangle_bytes f) t)) same ∙ subs_length f subs in
    let le : c.args.pixels.now.colours.width * c.args.pixels.now.colours.height * c.bytes_per_pixel-pixel_len.result ≤ 4 + bytes_per_pixel f + n * (bytes_per_pixel f + 8) =
    omega (arith, front, body, c.in_ok-shorter.ensures.longer c.if-shorter.false) in
    let there = subst (λ (k : ℕ). k * c.bytes_per_pixel-pixel_len.result ≤ 4 + bytes_per_pixel f + n * (bytes_per_pixel f + 8)) places le in
    let last = subst (λ (p : ℕ). area.w * area.h * p ≤ 4 + bytes_per_pixel f + n * (bytes_per_pixel f + 8)) c.bytes_per_pixel-pixel_len.ensures there in
    raw_where f area (values_in c.args.pixels.now.colours) ps b c.requires.translated g last
