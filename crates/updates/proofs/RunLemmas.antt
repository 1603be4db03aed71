-- Runs of a rectangle's colours, one after the other.
use Rattle.std.proofs.Common.{◌≡◌, ◌+◌, ◌-◌, ◌*◌, ◌/◌, ◌%◌, ◌<◌, ◌≤◌, ℕ, zero, suc, List, [], ◌∷◌, ◌++◌, length, take, drop, refl, sym, ap, ◌∙◌, arith, append_assoc}
use Rattle.std.specs.List.{flat_map}
use Rattle.std.proofs.Math.Nat.{zero-mul, add-mul, mul_comm, mul-le-mul_right}
use Rattle.std.proofs.lemmas.Nat.{div-add-mod'}
use Rattle.std.proofs.Math.Seq.{take-add}
use Rattle.std.proofs.lemmas.List.{length-append, length-take-le, length-drop, take_rest, take-take, drop-take, drop-drop, take-append-drop}
use Rattle.std.proofs.lemmas.List.Concat.{flat_map-append}

-- a picture with places has columns
pub some_columns : (w h n done : ℕ) → n ≡ w * h → done < n → 0 < w
some_columns zero h n done e below = absurd (omega (arith, e, zero-mul h))
some_columns (suc w) h n done e below = omega arith

take_own : (n : ℕ) (xs : List ℕ) → take n xs ≡ take (length (take n xs)) xs
take_own zero xs = refl
take_own (suc n) [] = refl
take_own (suc n) (x ∷ xs) = ap (λ l. x ∷ l) (take_own n xs)

-- the rest of the row of a place is a run from that place on
pub rest_is_run : (w done : ℕ) (colours row : List ℕ) → 0 < w → row ≡ take w (drop (done / w * w) colours)
    → take (length row - done % w) (drop (done % w) row) ≡ take (length (take (length row - done % w) (drop (done % w) row))) (drop done colours)
rest_is_run w done colours row some e =
    let x = done % w in
    let from = drop (done / w * w) colours in
    let wide : w ≡ x + (w - x) = omega arith in
    let rest : take (length row - x) (drop x row) ≡ take (w - x) (drop done colours) =
    take_rest row x ∙ ap (drop x) e ∙ ap (λ n. drop x (take n from)) wide ∙ drop-take x (w - x) from
    ∙ ap (take (w - x)) (drop-drop x (done / w * w) colours ∙ ap (λ n. drop n colours) (div-add-mod' done w)) in
    rest ∙ take_own (w - x) (drop done colours) ∙ ap (λ l. take (length l) (drop done colours)) (sym rest)

-- the front of a run is a run
pub front_is_run : (all run : List ℕ) (done k : ℕ) → k ≤ length run → run ≡ take (length run) (drop done all) → take k run ≡ take (length (take k run)) (drop done all)
front_is_run all run done k le is =
    ap (take k) is ∙ take-take k (length run) (drop done all) le ∙ ap (λ n. take n (drop done all)) (sym (length-take-le k run le))

-- what is left behind a run
pub run_on : (f : ℕ → List ℕ) (old new colours run : List ℕ) (done : ℕ) → run ≡ take (length run) (drop done colours) → new ≡ old ++ flat_map f run
    → new ++ flat_map f (drop (done + length run) colours) ≡ old ++ flat_map f (drop done colours)
run_on f old new colours run done is added =
    let behind = drop (done + length run) colours in
    let split : run ++ behind ≡ drop done colours =
    ap (λ l. l ++ behind) is ∙ ap (λ l. take (length run) (drop done colours) ++ l) (sym (drop-drop (length run) done colours))
    ∙ take-append-drop (length run) (drop done colours) in
    ap (λ l. l ++ flat_map f behind) added ∙ append_assoc old (flat_map f run) (flat_map f behind)
    ∙ ap (λ l. old ++ l) (sym (flat_map-append f run behind) ∙ ap (flat_map f) split)

-- some of a run is taken behind what was taken before it
pub part_on : (all run part new : List ℕ) (from some : ℕ) → part ≡ take (length part) (drop from all) → run ≡ take (length run) (drop (from + length part) all) → new ≡ part ++ take some run → some ≤ length run
    → new ≡ take (length new) (drop from all)
part_on all run part new from some e is added le =
    let rest = drop from all in
    let n = length part in
    let piece : take some run ≡ take some (drop n rest) =
    ap (take some) (is ∙ ap (take (length run)) (sym (drop-drop n from all))) ∙ take-take some (length run) (drop n rest) le in
    let long : length new ≡ n + some = ap (λ (l : List ℕ). length l) added ∙ length-append part (take some run) ∙ ap (λ k. n + k) (length-take-le some run le) in
    added ∙ ap (λ l. l ++ take some run) e ∙ ap (λ l. take n rest ++ l) piece ∙ sym (take-add n some rest) ∙ ap (λ k. take k rest) (sym long)

-- some lines of a rectangle lie within it
pub lines_inside : (w h a b n : ℕ) → a + b ≤ h → n ≡ w * h → a * w + b * w ≤ n
lines_inside w h a b n le e =
    let all : (a + b) * w ≤ h * w = mul-le-mul_right w le in
    omega (arith, all, e, add-mul a b w)

pub lines_long : (w b from : ℕ) (xs : List ℕ) → from + b * w ≤ length xs → length (take (b * w) (drop from xs)) ≡ w * b
lines_long w b from xs le = length-take-le (b * w) (drop from xs) (omega (arith, le, length-drop from xs)) ∙ mul_comm b w
