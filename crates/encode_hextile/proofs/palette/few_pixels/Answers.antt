use Rattle.std.proofs.Common.{◌≡◌, ◌<◌, ◌+◌, inl, inr, ℕ, List, length, get_or, arith, sym, ap, ◌∙◌}
use Rattle.std.proofs.lemmas.Bool.{cases_eq}
use Rattle.std.proofs.lemmas.List.Sums.{count_by-le-length}
use Rattle.std.proofs.Common.{eqb}
use Rattle.subrectangles.specs.Subrectangles.{times, background_of}
use Rattle.encode_hextile.specs.Hextile.{others_of}
use Rattle.encode_hextile.proofs.Palettes.{alone, one_other, several, best_alone, best_of_two, stretch_ends, stretch_other, times_at, apart2}
use Rattle.encode_hextile.proofs.palette.few_pixels.Goals as goal

pub returns-then-first_count-pixels : goal.returns-then-first_count-pixels
returns-then-first_count-pixels c =
    let ps : List ℕ = c.args.pixels.now in
    let all : times (get_or ps 0 0) ps ≡ length ps = sym c.times-first_count.ensures ∙ c.if-first_count-pixels.true in
    (best_alone ps (get_or ps 0 0) c.requires.some (sym c.times-first_count.ensures ∙ c.if-first_count-pixels.true), sym (ap (λ (b : ℕ). others_of b ps) (sym (best_alone ps (get_or ps 0 0) c.requires.some all)) ∙ alone ps (get_or ps 0 0) all))

pub bounds-pixels-stretch_from : goal.bounds-pixels-stretch_from
bounds-pixels-stretch_from c =
    let ps : List ℕ = c.args.pixels.now in
    stretch_ends ps c.stretch_from.result c.requires.some c.stretch_from.ensures.same (omega (arith, c.stretch_from.ensures.within))
    (omega (arith, c.times-first_count.ensures, c.if-first_count-pixels.false, count_by-le-length (λ p. eqb p (get_or ps 0 0)) ps))

pub returns-then-first_count-second_count : goal.returns-then-first_count-second_count
returns-then-first_count-second_count c =
    let ps : List ℕ = c.args.pixels.now in
    let inside : c.stretch_from.result < length ps =
    stretch_ends ps c.stretch_from.result c.requires.some c.stretch_from.ensures.same (omega (arith, c.stretch_from.ensures.within))
    (omega (arith, c.times-first_count.ensures, c.if-first_count-pixels.false, count_by-le-length (λ p. eqb p (get_or ps 0 0)) ps)) in
    sym (several ps (background_of ps) (get_or ps 0 0) (get_or ps c.stretch_from.result 0) (record {
      apart = stretch_other ps c.stretch_from.result c.stretch_from.ensures.same inside;
      first = times_at ps 0 c.requires.some;
      second = times_at ps c.stretch_from.result inside;
      more = omega (arith, c.times-first_count.ensures, c.times-second_count.ensures, c.if-first_count-second_count.true);
    }))

pub returns-then-is_better : goal.returns-then-is_better
returns-then-is_better c =
    let ps : List ℕ = c.args.pixels.now in
    let at : ℕ = c.stretch_from.result in
    let first : ℕ = get_or ps 0 0 in
    let second : ℕ = get_or ps at 0 in
    let inside : at < length ps =
    stretch_ends ps at c.requires.some c.stretch_from.ensures.same (omega (arith, c.stretch_from.ensures.within))
    (omega (arith, c.times-first_count.ensures, c.if-first_count-pixels.false, count_by-le-length (λ p. eqb p first) ps)) in
    let apart : first ≡ second → ⊥ = stretch_other ps at c.stretch_from.ensures.same inside in
    let sum : times first ps + times second ps ≡ length ps = omega (arith, c.times-first_count.ensures, c.times-second_count.ensures, c.if-first_count-second_count.false, apart2 ps first second apart) in
    let best : second ≡ background_of ps =
    best_of_two ps second first (λ e. apart (sym e)) (times_at ps at inside) (omega (arith, sum))
    (elim (c.is_better.ensures.yes c.if-is_better.true) [
      | inl w ↦ inl (omega (arith, w, c.times-first_count.ensures, c.times-second_count.ensures))
      | inr w ↦ inr (omega (arith, w.0, c.times-first_count.ensures, c.times-second_count.ensures), omega (arith, w.1))
    ]) in
    (best, sym (ap (λ (b : ℕ). others_of b ps) (sym best) ∙ one_other ps second first (λ e. apart (sym e)) (times_at ps 0 c.requires.some) (omega (arith, sum))))

pub returns-else-is_better : goal.returns-else-is_better
returns-else-is_better c =
    let ps : List ℕ = c.args.pixels.now in
    let at : ℕ = c.stretch_from.result in
    let first : ℕ = get_or ps 0 0 in
    let second : ℕ = get_or ps at 0 in
    let inside : at < length ps =
    stretch_ends ps at c.requires.some c.stretch_from.ensures.same (omega (arith, c.stretch_from.ensures.within))
    (omega (arith, c.times-first_count.ensures, c.if-first_count-pixels.false, count_by-le-length (λ p. eqb p first) ps)) in
    let apart : first ≡ second → ⊥ = stretch_other ps at c.stretch_from.ensures.same inside in
    let sum : times first ps + times second ps ≡ length ps = omega (arith, c.times-first_count.ensures, c.times-second_count.ensures, c.if-first_count-second_count.false, apart2 ps first second apart) in
    let lost = c.is_better.ensures.no c.if-is_better.false in
    let best : first ≡ background_of ps =
    best_of_two ps first second apart (times_at ps 0 c.requires.some) sum
    (elim (cases_eq (times second ps) (times first ps)) [
      | inl e ↦ inr (e, lost.1 (omega (arith, e, c.times-first_count.ensures, c.times-second_count.ensures)))
      | inr ne ↦ inl (omega (arith, lost.0, ne, c.times-first_count.ensures, c.times-second_count.ensures))
    ]) in
    (best, sym (ap (λ (b : ℕ). others_of b ps) (sym best) ∙ one_other ps first second apart (times_at ps at inside) sum))
