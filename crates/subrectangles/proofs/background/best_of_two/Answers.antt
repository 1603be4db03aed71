use Rattle.std.proofs.Common.{◌≡◌, ◌+◌, ◌<◌, ◌⊎◌, max, length, ℕ, List, inl, inr, arith}
use Rattle.subrectangles.specs.Subrectangles.{times}
use Rattle.subrectangles.specs.Counts.{first_of_two, second_of_two, times_few}
use Rattle.subrectangles.specs.Pixels.{pixels_in, some_pixels, whole}
use Rattle.subrectangles.proofs.background.best_of_two.Goals as goal

pub returns-then-is_better : goal.returns-then-is_better
returns-then-is_better c =
    let ps : List ℕ = pixels_in c.args.pixels.now in
    let few = times_few c.args.other ps in
    let all : c.in_ok-others.others ≡ times c.args.other ps = c.in_ok-others.ensures.all (omega (arith, c.in_ok-others.ensures.some, few, (whole c.args.pixels.now))) in
    let p : ℕ = c.args.one in
    let q : ℕ = c.args.other in
    let most : length ps < times p ps + times q ps + max (times p ps) (times q ps) = omega (arith, c.requires, all, c.max.ensures, (whole c.args.pixels.now), c.if-ones-others.false) in
    let better : (times q ps < times p ps) ⊎ ((times q ps ≡ times p ps) × (p < q)) = elim (c.is_better.ensures.yes c.if-is_better.true) [
      | inl more ↦ inl (omega (arith, more, c.requires, all))
      | inr tie ↦ inr (omega (arith, tie.0, c.requires, all), tie.1)
    ] in
    first_of_two ps p q (some_pixels c.args.pixels.now) c.if-one-other.false most better

pub returns-else-is_better : goal.returns-else-is_better
returns-else-is_better c =
    let ps : List ℕ = pixels_in c.args.pixels.now in
    let few = times_few c.args.other ps in
    let all : c.in_ok-others.others ≡ times c.args.other ps = c.in_ok-others.ensures.all (omega (arith, c.in_ok-others.ensures.some, few, (whole c.args.pixels.now))) in
    let p : ℕ = c.args.one in
    let q : ℕ = c.args.other in
    let most : length ps < times p ps + times q ps + max (times p ps) (times q ps) = omega (arith, c.requires, all, c.max.ensures, (whole c.args.pixels.now), c.if-ones-others.false) in
    let worse = c.is_better.ensures.no c.if-is_better.false in
    second_of_two ps p q (some_pixels c.args.pixels.now) c.if-one-other.false most (omega (arith, worse.0, c.requires, all))
    (λ e. worse.1 (omega (arith, e, c.requires, all)))
