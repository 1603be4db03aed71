use Rattle.std.proofs.Common.{◌≡◌, ◌+◌, ◌-◌, ◌*◌, ◌<◌, ℕ, List, [], length, take, drop, map, refl, Bor, arith, sym, ap, ◌∙◌}
use Rattle.std.proofs.lemmas.List.{length-map, get_or-map}
use Rattle.subrectangles.specs.Laid.{all_in}
use Rattle.subrectangles.specs.Lines.{values_in}
use Rattle.subrectangles.specs.Scans.{row_is}
use Rattle.subrectangles.specs.Apart.{apart_row}
use Rattle.subrectangles.proofs.lines.Lines.row.Goals as goal

pub returns-in-Whole-clause-row : goal.returns-in-Whole-clause-row
returns-in-Whole-clause-row c =
    let y : ℕ = c.args.y in
    let w : ℕ = c.args.self.now.width in
    let e : y * w + w - y * w ≡ w = omega arith in
    ap (λ (n : ℕ). take n (drop (y * w) c.in-Whole.values.now)) e ∙ ap (λ (ps : List ℕ). take w (drop (y * w) ps)) (sym (ap all_in c.in-Whole.is))
    ∙ sym (row_is w c.args.self.now.height (values_in c.args.self.now) y c.requires)

pub returns-in-Apart-clause-row : goal.returns-in-Apart-clause-row
returns-in-Apart-clause-row c =
    let y : ℕ = c.args.y in
    let w : ℕ = c.args.self.now.width in
    let rows : List (Bor (List ℕ)) = c.in-Apart.rows.now in
    let count : length (map (λ r. r.now) rows) ≡ c.args.self.now.height = rw c.in-Apart.is at c.args.self.now.rows refl in
    sym (apart_row (λ r. r.now) (record { ref_ptr = (0, 0); now = [] }) w rows y (rw c.in-Apart.is at c.args.self.now.even) (omega (arith, count, length-map rows (λ r. r.now), c.requires)))
    ∙ ap (λ (ps : List ℕ). take w (drop (y * w) ps)) (sym (ap all_in c.in-Apart.is))
    ∙ sym (row_is w c.args.self.now.height (values_in c.args.self.now) y c.requires)

pub returns-in-Apart-clause-len : goal.returns-in-Apart-clause-len
returns-in-Apart-clause-len c =
    let y : ℕ = c.args.y in
    let rows : List (Bor (List ℕ)) = c.in-Apart.rows.now in
    let count : length (map (λ r. r.now) rows) ≡ c.args.self.now.height = rw c.in-Apart.is at c.args.self.now.rows refl in
    let inside : y < length rows = omega (arith, count, length-map rows (λ r. r.now), c.requires) in
    let even = rw c.in-Apart.is at c.args.self.now.even in
    sym (ap (length {A = ℕ}) (get_or-map (λ r. r.now) rows y (record { ref_ptr = (0, 0); now = [] }) [] inside)) ∙ even y [] (omega (arith, count, c.requires))
