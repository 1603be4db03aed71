use Rattle.std.proofs.Common.{◌+◌, ◌-◌, ◌*◌, ◌≡◌, ℕ, take, drop, arith, sym, ap, ◌∙◌}
use Rattle.subrectangles.specs.Scans.{row_is}
use Rattle.subrectangles.proofs.rows.Rows.row.Goals as goal

pub returns-clause-row : goal.returns-clause-row
returns-clause-row c =
    let e : c.args.y * c.args.self.now.width + c.args.self.now.width - c.args.y * c.args.self.now.width ≡ c.args.self.now.width = omega arith in
    ap (λ (n : ℕ). take n (drop (c.args.y * c.args.self.now.width) c.args.self.now.values.now)) e ∙ sym (row_is c.args.self.now.width c.args.self.now.height c.args.self.now.values.now c.args.y c.requires)
