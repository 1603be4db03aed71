use Rattle.std.proofs.Common.{◌≡◌, Bool, ◌&&◌, rules}
use Rattle.std.specs.Prelude.{FitsSigned}
use Rattle.std.specs.Int.{w32}
use Rattle.std.proofs.lemmas.Int.{to_z-of_z}
use Rattle.copy_schedule.proofs.windows.window_of.Goals as goal

four : (a b c d a' b' c' d' : Bool) → a ≡ a' → b ≡ b' → c ≡ c' → d ≡ d' → (a && b && c && d) ≡ (a' && b' && c' && d')
four a b c d a' b' c' d' p q r s = cc

pub returns-clause-places : goal.returns-clause-places
returns-clause-places c = λ x y column row.
    let dx : FitsSigned w32 c.args.dx = c.ranges.dx in
    let dy : FitsSigned w32 c.args.dy = c.ranges.dy in
    let x1 : FitsSigned w32 c.args.rect.x1 = search rules in
    let y1 : FitsSigned w32 c.args.rect.y1 = search rules in
    let x2 : FitsSigned w32 c.args.rect.x2 = search rules in
    let y2 : FitsSigned w32 c.args.rect.y2 = search rules in
    four _ _ _ _ _ _ _ _
    (simp to_z-of_z at (c.moved_edge.ensures.from x column))
    (simp to_z-of_z at (c.moved_edge-3.ensures.to x column))
    (simp to_z-of_z at (c.moved_edge-2.ensures.from y row))
    (simp to_z-of_z at (c.moved_edge-4.ensures.to y row))
