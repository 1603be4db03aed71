use Rattle.std.proofs.Common.{rules, ◌≡◌, ◌-◌, ◌++◌, List, ℕ, ap, ◌∙◌, arith, take, length}
use Rattle.source_talk.specs.Opening.{Name, most_named, named}
use Rattle.source_talk.proofs.Lists.{take_behind}
use Rattle.source_talk.proofs.naming.Naming.take.Goals as goal

pub returns-clause-named : goal.returns-clause-named
returns-clause-named c =
    let piece : List ℕ = c.args.piece.now in
    let kept : List ℕ = c.self.inside.kept.items in
    let left : ℕ = c.self.inside.left in
    let less : left - c.min-count.result ≡ left - length piece = omega (arith, c.min-count.ensures) in
    let all : c.extend_from_slice.new.self.items ≡ take most_named (kept ++ take left piece) =
    search (rules, take_behind most_named left kept piece c.self.invariant) in
    let at : ℕ → List ℕ → Name = λ l k. record { init = c.self.inside.init; left = l; kept = k } in
    ap (λ (l : ℕ). at l c.extend_from_slice.new.self.items) less ∙ ap (λ (k : List ℕ). at (left - length piece) k) all ∙ ap (λ (n : Name). named n piece) c.self.view_is
