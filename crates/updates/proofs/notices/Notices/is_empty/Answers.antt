use Rattle.std.proofs.Common.{◌≡◌, List, [], ◌∷◌, length, refl, ◌∙◌, ap, arith}
use Rattle.std.specs.Prelude.{◌==◌}
use Rattle.std.proofs.lemmas.Bool.Decides.{nat_tests}
use Rattle.updates.specs.declared.notices.Notice.{Notice}
use Rattle.updates.specs.Waiting.{none_wait}
use Rattle.updates.proofs.notices.Notices.is_empty.Goals as goal

none_long : (notices : List Notice) → (length notices == 0) ≡ none_wait notices
none_long [] = refl
none_long (n ∷ notices) = grind (arith, nat_tests)

pub returns : goal.returns
returns c = c.is_empty.ensures ∙ ap (λ n. n == 0) c.self.inside.waiting.ok.0 ∙ none_long c.self.inside.waiting.items ∙ ap none_wait c.self.view_is
