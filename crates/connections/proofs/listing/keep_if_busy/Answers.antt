use Rattle.std.proofs.Common.{◌≡◌, inl, inr, true, ap, ◌∙◌, rules}
use Rattle.connections.specs.Serving.{works_at}
use Rattle.key_set.specs.AmongLemmas.{among-came, came-by}
use Rattle.connections.proofs.listing.keep_if_busy.Goals as goal

pub returns-clause-work : goal.returns-clause-work
returns-clause-work g c = λ k there.
    let works : works_at c.args.connections.now.slots c.args.key ≡ true = search rules in
    elim (among-came k c.args.key _ _ (came-by c.insert.result _ _ c.args.key c.insert.ensures.came c.insert.ensures.err) there) [
      | inl before ↦ inl before
      | inr is ↦ inr (ap (works_at c.args.connections.now.slots) is ∙ works)
    ]
