use Rattle.std.proofs.Common.{rules, ◌≡◌, ◌<◌, ℕ, List, length, slice_index_or, sym, subst, ◌∙◌, ap}
use Rattle.key_set.specs.Among.{is_among, IsFlagged}
use Rattle.key_set.proofs.Among.{flagged_removed, removed_once, others-stay}
use Rattle.key_set.proofs.KeySet.remove.Goals as goal

pub invariant_of-self : goal.invariant_of-self
invariant_of-self c =
    let i = c.self.inside in
    let at = subst (λ (l : List ℕ). (c.in-Some.index < length l) × (slice_index_or l c.in-Some.index 0 ≡ c.args.key)) c.deref.ensures.value c.in-Some.ensures.found in
    subst (IsFlagged c.lower.new.flags.items) (sym c.remove.ensures.items)
    (flagged_removed i.flags.items c.lower.new.flags.items c.args.key c.in-Some.index i.keys.items c.self.invariant at.0 at.1 c.lower.ensures.lowered c.lower.ensures.others)

pub returns-in-Some-clause-others : goal.returns-in-Some-clause-others
returns-in-Some-clause-others c = λ k off there.
    let i = c.self.inside in
    let at = subst (λ (l : List ℕ). (c.in-Some.index < length l) × (slice_index_or l c.in-Some.index 0 ≡ c.args.key)) c.deref.ensures.value c.in-Some.ensures.found in
    ap (is_among k) (c.remove.ensures.items ∙ removed_once c.in-Some.index c.args.key i.keys.items at.0 at.1 c.self.invariant.apart) ∙ others-stay c.args.key i.keys.items k off (search rules)
