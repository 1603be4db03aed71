use Rattle.std.proofs.Common.{◌≡◌, ℕ, true, arith}
use Rattle.key_set.specs.Among.{is_among}
use Rattle.connections.specs.Serving.{may_ask_at}
use Rattle.key_set.specs.AmongLemmas.{each-among}
use Rattle.connections.proofs.listing.keep_asking.Goals as goal

pub returns-clause-kept : goal.returns-clause-kept
returns-clause-kept g c = λ key asks there.
    each-among (λ (k : ℕ). may_ask_at c.args.connections.now.slots k ≡ true → is_among k c.loop-index.kept.list ≡ true) c.args.asking.now.list
    (λ i below. c.loop-index.invariant.kept i (omega (arith, below, c.loop-index-test.false, c.len-index-end.ensures))) key there asks
