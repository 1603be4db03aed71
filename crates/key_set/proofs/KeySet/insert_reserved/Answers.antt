use Rattle.std.proofs.Common.{rules, ◌≡◌, ◌<◌, false, length, sym, subst}
use Rattle.key_set.specs.Among.{is_among, IsFlagged}
use Rattle.key_set.proofs.Among.{flagged_pushed}
use Rattle.key_set.proofs.KeySet.insert_reserved.Goals as goal

pub invariant_of-self : goal.invariant_of-self
invariant_of-self c =
    let i = c.self.inside in
    let none : is_among c.args.key i.keys.items ≡ false = search rules in
    let below : c.args.key < length i.flags.items = search rules in
    subst (IsFlagged c.raise.new.flags.items) (sym c.push_reserved.ensures.items)
    (flagged_pushed i.flags.items c.raise.new.flags.items c.args.key i.keys.items c.self.invariant none (c.raise.ensures.raised below) c.raise.ensures.others)
