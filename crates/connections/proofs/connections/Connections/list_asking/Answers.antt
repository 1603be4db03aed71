use Rattle.std.proofs.Common.{◌≡◌, true, ℕ, List, subst}
use Rattle.key_set.specs.Among.{is_among}
use Rattle.connections.proofs.Everyone.{goes-among}
use Rattle.connections.proofs.connections.Connections.list_asking.Goals as goal

pub returns-clause-served : goal.returns-clause-served
returns-clause-served g c =
    let i = c.self.inside in
    let same : c.keep_asking.new.kept.list ≡ c.swap.new.x.list = search in
    goes-among c.args.self.now i.canvas _ _ i.connections.slots _ i.agenda.list i.asking.list c.keep_asking.new.agenda.list c.swap.new.x.list c.self.view_is (λ key works. c.keep_asking.ensures.more key)
    (λ key asks there. subst (λ (l : List ℕ). is_among key l ≡ true) same (c.in_ok-keep_asking.ensures.kept key asks there))

pub returns-in_err-keep_asking-clause-served : goal.returns-in_err-keep_asking-clause-served
returns-in_err-keep_asking-clause-served g c =
    let i = c.self.inside in
    goes-among c.args.self.now i.canvas _ _ i.connections.slots _ i.agenda.list i.asking.list c.keep_asking.new.agenda.list i.asking.list c.self.view_is (λ key works. c.keep_asking.ensures.more key) (λ key asks there. there)
