use Rattle.std.proofs.Common.{◌≡◌, true, ℕ, List, sym, subst}
use Rattle.key_set.specs.Among.{is_among}
use Rattle.connections.proofs.Everyone.{goes-among}
use Rattle.connections.proofs.connections.Connections.list_busy.Goals as goal

pub returns-clause-served : goal.returns-clause-served
returns-clause-served g c =
    let i = c.self.inside in
    let same : c.keep_busy.new.kept.list ≡ c.swap.new.x.list = search in
    goes-among c.args.self.now i.canvas _ _ i.connections.slots _ i.agenda.list i.asking.list c.swap.new.x.list i.asking.list c.self.view_is
    (λ key works there. subst (λ (l : List ℕ). is_among key l ≡ true) same (c.in_ok-keep_busy.ensures.all key works there)) (λ key asks there. there)

pub returns-clause-left : goal.returns-clause-left
returns-clause-left g c = λ key there.
    let same : c.keep_busy.new.kept.list ≡ c.swap.new.x.list = search in
    c.in_ok-keep_busy.ensures.work key (subst (λ (l : List ℕ). is_among key l ≡ true) (sym same) there)
