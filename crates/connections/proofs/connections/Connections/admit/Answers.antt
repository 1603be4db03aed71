use Rattle.std.proofs.Common.{◌++◌, ℕ, List, Bool, sym, ap, ◌∙◌, subst}
use Rattle.slab.specs.Slab.{Slab}
use Rattle.connections.specs.Serving.{Serving}
use Rattle.connection.specs.Connection.{ViewerConnection}
use Rattle.connection.specs.Recording.{none_yet}
use Rattle.connections.proofs.Everyone.{admitted, Takes}
use Rattle.connections.proofs.connections.Connections.admit.Goals as goal

pub returns-clause-serves : goal.returns-clause-serves
returns-clause-serves g c = λ config began list s start.
    let inside = c.self.inside in
    let f = c.give.new.self in
    let first = c.new-connection.result in
    let key = c.insert_reserved-key.result in
    let slots = ap (λ (x : Slab ViewerConnection). record { surface = inside.canvas; kept = inside.is_kept; next = inside.next; slots = x.slots; vacant = x.vacant_key; agenda = inside.agenda.list; asking = inside.asking.list })
    c.reserve.ensures.rest_kept in
    let agenda : Takes key inside.agenda.list c.insert_reserved.new.self.list =
    subst (λ (l : List ℕ). Takes key l c.insert_reserved.new.self.list) c.make_room.ensures.same (c.insert_reserved.ensures.there, c.insert_reserved.ensures.kept) in
    let asking : Takes key inside.asking.list c.insert_reserved-2.new.self.list =
    subst (λ (l : List ℕ). Takes key l c.insert_reserved-2.new.self.list) c.make_room-2.ensures.same (c.insert_reserved-2.ensures.there, c.insert_reserved-2.ensures.kept) in
    let known = ap (λ (x : ViewerConnection). x.known) c.give.ensures.same ∙ c.new-connection.ensures.known in
    admitted config began list c.args.self.now inside.canvas c.connect.new.self inside.is_kept inside.next c.in-Some.next c.reserve.new.self c.insert_reserved-key.new.self inside.agenda.list inside.asking.list
    c.insert_reserved.new.self.list c.insert_reserved-2.new.self.list
    key f c.as_slice.result.now _ (slots ∙ c.self.view_is) (λ h. c.in_ok-version.ensures.step config list h) (λ h. c.in_ok-version.ensures.recorded config list h) (λ h. c.as_slice.ensures ∙ c.in_ok-version.ensures.answer config list h) c.in-Some.ensures.1
    c.insert_reserved-key.ensures.was_vacant c.insert_reserved-key.ensures.updates
    (ap (λ (x : ViewerConnection). x.number) c.give.ensures.same ∙ c.new-connection.ensures.number)
    (ap (λ (x : ViewerConnection). x.carried) c.give.ensures.same ∙ c.new-connection.ensures.carried)
    (ap (λ (x : ViewerConnection). x.held) c.give.ensures.same ∙ c.new-connection.ensures.held)
    (ap (λ (x : ViewerConnection). x.counts) c.give.ensures.same ∙ c.new-connection.ensures.counts)
    (λ fine. c.give.ensures.bytes fine ∙ ap (λ l. l ++ c.as_slice.result.now) c.new-connection.ensures.waiting)
    c.give.ensures.few c.connect.ensures.same (ap (λ k. k.may_cut) known) (ap (λ k. k.may_ask) known) agenda asking
    s (start ∙ ap (λ (kept : Bool). record { unread = g.T.Transport.unread c.args.transport; written = g.T.Transport.written c.args.transport; sent = none_yet kept }) (sym (ap (λ (x : Serving). x.kept) c.self.view_is)))
