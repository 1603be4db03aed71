use Rattle.std.proofs.Common.{ap, ◌∙◌, rules}
use Rattle.update_sender.specs.Ends.{Listening, without_waiting}
use Rattle.update_sender.proofs.Putting.{puts-first}
use Rattle.update_sender.proofs.Served.{hears-from, hears-one-viewer}
use Rattle.update_sender.proofs.reader.serve_listener.Goals as goal

pub returns-clause-viewer : goal.returns-clause-viewer
returns-clause-viewer g c =
    ap (λ (l : Listening). l.viewer) c.listener.view_is
    ∙ hears-one-viewer _ _ _ _ _ c.hear_all-ended.ensures.heard.1
    ∙ ap (λ (l : Listening). l.viewer) c.take_waiting-waiting.ensures.rest

pub returns-clause-heard : goal.returns-clause-heard
returns-clause-heard g c =
    let h = c.hear_all-ended.ensures.heard in
    (c.hear_all-ended.new.listener, h.0, hears-from _ _ _ _ _ h.0 h.1 (ap without_waiting c.take_waiting-waiting.ensures.rest), h.2, search rules, search rules)

pub returns-clause-puts : goal.returns-clause-puts
returns-clause-puts g c =
    let p = c.put_all-dropped.ensures.puts in
    let q = c.hear_all-ended.ensures.puts in
    puts-first _ q.0 _ _ _ _ p.0 q.1 _ _ _ c.take_waiting-waiting.ensures.waiting p.1 p.2 q.2 q.3 c.saturating_add.ensures
