use Rattle.std.proofs.Common.{[], ◌++◌}
use Rattle.update_sender.proofs.Served.{on_error, hears-nothing, hears-then, sends-then, opening-ends, version-broken, greets-further, greeted-further}
use Rattle.update_sender.proofs.opening.greet.Goals as goal

pub returns-in_err-write-clause-heard : goal.returns-in_err-write-clause-heard
returns-in_err-write-clause-heard g c =
    on_error c.from_residual.result c.in_err-write.field-0.0 _ _ c.from_residual.ensures.1
    ([], hears-nothing (g.Rd.Read.remaining c.args.reader.now) c.args.listener.now, opening-ends c.in_err-write.field-0.0 _ c.in_err-write.ensures.ended)

pub returns-in_err-write-clause-sent : goal.returns-in_err-write-clause-sent
returns-in_err-write-clause-sent g c =
    let e = c.in_err-write.field-0.0 in
    let w = c.in_err-write.ensures.sent in
    on_error c.from_residual.result e _ _ c.from_residual.ensures.1
    (w.0, (w.1, w.2), version-broken e w.0 c.args.version.now w.3)

pub returns-in_err-open_further-clause-heard : goal.returns-in_err-open_further-clause-heard
returns-in_err-open_further-clause-heard g c =
    let h = c.in_err-open_further.ensures.heard in
    on_error c.from_residual-in_err-open_further.result c.in_err-open_further.field-0.0 _ _ c.from_residual-in_err-open_further.ensures.1
    (h.0, hears-then _ _ _ _ _ _ h.0 c.loop.invariant.0 h.1, h.2)

pub returns-in_err-open_further-clause-sent : goal.returns-in_err-open_further-clause-sent
returns-in_err-open_further-clause-sent g c =
    let e = c.in_err-open_further.field-0.0 in
    let i = c.loop.invariant in
    let s = c.in_err-open_further.ensures.sent in
    on_error c.from_residual-in_err-open_further.result e _ _ c.from_residual-in_err-open_further.ensures.1
    (c.args.version.now ++ i.1 ++ s.0, sends-then _ _ _ _ _ _ (c.args.version.now ++ i.1) s.0 i.2 s.1, greets-further e s.0 c.args.version.now i.1 s.2)

pub returns-then-branch-clause-heard : goal.returns-then-branch-clause-heard
returns-then-branch-clause-heard g c = hears-then _ _ _ _ _ _ [] c.loop.invariant.0 c.in_ok-open_further.ensures.heard

pub returns-then-branch-clause-sent : goal.returns-then-branch-clause-sent
returns-then-branch-clause-sent g c =
    let i = c.loop.invariant in
    let s = c.in_ok-open_further.ensures.sent in
    (i.1 ++ s.0, greeted-further _ _ _ _ _ _ c.args.version.now i.1 s.0 i.2 s.1)

pub loop-preserved : goal.loop-preserved
loop-preserved g c =
    let i = c.loop.invariant in
    let s = c.in_ok-open_further.ensures.sent in
    (hears-then _ _ _ _ _ _ [] i.0 c.in_ok-open_further.ensures.heard, i.1 ++ s.0, greeted-further _ _ _ _ _ _ c.args.version.now i.1 s.0 i.2 s.1)
