use Rattle.std.proofs.Common.{◌++◌, ◌∙◌, List, ℕ, subst, arith}
use Rattle.update_sender.specs.Serving.{WritingEnds}
use Rattle.update_sender.proofs.Served.{on_error, sends-then, sends-further, ending-further}
use Rattle.update_sender.proofs.line.Speaker.write_stream.Goals as goal

pub returns-in_err-write-2-clause-sent : goal.returns-in_err-write-2-clause-sent
returns-in_err-write-2-clause-sent g c =
    let i = c.loop-stream.invariant in
    let w = c.in_err-write-2.ensures.sent in
    let e = c.in_err-write-2.field-0.0 in
    let all = c.args.buffer.now.items ++ c.args.stream.now in
    let both = sends-then (g.W.Write.contents c.args.writer.now) (g.W.Write.contents c.loop-stream.writer) (g.W.Write.contents c.write-in-loop-stream.new.writer) c.args.self.now c.loop-stream.self c.write-in-loop-stream.new.self i.0 w.0 (i.1, i.2) (w.1, w.2) in
    let part = subst (λ (l : List ℕ). WritingEnds e w.0 l) c.deref-in-loop-stream.ensures.value w.3 in
    (i.0 ++ w.0, both.0, both.1, on_error c.from_residual-in_err-write-2.result e _ _ c.from_residual-in_err-write-2.ensures.1 (ending-further e i.0 w.0 c.fill.new.buffer.items c.fill.new.self c.loop-stream.stream all i.3 c.fill.ensures.bytes part))

pub loop-stream-preserved : goal.loop-stream-preserved
loop-stream-preserved g c =
    let w = c.in_ok-write-2.ensures.sent in
    sends-further (g.W.Write.contents c.args.writer.now) (g.W.Write.contents c.loop-stream.writer) (g.W.Write.contents c.write-in-loop-stream.new.writer) c.args.self.now c.loop-stream.self c.write-in-loop-stream.new.self c.loop-stream.stream (c.args.buffer.now.items ++ c.args.stream.now) c.fill.new.buffer.items c.fill.new.self c.loop-stream.count _
    c.loop-stream.invariant c.fill.ensures.bytes (w.0, w.1, w.2, w.3 ∙ c.deref-in-loop-stream.ensures.value) (grind arith)
