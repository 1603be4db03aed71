use Rattle.std.proofs.Common.{◌++◌, List, ℕ, take, ap, arith}
use Rattle.web_stream.proofs.WritingLemmas.{takes_front}
use Rattle.web_stream.proofs.stream.WebStream.write_joined.Goals as goal

pub returns-clause-bytes : goal.returns-clause-bytes
returns-clause-bytes g c =
    let now = c.args.self.now in
    let part : List ℕ = take c.min-most.result c.args.bytes.now in
    let left = c.count.ensures in
    takes_front now.begun now.outward.own.items c.count.new.self.own.items (c.deref.result.now ++ part) c.args.bytes.now now.outward.owed
    c.count.new.self.owed c.in_ok-written.written c.count.result c.min-most.result (g.S.Write.contents now.stream)
    (g.S.Write.contents c.write_both.new.self) left.own left.owed left.payload
    (ap (λ (l : List ℕ). l ++ part) c.deref.ensures.0) (omega arith) (omega arith)
    c.in_ok-written.ensures.bound c.in_ok-written.ensures.bytes
