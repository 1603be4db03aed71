use Rattle.web_stream.proofs.WritingLemmas.{own_written}
use Rattle.web_stream.proofs.stream.WebStream.write_answer.Goals as goal

pub returns-clause-own : goal.returns-clause-own
returns-clause-own g c =
    own_written g.S.Write.contents c.args.self.now c.write_own.new.self c.begin_answer.new.self c.write_own-2.new.self c.write_own-2.result
    c.if-self-gt0.false c.in_ok-write_own.ensures.own c.in_ok-write_own.ensures.inward c.begin_answer.ensures.stream c.begin_answer.ensures.own
    c.write_own-2.ensures.own
