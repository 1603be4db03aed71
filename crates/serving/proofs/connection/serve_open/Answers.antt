use Rattle.serving.proofs.Halves.{served-by_halves}
use Rattle.serving.proofs.connection.serve_open.Goals as goal

pub returns-clause-served : goal.returns-clause-served
returns-clause-served g c =
    let both = c.scoped-read.ensures.1 in
    let write = c.receipt.ensures.write in
    let read = c.receipt.ensures.read in
    served-by_halves (g.Rd.Read.remaining c.args.reader) (g.Rd.Read.remaining c.scoped-read.result.0.1) (g.W.Write.contents c.args.writer) (g.W.Write.contents c.scoped-read.result.1.1) c.args.listener c.args.speaker c.scoped-read.result.0.0 c.scoped-read.result.1.0 c.receipt.result.0
    both.0 both.1 c.requires.viewer write.0 read.0 write.1 read.1 write.2 write.3
