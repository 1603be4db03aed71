use Rattle.std.proofs.Common.{rules, ◌≤◌, length}
use Rattle.c_screen.proofs.Pieces.{none_more}
use Rattle.c_screen.proofs.output.make_piece.Goals as goal

pub returns-in-Some-clause-some : goal.returns-in-Some-clause-some
returns-in-Some-clause-some c = none_more c.put.result c.args.made.now.items c.clear.new.self.items _ c.in-Some.update _ _ (let all : length c.args.made.now.items ≤ c.args.done.now = search rules in all) c.in-Some.is c.put.ensures.more
