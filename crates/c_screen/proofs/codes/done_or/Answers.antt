use Rattle.std.proofs.Common.{rules}
use Rattle.c_screen.proofs.Drawing.{answered, told_apart}
use Rattle.c_screen.proofs.codes.done_or.Goals as goal

pub returns-in-Ok : goal.returns-in-Ok
returns-in-Ok c = record { code = search rules; done = told_apart c.args.answer _ (search rules); answers = answered c.args.answer _ (search rules) }

pub returns-in-Err : goal.returns-in-Err
returns-in-Err c = record { code = search rules; done = told_apart c.args.answer _ (search rules); answers = answered c.args.answer _ (search rules) }
