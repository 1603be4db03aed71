use Rattle.std.proofs.Common.{sym, arith}
use Rattle.std.proofs.lemmas.List.{take_all, length-take-le}
use Rattle.demo_app.proofs.serve.first_of.Goals as goal

pub slice_bounds-result-end : goal.slice_bounds-result-end
slice_bounds-result-end c = sym (length-take-le 65536 c.args.text.now (omega (arith, c.if-text-le-LONGEST_TEXT.false)))

pub returns-then-text-le-LONGEST_TEXT : goal.returns-then-text-le-LONGEST_TEXT
returns-then-text-le-LONGEST_TEXT c = sym (take_all 65536 c.args.text.now (omega (arith, c.if-text-le-LONGEST_TEXT.true)))
