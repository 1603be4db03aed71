use Rattle.std.proofs.Common.{◌≡◌, drop}
use Rattle.httparse.specs.Grammar.{skip_ows}
use Rattle.web_opening.proofs.text.skip_white_space.Given as goal

abbrev pub invariant-loop-at : goal.invariant-loop-at
invariant-loop-at l = skip_ows l.text ≡ skip_ows (drop l.at l.text)
