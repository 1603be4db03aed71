use Rattle.web_opening.specs.Head.{ends_in_empty_line}
use Rattle.web_opening.proofs.head.ends_in_empty_line.Goals as goal

pub returns : goal.returns
unfolding ends_in_empty_line
returns c = c.ends_with.ensures.value
