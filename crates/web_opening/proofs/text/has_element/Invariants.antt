use Rattle.std.proofs.Common.{◌≡◌, ◌-◌, ◌≤◌, take, drop}
use Rattle.web_opening.specs.Text.{has_element, has_element_from}
use Rattle.web_opening.proofs.text.has_element.Given as goal

abbrev pub invariant-loop-at : goal.invariant-loop-at
invariant-loop-at l =
    (l.start ≤ l.at)
    × (has_element l.list l.wanted l.letters
    ≡ has_element_from l.wanted l.letters (take (l.at - l.start) (drop l.start l.list)) (drop l.at l.list))
