use Rattle.std.specs.Prelude.{◌≡◌, ◌≤◌, ◌+◌, ◌-◌, ◌++◌, length, take, vec_len, vec_capacity}
use Rattle.kept_list.proofs.append_reserved.Given as goal

abbrev pub invariant-loop-element : goal.invariant-loop-element
invariant-loop-element g l = (l.items.items ≡ l.initial.items.items ++ take l.element-index l.more) × (vec_len l.items + (length l.more - l.element-index) ≤ vec_capacity l.items)
