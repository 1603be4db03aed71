use Rattle.std.proofs.Common.{◌≡◌, ◌++◌, drop}
use Rattle.messages.specs.Server.{server_init, answers}
use Rattle.messages.proofs.opening.greetings.Given as goal

-- the bytes so far, and what the items left are answered, are what all are answered
abbrev pub invariant-loop-item : goal.invariant-loop-item
invariant-loop-item l =
    let init = server_init l.desktop.width l.desktop.height l.desktop.name.now in
    l.bytes.items ++ answers init l.phase (drop l.item-index l.items) ≡ answers init l.fn.phase l.items
