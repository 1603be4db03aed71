use Rattle.std.proofs.Common.{◌≡◌, ◌<◌, true, List, ℕ, ◌++◌, length, ap, arith}
use Rattle.std.proofs.lemmas.List.{length-append}
use Rattle.updates.proofs.stream.Stream.fill.Goals as goal

less-left : (old new left rest : List ℕ) → new ++ rest ≡ old ++ left → length old < length new → length rest < length left
less-left old new left rest e more = omega (arith, more, ap (λ (l : List ℕ). length l) e, length-append new rest, length-append old left)

pub loop-self-smaller : goal.loop-self-smaller
loop-self-smaller c =
    less-left c.loop-self.buffer.items c.put.new.out.items c.loop-self.self c.put.new.self c.in_ok-put.ensures.ok
    (c.in_ok-put.ensures.more (λ none. let ended : c.is_ended.result ≡ true = c.is_ended.ensures.1 none in first_of (cc, grind arith)))
