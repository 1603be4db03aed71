use Rattle.std.proofs.Common.{◌≡◌, ◌+◌, ◌++◌, List, ℕ, [], length, take, drop, subst, ap, ◌∙◌, arith}
use Rattle.std.proofs.lemmas.List.{length-take}
use Rattle.scribe.specs.Scribing.{Scribed, Puts}
use Rattle.scribe.specs.ScribingLemmas.{puts-then}
use Rattle.scribe.proofs.Putting.{puts-copied, take-copied}
use Rattle.scribe.proofs.scribe.Scribe.put.Goals as goal

pub returns-then-bytes-len-clause-puts : goal.returns-then-bytes-len-clause-puts
returns-then-bytes-len-clause-puts g c =
    let used = c.self.inside.used in
    let buffer = c.self.inside.buffer.items in
    let bytes = c.args.bytes.now in
    let held = g.W.Write.contents c.self.inside.writer in
    let s : Scribed = record { held = held; waiting = take used buffer; broken = c.self.inside.is_broken } in
    let t : Scribed = record { held = held; waiting = take (used + length bytes) c.copy_behind.new.buffer.items; broken = c.self.inside.is_broken } in
    let long : length (take used buffer) ≡ used = (let l = length-take used buffer in let few = c.self.invariant in let known = c.self.inside.buffer.ok.0 in omega arith) in
    let is : take (used + length bytes) c.copy_behind.new.buffer.items ≡ take used buffer ++ bytes =
    ap (λ (l : List ℕ). take (used + length bytes) l) c.copy_behind.ensures.copied ∙ take-copied (take used buffer) bytes (drop (used + length bytes) buffer) used long in
    subst (λ (x : Scribed). Puts bytes x t) c.self.view_is (puts-copied bytes s t c.if-self.false (ap (λ (w : List ℕ). record { held = held; waiting = w; broken = c.self.inside.is_broken }) is))

pub returns-else-bytes-len-clause-puts : goal.returns-else-bytes-len-clause-puts
returns-else-bytes-len-clause-puts g c = puts-then [] c.args.bytes.now c.args.self.now c.flush.new.self c.put_first.new.self c.flush.ensures.puts c.put_first.ensures
