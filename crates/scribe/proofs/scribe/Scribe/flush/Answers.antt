use Rattle.std.proofs.Common.{◌≡◌, List, ℕ, [], length, take, sym, subst, ap, append-nil, arith}
use Rattle.std.specs.Prelude.{nat_lt}
use Rattle.std.specs.Io.KnownBytes.{Appends}
use Rattle.std.proofs.lemmas.List.{length-take}
use Rattle.scribe.specs.Scribing.{Scribed, Puts}
use Rattle.scribe.proofs.Putting.{puts-written}
use Rattle.scribe.proofs.scribe.Scribe.flush.Goals as goal

pub returns-clause-puts : goal.returns-clause-puts
returns-clause-puts g c =
    let buffer = c.self.inside.buffer.items in
    let used = c.self.inside.used in
    let waiting = take used buffer in
    let n = c.write_out-count.result in
    let now = g.W.Write.contents c.write_out-count.new.writer in
    let old = g.W.Write.contents c.self.inside.writer in
    let long : length waiting ≡ used = (let l = length-take used buffer in let few = c.self.invariant in let known = c.self.inside.buffer.ok.0 in omega arith) in
    let wrote : Appends old now (take n waiting) = subst (λ (l : List ℕ). Appends old now (take n (take used l))) c.deref.ensures.value c.write_out-count.ensures.bytes in
    let s : Scribed = record { held = old; waiting = waiting; broken = c.self.inside.is_broken } in
    let t : Scribed = record { held = now; waiting = []; broken = nat_lt n used } in
    subst (λ (x : Scribed). Puts [] x t) c.self.view_is
    (puts-written n waiting [] s t now c.if-self.false (append-nil waiting) wrote (ap (λ (m : ℕ). record { held = now; waiting = []; broken = nat_lt n m }) (sym long)))
