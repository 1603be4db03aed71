use Rattle.std.proofs.Common.{◌≡◌, ◌++◌, List, ℕ, [], length, take, sym, subst, ap, ◌∙◌}
use Rattle.std.specs.Prelude.{nat_lt}
use Rattle.scribe.specs.Scribing.{Scribed, Puts}
use Rattle.scribe.proofs.Putting.{puts-written}
use Rattle.scribe.proofs.scribe.Scribe.put_first.Goals as goal

pub returns-else-bytes-len : goal.returns-else-bytes-len
returns-else-bytes-len g c =
    let waiting = take c.self.inside.used c.self.inside.buffer.items in
    let bytes = c.args.bytes.now in
    let n = c.write_out.result in
    let now = g.W.Write.contents c.write_out.new.writer in
    let s : Scribed = record { held = g.W.Write.contents c.self.inside.writer; waiting = waiting; broken = c.self.inside.is_broken } in
    let t : Scribed = record { held = now; waiting = waiting; broken = nat_lt n (length bytes) } in
    let empty : waiting ≡ [] = ap (λ (x : Scribed). x.waiting) c.self.view_is ∙ c.requires (sym (ap (λ (x : Scribed). x.broken) c.self.view_is) ∙ c.if-self.false) in
    subst (λ (x : Scribed). Puts bytes x t) c.self.view_is
    (puts-written n bytes bytes s t now c.if-self.false (ap (λ (l : List ℕ). l ++ bytes) empty) c.write_out.ensures.bytes (ap (λ (w : List ℕ). record { held = now; waiting = w; broken = nat_lt n (length bytes) }) empty))
