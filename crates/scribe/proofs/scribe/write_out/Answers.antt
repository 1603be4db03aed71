use Rattle.std.proofs.Common.{◌-◌, length, take, drop, ℕ, arith, subst, sym}
use Rattle.std.specs.Io.KnownBytes.{Appends}
use Rattle.std.proofs.lemmas.List.{length-take, length-drop}
use Rattle.scribe.proofs.Putting.{appends-piece, appends-kept}
use Rattle.scribe.proofs.scribe.write_out.Goals.{in-Ok, in-Err+else-ne}
use Rattle.scribe.proofs.scribe.write_out.Goals as goal

pub loop-preserved : goal.loop-preserved
loop-preserved g c =
    elim c.match-write.branch [
      | in-Ok w ↦
          let bytes = c.args.bytes.now in
          let a = g.W.Write.contents c.args.writer.now in
          let o = g.W.Write.contents c.write.new.self in
          record {
            within = (let few = w.in-Ok.ensures.bound in let long = length-take (length bytes - c.loop.done) (drop c.loop.done bytes) in let rest = length-drop c.loop.done bytes in let is = w.done-is in let so_far = c.loop.invariant.within in omega arith);
            wrote = subst (λ (n : ℕ). Appends a o (take n bytes)) (sym w.done-is) (appends-piece a (g.W.Write.contents c.loop.writer) o c.loop.done w.in-Ok.count bytes c.loop.invariant.wrote w.in-Ok.ensures.bytes);
          }
      | in-Err+else-ne w ↦
          let bytes = c.args.bytes.now in
          let a = g.W.Write.contents c.args.writer.now in
          let o = g.W.Write.contents c.write.new.self in
          record {
            within = (let is = w.done-is in let so_far = c.loop.invariant.within in omega arith);
            wrote = subst (λ (n : ℕ). Appends a o (take n bytes)) (sym w.done-is) (appends-kept a (g.W.Write.contents c.loop.writer) o (take c.loop.done bytes) c.loop.invariant.wrote w.in-Err.ensures.bytes);
          }
    ]
