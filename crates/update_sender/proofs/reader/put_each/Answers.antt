use Rattle.std.proofs.Common.{[], ◌∷◌, ◌+◌, arith, refl, ap, ◌∙◌, sym, subst}
use Rattle.held_inputs.specs.Held.{Held, after, roomy}
use Rattle.update_sender.specs.Inputs.{PutsBehind}
use Rattle.update_sender.proofs.Putting.{between-frame, between-more, held-more}
use Rattle.update_sender.proofs.reader.put_each.Goals as goal

pub loop-input-init : goal.loop-input-init
loop-input-init g c = (refl, 0, (refl, refl), refl)

pub put_next-requires : goal.put_next-requires
put_next-requires g c = let i = c.loop-input.invariant in ap (λ s. s.queue) (between-frame _ _ _ _ _ i.2) ∙ c.requires

pub loop-input-preserved : goal.loop-input-preserved
loop-input-preserved g c =
    let i = c.loop-input.invariant in
    let held = c.args.held.now in
    let x = c.in-Some.input in
    let one = subst (λ (h : Held). PutsBehind (roomy h) x c.loop-input.seat c.put_next.new.seat c.put_next.result) i.0 c.put_next.ensures.puts in
    let p = between-more held c.loop-input.yielded x c.args.seat.now c.loop-input.seat c.put_next.new.seat i.1 c.put_next.result i.2 one in
    (c.put_next.ensures.held ∙ ap (λ (h : Held). after (roomy h) x) i.0 ∙ sym (held-more held c.loop-input.yielded x), i.1 + c.put_next.result, p, omega (arith, i.3, c.put_next.ensures.few, c.saturating_add-dropped.ensures))
