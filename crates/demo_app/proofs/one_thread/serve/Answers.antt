use Rattle.std.proofs.Common.{◌≡◌, ◌⊎◌, ℕ, inr, subst, sym}
use Rattle.demo_app.specs.Endings.{Judged}
use Rattle.demo_app.specs.Runs.{PrintsLoop}
use Rattle.demo_app.proofs.PrintedLemmas.{through}
use Rattle.demo_app.proofs.one_thread.serve.Goals as goal

pub returns-clause-status : goal.returns-clause-status
returns-clause-status g c =
    let is : ℕ → Type 0 = λ s. (s ≡ 0) ⊎ ((s ≡ 1) ⊎ (s ≡ 4)) in
    through c.run_and_print-ended.result c.unless_broken.result is is (c.unless_broken.new.writer ≡ c.run_and_print-ended.new.writer) c.unless_broken.ensures c.run_and_print-ended.ensures.status (λ s same p. p)

pub returns-clause-judged : goal.returns-clause-judged
returns-clause-judged g c check =
    let before = g.W.Write.contents c.args.writer.now in
    through c.run_and_print-ended.result c.unless_broken.result (λ s. (s ≡ 1) ⊎ Judged before (g.W.Write.contents c.run_and_print-ended.new.writer) s) (λ s. (s ≡ 1) ⊎ Judged before (g.W.Write.contents c.unless_broken.new.writer) s)
    (c.unless_broken.new.writer ≡ c.run_and_print-ended.new.writer) c.unless_broken.ensures (c.run_and_print-ended.ensures.judged check)
    (λ s same p. subst (λ w. (s ≡ 1) ⊎ Judged before (g.W.Write.contents w) s) (sym same) p)

pub returns-clause-printed : goal.returns-clause-printed
returns-clause-printed g c =
    let before = g.W.Write.contents c.args.writer.now in
    through c.run_and_print-ended.result c.unless_broken.result (PrintsLoop c.args.options.now g.S.Options.forever before (g.W.Write.contents c.run_and_print-ended.new.writer)) (λ s. (s ≡ 1) ⊎ PrintsLoop c.args.options.now g.S.Options.forever before (g.W.Write.contents c.unless_broken.new.writer) s)
    (c.unless_broken.new.writer ≡ c.run_and_print-ended.new.writer) c.unless_broken.ensures c.run_and_print-ended.ensures.printed
    (λ s same p. inr (subst (λ w. PrintsLoop c.args.options.now g.S.Options.forever before (g.W.Write.contents w) s) (sym same) p))
