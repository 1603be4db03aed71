use Rattle.std.proofs.Common.{◌≡◌, [], None, ◌∙◌}
use Rattle.std.proofs.lemmas.Result.{err_from_is_err_and}
use Rattle.screen.specs.Alone.{config_refusal}
use Rattle.connections.specs.RecordedLemmas.{recorded-same}
use Rattle.connections.proofs.Drawing.{accepted, refused-after, made-unrefused}
use Rattle.connections.proofs.Everyone.{none-yet}
use Rattle.connections.proofs.connections.Connections.with.Goals as goal

pub returns-in_err-with_capacity-clause-refused : goal.returns-in_err-with_capacity-clause-refused
returns-in_err-with_capacity-clause-refused g c =
    let made : config_refusal c.args.config ≡ None = accepted c.new.result (config_refusal c.args.config) _ c.in_ok-screen.was c.new.ensures.refused in
    let r = c.from_residual-in_err-with_capacity.result in
    let from = err_from_is_err_and r c.from_residual-in_err-with_capacity.ensures.1 in
    refused-after r (config_refusal c.args.config) made (rw from.1 from.2)

pub returns-clause-serves : goal.returns-clause-serves
returns-clause-serves g c = λ began recorded. none-yet c.args.config began _ (recorded-same began.held c.args.config [] _ _ c.new-2.ensures.recorded recorded) (c.new-2.ensures.screen ∙ c.in_ok-screen.ensures.made) c.is_kept-is_kept.ensures c.new-3.ensures.empty

pub returns-clause-accepted : goal.returns-clause-accepted
returns-clause-accepted g c = accepted c.new.result (config_refusal c.args.config) _ c.in_ok-screen.was c.new.ensures.refused

pub returns-clause-refused : goal.returns-clause-refused
returns-clause-refused g c =
    let made : config_refusal c.args.config ≡ None = accepted c.new.result (config_refusal c.args.config) _ c.in_ok-screen.was c.new.ensures.refused in
    search (made-unrefused, made)
