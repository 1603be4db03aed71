use Rattle.std.proofs.Common.{◌≡◌, [], None, List, ℕ, sym, ap, ◌∙◌}
use Rattle.std.proofs.lemmas.Result.{err_from_is_err_and}
use Rattle.screen.specs.Alone.{config_refusal}
use Rattle.connections.specs.RecordedLemmas.{one-recorded, records-began}
use Rattle.record_writer.specs.Held.{bytes_held}
use Rattle.connections.proofs.Drawing.{refused-after, refused-as}
use Rattle.connections.proofs.connections.Connections.recorded.Goals as goal

pub returns-in-Some-clause-refused : goal.returns-in-Some-clause-refused
returns-in-Some-clause-refused g c =
    let config = c.args.config in
    refused-as _ (config_refusal config) c.in-Some.refusal
    (sym (ap (λ (n : List ℕ). config_refusal (record config { name = n })) c.as_slice-name.ensures) ∙ sym (c.config_refusal.ensures config.history) ∙ c.in-Some.is)

pub returns-in_err-session-clause-refused : goal.returns-in_err-session-clause-refused
returns-in_err-session-clause-refused g c =
    let config = c.args.config in
    let made : config_refusal config ≡ None = sym (ap (λ (n : List ℕ). config_refusal (record config { name = n })) c.as_slice-name.ensures) ∙ sym (c.config_refusal.ensures config.history) ∙ c.in_default.is in
    let r = c.from_residual.result in
    let from = err_from_is_err_and r c.from_residual.ensures.1 in
    refused-after r (config_refusal config) made (rw from.1 from.2)

pub returns-clause-serves : goal.returns-clause-serves
returns-clause-serves g c = λ began held. c.with.ensures.serves began
    (one-recorded began.held (bytes_held c.args.writer) c.args.config [] c.in_ok-session.session held (records-began c.args.config (bytes_held c.args.writer) c.in_ok-session.session c.in_ok-session.ensures))
