use Rattle.redaction.proofs.Traces.{secrets_leave_no_trace-holds}
use Rattle.redaction.proofs.laws.secrets_leave_no_trace.Goals as goal

pub returns : goal.returns
returns c = secrets_leave_no_trace-holds
