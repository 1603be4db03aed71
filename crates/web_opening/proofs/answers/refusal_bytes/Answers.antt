use Rattle.std.proofs.Common.{ap, sym}
use Rattle.web_opening.specs.Response.{refusal_bytes}
use Rattle.web_opening.proofs.answers.refusal_bytes.Goals as goal

pub returns-in-BadRequest : goal.returns-in-BadRequest
returns-in-BadRequest c = ap refusal_bytes (sym c.in-BadRequest.is)

pub returns-in-Forbidden : goal.returns-in-Forbidden
returns-in-Forbidden c = ap refusal_bytes (sym c.in-Forbidden.is)

pub returns-in-MethodNotAllowed : goal.returns-in-MethodNotAllowed
returns-in-MethodNotAllowed c = ap refusal_bytes (sym c.in-MethodNotAllowed.is)

pub returns-in-UpgradeRequired : goal.returns-in-UpgradeRequired
returns-in-UpgradeRequired c = ap refusal_bytes (sym c.in-UpgradeRequired.is)

pub returns-in-HeadTooLarge : goal.returns-in-HeadTooLarge
returns-in-HeadTooLarge c = ap refusal_bytes (sym c.in-HeadTooLarge.is)

pub returns-in-VersionNotSupported : goal.returns-in-VersionNotSupported
returns-in-VersionNotSupported c = ap refusal_bytes (sym c.in-VersionNotSupported.is)
