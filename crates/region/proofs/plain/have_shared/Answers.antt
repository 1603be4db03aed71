use Rattle.std.proofs.Common.{sym, subst, Some}
use Rattle.std.specs.Prelude.{IsTrue, ◌↔◌}
use Rattle.region.specs.Forms.{PlainsShare}
use Rattle.region.proofs.plain.have_shared.Goals as goal
use Rattle.region.proofs.PlainLemmas.{whether_shared}

pub returns-in-Some-Some : goal.returns-in-Some-Some
returns-in-Some-Some c =
    subst (λ q. IsTrue c.is_some.result ↔ PlainsShare c.args.first q) (sym c.in-Some-Some.is-1)
    (subst (λ r. IsTrue c.is_some.result ↔ PlainsShare r (Some c.in-Some-Some.other)) (sym c.in-Some-Some.is-0)
    (subst (λ t. IsTrue t ↔ PlainsShare (Some c.in-Some-Some.one) (Some c.in-Some-Some.other)) (sym c.is_some.ensures)
    (whether_shared c.in-Some-Some.one c.in-Some-Some.other c.shared.result c.shared.ensures.places c.shared.ensures.plain)))
