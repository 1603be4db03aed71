use Rattle.std.proofs.Common.{arith}
use Rattle.source_pixels.proofs.ScaleLemmas.{value_scaled}
use Rattle.source_pixels.proofs.scales.Scale.value.Goals as goal

pub overflow_mul-result-2 : goal.overflow_mul-result-2
overflow_mul-result-2 c =
    omega (arith, (value_scaled c.args.self.now.at c.args.number c.from-value.result c.from.result c.from-max.result c.args.self.now.factor c.args.self.now.fitting (omega arith) c.from-max.ensures c.from.ensures c.from-value.ensures c.args.self.now.factor_is).fits)

pub overflow_cast-result : goal.overflow_cast-result
overflow_cast-result c =
    omega (arith, (value_scaled c.args.self.now.at c.args.number c.from-value.result c.from.result c.from-max.result c.args.self.now.factor c.args.self.now.fitting (omega arith) c.from-max.ensures c.from.ensures c.from-value.ensures c.args.self.now.factor_is).small)

pub returns : goal.returns
returns c =
    (value_scaled c.args.self.now.at c.args.number c.from-value.result c.from.result c.from-max.result c.args.self.now.factor c.args.self.now.fitting (omega arith) c.from-max.ensures c.from.ensures c.from-value.ensures c.args.self.now.factor_is).is
