use Rattle.std.proofs.Common.{sym, ◌∙◌}
use Rattle.pixel_translate.specs.declared.BitsPerPixel.TheVariants.{Sixteen, ThirtyTwo}
use Rattle.pixel_translate.proofs.Orders.{highest_first, lowest_first}
use Rattle.pixel_translate.proofs.bytes.write_pixels.Goals as goal

pub returns-in-Sixteen-false : goal.returns-in-Sixteen-false
returns-in-Sixteen-false g c = λ number gives.
    c.write_16_little.ensures number gives ∙ sym (lowest_first c.args.format.now number Sixteen c.args.values.now (sym c.bits.ensures ∙ c.in-Sixteen-false.is-0) c.in-Sixteen-false.is-1)

pub returns-in-Sixteen-true : goal.returns-in-Sixteen-true
returns-in-Sixteen-true g c = λ number gives.
    c.write_16_big.ensures number gives ∙ sym (highest_first c.args.format.now number Sixteen c.args.values.now (sym c.bits.ensures ∙ c.in-Sixteen-true.is-0) c.in-Sixteen-true.is-1)

pub returns-in-ThirtyTwo-false : goal.returns-in-ThirtyTwo-false
returns-in-ThirtyTwo-false g c = λ number gives.
    c.write_32_little.ensures number gives ∙ sym (lowest_first c.args.format.now number ThirtyTwo c.args.values.now (sym c.bits.ensures ∙ c.in-ThirtyTwo-false.is-0) c.in-ThirtyTwo-false.is-1)

pub returns-in-ThirtyTwo-true : goal.returns-in-ThirtyTwo-true
returns-in-ThirtyTwo-true g c = λ number gives.
    c.write_32_big.ensures number gives ∙ sym (highest_first c.args.format.now number ThirtyTwo c.args.values.now (sym c.bits.ensures ∙ c.in-ThirtyTwo-true.is-0) c.in-ThirtyTwo-true.is-1)
