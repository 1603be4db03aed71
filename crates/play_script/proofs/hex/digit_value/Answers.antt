use Rattle.std.proofs.Common.{◌≡◌, ℕ, ◌<◌, map, get_or, refl, ap, ◌∙◌, arith}
use Rattle.std.proofs.lemmas.List.FromFn.{get_or-map-range_with_len}
use Rattle.std.specs.List.{range_with_len}
use Rattle.std.specs.Char.{digit_value}
use Rattle.play_script.specs.declared.hex.TheConstants.{DIGIT_VALUES}
use Rattle.play_script.proofs.hex.digit_value.Goals as goal

-- the table has the value of each byte
table_is : DIGIT_VALUES ≡ map digit_value (range_with_len 0 256)
table_is = refl

looked_up : (b : ℕ) → b < 256 → get_or DIGIT_VALUES b 0 ≡ digit_value b
looked_up b h = ap (λ t. get_or t b 0) table_is ∙ get_or-map-range_with_len digit_value 0 256 b b 0 h (omega arith)

pub returns : goal.returns
returns c = rw (c.from-2.ensures, c.from.ensures) (looked_up c.args.byte (omega arith))
