use Rattle.std.proofs.Common.{◌≡◌, ℤ, ◌+◌, [], ap, ◌∙◌, arith, rules, to_z, of_z, w32}
use mir.Val.{SFits}
use Rattle.std.proofs.lemmas.Int.{to_z-of_z}
use Rattle.std.proofs.lemmas.Result.{IfOk-at_ok}
use Rattle.messages.specs.Reading.{encodings}
use Rattle.messages.specs.Steps.{number_in, with_number}
use Rattle.messages.specs.Partial.{given_by}
use Rattle.messages.proofs.partial.Numbers.take.Goals as goal

passed : (n : ℤ) → SFits w32 n → to_z w32 (of_z w32 n) ≡ n
passed n fits = to_z-of_z w32 n fits

pub returns-clause-some : goal.returns-clause-some
returns-clause-some c = (
  omega (arith, c.len-missing.ensures.value, c.requires.short),
  omega arith,
  omega (arith, c.len-missing.ensures.value, c.requires.short),
  c.put.ensures
      ∙ ap (λ (n : ℤ). encodings c.args.self.now.count (c.args.self.now.come + 1) (with_number (given_by c.args.self.now) n) [])
      (passed c.number_in-number.result (search rules) ∙ c.number_in-number.ensures ∙ ap number_in (c.deref.ensures.0 ∙ IfOk-at_ok _ c.unwrap-2.ensures c.try_extend_from_slice-2.ensures.ok
      )),
)
