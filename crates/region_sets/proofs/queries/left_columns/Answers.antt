use Rattle.std.proofs.Common.{◌∙◌, ap, sym}
use Rattle.region_bands.specs.declared.Interval.{Interval}
use Rattle.region_sets.proofs.RowLemmas.{none_of}
use Rattle.region_sets.proofs.queries.left_columns.Goals as goal

pub returns-in_err-first-clause-read : goal.returns-in_err-first-clause-read
returns-in_err-first-clause-read c = ap (λ l. record c.args.bands.now { left = l }) (none_of Interval c.args.bands.now.left (sym c.first_left.ensures ∙ c.in_err-first.was))
