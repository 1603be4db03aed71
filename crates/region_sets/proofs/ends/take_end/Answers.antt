use Rattle.std.proofs.Common.{◌∙◌, ◌∷◌, ◌+◌, ap, sym}
use Rattle.region_bands.specs.Bands.{first_row}
use Rattle.region_sets.specs.Ends.{end_of, without_end}
use Rattle.region_sets.proofs.EndLemmas.{took_last, took_first}
use Rattle.region_sets.proofs.ends.take_end.Goals as goal

pub returns-then-reverse_x-clause-interval : goal.returns-then-reverse_x-clause-interval
returns-then-reverse_x-clause-interval c =
    let old = c.args.bands.now in
    ap (λ r. end_of r (first_row old.below)) c.if-reverse_x.true ∙ (took_last old c.take_last_interval.new.self c.take_last_interval.result c.requires.interval c.take_last_interval.ensures.interval c.take_last_interval.ensures.taken).0

pub returns-then-reverse_x-clause-taken : goal.returns-then-reverse_x-clause-taken
returns-then-reverse_x-clause-taken c =
    let old = c.args.bands.now in
    λ first rest is. (took_last old c.take_last_interval.new.self c.take_last_interval.result c.requires.interval c.take_last_interval.ensures.interval c.take_last_interval.ensures.taken).1 first rest is
    ∙ ap (λ r. record old { left = without_end r first.row; below = record first { row = without_end r first.row } ∷ rest; spare = old.spare + 1 }) (sym c.if-reverse_x.true)

pub returns-else-reverse_x-clause-interval : goal.returns-else-reverse_x-clause-interval
returns-else-reverse_x-clause-interval c =
    let old = c.args.bands.now in
    ap (λ r. end_of r (first_row old.below)) c.if-reverse_x.false ∙ (took_first old c.take_first_interval.new.self c.take_first_interval.result c.requires.interval c.take_first_interval.ensures.interval c.take_first_interval.ensures.taken).0

pub returns-else-reverse_x-clause-taken : goal.returns-else-reverse_x-clause-taken
returns-else-reverse_x-clause-taken c =
    let old = c.args.bands.now in
    λ first rest is. (took_first old c.take_first_interval.new.self c.take_first_interval.result c.requires.interval c.take_first_interval.ensures.interval c.take_first_interval.ensures.taken).1 first rest is
    ∙ ap (λ r. record old { left = without_end r first.row; below = record first { row = without_end r first.row } ∷ rest; spare = old.spare + 1 }) (sym c.if-reverse_x.false)
