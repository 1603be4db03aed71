use Rattle.region_sets.proofs.first_goes_on.Goals as goal

pub returns-then-last_ends_at-clause-no : goal.returns-then-last_ends_at-clause-no
returns-then-last_ends_at-clause-no c = λ e front last first rest above below touch. c.first_is_as_last.ensures.no e front last first rest above below
