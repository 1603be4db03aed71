use Rattle.std.proofs.Common.{inl, inr, arith}
use Rattle.server_reader.proofs.RunLemmas.{rows_run, last_run, part_run, wide_rows}
use Rattle.server_reader.proofs.stage.PixelRows.behind_run.Goals as goal

pub returns-then-column-self-clause-rest : goal.returns-then-column-self-clause-rest
returns-then-column-self-clause-rest c front long =
    elim c.requires.next [
      | inl whole ↦ rows_run c.args.self c.args.run c.behind_rows.result whole c.behind_rows.ensures.rest front long
      | inr part ↦ last_run c.args.self c.args.run c.behind_rows.result part (omega (arith, part.inside, c.if-column-self.true)) c.behind_rows.ensures.rest front long
    ]

pub returns-clause-rest : goal.returns-clause-rest
returns-clause-rest c front long =
    elim c.requires.next [
      | inl whole ↦ absurd (omega (arith, wide_rows c.args.self c.args.run whole, c.if-column-self.false))
      | inr part ↦ part_run c.args.self c.args.run part front long
    ]

pub returns-then-column-self-clause-on : goal.returns-then-column-self-clause-on
returns-then-column-self-clause-on c size on = c.behind_rows.ensures.on size on
