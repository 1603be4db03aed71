use Rattle.std.proofs.Common.{◌≡◌, ◌+◌, ◌-◌, ◌^◌, ◌≤◌, ◌<◌, vec_len}
use Rattle.std.specs.Io.KnownBytes.{Consumes}
use Rattle.play_script.proofs.reading.read_script.Given as goal

abbrev pub invariant-loop-reader : goal.invariant-loop-reader
invariant-loop-reader g l = record {
  consumed : Consumes (g.R.Read.remaining l.initial.reader.reader.now) (g.R.Read.remaining l.reader.reader.now) l.script.items;
  counted : l.reader.steps.now ≤ l.initial.reader.steps.now + vec_len l.script;
  capped : l.reader.steps.now ≤ l.initial.reader.steps.now + (2 ^ 24 + 1);
  risen : l.initial.reader.steps.now ≤ l.reader.steps.now;
  same_count : l.reader.steps.ghost_name ≡ l.initial.reader.steps.ghost_name;
  room : 0 < vec_len l.piece;
}

abbrev pub decreases-loop-reader : goal.decreases-loop-reader
decreases-loop-reader g l = 2 ^ 24 + 1 - vec_len l.script
