use Rattle.std.proofs.Common.{◌≡◌, ◌++◌, take, drop}
use Rattle.redaction.specs.Places.{spot_behind, hidden_by}
use Rattle.redaction.proofs.place.Place.redact.Given as goal

-- the bytes that are left lead where all lead, and what is left of them stands behind what was left so far
abbrev pub invariant-loop-i : goal.invariant-loop-i
invariant-loop-i l = record {
  place : spot_behind l.self (drop l.i l.piece) ≡ spot_behind l.fn.self l.fn.piece;
  piece : take l.i l.piece ++ hidden_by l.self (drop l.i l.piece) ≡ hidden_by l.fn.self l.fn.piece;
}
