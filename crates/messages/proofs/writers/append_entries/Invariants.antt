use Rattle.std.proofs.Common.{◌≡◌, ◌+◌, ◌-◌, ◌*◌, ◌≤◌, ◌++◌, map, vec_len, vec_capacity}
use Rattle.std.specs.List.{flat_map, range_with_len}
use Rattle.messages.specs.Server.{map_entry, entry_bytes}
use Rattle.messages.proofs.writers.append_entries.Given as goal

-- the entries passed are appended, and there is room for the others
abbrev pub invariant-loop-pixel : goal.invariant-loop-pixel
invariant-loop-pixel l = record {
  done : l.out.items ≡ l.fn.out.items ++ flat_map entry_bytes (map map_entry (range_with_len 0 l.pixel));
  room : vec_len l.out + 6 * (256 - l.pixel) ≤ vec_capacity l.out;
}
