use Rattle.std.proofs.Common.{◌≡◌, ℕ, ◌+◌, ◌<◌, ◌++◌, take, true}
use Rattle.source_talk.specs.Opening.{heard_by, is_awaited}
use Rattle.source_talk.proofs.opening.Opening.hear.Given as goal

-- the bytes passed were said, and more is awaited behind each of them
abbrev pub invariant-bytes : goal.invariant-bytes
invariant-bytes l = record {
  counted : l.taken ≡ l.byte-index;
  said : l.self-inside.said.items ≡ l.fn.self.said ++ take l.byte-index l.piece;
  told : l.self-inside.told ≡ l.fn.self.told;
  awaited : (n : ℕ) → n < l.byte-index + 1 → 0 < n → is_awaited (heard_by (l.fn.self.said ++ take n l.piece)) ≡ true;
}
