use Rattle.std.proofs.Common.{◌≡◌, ◌+◌, ◌*◌, ◌∷◌, ◌++◌, length, take}
use Rattle.std.specs.List.{flat_map}
use Rattle.pixel_translate.specs.Pixel.{be16, s32}
use Rattle.source_talk.proofs.requests.encodings_bytes.Given as goal

-- the encodings passed are listed, in four bytes each
abbrev pub invariant-encodings : goal.invariant-encodings
invariant-encodings l = record {
  said : l.bytes.items ≡ 2 ∷ 0 ∷ be16 (length l.listed) ++ flat_map s32 (take l.encoding-index l.listed);
  long : length l.bytes.items ≡ 4 + 4 * l.encoding-index;
}
