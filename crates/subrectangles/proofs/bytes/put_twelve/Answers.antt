use Rattle.std.proofs.Common.{rules}
use Rattle.subrectangles.proofs.bytes.put_twelve.Goals as goal

pub returns : goal.returns
returns c =
    let h = rw (c.to_le_bytes.ensures, c.to_be_bytes.ensures, c.to_be_bytes-2.ensures, c.to_be_bytes-3.ensures, c.to_be_bytes-4.ensures) at c.extend_from_slice.ensures.items in
    search rules
