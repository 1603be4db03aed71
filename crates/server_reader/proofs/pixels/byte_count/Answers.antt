use Rattle.std.proofs.Common.{◌*◌, ◌≤◌, arith}
use Rattle.std.proofs.lemmas.Nat.{mul-le}
use Rattle.server_reader.proofs.pixels.byte_count.Goals as goal

pub overflow_mul-result : goal.overflow_mul-result
overflow_mul-result c =
    let places : c.from.result * c.from-2.result ≤ 65535 * 65535 = mul-le c.from.result c.from-2.result 65535 65535 (omega (arith, c.from.ensures)) (omega (arith, c.from-2.ensures)) in omega (arith, places)
