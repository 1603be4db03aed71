use Rattle.std.proofs.Common.{◌≡◌, ℕ, ◌-◌, ◌≤◌, min, List, length, arith, subst}
use Rattle.source_picture.specs.Texts.{TextView, with_bytes}
use Rattle.source_picture.proofs.TextLemmas.{text_more}
use Rattle.source_picture.proofs.text.Text.add.Goals as goal

pub returns-clause-ok : goal.returns-clause-ok
returns-clause-ok c =
    let bytes : List ℕ = c.args.bytes.now in
    let before : TextView = record { kept = c.self.inside.kept.items; left = c.self.inside.left } in
    let kept : List ℕ = c.extend_from_slice.new.self.items in
    let left : ℕ = c.self.inside.left - c.min-count.result in
    let P : TextView → Type 0 = λ t. record { kept = kept; left = left } ≡ with_bytes bytes t in
    let few : length before.kept ≤ 65536 = c.self.invariant in
    let count : c.min-count.result ≡ min (length bytes) before.left = c.min-count.ensures in
    let room : c.saturating_sub-room.result ≡ 65536 - length before.kept = omega (arith, c.saturating_sub-room.ensures, c.len.ensures) in
    let cut : c.min.result ≡ min (min (length bytes) before.left) (65536 - length before.kept) = omega (arith, c.min.ensures, count, room) in
    subst P c.self.view_is (text_more before kept bytes left c.min.result few c.in_ok-extend_from_slice.ensures.items cut (omega (arith, count)))
