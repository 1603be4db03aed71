use Rattle.std.proofs.Common.{arith, ap, ◌≡◌, ◌≤◌, ◌+◌, subst, List, ℕ, length, take, drop}
use Rattle.std.proofs.lemmas.List.{length-append, length-take-le}
use Rattle.updates.proofs.RunLemmas.{part_on}
use Rattle.updates.proofs.colours.Colours.part.Goals as goal

pub loop-part-preserved : goal.loop-part-preserved
loop-part-preserved c =
    let part = c.loop-part.part in
    let run = c.run_from-run.result.now in
    let count : c.len-in-loop-part.result ≡ length part.items = omega (arith, c.len-in-loop-part.ensures, part.ok.0) in
    let some : c.min-some.result ≤ length run = omega (arith, c.min-some.ensures) in
    let added = c.in_ok-extend_from_slice.ensures.items in
    record {
      first = part_on c.args.self.now run part.items c.extend_from_slice.new.self.items c.args.from c.min-some.result c.loop-part.invariant.first
          (subst (λ (n : ℕ). run ≡ take (length run) (drop (c.args.from + n) c.args.self.now)) count c.run_from-run.ensures.part) added some;
      within = omega (arith, ap (λ (l : List ℕ). length l) added, length-append part.items (take c.min-some.result run), length-take-le c.min-some.result run some, c.min-some.ensures, c.len-in-loop-part-2.ensures, part.ok.0, c.loop-part.invariant.within);
    }
