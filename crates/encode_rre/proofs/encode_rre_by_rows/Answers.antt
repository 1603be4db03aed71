use Rattle.std.proofs.Common.{◌≡◌, ◌*◌, ℕ, List, All, Bor, length, map, arith, ap, sym, ◌∙◌}
use Rattle.std.proofs.lemmas.List.{length-map}
use Rattle.std.proofs.lemmas.List.Elements.{All-map}
use Rattle.subrectangles.specs.Apart.{apart_len}
use Rattle.encode_rre.proofs.encode_rre_by_rows.Goals as goal

pub invariant_of-lines : goal.invariant_of-lines
invariant_of-lines c =
    let rows : List (Bor (List ℕ)) = c.args.rows.now in
    let even : All (λ r. length r ≡ c.from.result) (map (λ r. r.now) rows) =
    All-map (λ r. length r ≡ c.from.result) (λ r. r.now) rows (λ k d lt. c.requires.each k d lt ∙ sym c.from.ensures) in
    let count : length rows ≡ c.from-2.result = c.requires.count ∙ sym c.from-2.ensures in
    record {
      whole = apart_len (λ r. r.now) c.from.result rows even ∙ ap (λ (n : ℕ). n * c.from.result) count ∙ (let e : c.from-2.result * c.from.result ≡ c.from.result * c.from-2.result = omega arith in e);
      rows = λ e. length-map rows (λ r. r.now) ∙ count;
      even = even;
      wide = omega (arith, c.requires.wide, c.from.ensures);
      high = omega (arith, c.requires.high, c.from-2.ensures);
      columns = omega (arith, c.from.ensures);
      lines = omega (arith, c.from-2.ensures);
    }
