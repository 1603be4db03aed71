use Rattle.std.proofs.Common.{◌≡◌, ℕ, List, length, arith, sym, ap, ◌∙◌, append-nil}
use Rattle.arrayvec.specs.ArrayVec.{ArrayVec, array_vec_len}
use Rattle.subrectangles.specs.Subrectangles.{row_at, stretch}
use Rattle.subrectangles.specs.Scans.{Step, scan_step, put_yes, put_no}
use Rattle.subrectangles.specs.Rows.{rows_in}
use Rattle.encode_hextile.specs.Hextile.{subrectangle_bytes}
use Rattle.encode_hextile.proofs.scan.put_row.Goals as goal
use Rattle.encode_hextile.proofs.scan.put_row.Goals.{in-Some, in_default}

pub loop-x-preserved : goal.loop-x-preserved
loop-x-preserved c =
    let rows : List (List ℕ) = rows_in c.args.pixels.now in
    let row : c.row-row.result.now ≡ row_at rows c.args.y = c.row-row.ensures.row in
    let wide : length (row_at rows c.args.y) ≡ c.args.pixels.now.width = sym (ap (length {A = ℕ}) row) ∙ c.row-row.ensures.len in
    let x : ℕ = c.loop-x.x in
    let n : ℕ = c.width_at-w.result in
    let run : n ≡ stretch (row_at rows c.args.y) x = c.width_at-w.ensures.same ∙ ap (λ (r : List ℕ). stretch r x) row in
    let step : Step c.args.background rows c.args.y x n = scan_step c.args.background rows c.args.y x n (omega (arith, wide)) run in
    let sb = subrectangle_bytes c.args.format.now c.args.coloured in
    record {
      within = omega (arith, c.width_at-w.ensures.within, c.row-row.ensures.len);
      begins = λ lt. step.begins (omega (arith, lt, wide));
      room = elim c.match-subrectangle_at.branch [
        | in-Some w ↦ omega (arith, ap (λ (v : ArrayVec ℕ). array_vec_len v) w.list-is, w.put_subrectangle.ensures.len, c.loop-x.invariant.room, c.width_at-w.ensures.some)
        | in_default w ↦ omega (arith, ap (λ (v : ArrayVec ℕ). array_vec_len v) w.list-is, c.loop-x.invariant.room)
      ];
      found = elim c.match-subrectangle_at.branch [
        | in-Some w ↦
            let is = rw w.in-Some.is at c.subrectangle_at.ensures.found in
            ap (λ (v : ArrayVec ℕ). v.items) w.list-is ∙ w.put_subrectangle.ensures.items
            ∙ put_yes sb c.args.list.now.items c.loop-x.list.items c.args.background rows c.args.y x n _ step c.loop-x.invariant.found is.0 is.1
        | in_default w ↦
            ap (λ (v : ArrayVec ℕ). v.items) w.list-is
            ∙ put_no sb c.args.list.now.items c.loop-x.list.items c.args.background rows c.args.y x n step c.loop-x.invariant.found (rw w.in_default.is at c.subrectangle_at.ensures.found)
      ];
    }

pub returns-then-repeats : goal.returns-then-repeats
returns-then-repeats c = rw (c.repeats.ensures c.if-repeats.true c.args.background) (sym (append-nil c.args.list.now.items))

pub put_subrectangle-requires-clause-low : goal.put_subrectangle-requires-clause-low
put_subrectangle-requires-clause-low c =
    let inside = rw c.in-Some.is at c.subrectangle_at.ensures.within in
    omega (arith, inside, c.requires.rows)
