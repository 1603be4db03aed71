use Rattle.std.proofs.Common.{ℕ, List, [], ◌∷◌, ◌++◌, refl, sym, arith, append-nil}
use Rattle.connections.specs.Drawing.{Surface}
use Rattle.source_picture.specs.Bands.{with_band}
use Rattle.source_picture.specs.Mirroring.{SourceView}
use Rattle.source_picture.proofs.EventLemmas.{draws_none, draws_then, stands_on}
use Rattle.source_picture.proofs.ReadLemmas.{further, read_none, is_read_more, mirrored_more, mirrored_none, ended_through, handed_on}
use Rattle.source_picture.proofs.source.SourcePicture.draw_share.Goals as goal

pub steps-init : goal.steps-init
steps-init c = record {
  draws = draws_none c.args.canvas.now;
  front = ([], refl);
  few = omega arith;
  read = λ steps after rest h. (steps, h, omega arith);
  mirrored = λ config list fine was after rest new h. h;
}

pub returns-in_err-drawn-clause-ended : goal.returns-in_err-drawn-clause-ended
returns-in_err-drawn-clause-ended c =
    let why = c.in_err-drawn.field-0.0 in
    let b : SourceView = c.steps.self in
    let left : List ℕ = c.steps.left.now in
    let so_far = c.steps.invariant.read [] b left (read_none b left) in
    handed_on c.from_residual.result why c.args.self.now.reader c.args.piece.now c.draw_next.new.self.reader c.from_residual.ensures.1
    (ended_through why c.args.self.now b c.draw_next.new.self.reader c.args.piece.now left (so_far.0, so_far.1) c.in_err-drawn.ensures.ended)

pub returns-in_default-clause-mirrored : goal.returns-in_default-clause-mirrored
returns-in_default-clause-mirrored c config list fine was =
    let first : Surface = c.args.canvas.now in
    let now : Surface = c.steps.canvas in
    let last : Surface = c.draw_next.new.canvas in
    let step = rw c.in_default.is at c.in_ok-drawn.ensures in
    let stands = stands_on config list first now c.steps.invariant.draws was in
    c.steps.invariant.mirrored config list fine was c.draw_next.new.self [] (with_band c.draw_next.new.self.waiting last.screen.picture)
    (step.mirrored config (list ++ stands.0) fine stands.1)

pub returns-in_default-clause-read : goal.returns-in_default-clause-read
returns-in_default-clause-read c =
    let step = rw c.in_default.is at c.in_ok-drawn.ensures in
    let all = c.steps.invariant.read [] c.draw_next.new.self [] step.read in
    record { front = c.args.piece.now; end = sym (append-nil c.args.piece.now); steps = all.0; read = all.1; enough = λ some. absurd (omega (arith, some)) }

pub steps-preserved : goal.steps-preserved
steps-preserved c =
    let first : Surface = c.args.canvas.now in
    let now : Surface = c.steps.canvas in
    let last : Surface = c.draw_next.new.canvas in
    let b : SourceView = c.steps.self in
    let d : SourceView = c.draw_next.new.self in
    let left : List ℕ = c.steps.left.now in
    let rest : List ℕ = c.in-Some.drawn.rest.now in
    let step = rw c.in-Some.is at c.in_ok-drawn.ensures in
    let front = c.steps.invariant.front in
    let cut = step.read.1.read in
    record {
      draws = draws_then first now last c.steps.invariant.draws step.draws;
      front = (front.0 ++ cut.front, further c.args.piece.now front.0 left cut.front step.read.0.rest.now rest front.1 cut.is step.read.2);
      few = let share = c.saturating_sub-share.ensures in omega (arith, share, c.steps.invariant.few);
      read = λ steps after end h.
          let all = c.steps.invariant.read (step.read.0.step ∷ steps) after end (is_read_more b d after left rest end step.read.0 steps step.read.1 step.read.2 h) in
          let share = c.saturating_sub-share.ensures in
          let cost = step.read.3 in
          (all.0, all.1, omega (arith, all.2, share, cost, c.steps.invariant.few));
      mirrored = λ config list fine was after end new h.
          let stands = stands_on config list first now c.steps.invariant.draws was in
          c.steps.invariant.mirrored config list fine was after end new
          (mirrored_more b d after left rest end (with_band b.waiting now.screen.picture) (with_band d.waiting last.screen.picture) new (step.mirrored config (list ++ stands.0) fine stands.1) h);
    }

pub returns-clause-mirrored : goal.returns-clause-mirrored
returns-clause-mirrored c config list fine was =
    let b : SourceView = c.steps.self in
    c.steps.invariant.mirrored config list fine was b c.steps.left.now (with_band b.waiting c.steps.canvas.screen.picture)
    (mirrored_none b c.steps.left.now (with_band b.waiting c.steps.canvas.screen.picture))

pub returns-clause-read : goal.returns-clause-read
returns-clause-read c =
    let b : SourceView = c.steps.self in
    let all = c.steps.invariant.read [] b c.steps.left.now (read_none b c.steps.left.now) in
    record { front = c.steps.invariant.front.0; end = c.steps.invariant.front.1; steps = all.0; read = all.1; enough = λ some. omega (arith, c.if-share-gt0.false, all.2) }
