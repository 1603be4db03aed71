use Rattle.std.proofs.Common.{◌≡◌, subst, ap, arith}
use Rattle.std.specs.Prelude.{OnOk}
use Rattle.std.proofs.lemmas.Int.{ints}
use Rattle.region.specs.declared.Rect.{Rect}
use Rattle.framebuffer.specs.Frame.{Frame, IsPicture}
use Rattle.framebuffer.proofs.FrameLemmas.{is_picture}
use Rattle.framebuffer.proofs.ScrollLemmas.{scroll_moves}
use Rattle.framebuffer.proofs.frame.Framebuffer.scroll.Goals as goal

pub copy_rows-requires-clause-from : goal.copy_rows-requires-clause-from
copy_rows-requires-clause-from c =
    let source = c.requires.source in
    let is = c.block_within-to.ensures.is in
    omega (arith, ints, c.first_source-from.ensures, ap (λ (r : Rect). r.y1) is, ap (λ (r : Rect). r.y2) is, source.top, source.bottom)

pub copy_rows-requires-clause-to : goal.copy_rows-requires-clause-to
copy_rows-requires-clause-to c = omega (arith, c.block_within-to.ensures.fits.high, ap (λ (f : Frame). f.height) c.self.view_is)

pub returns-clause-ok : goal.returns-clause-ok
returns-clause-ok c =
    let f = c.args.self.now in
    let is : IsPicture f = subst IsPicture c.self.view_is (is_picture c.self.inside.width c.self.inside.height c.self.inside.rows.items c.self.invariant) in
    subst (λ l. OnOk c.copy_rows.result (c.copy_rows.new.self ≡ record { width = f.width; height = f.height; colours = l }))
    (scroll_moves f.width f.height c.first_source-from.result c.args.piece c.block_within-to.result c.args.offset f.colours is.some_columns is.places c.requires.inside c.requires.source c.requires.left c.requires.right c.requires.upright c.block_within-to.ensures.is c.first_source-from.ensures)
    c.copy_rows.ensures.ok
