use Rattle.std.proofs.Common.{◌≡◌, ◌==◌, ◌∙◌, ℕ, ◌*◌, true, List, length, ap, sym, subst, arith}
use Rattle.std.proofs.lemmas.Bool.Decides.{nat_tests}
use Rattle.framebuffer.specs.Frame.{Frame, IsPicture}
use Rattle.framebuffer.specs.PictureLemmas.{written_nowhere}
use Rattle.framebuffer.proofs.FrameLemmas.{is_picture}
use Rattle.framebuffer.proofs.frame.Framebuffer.write.Goals as goal

pub returns-then-is_empty-clause-ok : goal.returns-then-is_empty-clause-ok
returns-then-is_empty-clause-ok c =
    let old : Frame = c.args.self.now in
    let picture : IsPicture old = subst IsPicture c.self.view_is (is_picture c.self.inside.width c.self.inside.height c.self.inside.rows.items c.self.invariant) in
    let test : (length c.args.colours.now == 0) ≡ true = sym c.is_empty.ensures ∙ c.if-is_empty.true in
    let empty : length c.args.colours.now ≡ 0 = grind (arith, nat_tests) in
    let none : c.args.block.rows * c.args.block.columns ≡ 0 = sym c.requires.whole ∙ empty in
    ap (λ (colours : List ℕ). record old { colours = colours }) (sym (written_nowhere old.width old.height c.args.block c.args.colours.now old.colours (omega (arith, picture.some_columns)) picture.places none))
