use Rattle.std.proofs.Common.{subst, sym, ◌∙◌, arith}
use Rattle.std.specs.List.{All}
use Rattle.region.specs.Places.{IsOnScreen, source_rect}
use Rattle.framebuffer.proofs.frame.Framebuffer.move_colours.Goals as goal

pub move_in_rows-requires-clause-inside : goal.move_in_rows-requires-clause-inside
move_in_rows-requires-clause-inside c = subst (All (IsOnScreen c.args.self.now.width c.args.self.now.height)) (sym c.deref-in-None.ensures.value) (c.in_ok-rects.ensures.inside _ _ c.requires.inside)

pub move_in_rows-requires-clause-sources : goal.move_in_rows-requires-clause-sources
move_in_rows-requires-clause-sources c = subst (All (λ r. IsOnScreen c.args.self.now.width c.args.self.now.height (source_rect c.args.offset r))) (sym c.deref-in-None.ensures.value) (c.in_ok-rects.ensures.sources _ _ c.requires.sources)

pub scroll-requires-clause-inside : goal.scroll-requires-clause-inside
scroll-requires-clause-inside c = subst (All (IsOnScreen c.args.self.now.width c.args.self.now.height)) (sym c.deref.ensures.value ∙ c.in-Some.ensures.only) (c.in_ok-rects.ensures.inside _ _ c.requires.inside) 0 c.in-Some.piece (omega arith)

pub scroll-requires-clause-source : goal.scroll-requires-clause-source
scroll-requires-clause-source c = subst (All (λ r. IsOnScreen c.args.self.now.width c.args.self.now.height (source_rect c.args.offset r))) (sym c.deref.ensures.value ∙ c.in-Some.ensures.only) (c.in_ok-rects.ensures.sources _ _ c.requires.sources) 0 c.in-Some.piece (omega arith)
