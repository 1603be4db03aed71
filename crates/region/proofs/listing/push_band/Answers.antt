use Rattle.std.proofs.Common.{[], ◌∷◌, ◌++◌, ◌∙◌, ap}
use Rattle.region.proofs.listing.push_band.Goals as goal
use Rattle.region.proofs.ListLemmas.{listed_more, listed_all}

pub loop-columns-smaller : goal.loop-columns-smaller
loop-columns-smaller c = (listed_more c.args.rows c.args.out.now.items c.loop-columns.out.items c.push.new.self.items c.args.bands.now c.loop-columns.bands c.skip_left.new.self c.loop-columns.invariant c.in-Some.columns c.first_left.result c.first_left.ensures c.in-Some.is c.skip_left.ensures (c.in_ok-push.ensures.items ∙ ap (λ r. c.loop-columns.out.items ++ r ∷ []) c.rect_of.ensures)).1

pub loop-columns-preserved : goal.loop-columns-preserved
loop-columns-preserved c = (listed_more c.args.rows c.args.out.now.items c.loop-columns.out.items c.push.new.self.items c.args.bands.now c.loop-columns.bands c.skip_left.new.self c.loop-columns.invariant c.in-Some.columns c.first_left.result c.first_left.ensures c.in-Some.is c.skip_left.ensures (c.in_ok-push.ensures.items ∙ ap (λ r. c.loop-columns.out.items ++ r ∷ []) c.rect_of.ensures)).0

pub returns-clause-rects : goal.returns-clause-rects
returns-clause-rects c = (listed_all c.args.rows c.args.out.now.items c.loop-columns.out.items c.args.bands.now c.loop-columns.bands c.loop-columns.invariant c.first_left.result c.first_left.ensures c.in_default.is).0

pub returns-clause-read : goal.returns-clause-read
returns-clause-read c = (listed_all c.args.rows c.args.out.now.items c.loop-columns.out.items c.args.bands.now c.loop-columns.bands c.loop-columns.invariant c.first_left.result c.first_left.ensures c.in_default.is).1
