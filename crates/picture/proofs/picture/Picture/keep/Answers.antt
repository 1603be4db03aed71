use Rattle.std.proofs.Common.{sym, subst}
use Rattle.framebuffer.specs.Frame.{Frame}
use Rattle.picture.specs.Kept.{IsOf, GrowsTo}
use Rattle.picture.proofs.SharedLemmas.{all_and_one}
use Rattle.picture.proofs.picture.Picture.keep.Goals as goal

pub invariant_of-self-2 : goal.invariant_of-self-2
invariant_of-self-2 c =
    let here = c.self.inside in (
      all_and_one (IsOf here.frame) here.encoded.items c.push.new.self.items c.in_ok-encoded.encoded c.in_ok-push.ensures.items c.self.invariant.0
          (c.in_ok-encoded.ensures here.frame (subst (λ (p : Frame). GrowsTo p c.args.growing) (sym c.self.view_is) c.requires.grows)),
      c.self.invariant.1,
    )
