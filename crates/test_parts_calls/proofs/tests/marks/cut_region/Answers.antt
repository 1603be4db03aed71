use Rattle.std.proofs.Common.{◌≡◌, ℤ, Bool, true, false, ap, sym, ◌∙◌, rules}
use Rattle.std.specs.Prelude.{◌&&◌, ◌-ℤ◌, FitsSigned}
use Rattle.std.specs.Int.{w32}
use Rattle.std.proofs.lemmas.Int.{to_z-of_z}
use Rattle.region.specs.Region.{covers, on_screen}
use Rattle.region.specs.Places.{cut_destination}
use Rattle.framebuffer.specs.Picture.{places_in}
use Rattle.test_parts_calls.proofs.tests.marks.cut_region.Goals as goal

inside : (a b c : Bool) → (a && b && c) ≡ true → (b && c) ≡ true
inside true b c e = e
inside false b c e = absurd cc

pub returns : goal.returns
returns c = λ x y is.
    let dx : FitsSigned w32 c.args.offset.0 = search rules in
    let dy : FitsSigned w32 c.args.offset.1 = search rules in
    let here : covers c.in_ok-part.part.list ≡ cut_destination c.args.width c.args.height (places_in c.args.rects.now) (c.args.offset.0, c.args.offset.1) = c.in_ok-part.ensures ∙ ap covers c.deref.ensures.value ∙ simp (to_z-of_z w32 c.args.offset.0 dx, to_z-of_z w32 c.args.offset.1 dy) at c.in_ok-pieces.ensures.places in
    inside (places_in c.args.rects.now x y) (on_screen c.args.width c.args.height x y) (on_screen c.args.width c.args.height (x -ℤ c.args.offset.0) (y -ℤ c.args.offset.1)) (ap (λ (f : ℤ → ℤ → Bool). f x y) (sym here) ∙ is)
