-- The square behind one input more.
use Rattle.std.proofs.Common.{◌≡◌, List, [], ◌∷◌, ◌++◌, refl, sym, ap, ◌∙◌}
use Rattle.input_queue.specs.declared.Told.{Told}
use Rattle.example_pointer.specs.declared.square.Square.{Square}
use Rattle.example_pointer.specs.Squares.{first, moved, moved_by}

moved-append : (s : Square) (told : List Told) (t : Told) → moved_by s (told ++ t ∷ []) ≡ moved (moved_by s told) t.input
moved-append s [] t = refl
moved-append s (u ∷ told) t = moved-append (moved s u.input) told t

pub moved-more : (old new : Square) (told : List Told) (t : Told) → new ≡ moved old t.input → old ≡ moved_by first told → new ≡ moved_by first (told ++ t ∷ [])
moved-more old new told t is was = is ∙ (ap (λ s. moved s t.input) was ∙ sym (moved-append first told t))
