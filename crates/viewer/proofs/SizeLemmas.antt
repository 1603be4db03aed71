-- What a new size is by equal sizes and views.
use Rattle.std.proofs.Common.{◌≡◌, ℕ, Bool, Result, Ok, Err, ap, ◌∙◌}
use Rattle.std.specs.Prelude.{ℤ, IfOk}
use Rattle.copy_schedule.specs.Marks.{Marks, resized}

-- marks of another size, by equal sizes and views
pub same_resized : {E : Type 0} → (result : Result Marks E) (w w' h h' : ℕ) (view view' : ℤ → ℤ → Bool) (m : Marks) → w ≡ w' → h ≡ h' → view ≡ view'
    → IfOk result (λ r. r ≡ resized w h view m) → IfOk result (λ r. r ≡ resized w' h' view' m)
same_resized (Ok r) w w' h h' view view' m is_w is_h is_view e =
    e ∙ ap (λ n. resized n h view m) is_w ∙ ap (λ n. resized w' n view m) is_h ∙ ap (λ p. resized w' h' p m) is_view
same_resized (Err err) w w' h h' view view' m is_w is_h is_view e = e
