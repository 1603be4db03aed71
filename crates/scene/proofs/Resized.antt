-- A screen of a new size is consistent.
use Rattle.std.proofs.Common.{◌≡◌, ℕ, ◌*◌, ◌^◌, ◌≤◌, Bool, true, false, cond, List, All, get_or, Option, Some, None, refl, sym, subst, arith}
use Rattle.std.specs.Map.{values_of}
use Rattle.std.proofs.lemmas.Bool.Decides.{nat_tests}
use Rattle.std.proofs.lemmas.List.Elements.{All-map}
use Rattle.region.specs.Places.{longest_side}
use Rattle.client_list.specs.Connected.{changed}
use Rattle.framebuffer.specs.Frame.{Frame, blank_frame}
use Rattle.viewer.specs.Viewer.{KeptViewer, viewer_resized}
use Rattle.viewer_list.specs.Viewers.{IsOfSize}
use Rattle.viewer_list.specs.SizeLemmas.{resized_size}
use Rattle.scene.specs.declared.Config.{Config}
use Rattle.scene.specs.declared.ScreenError.{ScreenError}
use Rattle.scene.specs.declared.ScreenError.TheVariants as refusals
use Rattle.scene.specs.Alone.{is_size, size_refusal}
use Rattle.scene.specs.Consistent.{IsConsistent}
use Rattle.scene.proofs.Drawn.{values-changed}

-- the limits of a size
record IsWithin (w h : ℕ) : Type 0 where
  some_columns : 1 ≤ w
  columns : w ≤ longest_side
  some_rows : 1 ≤ h
  rows : h ≤ longest_side
  places : w * h ≤ 2 ^ 24

within : (w h : ℕ) → is_size w h ≡ true → IsWithin w h
within w h e = record { some_columns = grind (arith, nat_tests); columns = grind (arith, nat_tests); some_rows = grind (arith, nat_tests); rows = grind (arith, nat_tests); places = grind (arith, nat_tests) }

accepted : (b : Bool) → cond b None (Some refusals.BadSize) ≡ None → b ≡ true
accepted true e = refl
accepted false e = absurd cc

pub resized-consistent : (made : Config) (old f : Frame) (w h : ℕ) (pairs now : List (ℕ × KeptViewer)) → size_refusal w h ≡ None → f ≡ blank_frame w h → now ≡ changed (viewer_resized w h) pairs
    → IsConsistent made old (values_of pairs) → IsConsistent made f (values_of now)
resized-consistent made old f w h pairs now ok blank is was =
    let size = within w h (accepted (is_size w h) ok) in
    subst (λ (g : Frame). IsConsistent made g (values_of now)) (sym blank) (record {
      accepted = record {
        some_columns = size.some_columns;
        columns = size.columns;
        some_rows = size.some_rows;
        rows = size.rows;
        places = size.places;
        name = was.accepted.name;
        some_rectangles = was.accepted.some_rectangles;
        rectangles = was.accepted.rectangles;
      };
      sized = subst (λ (ps : List (ℕ × KeptViewer)). All (IsOfSize w h) (values_of ps)) (sym is)
          (subst (All (IsOfSize w h)) (sym (values-changed (viewer_resized w h) pairs))
          (All-map (IsOfSize w h) (viewer_resized w h) (values_of pairs) (λ k d below. resized_size w h (get_or (values_of pairs) k d) (was.sized k d below).heard)));
    })
