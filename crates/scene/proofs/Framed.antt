-- What is done by a number of columns and rows that are a picture's is what is done by the picture's.
use Rattle.std.proofs.Common.{◌≡◌, ◌≢◌, ℕ, ◌*◌, ℤ, Bool, List, All, None, Some, refl, sym, subst, ap, ◌∙◌}
use Rattle.std.specs.Prelude.{◌&&◌, ◌||◌, not}
use Rattle.region.specs.Places.{cut_destination, IsOnScreen}
use Rattle.region.specs.declared.Rect.{Rect}
use Rattle.framebuffer.specs.Frame.{Frame}
use Rattle.framebuffer.specs.Picture.{written}
use Rattle.copy_schedule.specs.Marks.{pending}
use Rattle.messages.specs.declared.Item.{Item}
use Rattle.messages.specs.Reading.{is_open_rest}
use Rattle.updates.specs.Waiting.{none_wait}
use Rattle.viewer.specs.Viewer.{Viewer, KeptViewer, new_viewer}
use Rattle.viewer.specs.Hearing.{after_items, heard_reply}
use Rattle.viewer.specs.Sending.{tells_size}
use Rattle.viewer_list.specs.Viewers.{IsOfSize, is_pending}
use Rattle.scene.specs.declared.Config.{Config}
use Rattle.scene.specs.Consistent.{IsConsistent}

module _ (f : Frame) (w h : ℕ) (wide : w ≡ f.width) (high : h ≡ f.height) where
  pub new-on : new_viewer w h ≡ new_viewer f.width f.height
  new-on = ap (λ n. new_viewer n h) wide ∙ ap (λ n. new_viewer f.width n) high

  pub sized-on : (vs : List KeptViewer) → All (IsOfSize w h) vs → All (IsOfSize f.width f.height) vs
  sized-on vs all = subst (λ n. All (IsOfSize f.width n) vs) high (subst (λ n. All (IsOfSize n h) vs) wide all)

  pub sized-back : (vs : List KeptViewer) → All (IsOfSize f.width f.height) vs → All (IsOfSize w h) vs
  sized-back vs all = subst (λ n. All (IsOfSize n h) vs) (sym wide) (subst (λ n. All (IsOfSize f.width n) vs) (sym high) all)

  pub cut-on : (set : ℤ → ℤ → Bool) (by : ℤ × ℤ) → cut_destination w h set by ≡ cut_destination f.width f.height set by
  cut-on set by = ap (λ k. cut_destination k h set by) wide ∙ ap (λ k. cut_destination f.width k set by) high

  pub inside-on : (rs : List Rect) → All (IsOnScreen w h) rs → All (IsOnScreen f.width f.height) rs
  inside-on rs all = subst (λ k. All (IsOnScreen f.width k) rs) high (subst (λ k. All (IsOnScreen k h) rs) wide all)

pub written-on : (f now : Frame) (r b : Rect) (colours : List ℕ) → now ≡ record f { colours = written f.width f.height b colours f.colours } → b ≡ r → now ≡ record f { colours = written f.width f.height r colours f.colours }
written-on f now r b colours e same = e ∙ ap (λ (q : Rect). record f { colours = written f.width f.height q colours f.colours }) same

-- other colours leave a screen consistent
pub still-consistent : (made : Config) (f now : Frame) (colours : List ℕ) (vs : List KeptViewer) → now ≡ record f { colours = colours } → IsConsistent made f vs → IsConsistent made now vs
still-consistent made f now colours vs e was = subst (λ (g : Frame). IsConsistent made g vs) (sym e) (record { accepted = was.accepted; sized = was.sized })

module _ (f : Frame) (v : KeptViewer) (sized : IsOfSize f.width f.height v) where
  pub items-on : (items : List Item) (w : KeptViewer) → after_items v.marks.width v.marks.height items w ≡ after_items f.width f.height items w
  items-on items w = ap (λ n. after_items n v.marks.height items w) sized.width ∙ ap (λ n. after_items f.width n items w) sized.height

  pub reply-on : (name as_made before piece : List ℕ) → name ≡ as_made → heard_reply v.marks.width v.marks.height name before piece ≡ heard_reply f.width f.height as_made before piece
  reply-on name as_made before piece same =
      ap (λ n. heard_reply n v.marks.height name before piece) sized.width ∙ ap (λ n. heard_reply f.width n name before piece) sized.height
      ∙ ap (λ (l : List ℕ). heard_reply f.width f.height l before piece) same

  pub pending-on : is_pending v ≡ (is_open_rest v.heard && (v.map_owed || (not (none_wait v.notices) || (tells_size f.width f.height v || pending v.marks))))
  pending-on =
      ap (λ n. is_open_rest v.heard && (v.map_owed || (not (none_wait v.notices) || (tells_size n v.marks.height v || pending v.marks)))) sized.width
      ∙ ap (λ n. is_open_rest v.heard && (v.map_owed || (not (none_wait v.notices) || (tells_size f.width n v || pending v.marks)))) sized.height
