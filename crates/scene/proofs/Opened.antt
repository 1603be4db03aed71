-- Whether a viewer is open, by what is kept of its bytes.
use Rattle.std.proofs.Common.{◌≡◌, ℕ, Bool, true, false, cond, ◌&&◌, List, length, refl}
use Rattle.std.specs.Prelude.{nat_le, ◌==◌, slice_index}
use Rattle.messages.specs.declared.Phase.{Phase}
use Rattle.messages.specs.declared.Phase.TheVariants as phase
use Rattle.messages.specs.Grammar.{End, waiting, faulty}
use Rattle.messages.specs.Reading.{heard, Unfinished, unfinished_of, is_open_rest}
use Rattle.viewer.specs.Viewer.{Viewer, is_open, is_open_viewer, kept_viewer}

open-by-rest : (p : Phase) (end : End) (bytes : List ℕ) → is_open p end ≡ is_open_rest (record { phase = p; unfinished = unfinished_of p end bytes })
open-by-rest phase.Version waiting bytes = refl
open-by-rest phase.Version (faulty k) bytes = refl
open-by-rest (phase.Choice v) waiting bytes = refl
open-by-rest (phase.Choice v) (faulty k) bytes = refl
open-by-rest (phase.Init v) waiting bytes = refl
open-by-rest (phase.Init v) (faulty k) bytes = refl
open-by-rest (phase.Open v) (faulty k) bytes = refl
open-by-rest (phase.Open v) waiting bytes = one_of_three ((slice_index bytes 0 == 2) && nat_le 4 (length bytes)) ((slice_index bytes 0 == 6) && nat_le 8 (length bytes)) _ _ _ refl refl refl
  where
    open_with : Unfinished → Bool
    open_with u = is_open_rest (record { phase = phase.Open v; unfinished = u })

    one_of_three : (a b : Bool) (x y z : Unfinished) → true ≡ open_with x → true ≡ open_with y → true ≡ open_with z → true ≡ open_with (cond a x (cond b y z))
    one_of_three true b x y z h k l = h
    one_of_three false true x y z h k l = k
    one_of_three false false x y z h k l = l

-- a viewer is open where what is kept of it says so
pub open-kept : (v : Viewer (List ℕ)) → is_open_viewer v ≡ is_open_rest (kept_viewer v).heard
open-kept v = open-by-rest (heard v.heard).phase (heard v.heard).end (heard v.heard).unfinished
