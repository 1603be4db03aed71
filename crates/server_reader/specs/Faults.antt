-- Why bytes are not what a server says.
use Rattle.std.specs.Prelude.{◌≡◌, ℕ, if◌then◌else◌, List, ◌++◌, slice_index}
use Rattle.std.specs.Option.{is_some}
use Rattle.viewer_picture.specs.Messages.{is_in_picture}
use Rattle.server_reader.specs.declared.fault.ReadFault.{ReadFault}
use Rattle.server_reader.specs.declared.fault.ReadFault.TheVariants as fault
use Rattle.server_reader.specs.declared.stage.Size.{Size}
use Rattle.server_reader.specs.declared.stage.Stage.{Stage}
use Rattle.server_reader.specs.declared.stage.Stage.TheVariants as stage
use Rattle.server_reader.specs.Groups.{area_in, encoding_in, own_pixels}
use Rattle.server_reader.specs.Stages.{agreed}
use Rattle.server_reader.specs.Steps.{View}

-- The fault of a group that has no reading. At any other stage each group has one.
abbrev pub IsFaultOf : Size → Stage → (group : List ℕ) → ReadFault → Type 0
IsFaultOf size stage.Message head why = why ≡ fault.UnknownMessage (slice_index head 0)
IsFaultOf size (stage.Rectangle n) head why = why ≡ (if is_in_picture (agreed size) (area_in head 0) then fault.UnknownEncoding (encoding_in head) else fault.OffPicture)
IsFaultOf size (stage.Source r) bytes why = why ≡ fault.CopyOffPicture
IsFaultOf size (stage.Tile t) head why = why ≡ (if is_some (own_pixels t.carried head).background then fault.NoForeground else fault.NoBackground)
IsFaultOf size (stage.Faulted before) group why = why ≡ before
IsFaultOf size _ group why = ⊥

-- the fault of the group that the front of a piece ends
pub record IsFaultIn (before : View) (piece : List ℕ) (given : ReadFault) : Type 0 where
  pub front : List ℕ
  pub rest : List ℕ
  pub is : piece ≡ front ++ rest
  pub why : IsFaultOf before.state.size before.state.stage (before.held ++ front) given
