-- What a piece of a viewer's bytes does to it, and what it is answered (RFC 6143, 7.1 to 7.5).
use Rattle.std.specs.Prelude.{ℕ, List, [], ◌∷◌, ◌++◌, Option, Some, None}
use Rattle.std.specs.List.{filter_map}
use Rattle.messages.specs.declared.Input.{Input}
use Rattle.messages.specs.declared.Item.{Item}
use Rattle.messages.specs.declared.Item.TheVariants as item
use Rattle.messages.specs.Reading.{heard, new_items, fault_of}
use Rattle.messages.specs.Server.{server_init, answers as greetings}
use Rattle.viewer.specs.declared.Reply.{Reply}
use Rattle.viewer.specs.Viewer.{Viewer, after_item}

abbrev pub input_of : Item → Option Input
input_of (item.Input input) = Some input
input_of _ = None

-- a viewer on a w by h screen, after messages
abbrev pub after_items : {B : Type 0} (width height : ℕ) → List Item → Viewer B → Viewer B
after_items w h [] v = v
after_items w h (i ∷ is) v = after_items w h is (after_item w h i v)

-- what a viewer of a w by h screen with a name is answered to a piece that comes behind its bytes so far
abbrev pub heard_reply : (width height : ℕ) (name before piece : List ℕ) → Reply
heard_reply w h name before piece =
    let items = new_items before piece in record {
      bytes = greetings (server_init w h name) (heard before).phase items;
      inputs = filter_map input_of items;
      fault = fault_of (heard (before ++ piece)).end;
    }
