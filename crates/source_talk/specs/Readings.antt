-- What follows from the definitions: an opening that the RFC reads is open, and messages say what they are to say.
use Rattle.std.specs.Prelude.{◌≡◌, ℕ, ◌<◌, ◌^◌, Bool, true, false, List, ◌++◌, length, take, All, Some}
use Rattle.pixel_translate.specs.Pixel.{server_format}
use Rattle.messages.specs.declared.Input.TheVariants as input
use Rattle.messages.specs.declared.Item.TheVariants as item
use Rattle.messages.specs.declared.Encoding.TheVariants.{Raw, Hextile}
use Rattle.messages.specs.Grammar.{SpellsInput, SpellsMessage}
use Rattle.messages.specs.Reading.{is_version}
use Rattle.viewer_picture.specs.Opening.{security_at, result_at, init_at}
use Rattle.viewer_picture.specs.Opening as read
use Rattle.source_talk.specs.declared.opening.Heard.TheVariants as heard
use Rattle.source_talk.specs.Opening.{heard_by, version_in, is_awaited, answers, answered_by}
use Rattle.source_talk.specs.Requests.{format_message, encodings_message, listed_by, request_message, key_message, pointer_message}

-- An opening that a viewer of the RFC reads, in the version that it is spoken in, is open, of the same size, once the head of ServerInit came.
abbrev pub opening_is_read : Type 0
opening_is_read = (front rest chosen more : List ℕ) (init : read.Init) → is_version front ≡ true → length front ≡ 12
    → security_at (version_in front) rest ≡ Some chosen → (accepted : List ℕ) → result_at (version_in front) chosen ≡ Some accepted
    → init_at accepted ≡ Some (init, more)
    → (name : ℕ) × (heard_by (front ++ rest) ≡ heard.Open (version_in front) (record { width = init.width; height = init.height; name = name }))

-- what was heard stays so, whatever comes behind: so it is the same whether bytes come one by one or in parts
abbrev pub heard_stays : Type 0
heard_stays = (said more : List ℕ) → is_awaited (heard_by said) ≡ false → heard_by (said ++ more) ≡ heard_by said

-- all that a source was answered by the time that it said some bytes
abbrev pub answers_by : List ℕ → List ℕ
answers_by said = answers (answered_by (heard_by said))

-- answers are only added to
abbrev pub answers_stay : Type 0
answers_stay = (said more : List ℕ) → answers_by said ≡ take (length (answers_by said)) (answers_by (said ++ more))

-- an opening that isn't over is short: what is said is bytes
abbrev pub opening_is_short : Type 0
opening_is_short = (said : List ℕ) → All (λ byte. byte < 2 ^ 8) said → is_awaited (heard_by said) ≡ true → length said < 531

-- 7.5: what the messages say, to whom reads them
pub record MessagesAreSpelled : Type 0 where
  pub format : SpellsMessage format_message (item.Format server_format)
  pub packed : SpellsMessage (encodings_message (listed_by false)) (item.Encodings Hextile true true)
  pub plain : SpellsMessage (encodings_message (listed_by true)) (item.Encodings Raw true true)
  pub request : (incremental : Bool) (w h : ℕ) → w < 2 ^ 16 → h < 2 ^ 16
      → SpellsMessage (request_message incremental w h) (item.Request incremental (record { x = 0; y = 0; w = w; h = h }))
  pub key : (down : Bool) (key : ℕ) → key < 2 ^ 32 → SpellsInput (key_message down key) (input.Key down key)
  pub pointer : (mask x y : ℕ) → x < 2 ^ 16 → y < 2 ^ 16 → SpellsInput (pointer_message mask x y) (input.Pointer mask x y)
