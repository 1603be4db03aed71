-- Worked examples.
use Rattle.std.specs.Prelude.{◌≡◌, ℕ, List, [], ◌∷◌, ◌++◌, codes, take, drop, refl}
use Rattle.messages.specs.Examples.{opening, input_bytes, set_format}
use Rattle.messages.specs.Reading.{nothing_heard, heard}
use Rattle.scene.specs.declared.Event.TheVariants.{Connect, Hear, Cut, Close}
use Rattle.redaction.specs.Redaction.{redacted_from}
use Rattle.redaction.specs.Sessions.{redacted}

-- a key, a pointer and a text of two bytes
abbrev pub hidden_bytes : List ℕ
hidden_bytes = 4 ∷ 0 ∷ 0 ∷ 0 ∷ 0 ∷ 0 ∷ 0 ∷ 0 ∷ 5 ∷ 0 ∷ 0 ∷ 0 ∷ 0 ∷ 0 ∷ 6 ∷ 0 ∷ 0 ∷ 0 ∷ 0 ∷ 0 ∷ 0 ∷ 2 ∷ 0 ∷ 0 ∷ []

inputs_are_hidden : redacted_from (heard opening) input_bytes ≡ hidden_bytes
inputs_are_hidden = refl

-- cut within the key, the pointer, the text's length and the text
cut_key : redacted_from (heard (opening ++ take 3 input_bytes)) (drop 3 input_bytes) ≡ drop 3 hidden_bytes
cut_key = refl

cut_pointer : redacted_from (heard (opening ++ take 10 input_bytes)) (drop 10 input_bytes) ≡ drop 10 hidden_bytes
cut_pointer = refl

cut_length : redacted_from (heard (opening ++ take 20 input_bytes)) (drop 20 input_bytes) ≡ drop 20 hidden_bytes
cut_length = refl

cut_text : redacted_from (heard (opening ++ take 23 input_bytes)) (drop 23 input_bytes) ≡ drop 23 hidden_bytes
cut_text = refl

-- the opening, a format, a list of two encodings and a request, with bytes that would begin an input
abbrev pub plain_bytes : List ℕ
plain_bytes = opening ++ set_format 32 1 ++ 2 ∷ 0 ∷ 0 ∷ 2 ∷ 4 ∷ 5 ∷ 6 ∷ 4 ∷ 5 ∷ 5 ∷ 5 ∷ 5 ∷ 3 ∷ 1 ∷ 4 ∷ 5 ∷ 6 ∷ 4 ∷ 5 ∷ 6 ∷ 4 ∷ 5 ∷ []

all_else_stays : redacted_from nothing_heard plain_bytes ≡ plain_bytes
all_else_stays = refl

-- in 3.3 no security type is chosen
key_in_33 : redacted_from nothing_heard (codes "RFB 003.003\n" ++ 1 ∷ 4 ∷ 1 ∷ 7 ∷ []) ≡ codes "RFB 003.003\n" ++ 1 ∷ 4 ∷ 0 ∷ 0 ∷ []
key_in_33 = refl

-- behind a text of no bytes the next message comes
empty_text : redacted_from (heard opening) (6 ∷ 9 ∷ 9 ∷ 9 ∷ 0 ∷ 0 ∷ 0 ∷ 0 ∷ 3 ∷ 1 ∷ []) ≡ 6 ∷ 9 ∷ 9 ∷ 9 ∷ 0 ∷ 0 ∷ 0 ∷ 0 ∷ 3 ∷ 1 ∷ []
empty_text = refl

-- the byte at which a fault is found stays, and what comes behind it doesn't
unknown_message : redacted_from (heard opening) (7 ∷ 8 ∷ 9 ∷ []) ≡ 7 ∷ 0 ∷ 0 ∷ []
unknown_message = refl

bad_version : redacted_from nothing_heard (codes "hello world\n" ++ 1 ∷ 1 ∷ []) ≡ codes "hello world\n" ++ 0 ∷ 0 ∷ []
bad_version = refl

bad_format : redacted_from (heard opening) (set_format 24 1 ++ 3 ∷ 1 ∷ []) ≡ set_format 24 1 ++ 0 ∷ 0 ∷ []
bad_format = refl

-- two viewers, a key in two pieces, and a viewer that isn't there any more
session_is_redacted : redacted (Connect 7 ∷ Connect 8 ∷ Hear 7 (opening ++ 4 ∷ 1 ∷ []) ∷ Hear 8 (4 ∷ 5 ∷ []) ∷ Hear 7 (0 ∷ 0 ∷ 0 ∷ 0 ∷ 0xff ∷ 0x0d ∷ 3 ∷ 1 ∷ []) ∷ Cut 7 ∷ Close 7 ∷ Hear 7 (3 ∷ 1 ∷ []) ∷ [])
    ≡ Connect 7 ∷ Connect 8 ∷ Hear 7 (opening ++ 4 ∷ 0 ∷ []) ∷ Hear 8 (4 ∷ 5 ∷ []) ∷ Hear 7 (0 ∷ 0 ∷ 0 ∷ 0 ∷ 0 ∷ 0 ∷ 3 ∷ 1 ∷ []) ∷ Cut 7 ∷ Close 7 ∷ Hear 7 (0 ∷ 0 ∷ []) ∷ []
session_is_redacted = refl
