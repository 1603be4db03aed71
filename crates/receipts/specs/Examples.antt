-- A worked run of two viewers, which computes.
use Rattle.std.specs.Prelude.{◌≡◌, ℕ, List, [], ◌∷◌, ◌++◌, take, replicate, length, refl, Ok, Err}
use Rattle.messages.specs.Server.{server_version}
use Rattle.scene.specs.declared.Event.{Event}
use Rattle.scene.specs.declared.Event.TheVariants.{Connect, Hear, Cut, Bell}
use Rattle.scene.specs.Examples.{demo, ask, update, head}
use Rattle.receipts.specs.declared.Receipt.{Receipt}
use Rattle.receipts.specs.declared.Sent.TheVariants.{Whole, Prefix}
use Rattle.receipts.specs.declared.Ended.{Ended}
use Rattle.receipts.specs.declared.Ended.TheVariants.{Stopped, WriteFailed}
use Rattle.receipts.specs.declared.FinishError.TheVariants.{Drawing, Missing, Count, Bytes}
use Rattle.receipts.specs.Histories.{bytes_of}
use Rattle.receipts.specs.Checking.{checked}

-- the opening and a request of the whole screen, in one piece
abbrev piece : List ℕ
piece = server_version ++ 1 ∷ 1 ∷ ask 0 0 0 4 3

abbrev pub history : List Event
history = Connect 1 ∷ Hear 1 piece ∷ Connect 2 ∷ Hear 2 piece ∷ Cut 1 ∷ Cut 2 ∷ []

-- RFC 6143, 7.1 and 7.3.2: what a viewer is sent until it is open, and 7.6.1: an update of the whole screen, in Raw, 0 everywhere
abbrev pub due : List ℕ
due = server_version ++ 1 ∷ 1 ∷ 0 ∷ 0 ∷ 0 ∷ 0 ∷ 0 ∷ 4 ∷ 0 ∷ 3 ∷ 0x20 ∷ 0x18 ∷ 0 ∷ 1 ∷ 0 ∷ 0xff ∷ 0 ∷ 0xff ∷ 0 ∷ 0xff ∷ 0x10 ∷ 0x08 ∷ 0 ∷ 0 ∷ 0 ∷ 0
    ∷ 0 ∷ 0 ∷ 0 ∷ 4 ∷ 0x64 ∷ 0x65 ∷ 0x6d ∷ 0x6f ∷ update 1 ++ head 0 0 4 3 0 ++ replicate 48 0

both_are_sent : (bytes_of demo 1 history ≡ due) × (bytes_of demo 2 history ≡ due)
both_are_sent = (refl, refl)

abbrev pub receipt_of : ℕ → List ℕ → Ended → Receipt
receipt_of v sent ended = record { viewer = v; pieces = 1; cuts = 1; heard = piece; sent = sent; ended = ended }

abbrev one : Receipt
one = receipt_of 1 due Stopped

abbrev two : Receipt
two = receipt_of 2 (take 56 due) WriteFailed

whole : length due ≡ 110
whole = refl

right : checked demo history [] (one ∷ two ∷ []) ≡ Ok (record { events = 6; viewers = (1, Whole) ∷ (2, Prefix) ∷ [] })
right = refl

one_lacks : checked demo history [] (one ∷ []) ≡ Err (Missing 2)
one_lacks = refl

one_too_many : checked demo history [] (one ∷ two ∷ receipt_of 9 [] Stopped ∷ []) ≡ Err (Missing 9)
one_too_many = refl

other_byte : checked demo history [] (receipt_of 1 (take 109 due ++ 1 ∷ []) Stopped ∷ two ∷ []) ≡ Err (Bytes 1 109)
other_byte = refl

other_count : checked demo history [] (record one { pieces = 2 } ∷ two ∷ []) ≡ Err (Count 1)
other_count = refl

-- a sender that was stopped has written all
cut_short : checked demo history [] (one ∷ receipt_of 2 (take 56 due) Stopped ∷ []) ≡ Err (Bytes 2 56)
cut_short = refl

not_drawn : checked demo [] (Bell ∷ []) [] ≡ Err (Drawing 0)
not_drawn = refl
