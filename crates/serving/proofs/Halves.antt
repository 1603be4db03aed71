-- A viewer's two halves make its receipt.
use Rattle.std.proofs.Common.{◌≡◌, ℕ, List, [], ◌∷◌, Option, refl, sym, ap, ◌∙◌, subst}
use Rattle.receipts.specs.declared.Ended.{Ended}
use Rattle.receipts.specs.declared.Receipt.{Receipt}
use Rattle.update_sender.specs.declared.reader.ReadHalf.{ReadHalf}
use Rattle.update_sender.specs.declared.sender.WriteHalf.{WriteHalf}
use Rattle.update_sender.specs.Ends.{Listening, Speaking, listened, without_waiting, all_of}
use Rattle.update_sender.specs.Serving.{after_pieces, Hears, receipt_of}
use Rattle.serving.specs.Connection.{SendsUntil, IsReadHalf, IsWriteHalf, IsServedOpen}

after_pieces-viewer : (pieces : List (List ℕ)) (l : Listening) → (after_pieces pieces l).viewer ≡ l.viewer
after_pieces-viewer [] l = refl
after_pieces-viewer (piece ∷ pieces) l = after_pieces-viewer pieces (listened piece l)

-- a listener stays its viewer's
hears-one-viewer : (left remains : Option (List ℕ)) (before after : Listening) (unheard : List ℕ) → Hears left remains before after unheard → after.viewer ≡ before.viewer
hears-one-viewer left remains before after unheard h = ap (λ (l : Listening). l.viewer) h.heard ∙ after_pieces-viewer h.pieces (without_waiting before)

abbrev receipt_with : ℕ → ℕ → ℕ → List ℕ → List ℕ → Ended → Receipt
receipt_with viewer pieces cuts heard sent ended = record { viewer = viewer; pieces = pieces; cuts = cuts; heard = heard; sent = sent; ended = ended }

-- a receipt by its parts
receipt-of_parts : (l : Listening) (s : Speaking) (r : Receipt) → r.viewer ≡ l.viewer → r.pieces ≡ l.pieces → r.cuts ≡ s.cuts → r.heard ≡ all_of l.heard → r.sent ≡ all_of s.sent
    → r ≡ receipt_of l s r.ended
receipt-of_parts l s r viewer pieces cuts heard sent =
    ap (λ (x : ℕ). receipt_with x r.pieces r.cuts r.heard r.sent r.ended) viewer
    ∙ ap (λ (x : ℕ). receipt_with l.viewer x r.cuts r.heard r.sent r.ended) pieces
    ∙ ap (λ (x : ℕ). receipt_with l.viewer l.pieces x r.heard r.sent r.ended) cuts
    ∙ ap (λ (x : List ℕ). receipt_with l.viewer l.pieces s.cuts x r.sent r.ended) heard
    ∙ ap (λ (x : List ℕ). receipt_with l.viewer l.pieces s.cuts (all_of l.heard) x r.ended) sent

-- the receipt of both halves
pub served-by_halves : (left remains wrote written : Option (List ℕ)) (listener : Listening) (speaker : Speaking) (read : ReadHalf) (write : WriteHalf) (r : Receipt)
    → IsReadHalf left remains listener read → IsWriteHalf wrote written speaker write → listener.viewer ≡ speaker.viewer
    → r.viewer ≡ write.viewer → r.pieces ≡ read.pieces → r.cuts ≡ write.cuts → r.heard ≡ read.heard → r.sent ≡ write.sent → r.ended ≡ write.ended
    → IsServedOpen left remains wrote written listener speaker r
served-by_halves left remains wrote written listener speaker read write r p q one viewer pieces cuts heard sent ended =
    let own = viewer ∙ q.2 ∙ sym one ∙ sym (hears-one-viewer left remains listener p.0 p.1.0 p.1.1) in (
      p.0,
      q.0,
      read.ended,
      p.1,
      subst (λ (e : Ended). SendsUntil e wrote written speaker q.0) (sym ended) q.1,
      receipt-of_parts p.0 q.0 r own (pieces ∙ p.3) (cuts ∙ q.3) (heard ∙ p.4) (sent ∙ q.4),
    )
