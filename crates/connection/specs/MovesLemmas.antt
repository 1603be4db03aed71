-- Bytes that move, some behind others.
use Rattle.std.proofs.Common.{◌≡◌, ℕ, List, [], ◌++◌, Option, Some, None, refl, sym, ap, ◌∙◌, append_assoc, append-nil}
use Rattle.std.specs.Prelude.{option_map}
use Rattle.std.specs.Io.KnownBytes.{Keeps}
use Rattle.std.proofs.KnownBytes.{Appends-nil, Appends-trans, Appends-kept, Consumes-nil, Consumes-trans, Consumes-kept}
use Rattle.connection.specs.Connection.{Carried, Moves}

kept-none : (kept : Option (List ℕ)) → kept ≡ option_map (λ bytes. bytes ++ []) kept
kept-none None = refl
kept-none (Some bytes) = ap (λ l. Some l) (sym (append-nil bytes))

kept-twice : (kept : Option (List ℕ)) (w x : List ℕ) → option_map (λ bytes. bytes ++ x) (option_map (λ bytes. bytes ++ w) kept) ≡ option_map (λ bytes. bytes ++ (w ++ x)) kept
kept-twice None w x = refl
kept-twice (Some bytes) w x = ap (λ l. Some l) (append_assoc bytes w x)

pub moves-nothing : (a : Carried) → Moves a a [] []
moves-nothing a = record { read = Consumes-nil a.unread; written = Appends-nil a.written; sent = kept-none a.sent }

-- none of them moves where they stay
pub moves_kept : (a b : Carried) → Keeps a.unread b.unread → Keeps a.written b.written → b.sent ≡ a.sent → Moves a b [] []
moves_kept a b read written sent = record {
  read = Consumes-kept a.unread a.unread b.unread [] (Consumes-nil a.unread) read;
  written = Appends-kept a.written a.written b.written [] (Appends-nil a.written) written;
  sent = sent ∙ kept-none a.sent;
}

pub moves-then : (a b d : Carried) (r s w x : List ℕ) → Moves a b r w → Moves b d s x → Moves a d (r ++ s) (w ++ x)
moves-then a b d r s w x m n = record {
  read = Consumes-trans a.unread b.unread d.unread r s m.read n.read;
  written = Appends-trans a.written b.written d.written w x m.written n.written;
  sent = n.sent ∙ ap (option_map (λ bytes. bytes ++ x)) m.sent ∙ kept-twice a.sent w x;
}
