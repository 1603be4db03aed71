-- What is left to be read of a WebSocket, by what a read of the stream below consumed.
use Rattle.std.proofs.Common.{◌≡◌, ℕ, ◌<◌, List, [], ◌++◌, length, take, Option, None, Some, Result, Ok, Err, IfOk, option_map, refl, sym, ap, subst, ◌∙◌}
use Rattle.std.specs.Io.KnownBytes.{Consumes, Keeps, IsAtEnd, ReadConsumes}
use Rattle.std.proofs.KnownBytes.{Consumes-nil}
use Rattle.web_stream.specs.Reading.{Reading, after, payloads}
use Rattle.web_stream.proofs.ReadingLemmas.{payloads_append}

-- these bytes were consumed below, and their payload is given
pub piece_taken : (s new : Reading) (a b : Option (List ℕ)) (bs given : List ℕ) → Consumes a b bs → new ≡ after s bs → given ≡ payloads s bs
    → Consumes (option_map (payloads s) a) (option_map (payloads new) b) given
piece_taken s new None b bs given p now said = tt
piece_taken s new (Some xs) None bs given p now said = absurd p
piece_taken s new (Some xs) (Some ys) bs given p now said =
    ap (payloads s) p ∙ payloads_append s bs ys
    ∙ ap (λ (l : List ℕ). l ++ payloads (after s bs) ys) (sym said)
    ∙ ap (λ (r : Reading). given ++ payloads r ys) (sym now)

pub at_end : (s : Reading) (b : Option (List ℕ)) → IsAtEnd b → IsAtEnd (option_map (payloads s) b)
at_end s None h = tt
at_end s (Some ys) h = ap (payloads s) h

-- the stream below is at its end
pub end_taken : (s : Reading) (a b : Option (List ℕ)) (piece room : List ℕ) → Consumes a b [] → (0 < length piece → IsAtEnd b)
    → (0 < length room → 0 < length piece)
    → Consumes (option_map (payloads s) a) (option_map (payloads s) b) [] × (0 < length room → IsAtEnd (option_map (payloads s) b))
end_taken s a b piece room p ends longer = (piece_taken s s a b [] [] p refl refl, λ some. at_end s b (ends (longer some)))

-- the read below failed
pub none_taken : (s : Reading) (a b : Option (List ℕ)) → Keeps a b → Keeps (option_map (payloads s) a) (option_map (payloads s) b)
none_taken s None b p = tt
none_taken s (Some xs) None p = absurd p
none_taken s (Some xs) (Some ys) p = ap (payloads s) p

pub kept_by_none : (a b : Option (List ℕ)) → Consumes a b [] → Keeps a b
kept_by_none None b p = tt
kept_by_none (Some xs) None p = absurd p
kept_by_none (Some xs) (Some ys) p = sym p

-- a read that has no payload to give
pub nothing_given : {E : Type 0} (a b : Option (List ℕ)) (r : Result ℕ E) (room : List ℕ) → Consumes a b []
    → IfOk r (λ n. (n ≡ 0) × IsAtEnd b)
    → ReadConsumes a b r room
nothing_given a b (Ok n) room p h =
    (let P : ℕ → Type 0 = λ k. Consumes a b (take k room) in subst P (sym h.0) p, λ zero some. h.1)
nothing_given a b (Err e) room p h = kept_by_none a b p

pub kept_at_end : {E : Type 0} (a : Option (List ℕ)) (r : Result ℕ E) (room : List ℕ) → IfOk r (λ n. (n ≡ 0) × IsAtEnd a)
    → ReadConsumes a a r room
kept_at_end a r room h = nothing_given a a r room (Consumes-nil a) h

-- ---- what `grind` is given

pub ruleset one_piece = (piece_taken, end_taken, none_taken)

pub ruleset nothing = (nothing_given, kept_at_end)
