-- Lines, and the line feeds that end them.
use Rattle.std.proofs.Common.{◌≡◌, ℕ, zero, suc, ◌+◌, ◌<◌, ◌≤◌, Bool, true, false, ◌||◌, eqb, List, [], ◌∷◌, ◌++◌, length, get_or, take, refl, sym, ap, subst, ◌∙◌, arith, append_assoc, Option, Some, None}
use Rattle.std.proofs.lemmas.List.{append-nil, take_all, take_more, length-append}
use Rattle.std.proofs.lemmas.Bool.Decides.{nat_tests}
use Rattle.memchr.specs.Find.{IsFirstByte, is_byte}
use Rattle.std.specs.Io.KnownBytes.{Consumes, IsAtEnd, Keeps}
use Rattle.play_script.specs.Words.{parts}
use Rattle.play_script.proofs.WordLemmas.{length-parts}
use Rattle.replay.specs.Sessions.{whole_of, whole_lines}
use Rattle.replay.specs.Reading.{has_feed, IsPiece, TakesPiece, TakesLine}
use Rattle.replay.specs.declared.reading.PieceEnd.{PieceEnd}
use Rattle.replay.specs.declared.reading.PieceEnd.TheVariants.{LineFeed, Room, Input}

either_false : (a b : Bool) → (a || b) ≡ false → (a ≡ false) × (b ≡ false)
either_false true b h = cc
either_false false b h = (refl, h)

pub no_feed-append : (xs ys : List ℕ) → has_feed xs ≡ false → has_feed ys ≡ false → has_feed (xs ++ ys) ≡ false
no_feed-append [] ys h g = g
no_feed-append (x ∷ xs) ys h g =
    let e = either_false (eqb x 10) (has_feed xs) h in
    let rest : has_feed (xs ++ ys) ≡ false = no_feed-append xs ys e.1 g in
    rw (e.0, rest) refl

no_feed-take : (xs : List ℕ) (n : ℕ) → n ≤ length xs → ((k : ℕ) → k < n → eqb (get_or xs k 0) 10 ≡ false) → has_feed (take n xs) ≡ false
no_feed-take xs zero h before = refl
no_feed-take [] (suc n) h before = absurd (omega arith)
no_feed-take (x ∷ xs) (suc n) h before =
    let first : eqb x 10 ≡ false = before 0 (omega arith) in
    let rest : has_feed (take n xs) ≡ false = no_feed-take xs n (omega arith) (λ k l. before (suc k) (omega arith)) in
    rw (first, rest) refl

equal_from : (a b : ℕ) → eqb a b ≡ true → a ≡ b
equal_from a b h = grind (arith, nat_tests)

not_true : (b : Bool) → ¬ (b ≡ true) → b ≡ false
not_true true h = absurd (h refl)
not_true false h = refl

-- a line feed at a place
pub piece_found : (xs : List ℕ) (end : ℕ) → IsFirstByte (is_byte 10) xs (Some end) → IsPiece xs end (end + 1) LineFeed
piece_found xs end e =
    let within : end < length xs = e.0.high in (
      omega arith,
      omega arith,
      no_feed-take xs end (omega arith) (λ k l. not_true _ (e.0.before k (omega arith) l)),
      take_more xs end 0 within ∙ ap (λ b. take end xs ++ b ∷ []) (equal_from _ _ e.1),
    )

-- none
pub piece_open : (xs : List ℕ) → IsFirstByte (is_byte 10) xs None → 0 < length xs → IsPiece xs (length xs) (length xs) Room
piece_open xs e some = (refl, refl, no_feed-take xs (length xs) (omega arith) (λ k l. not_true _ (e k (omega arith) l)), some)

-- a read that was interrupted took nothing
pub takes_kept : (a b rest : Option (List ℕ)) (before old new : List ℕ) (end : PieceEnd) → Keeps a b → old ≡ before → TakesPiece b rest old new end → TakesPiece a rest before new end
takes_kept a b rest before old new end k e p = subst (λ l. TakesPiece a rest l new end) e (at a b end k p)
  where
    at : (x y : Option (List ℕ)) (f : PieceEnd) → Keeps x y → TakesPiece y rest old new f → TakesPiece x rest old new f
    at None y LineFeed k p = (p.0, p.1, p.2, tt)
    at None y Room k p = (p.0, p.1, p.2, tt, p.4)
    at None y Input k p = (p.0, tt)
    at (Some xs) None f k p = absurd k
    at (Some xs) (Some ys) f k p = subst (λ z. TakesPiece (Some z) rest old new f) k p

pub kept_itself : (a : Option (List ℕ)) → Keeps a a
kept_itself None = tt
kept_itself (Some xs) = refl

pub kept_again : (a b c : Option (List ℕ)) (before old new : List ℕ) → Keeps a b → old ≡ before → Keeps b c × (new ≡ old) → Keeps a c × (new ≡ before)
kept_again None b c before old new h e p = (tt, p.1 ∙ e)
kept_again (Some x) None c before old new h e p = absurd h
kept_again (Some x) (Some y) None before old new h e p = absurd p.0
kept_again (Some x) (Some y) (Some z) before old new h e p = (p.0 ∙ h, p.1 ∙ e)

-- a line, and what stands behind its line feed
line_first : (line rest : List ℕ) → has_feed line ≡ false → parts 10 (line ++ 10 ∷ rest) ≡ line ∷ parts 10 rest
line_first [] rest h = refl
line_first (b ∷ bs) rest h =
    let e = either_false (eqb b 10) (has_feed bs) h in
    let more : parts 10 (bs ++ 10 ∷ rest) ≡ bs ∷ parts 10 rest = line_first bs rest e.1 in
    rw (e.0, more) refl

line_open : (line : List ℕ) → has_feed line ≡ false → parts 10 line ≡ line ∷ []
line_open [] h = refl
line_open (b ∷ bs) h =
    let e = either_false (eqb b 10) (has_feed bs) h in
    let more : parts 10 bs ≡ bs ∷ [] = line_open bs e.1 in
    rw (e.0, more) refl

with_more : (l : List ℕ) (ps : List (List ℕ)) → 1 ≤ length ps → whole_of (l ∷ ps) ≡ l ∷ whole_of ps
with_more l [] h = absurd (omega arith)
with_more l (p ∷ ps) h = refl

whole_first : (line rest : List ℕ) → has_feed line ≡ false → whole_lines (line ++ 10 ∷ rest) ≡ line ∷ whole_lines rest
whole_first line rest h = ap whole_of (line_first line rest h) ∙ with_more line (parts 10 rest) (omega (arith, length-parts 10 rest))

pub takes_line : (a b : Option (List ℕ)) (line : List ℕ) → has_feed line ≡ false → Consumes a b (line ++ 10 ∷ []) → TakesLine a b line true
takes_line None b line h c = tt
takes_line (Some x) None line h c = absurd c
takes_line (Some x) (Some y) line h c = ap whole_lines (c ∙ append_assoc line (10 ∷ []) y) ∙ whole_first line y h

pub takes_none : (a b c : Option (List ℕ)) (line : List ℕ) → has_feed line ≡ false → Consumes a b line → IsAtEnd b → TakesLine a c line false
takes_none None b c line h e end = tt
takes_none (Some x) None c line h e end = absurd e
takes_none (Some x) (Some y) c line h e end = ap whole_lines (e ∙ ap (λ r. line ++ r) end ∙ append-nil line) ∙ ap whole_of (line_open line h)

consumes_more : (a b c : Option (List ℕ)) (xs ys : List ℕ) → Consumes a b xs → Consumes b c ys → Consumes a c (xs ++ ys)
consumes_more None b c xs ys p q = tt
consumes_more (Some x) None c xs ys p q = absurd p
consumes_more (Some x) (Some y) None xs ys p q = absurd q
consumes_more (Some x) (Some y) (Some z) xs ys p q = p ∙ ap (λ r. xs ++ r) q ∙ sym (append_assoc xs ys z)

-- of pieces a line comes to be
pub record HasLine (began left : Option (List ℕ)) (line : List ℕ) : Type 0 where
  pub clean : has_feed line ≡ false
  pub consumed : Consumes began left line

pub line_more : (began left rest : Option (List ℕ)) (old new : List ℕ) → HasLine began left old → TakesPiece left rest old new Room → HasLine began rest new
line_more began left rest old new h p = record {
  clean = ap has_feed p.1 ∙ no_feed-append old p.0 h.clean p.2;
  consumed = subst (Consumes began rest) (sym p.1) (consumes_more began left rest old p.0 h.consumed p.3);
}

pub line_longer : (left rest : Option (List ℕ)) (old new : List ℕ) → TakesPiece left rest old new Room → length old < length new
line_longer left rest old new p = omega (arith, ap length p.1, length-append old p.0, p.4)

pub line_ends : (began left rest : Option (List ℕ)) (old new : List ℕ) → HasLine began left old → TakesPiece left rest old new LineFeed → TakesLine began rest new true
line_ends began left rest old new h p =
    takes_line began rest new (ap has_feed p.1 ∙ no_feed-append old p.0 h.clean p.2)
    (subst (Consumes began rest) (sym (ap (λ l. l ++ 10 ∷ []) p.1 ∙ append_assoc old p.0 (10 ∷ []))) (consumes_more began left rest old (p.0 ++ 10 ∷ []) h.consumed p.3))

pub line_stops : (began left rest : Option (List ℕ)) (old new : List ℕ) → HasLine began left old → TakesPiece left rest old new Input → TakesLine began rest new false
line_stops began left rest old new h p =
    takes_none began left rest new (ap has_feed p.0 ∙ h.clean) (subst (Consumes began left) (sym p.0) h.consumed) p.1

-- what was shown and then consumed is a piece of a line
pub takes_piece : (left rest : Option (List ℕ)) (bytes old new : List ℕ) (count taken : ℕ) (end : PieceEnd) → IsPiece bytes count taken end → new ≡ old ++ take count bytes
    → Consumes left rest (take taken bytes) → (length bytes ≡ 0 → IsAtEnd left) → TakesPiece left rest old new end
takes_piece left rest bytes old new count taken LineFeed p e c at_end = (take count bytes, e, p.2, subst (Consumes left rest) p.3 c)
takes_piece left rest bytes old new count taken Room p e c at_end =
    (take count bytes, e, p.2, subst (λ k. Consumes left rest (take k bytes)) p.1 c, omega (arith, p.3, ap length (ap (λ k. take k bytes) p.0 ∙ take_all (length bytes) bytes (omega arith)), p.0))
takes_piece left rest bytes old new count taken Input p e c at_end =
    (e ∙ ap (λ k. old ++ take k bytes) p.0 ∙ append-nil old, at_end p.2)

pub taken_within : (bytes : List ℕ) (count taken : ℕ) (end : PieceEnd) → IsPiece bytes count taken end → taken ≤ length bytes
taken_within bytes count taken LineFeed p = p.0
taken_within bytes count taken Room p = omega (arith, p.0, p.1)
taken_within bytes count taken Input p = omega (arith, p.1)

pub count_within : (bytes : List ℕ) (count taken : ℕ) (end : PieceEnd) → IsPiece bytes count taken end → count ≤ length bytes
count_within bytes count taken LineFeed p = p.1
count_within bytes count taken Room p = omega (arith, p.0)
count_within bytes count taken Input p = omega (arith, p.0)
