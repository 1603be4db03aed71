-- What was written, piece by piece.
use Rattle.std.proofs.Common.{List, [], ◌++◌, ℕ, sym, ap, ◌∙◌, ◌+◌, ◌≡◌, subst, append_assoc, Option, Some, None, map, refl, zero-add, ◌∷◌}
use Rattle.std.proofs.lemmas.List.FromFn.{map-range_with_len_more}
use Rattle.std.proofs.lemmas.Grind.{flat_map-append}
use Rattle.std.proofs.lemmas.List.{append-nil}
use Rattle.std.specs.Prelude.{IfSome, flat_map}
use Rattle.std.specs.List.{range_with_len}
use Rattle.std.specs.Io.KnownBytes.{Appends, Keeps}
use Rattle.replay.specs.Reading.{Grows, AnswersTo}
use Rattle.replay.specs.declared.replaying.Question.{Question}
use Rattle.replay.specs.declared.replaying.Question.TheVariants.{Viewers, Sent, Seen, Drawn, Redacted}

pub appends_more : (a b c : Option (List ℕ)) (xs ys : List ℕ) → Appends a b xs → Appends b c ys → Appends a c (xs ++ ys)
appends_more None b c xs ys h g = tt
appends_more (Some x) None c xs ys h g = absurd h
appends_more (Some x) (Some y) None xs ys h g = absurd g
appends_more (Some x) (Some y) (Some z) xs ys h g = g ∙ ap (λ r. r ++ ys) h ∙ append_assoc x xs ys

pub appends_nothing : (a : Option (List ℕ)) → Appends a a []
appends_nothing None = tt
appends_nothing (Some xs) = sym (append-nil xs)

pub grows_none : (a : Option (List ℕ)) → Grows a a
grows_none a = ([], appends_nothing a)

pub grows_more : (a b c : Option (List ℕ)) (ys : List ℕ) → Grows a b → Appends b c ys → Grows a c
grows_more a b c ys h g = (h.0 ++ ys, appends_more a b c h.0 ys h.1 g)

appends_kept : (a b c : Option (List ℕ)) (xs : List ℕ) → Appends a b xs → Keeps b c → Appends a c xs
appends_kept None b c xs h k = tt
appends_kept (Some x) None c xs h k = absurd h
appends_kept (Some x) (Some y) None xs h k = absurd k
appends_kept (Some x) (Some y) (Some z) xs h k = k ∙ h

-- what was written is handed on
answers_kept : (q : Question) (ls : List (List ℕ)) (a b c : Option (List ℕ)) → AnswersTo q ls a b → Keeps b c → AnswersTo q ls a c
answers_kept (Sent v) ls a b c h k = appends_kept a b c _ h k
answers_kept Viewers ls a b c h k = (h.0, appends_kept a b c h.0 h.1 k)
answers_kept (Seen v) ls a b c h k = (h.0, appends_kept a b c h.0 h.1 k)
answers_kept Drawn ls a b c h k = appends_kept a b c _ h k
answers_kept Redacted ls a b c h k = appends_kept a b c _ h k

pub all_kept : (q : Question) (o : Option (List (List ℕ))) (a b c : Option (List ℕ)) → IfSome o (λ ls. AnswersTo q ls a b) → Keeps b c → IfSome o (λ ls. AnswersTo q ls a c)
all_kept q None a b c h k = tt
all_kept q (Some ls) a b c h k = answers_kept q ls a b c h k

map_id : (xs : List ℕ) → map (λ k. k) xs ≡ xs
map_id [] = refl
map_id (x ∷ xs) = ap (λ l. x ∷ l) (map_id xs)

-- a row more behind a picture's head and its first rows
pub row_more : (a b c : Option (List ℕ)) (head : List ℕ) (rows : ℕ → List ℕ) (y : ℕ) → Appends a b (head ++ flat_map rows (range_with_len 0 y)) → Appends b c (rows y) → Appends a c (head ++ flat_map rows (range_with_len 0 (y + 1)))
row_more a b c head rows y h g =
    let more : flat_map rows (range_with_len 0 (y + 1)) ≡ flat_map rows (range_with_len 0 y) ++ rows y =
    ap (flat_map rows) (sym (map_id (range_with_len 0 (y + 1))) ∙ map-range_with_len_more (λ k. k) 0 y y (zero-add y) ∙ ap (λ l. l ++ y ∷ []) (map_id (range_with_len 0 y)))
    ∙ flat_map-append rows (range_with_len 0 y) (y ∷ []) ∙ ap (λ l. flat_map rows (range_with_len 0 y) ++ l) (append-nil (rows y)) in
    subst (Appends a c) (append_assoc head (flat_map rows (range_with_len 0 y)) (rows y) ∙ ap (λ l. head ++ l) (sym more)) (appends_more a b c _ (rows y) h g)
