-- Output in pieces.
use Rattle.std.proofs.Common.{◌≡◌, ◌≢◌, ℕ, zero, suc, ◌+◌, ◌<◌, ◌≤◌, List, [], ◌∷◌, ◌++◌, length, drop, take, refl, sym, ap, ◌∙◌, arith, append_assoc, slice_set, inl, inr, ◌||◌}
use Rattle.std.proofs.lemmas.List.{drop-drop, take-append-drop, length-take-le, take_rest, drop_more}
use Rattle.std.specs.Prelude.{Result, Ok, Err, OnOk, Option, Some, map, min, ◌-◌, ◌^◌, get_or, Bool, true, false, not, if◌then◌else◌, eqb}
use Rattle.std.specs.List.{remove}
use Rattle.std.proofs.lemmas.Bool.{eq-eqb, ne_eqb, cases_eq}
use Rattle.viewer.specs.Given.{bytes_given}
use Rattle.region.specs.declared.Rect.{Rect}
use Rattle.c_screen.specs.declared.corners.Corners.{Corners}
use Rattle.c_screen.specs.Desk.{rect_of, without, has_output, first_index, next_piece, left_first, left_of}

-- bytes are left where fewer are done than are made
pub some_left : (made rest : List ℕ) (done : ℕ) → done < length made → drop done made ++ rest ≢ []
some_left [] rest done less = absurd (omega (less, arith))
some_left (b ∷ made) rest zero less = λ e. absurd (cc)
some_left (b ∷ made) rest (suc done) less = some_left made rest done (omega (less, arith))

-- the first bytes that are left, and then the others
first_left : (made rest : List ℕ) (done count : ℕ) → take count (drop done made) ++ (drop (done + count) made ++ rest) ≡ drop done made ++ rest
first_left made rest done count =
    rw (sym (drop-drop count done made)) (sym (append_assoc (take count (drop done made)) (drop count (drop done made)) rest) ∙ ap (λ l. l ++ rest) (take-append-drop count (drop done made)))

pub given : (made rest old room_old room_new : List ℕ) (done count : ℕ) → drop done made ++ rest ≡ old → count ≤ length (drop done made) → room_new ≡ take count (drop done made) ++ drop count room_old
    → (x : List ℕ) × length x ≡ count × (x ++ (drop (done + count) made ++ rest) ≡ old) × (room_new ≡ x ++ drop count room_old)
given made rest old room_old room_new done count is few room = (take count (drop done made), length-take-le count (drop done made) few, first_left made rest done count ∙ is, room)

-- the same of the slice that begins there
pub given_slice : (made all rest old room_old room_new : List ℕ) (done count : ℕ) → all ≡ made → drop done made ++ rest ≡ old → count ≡ min (min (length (take (length all - done) (drop done all))) (length room_old)) (2 ^ 30)
    → room_new ≡ take count (take (length all - done) (drop done all)) ++ drop count room_old
    → (x : List ℕ) × length x ≡ count × (x ++ (drop (done + count) made ++ rest) ≡ old) × (room_new ≡ x ++ drop count room_old)
given_slice made all rest old room_old room_new done count same is few room =
    let whole : take (length all - done) (drop done all) ≡ drop done made = take_rest all done ∙ ap (drop done) same in
    given made rest old room_old room_new done count is
    (let counted : count ≡ min (min (length (drop done made)) (length room_old)) (2 ^ 30) = few ∙ ap (λ l. min (min (length l) (length room_old)) (2 ^ 30)) whole in omega (counted, arith))
    (room ∙ ap (λ l. take count l ++ drop count room_old) whole)

-- nothing is left once all is done
none_left : (made : List ℕ) (done : ℕ) → length made ≤ done → drop done made ≡ []
none_left [] zero all = refl
none_left [] (suc done) all = refl
none_left (b ∷ made) zero all = absurd (omega (all, arith))
none_left (b ∷ made) (suc done) all = none_left made done (omega (all, arith))

-- where an update gives no piece, none of it is left
pub none_more : {X E : Type 0} (r : Result X E) (made cleared new update : List ℕ) (done : ℕ) (left : Option (List ℕ)) → length made ≤ done → left ≡ Some update → OnOk r (update ≢ [] → length cleared < length new)
    → OnOk r (length new ≤ 0 → drop done made ++ bytes_given left ≡ [])
none_more (Ok x) made cleared new [] done left all is more = λ none. rw is (rw (none_left made done all) refl)
none_more (Ok x) made cleared new (b ∷ update) done left all is more = λ none. let some : length cleared < length new = more (λ e. absurd (cc)) in absurd (omega (some, none, arith))
none_more (Err e) made cleared new update done left all is more = tt

-- one rectangle more
pub one_rect : (list : List Corners) (i : ℕ) (made new : List Rect) (d : Corners) → i < length list → made ++ map rect_of (drop i list) ≡ map rect_of list → new ≡ made ++ rect_of (get_or list i d) ∷ []
    → new ++ map rect_of (drop (i + 1) list) ≡ map rect_of list
one_rect list i made new d less is more =
    rw more (append_assoc made (rect_of (get_or list i d) ∷ []) (map rect_of (drop (i + 1) list)) ∙ (ap (λ l. made ++ map rect_of l) (sym (drop_more list i d less)) ∙ is))

-- a piece for the viewer is taken out
pub without_removed : (v : ℕ) (xs : List (ℕ × List ℕ)) (i : ℕ) (d : ℕ × List ℕ) → i < length xs → (get_or xs i d).0 ≡ v → without v (remove xs i) ≡ without v xs
without_removed v [] i d less is = absurd (omega (less, arith))
without_removed v (x ∷ xs) zero d less is = rw (eq-eqb x.0 v is) refl
without_removed v (x ∷ xs) (suc i) d less is = step (eqb x.0 v) (without_removed v xs i d (omega (less, arith)) is) where
  step : (b : Bool) → without v (remove xs i) ≡ without v xs → (if not b then x ∷ without v (remove xs i) else without v (remove xs i)) ≡ (if not b then x ∷ without v xs else without v xs)
  step true again = again
  step false again = ap (λ l. x ∷ l) again

-- those before it stay
pub take_removed : {X : Type 0} (xs : List X) (i : ℕ) → i < length xs → take i (remove xs i) ≡ take i xs
take_removed [] i less = absurd (omega (less, arith))
take_removed (x ∷ xs) zero less = refl
take_removed (x ∷ xs) (suc i) less = ap (λ l. x ∷ l) (take_removed xs i (omega (less, arith)))

length_removed : {X : Type 0} (xs : List X) (i : ℕ) → i < length xs → length (remove xs i) + 1 ≡ length xs
length_removed [] i less = absurd (omega (less, arith))
length_removed (x ∷ xs) zero less = omega arith
length_removed (x ∷ xs) (suc i) less = let rest : length (remove xs i) + 1 ≡ length xs = length_removed xs i (omega (less, arith)) in omega (rest, arith)

-- what is taken out at a place leaves what was looked at before
pub removed : (v : ℕ) (xs ys old : List (ℕ × List ℕ)) (i : ℕ) (d : ℕ × List ℕ) → i < length xs → (get_or xs i d).0 ≡ v → ys ≡ remove xs i → without v xs ≡ without v old → without v (take i xs) ≡ take i xs
    → (without v ys ≡ without v old) × (without v (take i ys) ≡ take i ys) × i ≤ length ys
removed v xs ys old i d less is gone same kept =
    let long : length (remove xs i) + 1 ≡ length xs = length_removed xs i less in
    (rw gone (without_removed v xs i d less is ∙ same), rw gone (rw (take_removed xs i less) kept), rw gone (omega (long, less, arith)))

-- the first piece for a viewer, by where it stands
pub next_at : (v : ℕ) (xs : List (ℕ × List ℕ)) (i : ℕ) (d : ℕ × List ℕ) → i < length xs → first_index v xs ≡ i → next_piece v xs ≡ (get_or xs i d).1
next_at v [] i d less first = absurd (omega (less, arith))
next_at v (x ∷ xs) i d less first = step (eqb x.0 v) i first less (next_at v xs) where
  step : (b : Bool) (i : ℕ) → (if b then 0 else suc (first_index v xs)) ≡ i → i < suc (length xs) → ((j : ℕ) (d : ℕ × List ℕ) → j < length xs → first_index v xs ≡ j → next_piece v xs ≡ (get_or xs j d).1) → (if b then x.1 else next_piece v xs) ≡ (get_or (x ∷ xs) i d).1
  step true i first less again = rw (sym first) refl
  step false i first less again = rw (sym first) (again (first_index v xs) d (omega (first, less, arith)) refl)

-- it is the viewer's
pub owner_at : (v : ℕ) (xs : List (ℕ × List ℕ)) (i : ℕ) (d : ℕ × List ℕ) → i < length xs → first_index v xs ≡ i → (get_or xs i d).0 ≡ v
owner_at v [] i d less first = absurd (omega (less, arith))
owner_at v (x ∷ xs) i d less first = step (owner_at v xs) where
  step : ((j : ℕ) (d : ℕ × List ℕ) → j < length xs → first_index v xs ≡ j → (get_or xs j d).0 ≡ v) → (get_or (x ∷ xs) i d).0 ≡ v
  step again = elim (cases_eq x.0 v) [
    | inl same ↦ (let e : (if eqb x.0 v then 0 else suc (first_index v xs)) ≡ 0 = rw (eq-eqb x.0 v same) refl in rw (sym first ∙ e) same)
    | inr differs ↦ (let e : (if eqb x.0 v then 0 else suc (first_index v xs)) ≡ suc (first_index v xs) = rw (ne_eqb x.0 v differs) refl in
        let at : i ≡ suc (first_index v xs) = sym first ∙ e in rw at (again (first_index v xs) d (omega (at, less, arith)) refl))
  ]

left_first-some : (v : ℕ) (piece : ℕ × List ℕ) (xs : List (ℕ × List ℕ)) → piece.0 ≡ v → piece.1 ≢ [] → piece ∷ xs ≡ left_first v piece.1 xs
left_first-some v (w, []) xs is some = absurd (some refl)
left_first-some v (w, b ∷ bytes) xs is some = ap (λ n. (n, b ∷ bytes) ∷ xs) is

-- the first piece is written
pub left_set : (v : ℕ) (xs : List (ℕ × List ℕ)) (i : ℕ) (piece : ℕ × List ℕ) → i < length xs → first_index v xs ≡ i → piece.0 ≡ v → piece.1 ≢ [] → slice_set xs i piece ≡ left_of v piece.1 xs
left_set v [] i piece less first is some = absurd (omega (less, arith))
left_set v (x ∷ xs) i piece less first is some = step (eqb x.0 v) i first less (λ j less first. left_set v xs j piece less first is some) where
  step : (b : Bool) (i : ℕ) → (if b then 0 else suc (first_index v xs)) ≡ i → i < suc (length xs) → ((j : ℕ) → j < length xs → first_index v xs ≡ j → slice_set xs j piece ≡ left_of v piece.1 xs)
      → slice_set (x ∷ xs) i piece ≡ (if b then left_first v piece.1 xs else x ∷ left_of v piece.1 xs)
  step true i first less again = rw (sym first) (left_first-some v piece xs is some)
  step false i first less again = rw (sym first) (ap (λ l. x ∷ l) (again (first_index v xs) (omega (first, less, arith)) refl))

-- or taken out
pub left_none : (v : ℕ) (xs : List (ℕ × List ℕ)) (i : ℕ) (piece : ℕ × List ℕ) → i < length xs → first_index v xs ≡ i → remove (slice_set xs i piece) i ≡ left_of v [] xs
left_none v [] i piece less first = absurd (omega (less, arith))
left_none v (x ∷ xs) i piece less first = step (eqb x.0 v) i first less (λ j less first. left_none v xs j piece less first) where
  step : (b : Bool) (i : ℕ) → (if b then 0 else suc (first_index v xs)) ≡ i → i < suc (length xs) → ((j : ℕ) → j < length xs → first_index v xs ≡ j → remove (slice_set xs j piece) j ≡ left_of v [] xs)
      → remove (slice_set (x ∷ xs) i piece) i ≡ (if b then xs else x ∷ left_of v [] xs)
  step true i first less again = rw (sym first) refl
  step false i first less again = rw (sym first) (ap (λ l. x ∷ l) (again (first_index v xs) (omega (first, less, arith)) refl))

-- nothing waits
pub no_next : (v : ℕ) (xs : List (ℕ × List ℕ)) → has_output v xs ≡ false → (next_piece v xs ≡ []) × (left_of v [] xs ≡ xs)
no_next v [] none = (refl, refl)
no_next v (x ∷ xs) none = step (eqb x.0 v) none (no_next v xs) where
  step : (b : Bool) → (b || has_output v xs) ≡ false → (has_output v xs ≡ false → (next_piece v xs ≡ []) × (left_of v [] xs ≡ xs)) → ((if b then x.1 else next_piece v xs) ≡ []) × ((if b then xs else x ∷ left_of v [] xs) ≡ x ∷ xs)
  step true none again = absurd (cc)
  step false none again = ((again none).0, ap (λ l. x ∷ l) (again none).1)

pub piece_left : (v : ℕ) (xs : List (ℕ × List ℕ)) (i count : ℕ) (piece new : ℕ × List ℕ) (room_old room_new : List ℕ) → i < length xs → first_index v xs ≡ i → piece ≡ get_or xs i piece → new.0 ≡ piece.0 → new.1 ≢ []
    → (bytes : List ℕ) × length bytes ≡ count × (bytes ++ new.1 ≡ piece.1) × (room_new ≡ bytes ++ drop count room_old)
    → (bytes left : List ℕ) × length bytes ≡ count × (bytes ++ left ≡ next_piece v xs) × (room_new ≡ bytes ++ drop count room_old) × (slice_set xs i new ≡ left_of v left xs)
piece_left v xs i count piece new room_old room_new less first is same some given = (
  given.0,
  new.1,
  given.1,
  given.2 ∙ (ap (λ (p : ℕ × List ℕ). p.1) is ∙ sym (next_at v xs i piece less first)),
  given.3,
  left_set v xs i new less first (same ∙ (ap (λ (p : ℕ × List ℕ). p.0) is ∙ owner_at v xs i piece less first)) some,
)

pub piece_gone : (v : ℕ) (xs ys : List (ℕ × List ℕ)) (i count : ℕ) (piece new : ℕ × List ℕ) (room_old room_new : List ℕ) → i < length xs → first_index v xs ≡ i → piece ≡ get_or xs i piece → new.1 ≡ [] → ys ≡ remove (slice_set xs i new) i
    → (bytes : List ℕ) × length bytes ≡ count × (bytes ++ new.1 ≡ piece.1) × (room_new ≡ bytes ++ drop count room_old)
    → (bytes left : List ℕ) × length bytes ≡ count × (bytes ++ left ≡ next_piece v xs) × (room_new ≡ bytes ++ drop count room_old) × (ys ≡ left_of v left xs)
piece_gone v xs ys i count piece new room_old room_new less first is none gone given =
    (given.0, [], given.1, ap (λ l. given.0 ++ l) (sym none) ∙ (given.2 ∙ (ap (λ (p : ℕ × List ℕ). p.1) is ∙ sym (next_at v xs i piece less first))), given.3, gone ∙ left_none v xs i new less first)
