-- Where all seats that were made are given back and the queue is empty, each viewer's inputs are what its seat accepted.
use Rattle.std.proofs.Common.{◌≡◌, ◌≢◌, ⊎_elim, ℕ, ◌+◌, ◌≤◌, ◌==◌, Bool, true, false, cond, true≢false, List, [], ◌∷◌, ◌++◌, map, length, sym, refl, ap, ◌∙◌, subst, eq-eqb, ne_eqb, arith}
use Rattle.std.specs.Prelude.{if◌then◌else◌, nat_eq, All, sum_by}
use Rattle.std.proofs.lemmas.List.Sums.{sum_by-cons}
use Rattle.std.specs.List.{AllByRecursion, IsDistinct}
use Rattle.std.proofs.lemmas.Bool.{eqb-false}
use Rattle.std.proofs.lemmas.Bool.Decides.{eqb_tells}
use Rattle.std.proofs.lemmas.List.{append-nil, length-map}
use Rattle.crossbeam_queue.specs.Fifo.{Held}
use Rattle.std.proofs.lemmas.List.Elements.{All-from_recursion, recursion_from_All}
use mathlib.Core.Option.{some, none}
use mathlib.Core.Option as maybe
use lib.ListN.{get_elem?}
use Rattle.input_queue.specs.declared.Told.{Told}
use Rattle.input_queue.specs.declared.rule.Note.{Note}
use Rattle.input_queue.specs.declared.rule.View.{View}
use Rattle.input_queue.specs.Views.{spent, seat, taker, joined}
use Rattle.input_queue.specs.Rule.{those_of, noted_of, known_or, EachNote, AreApart, noted_items, seats_in, Keeps, Reached, Closed}
use Rattle.input_queue.specs.Ends.{Putting, of_viewer, ViewersApart, note_of}
use Rattle.input_queue.proofs.Places.{weigh_none, none_weigh, of_other}

all_spent : (items : List Told) (n : ℕ) (taken : List Told) (notes : List Note) (seats : List View) → Keeps items n taken notes seats → length notes ≡ n → (k : ℕ) (v : View) → get_elem? seats k ≡ some v → v ≡ spent
all_spent items n taken notes seats h all k v at =
    let counted = h.counted in
    let light : seats_in v ≡ 0 = weigh_none seats_in seats k v (omega (arith, counted, all)) at in
    ⊎_elim
    (λ (e : v ≡ seat k v.accepted). let one : seats_in v ≡ 1 = ap (λ (u : View). seats_in u) e in absurd (omega (arith, one, light)))
    (λ (e : v ≡ spent). e)
    (h.numbers k v at)

no_length : (l : List Told) → length l ≡ 0 → l ≡ []
no_length [] e = refl
no_length (x ∷ xs) e = absurd (omega (arith, e))

none_held : (items : List Told) (n : ℕ) (taken : List Told) (notes : List Note) (seats : List View) → Keeps items n taken notes seats → length notes ≡ n → noted_items notes ≤ length taken → items ≡ []
none_held items n taken notes seats h all fewer =
    let lengths = h.lengths in
    let light = none_weigh (λ (u : View). length u.accepted) seats (λ k v at. ap (λ (u : View). length u.accepted) (all_spent items n taken notes seats h all k v at)) in
    no_length items (omega (arith, lengths, light, fewer))

only_noted : (o : maybe.Option View) (l : List Told) → ((v : View) → o ≡ some v → v ≡ spent) → known_or o l ≡ l
only_noted none l h = refl
only_noted (some v) l h = of_other v l (ap (λ (u : View). u.puts) (h v refl))

-- ---- seats apart

differs : (x y : ℕ) → (x == y) ≡ false → (y == x) ≡ false
differs x y e = ne_eqb y x (λ i. eqb-false x y e (sym i))

-- a seat among others: what is noted of it, and the seats that have its viewer are those that have its number
record IsAlone (ss : List Putting) (s : Putting) : Type 0 where
  noted : noted_of s.number (map note_of ss) ≡ s.accepted
  same : AllByRecursion (λ (t : Putting). (t.viewer == s.viewer) ≡ (t.number == s.number)) ss

others : (s : Putting) (ss : List Putting) → AllByRecursion (λ y. nat_eq s.viewer y ≡ false) (map (λ (t : Putting). t.viewer) ss) → EachNote (λ f. (f.number == s.number) ≡ false) (map note_of ss)
    → AllByRecursion (λ (t : Putting). (t.viewer == s.viewer) ≡ (t.number == s.number)) ss
others s [] v n = tt
others s (t ∷ ts) v n = (differs s.viewer t.viewer v.0 ∙ sym n.0, others s ts v.1 n.1)

extend : (s : Putting) (ss ts : List Putting) → AllByRecursion (λ y. nat_eq s.viewer y ≡ false) (map (λ (t : Putting). t.viewer) ts) → EachNote (λ f. (f.number == s.number) ≡ false) (map note_of ts)
    → AllByRecursion (IsAlone ss) ts → AllByRecursion (IsAlone (s ∷ ss)) ts
extend s ss [] v n h = tt
extend s ss (t ∷ ts) v n h = let other = differs t.number s.number n.0 in (
  record {
    noted = ap (λ b. if b then s.accepted else noted_of t.number (map note_of ss)) other ∙ h.0.noted;
    same = (v.0 ∙ sym other, h.0.same);
  },
  extend s ss ts v.1 n.1 h.1,
)

apart_each : (ss : List Putting) → ViewersApart ss → AreApart (map note_of ss) → AllByRecursion (IsAlone ss) ss
unfolding IsDistinct
apart_each [] v n = tt
apart_each (s ∷ ss) v n = (
  record {
    noted = ap (λ b. if b then s.accepted else noted_of s.number (map note_of ss)) (eq-eqb s.number s.number refl);
    same = (eq-eqb s.viewer s.viewer refl ∙ sym (eq-eqb s.number s.number refl), others s ss v.0 n.0);
  },
  extend s ss ss v.0 n.0 (apart_each ss v.1 n.1),
)

-- ---- a viewer's items are those with its seat's number

agree : ℕ → ℕ → ℕ → Told → Type 0
agree viewer number k x = (x.viewer == viewer) ≡ (k == number)

rest_agrees : (P : Told → Type 0) (b : Bool) (x : Told) (xs : List Told) → AllByRecursion P (if b then x ∷ xs else xs) → AllByRecursion P xs
rest_agrees P true x xs h = h.1
rest_agrees P false x xs h = h

first_agrees : (P : Told → Type 0) (b : Bool) (x : Told) (xs : List Told) → b ≡ true → AllByRecursion P (if b then x ∷ xs else xs) → P x
first_agrees P true x xs e h = h.0
first_agrees P false x xs e h = absurd (true≢false (sym e))

chosen : (viewer number : ℕ) (numbered : List (ℕ × Told)) → ((k : ℕ) → AllByRecursion (λ (x : Told). (x.viewer == viewer) ≡ (k == number)) (those_of k numbered))
    → of_viewer viewer (map (λ (y : ℕ × Told). y.1) numbered) ≡ those_of number numbered
chosen viewer number [] h = refl
chosen viewer number (y ∷ ys) h =
    let f : (y.1.viewer == viewer) ≡ (y.0 == number) = first_agrees (λ (x : Told). (x.viewer == viewer) ≡ (y.0 == number)) (y.0 == y.0) y.1 (those_of y.0 ys) (eq-eqb y.0 y.0 refl) (h y.0) in
    let r = chosen viewer number ys (λ k. rest_agrees (λ (x : Told). (x.viewer == viewer) ≡ (k == number)) (y.0 == k) y.1 (those_of k ys) (h k)) in
    λ i. cond (f i) (y.1 ∷ r i) (r i)

of_one : (viewer number k seen : ℕ) (xs : List Told) → ((seen == viewer) ≡ (k == number)) → AllByRecursion (λ (x : Told). x.viewer ≡ seen) xs → AllByRecursion (λ (x : Told). (x.viewer == viewer) ≡ (k == number)) xs
of_one viewer number k seen [] e h = tt
of_one viewer number k seen (x ∷ xs) e h = (ap (λ n. n == viewer) h.0 ∙ e, of_one viewer number k seen xs e h.1)

noted_agrees : (viewer number : ℕ) (ss : List Putting) → AllByRecursion (λ (t : Putting). (t.viewer == viewer) ≡ (t.number == number)) ss → AllByRecursion (λ (t : Putting). AllByRecursion (λ (x : Told). x.viewer ≡ t.viewer) t.accepted) ss
    → (k : ℕ) → AllByRecursion (λ (x : Told). (x.viewer == viewer) ≡ (k == number)) (noted_of k (map note_of ss))
noted_agrees viewer number [] same theirs k = tt
noted_agrees viewer number (t ∷ ts) same theirs k = ⊎_elim
    (λ (e : ((t.number == k) ≡ true) × (t.number ≡ k)).
    let s : (t.viewer == viewer) ≡ (k == number) = same.0 ∙ ap (λ n. n == number) e.1 in
    subst (λ (b : Bool). AllByRecursion (λ (x : Told). (x.viewer == viewer) ≡ (k == number)) (if b then t.accepted else noted_of k (map note_of ts))) (sym e.0) (of_one viewer number k t.viewer t.accepted s theirs.0))
    (λ (e : ((t.number == k) ≡ false) × (t.number ≢ k)).
    subst (λ (b : Bool). AllByRecursion (λ (x : Told). (x.viewer == viewer) ≡ (k == number)) (if b then t.accepted else noted_of k (map note_of ts))) (sym e.0) (noted_agrees viewer number ts same.1 theirs.1 k))
    (eqb_tells t.number k)

-- each seat's, where the numbered items are those that were noted
settled_each : (whole : List Told) (numbered : List (ℕ × Told)) (ss ts : List Putting) → map (λ (y : ℕ × Told). y.1) numbered ≡ whole → ((k : ℕ) → those_of k numbered ≡ noted_of k (map note_of ss))
    → AllByRecursion (λ (t : Putting). AllByRecursion (λ (x : Told). x.viewer ≡ t.viewer) t.accepted) ss → AllByRecursion (IsAlone ss) ts → AllByRecursion (λ (s : Putting). of_viewer s.viewer whole ≡ s.accepted) ts
settled_each whole numbered ss [] is parts theirs h = tt
settled_each whole numbered ss (t ∷ ts) is parts theirs h = (
  ap (λ l. of_viewer t.viewer l) (sym is)
      ∙ chosen t.viewer t.number numbered (λ k. subst (λ (l : List Told). AllByRecursion (λ (x : Told). (x.viewer == t.viewer) ≡ (k == t.number)) l) (sym (parts k)) (noted_agrees t.viewer t.number ss h.0.same theirs k))
      ∙ parts t.number ∙ h.0.noted,
  settled_each whole numbered ss ts is parts theirs h.1,
)

their_own : (ss : List Putting) → AllByRecursion (λ (s : Putting). All (λ (x : Told). x.viewer ≡ s.viewer) s.accepted) ss → AllByRecursion (λ (s : Putting). AllByRecursion (λ (x : Told). x.viewer ≡ s.viewer) s.accepted) ss
their_own [] h = tt
their_own (s ∷ ss) h = (recursion_from_All (λ (x : Told). x.viewer ≡ s.viewer) s.accepted h.0, their_own ss h.1)

pub settled : (items : List Told) (n : ℕ) (taken : List Told) (seats : List View) (ss : List Putting) → Keeps items n taken (map note_of ss) seats → noted_items (map note_of ss) ≤ length taken → length (map note_of ss) ≡ n → ViewersApart ss
    → All (λ (s : Putting). All (λ (x : Told). x.viewer ≡ s.viewer) s.accepted) ss → All (λ (s : Putting). of_viewer s.viewer taken ≡ s.accepted) ss
settled items n taken seats ss h fewer all apart theirs =
    let notes = map note_of ss in
    let empty = none_held items n taken notes seats h all fewer in
    let numbered = h.interleaved.0 in
    let is = h.interleaved.1 ∙ ap (λ l. taken ++ l) empty ∙ append-nil taken in
    let parts : (k : ℕ) → those_of k numbered ≡ noted_of k notes = λ k. h.interleaved.2 k ∙ only_noted (get_elem? seats k) (noted_of k notes) (λ v at. all_spent items n taken notes seats h all k v at) in
    All-from_recursion (λ (s : Putting). of_viewer s.viewer taken ≡ s.accepted) ss
    (settled_each taken numbered ss ss is parts (their_own ss (recursion_from_All (λ (s : Putting). All (λ (x : Told). x.viewer ≡ s.viewer) s.accepted) ss theirs)) (apart_each ss apart h.apart))

-- ---- the same of what a join has found

pub join_returns : (u v : View) (before left : List Told) (ss : List Putting) (n : ℕ) → u ≡ taker (before ++ left) (map note_of ss) → v ≡ joined n u.taken u.noted → Held 0 (Reached u) → (items : List Told) × Closed v items
    → length ss ≡ n → ViewersApart ss → All (λ (s : Putting). All (λ (x : Told). x.viewer ≡ s.viewer) s.accepted) ss → All (λ (s : Putting). of_viewer s.viewer (before ++ left) ≡ s.accepted) ss
join_returns u v before left ss n is after empty closed all apart theirs =
    let whole : Closed (joined n (before ++ left) (map note_of ss)) closed.0 = subst (λ (y : View). Closed y closed.0) (after ∙ ap (λ (y : View). joined n y.taken y.noted) is) closed.1 in
    let reached : Reached (taker (before ++ left) (map note_of ss)) empty.0 = subst (λ (y : View). Reached y empty.0) is empty.2 in
    let none : length empty.0 ≡ 0 = empty.1 in
    let fewer = reached.1 in
    settled closed.0 n (before ++ left) whole.0 ss whole.1 (omega (arith, none, fewer)) (length-map ss note_of ∙ all) apart theirs

-- ---- and there are no others

noted_sum : (ss : List Putting) → noted_items (map note_of ss) ≡ sum_by (λ (s : Putting). length s.accepted) ss
noted_sum [] = refl
noted_sum (s ∷ ss) = ap (λ n. length s.accepted + n) (noted_sum ss) ∙ sym (sum_by-cons (λ (t : Putting). length t.accepted) s ss)

all_counted : (items : List Told) (n : ℕ) (taken : List Told) (seats : List View) (ss : List Putting) → Keeps items n taken (map note_of ss) seats → noted_items (map note_of ss) ≤ length taken → length (map note_of ss) ≡ n
    → length taken ≡ sum_by (λ (s : Putting). length s.accepted) ss
all_counted items n taken seats ss h fewer all =
    let lengths = h.lengths in
    let light = none_weigh (λ (u : View). length u.accepted) seats (λ k v at. ap (λ (u : View). length u.accepted) (all_spent items n taken (map note_of ss) seats h all k v at)) in
    let same : length taken ≡ noted_items (map note_of ss) = omega (arith, lengths, light, fewer) in
    same ∙ noted_sum ss

pub join_counts : (u v : View) (before left : List Told) (ss : List Putting) (n : ℕ) → u ≡ taker (before ++ left) (map note_of ss) → v ≡ joined n u.taken u.noted → Held 0 (Reached u) → (items : List Told) × Closed v items
    → length ss ≡ n → length (before ++ left) ≡ sum_by (λ (s : Putting). length s.accepted) ss
join_counts u v before left ss n is after empty closed all =
    let whole : Closed (joined n (before ++ left) (map note_of ss)) closed.0 = subst (λ (y : View). Closed y closed.0) (after ∙ ap (λ (y : View). joined n y.taken y.noted) is) closed.1 in
    let reached : Reached (taker (before ++ left) (map note_of ss)) empty.0 = subst (λ (y : View). Reached y empty.0) is empty.2 in
    let none : length empty.0 ≡ 0 = empty.1 in
    let fewer = reached.1 in
    all_counted closed.0 n (before ++ left) whole.0 ss whole.1 (omega (arith, none, fewer)) (length-map ss note_of ∙ all)
