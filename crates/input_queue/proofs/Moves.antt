-- Each kind of step keeps the rule of the queue.
use Rattle.std.proofs.Common.{◌≡◌, ◌≢◌, ◌⊎◌, inl, inr, ⊎_elim, ℕ, zero, suc, ◌+◌, ◌==◌, true, false, true≢false, List, [], ◌∷◌, ◌++◌, length, set, sym, refl, ap, ◌∙◌, subst, append_assoc, ne_eqb, arith}
use Rattle.std.specs.Prelude.{if◌then◌else◌, Result, Ok, Err, MatchResult, All}
use Rattle.std.proofs.lemmas.List.Elements.{All-same, All-push}
use Rattle.std.proofs.lemmas.List.{map-append, append-nil, length-set, length-append}
use Rattle.std.proofs.lemmas.Bool.Decides.{eqb_tells}
use mathlib.Core.Option.{some, none, some-injective, some-ne-none}
use lib.ListN.{get_elem?}
use Rattle.crossbeam_queue.specs.Fifo.{Pushes, Pops, Forks, Merges, Learns}
use Rattle.crossbeam_queue.proofs.Lists.{at_set, set_else, at_longer}
use Rattle.input_queue.specs.declared.Told.{Told}
use Rattle.input_queue.specs.declared.rule.Note.{Note}
use Rattle.input_queue.specs.declared.rule.View.{View}
use Rattle.input_queue.specs.Views.{spent, newcomer, hub, taker, seat, joined}
use Rattle.input_queue.specs.Rule.{those_of, noted_of, known_or, accepted_by, EachNote, seats_in, Keeps, AreHeads, Runs, Holds, Reached, Closed}
use Rattle.input_queue.specs.Ends.{QueuedBeside}
use Rattle.input_queue.proofs.Places.{weigh_set, weigh_snoc, here, those_append, of_seat, each_note}

pub begins : Holds [] (newcomer ∷ [])
begins = inl (refl, refl)

-- ---- where a pass stands among the views

only : (w v : View) (p : ℕ) → get_elem? (w ∷ []) p ≡ some v → (p ≡ 0) × (w ≡ v)
only w v zero at = (refl, some-injective w v at)
only w v (suc p) at = absurd (some-ne-none v (sym at))

-- past the first two
seat_at : (a b : View) (seats : List View) (v : View) (p : ℕ) → a.puts ≡ false → b.puts ≡ false → v.puts ≡ true → get_elem? (a ∷ b ∷ seats) p ≡ some v → (k : ℕ) × (p ≡ suc (suc k)) × (get_elem? seats k ≡ some v)
seat_at a b seats v zero x y z at = absurd (true≢false (sym z ∙ ap (λ (u : View). u.puts) (sym (some-injective a v at)) ∙ x))
seat_at a b seats v (suc zero) x y z at = absurd (true≢false (sym z ∙ ap (λ (u : View). u.puts) (sym (some-injective b v at)) ∙ y))
seat_at a b seats v (suc (suc k)) x y z at = (k, refl, at)

no_puts : (n : ℕ) (taken : List Told) (notes : List Note) (a b : View) → AreHeads n taken notes a b → (a.puts ≡ false) × (b.puts ≡ false)
no_puts n taken notes a b h = ⊎_elim (λ (x : (a ≡ hub n) × (b ≡ taker taken notes)). (ap (λ (u : View). u.puts) x.0, ap (λ (u : View). u.puts) x.1))
    (λ (x : (a ≡ joined n taken notes) × (b ≡ spent)). (ap (λ (u : View). u.puts) x.0, ap (λ (u : View). u.puts) x.1)) h

-- ---- kind 3: a put

pushed_parts : (numbered : List (ℕ × Told)) (notes : List Note) (seats : List View) (k : ℕ) (v w : View) (x : Told) → ((j : ℕ) → those_of j numbered ≡ accepted_by notes seats j)
    → get_elem? seats k ≡ some v → v.puts ≡ true → w.puts ≡ true → w.accepted ≡ v.accepted ++ x ∷ []
    → (j : ℕ) → those_of j (numbered ++ (k, x) ∷ []) ≡ accepted_by notes (set seats k w) j
pushed_parts numbered notes seats k v w x parts at vp wp is j = ⊎_elim
    (λ (e : ((k == j) ≡ true) × (k ≡ j)).
    let new : get_elem? (set seats k w) j ≡ some w = ap (λ i. get_elem? (set seats k w) i) (sym e.1) ∙ here seats k v w at in
    let old : get_elem? seats j ≡ some v = ap (λ i. get_elem? seats i) (sym e.1) ∙ at in
    those_append j numbered ((k, x) ∷ [])
    ∙ ap (λ b. those_of j numbered ++ (if b then x ∷ [] else [])) e.0
    ∙ ap (λ l. l ++ x ∷ []) (parts j ∙ ap (λ o. known_or o (noted_of j notes)) old ∙ of_seat v (noted_of j notes) vp)
    ∙ sym is
    ∙ sym (of_seat w (noted_of j notes) wp)
    ∙ sym (ap (λ o. known_or o (noted_of j notes)) new))
    (λ (e : ((k == j) ≡ false) × (k ≢ j)).
    let same : get_elem? (set seats k w) j ≡ get_elem? seats j = set_else seats k j w (λ i. e.1 (sym i)) in
    those_append j numbered ((k, x) ∷ [])
    ∙ ap (λ b. those_of j numbered ++ (if b then x ∷ [] else [])) e.0
    ∙ append-nil (those_of j numbered)
    ∙ parts j
    ∙ ap (λ o. known_or o (noted_of j notes)) (sym same))
    (eqb_tells k j)

-- a note's seat is another than one that puts
still_spent : (seats : List View) (k : ℕ) (v w : View) (notes : List Note) → get_elem? seats k ≡ some v → v.puts ≡ true → EachNote (λ e. get_elem? seats e.number ≡ some spent) notes → EachNote (λ e. get_elem? (set seats k w) e.number ≡ some spent) notes
still_spent seats k v w notes at vp h = each_note notes (λ e (there : get_elem? seats e.number ≡ some spent).
    let other : e.number ≢ k = λ i. true≢false (sym vp ∙ ap (λ (u : View). u.puts) (some-injective v spent (sym at ∙ ap (λ j. get_elem? seats j) (sym i) ∙ there))) in
    set_else seats k e.number w other ∙ there) h

pushed_numbers : (seats : List View) (k : ℕ) (w : View) → ((j : ℕ) (u : View) → get_elem? seats j ≡ some u → (u ≡ seat j u.accepted) ⊎ (u ≡ spent)) → (w ≡ seat k w.accepted) ⊎ (w ≡ spent)
    → (j : ℕ) (u : View) → get_elem? (set seats k w) j ≡ some u → (u ≡ seat j u.accepted) ⊎ (u ≡ spent)
pushed_numbers seats k w h mine j u at = ⊎_elim
    (λ (e : (j ≡ k) × (w ≡ u)). subst (λ (y : ℕ × View). (y.1 ≡ seat y.0 y.1.accepted) ⊎ (y.1 ≡ spent)) (λ i. (sym e.0 i, e.1 i)) mine)
    (λ (e : (j ≢ k) × (get_elem? seats j ≡ some u)). h j u e.1)
    (at_set seats k j w u at)

-- which seat it is
number_of : (v : View) (k : ℕ) → v.puts ≡ true → (v ≡ seat k v.accepted) ⊎ (v ≡ spent) → v ≡ seat k v.accepted
number_of v k p h = ⊎_elim (λ (e : v ≡ seat k v.accepted). e) (λ (e : v ≡ spent). absurd (true≢false (sym p ∙ ap (λ (u : View). u.puts) e))) h

pub put_keeps : (items : List Told) (n : ℕ) (taken : List Told) (notes : List Note) (seats : List View) (k : ℕ) (v : View) (x : Told) → Keeps items n taken notes seats → get_elem? seats k ≡ some v → v.puts ≡ true
    → Keeps (items ++ x ∷ []) n taken notes (set seats k (record v { accepted = v.accepted ++ x ∷ [] }))
put_keeps items n taken notes seats k v x h at vp =
    let w : View = record v { accepted = v.accepted ++ x ∷ [] } in
    let numbered = h.interleaved.0 in
    let is : v ≡ seat k v.accepted = number_of v k vp (h.numbers k v at) in
    let puts = weigh_set seats_in seats k v w at in
    let lens = weigh_set (λ (u : View). length u.accepted) seats k v w at in
    let counted = h.counted in
    let lengths = h.lengths in
    record {
      interleaved = (numbered ++ (k, x) ∷ [], map-append (λ (y : ℕ × Told). y.1) numbered ((k, x) ∷ []) ∙ ap (λ l. l ++ x ∷ []) h.interleaved.1 ∙ append_assoc taken items (x ∷ []), pushed_parts numbered notes seats k v w x h.interleaved.2 at vp vp refl);
      made = length-set seats k w ∙ h.made;
      numbers = pushed_numbers seats k w h.numbers (inl (ap (λ (u : View). record u { accepted = v.accepted ++ x ∷ [] }) is));
      given_back = still_spent seats k v w notes at vp h.given_back;
      apart = h.apart;
      counted = omega (arith, puts, counted);
      lengths = omega (arith, lens, lengths, length-append v.accepted (x ∷ []), length-append items (x ∷ []));
    }

pub puts : (cap p : ℕ) (v : View) (x : Told) → v.puts ≡ true → Pushes Holds cap p v x (λ w. w ≡ record v { accepted = v.accepted ++ x ∷ [] })
puts cap p v x vp items views room h at =
    let w : View = record v { accepted = v.accepted ++ x ∷ [] } in (
      w,
      ⊎_elim
          (λ (e : (items ≡ []) × (views ≡ newcomer ∷ [])). absurd (true≢false (sym vp ∙ ap (λ (u : View). u.puts) (sym (only newcomer v p (ap (λ l. get_elem? l p) (sym e.1) ∙ at)).1))))
          (λ (r : Runs items views).
          let off = no_puts r.0 r.1 r.2 r.3 r.4 r.7 in
          let s = seat_at r.3 r.4 r.5 v p off.0 off.1 vp (ap (λ l. get_elem? l p) (sym r.6) ∙ at) in
          inr (r.0, r.1, r.2, r.3, r.4, set r.5 s.0 w, (λ i. set (r.6 i) (s.1 i) w), r.7, put_keeps items r.0 r.1 r.2 r.5 s.0 v x r.8 s.2 vp))
          h,
      refl,
    )

-- ---- kind 5: a take

-- only the taker takes, once it is split off
take_at : (n : ℕ) (taken : List Told) (notes : List Note) (a b : View) (seats : List View) (v : View) (p : ℕ) → AreHeads n taken notes a b → ((j : ℕ) (u : View) → get_elem? seats j ≡ some u → (u ≡ seat j u.accepted) ⊎ (u ≡ spent))
    → v.takes ≡ true → get_elem? (a ∷ b ∷ seats) p ≡ some v → (a ≡ hub n) × (p ≡ 1) × (v ≡ taker taken notes)
take_at n taken notes a b seats v zero h each vt at = absurd (true≢false (sym vt ∙ ap (λ (u : View). u.takes) (sym (some-injective a v at))
    ∙ ⊎_elim (λ (x : (a ≡ hub n) × (b ≡ taker taken notes)). ap (λ (u : View). u.takes) x.0) (λ (x : (a ≡ joined n taken notes) × (b ≡ spent)). ap (λ (u : View). u.takes) x.0) h))
take_at n taken notes a b seats v (suc zero) h each vt at = ⊎_elim (λ (x : (a ≡ hub n) × (b ≡ taker taken notes)). (x.0, refl, sym (some-injective b v at) ∙ x.1))
    (λ (x : (a ≡ joined n taken notes) × (b ≡ spent)). absurd (true≢false (sym vt ∙ ap (λ (u : View). u.takes) (sym (some-injective b v at) ∙ x.1)))) h
take_at n taken notes a b seats v (suc (suc k)) h each vt at = absurd (true≢false (sym vt
    ∙ ⊎_elim (λ (x : v ≡ seat k v.accepted). ap (λ (u : View). u.takes) x) (λ (x : v ≡ spent). ap (λ (u : View). u.takes) x) (each k v at)))

take_keeps : (x : Told) (items : List Told) (n : ℕ) (taken : List Told) (notes : List Note) (seats : List View) → Keeps (x ∷ items) n taken notes seats → Keeps items n (taken ++ x ∷ []) notes seats
take_keeps x items n taken notes seats h =
    let lengths = h.lengths in
    record {
      interleaved = (h.interleaved.0, h.interleaved.1 ∙ sym (append_assoc taken (x ∷ []) items), h.interleaved.2);
      made = h.made;
      numbers = h.numbers;
      given_back = h.given_back;
      apart = h.apart;
      counted = h.counted;
      lengths = omega (arith, lengths, length-append taken (x ∷ []));
    }

pub takes : (p : ℕ) (v : View) → v.takes ≡ true → v.makes ≡ false → Pops Holds p v (λ x w. w ≡ record v { taken = v.taken ++ x ∷ [] })
takes p v vt vm x items views h at =
    let w : View = record v { taken = v.taken ++ x ∷ [] } in (
      w,
      ⊎_elim
          (λ (e : (x ∷ items ≡ []) × (views ≡ newcomer ∷ [])). absurd (true≢false (ap (λ (u : View). u.makes) (only newcomer v p (ap (λ l. get_elem? l p) (sym e.1) ∙ at)).1 ∙ vm)))
          (λ (r : Runs (x ∷ items) views).
          let s = take_at r.0 r.1 r.2 r.3 r.4 r.5 v p r.7 r.8.numbers vt (ap (λ l. get_elem? l p) (sym r.6) ∙ at) in
          inr (r.0, r.1 ++ x ∷ [], r.2, r.3, w, r.5, (λ i. set (r.6 i) (s.1 i) w), inl (s.0, ap (λ (u : View). record u { taken = u.taken ++ x ∷ [] }) s.2), take_keeps x items r.0 r.1 r.2 r.5 r.8))
          h,
      refl,
    )

-- ---- kind 1: the taker is split off

pub opens : (p : ℕ) (v : View) → v.makes ≡ true → v.takes ≡ true → Forks Holds p v (hub 0) (taker [] [])
opens p v vm vt items views h at = ⊎_elim
    (λ (e : (items ≡ []) × (views ≡ newcomer ∷ [])).
    let o = only newcomer v p (ap (λ l. get_elem? l p) (sym e.1) ∙ at) in
    let none_held : length items ≡ 0 = ap (λ (l : List Told). length l) e.0 in
    inr (
      0,
      [],
      [],
      hub 0,
      taker [] [],
      [],
      (λ i. set (e.1 i) (o.0 i) (hub 0) ++ taker [] [] ∷ []),
      inl (refl, refl),
      record {
        interleaved = ([], sym e.0, λ k. refl);
        made = refl;
        numbers = λ k u there. absurd (some-ne-none u (sym there));
        given_back = tt;
        apart = tt;
        counted = refl;
        lengths = omega (arith, none_held);
      },
    ))
    (λ (r : Runs items views).
    let s = take_at r.0 r.1 r.2 r.3 r.4 r.5 v p r.7 r.8.numbers vt (ap (λ l. get_elem? l p) (sym r.6) ∙ at) in
    absurd (true≢false (sym vm ∙ ap (λ (u : View). u.makes) s.2)))
    h

-- ---- kind 2: a seat is made

make_at : (n : ℕ) (taken : List Told) (notes : List Note) (a b : View) (seats : List View) (v : View) (p : ℕ) → AreHeads n taken notes a b → ((j : ℕ) (u : View) → get_elem? seats j ≡ some u → (u ≡ seat j u.accepted) ⊎ (u ≡ spent))
    → v.makes ≡ true → get_elem? (a ∷ b ∷ seats) p ≡ some v → (p ≡ 0) × (v ≡ hub n) × (b ≡ taker taken notes)
make_at n taken notes a b seats v zero h each vm at = ⊎_elim (λ (x : (a ≡ hub n) × (b ≡ taker taken notes)). (refl, sym (some-injective a v at) ∙ x.0, x.1))
    (λ (x : (a ≡ joined n taken notes) × (b ≡ spent)). absurd (true≢false (sym vm ∙ ap (λ (u : View). u.makes) (sym (some-injective a v at) ∙ x.0)))) h
make_at n taken notes a b seats v (suc zero) h each vm at = absurd (true≢false (sym vm ∙ ap (λ (u : View). u.makes) (sym (some-injective b v at))
    ∙ ⊎_elim (λ (x : (a ≡ hub n) × (b ≡ taker taken notes)). ap (λ (u : View). u.makes) x.1) (λ (x : (a ≡ joined n taken notes) × (b ≡ spent)). ap (λ (u : View). u.makes) x.1) h))
make_at n taken notes a b seats v (suc (suc k)) h each vm at = absurd (true≢false (sym vm
    ∙ ⊎_elim (λ (x : v ≡ seat k v.accepted). ap (λ (u : View). u.makes) x) (λ (x : v ≡ spent). ap (λ (u : View). u.makes) x) (each k v at)))

snoc_at : (l : List View) (r : View) (j : ℕ) → (get_elem? (l ++ r ∷ []) j ≡ get_elem? l j) ⊎ ((get_elem? l j ≡ none) × (get_elem? (l ++ r ∷ []) j ≡ some r))
snoc_at [] r zero = inr (refl, refl)
snoc_at [] r (suc j) = inl refl
snoc_at (x ∷ xs) r zero = inl refl
snoc_at (x ∷ xs) r (suc j) = snoc_at xs r j

last_at : (l : List View) (r u : View) (j : ℕ) → get_elem? (l ++ r ∷ []) j ≡ some u → (get_elem? l j ≡ some u) ⊎ ((j ≡ length l) × (r ≡ u))
last_at [] r u zero at = inr (refl, some-injective r u at)
last_at [] r u (suc j) at = absurd (some-ne-none u (sym at))
last_at (x ∷ xs) r u zero at = inl at
last_at (x ∷ xs) r u (suc j) at = ⊎_elim (λ t. inl t) (λ (t : (j ≡ length xs) × (r ≡ u)). inr (ap suc t.0, t.1)) (last_at xs r u j at)

-- nothing is noted of a seat that is not there
noted_nowhere : (seats : List View) (j : ℕ) (notes : List Note) → get_elem? seats j ≡ none → EachNote (λ e. get_elem? seats e.number ≡ some spent) notes → noted_of j notes ≡ []
noted_nowhere seats j [] away h = refl
noted_nowhere seats j (e ∷ es) away h = ⊎_elim
    (λ (x : ((e.number == j) ≡ true) × (e.number ≡ j)). absurd (some-ne-none spent (sym h.0 ∙ ap (λ i. get_elem? seats i) x.1 ∙ away)))
    (λ (x : ((e.number == j) ≡ false) × (e.number ≢ j)). ap (λ b. if b then e.accepted else noted_of j es) x.0 ∙ noted_nowhere seats j es away h.1)
    (eqb_tells e.number j)

make_keeps : (items : List Told) (n : ℕ) (taken : List Told) (notes : List Note) (seats : List View) → Keeps items n taken notes seats → Keeps items (n + 1) taken notes (seats ++ seat n [] ∷ [])
make_keeps items n taken notes seats h =
    let new : View = seat n [] in
    let made = h.made in
    let counted = h.counted in
    let lengths = h.lengths in
    record {
      interleaved = (
        h.interleaved.0,
        h.interleaved.1,
        λ j. h.interleaved.2 j ∙ ⊎_elim
            (λ (e : get_elem? (seats ++ new ∷ []) j ≡ get_elem? seats j). ap (λ o. known_or o (noted_of j notes)) (sym e))
            (λ (e : (get_elem? seats j ≡ none) × (get_elem? (seats ++ new ∷ []) j ≡ some new)).
            ap (λ o. known_or o (noted_of j notes)) e.0 ∙ noted_nowhere seats j notes e.0 h.given_back ∙ sym (ap (λ o. known_or o (noted_of j notes)) e.1))
            (snoc_at seats new j),
      );
      made = omega (arith, made, length-append seats (new ∷ []));
      numbers = λ j u at. ⊎_elim (λ (e : get_elem? seats j ≡ some u). h.numbers j u e)
          (λ (e : (j ≡ length seats) × (new ≡ u)). inl (sym e.1 ∙ ap (λ k. seat k []) (sym (e.0 ∙ made)) ∙ ap (λ (y : View). seat j y.accepted) e.1)) (last_at seats new u j at);
      given_back = each_note notes (λ e (there : get_elem? seats e.number ≡ some spent). at_longer seats (new ∷ []) e.number spent there) h.given_back;
      apart = h.apart;
      counted = omega (arith, counted, weigh_snoc seats_in seats new);
      lengths = omega (arith, lengths, weigh_snoc (λ (u : View). length u.accepted) seats new);
    }

pub makes : (p : ℕ) (v : View) → v.makes ≡ true → v.takes ≡ false → Forks Holds p v (hub (v.number + 1)) (seat v.number [])
makes p v vm vt items views h at = ⊎_elim
    (λ (e : (items ≡ []) × (views ≡ newcomer ∷ [])). absurd (true≢false (ap (λ (u : View). u.takes) (only newcomer v p (ap (λ l. get_elem? l p) (sym e.1) ∙ at)).1 ∙ vt)))
    (λ (r : Runs items views).
    let s = make_at r.0 r.1 r.2 r.3 r.4 r.5 v p r.7 r.8.numbers vm (ap (λ l. get_elem? l p) (sym r.6) ∙ at) in
    let number : v.number ≡ r.0 = ap (λ (u : View). u.number) s.1 in
    inr (r.0 + 1, r.1, r.2, hub (r.0 + 1), r.4, r.5 ++ seat r.0 [] ∷ [], (λ i. set (r.6 i) (s.0 i) (hub (number i + 1)) ++ seat (number i) [] ∷ []), inl (refl, s.2), make_keeps items r.0 r.1 r.2 r.5 r.8))
    h

-- ---- kind 7: a seat is given back

back_keeps : (items : List Told) (n : ℕ) (taken : List Told) (notes : List Note) (seats : List View) (k : ℕ) (w : View) → Keeps items n taken notes seats → get_elem? seats k ≡ some w → w.puts ≡ true
    → Keeps items n taken (record { number = w.number; accepted = w.accepted } ∷ notes) (set seats k spent)
back_keeps items n taken notes seats k w h at wp =
    let note : Note = record { number = w.number; accepted = w.accepted } in
    let is : w ≡ seat k w.accepted = number_of w k wp (h.numbers k w at) in
    let number : w.number ≡ k = ap (λ (u : View). u.number) is in
    let counted = h.counted in
    let lengths = h.lengths in
    let one : seats_in w ≡ 1 = ap (λ b. if b then 1 else 0) wp in
    let puts = weigh_set seats_in seats k w spent at in
    let lens = weigh_set (λ (u : View). length u.accepted) seats k w spent at in
    record {
      interleaved = (
        h.interleaved.0,
        h.interleaved.1,
        λ j. h.interleaved.2 j ∙ ⊎_elim
            (λ (e : ((w.number == j) ≡ true) × (w.number ≡ j)).
            let place : k ≡ j = sym number ∙ e.1 in
            ap (λ o. known_or o (noted_of j notes)) (ap (λ i. get_elem? seats i) (sym place) ∙ at) ∙ of_seat w (noted_of j notes) wp
            ∙ sym (ap (λ b. if b then w.accepted else noted_of j notes) e.0)
            ∙ sym (ap (λ o. known_or o (noted_of j (note ∷ notes))) (ap (λ i. get_elem? (set seats k spent) i) (sym place) ∙ here seats k w spent at)))
            (λ (e : ((w.number == j) ≡ false) × (w.number ≢ j)).
            ap (λ o. known_or o (noted_of j notes)) (sym (set_else seats k j spent (λ i. e.1 (number ∙ sym i))))
            ∙ ap (λ l. known_or (get_elem? (set seats k spent) j) l) (sym (ap (λ b. if b then w.accepted else noted_of j notes) e.0)))
            (eqb_tells w.number j),
      );
      made = length-set seats k spent ∙ h.made;
      numbers = pushed_numbers seats k spent h.numbers (inr refl);
      given_back = (ap (λ i. get_elem? (set seats k spent) i) number ∙ here seats k w spent at, still_spent seats k w spent notes at wp h.given_back);
      apart = (each_note notes (λ e (there : get_elem? seats e.number ≡ some spent). ne_eqb e.number w.number (λ i. true≢false (sym wp ∙ ap (λ (u : View). u.puts) (some-injective w spent (sym at ∙ ap (λ j. get_elem? seats j) (sym (i ∙ number)) ∙ there))))) h.given_back, h.apart);
      counted = omega (arith, puts, counted, one);
      lengths = omega (arith, lens, lengths);
    }

-- the other pass stood there before
was_at : (views : List View) (p q : ℕ) (both w : View) → ((q ≡ p) → ⊥) → get_elem? (set views p both) q ≡ some w → get_elem? views q ≡ some w
was_at views p q both w two at = sym (set_else views p q both two) ∙ at

pub gives_back : (p : ℕ) (v : View) (q : ℕ) (w : View) → v.takes ≡ true → v.makes ≡ false → w.puts ≡ true → Merges Holds p v q w (record v { noted = record { number = w.number; accepted = w.accepted } ∷ v.noted }) spent
gives_back p v q w vt vm wp items views h at two at' =
    let both : View = record v { noted = record { number = w.number; accepted = w.accepted } ∷ v.noted } in
    ⊎_elim
    (λ (e : (items ≡ []) × (views ≡ newcomer ∷ [])). absurd (true≢false (ap (λ (u : View). u.makes) (only newcomer v p (ap (λ l. get_elem? l p) (sym e.1) ∙ at)).1 ∙ vm)))
    (λ (r : Runs items views).
    let s = take_at r.0 r.1 r.2 r.3 r.4 r.5 v p r.7 r.8.numbers vt (ap (λ l. get_elem? l p) (sym r.6) ∙ at) in
    let off = no_puts r.0 r.1 r.2 r.3 r.4 r.7 in
    let o = seat_at r.3 r.4 r.5 w q off.0 off.1 wp (ap (λ l. get_elem? l q) (sym r.6) ∙ was_at views p q both w two at') in
    inr (
      r.0,
      r.1,
      record { number = w.number; accepted = w.accepted } ∷ r.2,
      r.3,
      both,
      set r.5 o.0 spent,
      (λ i. set (set (r.6 i) (s.1 i) both) (o.1 i) spent),
      inl (s.0, ap (λ (u : View). record u { noted = record { number = w.number; accepted = w.accepted } ∷ u.noted }) s.2),
      back_keeps items r.0 r.1 r.2 r.5 o.0 w r.8 o.2 wp,
    ))
    h

-- ---- kind 8: the taker is given back

pub joins : (p : ℕ) (v : View) (q : ℕ) (w : View) → v.makes ≡ true → v.takes ≡ false → w.takes ≡ true → Merges Holds p v q w (joined v.number w.taken w.noted) spent
joins p v q w vm vt wt items views h at two at' =
    let both : View = joined v.number w.taken w.noted in
    ⊎_elim
    (λ (e : (items ≡ []) × (views ≡ newcomer ∷ [])). absurd (true≢false (ap (λ (u : View). u.takes) (only newcomer v p (ap (λ l. get_elem? l p) (sym e.1) ∙ at)).1 ∙ vt)))
    (λ (r : Runs items views).
    let s = make_at r.0 r.1 r.2 r.3 r.4 r.5 v p r.7 r.8.numbers vm (ap (λ l. get_elem? l p) (sym r.6) ∙ at) in
    let o = take_at r.0 r.1 r.2 r.3 r.4 r.5 w q r.7 r.8.numbers wt (ap (λ l. get_elem? l q) (sym r.6) ∙ was_at views p q both w two at') in
    inr (
      r.0,
      r.1,
      r.2,
      both,
      spent,
      r.5,
      (λ i. set (set (r.6 i) (s.0 i) both) (o.1 i) spent),
      inr ((λ i. joined (s.1 i).number (o.2 i).taken (o.2 i).noted), refl),
      r.8,
    ))
    h

-- ---- what the passes learn

pub learns_held : (p : ℕ) (v : View) → v.puts ≡ true → Learns Holds p v (λ items. QueuedBeside v.number v.accepted items)
learns_held p v vp items views h at = ⊎_elim
    (λ (e : (items ≡ []) × (views ≡ newcomer ∷ [])). absurd (true≢false (sym vp ∙ ap (λ (u : View). u.puts) (sym (only newcomer v p (ap (λ l. get_elem? l p) (sym e.1) ∙ at)).1))))
    (λ (r : Runs items views).
    let off = no_puts r.0 r.1 r.2 r.3 r.4 r.7 in
    let s = seat_at r.3 r.4 r.5 v p off.0 off.1 vp (ap (λ l. get_elem? l p) (sym r.6) ∙ at) in
    let number : v.number ≡ s.0 = ap (λ (u : View). u.number) (number_of v s.0 vp (r.8.numbers s.0 v s.2)) in
    (r.1, accepted_by r.2 r.5, ap (λ k. accepted_by r.2 r.5 k) number ∙ ap (λ o. known_or o (noted_of s.0 r.2)) s.2 ∙ of_seat v (noted_of s.0 r.2) vp, r.8.interleaved))
    h

pub learns_reached : (p : ℕ) (v : View) → v.takes ≡ true → v.makes ≡ false → Learns Holds p v (Reached v)
learns_reached p v vt vm items views h at = ⊎_elim
    (λ (e : (items ≡ []) × (views ≡ newcomer ∷ [])). absurd (true≢false (ap (λ (u : View). u.makes) (only newcomer v p (ap (λ l. get_elem? l p) (sym e.1) ∙ at)).1 ∙ vm)))
    (λ (r : Runs items views).
    let s = take_at r.0 r.1 r.2 r.3 r.4 r.5 v p r.7 r.8.numbers vt (ap (λ l. get_elem? l p) (sym r.6) ∙ at) in
    let lengths = r.8.lengths in
    let fact : Reached (taker r.1 r.2) items = ((accepted_by r.2 r.5, r.8.interleaved), omega (arith, lengths)) in
    subst (λ (u : View). Reached u items) (sym s.2) fact)
    h

closed_at : (n : ℕ) (taken : List Told) (notes : List Note) (a b : View) (seats : List View) (v : View) (p : ℕ) → AreHeads n taken notes a b → ((j : ℕ) (u : View) → get_elem? seats j ≡ some u → (u ≡ seat j u.accepted) ⊎ (u ≡ spent))
    → v.joined ≡ true → get_elem? (a ∷ b ∷ seats) p ≡ some v → v ≡ joined n taken notes
closed_at n taken notes a b seats v zero h each vj at = ⊎_elim (λ (x : (a ≡ hub n) × (b ≡ taker taken notes)). absurd (true≢false (sym vj ∙ ap (λ (u : View). u.joined) (sym (some-injective a v at) ∙ x.0))))
    (λ (x : (a ≡ joined n taken notes) × (b ≡ spent)). sym (some-injective a v at) ∙ x.0) h
closed_at n taken notes a b seats v (suc zero) h each vj at = absurd (true≢false (sym vj ∙ ap (λ (u : View). u.joined) (sym (some-injective b v at))
    ∙ ⊎_elim (λ (x : (a ≡ hub n) × (b ≡ taker taken notes)). ap (λ (u : View). u.joined) x.1) (λ (x : (a ≡ joined n taken notes) × (b ≡ spent)). ap (λ (u : View). u.joined) x.1) h))
closed_at n taken notes a b seats v (suc (suc k)) h each vj at = absurd (true≢false (sym vj
    ∙ ⊎_elim (λ (x : v ≡ seat k v.accepted). ap (λ (u : View). u.joined) x) (λ (x : v ≡ spent). ap (λ (u : View). u.joined) x) (each k v at)))

pub learns_closed : (p : ℕ) (v : View) → v.joined ≡ true → Learns Holds p v (Closed v)
learns_closed p v vj items views h at = ⊎_elim
    (λ (e : (items ≡ []) × (views ≡ newcomer ∷ [])). absurd (true≢false (sym vj ∙ ap (λ (u : View). u.joined) (sym (only newcomer v p (ap (λ l. get_elem? l p) (sym e.1) ∙ at)).1))))
    (λ (r : Runs items views).
    let s = closed_at r.0 r.1 r.2 r.3 r.4 r.5 v p r.7 r.8.numbers vj (ap (λ l. get_elem? l p) (sym r.6) ∙ at) in
    subst (λ (u : View). Closed u items) (sym s) (r.5, r.8))
    h

-- ---- what an end's invariant needs

-- a seat stays that seat, whatever a put answered
pub seat_kept : (r : Result (Unit {0}) Told) (x : Told) (v w : View) (viewer : ℕ) (F : Told → Type 0) → MatchResult r (λ _. w ≡ record v { accepted = v.accepted ++ x ∷ [] }) (λ y. (y ≡ x) × (w ≡ v) × F y)
    → v ≡ seat v.number v.accepted → x.viewer ≡ viewer → All (λ t. t.viewer ≡ viewer) v.accepted → (w ≡ seat w.number w.accepted) × All (λ t. t.viewer ≡ viewer) w.accepted
seat_kept (Ok u) x v w viewer F told is of all = (
  told ∙ ap (λ (y : View). record y { accepted = v.accepted ++ x ∷ [] }) is ∙ sym (ap (λ (y : View). seat y.number y.accepted) told),
  All-same (λ t. t.viewer ≡ viewer) w.accepted (v.accepted ++ x ∷ []) (ap (λ (y : View). y.accepted) told) (All-push (λ t. t.viewer ≡ viewer) v.accepted x all of),
)
seat_kept (Err e) x v w viewer F told is of all = subst (λ (y : View). (y ≡ seat y.number y.accepted) × All (λ t. t.viewer ≡ viewer) y.accepted) (sym told.1) (is, all)
