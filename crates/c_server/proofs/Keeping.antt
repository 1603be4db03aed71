-- What is kept of what came.
use Rattle.std.proofs.Common.{◌≡◌, ◌+◌, ◌-◌, ◌^◌, ◌≤◌, ◌<◌, ℕ, Bool, true, false, List, [], ◌∷◌, ◌++◌, length, take, Result, Ok, Err, refl, sym, ap, ◌∙◌, inl, inr, subst, arith}
use Rattle.std.specs.Prelude.{◌⊎◌, min, nat_lt, is_ok, OnOk, OnErr}
use Rattle.std.proofs.lemmas.Bool.{ltb-true, ltb-false}
use Rattle.std.specs.declared.alloc.AllocError.{AllocError}
use Rattle.std.proofs.lemmas.List.{length-append, length-take, take_all, take-append-le}
use Rattle.screen.specs.declared.Input.{Input}
use Rattle.c_server.specs.declared.visits.Visit.{Visit}
use Rattle.c_server.specs.Visits.{IsVisit, AreVisits}
use Rattle.c_server.specs.Desk.{IsPartOf, has_text, text_size}
use Rattle.c_server.specs.Gathering.{IsPut, IsPutOrLost, IsKept}

part-more : {X : Type 0} (kept all : List X) (x : X) → IsPartOf kept all → IsPartOf (kept ++ x ∷ []) (all ++ x ∷ [])
part-more [] [] x h = inl (refl, tt)
part-more [] (y ∷ all) x h = inr (part-more [] all x tt)
part-more (k ∷ kept) [] x h = absurd h
part-more (k ∷ kept) (y ∷ all) x (inl h) = inl (h.0, part-more kept all x h.1)
part-more (k ∷ kept) (y ∷ all) x (inr h) = inr (part-more (k ∷ kept) all x h)

part-less : {X : Type 0} (kept all : List X) (x : X) → IsPartOf kept all → IsPartOf kept (all ++ x ∷ [])
part-less [] all x h = tt
part-less (k ∷ kept) [] x h = absurd h
part-less (k ∷ kept) (y ∷ all) x (inl h) = inl (h.0, part-less kept all x h.1)
part-less (k ∷ kept) (y ∷ all) x (inr h) = inr (part-less (k ∷ kept) all x h)

-- ---- an input

-- it is kept
kept-more : (came kept kept' : List (ℕ × Input)) (visits : List Visit) (room lost lost' : ℕ) (x : ℕ × Input) → kept' ≡ kept ++ x ∷ [] → lost' ≡ lost → IsKept came kept visits room lost → IsKept (came ++ x ∷ []) kept' visits room lost'
kept-more came kept kept' visits room lost lost' x is same h =
    subst (λ (k : List (ℕ × Input)). IsKept (came ++ x ∷ []) k visits room lost') (sym is) (record {
      part = part-more kept came x h.part;
      all = h.all;
      are = h.are;
      first = h.first;
      room_is = h.room_is;
      counted = λ few. let before = h.counted (omega (arith, same, few)) in omega (arith, same, before, length-append came (x ∷ []), length-append kept (x ∷ []));
    })

-- it is lost
kept-less : (came kept kept' : List (ℕ × Input)) (visits : List Visit) (room lost lost' : ℕ) (x : ℕ × Input) → kept' ≡ kept → lost' ≡ min (lost + 1) (2 ^ 64 - 1) → IsKept came kept visits room lost → IsKept (came ++ x ∷ []) kept' visits room lost'
kept-less came kept kept' visits room lost lost' x is one h =
    subst (λ (k : List (ℕ × Input)). IsKept (came ++ x ∷ []) k visits room lost') (sym is) (record {
      part = part-less kept came x h.part;
      all = h.all;
      are = h.are;
      first = h.first;
      room_is = h.room_is;
      counted = λ few. let before = h.counted (omega (arith, one, few)) in omega (arith, one, few, before, length-append came (x ∷ []));
    })

-- it is kept where it can be
pub input-kept : (came kept kept' kept'' : List (ℕ × Input)) (visits visits' : List Visit) (room room' lost mid lost' : ℕ) (x : ℕ × Input) (r : Result (Unit {0}) AllocError) (b : Bool) → b ≡ is_ok r → OnOk r (kept' ≡ kept ++ x ∷ []) → OnErr r (kept' ≡ kept) → mid ≡ lost → kept'' ≡ kept'
    → (b ≡ true → lost' ≡ mid) → (b ≡ false → lost' ≡ min (mid + 1) (2 ^ 64 - 1)) → visits' ≡ visits → room' ≡ room → IsKept came kept visits room lost → IsKept (came ++ x ∷ []) kept'' visits' room' lost'
input-kept came kept kept' kept'' visits visits' room room' lost mid lost' x r b is fine refused same still whole short visits_are room_is h =
    subst (λ (v : List Visit). IsKept (came ++ x ∷ []) kept'' v room' lost') (sym visits_are) (subst (λ (n : ℕ). IsKept (came ++ x ∷ []) kept'' visits n lost') (sym room_is) (kept_by r is fine refused))
  where
    kept_by : (r : Result (Unit {0}) AllocError) → b ≡ is_ok r → OnOk r (kept' ≡ kept ++ x ∷ []) → OnErr r (kept' ≡ kept) → IsKept (came ++ x ∷ []) kept'' visits room lost'
    kept_by (Ok u) is fine refused = kept-more came kept kept'' visits room lost lost' x (still ∙ fine) (whole is ∙ same) h
    kept_by (Err e) is fine refused = kept-less came kept kept'' visits room lost lost' x (still ∙ refused) (short is ∙ ap (λ n. min (n + 1) (2 ^ 64 - 1)) same) h

-- so it is put behind those that are there, or lost
pub input-put : (old mid new : List (ℕ × Input)) (room_old room_mid room_new lost_old lost_mid lost_new : ℕ) (x : ℕ × Input) (r : Result (Unit {0}) AllocError) (b : Bool) → b ≡ is_ok r → OnOk r (mid ≡ old ++ x ∷ []) → OnOk r (room_mid + text_size x.1 ≡ room_old) → OnErr r (mid ≡ old) → OnErr r (room_mid ≡ room_old)
    → lost_mid ≡ lost_old → new ≡ mid → room_new ≡ room_mid → (b ≡ true → lost_new ≡ lost_mid) → (b ≡ false → lost_new ≡ min (lost_mid + 1) (2 ^ 64 - 1)) → IsPutOrLost x old new room_old room_new lost_old lost_new
input-put old mid new room_old room_mid room_new lost_old lost_mid lost_new x (Ok u) b is put room refused stays same new_is room_is whole short = inl (new_is ∙ put, ap (λ n. n + text_size x.1) room_is ∙ room, whole is ∙ same)
input-put old mid new room_old room_mid room_new lost_old lost_mid lost_new x (Err e) b is put room refused stays same new_is room_is whole short = inr (new_is ∙ refused, room_is ∙ stays, short is ∙ ap (λ n. min (n + 1) (2 ^ 64 - 1)) same)

-- what is no text is put while there is room in the queue
pub input-fits : (old mid new : List (ℕ × Input)) (size room : ℕ) (x : ℕ × Input) (r : Result (Unit {0}) AllocError) → OnOk r (mid ≡ old ++ x ∷ []) → OnErr r (has_text x.1 ≡ false → room ≤ size) → new ≡ mid → has_text x.1 ≡ false → size < room → new ≡ old ++ x ∷ []
input-fits old mid new size room x (Ok u) put full new_is none fits = new_is ∙ put
input-fits old mid new size room x (Err e) put full new_is none fits = absurd (omega (full none, fits, arith))

-- ---- who came and went

visits-more : (all : List Visit) (visit : Visit) → AreVisits all → IsVisit visit → AreVisits (all ++ visit ∷ [])
visits-more [] visit are is = (is, tt)
visits-more (one ∷ all) visit are is = (are.0, visits-more all visit are.1 is)

-- one more is put behind the others, or counted
pub visit-put : (visit : Visit) (old mid new : List Visit) (room lost_old lost_mid lost_new : ℕ) (b : Bool) → (b ≡ true → length old < 1024) → (b ≡ false → 1024 ≤ room → 1024 ≤ length old) → (b ≡ true → mid ≡ old ++ visit ∷ []) → (b ≡ false → mid ≡ old) → new ≡ mid
    → lost_mid ≡ lost_old → (b ≡ true → lost_new ≡ lost_mid) → (b ≡ false → lost_new ≡ min (lost_mid + 1) (2 ^ 64 - 1)) → 1024 ≤ room → IsPut visit old new lost_old lost_new
visit-put visit old mid new room lost_old lost_mid lost_new true few full put refused new_is same whole short fits = record {
  put = λ less. (new_is ∙ put refl, whole refl ∙ same);
  lost = λ more. absurd (omega (few refl, more, arith));
}
visit-put visit old mid new room lost_old lost_mid lost_new false few full put refused new_is same whole short fits = record {
  put = λ less. absurd (omega (full refl fits, less, arith));
  lost = λ more. (new_is ∙ refused refl, short refl ∙ ap (λ n. min (n + 1) (2 ^ 64 - 1)) same);
}

less-or-more : (n : ℕ) → (n < 1024) ⊎ (1024 ≤ n)
less-or-more n = decided (nat_lt n 1024) refl
  where
    decided : (b : Bool) → nat_lt n 1024 ≡ b → (n < 1024) ⊎ (1024 ≤ n)
    decided true is = inl (ltb-true n 1024 is)
    decided false is = inr (ltb-false n 1024 is)

-- so the first 1,024 are kept
pub visit-kept : (came kept kept' : List (ℕ × Input)) (visits visits' : List Visit) (room room' lost lost' : ℕ) (visit : Visit) → kept' ≡ kept → (1024 ≤ room → IsPut visit visits visits' lost lost') → room ≤ room' → IsVisit visit → IsKept came kept visits room lost → IsKept came kept' visits' room' lost'
visit-kept came kept kept' visits visits' room room' lost lost' visit same puts more is_visit h =
    subst (λ (k : List (ℕ × Input)). IsKept came k visits' room' lost') (sym same) (record {
      part = h.part;
      all = h.all ++ visit ∷ [];
      are = visits-more h.all visit h.are is_visit;
      first = first_are (less-or-more (length visits));
      room_is = omega (h.room_is, more, arith);
      counted = λ few. all_counted few (less-or-more (length visits));
    })
  where
    step : IsPut visit visits visits' lost lost'
    step = puts h.room_is

    count : length visits ≡ min 1024 (length h.all)
    count = ap (λ (l : List Visit). length l) h.first ∙ length-take 1024 h.all

    one : length (h.all ++ visit ∷ []) ≡ length h.all + 1
    one = length-append h.all (visit ∷ [])

    first_are : (length visits < 1024) ⊎ (1024 ≤ length visits) → visits' ≡ take 1024 (h.all ++ visit ∷ [])
    first_are (inl few) =
        let all_is : visits ≡ h.all = h.first ∙ take_all 1024 h.all (omega (count, few, arith)) in
        (step.put few).0 ∙ (ap (λ (l : List Visit). l ++ visit ∷ []) all_is ∙ sym (take_all 1024 (h.all ++ visit ∷ []) (omega (count, few, one, arith))))
    first_are (inr full) = (step.lost full).0 ∙ (h.first ∙ sym (take-append-le 1024 h.all (visit ∷ []) (omega (count, full, arith))))

    all_counted : lost' < 2 ^ 64 - 1 → (length visits < 1024) ⊎ (1024 ≤ length visits) → lost' + length kept ≡ length came + (length (h.all ++ visit ∷ []) - 1024)
    all_counted few (inl less) = let same_lost = (step.put less).1 in let before = h.counted (omega (same_lost, few, arith)) in omega (same_lost, before, count, less, one, arith)
    all_counted few (inr full) = let more_lost = (step.lost full).1 in let before = h.counted (omega (more_lost, few, arith)) in omega (more_lost, few, before, count, full, one, arith)

pub nothing-kept : (kept : List (ℕ × Input)) (visits : List Visit) (room room' lost : ℕ) → kept ≡ [] → visits ≡ [] → lost ≡ 0 → room' ≡ room → 1024 ≤ room → IsKept [] kept visits room' lost
nothing-kept kept visits room room' lost none nobody nothing same fits =
    subst (λ (k : List (ℕ × Input)). IsKept [] k visits room' lost) (sym none) (record {
      part = tt;
      all = [];
      are = tt;
      first = nobody ∙ sym (take_all 1024 [] (omega arith));
      room_is = omega (same, fits, arith);
      counted = λ few. omega (nothing, arith);
    })
