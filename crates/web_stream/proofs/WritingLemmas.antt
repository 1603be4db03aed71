-- What writes below do to the payloads that were written.
use Rattle.std.proofs.Common.{◌≡◌, ℕ, zero, suc, ◌+◌, ◌-◌, ◌^◌, ◌<◌, ◌≤◌, Bool, true, false, cond, ◌&&◌, eqb, leb, List, [], ◌∷◌, ◌++◌, length, take, drop, Option, None, Some, unwrap_or, Result, Ok, Err, OnOk, refl, sym, ap, subst, ◌∙◌, append_assoc, append-nil, eq-eqb, eqb-true, leb-false, le_of_lt, arith}
use Rattle.std.specs.Bool.{⊤}
use Rattle.std.proofs.lemmas.Bool.{le-leb, leb-true, cond-true}
use Rattle.std.proofs.lemmas.List.{length-append, length-take-le, drop-append-le, drop_all, nil_from_length, take-take}
use Rattle.std.proofs.KnownBytes.{Keeps-refl, Keeps-trans, Appends-trans}
use Rattle.std.specs.Io.KnownBytes.{Keeps, Appends, WriteAppends}
use Rattle.web_stream.specs.declared.inward.Inward.{Inward}
use Rattle.web_stream.specs.declared.stream.WebStream.{WebStream}
use Rattle.web_stream.specs.Answers.{data_head, IsControlFrame}
use Rattle.web_stream.specs.Standing.{reading_of}
use Rattle.web_stream.specs.Stream.{own_bytes}
use Rattle.web_stream.specs.Writing.{Writing, before, placed, carried, stands, known_payloads}
use Rattle.web_stream.proofs.Heads.{placed_append, carried_append, placed_payload, carried_payload, Begins, control_begins, data_begins}

-- ---- the test whether the bytes stand as they are to

pub record Stands (begun : ℕ) (own : List ℕ) (owed : ℕ) (bs : List ℕ) : Type 0 where
  pub within : begun ≤ length bs
  pub place : placed (before 0) (drop begun bs ++ own) ≡ before owed
  pub none : carried (placed (before 0) (drop begun bs)) own ≡ []

both_true : (a b : Bool) → (a && b) ≡ true → (a ≡ true) × (b ≡ true)
both_true true true e = (refl, refl)
both_true true false e = cc
both_true false true e = cc
both_true false false e = cc

and_true : (a b : Bool) → a ≡ true → b ≡ true → (a && b) ≡ true
and_true a b e h = ap (λ (t : Bool). t && b) e ∙ h

by_parts : (w : Writing) (left : ℕ) → w.head ≡ [] → w.left ≡ left → w ≡ before left
by_parts w left h n =
    let first : w ≡ record { head = []; left = w.left } =
    ap (λ (l : List ℕ). let v : Writing = record { head = l; left = w.left } in v) h in
    first ∙ ap before n

stands_tells : (begun : ℕ) (own : List ℕ) (owed : ℕ) (bs : List ℕ) → stands begun own owed bs ≡ true → Stands begun own owed bs
stands_tells begun own owed bs e =
    let w : Writing = placed (before 0) (drop begun bs ++ own) in
    let more : List ℕ = carried (placed (before 0) (drop begun bs)) own in
    let all = both_true (leb begun (length bs) && eqb (length w.head) 0 && eqb w.left owed) (eqb (length more) 0) e in
    let outer = both_true (leb begun (length bs) && eqb (length w.head) 0) (eqb w.left owed) all.0 in
    let inner = both_true (leb begun (length bs)) (eqb (length w.head) 0) outer.0 in
    record {
      within = leb-true begun (length bs) inner.0;
      place = by_parts w owed (nil_from_length w.head (eqb-true (length w.head) 0 inner.1)) (eqb-true w.left owed outer.1);
      none = nil_from_length more (eqb-true (length more) 0 all.1);
    }

stands_from : (begun : ℕ) (own : List ℕ) (owed : ℕ) (bs : List ℕ) → Stands begun own owed bs → stands begun own owed bs ≡ true
stands_from begun own owed bs h =
    let w : Writing = placed (before 0) (drop begun bs ++ own) in
    let more : List ℕ = carried (placed (before 0) (drop begun bs)) own in
    and_true (leb begun (length bs) && eqb (length w.head) 0 && eqb w.left owed) (eqb (length more) 0)
    (and_true (leb begun (length bs) && eqb (length w.head) 0) (eqb w.left owed)
    (and_true (leb begun (length bs)) (eqb (length w.head) 0) (le-leb begun (length bs) h.within)
    (eq-eqb (length w.head) 0 (ap (λ (v : Writing). length v.head) h.place)))
    (eq-eqb w.left owed (ap (λ (v : Writing). v.left) h.place)))
    (eq-eqb (length more) 0 (ap (λ (l : List ℕ). length l) h.none))

-- what is the server's own carries nothing
same_payload : (begun : ℕ) (own : List ℕ) (owed : ℕ) (bs : List ℕ) → Stands begun own owed bs
    → carried (before 0) (drop begun bs ++ own) ≡ carried (before 0) (drop begun bs)
same_payload begun own owed bs h =
    carried_append (before 0) (drop begun bs) own
    ∙ ap (λ (l : List ℕ). carried (before 0) (drop begun bs) ++ l) h.none ∙ append-nil (carried (before 0) (drop begun bs))

known_from : (begun : ℕ) (own : List ℕ) (owed : ℕ) (bs : List ℕ) → Stands begun own owed bs
    → known_payloads begun own owed (Some bs) ≡ Some (carried (before 0) (drop begun bs ++ own))
known_from begun own owed bs h =
    cond-true (stands begun own owed bs) (Some (carried (before 0) (drop begun bs))) None (stands_from begun own owed bs h)
    ∙ ap (λ (l : List ℕ). let o : Option (List ℕ) = Some l in o) (sym (same_payload begun own owed bs h))

pub is_nil : (xs : List ℕ) → eqb (length xs) 0 ≡ true → xs ≡ []
is_nil xs e = nil_from_length xs (eqb-true (length xs) 0 e)

-- ---- a new stream

pub nothing_yet : (begun : ℕ) (known : Option (List ℕ)) (bs : List ℕ) → known ≡ Some bs → length bs ≡ begun
    → known_payloads begun [] 0 known ≡ Some []
nothing_yet begun known bs e long =
    let none : drop begun bs ≡ [] = drop_all begun bs (omega arith) in
    let place : placed (before 0) (drop begun bs ++ []) ≡ before 0 = ap (λ (l : List ℕ). placed (before 0) (l ++ [])) none in
    let h : Stands begun [] 0 bs = record { within = omega arith; place = place; none = refl } in
    ap (known_payloads begun [] 0) e ∙ known_from begun [] 0 bs h ∙ ap (λ (l : List ℕ). Some (carried (before 0) (l ++ []))) none

-- ---- bytes are taken below: first of what is the server's own, and then of the payload

take_nil : (n : ℕ) → take {A = ℕ} n [] ≡ []
take_nil zero = refl
take_nil (suc n) = refl

split_taken : (own part : List ℕ) (n : ℕ) → take n (own ++ part) ++ drop n own ≡ own ++ take (n - length own) part
split_taken own part zero =
    let e : 0 ≡ 0 - length own = omega arith in sym (append-nil own) ∙ ap (λ (k : ℕ). own ++ take k part) e
split_taken [] part (suc n) =
    let e : suc n ≡ suc n - 0 = omega arith in append-nil (take (suc n) part) ∙ ap (λ (k : ℕ). take k part) e
split_taken (x ∷ own) part (suc n) =
    let e : n - length own ≡ suc n - length (x ∷ own) = omega arith in
    ap (λ (l : List ℕ). x ∷ l) (split_taken own part n ∙ ap (λ (k : ℕ). own ++ take k part) e)

-- all bytes, with what is left of the server's own: as before, and then the payload that was taken
all_taken : (begun : ℕ) (own part : List ℕ) (n : ℕ) (bs : List ℕ) → begun ≤ length bs
    → drop begun (bs ++ take n (own ++ part)) ++ drop n own ≡ (drop begun bs ++ own) ++ take (n - length own) part
all_taken begun own part n bs h =
    let front : List ℕ = drop begun bs in
    let taken : List ℕ = take n (own ++ part) in
    ap (λ (l : List ℕ). l ++ drop n own) (drop-append-le begun bs taken h)
    ∙ append_assoc front taken (drop n own)
    ∙ ap (λ (l : List ℕ). front ++ l) (split_taken own part n)
    ∙ sym (append_assoc front own (take (n - length own) part))

none_behind : (xs ys : List ℕ) → xs ++ ys ≡ [] → ys ≡ []
none_behind [] ys e = e
none_behind (x ∷ xs) ys e = cc

-- what is then left of the server's own carries nothing, by whether all of it was taken
none_left : (t : Bool) (own part : List ℕ) (n : ℕ) (w : Writing) → leb n (length own) ≡ t → carried w own ≡ []
    → carried (placed w (take n (own ++ part))) (drop n own) ≡ []
none_left true own part n w e none =
    let taken : List ℕ = take n (own ++ part) in
    let within : n ≤ length own = leb-true n (length own) e in
    let nothing : n - length own ≡ 0 = omega arith in
    none_behind (carried w taken) (carried (placed w taken) (drop n own))
    (sym (carried_append w taken (drop n own))
    ∙ ap (carried w) (split_taken own part n ∙ ap (λ (k : ℕ). own ++ take k part) nothing ∙ append-nil own)
    ∙ none)
none_left false own part n w e none =
    let beyond : length own ≤ n = le_of_lt (leb-false n (length own) e) in
    ap (carried (placed w (take n (own ++ part)))) (drop_all n own beyond)

stands_taken : (begun : ℕ) (own part : List ℕ) (owed n : ℕ) (bs : List ℕ) → n ≤ length own + length part → length part ≤ owed
    → Stands begun own owed bs → Stands begun (drop n own) (owed - (n - length own)) (bs ++ take n (own ++ part))
stands_taken begun own part owed n bs fits few h =
    let rest : List ℕ = take (n - length own) part in
    let long : length rest ≡ n - length own = length-take-le (n - length own) part (omega arith) in
    let left : owed - length rest ≡ owed - (n - length own) = ap (λ (k : ℕ). owed - k) long in
    record {
      within = omega (arith, h.within, length-append bs (take n (own ++ part)));
      place =
          ap (placed (before 0)) (all_taken begun own part n bs h.within)
          ∙ placed_append (before 0) (drop begun bs ++ own) rest
          ∙ ap (λ (w : Writing). placed w rest) h.place
          ∙ placed_payload rest owed (omega arith)
          ∙ ap before left;
      none =
          ap (λ (l : List ℕ). carried (placed (before 0) l) (drop n own)) (drop-append-le begun bs (take n (own ++ part)) h.within)
          ∙ ap (λ (w : Writing). carried w (drop n own)) (placed_append (before 0) (drop begun bs) (take n (own ++ part)))
          ∙ none_left (leb n (length own)) own part n (placed (before 0) (drop begun bs)) refl h.none;
    }

carried_taken : (begun : ℕ) (own part : List ℕ) (owed n : ℕ) (bs : List ℕ) → n ≤ length own + length part → length part ≤ owed
    → Stands begun own owed bs
    → carried (before 0) (drop begun (bs ++ take n (own ++ part)) ++ drop n own)
    ≡ carried (before 0) (drop begun bs ++ own) ++ take (n - length own) part
carried_taken begun own part owed n bs fits few h =
    let rest : List ℕ = take (n - length own) part in
    let long : length rest ≡ n - length own = length-take-le (n - length own) part (omega arith) in
    ap (carried (before 0)) (all_taken begun own part n bs h.within)
    ∙ carried_append (before 0) (drop begun bs ++ own) rest
    ∙ ap (λ (l : List ℕ). carried (before 0) (drop begun bs ++ own) ++ l)
    (ap (λ (w : Writing). carried w rest) h.place ∙ carried_payload rest owed (omega arith))

by_test : (t : Bool) (begun : ℕ) (own part : List ℕ) (owed n : ℕ) (bs : List ℕ) → stands begun own owed bs ≡ t
    → n ≤ length own + length part
    → length part ≤ owed
    → Appends (cond t (Some (carried (before 0) (drop begun bs))) None)
    (known_payloads begun (drop n own) (owed - (n - length own)) (Some (bs ++ take n (own ++ part)))) (take (n - length own) part)
by_test false begun own part owed n bs e fits few = tt
by_test true begun own part owed n bs e fits few =
    let h = stands_tells begun own owed bs e in
    let rest : List ℕ = take (n - length own) part in
    let P : Option (List ℕ) → Type 0 = λ o. Appends (Some (carried (before 0) (drop begun bs))) o rest in
    subst P (sym (known_from begun (drop n own) (owed - (n - length own)) (bs ++ take n (own ++ part))
    (stands_taken begun own part owed n bs fits few h)))
    (carried_taken begun own part owed n bs fits few h ∙ ap (λ (l : List ℕ). l ++ rest) (same_payload begun own owed bs h))

-- n bytes were taken of these in one piece
takes_joined : (begun : ℕ) (own part : List ℕ) (owed n : ℕ) (a b : Option (List ℕ)) → n ≤ length own + length part → length part ≤ owed
    → Appends a b (take n (own ++ part))
    → Appends (known_payloads begun own owed a) (known_payloads begun (drop n own) (owed - (n - length own)) b) (take (n - length own) part)
takes_joined begun own part owed n None b fits few p = tt
takes_joined begun own part owed n (Some xs) None fits few p = absurd p
takes_joined begun own part owed n (Some xs) (Some ys) fits few p =
    let P : List ℕ → Type 0 = λ zs. Appends (known_payloads begun own owed (Some xs))
    (known_payloads begun (drop n own) (owed - (n - length own)) (Some zs)) (take (n - length own) part) in
    subst P (sym p) (by_test (stands begun own owed xs) begun own part owed n xs refl fits few)

keeps_from : (a b : Option (List ℕ)) → Appends a b [] → Keeps a b
keeps_from None b p = tt
keeps_from (Some xs) None p = absurd p
keeps_from (Some xs) (Some ys) p = p ∙ append-nil xs

-- n bytes were taken of what is the server's own
pub takes_own : (begun : ℕ) (own : List ℕ) (owed n : ℕ) (a b : Option (List ℕ)) → n ≤ length own → Appends a b (take n own)
    → Keeps (known_payloads begun own owed a) (known_payloads begun (drop n own) (owed - (n - length own)) b)
takes_own begun own owed n a b fits p =
    let P : List ℕ → Type 0 = λ l. Appends a b (take n l) in
    let Q : List ℕ → Type 0 = λ l. Appends (known_payloads begun own owed a)
    (known_payloads begun (drop n own) (owed - (n - length own)) b) l in
    keeps_from (known_payloads begun own owed a) (known_payloads begun (drop n own) (owed - (n - length own)) b)
    (subst Q (take_nil (n - length own))
    (takes_joined begun own [] owed n a b (omega arith) (omega arith) (subst P (sym (append-nil own)) p)))

-- n bytes were taken of what is the server's own and of the first most bytes behind it: new and left are what is left of both, and k bytes
-- of payload were taken
pub takes_front : (begun : ℕ) (own new all bs : List ℕ) (owed left n k most : ℕ) (a b : Option (List ℕ)) → new ≡ drop n own
    → left ≡ owed - (n - length own) → k ≡ n - length own → all ≡ own ++ take most bs → most ≤ length bs → most ≤ owed → n ≤ length all
    → Appends a b (take n all) → Appends (known_payloads begun own owed a) (known_payloads begun new left b) (take k bs)
takes_front begun own new all bs owed left n k most a b own_left owed_left counted joined fits few within p =
    let part : List ℕ = take most bs in
    let long : length part ≡ most = length-take-le most bs fits in
    let sum : length all ≡ length own + length part = ap length joined ∙ length-append own part in
    let P : List ℕ → Type 0 = λ l. Appends a b (take n l) in
    let Q : List ℕ → Type 0 = λ l. Appends (known_payloads begun own owed a) (known_payloads begun l left b) (take k bs) in
    let R : ℕ → Type 0 = λ m. Appends (known_payloads begun own owed a) (known_payloads begun (drop n own) m b) (take k bs) in
    let S : ℕ → Type 0 = λ m. Appends (known_payloads begun own owed a) (known_payloads begun (drop n own) (owed - (n - length own)) b)
    (take m bs) in
    let T : List ℕ → Type 0 = λ l. Appends (known_payloads begun own owed a)
    (known_payloads begun (drop n own) (owed - (n - length own)) b) l in
    subst Q (sym own_left) (subst R (sym owed_left) (subst S (sym counted) (subst T (take-take (n - length own) most bs (omega arith))
    (takes_joined begun own part owed n a b (omega arith) (omega arith) (subst P joined p)))))

-- ---- a frame begins where none is on its way

stands_begun : (begun : ℕ) (head : List ℕ) (left : ℕ) (bs : List ℕ) → Begins head left → Stands begun [] 0 bs → Stands begun head left bs
stands_begun begun head left bs new h =
    let front : List ℕ = drop begun bs in
    let place : placed (before 0) front ≡ before 0 = ap (placed (before 0)) (sym (append-nil front)) ∙ h.place in
    record {
      within = h.within;
      place = placed_append (before 0) front head ∙ ap (λ (w : Writing). placed w head) place ∙ new.place;
      none = ap (λ (w : Writing). carried w head) place ∙ new.none;
    }

carried_begun : (begun : ℕ) (head : List ℕ) (left : ℕ) (bs : List ℕ) → Begins head left → Stands begun [] 0 bs
    → carried (before 0) (drop begun bs ++ head) ≡ carried (before 0) (drop begun bs)
carried_begun begun head left bs new h =
    let front : List ℕ = drop begun bs in
    let place : placed (before 0) front ≡ before 0 = ap (placed (before 0)) (sym (append-nil front)) ∙ h.place in
    carried_append (before 0) front head
    ∙ ap (λ (l : List ℕ). carried (before 0) front ++ l) (ap (λ (w : Writing). carried w head) place ∙ new.none)
    ∙ append-nil (carried (before 0) front)

begun_by_test : (t : Bool) (begun : ℕ) (head : List ℕ) (left : ℕ) (bs : List ℕ) → stands begun [] 0 bs ≡ t → Begins head left
    → Keeps (cond t (Some (carried (before 0) (drop begun bs))) None) (known_payloads begun head left (Some bs))
begun_by_test false begun head left bs e new = tt
begun_by_test true begun head left bs e new =
    let h = stands_tells begun [] 0 bs e in
    let P : Option (List ℕ) → Type 0 = λ o. Keeps (Some (carried (before 0) (drop begun bs))) o in
    subst P (sym (known_from begun head left bs (stands_begun begun head left bs new h))) (carried_begun begun head left bs new h)

begins_with : (begun : ℕ) (head : List ℕ) (left : ℕ) (a : Option (List ℕ)) → Begins head left
    → Keeps (known_payloads begun [] 0 a) (known_payloads begun head left a)
begins_with begun head left None new = tt
begins_with begun head left (Some bs) new = begun_by_test (stands begun [] 0 bs) begun head left bs refl new

-- a data frame of size bytes
pub begins : (begun size owed : ℕ) (own head : List ℕ) (a : Option (List ℕ)) → size < 2 ^ 64 → own ≡ [] → owed ≡ 0 → head ≡ data_head size
    → Keeps (known_payloads begun own owed a) (known_payloads begun head size a)
begins begun size owed own head a fits none idle spelled =
    let P : List ℕ → Type 0 = λ l. Keeps (known_payloads begun l owed a) (known_payloads begun head size a) in
    let Q : ℕ → Type 0 = λ k. Keeps (known_payloads begun [] k a) (known_payloads begun head size a) in
    let R : List ℕ → Type 0 = λ l. Keeps (known_payloads begun [] 0 a) (known_payloads begun l size a) in
    subst P (sym none) (subst Q (sym idle) (subst R (sym spelled) (begins_with begun (data_head size) size a (data_begins size fits))))

-- a control frame
pub answers : (begun owed : ℕ) (own frame : List ℕ) (a : Option (List ℕ)) → own ≡ [] → owed ≡ 0 → IsControlFrame frame
    → Keeps (known_payloads begun own owed a) (known_payloads begun frame owed a)
answers begun owed own frame a none idle whole =
    let P : List ℕ → Type 0 = λ l. Keeps (known_payloads begun l owed a) (known_payloads begun frame owed a) in
    let Q : ℕ → Type 0 = λ k. Keeps (known_payloads begun [] k a) (known_payloads begun frame k a) in
    subst P (sym none) (subst Q (sym idle) (begins_with begun frame 0 a (control_begins frame whole)))

-- ---- one write behind another

pub stays : (a : Option (List ℕ)) → Keeps a a
stays a = Keeps-refl a

pub keeps_both : (a b c : Option (List ℕ)) → Keeps a b → Keeps b c → Keeps a c
keeps_both a b c p q = Keeps-trans a b c p q

keeps_then : (a b c : Option (List ℕ)) (bs : List ℕ) → Keeps a b → Appends b c bs → Appends a c bs
keeps_then None b c bs p q = tt
keeps_then (Some x) None c bs p q = absurd p
keeps_then (Some x) (Some y) None bs p q = absurd q
keeps_then (Some x) (Some y) (Some z) bs p q = q ∙ ap (λ (l : List ℕ). l ++ bs) p

pub appends_behind : {E : Type 0} (a b c : Option (List ℕ)) (r : Result ℕ E) (bs : List ℕ) → Keeps a b → WriteAppends b c r bs
    → WriteAppends a c r bs
appends_behind a b c (Ok n) bs p q = keeps_then a b c (take n bs) p q
appends_behind a b c (Err e) bs p q = Keeps-trans a b c p q

-- a write that took no payload
pub keeps_from_none : (a b : Option (List ℕ)) (bs : List ℕ) → Appends a b (take 0 bs) → Keeps a b
keeps_from_none a b bs p = keeps_from a b p

-- ---- the server's own frames

no_payload : (owed : ℕ) → owed ≤ 0 → eqb owed 0 ≡ true
no_payload owed e = eq-eqb owed 0 (omega arith)

-- what is left of a control frame, and then the answer that waited, was written
pub own_written : {S E : Type 0} (contents : S → Option (List ℕ)) (old first second third : WebStream S) (r : Result ⊤ E)
    → old.outward.owed ≤ 0 → Appends (contents old.stream) (contents first.stream) old.outward.own.items → first.inward ≡ old.inward
    → second.stream ≡ first.stream → second.outward.own.items ≡ unwrap_or (reading_of first.inward).answer []
    → OnOk r (Appends (contents second.stream) (contents third.stream) second.outward.own.items)
    → OnOk r (Appends (contents old.stream) (contents third.stream) (own_bytes old))
own_written contents old first second third (Err e) none p same stream answer q = tt
own_written {S} {E} contents old first second third (Ok done) none p same stream answer q =
    let waits : Inward → List ℕ = λ i. unwrap_or (reading_of i).answer [] in
    let behind : Appends (contents first.stream) (contents third.stream) (waits old.inward) =
    (let P : S → Type 0 = λ s. Appends (contents s) (contents third.stream) (waits old.inward) in
    subst P stream
    (let P : List ℕ → Type 0 = λ l. Appends (contents second.stream) (contents third.stream) l in
    subst P (answer ∙ ap waits same) q)) in
    let both = Appends-trans (contents old.stream) (contents first.stream) (contents third.stream) old.outward.own.items (waits old.inward) p behind in
    (let P : List ℕ → Type 0 = λ l. Appends (contents old.stream) (contents third.stream) l in
    subst P (sym (cond-true (eqb old.outward.owed 0) (old.outward.own.items ++ waits old.inward) [] (no_payload old.outward.owed none))) both)

-- ---- what `grind` is given

pub ruleset one_write = (takes_own, stays, is_nil)

pub ruleset head_alone = (keeps_from_none, stays)

pub ruleset frame_begins = (begins, answers, stays)

pub ruleset behind_answers = (appends_behind, keeps_both, stays)
