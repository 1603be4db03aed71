-- The background of a tile, and which pixels it has beside it.
use Rattle.std.proofs.Common.{◌≡◌, ℕ, zero, suc, ◌+◌, ◌<◌, ◌≤◌, ◌⊎◌, inl, inr, Bool, true, false, not, cond, eqb, List, [], ◌∷◌, length, take, replicate, get_or, set, slice_index, drop, ◌%◌, refl, sym, ap, subst, ◌∙◌, arith}
use Rattle.std.specs.List.{filter, list_all}
use Rattle.std.proofs.Math.Seq.{take-length}
use Rattle.std.proofs.lemmas.Bool.{cases_eq, cases_lt, eq-eqb, eqb-false}
use Rattle.std.proofs.lemmas.Bool.Decides.{eqb_tells}
use Rattle.std.proofs.lemmas.List.Sums.{count_by-le-length, sum_by-cons, count_by_more_yes, count_by_more_no}
use Rattle.std.proofs.lemmas.List.{get_or-drop, length-drop, get_or-set_same, get_or-set_other}
use Rattle.std.proofs.lemmas.Grind.{get_or-set_at}
use Rattle.subrectangles.specs.Subrectangles.{times, background_of, stretch}
use Rattle.subrectangles.specs.Counts.{best_is, run_counted}
use Rattle.subrectangles.specs.Runs.{Front, prefix_is}
use Rattle.encode_hextile.specs.declared.TilePixels.{TilePixels}
use Rattle.encode_hextile.specs.declared.TilePixels.TheVariants.{Alone, OneOther, Several}
use Rattle.encode_hextile.specs.Hextile.{kind_of, others_of}

-- q is no better background than b, which stands there as often as most says
pub record Loses (ps : List ℕ) (b most q : ℕ) : Type 0 where
  pub less : times q ps ≤ most
  pub tie : times q ps ≡ most → b ≤ q

-- ---- how often pixels stand there

pub times_yes : (q x : ℕ) (ps : List ℕ) → eqb x q ≡ true → times q (x ∷ ps) ≡ 1 + times q ps
times_yes q x ps e = sum_by-cons (λ (p : ℕ). cond (eqb p q) 1 0) x ps ∙ ap (λ (t : Bool). cond {A = ℕ} t 1 0 + times q ps) e

pub times_no : (q x : ℕ) (ps : List ℕ) → eqb x q ≡ false → times q (x ∷ ps) ≡ times q ps
times_no q x ps e = omega (arith, sum_by-cons (λ (p : ℕ). cond (eqb p q) 1 0) x ps, ap (λ (t : Bool). cond {A = ℕ} t 1 0) e)

pub apart2 : (ps : List ℕ) (p q : ℕ) → (p ≡ q → ⊥) → times p ps + times q ps ≤ length ps
apart2 [] p q ne = omega arith
apart2 (x ∷ ps) p q ne =
    let more = apart2 ps p q ne in
    elim (eqb_tells x p) [
      | inl a ↦ elim (eqb_tells x q) [
        | inl b ↦ absurd (ne (sym a.1 ∙ b.1))
        | inr b ↦ omega (arith, more, times_yes p x ps a.0, times_no q x ps b.0)
      ]
      | inr a ↦ elim (eqb_tells x q) [
        | inl b ↦ omega (arith, more, times_no p x ps a.0, times_yes q x ps b.0)
        | inr b ↦ omega (arith, more, times_no p x ps a.0, times_no q x ps b.0)
      ]
    ]

pub apart3 : (ps : List ℕ) (p q r : ℕ) → (p ≡ q → ⊥) → (p ≡ r → ⊥) → (q ≡ r → ⊥) → times p ps + times q ps + times r ps ≤ length ps
apart3 [] p q r d e f = omega arith
apart3 (x ∷ ps) p q r d e f =
    let more = apart3 ps p q r d e f in
    elim (eqb_tells x p) [
      | inl a ↦ elim (eqb_tells x q) [
        | inl b ↦ absurd (d (sym a.1 ∙ b.1))
        | inr b ↦ elim (eqb_tells x r) [
          | inl c ↦ absurd (e (sym a.1 ∙ c.1))
          | inr c ↦ omega (arith, more, times_yes p x ps a.0, times_no q x ps b.0, times_no r x ps c.0)
        ]
      ]
      | inr a ↦ elim (eqb_tells x q) [
        | inl b ↦ elim (eqb_tells x r) [
          | inl c ↦ absurd (f (sym b.1 ∙ c.1))
          | inr c ↦ omega (arith, more, times_no p x ps a.0, times_yes q x ps b.0, times_no r x ps c.0)
        ]
        | inr b ↦ elim (eqb_tells x r) [
          | inl c ↦ omega (arith, more, times_no p x ps a.0, times_no q x ps b.0, times_yes r x ps c.0)
          | inr c ↦ omega (arith, more, times_no p x ps a.0, times_no q x ps b.0, times_no r x ps c.0)
        ]
      ]
    ]

pub times_at : (ps : List ℕ) (k : ℕ) → k < length ps → 0 < times (get_or ps k 0) ps
times_at [] k lt = absurd (omega arith)
times_at (x ∷ ps) zero lt = omega (arith, times_yes x x ps (eq-eqb x x refl))
times_at (x ∷ ps) (suc k) lt =
    let more = times_at ps k (omega arith) in
    elim (eqb_tells x (get_or ps k 0)) [
      | inl a ↦ omega (arith, times_yes (get_or ps k 0) x ps a.0)
      | inr a ↦ omega (arith, times_no (get_or ps k 0) x ps a.0, more)
    ]

pub record StandsAt (ps : List ℕ) (q : ℕ) : Type 0 where
  pub at : ℕ
  pub within : at < length ps
  pub there : get_or ps at 0 ≡ q

pub stands_at : (ps : List ℕ) (q : ℕ) → 0 < times q ps → StandsAt ps q
stands_at [] q lt = absurd (omega arith)
stands_at (x ∷ ps) q lt =
    elim (eqb_tells x q) [
      | inl a ↦ record { at = 0; within = omega arith; there = a.1 }
      | inr a ↦ let more = stands_at ps q (omega (arith, lt, times_no q x ps a.0)) in record { at = suc more.at; within = omega (arith, more.within); there = more.there }
    ]

-- ---- the pixels beside one

abbrev pub beside : ℕ → List ℕ → List ℕ
beside b ps = filter (λ p. not (eqb p b)) ps

pub beside_length : (b : ℕ) (ps : List ℕ) → length (beside b ps) + times b ps ≡ length ps
beside_length b [] = refl
beside_length b (x ∷ ps) =
    let more = beside_length b ps in
    elim (eqb_tells x b) [
      | inl a ↦ let here = times_yes b x ps a.0 in omega (arith, more, here, ap (λ (t : Bool). length (cond {A = List ℕ} (not t) (x ∷ beside b ps) (beside b ps))) a.0)
      | inr a ↦ let here = times_no b x ps a.0 in omega (arith, more, here, ap (λ (t : Bool). length (cond {A = List ℕ} (not t) (x ∷ beside b ps) (beside b ps))) a.0)
    ]

beside_no : (b x : ℕ) (ps : List ℕ) → eqb x b ≡ true → beside b (x ∷ ps) ≡ beside b ps
beside_no b x ps e = ap (λ (t : Bool). cond {A = List ℕ} (not t) (x ∷ beside b ps) (beside b ps)) e

beside_yes : (b x : ℕ) (ps : List ℕ) → eqb x b ≡ false → beside b (x ∷ ps) ≡ x ∷ beside b ps
beside_yes b x ps e = ap (λ (t : Bool). cond {A = List ℕ} (not t) (x ∷ beside b ps) (beside b ps)) e

pub beside_times : (b p : ℕ) (ps : List ℕ) → (p ≡ b → ⊥) → times p (beside b ps) ≡ times p ps
beside_times b p [] ne = refl
beside_times b p (x ∷ ps) ne =
    let more = beside_times b p ps ne in
    elim (eqb_tells x b) [
      | inl a ↦ elim (eqb_tells x p) [
        | inl c ↦ absurd (ne (sym c.1 ∙ a.1))
        | inr c ↦ ap (times p) (beside_no b x ps a.0) ∙ more ∙ sym (times_no p x ps c.0)
      ]
      | inr a ↦ elim (eqb_tells x p) [
        | inl c ↦ ap (times p) (beside_yes b x ps a.0) ∙ omega (arith, more, times_yes p x (beside b ps) c.0, times_yes p x ps c.0)
        | inr c ↦ ap (times p) (beside_yes b x ps a.0) ∙ times_no p x (beside b ps) c.0 ∙ more ∙ sym (times_no p x ps c.0)
      ]
    ]

-- the first pixel beside one stands there
pub stands_beside : (b : ℕ) (ps : List ℕ) → 0 < length (beside b ps) → 0 < times (get_or (beside b ps) 0 0) ps
stands_beside b [] lt = absurd (omega arith)
stands_beside b (x ∷ ps) lt =
    elim (eqb_tells x b) [
      | inl a ↦
          let more = stands_beside b ps (omega (arith, lt, ap (length {A = ℕ}) (beside_no b x ps a.0))) in
          let q : ℕ = get_or (beside b ps) 0 0 in
          let same : get_or (beside b (x ∷ ps)) 0 0 ≡ q = ap (λ (t : List ℕ). get_or t 0 0) (beside_no b x ps a.0) in
          subst (λ (t : ℕ). 0 < times t (x ∷ ps)) (sym same) (grows q more)
      | inr a ↦
          let same : get_or (beside b (x ∷ ps)) 0 0 ≡ x = ap (λ (t : List ℕ). get_or t 0 0) (beside_yes b x ps a.0) in
          subst (λ (t : ℕ). 0 < times t (x ∷ ps)) (sym same) (omega (arith, times_yes x x ps (eq-eqb x x refl)))
    ]
  where
    grows : (q : ℕ) → 0 < times q ps → 0 < times q (x ∷ ps)
    grows q more = elim (eqb_tells x q) [
      | inl c ↦ omega (arith, times_yes q x ps c.0)
      | inr c ↦ omega (arith, times_no q x ps c.0, more)
    ]

none_beside : (b : ℕ) (ps : List ℕ) → times b (beside b ps) ≡ 0
none_beside b [] = refl
none_beside b (x ∷ ps) =
    let more = none_beside b ps in
    elim (eqb_tells x b) [
      | inl a ↦ ap (times b) (beside_no b x ps a.0) ∙ more
      | inr a ↦ ap (times b) (beside_yes b x ps a.0) ∙ times_no b x (beside b ps) a.0 ∙ more
    ]

all_times : (p : ℕ) (ps : List ℕ) → list_all (λ q. eqb q p) ps ≡ true → times p ps ≡ length ps
all_times p [] e = refl
all_times p (x ∷ ps) e =
    elim (eqb_tells x p) [
      | inl a ↦ let more = all_times p ps (rw a.0 at e) in omega (arith, more, times_yes p x ps a.0)
      | inr a ↦ absurd (let no : false ≡ true = rw a.0 at e in cc)
    ]

no_length : (xs : List ℕ) → length xs ≡ 0 → xs ≡ []
no_length [] e = refl
no_length (x ∷ xs) e = absurd (omega (arith, e))

-- all pixels are one
pub alone : (ps : List ℕ) (b : ℕ) → times b ps ≡ length ps → others_of b ps ≡ Alone
alone ps b e = ap kind_of (no_length (beside b ps) (omega (arith, beside_length b ps, e)))

two_kinds : (ps : List ℕ) (b o : ℕ) → (b ≡ o → ⊥) → times b ps + times o ps ≡ length ps → beside b ps ≡ replicate (times o ps) o
two_kinds [] b o ne e = refl
two_kinds (x ∷ ps) b o ne e =
    let most = apart2 ps b o ne in
    elim (eqb_tells x b) [
      | inl a ↦ elim (eqb_tells x o) [
        | inl c ↦ absurd (ne (sym a.1 ∙ c.1))
        | inr c ↦
            let more = two_kinds ps b o ne (omega (arith, e, times_yes b x ps a.0, times_no o x ps c.0)) in
            beside_no b x ps a.0 ∙ more ∙ ap (λ (n : ℕ). replicate n o) (sym (times_no o x ps c.0))
      ]
      | inr a ↦ elim (eqb_tells x o) [
        | inl c ↦
            let more = two_kinds ps b o ne (omega (arith, e, times_no b x ps a.0, times_yes o x ps c.0)) in
            beside_yes b x ps a.0 ∙ ap (λ (t : List ℕ). x ∷ t) more ∙ ap (λ (t : ℕ). t ∷ replicate (times o ps) o) c.1
            ∙ ap (λ (n : ℕ). replicate n o) (let h : suc (times o ps) ≡ times o (x ∷ ps) = omega (arith, times_yes o x ps c.0) in h)
        | inr c ↦ absurd (omega (arith, e, most, times_no b x ps a.0, times_no o x ps c.0))
      ]
    ]

all_same : (n o : ℕ) → list_all (λ q. eqb q o) (replicate n o) ≡ true
all_same zero o = refl
all_same (suc n) o = rw (eq-eqb o o refl) (all_same n o)

kind_same : (n o : ℕ) → 0 < n → kind_of (replicate n o) ≡ OneOther o
kind_same zero o lt = absurd (omega arith)
kind_same (suc n) o lt = ap (λ (t : Bool). cond {A = TilePixels} t (OneOther o) Several) (all_same n o)

-- there are two pixels
pub one_other : (ps : List ℕ) (b o : ℕ) → (b ≡ o → ⊥) → 0 < times o ps → times b ps + times o ps ≡ length ps → others_of b ps ≡ OneOther o
one_other ps b o ne some e = ap kind_of (two_kinds ps b o ne e) ∙ kind_same (times o ps) o some

-- two pixels, and more than these
pub record More (ps : List ℕ) (p q : ℕ) : Type 0 where
  pub apart : p ≡ q → ⊥
  pub first : 0 < times p ps
  pub second : 0 < times q ps
  pub more : times p ps + times q ps < length ps

several_kind : (xs : List ℕ) → (xs ≡ [] → ⊥) → ((p : ℕ) (qs : List ℕ) → xs ≡ p ∷ qs → list_all (λ q. eqb q p) qs ≡ true → ⊥) → kind_of xs ≡ Several
several_kind [] some apart = absurd (some refl)
several_kind (p ∷ qs) some apart = go (list_all (λ q. eqb q p) qs) refl
  where
    go : (t : Bool) → list_all (λ q. eqb q p) qs ≡ t → cond {A = TilePixels} t (OneOther p) Several ≡ Several
    go true e = absurd (apart p qs refl e)
    go false e = refl

pub several : (ps : List ℕ) (b p q : ℕ) → More ps p q → others_of b ps ≡ Several
several ps b p q m = several_kind (beside b ps) none one
  where
    none : beside b ps ≡ [] → ⊥
    none e =
        let all : times b ps ≡ length ps = omega (arith, beside_length b ps, ap (length {A = ℕ}) e) in
        elim (cases_eq p b) [
          | inl h ↦ elim (cases_eq q b) [
            | inl g ↦ m.apart (h ∙ sym g)
            | inr g ↦ omega (arith, apart2 ps q b g, all, m.second)
          ]
          | inr h ↦ omega (arith, apart2 ps p b h, all, m.first)
        ]

    one : (o : ℕ) (qs : List ℕ) → beside b ps ≡ o ∷ qs → list_all (λ x. eqb x o) qs ≡ true → ⊥
    one o qs e all =
        elim (cases_eq o b) [
          | inl h ↦ omega (arith, none_beside b ps, times_at (beside b ps) 0 (omega (arith, ap (length {A = ℕ}) e)), ap (λ (t : List ℕ). times (get_or t 0 0) (beside b ps)) e, ap (λ (t : ℕ). times t (beside b ps)) h)
          | inr h ↦ both o h (
              let here : times o (o ∷ qs) ≡ length (o ∷ qs) = omega (arith, all_times o qs all, times_yes o o qs (eq-eqb o o refl)) in
              omega (arith, beside_length b ps, beside_times b o ps h, ap (λ (t : List ℕ). times o t) e, ap (length {A = ℕ}) e, here))
        ]
      where
        both : (o : ℕ) → (o ≡ b → ⊥) → times b ps + times o ps ≡ length ps → ⊥
        both o ne sum =
            elim (cases_eq p b) [
              | inl pb ↦ elim (cases_eq q o) [
                | inl qo ↦ omega (arith, m.more, sum, ap (λ (t : ℕ). times t ps) pb, ap (λ (t : ℕ). times t ps) qo)
                | inr qo ↦ omega (arith, apart3 ps b o q (λ h. ne (sym h)) (λ h. m.apart (pb ∙ h)) (λ h. qo (sym h)), sum, m.second)
              ]
              | inr pb ↦ elim (cases_eq p o) [
                | inl po ↦ elim (cases_eq q b) [
                  | inl qb ↦ omega (arith, m.more, sum, ap (λ (t : ℕ). times t ps) po, ap (λ (t : ℕ). times t ps) qb)
                  | inr qb ↦ omega (arith, apart3 ps b o q (λ h. ne (sym h)) (λ h. qb (sym h)) (λ h. m.apart (po ∙ h)), sum, m.second)
                ]
                | inr po ↦ omega (arith, apart3 ps b o p (λ h. ne (sym h)) (λ h. pb (sym h)) (λ h. po (sym h)), sum, m.first)
              ]
            ]

-- ---- the background

pub best_alone : (ps : List ℕ) (b : ℕ) → 0 < length ps → times b ps ≡ length ps → b ≡ background_of ps
best_alone ps b some all = best_is ps (λ q. times q ps) b (length ps) (λ q. refl) some (record {
  has = sym all;
  frequent = λ q. count_by-le-length (λ p. eqb p q) ps;
  smallest = λ q lt e. elim (cases_eq b q) [ inl h ↦ omega arith | inr h ↦ absurd (omega (arith, apart2 ps b q h, all, e, some)) ];
})

pub best_of_two : (ps : List ℕ) (p q : ℕ) → (p ≡ q → ⊥) → 0 < times p ps → times p ps + times q ps ≡ length ps
    → (times q ps < times p ps) ⊎ ((times q ps ≡ times p ps) × (p ≤ q)) → p ≡ background_of ps
best_of_two ps p q ne some sum wins = best_is ps (λ q. times q ps) p (times p ps) (λ q. refl) (omega (arith, sum, some)) (record {
  has = refl;
  frequent = frequent;
  smallest = λ r lt e. elim (cases_eq p r) [
    | inl h ↦ omega arith
    | inr h ↦ elim (cases_eq q r) [
      | inl g ↦ elim wins [
        | inl w ↦ absurd (omega (arith, w, e, ap (λ (t : ℕ). times t ps) g))
        | inr w ↦ omega (arith, w.1)
      ]
      | inr g ↦ absurd (omega (arith, apart3 ps p q r ne h g, sum, e, some))
    ]
  ];
})
  where
    frequent : (r : ℕ) → times r ps ≤ times p ps
    frequent r = elim (cases_eq p r) [
      | inl h ↦ omega (arith, ap (λ (t : ℕ). times t ps) h)
      | inr h ↦ elim (cases_eq q r) [
        | inl g ↦ elim wins [
          | inl w ↦ omega (arith, w, ap (λ (t : ℕ). times t ps) g)
          | inr w ↦ omega (arith, w.0, ap (λ (t : ℕ). times t ps) g)
        ]
        | inr g ↦ omega (arith, apart3 ps p q r ne h g, sum)
      ]
    ]

-- none loses to another
pub best_of_all : (ps : List ℕ) (b most : ℕ) → 0 < length ps → most ≡ times b ps → ((k : ℕ) → k < length ps → Loses ps b most (get_or ps k 0)) → b ≡ background_of ps
best_of_all ps b most some count each = best_is ps (λ q. times q ps) b most (λ q. refl) some (record {
  has = count;
  frequent = λ q. elim (cases_lt 0 (times q ps)) [
    | inl lt ↦ (loses q lt).less
    | inr le ↦ omega arith
  ];
  smallest = λ q lt e. (loses q (omega (arith, lt, e))).tie e;
})
  where
    loses : (q : ℕ) → 0 < times q ps → Loses ps b most q
    loses q lt = let s = stands_at ps q lt in subst (λ (t : ℕ). Loses ps b most t) s.there (each s.at s.within)

-- ---- the first pixel, and the first that isn't it

pub stretch_ends : (ps : List ℕ) (n : ℕ) → 0 < length ps → n ≡ stretch ps 0 → n ≤ length ps → times (get_or ps 0 0) ps < length ps → n < length ps
stretch_ends ps n some e le few = elim (cases_lt n (length ps)) [
  | inl lt ↦ lt
  | inr ge ↦
      let runs = run_counted ps 0 n some (omega (arith, le)) e in
      let all : take (0 + n) ps ≡ ps = ap (λ (k : ℕ). take k ps) (let z : 0 + n ≡ length ps = omega arith in z) ∙ take-length ps in
      absurd (omega (arith, runs.itself, ap (λ (t : List ℕ). times (get_or ps 0 0) t) all, few))
]

pub stretch_other : (ps : List ℕ) (n : ℕ) → n ≡ stretch ps 0 → n < length ps → get_or ps 0 0 ≡ get_or ps n 0 → ⊥
stretch_other ps n e lt q = eqb-false _ _ (front.stops (omega (arith, lt, length-drop 0 ps))) (get_or-drop 0 ps n 0 ∙ ap (λ (k : ℕ). get_or ps k 0) (let z : 0 + n ≡ n = omega arith in z) ∙ sym q)
  where
    test : ℕ → Bool
    test p = eqb p (slice_index ps 0)

    front : Front test 0 (drop 0 ps) n
    front = subst (Front test 0 (drop 0 ps)) (sym e) (prefix_is test 0 (drop 0 ps))

-- ---- one pixel after the other

pub loses_more : (ps : List ℕ) (b most p count q : ℕ) → Loses ps b most q → (most < count) ⊎ ((most ≡ count) × (p < b)) → Loses ps p count q
loses_more ps b most p count q l wins = record {
  less = elim wins [ inl w ↦ omega (arith, l.less, w) | inr w ↦ omega (arith, l.less, w.0) ];
  tie = λ e. elim wins [ inl w ↦ absurd (omega (arith, l.less, w, e)) | inr w ↦ omega (arith, w.1, l.tie (omega (arith, e, w.0))) ];
}

pub loses_itself : (ps : List ℕ) (p count : ℕ) → count ≡ times p ps → Loses ps p count p
loses_itself ps p count e = record { less = omega (arith, e); tie = λ h. omega arith }

-- a bound on how often it stands there is no better
pub loses_bound : (ps : List ℕ) (b most q bound : ℕ) → times q ps ≤ bound → (bound ≤ most) × (most ≡ bound → b ≤ q) → Loses ps b most q
loses_bound ps b most q bound le lost = record {
  less = omega (arith, le, lost.0);
  tie = λ e. lost.1 (omega (arith, le, lost.0, e));
}

pub loses_so_far : (ps : List ℕ) (b most i : ℕ) → ((k : ℕ) → k < i → Loses ps b most (get_or ps k 0)) → Loses ps b most (get_or ps i 0)
    → (k : ℕ) → k < i + 1 → Loses ps b most (get_or ps k 0)
loses_so_far ps b most i each here k lt = elim (cases_eq k i) [
  | inl e ↦ subst (λ (t : ℕ). Loses ps b most (get_or ps t 0)) (sym e) here
  | inr ne ↦ each k (omega arith)
]

-- ---- buckets

pub bucket_more : (ps : List ℕ) (i : ℕ) (bs : List ℕ) (q : ℕ) → i < length ps → get_or ps i 0 % 251 < length bs → times q (take i ps) ≤ get_or bs (q % 251) 0
    → times q (take (i + 1) ps) ≤ get_or (set bs (get_or ps i 0 % 251) (get_or bs (get_or ps i 0 % 251) 0 + 1)) (q % 251) 0
bucket_more ps i bs q inside within le =
    elim (eqb_tells (get_or ps i 0) q) [
      | inl a ↦
          let new : get_or (set bs k (get_or bs k 0 + 1)) k 0 ≡ get_or bs k 0 + 1 = get_or-set_same bs k (get_or bs k 0 + 1) 0 within in
          let here : k ≡ q % 251 = ap (λ (t : ℕ). t % 251) a.1 in
          let one : get_or (set bs k (get_or bs k 0 + 1)) k 0 ≡ get_or (set bs k (get_or bs k 0 + 1)) (q % 251) 0 = ap (λ (t : ℕ). get_or (set bs k (get_or bs k 0 + 1)) t 0) here in
          let two : get_or bs k 0 ≡ get_or bs (q % 251) 0 = ap (λ (t : ℕ). get_or bs t 0) here in
          omega (arith, count_by_more_yes (λ p. eqb p q) ps i 0 inside a.0, new, one, two, le)
      | inr a ↦ omega (arith, count_by_more_no (λ p. eqb p q) ps i 0 inside a.0, le, grows)
    ]
  where
    k : ℕ
    k = get_or ps i 0 % 251

    grows : get_or bs (q % 251) 0 ≤ get_or (set bs k (get_or bs k 0 + 1)) (q % 251) 0
    grows = elim (cases_eq (q % 251) k) [
      | inl e ↦
          let new : get_or (set bs k (get_or bs k 0 + 1)) (q % 251) 0 ≡ get_or bs k 0 + 1 = get_or-set_at bs k (q % 251) (get_or bs k 0 + 1) 0 e within in
          let two : get_or bs (q % 251) 0 ≡ get_or bs k 0 = ap (λ (t : ℕ). get_or bs t 0) e in
          omega (arith, new, two)
      | inr ne ↦
          let same : get_or (set bs k (get_or bs k 0 + 1)) (q % 251) 0 ≡ get_or bs (q % 251) 0 = get_or-set_other bs k (q % 251) (get_or bs k 0 + 1) 0 ne in
          omega (arith, same)
    ]

pub bucket_few : (bs : List ℕ) (j i k : ℕ) → j < length bs → ((m : ℕ) → m < 251 → get_or bs m 0 ≤ i) → j < 251 → k < 251 → get_or (set bs j (get_or bs j 0 + 1)) k 0 ≤ i + 1
bucket_few bs j i k within each below lt = elim (cases_eq k j) [
  | inl e ↦ omega (arith, get_or-set_at bs j k (get_or bs j 0 + 1) 0 e within, each j below)
  | inr ne ↦ omega (arith, get_or-set_other bs j k (get_or bs j 0 + 1) 0 ne, each k lt)
]
