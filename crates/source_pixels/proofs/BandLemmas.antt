-- Bands, as rows come to them.
use Rattle.std.proofs.Common.{◌≡◌, ◌≢◌, ℕ, ◌+◌, ◌-◌, ◌<◌, ◌≤◌, true, false, List, [], ◌∷◌, ◌++◌, length, get_or, set, refl, sym, ◌∙◌, ap, subst, ⊎_elim, inl, inr, arith}
use Rattle.std.specs.Prelude.{◌⊎◌}
use Rattle.std.proofs.lemmas.Bool.{cases_lt, cases_eq, and_parts, and_from, ltb-true, leb-true, lt-ltb, le-leb, false_from_ne_true, both_ways}
use Rattle.std.proofs.lemmas.List.{get_or_push, get_or_append_left, length_push, length-set, get_or-set_same, get_or-set_other, get_or_default}
use Rattle.std.proofs.lemmas.List.Quantifiers.{all_pairs_push}
use Rattle.source_pixels.specs.declared.bands.Band.{Band}
use Rattle.source_pixels.specs.Bands.{is_in_band, IsBand, IsJoint, IsOutside, AreBands}

-- where a band is
pub record IsIn (b : Band) (x y : ℕ) : Type 0 where
  pub left : b.from ≤ x
  pub right : x < b.to
  pub top : b.top ≤ y
  pub bottom : y < b.bottom

pub in_band : (b : Band) (x y : ℕ) → is_in_band b x y ≡ true → IsIn b x y
in_band b x y e =
    let parts = and_parts _ _ e in
    let columns = and_parts _ _ parts.0 in
    let rows = and_parts _ _ parts.1 in
    record { left = leb-true _ _ columns.0; right = ltb-true _ _ columns.1; top = leb-true _ _ rows.0; bottom = ltb-true _ _ rows.1 }

pub is_in : (b : Band) (x y : ℕ) → IsIn b x y → is_in_band b x y ≡ true
is_in b x y h =
    and_from _ _ (and_from _ _ (le-leb b.from x h.left) (lt-ltb x b.to h.right)) (and_from _ _ (le-leb b.top y h.top) (lt-ltb y b.bottom h.bottom))

not_in : (b : Band) (x y : ℕ) → (IsIn b x y → ⊥) → is_in_band b x y ≡ false
not_in b x y h = false_from_ne_true (is_in_band b x y) (λ e. h (in_band b x y e))

higher : (columns start y : ℕ) (b : Band) → IsBand columns start y b → IsBand columns start (y + 1) b
higher columns start y b h = record { some_columns = h.some_columns; wide = h.wide; some_rows = h.some_rows; low = h.low; high = let top = h.high in omega arith }

-- a row in which the fact holds everywhere
pub row_same : (columns : ℕ) (same : ℕ → ℕ → Type 0) (start y : ℕ) (bands : List Band) → AreBands columns same start y bands → ((x : ℕ) → same x y) → AreBands columns same start (y + 1) bands
row_same columns same start y bands h here = record {
  each = λ k d below. higher columns start y (get_or bands k d) (h.each k d below);
  ordered = h.ordered;
  whole = λ x r low below out. ⊎_elim (λ above. h.whole x r low above out) (λ last. let e : r ≡ y = omega arith in subst (λ n. same x n) (sym e) (here x)) (cases_lt r y);
}

pub pushed_at : (bands : List Band) (b : Band) (k : ℕ) (d : Band) → k < length (bands ++ b ∷ []) → ((k < length bands) × (get_or (bands ++ b ∷ []) k d ≡ get_or bands k d)) ⊎ ((k ≡ length bands) × (get_or (bands ++ b ∷ []) k d ≡ b))
pushed_at bands b k d below =
    let long = length_push bands b in
    ⊎_elim (λ first. inl (first, get_or_append_left bands (b ∷ []) d k first))
    (λ last. let e : k ≡ length bands = omega arith in inr (e, ap (λ n. get_or (bands ++ b ∷ []) n d) e ∙ get_or_push bands b d (length bands) refl)) (cases_lt k (length bands))

-- a row whose band comes behind the others
pub row_pushed : (columns : ℕ) (same : ℕ → ℕ → Type 0) (start y : ℕ) (bands : List Band) (b : Band) → AreBands columns same start y bands → IsBand columns start (y + 1) b → b.top ≡ y
    → ((x : ℕ) → is_in_band b x y ≡ false → same x y) → AreBands columns same start (y + 1) (bands ++ b ∷ [])
row_pushed columns same start y bands b h fits top here = record {
  each = λ k d below. ⊎_elim (λ first. subst (IsBand columns start (y + 1)) (sym first.1) (higher columns start y (get_or bands k d) (h.each k d first.0))) (λ last. subst (IsBand columns start (y + 1)) (sym last.1) fits) (pushed_at bands b k d below);
  ordered = all_pairs_push (λ a b. a.bottom ≤ b.top) bands b h.ordered (λ k d below. let e = (h.each k d below).high in omega arith);
  whole = λ x r low below out.
      let front : IsOutside bands x r = λ k d first.
      subst (λ c. is_in_band c x r ≡ false) (get_or_append_left bands (b ∷ []) d k first) (out k d (let long = length_push bands b in omega arith)) in
      let last : is_in_band b x r ≡ false = subst (λ c. is_in_band c x r ≡ false) (get_or_push bands b b (length bands) refl) (out (length bands) b (let long = length_push bands b in omega arith)) in
      ⊎_elim (λ above. h.whole x r low above front) (λ this. let e : r ≡ y = omega arith in subst (λ n. same x n) (sym e) (here x (subst (λ n. is_in_band b x n ≡ false) e last))) (cases_lt r y);
}

-- a row whose band is joined with the last
pub row_joined : (columns : ℕ) (same : ℕ → ℕ → Type 0) (start y : ℕ) (bands : List Band) (b joint : Band) → AreBands columns same start y bands → IsBand columns start (y + 1) b → b.top ≡ y
    → ((x : ℕ) → is_in_band b x y ≡ false → same x y) → 0 < length bands → IsJoint (get_or bands (length bands - 1) b) b joint → AreBands columns same start (y + 1) (set bands (length bands - 1) joint)
row_joined columns same start y bands b joint h fits top here some joins = record {
  each = λ k d below. ⊎_elim
      (λ e. subst (IsBand columns start (y + 1)) (sym (ap (λ n. get_or (set bands at joint) n d) e ∙ same_place d)) whole_joint)
      (λ other. subst (IsBand columns start (y + 1)) (sym (get_or-set_other bands at k joint d other)) (higher columns start y (get_or bands k d) (h.each k d (let long = length-set bands at joint in omega arith))))
      (cases_eq k at);
  ordered = λ i j d before below.
      let long = length-set bands at joint in
      let early : i ≢ at = λ e. absurd (omega arith) in
      subst (λ (a : Band). a.bottom ≤ (get_or (set bands at joint) j d).top) (sym (get_or-set_other bands at i joint d early))
      (⊎_elim
      (λ e. subst (λ (c : Band). (get_or bands i d).bottom ≤ c.top) (sym (ap (λ n. get_or (set bands at joint) n d) e ∙ same_place d))
      (let order = h.ordered i at b (let lower : i < at = omega arith in lower) (omega arith) in let t = joins.top in
      let first : get_or bands i d ≡ get_or bands i b = get_or_default bands i d b (omega arith) in
      let first' : (get_or bands i d).bottom ≡ (get_or bands i b).bottom = ap (λ (c : Band). c.bottom) first in omega arith))
      (λ other. subst (λ (c : Band). (get_or bands i d).bottom ≤ c.top) (sym (get_or-set_other bands at j joint d other)) (h.ordered i j d before (omega arith)))
      (cases_eq j at));
  whole = λ x r low below out.
      let long = length-set bands at joint in
      let joint_out : is_in_band joint x r ≡ false = subst (λ c. is_in_band c x r ≡ false) (same_place b) (out at b (omega arith)) in
      let front : IsOutside bands x r = λ k d first.
      ⊎_elim
      (λ e. not_in (get_or bands k d) x r (λ inside. both_ways _ joint_out (is_in joint x r (
      let same_band : get_or bands k d ≡ last = ap (λ n. get_or bands n d) e ∙ get_or_default bands at d b (omega arith) in
      let inside' : IsIn last x r = subst (λ c. IsIn c x r) same_band inside in
      wider inside'))))
      (λ other. subst (λ c. is_in_band c x r ≡ false) (get_or-set_other bands at k joint d other) (out k d (omega arith)))
      (cases_eq k at) in
      ⊎_elim (λ above. h.whole x r low above front)
      (λ this. let e : r ≡ y = omega arith in subst (λ n. same x n) (sym e) (here x (not_in b x y (λ inside. both_ways _ joint_out (is_in joint x r (subst (λ n. IsIn joint x n) (sym e) (lower inside)))))))
      (cases_lt r y);
}
  where
    at : ℕ
    at = length bands - 1

    last : Band
    last = get_or bands at b

    same_place : (d : Band) → get_or (set bands at joint) at d ≡ joint
    same_place d = get_or-set_same bands at joint d (omega arith)

    band_last : IsBand columns start y last
    band_last = h.each at b (omega arith)

    whole_joint : IsBand columns start (y + 1) joint
    whole_joint =
        let f = joins.from in let t = joins.to in let u = joins.top in let v = joins.bottom in let w = joins.below in
        let a = band_last.some_columns in let a' = band_last.wide in let a'' = band_last.some_rows in
        let c = fits.some_columns in let c' = fits.wide in let c'' = fits.some_rows in let c''' = fits.high in
        let a''' = band_last.low in
        record { some_columns = omega arith; wide = omega arith; some_rows = omega arith; low = omega arith; high = omega arith }

    wider : {x r : ℕ} → IsIn last x r → IsIn joint x r
    wider i =
        let f = joins.from in let t = joins.to in let u = joins.top in let v = joins.bottom in let w = joins.below in let c'' = fits.some_rows in
        let a = i.left in let a' = i.right in let b' = i.top in let b'' = i.bottom in
        record { left = omega arith; right = omega arith; top = omega arith; bottom = omega arith }

    lower : {x : ℕ} → IsIn b x y → IsIn joint x y
    lower i =
        let f = joins.from in let t = joins.to in let u = joins.top in let v = joins.bottom in let w = joins.below in let c'' = band_last.some_rows in
        let a = i.left in let a' = i.right in let b' = i.top in let b'' = i.bottom in
        record { left = omega arith; right = omega arith; top = omega arith; bottom = omega arith }
