-- A version is read by parts.
use Rattle.std.proofs.Common.{◌≡◌, ℕ, Bool, true, false, ◌&&◌, eqb, List, [], ◌∷◌, length, refl, arith}
use Rattle.std.proofs.lemmas.Bool.{eq-eqb}
use Rattle.std.specs.List.{list_all}
use Rattle.std.specs.Char.{is_ascii_digit}
use Rattle.messages.specs.Reading.{is_version, major_of, minor_of}
use Rattle.messages.specs.Steps.{has_form}

regroup : (r f b s dot end p q : Bool)
    → (((r && (f && (b && (s && true)))) && dot && end) && p && q) ≡ ((r && (f && (b && (s && (true && (true && (true && (dot && (true && (true && (true && (end && true)))))))))))) && p && q)
regroup false f b s dot end p q = refl
regroup true false b s dot end p q = refl
regroup true true false s dot end p q = refl
regroup true true true false dot end p q = refl
regroup true true true true false end p q = refl
regroup true true true true true false p q = refl
regroup true true true true true true p q = refl

by_cells : (r f b s h t o dot x y z end : ℕ) → (let bytes : List ℕ = r ∷ f ∷ b ∷ s ∷ h ∷ t ∷ o ∷ dot ∷ x ∷ y ∷ z ∷ end ∷ [] in
    (has_form bytes && list_all is_ascii_digit (major_of bytes) && list_all is_ascii_digit (minor_of bytes)) ≡ is_version bytes)
by_cells r f b s h t o dot x y z end =
    rw (eq-eqb h h refl, eq-eqb t t refl, eq-eqb o o refl, eq-eqb x x refl, eq-eqb y y refl, eq-eqb z z refl)
    (regroup (eqb r 82) (eqb f 70) (eqb b 66) (eqb s 32) (eqb dot 46) (eqb end 10) (list_all is_ascii_digit (h ∷ t ∷ o ∷ [])) (list_all is_ascii_digit (x ∷ y ∷ z ∷ [])))

pub is_version_by_parts : (bytes : List ℕ) → length bytes ≡ 12
    → (has_form bytes && list_all is_ascii_digit (major_of bytes) && list_all is_ascii_digit (minor_of bytes)) ≡ is_version bytes
is_version_by_parts (r ∷ f ∷ b ∷ s ∷ h ∷ t ∷ o ∷ dot ∷ x ∷ y ∷ z ∷ end ∷ []) e = by_cells r f b s h t o dot x y z end
is_version_by_parts (r ∷ f ∷ b ∷ s ∷ h ∷ t ∷ o ∷ dot ∷ x ∷ y ∷ z ∷ end ∷ more ∷ bytes) e = absurd (omega arith)
is_version_by_parts [] e = absurd (omega arith)
is_version_by_parts (a ∷ []) e = absurd (omega arith)
is_version_by_parts (a ∷ b ∷ []) e = absurd (omega arith)
is_version_by_parts (a ∷ b ∷ c ∷ []) e = absurd (omega arith)
is_version_by_parts (a ∷ b ∷ c ∷ d ∷ []) e = absurd (omega arith)
is_version_by_parts (a ∷ b ∷ c ∷ d ∷ x ∷ []) e = absurd (omega arith)
is_version_by_parts (a ∷ b ∷ c ∷ d ∷ x ∷ y ∷ []) e = absurd (omega arith)
is_version_by_parts (a ∷ b ∷ c ∷ d ∷ x ∷ y ∷ z ∷ []) e = absurd (omega arith)
is_version_by_parts (a ∷ b ∷ c ∷ d ∷ x ∷ y ∷ z ∷ p ∷ []) e = absurd (omega arith)
is_version_by_parts (a ∷ b ∷ c ∷ d ∷ x ∷ y ∷ z ∷ p ∷ q ∷ []) e = absurd (omega arith)
is_version_by_parts (a ∷ b ∷ c ∷ d ∷ x ∷ y ∷ z ∷ p ∷ q ∷ r ∷ []) e = absurd (omega arith)
is_version_by_parts (a ∷ b ∷ c ∷ d ∷ x ∷ y ∷ z ∷ p ∷ q ∷ r ∷ s ∷ []) e = absurd (omega arith)
