-- What is taken of a list of encodings was listed.
use Rattle.std.proofs.Common.{◌≡◌, zero, suc, ℤ, pos, negsuc, Bool, true, false, cond, ◌||◌, List, [], ◌∷◌, Some, None, Option, refl, sym, ap, ◌∙◌, ◌++◌}
use Rattle.std.specs.Prelude.{unwrap_or, slice_get, filter_map}
use Rattle.std.specs.List.{list_any, cons_option}
use Rattle.std.specs.Ordering.{int_eq}
use Rattle.std.proofs.lemmas.Bool.Decides.{Decides-eqb, Decides-int_eq}
use Rattle.messages.specs.declared.Encoding.{Encoding}
use Rattle.messages.specs.declared.Encoding.TheVariants.{Raw, Rre, Hextile}
use Rattle.messages.specs.Grammar.{encoding_of, first_encoding, is_copyrect, lists_copyrect, lists_desktop_size, is_desktop_size, desktop_size}
use Rattle.viewer_picture.specs.Messages.{may_come}
use Rattle.viewer_picture.specs.Encodings.{number_of}
use Rattle.viewer_picture.specs.Claims.{taken_was_listed}

number-is : (n : ℤ) (x : Encoding) → encoding_of n ≡ Some x → n ≡ number_of x
number-is (pos zero) Raw e = refl
number-is (pos zero) Rre e = absurd cc
number-is (pos zero) Hextile e = absurd cc
number-is (pos (suc zero)) x e = absurd cc
number-is (pos (suc (suc zero))) Raw e = absurd cc
number-is (pos (suc (suc zero))) Rre e = refl
number-is (pos (suc (suc zero))) Hextile e = absurd cc
number-is (pos (suc (suc (suc zero)))) x e = absurd cc
number-is (pos (suc (suc (suc (suc zero))))) x e = absurd cc
number-is (pos (suc (suc (suc (suc (suc zero)))))) Raw e = absurd cc
number-is (pos (suc (suc (suc (suc (suc zero)))))) Rre e = absurd cc
number-is (pos (suc (suc (suc (suc (suc zero)))))) Hextile e = refl
number-is (pos (suc (suc (suc (suc (suc (suc n))))))) x e = absurd cc
number-is (negsuc n) x e = absurd cc

same : (e n : ℤ) → n ≡ e → int_eq e n ≡ true
same e n is = (Decides-int_eq e n).1 (sym is)

or-right : (a b : Bool) → b ≡ true → (a || b) ≡ true
or-right true b e = refl
or-right false b e = e

or-left : (a b : Bool) → a ≡ true → (a || b) ≡ true
or-left true b e = refl
or-left false b e = absurd cc

-- a list with one number more
longer : (n : ℤ) (numbers : List ℤ) (e : ℤ) → may_come numbers e ≡ true → may_come (n ∷ numbers) e ≡ true
longer n numbers e h = go (int_eq e (pos 0)) (int_eq e n) (list_any (int_eq e) numbers) h
  where
    go : (a b c : Bool) → (a || c) ≡ true → (a || (b || c)) ≡ true
    go true b c e = refl
    go false b c e = or-right b c e

first-comes : (numbers : List ℤ) → may_come numbers (number_of (unwrap_or (first_encoding numbers) Raw)) ≡ true
first-comes [] = refl
first-comes (n ∷ numbers) = go (encoding_of n) refl (first-comes numbers)
  where
    go : (o : Option Encoding) → encoding_of n ≡ o → may_come numbers (number_of (unwrap_or (first_encoding numbers) Raw)) ≡ true → may_come (n ∷ numbers) (number_of (unwrap_or (slice_get (cons_option o (filter_map encoding_of numbers)) 0) Raw)) ≡ true
    go None is others = longer n numbers (number_of (unwrap_or (first_encoding numbers) Raw)) others
    go (Some x) is others = or-right (int_eq (number_of x) (pos 0)) (int_eq (number_of x) n || list_any (int_eq (number_of x)) numbers)
        (or-left (int_eq (number_of x) n) (list_any (int_eq (number_of x)) numbers) (same (number_of x) n (number-is n x is)))

copyrect-comes : (numbers : List ℤ) → lists_copyrect numbers ≡ true → may_come numbers (pos 1) ≡ true
copyrect-comes [] e = absurd cc
copyrect-comes (n ∷ numbers) e = go (is_copyrect n) refl e (copyrect-comes numbers)
  where
    one : (n : ℤ) → is_copyrect n ≡ true → n ≡ pos 1
    one (pos k) e = ap pos ((Decides-eqb k 1).0 e)
    one (negsuc k) e = absurd cc

    go : (b : Bool) → is_copyrect n ≡ b → (b || lists_copyrect numbers) ≡ true → (lists_copyrect numbers ≡ true → may_come numbers (pos 1) ≡ true) → may_come (n ∷ numbers) (pos 1) ≡ true
    go true is k others = or-left (int_eq (pos 1) n) (list_any (int_eq (pos 1)) numbers) (same (pos 1) n (one n is))
    go false is k others = longer n numbers (pos 1) (others k)

size-comes : (numbers : List ℤ) → lists_desktop_size numbers ≡ true → may_come numbers desktop_size ≡ true
size-comes [] e = absurd cc
size-comes (n ∷ numbers) e = go (is_desktop_size n) refl e (size-comes numbers)
  where
    go : (b : Bool) → is_desktop_size n ≡ b → (b || lists_desktop_size numbers) ≡ true → (lists_desktop_size numbers ≡ true → may_come numbers desktop_size ≡ true) → may_come (n ∷ numbers) desktop_size ≡ true
    go true is k others = or-left (int_eq desktop_size n) (list_any (int_eq desktop_size) numbers) (same desktop_size n ((Decides-int_eq n desktop_size).0 is))
    go false is k others = longer n numbers desktop_size (others k)

pub taken-listed : taken_was_listed
taken-listed numbers e h = raw (int_eq e (pos 0)) refl h
  where
    preferred : Encoding
    preferred = unwrap_or (first_encoding numbers) Raw

    by : (n : ℤ) → int_eq e n ≡ true → may_come numbers n ≡ true → may_come numbers e ≡ true
    by n is k = ap (may_come numbers) ((Decides-int_eq e n).0 is) ∙ k

    sizes : (c : Bool) → lists_desktop_size numbers ≡ c → list_any (int_eq e) (cond c (desktop_size ∷ []) []) ≡ true → may_come numbers e ≡ true
    sizes false is k = absurd cc
    sizes true is k = one (int_eq e desktop_size) refl k
      where
        one : (b : Bool) → int_eq e desktop_size ≡ b → (b || false) ≡ true → may_come numbers e ≡ true
        one true is_one k = by desktop_size is_one (size-comes numbers is)
        one false is_one k = absurd cc

    copies : (c : Bool) → lists_copyrect numbers ≡ c → list_any (int_eq e) (cond c (pos 1 ∷ []) [] ++ cond (lists_desktop_size numbers) (desktop_size ∷ []) []) ≡ true → may_come numbers e ≡ true
    copies false is k = sizes (lists_desktop_size numbers) refl k
    copies true is k = one (int_eq e (pos 1)) refl k
      where
        one : (b : Bool) → int_eq e (pos 1) ≡ b → (b || list_any (int_eq e) (cond (lists_desktop_size numbers) (desktop_size ∷ []) [])) ≡ true → may_come numbers e ≡ true
        one true is_one k = by (pos 1) is_one (copyrect-comes numbers is)
        one false is_one k = sizes (lists_desktop_size numbers) refl k

    first : (b : Bool) → int_eq e (number_of preferred) ≡ b → (b || list_any (int_eq e) (cond (lists_copyrect numbers) (pos 1 ∷ []) [] ++ cond (lists_desktop_size numbers) (desktop_size ∷ []) [])) ≡ true → may_come numbers e ≡ true
    first true is k = by (number_of preferred) is (first-comes numbers)
    first false is k = copies (lists_copyrect numbers) refl k

    raw : (b : Bool) → int_eq e (pos 0) ≡ b → (b || (int_eq e (number_of preferred) || list_any (int_eq e) (cond (lists_copyrect numbers) (pos 1 ∷ []) [] ++ cond (lists_desktop_size numbers) (desktop_size ∷ []) []))) ≡ true → may_come numbers e ≡ true
    raw true is k = ap (λ b. b || list_any (int_eq e) numbers) is
    raw false is k = first (int_eq e (number_of preferred)) refl k
