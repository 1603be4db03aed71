-- What is read as a rectangle is legal.
use Rattle.std.proofs.Common.{◌≡◌, ℕ, ℤ, pos, ◌+◌, ◌≤◌, Bool, true, false, cond, ◌&&◌, ◌||◌, ◌⊎◌, inl, inr, List, Some, None, Option, refl, sym, ap, ◌∙◌, arith}
use Rattle.std.specs.Prelude.{Contains}
use Rattle.std.specs.List.{list_any}
use Rattle.std.specs.Int.{w16}
use Rattle.std.specs.Ordering.{int_eq}
use Rattle.std.proofs.lemmas.Bool.Decides.{nat_tests, Decides-int_eq}
use Rattle.std.proofs.lemmas.Map.Views.{Contains-from_any}
use Rattle.pixel_translate.specs.declared.Area.{Area}
use Rattle.encode_raw.specs.Reading.{◌>>=◌, number_at, Head, head_at, Shown, copyrect_at}
use Rattle.viewer_picture.specs.Messages.{Agreed, is_in_picture, may_come, copy_at, data_at}
use Rattle.viewer_picture.specs.Claims.{IsIn, IsCopied, IsLegal, all_read_is_legal}

in-it : (g : Agreed) (a : Area) → is_in_picture g a ≡ true → IsIn g a
in-it g a e = record { right = right g a e; bottom = bottom g a e }
  where
    right : (g : Agreed) (a : Area) → is_in_picture g a ≡ true → a.x + a.w ≤ g.width
    right g a e = grind (arith, nat_tests)

    bottom : (g : Agreed) (a : Area) → is_in_picture g a ≡ true → a.y + a.h ≤ g.height
    bottom g a e = grind (arith, nat_tests)

comes : (listed : List ℤ) (e : ℤ) → may_come listed e ≡ true → (e ≡ pos 0) ⊎ Contains listed e
comes listed e h = go (int_eq e (pos 0)) refl h
  where
    go : (b : Bool) → int_eq e (pos 0) ≡ b → (b || list_any (int_eq e) listed) ≡ true → (e ≡ pos 0) ⊎ Contains listed e
    go true is k = inl ((Decides-int_eq e (pos 0)).0 is)
    go false is k = inr (Contains-from_any {eq = int_eq} (λ x y same. (Decides-int_eq x y).0 same) e listed k)

-- what is read of a copy
from-it : (g : Agreed) (a : Area) (shown : Shown) (body : List ℕ) (read : Shown × List ℕ) → copy_at g a shown body ≡ Some read → IsCopied g a body
from-it g a shown body read h = column (number_at w16 body) refl h
  where
    row : (x : ℕ) (rows : List ℕ) → number_at w16 body ≡ Some (x, rows) → (o : Option (ℕ × List ℕ)) → number_at w16 rows ≡ o
        → (o >>= λ y. cond (is_in_picture g (record a { x = x; y = y.0 })) (copyrect_at a shown body) None) ≡ Some read → IsCopied g a body
    row x rows at None is k = absurd cc
    row x rows at (Some y) is k = inside (is_in_picture g (record a { x = x; y = y.0 })) refl k
      where
        inside : (b : Bool) → is_in_picture g (record a { x = x; y = y.0 }) ≡ b → cond b (copyrect_at a shown body) None ≡ Some read → IsCopied g a body
        inside false is_in k = absurd cc
        inside true is_in k = record { x = x; y = y.0; rows = rows; more = y.1; column = at; row = is; source = in-it g (record a { x = x; y = y.0 }) is_in }

    column : (o : Option (ℕ × List ℕ)) → number_at w16 body ≡ o
        → (o >>= λ x. number_at w16 x.1 >>= λ y. cond (is_in_picture g (record a { x = x.0; y = y.0 })) (copyrect_at a shown body) None) ≡ Some read → IsCopied g a body
    column None is k = absurd cc
    column (Some x) is k = row x.0 x.1 is (number_at w16 x.1) refl k

pub legal-read : all_read_is_legal
legal-read g shown bytes read h = headed (head_at bytes) refl h
  where
    tested : (h : Head × List ℕ) → head_at bytes ≡ Some h → (b c : Bool) → is_in_picture g h.0.area ≡ b → may_come g.listed h.0.encoding ≡ c → cond (b && c) (data_at g h.0.area shown h.0.encoding h.1) None ≡ Some read → IsLegal g bytes
    tested h at true true inside listed k = record {
      head = h.0;
      body = h.1;
      begins = at;
      place = in-it g h.0.area inside;
      encoding = comes g.listed h.0.encoding listed;
      copy = λ e. from-it g h.0.area shown h.1 read (sym (ap (λ n. data_at g h.0.area shown n h.1) e) ∙ k);
    }
    tested h at true false inside listed k = absurd cc
    tested h at false c inside listed k = absurd cc

    headed : (o : Option (Head × List ℕ)) → head_at bytes ≡ o
        → (o >>= λ h. cond (is_in_picture g h.0.area && may_come g.listed h.0.encoding) (data_at g h.0.area shown h.0.encoding h.1) None) ≡ Some read → IsLegal g bytes
    headed None at k = absurd cc
    headed (Some h) at k = tested h at (is_in_picture g h.0.area) (may_come g.listed h.0.encoding) refl refl k
