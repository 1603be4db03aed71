-- One put after another.
use Rattle.std.proofs.Common.{◌≡◌, ◌≢◌, ℕ, Bool, true, false, List, [], ◌∷◌, ◌++◌, Option, Some, None, refl, sym, ap, ◌∙◌, subst, append_assoc, append-nil}
use Rattle.std.proofs.lemmas.List.{append_cancel_left}
use Rattle.std.specs.Io.KnownBytes.{Appends}
use Rattle.std.proofs.KnownBytes.{Appends-nil, Appends-trans}
use Rattle.scribe.specs.Scribing.{Scribed, IsScribed, Puts}

-- nothing is both
pub not-both : {A : Type 0} (b : Bool) → b ≡ true → b ≡ false → A
not-both b broken fine = let both : true ≡ false = sym broken ∙ fine in absurd cc

-- bytes with more behind them are some
pub some-append : (xs ys : List ℕ) → xs ≢ [] → xs ++ ys ≢ []
some-append [] ys some = λ _. some refl
some-append (x ∷ xs) ys some = λ is. absurd cc

-- a scribe that is new
pub scribed-new : (held : Option (List ℕ)) → IsScribed held [] (record { held = held; waiting = []; broken = false })
scribed-new held = record {
  written = [];
  lost = [];
  grew = Appends-nil held;
  parts = refl;
  whole = λ _. refl;
  lacks = λ broken. not-both false broken refl;
  ended = λ _. refl;
}

-- what is lost with more behind it
pub scribed-ended : (began : Option (List ℕ)) (text more : List ℕ) (s : Scribed) → s.broken ≡ true → IsScribed began text s → IsScribed began (text ++ more) s
scribed-ended began text more s broken h = record {
  written = h.written;
  lost = h.lost ++ more;
  grew = h.grew;
  parts = ap (λ (l : List ℕ). h.written ++ l) (sym (append_assoc s.waiting h.lost more)) ∙ sym (append_assoc h.written (s.waiting ++ h.lost) more) ∙ ap (λ (l : List ℕ). l ++ more) h.parts;
  whole = λ fine. not-both s.broken broken fine;
  lacks = λ _. some-append h.lost more (h.lacks broken);
  ended = h.ended;
}

-- all that was put was written or waits
whole-parts : (began : Option (List ℕ)) (text more : List ℕ) (s : Scribed) (h : IsScribed began text s) → s.broken ≡ false → h.written ++ (s.waiting ++ more) ≡ text ++ more
whole-parts began text more s h fine =
    let none : s.waiting ++ h.lost ≡ s.waiting = ap (λ (l : List ℕ). s.waiting ++ l) (h.whole fine) ∙ append-nil s.waiting in
    sym (append_assoc h.written s.waiting more) ∙ ap (λ (l : List ℕ). (h.written ++ l) ++ more) (sym none) ∙ ap (λ (l : List ℕ). l ++ more) h.parts

-- all that was put, and then what became of what waited and of more
pub scribed-added : (began : Option (List ℕ)) (text more : List ℕ) (s t : Scribed) → s.broken ≡ false → IsScribed began text s → IsScribed s.held (s.waiting ++ more) t → IsScribed began (text ++ more) t
scribed-added began text more s t fine h k = record {
  written = h.written ++ k.written;
  lost = k.lost;
  grew = Appends-trans began s.held t.held h.written k.written h.grew k.grew;
  parts = append_assoc h.written k.written (t.waiting ++ k.lost) ∙ ap (λ (l : List ℕ). h.written ++ l) k.parts ∙ whole-parts began text more s h fine;
  whole = k.whole;
  lacks = k.lacks;
  ended = k.ended;
}

pub puts-nothing : (s : Scribed) → Puts [] s s
puts-nothing s began text h = subst (λ (l : List ℕ). IsScribed began l s) (sym (append-nil text)) h

pub puts-then : (first second : List ℕ) (r s t : Scribed) → Puts first r s → Puts second s t → Puts (first ++ second) r t
puts-then first second r s t a b began text h = subst (λ (l : List ℕ). IsScribed began l t) (append_assoc text first second) (b began (text ++ first) (a began text h))

-- ---- what is broken stays as it is

-- known bytes are followed by one list alone
grows-one : (ks xs ys : List ℕ) (held : Option (List ℕ)) → Appends (Some ks) held xs → Appends (Some ks) held ys → xs ≡ ys
grows-one ks xs ys None h k = absurd h
grows-one ks xs ys (Some ls) h k = append_cancel_left ks xs ys (sym h ∙ k)

grows-nothing : (ks : List ℕ) (held : Option (List ℕ)) → Appends (Some ks) held [] → held ≡ Some ks
grows-nothing ks None h = absurd h
grows-nothing ks (Some ls) h = ap (λ (l : List ℕ). Some l) (h ∙ append-nil ks)

-- two texts that differ at once begin with the same bytes: none
begin-apart : (xs ys zs more : List ℕ) → xs ++ ys ≡ 0 ∷ more → xs ++ zs ≡ 1 ∷ more → xs ≡ []
begin-apart [] ys zs more h k = refl
begin-apart (x ∷ xs) ys zs more h k = absurd cc

-- one byte was lost, which may have been any
lost-one : (ks : List ℕ) (x : ℕ) → IsScribed (Some ks) (x ∷ []) (record { held = Some ks; waiting = []; broken = true })
lost-one ks x = record {
  written = [];
  lost = x ∷ [];
  grew = Appends-nil (Some ks);
  parts = refl;
  whole = λ fine. not-both true refl fine;
  lacks = λ _ none. absurd cc;
  ended = λ _. refl;
}

some-byte : (x : ℕ) (xs : List ℕ) → [] ≡ x ∷ xs → ⊥
some-byte x xs is = absurd cc

-- by what a put is alone: where bytes were lost, nothing is written any more
pub puts-ended : (more ks : List ℕ) (new : Scribed) → Puts more (record { held = Some ks; waiting = []; broken = true }) new → new ≡ record { held = Some ks; waiting = []; broken = true }
puts-ended more ks new puts = go new.broken refl
  where
    zero-lost : IsScribed (Some ks) (0 ∷ more) new
    zero-lost = puts (Some ks) (0 ∷ []) (lost-one ks 0)

    one-lost : IsScribed (Some ks) (1 ∷ more) new
    one-lost = puts (Some ks) (1 ∷ []) (lost-one ks 1)

    same : zero-lost.written ≡ one-lost.written
    same = grows-one ks zero-lost.written one-lost.written new.held zero-lost.grew one-lost.grew

    none : zero-lost.written ≡ []
    none = begin-apart zero-lost.written (new.waiting ++ zero-lost.lost) (new.waiting ++ one-lost.lost) more zero-lost.parts
        (ap (λ (l : List ℕ). l ++ (new.waiting ++ one-lost.lost)) same ∙ one-lost.parts)

    held : new.held ≡ Some ks
    held = grows-nothing ks new.held (subst (Appends (Some ks) new.held) none zero-lost.grew)

    zero-parts : new.waiting ++ zero-lost.lost ≡ 0 ∷ more
    zero-parts = ap (λ (l : List ℕ). l ++ (new.waiting ++ zero-lost.lost)) (sym none) ∙ zero-lost.parts

    one-parts : new.waiting ++ one-lost.lost ≡ 1 ∷ more
    one-parts = ap (λ (l : List ℕ). l ++ (new.waiting ++ one-lost.lost)) (sym none ∙ same) ∙ one-lost.parts

    empty : new.waiting ≡ []
    empty = begin-apart new.waiting zero-lost.lost one-lost.lost more zero-parts one-parts

    go : (b : Bool) → new.broken ≡ b → new ≡ record { held = Some ks; waiting = []; broken = true }
    go true broken = ap (λ (h : Option (List ℕ)). record { held = h; waiting = new.waiting; broken = new.broken }) held
        ∙ ap (λ (w : List ℕ). record { held = Some ks; waiting = w; broken = new.broken }) empty
        ∙ ap (λ (b : Bool). record { held = Some ks; waiting = []; broken = b }) broken
    go false fine = absurd (some-byte 0 more (sym (zero-lost.whole fine) ∙ ap (λ (l : List ℕ). l ++ zero-lost.lost) (sym empty) ∙ zero-parts))
