-- Bytes that two writes take, one behind the other.
use Rattle.std.proofs.Common.{◌≡◌, ℕ, ◌+◌, ◌≤◌, List, ◌++◌, length, take, drop, Option, sym, subst, ap, ◌∙◌, arith}
use Rattle.std.proofs.KnownBytes.{Appends-trans}
use Rattle.std.proofs.Math.Seq.{take-add}
use Rattle.std.proofs.lemmas.List.{take_all}
use Rattle.std.specs.Io.KnownBytes.{Appends}

-- the first write took the whole front, and the second a part of the rest
pub in_two_writes : (a b c : Option (List ℕ)) (all front rest : List ℕ) (n taken further : ℕ) → front ≡ take n all → rest ≡ drop n all → length front ≡ n
    → length front ≤ taken → taken ≤ length front → Appends a b (take taken front) → Appends b c (take further rest) → Appends a c (take (taken + further) all)
in_two_writes a b c all front rest n taken further is_front is_rest long least most p q =
    let e : n ≡ taken = omega arith in
    let whole : take taken front ≡ take n all = take_all taken front least ∙ is_front in
    let joined : take taken front ++ take further rest ≡ take (taken + further) all =
    ap (λ (l : List ℕ). l ++ take further rest) whole ∙ ap (λ (l : List ℕ). take n all ++ take further l) is_rest ∙ sym (take-add n further all)
    ∙ ap (λ (m : ℕ). take (m + further) all) e in
    (let P : List ℕ → Type 0 = λ l. Appends a c l in subst P joined (Appends-trans a b c (take taken front) (take further rest) p q))
