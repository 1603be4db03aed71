-- Steps that write little, one after the other.
use Rattle.std.proofs.Common.{◌≡◌, ◌≤◌, ◌+◌, ◌*◌, ℕ, List, Option, Some, None, length, ap, sym, subst, arith}
use Rattle.std.specs.Io.KnownBytes.{Appends}
use Rattle.std.proofs.lemmas.List.{length-append, length-take}
use Rattle.std.specs.Prelude.{take}
use Rattle.connection.specs.Bounds.{AreWrittenAtMost}
use Rattle.connection.specs.Connection.{Carried}

pub writes-bounded : (n : ℕ) (a b : Option (List ℕ)) (bytes : List ℕ) → Appends a b bytes → length bytes ≤ n → AreWrittenAtMost n a b
writes-bounded n None b bytes h few = tt
writes-bounded n (Some xs) None bytes h few = h
writes-bounded n (Some xs) (Some ys) bytes h few = omega (arith, few, ap (λ (l : List ℕ). length l) h, length-append xs bytes)

pub writes-then : (m n : ℕ) (a b c : Option (List ℕ)) → AreWrittenAtMost m a b → AreWrittenAtMost n b c → AreWrittenAtMost (m + n) a c
writes-then m n None b c g h = tt
writes-then m n (Some xs) None c g h = absurd g
writes-then m n (Some xs) (Some ys) None g h = absurd h
writes-then m n (Some xs) (Some ys) (Some zs) g h = omega (arith, g, h)

-- the first n bytes of a buffer were written, and n is small
pub writes-few : (most n : ℕ) (a b : Option (List ℕ)) (bytes : List ℕ) → Appends a b (take n bytes) → n ≤ most → AreWrittenAtMost most a b
writes-few most n a b bytes h few = writes-bounded most a b (take n bytes) h (omega (arith, few, length-take n bytes))

-- one write more, of at most 64 KB, of a transport that carried the same before it
pub one-write : (k m : ℕ) (a b c d : Carried) → AreWrittenAtMost (k * 65536) a.written b.written → c ≡ b → AreWrittenAtMost 65536 c.written d.written → m ≡ k * 65536 + 65536 → AreWrittenAtMost m a.written d.written
one-write k m a b c d before same once is =
    subst (λ (n : ℕ). AreWrittenAtMost n a.written d.written) (sym is)
    (writes-then (k * 65536) 65536 a.written c.written d.written (subst (λ (x : Carried). AreWrittenAtMost (k * 65536) a.written x.written) (sym same) before) once)
