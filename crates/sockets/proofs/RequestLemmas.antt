-- What is done with a browser's connection, step after step.
use Rattle.std.proofs.Common.{◌≡◌, ◌≤◌, ℕ, true, false, List, [], ◌++◌, Option, None, Some, refl, sym, ap, ◌∙◌, append_assoc, append-nil, length, take, arith, subst, inl, inr}
use Rattle.std.specs.Prelude.{IfSome}
use Rattle.std.specs.Io.{StartsWith}
use Rattle.std.specs.Io.KnownBytes.{Appends, Consumes, Keeps}
use Rattle.std.proofs.KnownBytes.{Consumes-trans, Consumes-nil, Appends-kept, Keeps-refl, Keeps-trans}
use Rattle.std.proofs.lemmas.Bool.{cases_Bool}
use Rattle.std.proofs.lemmas.List.{take_all, take_at, take-take}
use Rattle.sockets.specs.declared.request.Step.{Step}
use Rattle.sockets.specs.declared.request.Step.TheVariants.{Waits, Continues, Accepted, Over}
use Rattle.web_opening.specs.Request.{IsVerdictOnHeld}
use Rattle.sockets.specs.Requests.{Known, TakesHead, StaysRefused, IsAccepted, IsRefused, GoesOn, IsStep}

-- what was looked at is what is read
pub takes_head : (old new : Option (List ℕ)) (seen read : List ℕ) (taken : ℕ) → IfSome old (λ bytes. StartsWith bytes seen) → taken ≤ length seen → length read ≡ taken
    → Consumes old new (take taken read) → Consumes old new (take taken seen)
takes_head None new seen read taken looked few size consumed = tt
takes_head (Some xs) None seen read taken looked few size consumed = absurd consumed
takes_head (Some xs) (Some ys) seen read taken looked few size consumed =
    let whole : take taken read ≡ read = take_all taken read (omega arith) in
    let all : xs ≡ read ++ ys = consumed ∙ ap (λ l. l ++ ys) whole in
    let front : take taken xs ≡ read = ap (take taken) all ∙ take_at read ys taken size in
    let seam : take taken (take (length seen) xs) ≡ take taken xs = take-take taken (length seen) xs few in
    let same : take taken seen ≡ read = ap (take taken) (sym looked) ∙ seam ∙ front in
    all ∙ ap (λ l. l ++ ys) (sym same)

-- what was taken whole
pub written_whole : (old new : Option (List ℕ)) (bytes : List ℕ) (n : ℕ) → length bytes ≤ n → Appends old new (take n bytes) → Appends old new bytes
written_whole old new bytes n whole h = subst (Appends old new) (take_all n bytes whole) h

-- bytes of the head, and further ones
pub head-then : (a b d : Known) → TakesHead a b → TakesHead b d → TakesHead a d
head-then a b d g h = record {
  bytes = g.bytes ++ h.bytes;
  head = h.head ∙ ap (λ l. l ++ h.bytes) g.head ∙ append_assoc a.head g.bytes h.bytes;
  unread = Consumes-trans a.unread b.unread d.unread g.bytes h.bytes g.unread h.unread;
  written = Keeps-trans a.written b.written d.written g.written h.written;
  refused = h.refused ∙ g.refused;
}

appends_behind : (a b c : Option (List ℕ)) (bs : List ℕ) → Keeps a b → Appends b c bs → Appends a c bs
appends_behind None b c bs p q = tt
appends_behind (Some x) None c bs p q = absurd p
appends_behind (Some x) (Some y) None bs p q = absurd q
appends_behind (Some x) (Some y) (Some z) bs p q = q ∙ ap (λ l. l ++ bs) p

module _ (hosts origins : List ℕ) where
  pub accepted-then : (n : ℕ) (a b d : Known) → GoesOn hosts origins a b → IsAccepted hosts origins n b d → IsAccepted hosts origins n a d
  accepted-then n a b d g h =
      let t = g.waits h.unrefused in
      record {
        unrefused = sym t.refused ∙ h.unrefused;
        bytes = t.bytes ++ h.bytes;
        head = h.head ∙ ap (λ l. l ++ h.bytes) t.head ∙ append_assoc a.head t.bytes h.bytes;
        unread = Consumes-trans a.unread b.unread d.unread t.bytes h.bytes t.unread h.unread;
        verdict = h.verdict;
        on_held = h.on_held;
        accepts = h.accepts;
        count = h.count;
        written = appends_behind a.written b.written d.written _ t.written h.written;
      }

  refused-then : (a b d : Known) → IsRefused hosts origins a b → StaysRefused b d → IsRefused hosts origins a d
  refused-then a b d r s = record {
    bytes = r.bytes;
    head = s.head ∙ r.head;
    verdict = r.verdict;
    on_held = subst (λ (h : List ℕ). IsVerdictOnHeld hosts origins h r.verdict) (sym s.head) r.on_held;
    refuses = r.refuses;
    written = Appends-kept a.written b.written d.written _ r.written s.written;
  }

  then-refused : (a b d : Known) → TakesHead a b → IsRefused hosts origins b d → IsRefused hosts origins a d
  then-refused a b d t r = record {
    bytes = t.bytes ++ r.bytes;
    head = r.head ∙ ap (λ l. l ++ r.bytes) t.head ∙ append_assoc a.head t.bytes r.bytes;
    verdict = r.verdict;
    on_held = r.on_held;
    refuses = r.refuses;
    written = appends_behind a.written b.written d.written _ t.written r.written;
  }

  stays-then : (a b d : Known) → StaysRefused a b → StaysRefused b d → StaysRefused a d
  stays-then a b d s t = record { head = t.head ∙ s.head; written = Keeps-trans a.written b.written d.written s.written t.written; refused = t.refused ∙ s.refused }

  -- one step and another
  pub goes_then : (a b d : Known) → GoesOn hosts origins a b → GoesOn hosts origins b d → GoesOn hosts origins a d
  goes_then a b d g h = record {
    waits = λ open_still. let t = h.waits open_still in head-then a b d (g.waits (sym t.refused ∙ open_still)) t;
    refused = λ before after. elim (cases_Bool b.refused) [
      | inl by_then ↦ refused-then a b d (g.refused before by_then) (h.stays by_then).1
      | inr not_yet ↦ then-refused a b d (g.waits not_yet) (h.refused not_yet after)
    ];
    stays = λ before. let s = g.stays before in let t = h.stays s.0 in (t.0, stays-then a b d s.1 t.1);
  }

  pub step_then : (s : Step) (a b d : Known) → GoesOn hosts origins a b → IsStep hosts origins s b d → IsStep hosts origins s a d
  step_then Waits a b d g h = goes_then a b d g h
  step_then Continues a b d g h = goes_then a b d g h
  step_then (Accepted n) a b d g h = accepted-then n a b d g h
  step_then Over a b d g h = tt

  -- nothing is done yet
  pub goes_same : (a : Known) → GoesOn hosts origins a a
  goes_same a = record {
    waits = λ open_still. record { bytes = []; head = sym (append-nil a.head); unread = Consumes-nil a.unread; written = Keeps-refl a.written; refused = refl };
    refused = λ before after. let e : false ≡ true = sym before ∙ after in absurd cc;
    stays = λ before. (before, record { head = refl; written = Keeps-refl a.written; refused = refl });
  }
