-- What an ear gives for a piece.
use Rattle.std.proofs.Common.{◌≡◌, ℕ, Bool, true, false, cond, ◌&&◌, List, [], ◌+◌, ◌<◌, ◌≤◌, ◌++◌, length, drop, None, Some, refl, sym, ap, subst, ◌∙◌}
use Rattle.std.proofs.lemmas.Result.{IfOk-weaker}
use Rattle.std.specs.Prelude.{IfSome, IfOk, Result, slice_index, nat_le, ◌==◌}
use Rattle.std.proofs.Math.Seq.{drop-append_seam}
use Rattle.messages.specs.declared.Fault.{Fault}
use Rattle.messages.specs.declared.Item.{Item}
use Rattle.messages.specs.declared.Phase.{Phase}
use Rattle.messages.specs.declared.Phase.TheVariants as phase
use Rattle.messages.specs.Grammar.{End, waiting, faulty}
use Rattle.messages.specs.Reading.{heard, Unfinished, plain, encodings, cut_text, faulted, Rest, rest, unfinished_of, fault_in, fault_in_rest, fault_of, new_items, KeepsEnough, KeepsTheFault}
use Rattle.messages.specs.Steps.{Told, keeps, tells}
use Rattle.messages.specs.declared.ear.Prepared.{Prepared}
use Rattle.messages.specs.declared.text.Text.{Text}
use Rattle.messages.specs.Grammar.{text_limit}
use Rattle.messages.specs.Partial.{rest_at, unfinished_text}
use Rattle.messages.specs.Progress.{Progress, text_goes_on, advanced, CanAdvance}
use Rattle.messages.proofs.Bulk.{text_waits, fault_stays}
use Rattle.messages.proofs.Telling.{heard_tells}

pub fed_items : (s piece : List ℕ) (r : Rest) (t : Told) → r ≡ rest s → t ≡ tells r piece → t.items ≡ new_items s piece
fed_items s piece r t e f =
    ap (λ (u : Told). u.items) (f ∙ ap (λ (q : Rest). tells q piece) e)
    ∙ sym (ap (λ (is : List Item). drop (length (heard s).items) is) (heard_tells s piece).items ∙ drop-append_seam (heard s).items _)

pub fed_rest : (s piece : List ℕ) (r : Rest) (t : Told) → r ≡ rest s → t ≡ tells r piece → t.rest ≡ rest (s ++ piece)
fed_rest s piece r t e f = ap (λ (u : Told). u.rest) (f ∙ ap (λ (q : Rest). tells q piece) e) ∙ sym (heard_tells s piece).rest

-- the fault that is kept is the end
fault_by_end : (p : Phase) (end : End) (bytes : List ℕ) → fault_in (unfinished_of p end bytes) ≡ fault_of end
fault_by_end p (faulty k) bytes = refl
fault_by_end phase.Version waiting bytes = refl
fault_by_end (phase.Choice v) waiting bytes = refl
fault_by_end (phase.Init v) waiting bytes = refl
fault_by_end (phase.Open v) waiting bytes =
    one_of ((slice_index bytes 0 == 2) && nat_le 4 (length bytes)) ((slice_index bytes 0 == 6) && nat_le 8 (length bytes)) _ _ _ refl refl refl
  where
    one_of : (a b : Bool) (x y z : Unfinished) → fault_in x ≡ None → fault_in y ≡ None → fault_in z ≡ None → fault_in (cond a x (cond b y z)) ≡ None
    one_of true b x y z h k l = h
    one_of false true x y z h k l = k
    one_of false false x y z h k l = l

pub keeps_the_fault : KeepsTheFault
keeps_the_fault bytes = fault_by_end (heard bytes).phase (heard bytes).end (heard bytes).unfinished

pub fed_fault : (s piece : List ℕ) (r : Rest) (t : Told) → r ≡ rest s → t ≡ tells r piece → fault_in_rest t.rest ≡ fault_of (heard (s ++ piece)).end
fed_fault s piece r t e f = ap fault_in_rest (fed_rest s piece r t e f) ∙ keeps_the_fault (s ++ piece)

-- what is kept tells all that a further piece adds
same_behind : (is js ks : List Item) → is ++ js ≡ is ++ ks → js ≡ ks
same_behind is js ks e = sym (drop-append_seam is js) ∙ ap (λ (l : List Item). drop (length is) l) e ∙ drop-append_seam is ks

pub keeps_enough : KeepsEnough
keeps_enough s r t e =
    let told : tells (rest s) t ≡ tells (rest r) t = ap (λ (q : Rest). tells q t) e in (
      (heard_tells s t).rest ∙ ap (λ (u : Told). u.rest) told ∙ sym (heard_tells r t).rest,
      λ added f.
          (heard_tells r t).items
          ∙ ap (λ (is : List Item). (heard r).items ++ is) (sym (ap (λ (u : Told). u.items) told) ∙ same_behind (heard s).items (tells (rest s) t).items added (sym (heard_tells s t).items ∙ f)),
    )

-- ---- what is prepared

-- what was prepared is what a piece tells behind what is kept
pub record Foretells (r : Rest) (piece : List ℕ) (p : Prepared) : Type 0 where
  pub items : p.heard.items ≡ (tells r piece).items
  pub fault : p.heard.fault ≡ fault_in_rest (tells r piece).rest
  pub rest : advanced r p.change ≡ (tells r piece).rest

-- a text that goes on
pub keeping_foretells : (r : Rest) (p : Phase) (t : Text) (piece : List ℕ) → r ≡ rest_at p (unfinished_text t) → t.come + length piece < t.length → length t.bytes.items ≤ text_limit
    → (q : Prepared) → q ≡ record { heard = record { items = []; fault = None }; change = text_goes_on piece } → Foretells r piece q
keeping_foretells r p t piece e more short q f =
    let told : tells r piece ≡ keeps p _ = ap (λ (s : Rest). tells s piece) e ∙ text_waits p t.length piece t.bytes.items t.come more short in
    record {
      items = ap (λ (x : Prepared). x.heard.items) f ∙ sym (ap (λ (u : Told). u.items) told);
      fault = ap (λ (x : Prepared). x.heard.fault) f ∙ sym (ap (λ (u : Told). fault_in_rest u.rest) told);
      rest = ap (λ (x : Prepared). advanced r x.change) f ∙ ap (λ (s : Rest). advanced s (text_goes_on piece)) e ∙ sym (ap (λ (u : Told). u.rest) told);
    }

pub foretold_items : (s piece : List ℕ) (r : Rest) → r ≡ rest s → (p : Prepared) → Foretells r piece p → p.heard.items ≡ new_items s piece
foretold_items s piece r e p f = f.items ∙ fed_items s piece r (tells r piece) e refl

pub foretold_fault : (s piece : List ℕ) (r : Rest) → r ≡ rest s → (p : Prepared) → Foretells r piece p → p.heard.fault ≡ fault_of (heard (s ++ piece)).end
foretold_fault s piece r e p f = f.fault ∙ fed_fault s piece r (tells r piece) e refl

pub foretold_rest : (s piece : List ℕ) (r : Rest) → r ≡ rest s → (p : Prepared) → Foretells r piece p → advanced r p.change ≡ rest (s ++ piece)
foretold_rest s piece r e p f = f.rest ∙ fed_rest s piece r (tells r piece) e refl

-- behind a fault
abbrev pub SameFault : Rest → Fault → Prepared → Type 0
SameFault r k p = (p.heard.items ≡ []) × (p.heard.fault ≡ Some k) × (advanced r p.change ≡ r)

pub foretold_faulted : (w : Phase) (k : Fault) (piece : List ℕ) (p : Prepared) → Foretells (rest_at w (faulted k)) piece p → SameFault (rest_at w (faulted k)) k p
foretold_faulted w k piece p f =
    let stays : tells (rest_at w (faulted k)) piece ≡ keeps w (faulted k) = fault_stays w k piece in (
      f.items ∙ ap (λ (u : Told). u.items) stays,
      f.fault ∙ ap (λ (u : Told). fault_in_rest u.rest) stays,
      f.rest ∙ ap (λ (u : Told). u.rest) stays,
    )

pub faulted_then : {E : Type 0} (piece : List ℕ) (r : Rest) (prepared : Result Prepared E) → IfOk prepared (Foretells r piece) → IfSome (fault_in_rest r) (λ k. IfOk prepared (SameFault r k))
faulted_then piece r prepared f = by_kept r.phase r.unfinished f
  where
    by_kept : (w : Phase) (u : Unfinished) → IfOk prepared (Foretells (rest_at w u) piece) → IfSome (fault_in u) (λ k. IfOk prepared (SameFault (rest_at w u) k))
    by_kept w (plain bytes) f = tt
    by_kept w (encodings count come given bytes) f = tt
    by_kept w (cut_text long text come) f = tt
    by_kept w (faulted k) f = IfOk-weaker prepared _ _ (foretold_faulted w k piece) f

-- ---- what is put in place

pub can_take : (r : Rest) (g : Progress) (p : Phase) (t : Text) (bytes : List ℕ) → r ≡ rest_at p (unfinished_text t) → g ≡ text_goes_on bytes → CanAdvance r g → t.come + length bytes < t.length
can_take r g p t bytes e f h =
    let Along : Rest → Type 0 = λ s. CanAdvance s (text_goes_on bytes) in
    let Behind : Progress → Type 0 = λ q. CanAdvance r q in
    subst Along e (subst Behind f h)
