-- Which items come where a conversation stands.
use Rattle.std.proofs.Common.{◌≡◌, ℕ, Bool, true, false, cond, List, [], ◌∷◌, ◌++◌, length, drop, Result, Ok, Err, refl, sym, ap, subst, ◌∙◌, append_assoc}
use Rattle.std.specs.Prelude.{◌==◌, nat_lt, slice_index}
use Rattle.std.proofs.lemmas.List.{append-nil}
use Rattle.pixel_translate.specs.declared.PixelFormat.{PixelFormat}
use Rattle.pixel_translate.specs.declared.FormatFault.{FormatFault}
use Rattle.pixel_translate.specs.declared.FormatFault.TheVariants as format_fault
use Rattle.pixel_translate.specs.Pixel.{format_of}
use Rattle.messages.specs.declared.Item.{Item}
use Rattle.messages.specs.declared.Item.TheVariants as item
use Rattle.messages.specs.declared.Phase.{Phase}
use Rattle.messages.specs.declared.Phase.TheVariants as phase
use Rattle.messages.specs.declared.Fault.{Fault}
use Rattle.messages.specs.Grammar.{after, End, waiting, faulty}
use Rattle.messages.specs.Reading.{is_version, wanted, meaning, format_meaning, Conversation, with_meaning, with_unfinished, hear_byte, hear, heard, new_items}
use Rattle.messages.specs.PieceLemmas.{reads_in_pieces}

-- an item that comes where the conversation stands
abbrev pub Comes : Phase → Item → Type 0
Comes phase.Version (item.Version v) = Unit {0}
Comes (phase.Choice w) item.Choice = Unit {0}
Comes (phase.Init w) (item.Init shared) = Unit {0}
Comes (phase.Open w) (item.Format f) = Unit {0}
Comes (phase.Open w) (item.Encodings preferred copyrect resize) = Unit {0}
Comes (phase.Open w) (item.Request incremental area) = Unit {0}
Comes (phase.Open w) (item.Input input) = Unit {0}
Comes _ _ = ⊥

abbrev pub Come : Phase → List Item → Type 0
Come p [] = Unit {0}
Come p (i ∷ items) = Comes p i × Come (after p i) items

abbrev pub phase_after : Phase → List Item → Phase
phase_after p [] = p
phase_after p (i ∷ items) = phase_after (after p i) items

come-join : (p : Phase) (xs ys : List Item) → Come p xs → Come (phase_after p xs) ys → Come p (xs ++ ys)
come-join p [] ys h k = k
come-join p (x ∷ xs) ys h k = (h.0, come-join (after p x) xs ys h.1 k)

phase-join : (p : Phase) (xs ys : List Item) → phase_after p (xs ++ ys) ≡ phase_after (phase_after p xs) ys
phase-join p [] ys = refl
phase-join p (x ∷ xs) ys = phase-join (after p x) xs ys

-- ---- what bytes say comes

abbrev OfResult : Phase → Result Item Fault → Type 0
OfResult p (Ok i) = Comes p i
OfResult p (Err k) = Unit {0}

either : (P : Result Item Fault → Type 0) (b : Bool) (x y : Result Item Fault) → P x → P y → P (cond b x y)
either P true x y h k = h
either P false x y h k = k

says : (p : Phase) (bytes : List ℕ) → OfResult p (meaning p bytes)
says phase.Version bytes = either (OfResult phase.Version) (is_version bytes) _ _ tt tt
says (phase.Choice v) bytes = either (OfResult (phase.Choice v)) (slice_index bytes 0 == 1) _ _ tt tt
says (phase.Init v) bytes = tt
says (phase.Open v) bytes =
    let kind = slice_index bytes 0 in
    let P : Result Item Fault → Type 0 = OfResult (phase.Open v) in
    either P (kind == 0) _ _ (format (format_of (drop 4 bytes)))
    (either P (kind == 2) _ _ tt
    (either P (kind == 3) _ _ tt
    (either P (kind == 4) _ _ tt
    (either P (kind == 5) _ _ tt
    (either P (kind == 6) _ _ tt tt)))))
  where
    format : (r : Result PixelFormat FormatFault) → OfResult (phase.Open v) (format_meaning r)
    format (Ok f) = tt
    format (Err format_fault.BadBitsPerPixel) = tt
    format (Err format_fault.ColourMapUnsupported) = tt

-- ---- what is heard

-- a conversation that goes on: the items that it adds come
record Adds (h k : Conversation) : Type 0 where
  added : List Item
  items : k.items ≡ h.items ++ added
  come : Come h.phase added
  phase : k.phase ≡ phase_after h.phase added

adds-none : (h k : Conversation) → k.items ≡ h.items → k.phase ≡ h.phase → Adds h k
adds-none h k e f = record { added = []; items = e ∙ sym (append-nil h.items); come = tt; phase = f }

adds-join : (h k l : Conversation) → Adds h k → Adds k l → Adds h l
adds-join h k l a b = record {
  added = a.added ++ b.added;
  items = b.items ∙ ap (λ (xs : List Item). xs ++ b.added) a.items ∙ append_assoc h.items a.added b.added;
  come = come-join h.phase a.added b.added a.come (subst (λ (p : Phase). Come p b.added) a.phase b.come);
  phase = b.phase ∙ ap (λ (p : Phase). phase_after p b.added) a.phase ∙ sym (phase-join h.phase a.added b.added);
}

meant : (h : Conversation) (r : Result Item Fault) → OfResult h.phase r → Adds h (with_meaning h r)
meant h (Ok i) c = record { added = i ∷ []; items = refl; come = (c, tt); phase = refl }
meant h (Err k) c = adds-none h _ refl refl

unfinished : (h : Conversation) (bytes : List ℕ) → Adds h (with_unfinished h bytes)
unfinished h bytes = go (nat_lt (length bytes) (wanted h.phase bytes))
  where
    go : (b : Bool) → Adds h (cond b (record h { unfinished = bytes }) (with_meaning h (meaning h.phase bytes)))
    go true = adds-none h _ refl refl
    go false = meant h (meaning h.phase bytes) (says h.phase bytes)

byte-adds : (h : Conversation) (b : ℕ) → Adds h (hear_byte h b)
byte-adds h b = go h.end
  where
    go : (end : End) → Adds h (elim end [ waiting ↦ with_unfinished h (h.unfinished ++ b ∷ []) | faulty k ↦ h ])
    go waiting = unfinished h (h.unfinished ++ b ∷ [])
    go (faulty k) = adds-none h h refl refl

hear-adds : (h : Conversation) (bytes : List ℕ) → Adds h (hear h bytes)
hear-adds h [] = adds-none h h refl refl
hear-adds h (b ∷ bytes) = adds-join h (hear_byte h b) (hear (hear_byte h b) bytes) (byte-adds h b) (hear-adds (hear_byte h b) bytes)

drop-front : {X : Type 0} (xs ys : List X) → drop (length xs) (xs ++ ys) ≡ ys
drop-front [] ys = refl
drop-front (x ∷ xs) ys = drop-front xs ys

-- the items that a piece adds come where the conversation stands
pub record Following (before piece : List ℕ) : Type 0 where
  pub come : Come (heard before).phase (new_items before piece)
  pub phase : (heard (before ++ piece)).phase ≡ phase_after (heard before).phase (new_items before piece)

pub following : (before piece : List ℕ) → Following before piece
following before piece =
    let a = hear-adds (heard before) piece in
    let whole = reads_in_pieces before piece in
    let is : new_items before piece ≡ a.added = ap (λ (h : Conversation). drop (length (heard before).items) h.items) whole ∙ ap (drop (length (heard before).items)) a.items ∙ drop-front (heard before).items a.added in
    record {
      come = subst (Come (heard before).phase) (sym is) a.come;
      phase = ap (λ (h : Conversation). h.phase) whole ∙ a.phase ∙ ap (phase_after (heard before).phase) (sym is);
    }
