-- What a step of the reading leaves to read.
use Rattle.std.proofs.Common.{◌≡◌, ℕ, ◌+◌, ◌-◌, ◌<◌, ◌≤◌, inl, inr, ltb, List, [], ◌∷◌, ◌++◌, length, take, drop, slice_index, min, unwrap_or, refl, sym, ap, subst, ◌∙◌, arith, append_assoc, append-nil}
use Rattle.std.proofs.lemmas.Bool.Decides.{eqb_tells}
use Rattle.std.proofs.lemmas.List.{length-drop, length-take, take_all}
use Rattle.messages.specs.declared.Encoding.TheVariants.{Raw}
use Rattle.messages.specs.declared.Input.TheVariants as input
use Rattle.messages.specs.declared.Item.{Item}
use Rattle.messages.specs.declared.Item.TheVariants as item
use Rattle.messages.specs.declared.Phase.{Phase}
use Rattle.messages.specs.declared.Fault.{Fault}
use Rattle.messages.specs.declared.heads.Head.{Head}
use Rattle.messages.specs.declared.partial.Partial.{Partial}
use Rattle.messages.specs.declared.partial.Numbers.{Numbers}
use Rattle.messages.specs.declared.text.Text.{Text}
use Rattle.messages.specs.Grammar.{text_limit, after}
use Rattle.messages.specs.Reading.{Given, Unfinished, plain, encodings, cut_text, faulted, Rest}
use Rattle.messages.specs.Steps.{head_length, IsHead, Told, keeps, says, fresh, head_tells, number_in, with_number, numbers_tell, adds, then_tells, tells}
use Rattle.messages.specs.Partial.{rest_at, given_by, unfinished_numbers, unfinished_text, unfinished_in, rest_in, reads}
use Rattle.messages.proofs.Bulk.{text_item, head_ends, head_waits, number_ends, number_waits, text_ends, text_waits, fault_stays}

-- what is left of a piece
pub left_of : (used : ℕ) (piece : List ℕ) → take (length piece - used) (drop used piece) ≡ drop used piece
left_of used piece = take_all (length piece - used) (drop used piece) (omega (arith, length-drop used piece))

-- a step that leaves some of the piece, and one that takes all of it
arm : (items items' : List Item) (p : Phase) (u : Unfinished) (r r' : Rest) (t : Told) (used : ℕ) (piece : List ℕ) → r ≡ rest_at p u
    → tells (rest_at p u) piece ≡ then_tells t (λ q. tells q (drop used piece)) → items' ≡ items ++ t.items → r' ≡ t.rest
    → adds items' (tells r' (take (length piece - used) (drop used piece))) ≡ adds items (tells r piece)
arm items items' p u r r' t used piece e f g h =
    ap (λ (bytes : List ℕ). adds items' (tells r' bytes)) (left_of used piece)
    ∙ ap (λ (q : Rest). adds items' (tells q (drop used piece))) h
    ∙ ap (λ (is : List Item). adds is (tells t.rest (drop used piece))) g
    ∙ ap (λ (is : List Item). let told : Told = record { items = is; rest = (tells t.rest (drop used piece)).rest } in told) (append_assoc items t.items (tells t.rest (drop used piece)).items)
    ∙ ap (λ (s : Told). adds items s) (sym f)
    ∙ ap (λ (q : Rest). adds items (tells q piece)) (sym e)

all_taken : (items : List Item) (p : Phase) (u u' : Unfinished) (r r' : Rest) (piece : List ℕ) → r ≡ rest_at p u → tells (rest_at p u) piece ≡ keeps p u' → r' ≡ rest_at p u'
    → adds items (tells r' []) ≡ adds items (tells r piece)
all_taken items p u u' r r' piece e f h =
    ap (λ (q : Rest). adds items (tells q [])) h ∙ ap (λ (s : Told). adds items s) (sym f) ∙ ap (λ (q : Rest). adds items (tells q piece)) (sym e)

-- ---- fronts

pub plain_goes_on : (items items' : List Item) (p p' : Phase) (partial held' : Partial) (bytes piece : List ℕ) (said : Head) (used : ℕ) → unfinished_in partial ≡ plain bytes
    → 0 < used → used ≤ length piece → IsHead p bytes piece said used → items' ≡ items ++ (head_tells p said).items → rest_in p' held' ≡ (head_tells p said).rest
    → reads items' p' held' (take (length piece - used) (drop used piece)) ≡ reads items p partial piece
plain_goes_on items items' p p' partial held' bytes piece said used e some le h f g =
    arm items items' p (plain bytes) (rest_in p partial) (rest_in p' held') (head_tells p said) used piece (ap (rest_at p) e) (head_ends p bytes piece said used h some le) f g

pub plain_waits : (items : List Item) (p : Phase) (partial held' : Partial) (bytes bytes' piece : List ℕ) → unfinished_in partial ≡ plain bytes → unfinished_in held' ≡ plain bytes'
    → bytes' ≡ bytes ++ piece → length bytes' < head_length p (slice_index bytes' 0) → reads items p held' [] ≡ reads items p partial piece
plain_waits items p partial held' bytes bytes' piece e e' f h =
    all_taken items p (plain bytes) (plain (bytes ++ piece)) (rest_in p partial) (rest_in p held') piece (ap (rest_at p) e)
    (head_waits p bytes piece (let P : List ℕ → Type 0 = λ b. length b < head_length p (slice_index b 0) in subst P f h))
    (ap (rest_at p) (e' ∙ ap plain f))

-- ---- numbers

same_count : {a b c d : ℕ} {g h : Given} {m n : List ℕ} → encodings a b g m ≡ encodings c d h n → a ≡ c
same_count e = cc

same_come : {a b c d : ℕ} {g h : Given} {m n : List ℕ} → encodings a b g m ≡ encodings c d h n → b ≡ d
same_come e = cc

same_given : {a b c d : ℕ} {g h : Given} {m n : List ℕ} → encodings a b g m ≡ encodings c d h n → g ≡ h
same_given e = cc

not_yet : (p : Phase) (count come : ℕ) (given : Given) → come < count → numbers_tell p count come given ≡ keeps p (encodings count come given [])
not_yet p count come given lt = elim (eqb_tells come count) [ inl x ↦ absurd (omega (arith, x.1)) | inr x ↦ rw x.0 refl ]

all_come : (p : Phase) (count come : ℕ) (given : Given) → come ≡ count → numbers_tell p count come given ≡ says p (item.Encodings (unwrap_or given.first Raw) given.copyrect given.resize)
all_come p count come given e = elim (eqb_tells come count) [ inl x ↦ rw x.0 refl | inr x ↦ absurd (x.1 e) ]

abbrev next_given : Numbers → List ℕ → ℕ → Given
next_given n piece used = with_number (given_by n) (number_in (n.next.items ++ take used piece))

numbers_arm : (p : Phase) (partial : Partial) (n : Numbers) (piece : List ℕ) (used : ℕ) (t : Told) → used + length n.next.items ≡ 4 → 0 < used → used ≤ length piece
    → numbers_tell p n.count (n.come + 1) (next_given n piece used) ≡ t → tells (rest_at p (unfinished_numbers n)) piece ≡ then_tells t (λ q. tells q (drop used piece))
numbers_arm p partial n piece used t e some le f =
    number_ends p n.count n.come (given_by n) n.next.items piece used e some le ∙ ap (λ (s : Told). then_tells s (λ q. tells q (drop used piece))) f

pub numbers_go_on : (items : List Item) (p : Phase) (partial held' : Partial) (n n' : Numbers) (piece : List ℕ) (used : ℕ) → unfinished_in partial ≡ unfinished_numbers n → unfinished_in held' ≡ unfinished_numbers n'
    → used + length n.next.items ≡ 4 → used ≤ length piece → 0 < used → unfinished_numbers n' ≡ encodings n.count (n.come + 1) (next_given n piece used) []
    → n'.come < n'.count → reads items p held' (take (length piece - used) (drop used piece)) ≡ reads items p partial piece
numbers_go_on items p partial held' n n' piece used e e' whole le some f lt =
    arm items items p (unfinished_numbers n) (rest_in p partial) (rest_in p held') (keeps p (encodings n.count (n.come + 1) (next_given n piece used) [])) used piece (ap (rest_at p) e)
    (numbers_arm p partial n piece used _ whole some le (not_yet p n.count (n.come + 1) (next_given n piece used) (omega (arith, same_count f, same_come f, lt))))
    (sym (append-nil items))
    (ap (rest_at p) (e' ∙ f))

pub numbers_end : (items items' : List Item) (p p' : Phase) (partial held' : Partial) (n n' : Numbers) (piece : List ℕ) (used : ℕ) (said : Item) → unfinished_in partial ≡ unfinished_numbers n
    → used + length n.next.items ≡ 4 → used ≤ length piece → 0 < used → unfinished_numbers n' ≡ encodings n.count (n.come + 1) (next_given n piece used) []
    → n'.count ≤ n'.come → n.come < n.count → said ≡ item.Encodings (unwrap_or n'.first Raw) n'.copyrect n'.resize → items' ≡ items ++ said ∷ [] → rest_in p' held' ≡ fresh (after p said)
    → reads items' p' held' (take (length piece - used) (drop used piece)) ≡ reads items p partial piece
numbers_end items items' p p' partial held' n n' piece used said e whole le some f ge lt g h k =
    let given : given_by n' ≡ next_given n piece used = same_given f in
    let same : said ≡ item.Encodings (unwrap_or (next_given n piece used).first Raw) (next_given n piece used).copyrect (next_given n piece used).resize =
    g ∙ ap (λ (x : Given). item.Encodings (unwrap_or x.first Raw) x.copyrect x.resize) given in
    arm items items' p (unfinished_numbers n) (rest_in p partial) (rest_in p' held') (says p said) used piece (ap (rest_at p) e)
    (numbers_arm p partial n piece used _ whole some le
    (all_come p n.count (n.come + 1) (next_given n piece used) (omega (arith, same_count f, same_come f, ge, lt)) ∙ ap (says p) (sym same)))
    h k

pub numbers_wait : (items : List Item) (p : Phase) (partial held' : Partial) (n n' : Numbers) (piece : List ℕ) → unfinished_in partial ≡ unfinished_numbers n → unfinished_in held' ≡ unfinished_numbers n'
    → length (n.next.items ++ piece) < 4 → unfinished_numbers n' ≡ encodings n.count n.come (given_by n) (n.next.items ++ piece) → reads items p held' [] ≡ reads items p partial piece
numbers_wait items p partial held' n n' piece e e' short f =
    all_taken items p (unfinished_numbers n) _ (rest_in p partial) (rest_in p held') piece (ap (rest_at p) e) (number_waits p n.count n.come (given_by n) n.next.items piece short) (ap (rest_at p) (e' ∙ f))

-- ---- texts

same_length : {a b c d : ℕ} {m n : List ℕ} → cut_text a m b ≡ cut_text c n d → a ≡ c
same_length e = cc

same_kept : {a b c d : ℕ} {m n : List ℕ} → cut_text a m b ≡ cut_text c n d → m ≡ n
same_kept e = cc

same_number : {a b c d : ℕ} {m n : List ℕ} → cut_text a m b ≡ cut_text c n d → b ≡ d
same_number e = cc

-- t' is t with so many bytes of the piece
abbrev pub Takes : Text → Text → List ℕ → ℕ → Type 0
Takes t t' piece used = unfinished_text t' ≡ cut_text t.length (take text_limit (t.bytes.items ++ take used piece)) (t.come + length (take used piece))

come_is : (t t' : Text) (piece : List ℕ) (used : ℕ) → used ≤ length piece → Takes t t' piece used → t'.come ≡ t.come + used
come_is t t' piece used le f = omega (arith, same_number f, length-take used piece)

pub text_short : (t t' : Text) (piece : List ℕ) (used : ℕ) → Takes t t' piece used → length t'.bytes.items ≤ text_limit
text_short t t' piece used f = omega (arith, ap length (same_kept f), length-take text_limit (t.bytes.items ++ take used piece))

pub text_lacks : (t t' : Text) (bytes : List ℕ) → unfinished_text t' ≡ cut_text t.length (take text_limit (t.bytes.items ++ bytes)) (t.come + length bytes) → t.come + length bytes < t.length
    → (t'.come < t'.length) × (length t'.bytes.items ≤ text_limit)
text_lacks t t' bytes f lt = (omega (arith, same_number f, same_length f, lt), omega (arith, ap length (same_kept f), length-take text_limit (t.bytes.items ++ bytes)))

pub text_goes_on : (items : List Item) (p : Phase) (partial held' : Partial) (t t' : Text) (piece : List ℕ) (missing used : ℕ) → unfinished_in partial ≡ unfinished_text t → unfinished_in held' ≡ unfinished_text t'
    → t.come + missing ≡ t.length → used ≡ min missing (length piece) → length t.bytes.items ≤ text_limit → Takes t t' piece used → t'.come < t'.length
    → reads items p held' [] ≡ reads items p partial piece
text_goes_on items p partial held' t t' piece missing used e e' whole least short f lt =
    let all : used ≡ length piece = omega (arith, come_is t t' piece used (omega (arith, least)) f, same_length f) in
    let same : take used piece ≡ piece = take_all used piece (omega (arith, all)) in
    let taken : unfinished_text t' ≡ cut_text t.length (take text_limit (t.bytes.items ++ piece)) (t.come + length piece) =
    f ∙ ap (λ (b : List ℕ). cut_text t.length (take text_limit (t.bytes.items ++ b)) (t.come + length b)) same in
    all_taken items p (unfinished_text t) _ (rest_in p partial) (rest_in p held') piece (ap (rest_at p) e)
    (text_waits p t.length piece t.bytes.items t.come (omega (arith, come_is t t' piece used (omega (arith, least)) f, same_length f)) short)
    (ap (rest_at p) (e' ∙ taken))

pub text_end : (items items' : List Item) (p p' : Phase) (partial held' : Partial) (t t' : Text) (piece : List ℕ) (missing used : ℕ) (said : Item) → unfinished_in partial ≡ unfinished_text t
    → t.come + missing ≡ t.length → used ≡ min missing (length piece) → t.come < t.length → 0 < length piece → Takes t t' piece used → t'.length ≤ t'.come
    → said ≡ item.Input (input.Text t'.bytes.items (ltb text_limit t'.length)) → items' ≡ items ++ said ∷ [] → rest_in p' held' ≡ fresh (after p said)
    → reads items' p' held' (take (length piece - used) (drop used piece)) ≡ reads items p partial piece
text_end items items' p p' partial held' t t' piece missing used said e whole least lt some f ge g h k =
    let said_is : said ≡ text_item t.length (t.bytes.items ++ take used piece) =
    g ∙ ap (λ (n : ℕ). item.Input (input.Text t'.bytes.items (ltb text_limit n))) (same_length f) ∙ ap (λ (b : List ℕ). item.Input (input.Text b (ltb text_limit t.length))) (same_kept f) in
    arm items items' p (unfinished_text t) (rest_in p partial) (rest_in p' held') (says p said) used piece (ap (rest_at p) e)
    (text_ends p t.length piece t.bytes.items t.come used
    (omega (arith, come_is t t' piece used (omega (arith, least)) f, same_length f)) (omega (arith, least)) (omega (arith, least))
    ∙ ap (λ (i : Item). then_tells (says p i) (λ q. tells q (drop used piece))) (sym said_is))
    h k

-- ---- a fault

pub fault_goes_on : (items : List Item) (p : Phase) (partial : Partial) (k : Fault) (piece : List ℕ) → unfinished_in partial ≡ faulted k → reads items p partial [] ≡ reads items p partial piece
fault_goes_on items p partial k piece e = all_taken items p (faulted k) (faulted k) (rest_in p partial) (rest_in p partial) piece (ap (rest_at p) e) (fault_stays p k piece) (ap (rest_at p) e)
