-- Words of events, one list of events behind another.
use Rattle.std.proofs.Common.{◌≡◌, ℕ, true, List, [], ◌∷◌, ◌++◌, Result, Ok, Err, OnOk, OnErr, refl, sym, ap, ◌∙◌, append_assoc, append-nil, subst}
use Rattle.std.specs.Prelude.{◌+◌, ◌<◌, length, take, drop, get_or}
use Rattle.std.proofs.lemmas.Bool.{and_parts}
use Rattle.std.proofs.lemmas.List.{map-append, take-append-drop, take_more}
use Rattle.screen.specs.declared.Config.{Config}
use Rattle.screen.specs.declared.Event.{Event}
use Rattle.screen.specs.declared.Event.TheVariants.{Write, Paint, Mark, ScheduleCopy, DoCopy, Bell, CutText, Resize, Connect, Hear, Cut, Close}
use Rattle.screen.specs.declared.ScreenError.{ScreenError}
use Rattle.screen.specs.declared.Input.{Input}
use Rattle.receipts.specs.declared.Receipt.{Receipt}
use Rattle.screen.specs.Alone.{owner_of}
use Rattle.screen.specs.Answers.{is_drawing}
use Rattle.connections.specs.Drawing.{are_drawings}
use Rattle.held_inputs.specs.Held.{Held, after, roomy}
use Rattle.connections.specs.Telling.{Word, Says, Leaves, Told, Said, Left, word_of, words_of, says, said_by, inputs_in, inputs_told, receipts_in, told_for, told_behind, words_by, words_after, IsTold, Stays}
use Rattle.connection.specs.Holding.{held_behind}

pub words-append : (c : Config) (before es fs : List Event) → words_after c before (es ++ fs) ≡ words_after c before es ++ words_after c (before ++ es) fs
words-append c before [] fs = ap (λ l. words_after c l fs) (sym (append-nil before))
words-append c before (e ∷ es) fs =
    let here = words_by c before e in
    ap (λ l. here ++ l) (words-append c (before ++ e ∷ []) es fs)
    ∙ ap (λ b. here ++ (words_after c (before ++ e ∷ []) es ++ words_after c b fs)) (append_assoc before (e ∷ []) es)
    ∙ sym (append_assoc here (words_after c (before ++ e ∷ []) es) (words_after c (before ++ e ∷ es) fs))

drawing-none : (c : Config) (before : List Event) (e : Event) → is_drawing (owner_of e) ≡ true → words_by c before e ≡ []
drawing-none c before (Hear v piece) h = absurd cc
drawing-none c before (Write r colours) h = refl
drawing-none c before (Paint r colours) h = refl
drawing-none c before (Mark r) h = refl
drawing-none c before (ScheduleCopy r dx dy) h = refl
drawing-none c before (DoCopy r dx dy) h = refl
drawing-none c before Bell h = refl
drawing-none c before (CutText text) h = refl
drawing-none c before (Resize w h') h = refl
drawing-none c before (Connect v) h = refl
drawing-none c before (Cut v) h = refl
drawing-none c before (Close v) h = absurd cc

pub words-drawings : (c : Config) (before es : List Event) → are_drawings es ≡ true → words_after c before es ≡ []
words-drawings c before [] h = refl
words-drawings c before (e ∷ es) h =
    let p = and_parts (is_drawing (owner_of e)) (are_drawings es) h in
    ap (λ l. l ++ words_after c (before ++ e ∷ []) es) (drawing-none c before e p.0) ∙ words-drawings c (before ++ e ∷ []) es p.1

pub told-append : (held : Held) (first rest : List Input) → told_behind held (first ++ rest) ≡ told_behind held first ++ told_behind (held_behind held first) rest
told-append held [] rest = refl
told-append held (i ∷ first) rest =
    ap (λ l. told_for held i ++ l) (told-append (after (roomy held) i) first rest) ∙ sym (append_assoc (told_for held i) (told_behind (after (roomy held) i) first) (told_behind (held_behind (after (roomy held) i) first) rest))

pub told-for-more : (held : Held) (inputs : List Input) (k : ℕ) (input : Input) → k < length inputs → get_or inputs k input ≡ input
    → told_behind held (take (k + 1) inputs) ≡ told_behind held (take k inputs) ++ told_for (held_behind held (take k inputs)) input
told-for-more held inputs k input inside is =
    ap (told_behind held) (take_more inputs k input inside ∙ ap (λ i. take k inputs ++ i ∷ []) is) ∙ told-append held (take k inputs) (input ∷ [])
    ∙ ap (λ l. told_behind held (take k inputs) ++ l) (append-nil (told_for (held_behind held (take k inputs)) input))

-- what is told, some behind others, as words, inputs and receipts
pub words-both : (first second : List Told) → words_of (first ++ second) ≡ words_of first ++ words_of second
words-both first second = map-append word_of first second

pub inputs-both : (first second : List Word) → inputs_in (first ++ second) ≡ inputs_in first ++ inputs_in second
inputs-both [] second = refl
inputs-both (Says v input ∷ first) second = ap (λ l. (v, input) ∷ l) (inputs-both first second)
inputs-both (Leaves v ∷ first) second = inputs-both first second

pub inputs-told-both : (first second : List Told) → inputs_told (first ++ second) ≡ inputs_told first ++ inputs_told second
inputs-told-both first second = ap inputs_in (words-both first second) ∙ inputs-both (words_of first) (words_of second)

pub receipts-both : (first second : List Told) → receipts_in (first ++ second) ≡ receipts_in first ++ receipts_in second
receipts-both [] second = refl
receipts-both (Said v input ∷ first) second = receipts-both first second
receipts-both (Left receipt ∷ first) second = ap (λ l. receipt ∷ l) (receipts-both first second)

-- one input more, and one receipt
pub inputs-said : (told : List Told) (v : ℕ) (input : Input) → inputs_told (told ++ Said v input ∷ []) ≡ inputs_told told ++ (v, input) ∷ []
inputs-said told v input = inputs-told-both told (Said v input ∷ [])

pub inputs-left : (told : List Told) (receipt : Receipt) → inputs_told (told ++ Left receipt ∷ []) ≡ inputs_told told
inputs-left told receipt = inputs-told-both told (Left receipt ∷ []) ∙ append-nil (inputs_told told)

pub receipts-said : (told : List Told) (v : ℕ) (input : Input) → receipts_in (told ++ Said v input ∷ []) ≡ receipts_in told
receipts-said told v input = receipts-both told (Said v input ∷ []) ∙ append-nil (receipts_in told)

pub receipts-left : (told : List Told) (receipt : Receipt) → receipts_in (told ++ Left receipt ∷ []) ≡ receipts_in told ++ receipt ∷ []
receipts-left told receipt = receipts-both told (Left receipt ∷ [])

-- a viewer's inputs are told as they were said, and are no receipts
pub said-words : (v : ℕ) (inputs : List Input) → words_of (said_by v inputs) ≡ says v inputs
said-words v [] = refl
said-words v (i ∷ inputs) = ap (λ l. Says v i ∷ l) (said-words v inputs)

pub said-none : (v : ℕ) (inputs : List Input) → receipts_in (said_by v inputs) ≡ []
said-none v [] = refl
said-none v (i ∷ inputs) = said-none v inputs

module _ {A : Type 0} (stands : A → List Told → Type 0) where
  -- an application is told some inputs, and all of them
  abbrev pub IsToldAll : List Told → A → A → Type 0
  IsToldAll inputs old new = IsTold {X = Unit {0}} {E = ScreenError} stands inputs old new (Ok tt)

  any-result : {X E : Type 0} (r : Result X E) (P : Type 0) → P → OnOk r P
  any-result (Ok x) P h = h
  any-result (Err e) P h = tt

  pub told-nothing : {X E : Type 0} (x : A) (r : Result X E) → IsTold stands [] x x r
  told-nothing x r before h = ([], [], refl, any-result r (◌≡◌ {A = List Told} [] []) refl, subst (stands x) (sym (append-nil before)) h)

  all-told : (told rest inputs : List Told) → told ++ rest ≡ inputs → rest ≡ [] → told ≡ inputs
  all-told told rest inputs parts none = sym (append-nil told) ∙ ap (λ l. told ++ l) (sym none) ∙ parts

  -- all, as the result says
  pub told-all : {X E : Type 0} (x m : A) (inputs : List Told) (r : Result X E) (value : X) → r ≡ Ok value → IsTold stands inputs x m r → IsToldAll inputs x m
  told-all {X = X} {E = E} x m inputs r value ok told before h = let p = told before h in (p.0, p.1, p.2, subst (λ (r : Result X E). OnOk r (p.1 ≡ [])) ok p.3, p.4)

  -- all of some, and then others
  pub told-then : {X E : Type 0} (x m n : A) (first second : List Told) (r : Result X E) → IsToldAll first x m → IsTold stands second m n r → IsTold stands (first ++ second) x n r
  told-then x m n first second r all others before h =
      let p = all before h in
      let o = others (before ++ p.0) p.4 in (
        p.0 ++ o.0,
        o.1,
        append_assoc p.0 o.0 o.1 ∙ ap (λ l. p.0 ++ l) o.2 ∙ ap (λ l. l ++ second) (all-told p.0 p.1 first p.2 p.3),
        o.3,
        subst (stands n) (append_assoc before p.0 o.0) o.4,
      )

  -- some, as an error says that ended it
  pub told-ended : {X Y E F : Type 0} (x m : A) (inputs : List Told) (q : Result X E) (r : Result Y F) (f : F) → r ≡ Err f → IsTold stands inputs x m q → IsTold stands inputs x m r
  told-ended {Y = Y} {F = F} x m inputs q r f err told before h = let p = told before h in (p.0, p.1, p.2, subst (λ (r : Result Y F). OnOk r (p.1 ≡ [])) (sym err) tt, p.4)

  -- the first of some, as an error says that ended it
  pub told-cut : {X Y E F : Type 0} (x n : A) (first rest all : List Told) (q : Result X E) (r : Result Y F) (f : F) → r ≡ Err f → first ++ rest ≡ all → IsTold stands first x n q → IsTold stands all x n r
  told-cut {Y = Y} {F = F} x n first rest all q r f err parts told before h =
      let p = told before h in (
        p.0,
        p.1 ++ rest,
        sym (append_assoc p.0 p.1 rest) ∙ ap (λ l. l ++ rest) p.2 ∙ parts,
        subst (λ (r : Result Y F). OnOk r (p.1 ++ rest ≡ [])) (sym err) tt,
        p.4,
      )

  -- a viewer's input more
  pub told-one : (x m n : A) (v : ℕ) (first : List Input) (input : Input) → ((before : List Told) → stands m before → stands n (before ++ Said v input ∷ [])) → IsToldAll (said_by v first) x m → IsToldAll (said_by v (first ++ input ∷ [])) x n
  told-one x m n v first input step told before h =
      let p = told before h in
      let whole = all-told p.0 p.1 (said_by v first) p.2 p.3 in (
        p.0 ++ Said v input ∷ [],
        [],
        append-nil (p.0 ++ Said v input ∷ []) ∙ ap (λ l. l ++ Said v input ∷ []) whole ∙ sym (map-append (λ i. Said v i) first (input ∷ [])),
        refl,
        subst (stands n) (append_assoc before p.0 (Said v input ∷ [])) (step (before ++ p.0) p.4),
      )

  -- of a viewer's inputs one more
  pub told-more : (x m n : A) (v : ℕ) (inputs : List Input) (k : ℕ) (input : Input) → k < length inputs → get_or inputs k input ≡ input
      → ((before : List Told) → stands m before → stands n (before ++ Said v input ∷ [])) → IsToldAll (said_by v (take k inputs)) x m → IsToldAll (said_by v (take (k + 1) inputs)) x n
  told-more x m n v inputs k input inside is step told =
      let more : take (k + 1) inputs ≡ take k inputs ++ input ∷ [] = take_more inputs k input inside ∙ ap (λ i. take k inputs ++ i ∷ []) is in
      subst (λ (l : List Input). IsToldAll (said_by v l) x n) (sym more) (told-one x m n v (take k inputs) input step told)

  -- only the first of a viewer's inputs, as an error says that ended it
  pub told-part : {X F : Type 0} (x n : A) (v : ℕ) (first rest inputs : List Input) (r : Result X F) (f : F) → r ≡ Err f → first ++ rest ≡ inputs → IsToldAll (said_by v first) x n → IsTold stands (said_by v inputs) x n r
  told-part {X = X} {F = F} x n v first rest inputs r f err parts told before h =
      let p = told before h in
      let whole = all-told p.0 p.1 (said_by v first) p.2 p.3 in (
        p.0,
        said_by v rest,
        ap (λ l. l ++ said_by v rest) whole ∙ sym (map-append (λ i. Said v i) first rest) ∙ ap (said_by v) parts,
        subst (λ (r : Result X F). OnOk r (said_by v rest ≡ [])) (sym err) tt,
        p.4,
      )

  pub told-first : {X F : Type 0} (x n : A) (v : ℕ) (inputs : List Input) (k : ℕ) (r : Result X F) (f : F) → r ≡ Err f → IsToldAll (said_by v (take k inputs)) x n → IsTold stands (said_by v inputs) x n r
  told-first x n v inputs k r f err told = told-part x n v (take k inputs) (drop k inputs) inputs r f err (take-append-drop k inputs) told

  -- what it is told of a viewer's inputs goes on with those of one more
  pub told-on : {X E : Type 0} (x m n : A) (v : ℕ) (held : Held) (inputs : List Input) (k : ℕ) (input : Input) (r : Result X E) → k < length inputs → get_or inputs k input ≡ input
      → IsToldAll (said_by v (told_behind held (take k inputs))) x m → IsTold stands (said_by v (told_for (held_behind held (take k inputs)) input)) m n r
      → IsTold stands (said_by v (told_behind held (take (k + 1) inputs))) x n r
  told-on {X = X} {E = E} x m n v held inputs k input r inside is all one =
      let first = told_behind held (take k inputs) in
      let second = told_for (held_behind held (take k inputs)) input in
      subst (λ l. IsTold {X = X} {E = E} stands l x n r) (sym (map-append (λ i. Said v i) first second) ∙ ap (said_by v) (sym (told-for-more held inputs k input inside is)))
      (told-then x m n (said_by v first) (said_by v second) r all one)

  -- and ends there, as an error says
  pub told-until : {X Y E F : Type 0} (x n : A) (v : ℕ) (held : Held) (inputs : List Input) (k : ℕ) (q : Result X E) (r : Result Y F) (f : F) → r ≡ Err f
      → IsTold stands (said_by v (told_behind held (take k inputs))) x n q → IsTold stands (said_by v (told_behind held inputs)) x n r
  told-until x n v held inputs k q r f err told =
      let first = told_behind held (take k inputs) in
      let rest = told_behind (held_behind held (take k inputs)) (drop k inputs) in
      told-cut x n (said_by v first) (said_by v rest) (said_by v (told_behind held inputs)) q r f err
      (sym (map-append (λ i. Said v i) first rest) ∙ ap (said_by v) (sym (told-append held (take k inputs) (drop k inputs)) ∙ ap (told_behind held) (take-append-drop k inputs))) told

  -- that a viewer left: it is told the receipt, or, as an error says, nothing
  pub told-left : {X E : Type 0} (x y : A) (receipt : Receipt) (r : Result X E) → OnOk r ((told : List Told) → stands x told → stands y (told ++ Left receipt ∷ [])) → OnErr r (Stays stands x y) → IsTold stands (Left receipt ∷ []) x y r
  told-left x y receipt (Ok value) told refused before h = (Left receipt ∷ [], [], refl, refl, told before h)
  told-left x y receipt (Err e) told refused before h = ([], Left receipt ∷ [], refl, tt, subst (stands y) (sym (append-nil before)) (refused before h))

  -- all, and what it stands for stays so, whatever the result
  pub told-stays : {X E : Type 0} (x m n : A) (inputs : List Told) (r : Result X E) → IsToldAll inputs x m → Stays stands m n → IsTold stands inputs x n r
  told-stays x m n inputs r told stays before h = let p = told before h in (p.0, p.1, p.2, any-result r (p.1 ≡ []) p.3, stays (before ++ p.0) p.4)
