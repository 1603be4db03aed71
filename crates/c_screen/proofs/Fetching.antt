-- Inputs as they are fetched, one by one.
use Rattle.std.proofs.Common.{◌≡◌, ◌≢◌, ℕ, zero, suc, ◌+◌, ◌<◌, ◌≤◌, List, [], ◌∷◌, ◌++◌, map, length, drop, Bool, false, refl, sym, ap, ◌∙◌, arith, slice_set, add-one, append_assoc, length-append}
use Rattle.std.proofs.lemmas.List.{length-map, map-append, append-nil}
use Rattle.screen.specs.declared.Input.{Input}
use Rattle.screen.specs.declared.Input.TheVariants.{Key, Pointer, Text}
use Rattle.c_screen.specs.declared.told.Told.{Told}
use Rattle.c_screen.specs.Inputs.{told_as, is_text, last_text, fetched, IsFetched}

abbrev pub tell : ℕ × Input → Told
tell i = told_as i.0 i.1

-- so far these were fetched, none of which is a text, and so many more fit
pub record Fetching (old now : List (ℕ × Input)) (room_old room_now : List Told) (text : List ℕ) (number : ℕ) : Type 0 where
  pub before : List (ℕ × Input)
  pub fit : ℕ
  pub size : length before ≡ number
  pub bound : number + fit ≡ length room_old
  pub room : room_now ≡ map tell before ++ drop number room_old
  pub rest : before ++ now ≡ old
  pub first : before ++ fetched fit now ≡ fetched (length room_old) old
  pub no_text : last_text text before ≡ text

pub start : (inputs : List (ℕ × Input)) (room : List Told) (text : List ℕ) → Fetching inputs inputs room room text 0
start inputs room text = record { before = []; fit = length room; size = refl; bound = omega arith; room = refl; rest = refl; first = refl; no_text = refl }

-- a place behind a list is written
set_behind : {T : Type 0} (xs ys : List T) (x : T) → length xs < length ys → slice_set (xs ++ drop (length xs) ys) (length xs) x ≡ (xs ++ x ∷ []) ++ drop (suc (length xs)) ys
set_behind [] [] x more = absurd (omega (more, arith))
set_behind [] (y ∷ ys) x more = refl
set_behind (z ∷ xs) [] x more = absurd (omega (more, arith))
set_behind (z ∷ xs) (y ∷ ys) x more = ap (λ l. z ∷ l) (set_behind xs ys x (omega (more, arith)))

put_behind : (before : List (ℕ × Input)) (room_old room_now : List Told) (number : ℕ) (i : ℕ × Input) → length before ≡ number → number < length room_old → room_now ≡ map tell before ++ drop number room_old
    → slice_set room_now number (tell i) ≡ map tell (before ++ i ∷ []) ++ drop (suc number) room_old
put_behind before room_old room_now number i size less room =
    let long : length (map tell before) ≡ number = length-map before tell ∙ size in
    let by_length = set_behind (map tell before) room_old (tell i) (omega (less, long, arith)) in
    rw room (rw (map-append tell before (i ∷ [])) (rw (sym long) by_length))

last_text-append : (text : List ℕ) (xs ys : List (ℕ × Input)) → last_text text (xs ++ ys) ≡ last_text (last_text text xs) ys
last_text-append text [] ys = refl
last_text-append text ((v, Text bytes shortened) ∷ xs) ys = last_text-append bytes xs ys
last_text-append text ((v, Key down key) ∷ xs) ys = last_text-append text xs ys
last_text-append text ((v, Pointer mask x y) ∷ xs) ys = last_text-append text xs ys

last_is_none : (text : List ℕ) (i : ℕ × Input) → is_text i ≡ false → last_text text (i ∷ []) ≡ text
last_is_none text (v, Text bytes shortened) none = absurd (cc)
last_is_none text (v, Key down key) none = refl
last_is_none text (v, Pointer mask x y) none = refl

fetched-more : (fit : ℕ) (i : ℕ × Input) (now : List (ℕ × Input)) → is_text i ≡ false → fetched (suc fit) (i ∷ now) ≡ i ∷ fetched fit now
fetched-more fit i now none = rw none refl

pub is_no_text : (v : ℕ) (i : Input) → ((bytes : List ℕ) (shortened : Bool) → i ≢ Text bytes shortened) → is_text (v, i) ≡ false
is_no_text v (Text bytes shortened) not_text = absurd (not_text bytes shortened refl)
is_no_text v (Key down key) not_text = refl
is_no_text v (Pointer mask x y) not_text = refl

-- one more that is no text
pub one_more : (old all now : List (ℕ × Input)) (room_old room_now : List Told) (text : List ℕ) (number : ℕ) (i : ℕ × Input) (told : Told) → is_text i ≡ false → number < length room_old → all ≡ i ∷ now → told ≡ tell i
    → Fetching old all room_old room_now text number → Fetching old now room_old (slice_set room_now number told) text (number + 1)
one_more old all now room_old room_now text number i told none less is_first is_told f = rw is_told (go f.before f.fit f.size f.bound f.room (ap (λ l. f.before ++ l) (sym is_first) ∙ f.rest) (ap (λ l. f.before ++ fetched f.fit l) (sym is_first) ∙ f.first) f.no_text) where
  go : (before : List (ℕ × Input)) (fit : ℕ) → length before ≡ number → number + fit ≡ length room_old → room_now ≡ map tell before ++ drop number room_old → before ++ i ∷ now ≡ old
      → before ++ fetched fit (i ∷ now) ≡ fetched (length room_old) old → last_text text before ≡ text → Fetching old now room_old (slice_set room_now number (tell i)) text (number + 1)
  go before zero size bound room rest first no_text = absurd (omega (bound, less, arith))
  go before (suc fit) size bound room rest first no_text = record {
    before = before ++ i ∷ [];
    fit = fit;
    size = grind (arith, length-append, size);
    bound = omega (bound, arith);
    room = rw (add-one number) (put_behind before room_old room_now number i size less room);
    rest = append_assoc before (i ∷ []) now ∙ rest;
    first = append_assoc before (i ∷ []) (fetched fit now) ∙ ap (λ l. before ++ l) (sym (fetched-more fit i now none)) ∙ first;
    no_text = last_text-append text before (i ∷ []) ∙ ap (λ t. last_text t (i ∷ [])) no_text ∙ last_is_none text i none;
  }

-- a text, behind which no more are fetched
pub at_text : (old all now : List (ℕ × Input)) (room_old room_now : List Told) (text : List ℕ) (number v : ℕ) (bytes : List ℕ) (shortened : Bool) (told : Told) → number < length room_old → all ≡ (v, Text bytes shortened) ∷ now → told ≡ told_as v (Text bytes shortened)
    → Fetching old all room_old room_now text number → IsFetched (length room_old) old now room_old (slice_set room_now number told) text bytes (number + 1)
at_text old all now room_old room_now text number v bytes shortened told less is_first is_told f = rw is_told (go f.before f.fit f.size f.bound f.room (ap (λ l. f.before ++ l) (sym is_first) ∙ f.rest) (ap (λ l. f.before ++ fetched f.fit l) (sym is_first) ∙ f.first) f.no_text) where
  i : ℕ × Input
  i = (v, Text bytes shortened)

  go : (before : List (ℕ × Input)) (fit : ℕ) → length before ≡ number → number + fit ≡ length room_old → room_now ≡ map tell before ++ drop number room_old → before ++ i ∷ now ≡ old
      → before ++ fetched fit (i ∷ now) ≡ fetched (length room_old) old → last_text text before ≡ text → IsFetched (length room_old) old now room_old (slice_set room_now number (tell i)) text bytes (number + 1)
  go before zero size bound room rest first no_text = absurd (omega (bound, less, arith))
  go before (suc fit) size bound room rest first no_text =
      let all : before ++ i ∷ [] ≡ fetched (length room_old) old = first in
      record {
        count = rw (sym all) (grind (arith, length-append, size));
        others = rw (sym all) (append_assoc before (i ∷ []) now ∙ rest);
        room = rw (sym all) (rw (add-one number) (put_behind before room_old room_now number i size less room));
        text = rw (sym all) (sym (last_text-append text before (i ∷ [])));
      }

-- what was fetched so far is all
ended : (old now : List (ℕ × Input)) (room_old room_now : List Told) (text : List ℕ) (number : ℕ) (f : Fetching old now room_old room_now text number) → f.before ≡ fetched (length room_old) old → IsFetched (length room_old) old now room_old room_now text text number
ended old now room_old room_now text number f all = record {
  count = sym f.size ∙ ap length all;
  others = rw (sym all) f.rest;
  room = rw (sym all) f.room;
  text = rw (sym all) (sym f.no_text);
}

-- no more are there
pub at_end : (old now : List (ℕ × Input)) (room_old room_now : List Told) (text : List ℕ) (number : ℕ) → now ≡ [] → Fetching old now room_old room_now text number → IsFetched (length room_old) old now room_old room_now text text number
at_end old now room_old room_now text number is_none f = ended old now room_old room_now text number f (go f.before f.fit (ap (λ l. f.before ++ fetched f.fit l) (sym is_none) ∙ f.first)) where
  go : (before : List (ℕ × Input)) (fit : ℕ) → before ++ fetched fit [] ≡ fetched (length room_old) old → before ≡ fetched (length room_old) old
  go before zero first = sym (append-nil before) ∙ first
  go before (suc fit) first = sym (append-nil before) ∙ first

-- or there is no more room
pub when_full : (old now : List (ℕ × Input)) (room_old room_now : List Told) (text : List ℕ) (number : ℕ) → length room_old ≤ number → Fetching old now room_old room_now text number → IsFetched (length room_old) old now room_old room_now text text number
when_full old now room_old room_now text number full f = ended old now room_old room_now text number f (go f.before f.fit f.bound f.first) where
  go : (before : List (ℕ × Input)) (fit : ℕ) → number + fit ≡ length room_old → before ++ fetched fit now ≡ fetched (length room_old) old → before ≡ fetched (length room_old) old
  go before zero bound first = sym (append-nil before) ∙ first
  go before (suc fit) bound first = absurd (omega (bound, full, arith))
