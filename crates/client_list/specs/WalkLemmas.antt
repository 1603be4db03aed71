-- What a caller's loop over the viewers needs: a walk from `first` by `next` that changes each value or reads it.
use Rattle.std.proofs.Common.{◌≡◌, ℕ, zero, suc, ◌+◌, ◌-◌, ◌<◌, List, [], ◌∷◌, ◌++◌, map, length, take, drop, reverse, Option, Some, None, is_some, true, refl, subst, sym, ap, ◌∙◌, arith, append-nil, Contains}
use Rattle.std.specs.Prelude.{IfSome, slice_get}
use Rattle.std.specs.Map.{keys_of, values_of}
use Rattle.std.specs.Option.{option_map, option_to_list}
use Rattle.std.proofs.lemmas.List.{length-map, take_all, drop_all, reverse-append, reverse-reverse, length-append}
use Rattle.std.proofs.lemmas.Option.{slice_get-map, same_Some}
use Rattle.client_list.specs.Connected.{Connected, index_of, set_value_at, with_value, changed, IsPosition, IsListed, value_at, number_at, passed}
use Rattle.client_list.specs.IndexLemmas.{index_within}

module _ {T : Type 0} where
  -- the measure: a step of a walk leaves fewer viewers to come
  pub walk_falls : (c : Connected T) (here next : Option ℕ) (position : ℕ) → here ≡ Some position → IsPosition c position → passed c next ≡ index_of c.positions position + 1 → length c.positions - passed c next < length c.positions - passed c here
  walk_falls c here next position is there step =
      let from : passed c here ≡ index_of c.positions position = ap (passed c) is in
      omega (arith, from, step, index_within c.positions position there)

  -- the position where a walk stands is a viewer's
  pub walk_position : (c : Connected T) (here : Option ℕ) (position : ℕ) → here ≡ Some position → IfSome here (IsPosition c) → IsPosition c position
  walk_position c here position is stands = subst (λ (o : Option ℕ). IfSome o (IsPosition c)) is stands

  -- ---- a walk that changes values

  -- it has come from `start` to `here`: the pairs that it has passed are as in `target`, the others as they were
  pub record IsWalk (start : Connected T) (target : List (ℕ × T)) (now : Connected T) (here : Option ℕ) : Type 0 where
    pub position : IfSome here (IsPosition now)
    pub positions : now.positions ≡ start.positions
    pub pairs : now.pairs ≡ take (passed now here) target ++ drop (passed now here) start.pairs

  pub walk_start : (start : Connected T) (target : List (ℕ × T)) (here : Option ℕ) → IfSome here (IsPosition start) → passed start here ≡ 0 → IsWalk start target start here
  walk_start start target here stands none = record {
    position = stands;
    positions = refl;
    pairs = sym (ap (λ (n : ℕ). take n target ++ drop n start.pairs) none);
  }

  -- what isn't passed yet is as it was
  later_same : (target old : List (ℕ × T)) (n : ℕ) → keys_of target ≡ keys_of old → slice_get (take n target ++ drop n old) n ≡ slice_get old n
  later_same [] [] zero same = refl
  later_same [] [] (suc n) same = refl
  later_same [] (o ∷ os) n same = absurd (cc)
  later_same (t ∷ ts) [] n same = absurd (cc)
  later_same (t ∷ ts) (o ∷ os) zero same = refl
  later_same (t ∷ ts) (o ∷ os) (suc n) same = later_same ts os n (let tails : keys_of ts ≡ keys_of os = cc in tails)

  -- one more is as in the target
  one_more : (target old : List (ℕ × T)) (n : ℕ) (w : T) → keys_of target ≡ keys_of old → option_map (λ (pair : ℕ × T). pair.1) (slice_get target n) ≡ Some w → set_value_at (take n target ++ drop n old) n w ≡ take (suc n) target ++ drop (suc n) old
  one_more [] old n w same is = absurd (cc)
  one_more (t ∷ ts) [] n w same is = absurd (cc)
  one_more (t ∷ ts) (o ∷ os) zero w same is =
      let heads : t.0 ≡ o.0 = cc in
      ap (λ (k : ℕ). (k, w) ∷ os) (sym heads) ∙ ap (λ (v : T). (t.0, v) ∷ os) (sym (same_Some t.1 w is))
  one_more (t ∷ ts) (o ∷ os) (suc n) w same is =
      let tails : keys_of ts ≡ keys_of os = cc in
      ap (λ (l : List (ℕ × T)). t ∷ l) (one_more ts os n w tails is)

  -- the value where a walk stands is still what it was
  pub walk_value : (start : Connected T) (target : List (ℕ × T)) (now : Connected T) (here : Option ℕ) (position : ℕ) → keys_of target ≡ keys_of start.pairs → IsWalk start target now here → here ≡ Some position → value_at now position ≡ value_at start position
  walk_value start target now here position same walk is =
      let i : ℕ = index_of now.positions position in
      let pairs : now.pairs ≡ take i target ++ drop i start.pairs = subst (λ (o : Option ℕ). now.pairs ≡ take (passed now o) target ++ drop (passed now o) start.pairs) is walk.pairs in
      ap (λ (l : List (ℕ × T)). option_map (λ (pair : ℕ × T). pair.1) (slice_get l i)) pairs
      ∙ ap (option_map (λ (pair : ℕ × T). pair.1)) (later_same target start.pairs i same)
      ∙ ap (λ (l : List ℕ). option_map (λ (pair : ℕ × T). pair.1) (slice_get start.pairs (index_of l position))) walk.positions

  -- a step, once the value at the position is the target's
  pub walk_step : (start : Connected T) (target : List (ℕ × T)) (now : Connected T) (here next : Option ℕ) (position : ℕ) (w : T) → keys_of target ≡ keys_of start.pairs → IsWalk start target now here → here ≡ Some position → option_map (λ (pair : ℕ × T). pair.1) (slice_get target (index_of now.positions position)) ≡ Some w → IfSome next (IsPosition (with_value now (index_of now.positions position) w)) → passed (with_value now (index_of now.positions position) w) next ≡ index_of now.positions position + 1 → IsWalk start target (with_value now (index_of now.positions position) w) next
  walk_step start target now here next position w same walk is wanted stands step =
      let i : ℕ = index_of now.positions position in
      let pairs : now.pairs ≡ take i target ++ drop i start.pairs = subst (λ (o : Option ℕ). now.pairs ≡ take (passed now o) target ++ drop (passed now o) start.pairs) is walk.pairs in
      let count : passed (with_value now i w) next ≡ suc i = omega (arith, step) in
      record {
        position = stands;
        positions = walk.positions;
        pairs =
            ap (λ (l : List (ℕ × T)). set_value_at l i w) pairs
            ∙ one_more target start.pairs i w same wanted
            ∙ sym (ap (λ (n : ℕ). take n target ++ drop n start.pairs) count);
      }

  -- the end of a walk: all pairs are as in the target
  pub walk_end : (start : Connected T) (target : List (ℕ × T)) (now : Connected T) (here : Option ℕ) → keys_of target ≡ keys_of start.pairs → IsListed start → IsWalk start target now here → here ≡ None → now.pairs ≡ target
  walk_end start target now here same listed walk is =
      let n : ℕ = length now.positions in
      let pairs : now.pairs ≡ take n target ++ drop n start.pairs = subst (λ (o : Option ℕ). now.pairs ≡ take (passed now o) target ++ drop (passed now o) start.pairs) is walk.pairs in
      let long : length target ≡ length start.pairs = sym (length-map target (λ e. e.0)) ∙ ap length same ∙ length-map start.pairs (λ e. e.0) in
      let all : n ≡ length start.pairs = ap length walk.positions ∙ sym listed.as_many in
      pairs
      ∙ ap (λ (l : List (ℕ × T)). l ++ drop n start.pairs) (take_all n target (omega (arith, long, all)))
      ∙ ap (λ (l : List (ℕ × T)). target ++ l) (drop_all n start.pairs (omega (arith, all)))
      ∙ append-nil target

  -- ---- the same where each value is changed by f

  pub keys-changed : (f : T → T) (pairs : List (ℕ × T)) → keys_of (changed f pairs) ≡ keys_of pairs
  keys-changed f [] = refl
  keys-changed f (pair ∷ rest) = ap (λ (l : List ℕ). pair.0 ∷ l) (keys-changed f rest)

  pub value-changed : (f : T → T) (pairs : List (ℕ × T)) (i : ℕ) (v : T) → option_map (λ (pair : ℕ × T). pair.1) (slice_get pairs i) ≡ Some v → option_map (λ (pair : ℕ × T). pair.1) (slice_get (changed f pairs) i) ≡ Some (f v)
  value-changed f [] i v is = absurd (cc)
  value-changed f (pair ∷ rest) zero v is = ap (λ (x : T). Some (f x)) (same_Some pair.1 v is)
  value-changed f (pair ∷ rest) (suc i) v is = value-changed f rest i v is

  -- a step: the value v at the position became f v
  pub change_step : (f : T → T) (start now : Connected T) (here next : Option ℕ) (position : ℕ) (v w : T) → IsWalk start (changed f start.pairs) now here → here ≡ Some position → value_at now position ≡ Some v → w ≡ f v → IfSome next (IsPosition (with_value now (index_of now.positions position) w)) → passed (with_value now (index_of now.positions position) w) next ≡ index_of now.positions position + 1 → IsWalk start (changed f start.pairs) (with_value now (index_of now.positions position) w) next
  change_step f start now here next position v w walk is was becomes stands step =
      let same = keys-changed f start.pairs in
      let was_there : value_at start position ≡ Some v = sym (walk_value start (changed f start.pairs) now here position same walk is) ∙ was in
      walk_step start (changed f start.pairs) now here next position w same walk is
      (
      ap (λ (l : List ℕ). option_map (λ (pair : ℕ × T). pair.1) (slice_get (changed f start.pairs) (index_of l position))) walk.positions
      ∙ value-changed f start.pairs (index_of start.positions position) v was_there
      ∙ ap Some (sym becomes)
      )
      stands step

  pub change_end : (f : T → T) (start now : Connected T) (here : Option ℕ) → IsListed start → IsWalk start (changed f start.pairs) now here → here ≡ None → now.pairs ≡ changed f start.pairs
  change_end f start now here listed walk is = walk_end start (changed f start.pairs) now here (keys-changed f start.pairs) listed walk is

-- ---- a walk that reads values

module _ {X : Type 0} where
  pub take_next : (xs : List X) (n : ℕ) (x : X) → slice_get xs n ≡ Some x → take (suc n) xs ≡ take n xs ++ x ∷ []
  take_next [] n x found = absurd (cc)
  take_next (y ∷ ys) zero x found = ap (λ (z : X). z ∷ []) (same_Some y x found)
  take_next (y ∷ ys) (suc n) x found = ap (λ (l : List X). y ∷ l) (take_next ys n x found)

  pub drop_next : (xs : List X) (n : ℕ) (x : X) → slice_get xs n ≡ Some x → drop n xs ≡ x ∷ drop (suc n) xs
  drop_next [] n x found = absurd (cc)
  drop_next (y ∷ ys) zero x found = ap (λ (z : X). z ∷ ys) (same_Some y x found)
  drop_next (y ∷ ys) (suc n) x found = drop_next ys n x found

module _ {T X : Type 0} (g : T → X) where
  -- what a walk makes of a viewer's value, where it makes g of each
  pub read_value : (c : Connected T) (position : ℕ) (v : T) → value_at c position ≡ Some v → slice_get (map g (values_of c.pairs)) (index_of c.positions position) ≡ Some (g v)
  read_value c position v is =
      slice_get-map g (values_of c.pairs) (index_of c.positions position)
      ∙ ap (option_map g) (slice_get-map (λ pair. pair.1) c.pairs (index_of c.positions position) ∙ is)

  -- a step: what it has made so far is one more
  pub read_step : (c : Connected T) (made : List X) (here next : Option ℕ) (position : ℕ) (v : T) → made ≡ take (passed c here) (map g (values_of c.pairs)) → here ≡ Some position → value_at c position ≡ Some v → passed c next ≡ index_of c.positions position + 1 → made ++ g v ∷ [] ≡ take (passed c next) (map g (values_of c.pairs))
  read_step c made here next position v so_far is value step =
      let i : ℕ = index_of c.positions position in
      let count : passed c next ≡ suc i = omega (arith, step) in
      ap (λ (l : List X). l ++ g v ∷ []) (so_far ∙ ap (λ (o : Option ℕ). take (passed c o) (map g (values_of c.pairs))) is)
      ∙ sym (take_next (map g (values_of c.pairs)) i (g v) (read_value c position v value))
      ∙ sym (ap (λ (n : ℕ). take n (map g (values_of c.pairs))) count)

  pub read_end : (c : Connected T) (made : List X) (here : Option ℕ) → IsListed c → made ≡ take (passed c here) (map g (values_of c.pairs)) → here ≡ None → made ≡ map g (values_of c.pairs)
  read_end c made here listed so_far is =
      let long : length (map g (values_of c.pairs)) ≡ length c.pairs = length-map (values_of c.pairs) g ∙ length-map c.pairs (λ e. e.1) in
      so_far
      ∙ ap (λ (o : Option ℕ). take (passed c o) (map g (values_of c.pairs))) is
      ∙ take_all (length c.positions) (map g (values_of c.pairs)) (omega (arith, long, listed.as_many))

-- ---- a walk that reads numbers

module _ {T : Type 0} where
  -- a step: one number more was read
  pub number_step : (c : Connected T) (made : List ℕ) (here next : Option ℕ) (position number : ℕ) → made ≡ take (passed c here) (keys_of c.pairs) → here ≡ Some position → number_at c position ≡ Some number → passed c next ≡ index_of c.positions position + 1 → made ++ number ∷ [] ≡ take (passed c next) (keys_of c.pairs)
  number_step c made here next position number so_far is there step =
      let i : ℕ = index_of c.positions position in
      let count : passed c next ≡ suc i = omega (arith, step) in
      ap (λ (l : List ℕ). l ++ number ∷ []) (so_far ∙ ap (λ (o : Option ℕ). take (passed c o) (keys_of c.pairs)) is)
      ∙ sym (take_next (keys_of c.pairs) i number (slice_get-map (λ pair. pair.0) c.pairs i ∙ there))
      ∙ sym (ap (λ (n : ℕ). take n (keys_of c.pairs)) count)

  pub numbers_end : (c : Connected T) (made : List ℕ) (here : Option ℕ) → IsListed c → made ≡ take (passed c here) (keys_of c.pairs) → here ≡ None → made ≡ keys_of c.pairs
  numbers_end c made here listed so_far is =
      so_far
      ∙ ap (λ (o : Option ℕ). take (passed c o) (keys_of c.pairs)) is
      ∙ take_all (length c.positions) (keys_of c.pairs) (omega (arith, length-map c.pairs (λ e. e.0), listed.as_many))

-- ---- a list that is taken from its end, turned round

module _ {X : Type 0} where
  last_same : (xs ys : List X) (x y : X) → xs ++ x ∷ [] ≡ ys ++ y ∷ [] → (xs ≡ ys) × (x ≡ y)
  last_same xs ys x y e =
      let turned : x ∷ reverse xs ≡ y ∷ reverse ys = sym (reverse-append xs (x ∷ [])) ∙ ap reverse e ∙ reverse-append ys (y ∷ []) in
      let tails : reverse xs ≡ reverse ys = cc in
      let heads : x ≡ y = cc in
      (sym (reverse-reverse xs) ∙ ap reverse tails ∙ reverse-reverse ys, heads)

  -- `pop` gives the next of what was prepared, and leaves the others
  pub taken_next : (made : List X) (n : ℕ) (x : X) (left rest : List X) (popped : Option X) → left ≡ reverse (drop n made) → slice_get made n ≡ Some x → left ≡ rest ++ option_to_list popped → (0 < length left → is_some popped ≡ true) → (popped ≡ Some x) × (rest ≡ reverse (drop (suc n) made))
  taken_next made n x left rest None is found taken variant =
      let some : left ≡ reverse (drop (suc n) made) ++ x ∷ [] = is ∙ ap reverse (drop_next made n x found) ∙ reverse-append (x ∷ []) (drop (suc n) made) in
      let long : 0 < length left = omega (arith, ap length some, length-append (reverse (drop (suc n) made)) (x ∷ [])) in
      let none = variant long in absurd (cc)
  taken_next made n x left rest (Some y) is found taken variant =
      let ends : rest ++ y ∷ [] ≡ reverse (drop (suc n) made) ++ x ∷ [] = sym taken ∙ is ∙ ap reverse (drop_next made n x found) ∙ reverse-append (x ∷ []) (drop (suc n) made) in
      let same = last_same rest (reverse (drop (suc n) made)) y x ends in
      (ap Some same.1, same.0)

module _ {T : Type 0} where
  -- each position has a value
  pub position_has : (c : Connected T) (position : ℕ) → IsListed c → IsPosition c position → (v : T) × (value_at c position ≡ Some v)
  position_has c position listed there = go c.pairs (index_of c.positions position) (omega (arith, listed.as_many, index_within c.positions position there))
    where
      go : (pairs : List (ℕ × T)) (i : ℕ) → i < length pairs → (v : T) × (option_map (λ (pair : ℕ × T). pair.1) (slice_get pairs i) ≡ Some v)
      go [] i within = absurd (omega (arith, within))
      go (pair ∷ rest) zero within = (pair.1, refl)
      go (pair ∷ rest) (suc i) within = go rest i (omega (arith, within))

module _ {T X : Type 0} (g : T → X) where
  -- of things that were prepared, g of each value, and turned round, `pop` gives the one for the position where a walk stands
  pub record TakesNext (start now : Connected T) (position : ℕ) (popped : Option X) (rest : List X) : Type 0 where
    pub value : T
    pub was : value_at now position ≡ Some value
    pub next : popped ≡ Some (g value)
    pub left : rest ≡ reverse (drop (index_of now.positions position + 1) (map g (values_of start.pairs)))

  pub take_step : (start : Connected T) (target : List (ℕ × T)) (now : Connected T) (here : Option ℕ) (position : ℕ) (left rest : List X) (popped : Option X) → keys_of target ≡ keys_of start.pairs → IsListed start → IsWalk start target now here → here ≡ Some position → left ≡ reverse (drop (passed now here) (map g (values_of start.pairs))) → left ≡ rest ++ option_to_list popped → (0 < length left → is_some popped ≡ true) → TakesNext start now position popped rest
  take_step start target now here position left rest popped same listed walk is left_is taken variant =
      let there : IsPosition start position = subst (λ (ps : List ℕ). Contains ps position) walk.positions (walk_position now here position is walk.position) in
      let has = position_has start position listed there in
      let i : ℕ = index_of now.positions position in
      let at : index_of start.positions position ≡ i = sym (ap (λ (ps : List ℕ). index_of ps position) walk.positions) in
      let read : slice_get (map g (values_of start.pairs)) i ≡ Some (g has.0) = sym (ap (slice_get (map g (values_of start.pairs))) at) ∙ read_value g start position has.0 has.1 in
      let stands : left ≡ reverse (drop i (map g (values_of start.pairs))) = left_is ∙ ap (λ (o : Option ℕ). reverse (drop (passed now o) (map g (values_of start.pairs)))) is in
      let next = taken_next (map g (values_of start.pairs)) i (g has.0) left rest popped stands read taken variant in
      record {
        value = has.0;
        was = walk_value start target now here position same walk is ∙ has.1;
        next = next.0;
        left = next.1 ∙ ap (λ (n : ℕ). reverse (drop n (map g (values_of start.pairs)))) (let e : suc i ≡ i + 1 = omega arith in e);
      }
