-- Who is waited for no longer, one newcomer after the other.
use Rattle.std.proofs.Common.{◌≡◌, ◌≢◌, ◌⊎◌, inl, inr, ℕ, Bool, true, false, List, [], ◌∷◌, ◌++◌, Option, None, Some, refl, sym, ap, ◌∙◌, append_assoc, subst}
use Rattle.std.specs.Prelude.{MatchOption, slice_get, option_map, if◌then◌else◌}
use Rattle.std.proofs.lemmas.Bool.Decides.{eqb_tells}
use Rattle.receipts.specs.declared.Ended.{Ended}
use Rattle.receipts.specs.declared.Ended.TheVariants.{Closed}
use Rattle.connections.specs.Drawing.{Surface}
use Rattle.connections.specs.Serving.{Serving, at_key, number_at}
use Rattle.connection.specs.Connection.{ViewerConnection, ended_or, ended_by}
use Rattle.event_loop.specs.declared.opening.Newcomer.{Newcomer}
use Rattle.event_loop.specs.Parting.{IsEndedAt}
use Rattle.event_loop.specs.Patience.{Each, IsLate, LetsGo, from_opening, is_opening, opens_on}

-- the first one that waits, if there is one, has this key and this number
abbrev pub FirstIs : List Newcomer → Option (ℕ × ℕ) → Type 0
FirstIs items found = MatchOption (slice_get items 0) (found ≡ None) (λ first. found ≡ Some (first.key, first.viewer))

pub first-opens : (s : Serving) (items : List Newcomer) (key viewer : ℕ) → FirstIs items (Some (key, viewer)) → is_opening s key viewer ≡ true → from_opening s items ≡ items
first-opens s [] key viewer first opening = absurd cc
first-opens s (n ∷ rest) key viewer first opening =
    let same : (key, viewer) ≡ (n.key, n.viewer) = cc in
    let here : is_opening s n.key n.viewer ≡ true = subst (λ (p : ℕ × ℕ). is_opening s p.0 p.1 ≡ true) same opening in
    rw here refl

pub none-waits : (s : Serving) (items : List Newcomer) → FirstIs items None → from_opening s items ≡ items
none-waits s [] first = refl
none-waits s (n ∷ rest) first = absurd cc

-- ---- who is forgotten

-- the first ones are gone, and none of them was in its opening
pub record Forgets (s : Serving) (before after : List Newcomer) : Type 0 where
  pub gone : List Newcomer
  pub parts : before ≡ gone ++ after
  pub none : Each (λ n. is_opening s n.key n.viewer ≡ false) gone

forgets-one : (s : Serving) (n : Newcomer) (rest : List Newcomer) (opening : Bool) → is_opening s n.key n.viewer ≡ opening → Forgets s rest (from_opening s rest) → Forgets s (n ∷ rest) (if opening then n ∷ rest else from_opening s rest)
forgets-one s n rest true is f = record { gone = []; parts = refl; none = tt }
forgets-one s n rest false is f = record { gone = n ∷ f.gone; parts = ap (λ l. n ∷ l) f.parts; none = (is, f.none) }

pub forgets : (s : Serving) (items : List Newcomer) → Forgets s items (from_opening s items)
forgets s [] = record { gone = []; parts = refl; none = tt }
forgets s (n ∷ rest) = forgets-one s n rest (is_opening s n.key n.viewer) refl (forgets s rest)

-- ---- who is let go

-- where one is let go, unless it is open or gone
pub record LetsOneGo (key viewer : ℕ) (old new : Serving) : Type 0 where
  pub surface : new.surface ≡ old.surface
  pub opened : is_opening old key viewer ≡ false → new ≡ old
  pub unopened : is_opening old key viewer ≡ true → IsEndedAt Closed key old new
  pub others : (other : ℕ) → other ≢ key → at_key new.slots other ≡ at_key old.slots other

-- so far
pub record Going (patience now : ℕ) (old new : Serving) (before after : List Newcomer) : Type 0 where
  pub goes : LetsGo patience now old new before after
  -- who is in its opening is so still
  pub stays : (key viewer : ℕ) → is_opening new key viewer ≡ is_opening old key viewer
  -- each is as it was, or closed
  pub each : (key : ℕ) → (at_key new.slots key ≡ at_key old.slots key) ⊎ IsEndedAt Closed key old new

-- at first some are forgotten
none-closed : (patience now : ℕ) (s : Serving) (gone : List Newcomer) → Each (λ n. is_opening s n.key n.viewer ≡ false) gone → Each (λ n. is_opening s n.key n.viewer ≡ true → IsLate patience now n × IsEndedAt Closed n.key s s) gone
none-closed patience now s [] none = tt
none-closed patience now s (n ∷ rest) none = ((λ opening. let opened : is_opening s n.key n.viewer ≡ false = none.0 in absurd cc), none-closed patience now s rest none.1)

pub goes-first : (patience now : ℕ) (s : Serving) (before after : List Newcomer) → Forgets s before after → Going patience now s s before after
goes-first patience now s before after f = record {
  goes = record { gone = f.gone; parts = f.parts; closed = none-closed patience now s f.gone f.none; spared = λ key none. refl };
  stays = λ key viewer. refl;
  each = λ key. inl refl;
}

abbrev closing : Option ViewerConnection → Option ViewerConnection
closing found = option_map (ended_by Closed) found

abbrev numbering : Option ViewerConnection → Option ℕ
numbering found = option_map (λ connection. connection.number) found

-- one that ended is the same viewer, and ends once
same-number : (found : Option ViewerConnection) → option_map (λ connection. connection.number) (option_map (ended_by Closed) found) ≡ option_map (λ connection. connection.number) found
same-number None = refl
same-number (Some connection) = refl

or-once : (ended : Option Ended) (reason : Ended) → ended_or (ended_or ended reason) reason ≡ ended_or ended reason
or-once None reason = refl
or-once (Some ended) reason = refl

ended-once : (found : Option ViewerConnection) → option_map (ended_by Closed) (option_map (ended_by Closed) found) ≡ option_map (ended_by Closed) found
ended-once None = refl
ended-once (Some connection) = ap (λ (ended : Option Ended). Some (record connection { ended = ended })) (or-once connection.ended Closed)

-- whoever has a key has it still
same-numbers : (key viewer : ℕ) (old new : Serving) → LetsOneGo key viewer old new → (opening : Bool) → is_opening old key viewer ≡ opening → (k : ℕ) → number_at new.slots k ≡ number_at old.slots k
same-numbers key viewer old new one false is k = ap (λ (s : Serving). number_at s.slots k) (one.opened is)
same-numbers key viewer old new one true is k = elim (eqb_tells k key) [
  | inl same ↦ subst (λ (j : ℕ). number_at new.slots j ≡ number_at old.slots j) (sym same.1) (ap numbering (one.unopened is) ∙ same-number (at_key old.slots key))
  | inr away ↦ ap numbering (one.others k away.1)
]

stays-one : (key viewer : ℕ) (old new : Serving) → LetsOneGo key viewer old new → (k v : ℕ) → is_opening new k v ≡ is_opening old k v
stays-one key viewer old new one k v =
    ap (λ (surface : Surface). opens_on surface.screen (number_at new.slots k) v) one.surface ∙
    ap (λ (number : Option ℕ). opens_on old.surface.screen number v) (same-numbers key viewer old new one (is_opening old key viewer) refl k)

-- one who was closed is so still
closed-still : (old cur new : Serving) (key viewer : ℕ) → LetsOneGo key viewer cur new → (opening : Bool) → is_opening cur key viewer ≡ opening → (k : ℕ) → IsEndedAt Closed k old cur → IsEndedAt Closed k old new
closed-still old cur new key viewer one false is k was = ap (λ (s : Serving). at_key s.slots k) (one.opened is) ∙ was
closed-still old cur new key viewer one true is k was = elim (eqb_tells k key) [
  | inl same ↦ subst (λ (j : ℕ). at_key new.slots j ≡ option_map (ended_by Closed) (at_key old.slots j)) (sym same.1)
      (one.unopened is ∙ ap closing (subst (λ (j : ℕ). IsEndedAt Closed j old cur) same.1 was) ∙ ended-once (at_key old.slots key))
  | inr away ↦ one.others k away.1 ∙ was
]

-- one who is as it was is so still, or closed
same-or-closed : (old cur new : Serving) (key viewer : ℕ) → LetsOneGo key viewer cur new → (opening : Bool) → is_opening cur key viewer ≡ opening → (k : ℕ) → at_key cur.slots k ≡ at_key old.slots k → (at_key new.slots k ≡ at_key old.slots k) ⊎ IsEndedAt Closed k old new
same-or-closed old cur new key viewer one false is k was = inl (ap (λ (s : Serving). at_key s.slots k) (one.opened is) ∙ was)
same-or-closed old cur new key viewer one true is k was = elim (eqb_tells k key) [
  | inl same ↦ inr (subst (λ (j : ℕ). IsEndedAt Closed j old new) (sym same.1) (one.unopened is ∙ ap closing (subst (λ (j : ℕ). at_key cur.slots j ≡ at_key old.slots j) same.1 was)))
  | inr away ↦ inl (one.others k away.1 ∙ was)
]

-- the one that is let go is closed
closed-now : (old cur new : Serving) (key : ℕ) → (at_key cur.slots key ≡ at_key old.slots key) ⊎ IsEndedAt Closed key old cur → IsEndedAt Closed key cur new → IsEndedAt Closed key old new
closed-now old cur new key (inl same) ended = ended ∙ ap closing same
closed-now old cur new key (inr was) ended = ended ∙ ap closing was ∙ ended-once (at_key old.slots key)

each-closed : (patience now : ℕ) (old cur new : Serving) (key viewer : ℕ) → LetsOneGo key viewer cur new → (gone : List Newcomer) → Each (λ n. is_opening old n.key n.viewer ≡ true → IsLate patience now n × IsEndedAt Closed n.key old cur) gone
    → (first : Newcomer) → (is_opening old first.key first.viewer ≡ true → IsLate patience now first × IsEndedAt Closed first.key old new)
    → Each (λ n. is_opening old n.key n.viewer ≡ true → IsLate patience now n × IsEndedAt Closed n.key old new) (gone ++ first ∷ [])
each-closed patience now old cur new key viewer one [] none first last = (last, tt)
each-closed patience now old cur new key viewer one (n ∷ gone) closed first last = (
  (λ opening. let before = closed.0 opening in (before.0, closed-still old cur new key viewer one (is_opening cur key viewer) refl n.key before.1)),
  each-closed patience now old cur new key viewer one gone closed.1 first last,
)

-- what is true of each of them and one more
each-parts : (P : Newcomer → Type 0) (gone : List Newcomer) (first : Newcomer) → Each P (gone ++ first ∷ []) → Each P gone × P first
each-parts P [] first all = (tt, all.0)
each-parts P (n ∷ gone) first all = let rest = each-parts P gone first all.1 in ((all.0, rest.0), rest.1)

-- one more is let go, who is late
pub goes-next : (patience now : ℕ) (old cur new : Serving) (before items after : List Newcomer) (first : Newcomer) → items ≡ first ∷ after → IsLate patience now first → LetsOneGo first.key first.viewer cur new → Going patience now old cur before items → Going patience now old new before after
goes-next patience now old cur new before items after first is late one so =
    let key = first.key in
    let viewer = first.viewer in
    let goes = so.goes in
    let opens : is_opening cur key viewer ≡ is_opening old key viewer = so.stays key viewer in
    record {
      goes = record {
        gone = goes.gone ++ first ∷ [];
        parts = goes.parts ∙ ap (λ l. goes.gone ++ l) is ∙ sym (append_assoc goes.gone (first ∷ []) after);
        closed = each-closed patience now old cur new key viewer one goes.gone goes.closed first (λ opening. (late, closed-now old cur new key (so.each key) (one.unopened (opens ∙ opening))));
        spared = λ k none.
            let parts = each-parts (λ n. n.key ≡ k → is_opening old n.key n.viewer ≡ false) goes.gone first none in
            let was = goes.spared k parts.0 in
            elim (eqb_tells key k) [
              | inl same ↦ ap (λ (s : Serving). at_key s.slots k) (one.opened (opens ∙ parts.1 same.1)) ∙ was
              | inr away ↦ one.others k (λ same. away.1 (sym same)) ∙ was
            ];
      };
      stays = λ k v. stays-one key viewer cur new one k v ∙ so.stays k v;
      each = λ k. elim (so.each k) [
        | inl was ↦ same-or-closed old cur new key viewer one (is_opening cur key viewer) refl k was
        | inr was ↦ inr (closed-still old cur new key viewer one (is_opening cur key viewer) refl k was)
      ];
    }
