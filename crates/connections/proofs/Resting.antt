-- A connection that is not looked at has nothing to do.
use Rattle.std.proofs.Common.{◌≡◌, ◌≢◌, ◌⊎◌, inl, inr, ℕ, Bool, true, false, cond, true≢false, List, [], ◌∷◌, Option, Some, None, refl, sym, ap, ◌∙◌, arith}
use Rattle.std.specs.Prelude.{◌==◌, ◌&&◌, ◌||◌, not, is_some, is_none, length}
use Rattle.std.proofs.lemmas.Bool.{or_parts}
use Rattle.std.proofs.lemmas.Bool.Decides.{Decides-eqb}
use Rattle.screen.specs.declared.Config.{Config}
use Rattle.screen.specs.declared.Event.{Event}
use Rattle.screen.specs.Alone.{some_bytes}
use Rattle.receipts.specs.declared.Ended.{Ended}
use Rattle.key_set.specs.Among.{is_among}
use Rattle.connection.specs.Waiting.{waiting_bytes}
use Rattle.connections.specs.Serving.{Began, HasNothingToDo, IsAttended, Serving, Serves, at_key}
use Rattle.connection.specs.Connection.{ViewerConnection, breaks_off, may_read, may_write, has_waiting, over, can_send, has_work}

no-bytes : (l : List ℕ) → some_bytes l ≡ false → l ≡ []
no-bytes [] h = refl
no-bytes (b ∷ l) h = absurd (true≢false h)

second : (x y : Bool) → (x && y) ≡ false → x ≡ true → y ≡ false
second true y h on = h
second false y h on = absurd (true≢false (sym on))

not-over : (ended : Option Ended) (l : List ℕ) → is_some (cond (breaks_off ended || not (some_bytes l)) ended None) ≡ false → (ended ≡ None) ⊎ ((breaks_off ended ≡ false) × (l ≢ []))
not-over None l h = inl refl
not-over (Some ended) l h = go (breaks_off (Some ended)) l refl h
  where
    go : (b : Bool) (l : List ℕ) → breaks_off (Some ended) ≡ b → is_some (cond (b || not (some_bytes l)) (Some ended) None) ≡ false → (◌≡◌ {A = Option Ended} (Some ended) None) ⊎ ((breaks_off (Some ended) ≡ false) × (l ≢ []))
    go true l is h = absurd (true≢false h)
    go false [] is h = absurd (true≢false h)
    go false (b ∷ l) is h = inr (is, λ none. absurd cc)

pub rests : (c : Config) (list : List Event) (s : Serving) (key : ℕ) (e : ViewerConnection) → IsAttended c list s key e → is_among key s.agenda ≡ false → s.surface.drawn ≡ false → HasNothingToDo c list e
rests c list s key e h off still = record {
  stays = not-over e.ended (waiting_bytes e.waiting) parts.1;
  unread = λ live. second (is_none e.ended) e.known.may_read (or_parts _ _ parts.0).0 (ap is_none live);
  written = λ whole takes. no-bytes (waiting_bytes e.waiting) (or_parts _ _ (none-sent whole takes)).1;
  sent = λ live takes. (h.settled (or_parts _ _ (none-sent (ap breaks_off live) takes)).0).sent still;
}
  where
    idle : (b : Bool) → has_work e ≡ b → has_work e ≡ false
    idle true is = absurd (true≢false (sym (h.listed is) ∙ off))
    idle false is = is

    parts : ((may_read e || can_send e) ≡ false) × (is_some (over e) ≡ false)
    parts = or_parts (may_read e || can_send e) (is_some (over e)) (idle (has_work e) refl)

    none-sent : breaks_off e.ended ≡ false → e.known.may_write ≡ true → (e.known.may_cut || has_waiting e) ≡ false
    none-sent whole takes = second (may_write e) (e.known.may_cut || has_waiting e) (or_parts (may_read e) (can_send e) parts.0).1 (ap (λ b. not b && e.known.may_write) whole ∙ takes)

none-listed : (key : ℕ) (agenda : List ℕ) → not (length agenda == 0) ≡ false → is_among key agenda ≡ false
none-listed key [] h = refl
none-listed key (k ∷ agenda) h = go (length (k ∷ agenda) == 0) refl h
  where
    go : (b : Bool) → (length (k ∷ agenda) == 0) ≡ b → not b ≡ false → is_among key (k ∷ agenda) ≡ false
    go true is h = let none = (Decides-eqb (length (k ∷ agenda)) 0).0 is in absurd (omega (arith, none))
    go false is h = absurd (true≢false h)

pub idle-rests : (c : Config) (began : Began) (list : List Event) (s : Serving) (busy : Bool) → busy ≡ (not (length s.agenda == 0) || s.surface.drawn) → Serves c began list s → busy ≡ false
    → (key : ℕ) (e : ViewerConnection) → at_key s.slots key ≡ Some e → HasNothingToDo c list e
idle-rests c began list s busy is serves idle key e there =
    let parts = or_parts _ _ (sym is ∙ idle) in
    rests c list s key e (serves.attended key e there) (none-listed key s.agenda parts.0) parts.1
