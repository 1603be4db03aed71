-- No live viewer has a number that is greater than each that connected.
use Rattle.std.proofs.Common.{◌≡◌, ℕ, ◌<◌, Bool, true, false, cond, List, [], ◌∷◌, ◌++◌, Option, Some, None, Result, Ok, Err, sym, refl, ap, ◌∙◌, subst, arith}
use Rattle.std.specs.Prelude.{◌&&◌, ◌||◌, ◌==◌, nat_lt, not, if◌then◌else◌, filter, IsErrAnd, IsOkUnless, MatchBool}
use Rattle.std.specs.List.{list_any, filter_map, cons_option}
use Rattle.std.specs.Map.{lookup}
use Rattle.messages.specs.Reading.{Rest}
use Rattle.viewer.specs.Viewer.{Viewer, KeptViewer, kept_viewer}
use Rattle.screen.specs.declared.Config.{Config}
use Rattle.screen.specs.declared.ScreenError.{ScreenError}
use Rattle.screen.specs.declared.ScreenError.TheVariants as refusals
use Rattle.screen.specs.Refusals.{presence, Refuses}
use Rattle.screen.specs.declared.Event.{Event}
use Rattle.screen.specs.declared.Event.TheVariants.{Write, Paint, Mark, ScheduleCopy, DoCopy, Bell, CutText, Resize, Connect, Hear, Cut, Close}
use Rattle.screen.specs.Answers.{entry_of, viewer_of, after_arrival, live_from}
use Rattle.screen.specs.History.{connects}
use Rattle.screen.specs.State.{State, state, viewer_at}
use Rattle.update_sender.specs.Numbers.{rises, newest, is_next}
use Rattle.update_sender.specs.Locked.{Stands}

abbrev has : ℕ → List ℕ → Bool
has n vs = list_any (λ v. v == n) vs

lt-differs : (a b : ℕ) → a < b → (a == b) ≡ false
lt-differs a b less = search arith

and-left : (a b : Bool) → (a && b) ≡ true → a ≡ true
and-left true b e = refl
and-left false b e = e

and-right : (a b : Bool) → (a && b) ≡ true → b ≡ true
and-right true b e = e
and-right false b e = absurd cc

is-lt : (a b : ℕ) → nat_lt a b ≡ true → a < b
is-lt a b e = search arith

-- the first of a list that rises is below a next number
first-below : (v : ℕ) (vs : List ℕ) (n : ℕ) → rises (v ∷ vs) ≡ true → is_next (newest (v ∷ vs)) n ≡ true → v < n
first-below v [] n r next = is-lt v n next
first-below v (w ∷ vs) n r next =
    let below = first-below w vs n (and-right (nat_lt v w) (rises (w ∷ vs)) r) next in
    let step = is-lt v w (and-left (nat_lt v w) (rises (w ∷ vs)) r) in
    omega (below, step, arith)

rest-rises : (v : ℕ) (vs : List ℕ) → rises (v ∷ vs) ≡ true → rises vs ≡ true
rest-rises v [] r = refl
rest-rises v (w ∷ vs) r = and-right (nat_lt v w) (rises (w ∷ vs)) r

next-lacks : (vs : List ℕ) (n : ℕ) → rises vs ≡ true → is_next (newest vs) n ≡ true → has n vs ≡ false
next-lacks [] n r next = refl
next-lacks (v ∷ []) n r next = ap (λ b. b || false) (lt-differs v n (is-lt v n next))
next-lacks (v ∷ w ∷ vs) n r next =
    ap (λ b. b || has n (w ∷ vs)) (lt-differs v n (first-below v (w ∷ vs) n r next))
    ∙ next-lacks (w ∷ vs) n (rest-rises v (w ∷ vs) r) next

-- ---- the live viewers connected

lacks-append : (n : ℕ) (vs ws : List ℕ) → has n vs ≡ false → has n ws ≡ false → has n (vs ++ ws) ≡ false
lacks-append n [] ws a b = b
lacks-append n (v ∷ vs) ws a b = go (v == n) (λ e. lacks-append n vs ws e b) a
  where
    go : (t : Bool) → (has n vs ≡ false → has n (vs ++ ws) ≡ false) → (t || has n vs) ≡ false → (t || has n (vs ++ ws)) ≡ false
    go true rest e = absurd cc
    go false rest e = rest e

lacks-filter : (n : ℕ) (p : ℕ → Bool) (vs : List ℕ) → has n vs ≡ false → has n (filter p vs) ≡ false
lacks-filter n p [] a = refl
lacks-filter n p (v ∷ vs) a = go (v == n) (p v) refl (λ e. lacks-filter n p vs e) a
  where
    go : (t q : Bool) → (v == n) ≡ t → (has n vs ≡ false → has n (filter p vs) ≡ false) → (t || has n vs) ≡ false → has n (cond q (v ∷ filter p vs) (filter p vs)) ≡ false
    go true q is rest e = absurd cc
    go false true is rest e = ap (λ b. b || has n (filter p vs)) is ∙ rest e
    go false false is rest e = rest e

lacks-head : (n v : ℕ) (vs : List ℕ) → has n (v ∷ vs) ≡ false → has n (v ∷ []) ≡ false
lacks-head n v vs e = go (v == n) e
  where
    go : (t : Bool) → (t || has n vs) ≡ false → (t || false) ≡ false
    go true e = absurd cc
    go false e = refl

lacks-tail : (n v : ℕ) (vs : List ℕ) → has n (v ∷ vs) ≡ false → has n vs ≡ false
lacks-tail n v vs e = go (v == n) e
  where
    go : (t : Bool) → (t || has n vs) ≡ false → has n vs ≡ false
    go true e = absurd cc
    go false e = e

live-lacks : (n : ℕ) (there : List ℕ) (es : List Event) → has n there ≡ false → has n (connects es) ≡ false → has n (live_from there es) ≡ false
live-lacks n there [] a b = a
live-lacks n there (Write r l ∷ es) a b = live-lacks n there es a b
live-lacks n there (Paint r l ∷ es) a b = live-lacks n there es a b
live-lacks n there (Mark r ∷ es) a b = live-lacks n there es a b
live-lacks n there (ScheduleCopy r x y ∷ es) a b = live-lacks n there es a b
live-lacks n there (DoCopy r x y ∷ es) a b = live-lacks n there es a b
live-lacks n there (Bell ∷ es) a b = live-lacks n there es a b
live-lacks n there (CutText t ∷ es) a b = live-lacks n there es a b
live-lacks n there (Resize w k ∷ es) a b = live-lacks n there es a b
live-lacks n there (Hear v p ∷ es) a b = live-lacks n there es a b
live-lacks n there (Cut v ∷ es) a b = live-lacks n there es a b
live-lacks n there (Close v ∷ es) a b = live-lacks n (filter (λ m. not (m == v)) there) es (lacks-filter n (λ m. not (m == v)) there a) b
live-lacks n there (Connect v ∷ es) a b = live-lacks n (after_arrival (Connect v) there) es (go (list_any (λ m. m == v) there)) (lacks-tail n v (connects es) b)
  where
    go : (t : Bool) → has n (if t then there else there ++ v ∷ []) ≡ false
    go true = a
    go false = lacks-append n there (v ∷ []) a (lacks-head n v (connects es) b)

lookup-lacks : (n : ℕ) (viewers : ℕ → Option (Viewer (List ℕ))) (vs : List ℕ) → has n vs ≡ false → lookup {X = KeptViewer} (λ k. k == n) (filter_map (λ v. entry_of v (viewers v)) vs) ≡ None
lookup-lacks n viewers [] a = refl
lookup-lacks n viewers (v ∷ vs) a = go (viewers v) (v == n) refl (λ e. lookup-lacks n viewers vs e) a
  where
    rest : List (ℕ × KeptViewer)
    rest = filter_map (λ v. entry_of v (viewers v)) vs

    go : (o : Option (Viewer (List ℕ))) (t : Bool) → (v == n) ≡ t → (has n vs ≡ false → lookup {X = KeptViewer} (λ k. k == n) rest ≡ None) → (t || has n vs) ≡ false
        → lookup {X = KeptViewer} (λ k. k == n) (cons_option (entry_of v o) rest) ≡ None
    go o true is more e = absurd cc
    go None false is more e = more e
    go (Some w) false is more e = ap (λ b. cond b (Some (kept_viewer w)) (lookup {X = KeptViewer} (λ k. k == n) rest)) is ∙ more e

pub absent : (s : State) (h : List Event) (greatest : Option ℕ) (counted n : ℕ) → Stands s h greatest counted → is_next greatest n ≡ true → viewer_at s n ≡ None
absent s h greatest counted n k next =
    ap (λ t. viewer_at t n) k.stands
    ∙ lookup-lacks n (λ v. viewer_of s.config v h) (live_from [] h)
    (live-lacks n [] h refl (next-lacks (connects h) n k.rising (ap (λ o. is_next o n) k.last ∙ next)))

-- so a next number is refused for memory alone
pub next-refused : {X : Type 0} (Y : Type 0) (r : Result X ScreenError) (e : ScreenError) (s : State) (h : List Event) (greatest : Option ℕ) (counted n : ℕ) → Stands s h greatest counted → is_next greatest n ≡ true
    → Refuses {X = Y} (Err e) (presence (viewer_at s n)) → IsErrAnd r (λ y. y ≡ e) → MatchBool (is_next greatest n) (IsOkUnless r refusals.OutOfMemory) (r ≡ Err refusals.NumberInUse)
next-refused {X = X} Y r e s h greatest counted n k next refused err =
    subst (λ b. MatchBool b (IsOkUnless r refusals.OutOfMemory) (r ≡ Err refusals.NumberInUse)) (sym next)
    (go r err (subst (λ o. Refuses {X = Y} (Err e) (presence o)) (absent s h greatest counted n k next) refused))
  where
    go : (r : Result X ScreenError) → IsErrAnd r (λ y. y ≡ e) → e ≡ refusals.OutOfMemory → IsOkUnless r refusals.OutOfMemory
    go (Ok x) a is = absurd a
    go (Err q) a is = a ∙ is
