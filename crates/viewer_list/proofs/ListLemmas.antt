-- The viewers one by one.
use Rattle.std.proofs.Common.{◌≡◌, ℕ, zero, suc, ◌+◌, ◌<◌, Bool, true, false, cond, not, List, [], ◌∷◌, ◌++◌, length, take, drop, reverse, All, Option, Some, None, true≢false, refl, sym, subst, ◌∙◌, ap, arith}
use Rattle.std.specs.Prelude.{◌==◌, ◌≤◌, is_some, max, nat_le, slice_get}
use Rattle.std.specs.List.{filter_map, cons_option, filter}
use Rattle.std.specs.Map.{keys_of, values_of, lookup}
use Rattle.std.specs.Option.{option_map}
use Rattle.std.proofs.lemmas.Option.{same_Some, slice_get-map}
use Rattle.std.proofs.lemmas.Bool.Decides.{nat_tests}
use Rattle.std.proofs.lemmas.List.{nil_from_length, take_all, length-map, reverse-append, reverse-reverse, append-nil}
use Rattle.std.proofs.lemmas.List.Elements.{All-append, filter_map-append}
use Rattle.client_list.specs.WalkLemmas.{take_next, drop_next}
use Rattle.client_list.specs.Connected.{Connected, IsListed, changed, set_value_at, index_of, value_at, passed}
use Rattle.client_list.specs.CallerLemmas.{lookup-mapped, keys-mapped, mapped-set_value_at}
use Rattle.region.specs.RegionView.{RegionView}
use Rattle.copy_schedule.specs.declared.LogEntry.{LogEntry}
use Rattle.copy_schedule.specs.declared.LogEntry.TheVariants.{Mark}
use Rattle.copy_schedule.specs.Marks.{Marks}
use Rattle.copy_schedule.specs.Log.{IsCutEntry}
use Rattle.copy_schedule.specs.LogLemmas.{resized_logged}
use Rattle.updates.specs.declared.notices.Notice.{Notice}
use Rattle.viewer.specs.Viewer.{KeptViewer, in_view, viewer_resized}
use Rattle.viewer_list.specs.declared.lagging.Lagging.{Lagging}
use Rattle.viewer_list.specs.Lagging.{waiting, caught_up, brought_up, within_end, seen, told_of, resized_of, IsCurrent, Fits, IsJoined, position_within, last_position}
use Rattle.viewer_list.specs.Viewers.{Viewers, IsOfSize, viewer_of, with_viewer, drawn, viewer_noticed}
use Rattle.viewer_list.proofs.LagLemmas.{brought_up_same, brought_up_current, started_same, started_fits, joined_same, joined_fits, drawn_viewer, drawn_fits, logged-alike}

module _ {T : Type 0} (P : T → Type 0) where
  pub all-cons : (x : T) (xs : List T) → P x → All P xs → All P (x ∷ xs)
  all-cons x xs here rest zero d below = here
  all-cons x xs here rest (suc k) d below = rest k d (omega (arith, below))

  pub all-tail : (x : T) (xs : List T) → All P (x ∷ xs) → All P xs
  all-tail x xs all = λ k d below. all (suc k) d (omega (arith, below))

  pub all-head : (x : T) (xs : List T) → All P (x ∷ xs) → P x
  all-head x xs all = all 0 x (omega arith)

  -- of the viewer at an index
  pub all-at : (pairs : List (ℕ × T)) (n : ℕ) (x : T) → All P (values_of pairs) → option_map (λ (pair : ℕ × T). pair.1) (slice_get pairs n) ≡ Some x → P x
  all-at [] n x all there = absurd (cc)
  all-at (pair ∷ pairs) zero x all there = subst P (same_Some pair.1 x there) (all-head pair.1 (values_of pairs) all)
  all-at (pair ∷ pairs) (suc n) x all there = all-at pairs n x (all-tail pair.1 (values_of pairs) all) there

  -- of the viewer with a number
  pub all-numbered : (pairs : List (ℕ × T)) (number : ℕ) (x : T) → All P (values_of pairs) → Some x ≡ lookup (λ n. n == number) pairs → P x
  all-numbered [] number x all there = absurd (cc)
  all-numbered (pair ∷ pairs) number x all there = go (pair.0 == number) there (λ later. all-numbered pairs number x (all-tail pair.1 (values_of pairs) all) later)
    where
      go : (b : Bool) → Some x ≡ cond b (Some pair.1) (lookup (λ n. n == number) pairs) → (Some x ≡ lookup (λ n. n == number) pairs → P x) → P x
      go true e later = subst P (sym (same_Some x pair.1 e)) (all-head pair.1 (values_of pairs) all)
      go false e later = later e

  -- of one more
  pub all-last : (pairs : List (ℕ × T)) (number : ℕ) (x : T) → All P (values_of pairs) → P x → All P (values_of (pairs ++ (number, x) ∷ []))
  all-last [] number x all here = all-cons x [] here all
  all-last (pair ∷ pairs) number x all here = all-cons pair.1 (values_of (pairs ++ (number, x) ∷ [])) (all-head pair.1 (values_of pairs) all) (all-last pairs number x (all-tail pair.1 (values_of pairs) all) here)

  -- once one is another of which it holds
  pub all-set : (pairs : List (ℕ × T)) (i : ℕ) (x : T) → All P (values_of pairs) → P x → All P (values_of (set_value_at pairs i x))
  all-set [] i x all here = all
  all-set (pair ∷ pairs) zero x all here = all-cons x (values_of pairs) here (all-tail pair.1 (values_of pairs) all)
  all-set (pair ∷ pairs) (suc i) x all here = all-cons pair.1 (values_of (set_value_at pairs i x)) (all-head pair.1 (values_of pairs) all) (all-set pairs i x (all-tail pair.1 (values_of pairs) all) here)

  -- of some of them
  pub all-some : (test : ℕ × T → Bool) (pairs : List (ℕ × T)) → All P (values_of pairs) → All P (values_of (filter test pairs))
  all-some test [] all = all
  all-some test (pair ∷ pairs) all =
      let rest = all-some test pairs (all-tail pair.1 (values_of pairs) all) in
      elim (test pair) as (λ b. All P (values_of (cond b (pair ∷ filter test pairs) (filter test pairs)))) [
        | true ↦ all-cons pair.1 (values_of (filter test pairs)) (all-head pair.1 (values_of pairs) all) rest
        | false ↦ rest
      ]

module _ {T : Type 0} (P Q : T → Type 0) (f : T → T) (each : (x : T) → P x → Q (f x)) where
  -- each is changed so that Q holds
  pub all-changed : (pairs : List (ℕ × T)) → All P (values_of pairs) → All Q (values_of (changed f pairs))
  all-changed [] all = λ k d below. absurd (omega (arith, below))
  all-changed (pair ∷ pairs) all = all-cons Q (f pair.1) (values_of (changed f pairs)) (each pair.1 (all-head P pair.1 (values_of pairs) all)) (all-changed pairs (all-tail P pair.1 (values_of pairs) all))

module _ {T : Type 0} (P : T → Type 0) (f : T → T) (each : (x : T) → P x → P (f x)) where
  -- the first ones are changed
  pub all-partly : (pairs : List (ℕ × T)) (n : ℕ) → All P (values_of pairs) → All P (values_of (take n (changed f pairs) ++ drop n pairs))
  all-partly [] zero all = all
  all-partly [] (suc n) all = all
  all-partly (pair ∷ pairs) zero all = all
  all-partly (pair ∷ pairs) (suc n) all = all-cons P (f pair.1) (values_of (take n (changed f pairs) ++ drop n pairs)) (each pair.1 (all-head P pair.1 (values_of pairs) all)) (all-partly pairs n (all-tail P pair.1 (values_of pairs) all))

-- a list that counts none
pub none-counted : {T : Type 0} (xs : List T) (n : ℕ) → n ≡ length xs → (n == 0) ≡ true → xs ≡ []
none-counted xs n count none = nil_from_length xs (sym count ∙ zero_is n none)
  where
    zero_is : (n : ℕ) → (n == 0) ≡ true → n ≡ 0
    zero_is n is = grind (arith, nat_tests)

pub none-told : {T : Type 0} (xs : List T) (n : ℕ) (is_none : Bool) → n ≡ length xs → is_none ≡ (n == 0) → not is_none ≡ false → xs ≡ []
none-told xs n true count is none = none-counted xs n count (sym is)
none-told xs n false count is none = absurd (true≢false none)

-- ---- what is seen

module _ (f : Lagging → Lagging) (log now : List LogEntry) (P : Lagging → Type 0) (each : (l : Lagging) → P l → caught_up now (f l) ≡ caught_up log l) where
  -- each is changed, and seen as before
  pub seen-changed : (pairs : List (ℕ × Lagging)) → All P (values_of pairs) → seen now (changed f pairs) ≡ seen log pairs
  seen-changed [] all = refl
  seen-changed (pair ∷ pairs) all =
      ap (λ (v : KeptViewer). (pair.0, v) ∷ seen now (changed f pairs)) (each pair.1 (all-head P pair.1 (values_of pairs) all))
      ∙ ap (λ (l : List (ℕ × KeptViewer)). (pair.0, caught_up log pair.1) ∷ l) (seen-changed pairs (all-tail P pair.1 (values_of pairs) all))

module _ (log : List LogEntry) (least : ℕ) where
  -- the first ones have caught up
  pub seen-partly : (pairs : List (ℕ × Lagging)) (n : ℕ) → seen log (take n (changed (brought_up log least) pairs) ++ drop n pairs) ≡ seen log pairs
  seen-partly [] zero = refl
  seen-partly [] (suc n) = refl
  seen-partly (pair ∷ pairs) zero = refl
  seen-partly (pair ∷ pairs) (suc n) =
      ap (λ (v : KeptViewer). (pair.0, v) ∷ seen log (take n (changed (brought_up log least) pairs) ++ drop n pairs)) (brought_up_same log least pair.1)
      ∙ ap (λ (l : List (ℕ × KeptViewer)). (pair.0, caught_up log pair.1) ∷ l) (seen-partly pairs n)

  pub seen-brought_up : (pairs : List (ℕ × Lagging)) → All (Fits log) (values_of pairs) → seen log (changed (brought_up log least) pairs) ≡ seen log pairs
  seen-brought_up pairs all = seen-changed (brought_up log least) log log (Fits log) (λ l fits. brought_up_same log least l) pairs all

-- where nothing waits, at the start of an empty log
pub seen-started : (log : List LogEntry) (pairs : List (ℕ × Lagging)) → All (IsCurrent log) (values_of pairs) → seen [] (changed (within_end 0) pairs) ≡ seen log pairs
seen-started log pairs all = seen-changed (within_end 0) log [] (IsCurrent log) (started_same log) pairs all

pub fit-started : (log : List LogEntry) (pairs : List (ℕ × Lagging)) → All (IsCurrent log) (values_of pairs) → All (Fits []) (values_of (changed (within_end 0) pairs))
fit-started log pairs all = all-changed (IsCurrent log) (Fits []) (within_end 0) (λ l any. started_fits l) pairs all

pub current-brought_up : (log : List LogEntry) (pairs : List (ℕ × Lagging)) → All (Fits log) (values_of pairs) → All (IsCurrent log) (values_of (changed (brought_up log 0) pairs))
current-brought_up log pairs all = all-changed (Fits log) (IsCurrent log) (brought_up log 0) (λ l fits. brought_up_current log l) pairs all

-- of viewers, each changed twice
changed-twice : (f g : Lagging → Lagging) (pairs : List (ℕ × Lagging)) → changed g (changed f pairs) ≡ changed (λ l. g (f l)) pairs
changed-twice f g [] = refl
changed-twice f g (pair ∷ pairs) = ap (λ (ps : List (ℕ × Lagging)). (pair.0, g (f pair.1)) ∷ ps) (changed-twice f g pairs)

-- some entries are joined
module _ (log : List LogEntry) (position end : ℕ) (region : RegionView) (within : position < length log) (ends : end ≡ position + 1) (joins : IsJoined (drop position log) region) (pairs : List (ℕ × Lagging)) (all : All (Fits log) (values_of pairs)) where
  pub seen-joined : seen (take position log ++ Mark region ∷ []) (changed (within_end end) (changed (brought_up log (position + 1)) pairs)) ≡ seen log pairs
  seen-joined =
      ap (seen (take position log ++ Mark region ∷ [])) (changed-twice (brought_up log (position + 1)) (within_end end) pairs)
      ∙ seen-changed (λ l. within_end end (brought_up log (position + 1) l)) log (take position log ++ Mark region ∷ []) (Fits log) (λ l fits. joined_same log position end region within ends joins l) pairs all

  pub fit-joined : All (Fits (take position log ++ Mark region ∷ [])) (values_of (changed (within_end end) (changed (brought_up log (position + 1)) pairs)))
  fit-joined =
      subst (λ (ps : List (ℕ × Lagging)). All (Fits (take position log ++ Mark region ∷ [])) (values_of ps)) (sym (changed-twice (brought_up log (position + 1)) (within_end end) pairs))
      (all-changed (Fits log) (Fits (take position log ++ Mark region ∷ [])) (λ l. within_end end (brought_up log (position + 1) l)) (joined_fits log position end region within ends joins) pairs all)

-- a drawing call
pub seen-drawn : (log : List LogEntry) (e : LogEntry) (pairs : List (ℕ × Lagging)) → All (Fits log) (values_of pairs) → seen (log ++ e ∷ []) pairs ≡ changed (drawn e) (seen log pairs)
seen-drawn log e [] all = refl
seen-drawn log e (pair ∷ pairs) all =
    ap (λ (v : KeptViewer). (pair.0, v) ∷ seen (log ++ e ∷ []) pairs) (drawn_viewer log e pair.1 (all-head (Fits log) pair.1 (values_of pairs) all))
    ∙ ap (λ (l : List (ℕ × KeptViewer)). (pair.0, drawn e (caught_up log pair.1)) ∷ l) (seen-drawn log e pairs (all-tail (Fits log) pair.1 (values_of pairs) all))

-- a copy is on the screen of each
pub cut-seen : (log : List LogEntry) (e : LogEntry) (pairs : List (ℕ × Lagging)) → All (λ v. IsCutEntry v.marks.width v.marks.height e) (values_of (seen log pairs)) → All (λ l. IsCutEntry l.viewer.marks.width l.viewer.marks.height e) (values_of pairs)
cut-seen log e [] all = λ k d below. absurd (omega (arith, below))
cut-seen log e (pair ∷ pairs) all =
    let alike = logged-alike pair.1.viewer.uses_copyrect (waiting log pair.1) pair.1.viewer.marks in
    let here = all-head (λ (v : KeptViewer). IsCutEntry v.marks.width v.marks.height e) (caught_up log pair.1) (values_of (seen log pairs)) all in
    all-cons (λ (l : Lagging). IsCutEntry l.viewer.marks.width l.viewer.marks.height e) pair.1 (values_of pairs)
    (subst (λ (h : ℕ). IsCutEntry pair.1.viewer.marks.width h e) alike.height (subst (λ (w : ℕ). IsCutEntry w (caught_up log pair.1).marks.height e) alike.width here))
    (cut-seen log e pairs (all-tail (λ (v : KeptViewer). IsCutEntry v.marks.width v.marks.height e) (caught_up log pair.1) (values_of (seen log pairs)) all))

pub fit-drawn : (log : List LogEntry) (e : LogEntry) (pairs : List (ℕ × Lagging)) → All (Fits log) (values_of pairs) → All (λ l. IsCutEntry l.viewer.marks.width l.viewer.marks.height e) (values_of pairs) → All (Fits (log ++ e ∷ [])) (values_of pairs)
fit-drawn log e [] all cut = λ k d below. absurd (omega (arith, below))
fit-drawn log e (pair ∷ pairs) all cut =
    let C : Lagging → Type 0 = λ l. IsCutEntry l.viewer.marks.width l.viewer.marks.height e in
    all-cons (Fits (log ++ e ∷ [])) pair.1 (values_of pairs) (drawn_fits log e pair.1 (all-head (Fits log) pair.1 (values_of pairs) all) (all-head C pair.1 (values_of pairs) cut))
    (fit-drawn log e pairs (all-tail (Fits log) pair.1 (values_of pairs) all) (all-tail C pair.1 (values_of pairs) cut))

-- a notice
pub seen-noticed : (log : List LogEntry) (notice : Notice) (pairs : List (ℕ × Lagging)) → seen log (changed (told_of notice) pairs) ≡ changed (viewer_noticed notice) (seen log pairs)
seen-noticed log notice [] = refl
seen-noticed log notice (pair ∷ pairs) = ap (λ (l : List (ℕ × KeptViewer)). (pair.0, viewer_noticed notice (caught_up log pair.1)) ∷ l) (seen-noticed log notice pairs)

-- a new size makes the same of a viewer whether or not it knows what waits
pub seen-resized : (log : List LogEntry) (w h : ℕ) (pairs : List (ℕ × Lagging)) → seen [] (changed (resized_of w h) pairs) ≡ changed (viewer_resized w h) (seen log pairs)
seen-resized log w h [] = refl
seen-resized log w h (p ∷ ps) =
    ap (λ (m : Marks). (p.0, record p.1.viewer { marks = m }) ∷ seen [] (changed (resized_of w h) ps)) (sym (resized_logged w h (in_view w h p.1.viewer) p.1.viewer.uses_copyrect (waiting log p.1) p.1.viewer.marks))
    ∙ ap (λ qs. (p.0, viewer_resized w h (caught_up log p.1)) ∷ qs) (seen-resized log w h ps)

pub fit-resized : (w h : ℕ) (pairs : List (ℕ × Lagging)) → All (Fits []) (values_of (changed (resized_of w h) pairs))
fit-resized w h pairs = all-changed (λ l. Unit {0}) (Fits []) (resized_of w h) (λ l any. record { stands = omega arith; cut = λ k d below. absurd (omega (arith, below)) }) pairs (λ k d below. tt)

pub fit-noticed : (log : List LogEntry) (notice : Notice) (pairs : List (ℕ × Lagging)) → All (Fits log) (values_of pairs) → All (Fits log) (values_of (changed (told_of notice) pairs))
fit-noticed log notice pairs all = all-changed (Fits log) (Fits log) (told_of notice) (λ l fits. record { stands = fits.stands; cut = fits.cut }) pairs all

-- one more, and one less
pub seen-last : (log : List LogEntry) (pairs : List (ℕ × Lagging)) (number : ℕ) (l : Lagging) → seen log (pairs ++ (number, l) ∷ []) ≡ seen log pairs ++ (number, caught_up log l) ∷ []
seen-last log [] number l = refl
seen-last log (pair ∷ pairs) number l = ap (λ (r : List (ℕ × KeptViewer)). (pair.0, caught_up log pair.1) ∷ r) (seen-last log pairs number l)

pub seen-filter : (log : List LogEntry) (number : ℕ) (pairs : List (ℕ × Lagging)) → seen log (filter (λ pair. not (pair.0 == number)) pairs) ≡ filter (λ pair. not (pair.0 == number)) (seen log pairs)
seen-filter log number [] = refl
seen-filter log number (pair ∷ pairs) = go (not (pair.0 == number)) (seen-filter log number pairs)
  where
    go : (b : Bool) → seen log (filter (λ pair. not (pair.0 == number)) pairs) ≡ filter (λ pair. not (pair.0 == number)) (seen log pairs)
        → seen log (cond b (pair ∷ filter (λ pair. not (pair.0 == number)) pairs) (filter (λ pair. not (pair.0 == number)) pairs)) ≡ cond b ((pair.0, caught_up log pair.1) ∷ filter (λ pair. not (pair.0 == number)) (seen log pairs)) (filter (λ pair. not (pair.0 == number)) (seen log pairs))
    go true rest = ap (λ (r : List (ℕ × KeptViewer)). (pair.0, caught_up log pair.1) ∷ r) rest
    go false rest = rest

pub seen-none : (log : List LogEntry) (pairs : List (ℕ × Lagging)) → seen log pairs ≡ [] → pairs ≡ []
seen-none log [] e = refl
seen-none log (pair ∷ pairs) e = absurd (cc)

-- ---- the viewer with a number

seen-some : (log : List LogEntry) (pairs : List (ℕ × Lagging)) (number : ℕ) (l : Lagging) → Some l ≡ lookup (λ n. n == number) pairs → lookup (λ n. n == number) (seen log pairs) ≡ Some (caught_up log l)
seen-some log pairs number l there = lookup-mapped (caught_up log) pairs number ∙ ap (option_map (caught_up log)) (sym there)

seen-absent : (log : List LogEntry) (pairs : List (ℕ × Lagging)) (number : ℕ) → None ≡ lookup (λ n. n == number) pairs → lookup (λ n. n == number) (seen log pairs) ≡ None
seen-absent log pairs number away = lookup-mapped (caught_up log) pairs number ∙ ap (option_map (caught_up log)) (sym away)

-- what contracts see of it
pub viewer-some : (s : Viewers) (log : List LogEntry) (pairs : List (ℕ × Lagging)) (room number : ℕ) (l : Lagging) → record { pairs = seen log pairs; room = room } ≡ s → Some l ≡ lookup (λ n. n == number) pairs → viewer_of s number ≡ Some (caught_up log l)
viewer-some s log pairs room number l is there = ap (λ (t : Viewers). viewer_of t number) (sym is) ∙ seen-some log pairs number l there

pub viewer-absent : (s : Viewers) (log : List LogEntry) (pairs : List (ℕ × Lagging)) (room number : ℕ) → record { pairs = seen log pairs; room = room } ≡ s → None ≡ lookup (λ n. n == number) pairs → viewer_of s number ≡ None
viewer-absent s log pairs room number is away = ap (λ (t : Viewers). viewer_of t number) (sym is) ∙ seen-absent log pairs number away

-- a viewer has a number where the list has it
pub viewer-found : (s : Viewers) (log : List LogEntry) (pairs : List (ℕ × Lagging)) (room number : ℕ) → record { pairs = seen log pairs; room = room } ≡ s → is_some (lookup (λ n. n == number) pairs) ≡ is_some (viewer_of s number)
viewer-found s log pairs room number is = go (lookup (λ n. n == number) pairs) refl
  where
    go : (o : Option Lagging) → o ≡ lookup (λ n. n == number) pairs → is_some o ≡ is_some (viewer_of s number)
    go None away = sym (ap is_some (viewer-absent s log pairs room number is away))
    go (Some l) there = sym (ap is_some (viewer-some s log pairs room number l is there))

-- one viewer is another
set-same : {T : Type 0} (pairs : List (ℕ × T)) (number : ℕ) (x : T) → Some x ≡ lookup (λ n. n == number) pairs → set_value_at pairs (index_of (keys_of pairs) number) x ≡ pairs
set-same [] number x there = refl
set-same {T} (pair ∷ pairs) number x there = go (pair.0 == number) there (λ later. set-same pairs number x later)
  where
    go : (b : Bool) → Some x ≡ cond b (Some pair.1) (lookup (λ n. n == number) pairs) → (Some x ≡ lookup (λ n. n == number) pairs → set_value_at pairs (index_of (keys_of pairs) number) x ≡ pairs)
        → set_value_at (pair ∷ pairs) (cond b 0 (suc (index_of (keys_of pairs) number))) x ≡ pair ∷ pairs
    go true e later = ap (λ (y : T). (pair.0, y) ∷ pairs) (same_Some x pair.1 e)
    go false e later = ap (λ (l : List (ℕ × T)). pair ∷ l) (later e)

pub set-at-same : {T : Type 0} (pairs : List (ℕ × T)) (i : ℕ) (x : T) → option_map (λ (pair : ℕ × T). pair.1) (slice_get pairs i) ≡ Some x → set_value_at pairs i x ≡ pairs
set-at-same [] i x there = refl
set-at-same {T} (pair ∷ pairs) zero x there = ap (λ (y : T). (pair.0, y) ∷ pairs) (sym (same_Some pair.1 x there))
set-at-same {T} (pair ∷ pairs) (suc i) x there = ap (λ (l : List (ℕ × T)). pair ∷ l) (set-at-same pairs i x there)

pub seen-set : (log : List LogEntry) (pairs : List (ℕ × Lagging)) (number : ℕ) (l : Lagging) (v : KeptViewer) → caught_up log l ≡ v → seen log (set_value_at pairs (index_of (keys_of pairs) number) l) ≡ set_value_at (seen log pairs) (index_of (keys_of (seen log pairs)) number) v
seen-set log pairs number l v is =
    mapped-set_value_at (caught_up log) pairs (index_of (keys_of pairs) number) l
    ∙ ap (set_value_at (seen log pairs) (index_of (keys_of pairs) number)) is
    ∙ ap (λ (ks : List ℕ). set_value_at (seen log pairs) (index_of ks number) v) (sym (keys-mapped (caught_up log) pairs))

-- as contracts see it
pub viewer-set : (s : Viewers) (log : List LogEntry) (pairs : List (ℕ × Lagging)) (room number : ℕ) (l : Lagging) (v : KeptViewer) → record { pairs = seen log pairs; room = room } ≡ s → caught_up log l ≡ v → seen log (set_value_at pairs (index_of (keys_of pairs) number) l) ≡ with_viewer s number v
viewer-set s log pairs room number l v is becomes = seen-set log pairs number l v becomes ∙ ap (λ (t : Viewers). with_viewer t number v) is

pub viewer-same : (s : Viewers) (log : List LogEntry) (pairs : List (ℕ × Lagging)) (room number : ℕ) (was l : Lagging) → record { pairs = seen log pairs; room = room } ≡ s → Some was ≡ lookup (λ n. n == number) pairs → caught_up log l ≡ caught_up log was → seen log (set_value_at pairs (index_of (keys_of pairs) number) l) ≡ s.pairs
viewer-same s log pairs room number was l is there same =
    seen-set log pairs number l (caught_up log was) same
    ∙ set-same (seen log pairs) number (caught_up log was) (sym (seen-some log pairs number was there))
    ∙ ap (λ (t : Viewers). t.pairs) is

-- one of the same size in another's place
pub size-set : (s : Viewers) (log : List LogEntry) (pairs : List (ℕ × Lagging)) (room number : ℕ) (was l : Lagging) → record { pairs = seen log pairs; room = room } ≡ s → Some was ≡ lookup (λ n. n == number) pairs
    → (w h : ℕ) → (IsOfSize w h (caught_up log was) → IsOfSize w h (caught_up log l)) → All (IsOfSize w h) (values_of s.pairs) → All (IsOfSize w h) (values_of (seen log (set_value_at pairs (index_of (keys_of pairs) number) l)))
size-set s log pairs room number was l is there w h keeps sized =
    subst (λ (ps : List (ℕ × KeptViewer)). All (IsOfSize w h) (values_of ps)) (sym (viewer-set s log pairs room number l (caught_up log l) is refl))
    (all-set (IsOfSize w h) s.pairs (index_of (keys_of s.pairs) number) (caught_up log l) sized (keeps (all-numbered (IsOfSize w h) s.pairs number (caught_up log was) sized (sym (viewer-some s log pairs room number was is there)))))

-- ---- a walk over the viewers

module _ (c : Connected Lagging) where
  value-there : (position : ℕ) (v : Lagging) → value_at c position ≡ Some v → slice_get (values_of c.pairs) (index_of c.positions position) ≡ Some v
  value-there position v is = slice_get-map (λ pair. pair.1) c.pairs (index_of c.positions position) ∙ is

  passed-next : (here next : Option ℕ) (position : ℕ) (v : Lagging) → here ≡ Some position → value_at c position ≡ Some v → passed c next ≡ index_of c.positions position + 1 → take (passed c next) (values_of c.pairs) ≡ take (passed c here) (values_of c.pairs) ++ v ∷ []
  passed-next here next position v is value step =
      let i : ℕ = index_of c.positions position in
      let count : passed c next ≡ suc i = omega (arith, step) in
      ap (λ (n : ℕ). take n (values_of c.pairs)) count
      ∙ take_next (values_of c.pairs) i v (value-there position v value)
      ∙ ap (λ (o : Option ℕ). take (passed c o) (values_of c.pairs) ++ v ∷ []) (sym is)

  all-passed : (here : Option ℕ) → IsListed c → here ≡ None → take (passed c here) (values_of c.pairs) ≡ values_of c.pairs
  all-passed here listed is =
      ap (λ (o : Option ℕ). take (passed c o) (values_of c.pairs)) is
      ∙ take_all (length c.positions) (values_of c.pairs) (omega (arith, length-map c.pairs (λ e. e.1), listed.as_many))

  module _ {X : Type 0} (g : Lagging → Option X) where
    pub picked-step : (made : List X) (here next : Option ℕ) (position : ℕ) (v : Lagging) → made ≡ filter_map g (take (passed c here) (values_of c.pairs)) → here ≡ Some position → value_at c position ≡ Some v → passed c next ≡ index_of c.positions position + 1 → made ++ cons_option (g v) [] ≡ filter_map g (take (passed c next) (values_of c.pairs))
    picked-step made here next position v so_far is value step =
        ap (λ (l : List X). l ++ cons_option (g v) []) so_far
        ∙ sym (filter_map-append g (take (passed c here) (values_of c.pairs)) (v ∷ []))
        ∙ ap (filter_map g) (sym (passed-next here next position v is value step))

    pub picked-end : (made : List X) (here : Option ℕ) → IsListed c → made ≡ filter_map g (take (passed c here) (values_of c.pairs)) → here ≡ None → made ≡ filter_map g (values_of c.pairs)
    picked-end made here listed so_far is = so_far ∙ ap (filter_map g) (all-passed here listed is)

  module _ (P : Lagging → Type 0) where
    one : (v : Lagging) → P v → All P (v ∷ [])
    one v is = all-cons P v [] is (λ k d below. absurd (omega (arith, below)))

    pub all-step : (here next : Option ℕ) (position : ℕ) (v : Lagging) → All P (take (passed c here) (values_of c.pairs)) → here ≡ Some position → value_at c position ≡ Some v → P v → passed c next ≡ index_of c.positions position + 1 → All P (take (passed c next) (values_of c.pairs))
    all-step here next position v so_far is value holds step =
        subst (All P) (sym (passed-next here next position v is value step)) (All-append P (take (passed c here) (values_of c.pairs)) (v ∷ []) so_far (one v holds))

    pub all-end : (here : Option ℕ) → IsListed c → All P (take (passed c here) (values_of c.pairs)) → here ≡ None → All P (values_of c.pairs)
    all-end here listed so_far is = subst (All P) (all-passed here listed is) so_far

  module _ (end : ℕ) where
    last-append : (ls : List Lagging) (v : Lagging) → last_position end (ls ++ v ∷ []) ≡ max (last_position end ls) (position_within end v)
    last-append [] v = refl
    last-append (l ∷ ls) v = ap (λ (n : ℕ). max n (position_within end l)) (last-append ls v) ∙ turn (last_position end ls) (position_within end v) (position_within end l)
      where
        turn : (i j k : ℕ) → max (max i j) k ≡ max (max i k) j
        turn i j k = omega arith

    last-within : (ls : List Lagging) → last_position end ls ≤ end
    last-within [] = omega arith
    last-within (l ∷ ls) = go (nat_le l.taken end) refl (last-within ls)
      where
        taken_within : nat_le l.taken end ≡ true → l.taken ≤ end
        taken_within is = grind (arith, nat_tests)

        go : (b : Bool) → nat_le l.taken end ≡ b → last_position end ls ≤ end → max (last_position end ls) (cond b l.taken 0) ≤ end
        go true is rest = omega (arith, taken_within is, rest)
        go false is rest = omega (arith, rest)

    pub last-step : (last : ℕ) (here next : Option ℕ) (position : ℕ) (v : Lagging) → last ≡ last_position end (take (passed c here) (values_of c.pairs)) → here ≡ Some position → value_at c position ≡ Some v → passed c next ≡ index_of c.positions position + 1 → max last (position_within end v) ≡ last_position end (take (passed c next) (values_of c.pairs))
    last-step last here next position v so_far is value step =
        ap (λ (n : ℕ). max n (position_within end v)) so_far
        ∙ sym (last-append (take (passed c here) (values_of c.pairs)) v)
        ∙ sym (ap (last_position end) (passed-next here next position v is value step))

    pub last-end : (last : ℕ) (here : Option ℕ) → IsListed c → last ≡ last_position end (take (passed c here) (values_of c.pairs)) → here ≡ None → last ≡ last_position end (values_of c.pairs)
    last-end last here listed so_far is = so_far ∙ ap (last_position end) (all-passed here listed is)

    pub last-is_within : (last : ℕ) (ls : List Lagging) → last ≡ last_position end ls → last ≤ end
    last-is_within last ls is = subst (λ (n : ℕ). n ≤ end) (sym is) (last-within ls)

-- ---- marks that are taken from the end of a list, turned round

module _ {X : Type 0} where
  reverse-option : (o : Option X) (rest : List X) → reverse (cons_option o rest) ≡ reverse rest ++ cons_option o []
  reverse-option None rest = sym (append-nil (reverse rest))
  reverse-option (Some x) rest = reverse-append (x ∷ []) rest

  last-same : (xs ys : List X) (x y : X) → xs ++ x ∷ [] ≡ ys ++ y ∷ [] → xs ≡ ys
  last-same xs ys x y e =
      let turned : x ∷ reverse xs ≡ y ∷ reverse ys = sym (reverse-append xs (x ∷ [])) ∙ ap reverse e ∙ reverse-append ys (y ∷ []) in
      let tails : reverse xs ≡ reverse ys = cc in
      sym (reverse-reverse xs) ∙ ap reverse tails ∙ reverse-reverse ys

  pub front-same : (o : Option X) (xs ys : List X) → xs ++ cons_option o [] ≡ ys ++ cons_option o [] → xs ≡ ys
  front-same None xs ys e = sym (append-nil xs) ∙ e ∙ append-nil ys
  front-same (Some x) xs ys e = last-same xs ys x x e

  pub left-next : (g : Lagging → Option X) (pairs : List (ℕ × Lagging)) (i : ℕ) (v : Lagging) → option_map (λ (pair : ℕ × Lagging). pair.1) (slice_get pairs i) ≡ Some v → reverse (filter_map g (drop i (values_of pairs))) ≡ reverse (filter_map g (drop (suc i) (values_of pairs))) ++ cons_option (g v) []
  left-next g pairs i v there =
      ap (λ (l : List Lagging). reverse (filter_map g l)) (drop_next (values_of pairs) i v (slice_get-map (λ pair. pair.1) pairs i ∙ there))
      ∙ reverse-option (g v) (filter_map g (drop (suc i) (values_of pairs)))
