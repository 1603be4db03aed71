-- One viewer that lags: what it lacks, and what a drawing call adds.
use Rattle.std.proofs.Common.{◌≡◌, ℕ, zero, suc, ◌+◌, ◌≤◌, ◌<◌, Bool, true, false, cond, List, [], ◌∷◌, ◌++◌, length, take, drop, All, true≢false, refl, sym, subst, ◌∙◌, ap, arith}
use Rattle.std.specs.Prelude.{min, nat_le, not, ◌&&◌, ◌||◌}
use Rattle.std.specs.List.{list_any}
use Rattle.std.proofs.lemmas.Bool.Decides.{nat_tests}
use Rattle.std.proofs.lemmas.List.{nil_from_length, drop_all, length-append, length-take-le, take-append-drop, drop-append-le}
use Rattle.std.proofs.lemmas.List.Elements.{All-append, All-head, All-tail}
use Rattle.region.specs.RegionView.{RegionView}
use Rattle.region.specs.Region.{covers}
use Rattle.copy_schedule.specs.declared.LogEntry.{LogEntry}
use Rattle.copy_schedule.specs.declared.LogEntry.TheVariants.{Mark, Copy}
use Rattle.copy_schedule.specs.Marks.{Marks, marked, has_asked, pending}
use Rattle.copy_schedule.specs.Log.{after_entry, logged, IsCutEntry}
use Rattle.copy_schedule.specs.LogLemmas.{logged_append, cut_append, front_is_cut}
use Rattle.messages.specs.Reading.{is_open_rest}
use Rattle.updates.specs.Waiting.{none_wait}
use Rattle.viewer.specs.Viewer.{KeptViewer, is_asking}
use Rattle.viewer.specs.Sending.{is_size_owed, tells_size}
use Rattle.viewer_list.specs.declared.lagging.Lagging.{Lagging}
use Rattle.viewer_list.specs.declared.lagging.CatchUp.{CatchUp}
use Rattle.viewer.specs.Told.{viewer_told, told_unless}
use Rattle.viewer_list.specs.Lagging.{waiting, caught_up, up_to_date, moved_where_known, brought_up, within_end, IsCurrent, Fits, IsCatchUp, IsFor, IsMark, IsJoined}
use Rattle.viewer_list.specs.Viewers.{drawn, is_pending}

-- what drawing leaves of marks
pub record Alike (m n : Marks) : Type 0 where
  pub width : n.width ≡ m.width
  pub height : n.height ≡ m.height
  pub asked : n.asked ≡ m.asked

entry-alike : (u : Bool) (e : LogEntry) (m : Marks) → Alike m (after_entry u e m)
entry-alike u (Mark region) m = record { width = refl; height = refl; asked = refl }
entry-alike true (Copy region dx dy) m = record { width = refl; height = refl; asked = refl }
entry-alike false (Copy region dx dy) m = record { width = refl; height = refl; asked = refl }

pub logged-alike : (u : Bool) (es : List LogEntry) (m : Marks) → Alike m (logged u es m)
logged-alike u [] m = record { width = refl; height = refl; asked = refl }
logged-alike u (e ∷ es) m =
    let first = entry-alike u e m in
    let rest = logged-alike u es (after_entry u e m) in record { width = rest.width ∙ first.width; height = rest.height ∙ first.height; asked = rest.asked ∙ first.asked }

-- what is told of drawing, or isn't yet, is owed a size alike
pub pending-logged : (es : List LogEntry) (v : KeptViewer)
    → (is_open_rest v.heard && (v.map_owed || (not (none_wait v.notices) || (tells_size v.marks.width v.marks.height v || pending (logged v.uses_copyrect es v.marks)))))
    ≡ is_pending (record v { marks = logged v.uses_copyrect es v.marks })
pending-logged es v =
    let m : Marks = logged v.uses_copyrect es v.marks in
    let like : Alike v.marks m = logged-alike v.uses_copyrect es v.marks in
    let same : tells_size v.marks.width v.marks.height v ≡ (has_asked m && is_size_owed m.width m.height v) =
    ap (λ (l : List Bool). list_any (λ is_asked. is_asked) l && is_size_owed v.marks.width v.marks.height v) (sym like.asked)
    ∙ ap (λ (n : ℕ). has_asked m && is_size_owed n v.marks.height v) (sym like.width)
    ∙ ap (λ (n : ℕ). has_asked m && is_size_owed m.width n v) (sym like.height) in
    ap (λ (b : Bool). is_open_rest v.heard && (v.map_owed || (not (none_wait v.notices) || (b || pending m)))) same

-- and asks alike
pub asking-logged : (log : List LogEntry) (l : Lagging) → is_asking l.viewer ≡ is_asking (caught_up log l)
asking-logged log l = sym (ap (λ (bs : List Bool). list_any (λ is_asked. is_asked) bs) (logged-alike l.viewer.uses_copyrect (waiting log l) l.viewer.marks).asked)

-- a further entry
pub logged-last : (u : Bool) (es : List LogEntry) (e : LogEntry) (m : Marks) → logged u (es ++ e ∷ []) m ≡ after_entry u e (logged u es m)
logged-last u [] e m = refl
logged-last u (first ∷ es) e m = logged-last u es e (after_entry u first m)

drop-last : {X : Type 0} (n : ℕ) (xs : List X) (x : X) → n ≤ length xs → drop n (xs ++ x ∷ []) ≡ drop n xs ++ x ∷ []
drop-last zero xs x within = refl
drop-last (suc n) [] x within = absurd (omega (arith, within))
drop-last (suc n) (y ∷ xs) x within = drop-last n xs x (omega (arith, within))

-- A viewer whose marks lack nothing.

pub nothing_waits : (log : List LogEntry) (l : Lagging) → IsCurrent log l → waiting log l ≡ []
nothing_waits log l current = drop_all l.taken log (omega (arith, current))

pub current_viewer : (log : List LogEntry) (l : Lagging) → IsCurrent log l → caught_up log l ≡ l.viewer
current_viewer log l current = ap (λ (es : List LogEntry). record l.viewer { marks = logged l.viewer.uses_copyrect es l.viewer.marks }) (nothing_waits log l current)

pub current_fits : (log : List LogEntry) (l : Lagging) → IsCurrent log l → Fits log l
current_fits log l current = record {
  stands = omega (arith, current);
  cut = subst (All (IsCutEntry l.viewer.marks.width l.viewer.marks.height)) (sym (nothing_waits log l current)) (λ k d below. absurd (omega (arith, below)));
}

-- A viewer that was heard, of which it is known whether its marks know the log.

pub heard-seen : (knows_log : Bool) (log : List LogEntry) (l now : Lagging) → now.taken ≡ l.taken
    → caught_up log (moved_where_known knows_log log now) ≡ told_unless knows_log (waiting log l) now.viewer
heard-seen true log l now stays = current_viewer log (record now { taken = length log }) refl
heard-seen false log l now stays = ap (λ (n : ℕ). record now.viewer { marks = logged now.viewer.uses_copyrect (drop n log) now.viewer.marks }) stays

pub heard-fits : (knows_log : Bool) (log : List LogEntry) (l now : Lagging) → now.taken ≡ l.taken
    → now.viewer.marks.width ≡ l.viewer.marks.width → now.viewer.marks.height ≡ l.viewer.marks.height → Fits log l → Fits log (moved_where_known knows_log log now)
heard-fits true log l now stays width height fits = current_fits log (record now { taken = length log }) refl
heard-fits false log l now stays width height fits = record {
  stands = let stands = fits.stands in omega (arith, stays, stands);
  cut = subst (λ (n : ℕ). All (IsCutEntry now.viewer.marks.width now.viewer.marks.height) (drop n log)) (sym stays)
      (subst (λ (w : ℕ). All (IsCutEntry w now.viewer.marks.height) (waiting log l)) (sym width)
      (subst (λ (h : ℕ). All (IsCutEntry l.viewer.marks.width h) (waiting log l)) (sym height) fits.cut));
}

-- at the start of an empty log it is the same
starts : (l : Lagging) → IsCurrent [] (within_end 0 l)
starts l = omega arith

pub started_same : (log : List LogEntry) (l : Lagging) → IsCurrent log l → caught_up [] (within_end 0 l) ≡ caught_up log l
started_same log l current = current_viewer [] (within_end 0 l) (starts l) ∙ sym (current_viewer log l current)

pub started_fits : (l : Lagging) → Fits [] (within_end 0 l)
started_fits l = current_fits [] (within_end 0 l) (starts l)

pub current_is_up_to_date : (log : List LogEntry) (l : Lagging) → IsCurrent log l → l ≡ up_to_date log l
current_is_up_to_date log l current =
    ap (λ (n : ℕ). record l { taken = n }) current ∙ ap (λ (v : KeptViewer). record { viewer = v; taken = length log }) (sym (current_viewer log l current))

-- Catching up changes no viewer.

le_true : (a b : ℕ) → a ≤ b → nat_le a b ≡ true
le_true a b below = grind (arith, nat_tests)

le_false : (a b : ℕ) → b < a → nat_le a b ≡ false
le_false a b above = grind (arith, nat_tests)

above_of : (a b : ℕ) → nat_le a b ≡ false → b < a
above_of a b is = grind (arith, nat_tests)

pub brought_up_is : (log : List LogEntry) (least : ℕ) (l : Lagging) → least ≤ l.taken → brought_up log least l ≡ up_to_date log l
brought_up_is log least l enough = ap (λ (b : Bool). cond b (up_to_date log l) l) (le_true least l.taken enough)

pub brought_up_stays : (log : List LogEntry) (least : ℕ) (l : Lagging) → l.taken < least → brought_up log least l ≡ l
brought_up_stays log least l few = ap (λ (b : Bool). cond b (up_to_date log l) l) (le_false least l.taken few)

pub brought_up_same : (log : List LogEntry) (least : ℕ) (l : Lagging) → caught_up log (brought_up log least l) ≡ caught_up log l
brought_up_same log least l = go (nat_le least l.taken)
  where
    go : (b : Bool) → caught_up log (cond b (up_to_date log l) l) ≡ caught_up log l
    go true = current_viewer log (up_to_date log l) refl
    go false = refl

pub brought_up_fits : (log : List LogEntry) (least : ℕ) (l : Lagging) → Fits log l → Fits log (brought_up log least l)
brought_up_fits log least l fits = go (nat_le least l.taken)
  where
    go : (b : Bool) → Fits log (cond b (up_to_date log l) l)
    go true = current_fits log (up_to_date log l) refl
    go false = fits

-- where all are brought up, each lacks nothing then
pub brought_up_current : (log : List LogEntry) (l : Lagging) → IsCurrent log (brought_up log 0 l)
brought_up_current log l = subst (IsCurrent log) (sym (brought_up_is log 0 l (omega arith))) refl

-- Entries that are joined.

module _ (log : List LogEntry) (position end : ℕ) (region : RegionView) (within : position < length log) (ends : end ≡ position + 1) (joins : IsJoined (drop position log) region) where
  -- the log then
  abbrev pub joined_log : List LogEntry
  joined_log = take position log ++ Mark region ∷ []

  joined_length : length joined_log ≡ end
  joined_length = omega (arith, ends, length-append (take position log) (Mark region ∷ []), length-take-le position log (omega (arith, within)))

  -- a viewer that was brought up stands at its end
  ends_current : (l : Lagging) → IsCurrent log l → IsCurrent joined_log (within_end end l)
  ends_current l current = omega (arith, within, ends, current, joined_length)

  module _ (l : Lagging) (before : l.taken ≤ position) where
    -- another one stays, and lacks one entry for those that were joined
    stays : min l.taken end ≡ l.taken
    stays = omega (arith, before, ends)

    waited : drop l.taken log ≡ drop l.taken (take position log) ++ drop position log
    waited =
        ap (drop l.taken) (sym (take-append-drop position log))
        ∙ drop-append-le l.taken (take position log) (drop position log) (omega (arith, before, length-take-le position log (omega (arith, within))))

    waits : waiting joined_log (within_end end l) ≡ drop l.taken (take position log) ++ Mark region ∷ []
    waits =
        ap (λ (n : ℕ). drop n joined_log) stays
        ∙ drop-append-le l.taken (take position log) (Mark region ∷ []) (omega (arith, before, length-take-le position log (omega (arith, within))))

    stays_same : caught_up joined_log (within_end end l) ≡ caught_up log l
    stays_same =
        let u : Bool = l.viewer.uses_copyrect in
        let front : List LogEntry = drop l.taken (take position log) in
        ap (λ (es : List LogEntry). record l.viewer { marks = logged u es l.viewer.marks }) waits
        ∙ ap (λ (m : Marks). record l.viewer { marks = m })
        (logged-last u front (Mark region) l.viewer.marks
        ∙ joins.same u (logged u front l.viewer.marks)
        ∙ sym (logged_append u front (drop position log) l.viewer.marks)
        ∙ ap (λ (es : List LogEntry). logged u es l.viewer.marks) (sym waited))

    stays_fit : Fits log l → Fits joined_log (within_end end l)
    stays_fit fits = record {
      stands = omega (arith, joined_length);
      cut =
          let w : ℕ = l.viewer.marks.width in
          let h : ℕ = l.viewer.marks.height in
          subst (All (IsCutEntry w h)) (sym waits)
          (cut_append w h (drop l.taken (take position log)) (Mark region) (front_is_cut w h (drop l.taken (take position log)) (drop position log) (subst (All (IsCutEntry w h)) waited fits.cut)) tt);
    }

  pub joined_same : (l : Lagging) → caught_up joined_log (within_end end (brought_up log (position + 1) l)) ≡ caught_up log l
  joined_same l = go (nat_le (position + 1) l.taken) refl
    where
      stood : nat_le (position + 1) l.taken ≡ false → l.taken ≤ position
      stood is = omega (arith, above_of (position + 1) l.taken is)

      go : (b : Bool) → nat_le (position + 1) l.taken ≡ b → caught_up joined_log (within_end end (cond b (up_to_date log l) l)) ≡ caught_up log l
      go true is = current_viewer joined_log (within_end end (up_to_date log l)) (ends_current (up_to_date log l) refl)
      go false is = stays_same l (stood is)

  pub joined_fits : (l : Lagging) → Fits log l → Fits joined_log (within_end end (brought_up log (position + 1) l))
  joined_fits l fits = go (nat_le (position + 1) l.taken) refl
    where
      stood : nat_le (position + 1) l.taken ≡ false → l.taken ≤ position
      stood is = omega (arith, above_of (position + 1) l.taken is)

      go : (b : Bool) → nat_le (position + 1) l.taken ≡ b → Fits joined_log (within_end end (cond b (up_to_date log l) l))
      go true is = current_fits joined_log (within_end end (up_to_date log l)) (ends_current (up_to_date log l) refl)
      go false is = stays_fit l (stood is) fits

-- marks alone do the same to a viewer that uses CopyRect and to another
pub marks_alike : (u : Bool) (es : List LogEntry) → All IsMark es → (m : Marks) → logged false es m ≡ logged u es m
marks_alike u [] all m = refl
marks_alike u (Mark region ∷ es) all m = marks_alike u es (All-tail IsMark (Mark region) es all) (marked (covers region.list) m)
marks_alike u (Copy region dx dy ∷ es) all m = absurd (true≢false (sym (All-head IsMark (Copy region dx dy) es all)))

-- what marks alone are joined to, where that is one entry
pub joined_is : (entries out front : List LogEntry) (region : RegionView) → All IsMark entries → ((m : Marks) → logged false out m ≡ logged false entries m) → out ≡ front ++ Mark region ∷ [] → length out ≡ 1 → IsJoined entries region
joined_is entries out front region all same is one = record { same = λ u m. sym (ap (λ (es : List LogEntry). logged false es m) alone) ∙ same m ∙ marks_alike u entries all m }
  where
    alone : out ≡ Mark region ∷ []
    alone = is ∙ ap (λ (es : List LogEntry). es ++ Mark region ∷ []) (nil_from_length front (omega (arith, one, ap length is, length-append front (Mark region ∷ []))))

-- A further drawing call.

more_waits : (log : List LogEntry) (e : LogEntry) (l : Lagging) → Fits log l → waiting (log ++ e ∷ []) l ≡ waiting log l ++ e ∷ []
more_waits log e l fits = drop-last l.taken log e fits.stands

pub drawn_viewer : (log : List LogEntry) (e : LogEntry) (l : Lagging) → Fits log l → caught_up (log ++ e ∷ []) l ≡ drawn e (caught_up log l)
drawn_viewer log e l fits =
    ap (λ (es : List LogEntry). record l.viewer { marks = logged l.viewer.uses_copyrect es l.viewer.marks }) (more_waits log e l fits)
    ∙ ap (λ (m : Marks). record l.viewer { marks = m }) (logged-last l.viewer.uses_copyrect (waiting log l) e l.viewer.marks)

pub drawn_fits : (log : List LogEntry) (e : LogEntry) (l : Lagging) → Fits log l → IsCutEntry l.viewer.marks.width l.viewer.marks.height e → Fits (log ++ e ∷ []) l
drawn_fits log e l fits cut = record {
  stands = let stands = fits.stands in omega (arith, stands, length-append log (e ∷ []));
  cut =
      subst (All (IsCutEntry l.viewer.marks.width l.viewer.marks.height)) (sym (more_waits log e l fits))
      (All-append (IsCutEntry l.viewer.marks.width l.viewer.marks.height) (waiting log l) (e ∷ []) fits.cut (one (IsCutEntry l.viewer.marks.width l.viewer.marks.height) e cut));
}
  where
    one : (P : LogEntry → Type 0) (x : LogEntry) → P x → All P (x ∷ [])
    one P x is zero d below = is
    one P x is (suc k) d below = absurd (omega (arith, below))

-- What is shared.

pub shared_is_cut : (log : List LogEntry) (l : Lagging) (s : CatchUp) → Fits log l → IsCatchUp log s → IsFor l s → All (IsCutEntry l.viewer.marks.width l.viewer.marks.height) s.entries.items
shared_is_cut log l s fits shared own =
    shared.cut l.viewer.marks.width l.viewer.marks.height (subst (λ (n : ℕ). All (IsCutEntry l.viewer.marks.width l.viewer.marks.height) (drop n log)) (sym own.taken) fits.cut)
