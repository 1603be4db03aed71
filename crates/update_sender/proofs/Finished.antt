-- The history that a screen keeps is the one that it stands for.
use Rattle.std.proofs.Common.{◌≡◌, ℕ, List, Option, Some, None, sym, ap, ◌∙◌, subst}
use Rattle.screen.specs.declared.Config.{Config}
use Rattle.screen.specs.declared.Event.{Event}
use Rattle.screen.specs.declared.History.{History}
use Rattle.screen.specs.declared.History.TheVariants.{Kept, NotKept}
use Rattle.screen.specs.History.{accepted}
use Rattle.screen.specs.State.{State, state, history_by}
use Rattle.std.specs.Prelude.{Result}
use Rattle.std.proofs.Common.{inl}
use Rattle.receipts.specs.declared.Receipt.{Receipt}
use Rattle.receipts.specs.declared.Report.{Report}
use Rattle.receipts.specs.declared.FinishError.{FinishError}
use Rattle.update_sender.specs.Finishing.{Judges, JudgesDrawn}
use Rattle.update_sender.specs.Locked.{Stands}

abbrev unless_none : List Event → Option (List Event) → List Event
unless_none other None = other
unless_none other (Some l) = l

kept-list : (kept : History) (h items : List Event) → history_by kept h ≡ Some items → h ≡ items
kept-list Kept h items e = ap (unless_none h) e
kept-list NotKept h items e = absurd cc

pub kept-history : (s : State) (h items : List Event) (greatest : Option ℕ) (counted : ℕ) → Stands s h greatest counted → s.history ≡ Some items → h ≡ items
kept-history s h items greatest counted k e =
    sym k.happened ∙ kept-list s.config.history (accepted s.config h) items (sym (ap (λ (t : State). t.history) k.stands) ∙ e)

pub judged : (c d : Config) (drawn : List Event) (brush : Option (List Event)) (rs qs : List Receipt) (r : Result Report FinishError) → c ≡ d → Some drawn ≡ brush → rs ≡ qs
    → Judges c drawn rs r → JudgesDrawn d brush qs r
judged c d drawn brush rs qs r e f k h =
    subst (λ (b : Option (List Event)). JudgesDrawn d b qs r) f (inl (subst (λ (l : List Receipt). Judges d drawn l r) k (subst (λ (x : Config). Judges x drawn rs r) e h)))
