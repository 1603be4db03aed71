use Rattle.std.proofs.Common.{◌≡◌, ◌∙◌, ◌++◌, ◌∷◌, [], ℕ, sym, ap, subst, arith, List, All, Result, Ok, Err, OnOk, OnErr, Option, Some, None, MatchOption}
use Rattle.std.specs.Prelude.{◌==◌, IsOkUnless}
use Rattle.client_list.specs.declared.ConnectError.TheVariants.{NumberInUse, OutOfMemory}
use Rattle.viewer.specs.Viewer.{KeptViewer}
use Rattle.std.specs.Map.{values_of, lookup}
use Rattle.std.specs.Option.{option_map}
use Rattle.client_list.specs.Connected.{Connected}
use Rattle.client_list.specs.CallerLemmas.{lookup-mapped}
use Rattle.copy_schedule.specs.declared.LogEntry.{LogEntry}
use Rattle.viewer_list.specs.declared.lagging.Lagging.{Lagging}
use Rattle.viewer_list.specs.Lagging.{caught_up, IsCurrent, Fits, AllFit}
use Rattle.viewer_list.specs.Viewers.{Viewers, viewer_of}
use Rattle.viewer_list.proofs.LagLemmas.{current_fits}
use Rattle.viewer_list.proofs.ListLemmas.{all-last}
use Rattle.viewer_list.proofs.ViewerList.connect.Goals as goal

one-more : {A E : Type 0} (r : Result A E) (log : List LogEntry) (joined : ℕ) (old new : Connected Lagging) (number : ℕ) (l : Lagging) → IsCurrent log l → AllFit log joined old.pairs → OnOk r (new.pairs ≡ old.pairs ++ (number, l) ∷ []) → OnErr r (new ≡ old) → AllFit log joined new.pairs
one-more (Ok a) log joined old new number l current fit pairs same = record {
  short = fit.short;
  each = subst (λ (ps : List (ℕ × Lagging)). All (Fits log) (values_of ps)) (sym pairs) (all-last (Fits log) old.pairs number l fit.each (current_fits log l current));
}
one-more (Err e) log joined old new number l current fit pairs same = subst (λ (c : Connected Lagging). AllFit log joined c.pairs) (sym same) fit

pub invariant_of-self : goal.invariant_of-self
invariant_of-self c = one-more c.connect.result c.self.inside.log.items c.self.inside.joined c.self.inside.viewers c.connect.new.self c.args.number (record { viewer = c.args.viewer; taken = c.len-taken.result }) (omega (arith, c.len-taken.ensures, c.self.inside.log.ok.0)) c.self.invariant c.connect.ensures.pairs c.connect.ensures.err

mapped-match : {A B : Type 0} (f : A → B) (o : Option A) (P Q : Type 0) → MatchOption o P (λ _. Q) → MatchOption (option_map f o) P (λ _. Q)
mapped-match f None P Q h = h
mapped-match f (Some a) P Q h = h

pub returns-clause-refused : goal.returns-clause-refused
returns-clause-refused c =
    let P : Type 0 = IsOkUnless c.connect.result OutOfMemory in
    let Q : Type 0 = c.connect.result ≡ Err NumberInUse in
    subst (λ (o : Option KeptViewer). MatchOption o P (λ _. Q))
    (sym (lookup-mapped (caught_up c.self.inside.log.items) c.self.inside.viewers.pairs c.args.number) ∙ ap (λ (s : Viewers). viewer_of s c.args.number) c.self.view_is)
    (mapped-match (caught_up c.self.inside.log.items) (lookup (λ n. n == c.args.number) c.self.inside.viewers.pairs) P Q c.connect.ensures.refused)
