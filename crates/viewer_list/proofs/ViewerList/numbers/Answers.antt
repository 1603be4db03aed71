use Rattle.std.proofs.Common.{◌∙◌, sym, ap, Result, Ok, Err, IfOk}
use Rattle.std.specs.Map.{keys_of}
use Rattle.client_list.specs.CallerLemmas.{keys-mapped}
use Rattle.viewer_list.specs.Viewers.{Viewers}
use Rattle.viewer_list.specs.Lagging.{caught_up}
use Rattle.viewer_list.proofs.ViewerList.numbers.Goals as goal

weaker : {A E : Type 0} {P Q : A → Type 0} (r : Result A E) → ((a : A) → P a → Q a) → IfOk r P → IfOk r Q
weaker (Ok a) f h = f a h
weaker (Err e) f h = tt

pub returns : goal.returns
returns c = weaker c.numbers.result (λ ns is. is ∙ sym (keys-mapped (caught_up c.self.inside.log.items) c.self.inside.viewers.pairs) ∙ ap (λ (s : Viewers). keys_of s.pairs) c.self.view_is) c.numbers.ensures
