use Rattle.std.proofs.Common.{◌≡◌, ◌∙◌, ◌<◌, sym, ap, subst, arith, ◌+◌, ◌-◌, ℕ, List, ◌∷◌, drop, length, slice_index_or}
use Rattle.std.proofs.lemmas.List.{drop_more}
use Rattle.std.specs.List.{All}
use Rattle.copy_schedule.specs.declared.LogEntry.{LogEntry}
use Rattle.copy_schedule.specs.Log.{after_entry, logged, IsCutEntry}
use Rattle.copy_schedule.specs.LogLemmas.{reversed_is_cut}
use Rattle.copy_schedule.proofs.log.joined_up_to.Goals as goal

pub loop-left-preserved : goal.loop-left-preserved
loop-left-preserved c = record {
  within = let w = c.loop-left.invariant.within in omega (arith, w);
  same = λ m. c.in_ok-put_before.ensures.same m
      ∙ c.loop-left.invariant.same (after_entry c.args.uses_copyrect c.index-entries-left.result m)
      ∙ ap (λ (es : List LogEntry). logged c.args.uses_copyrect es m) (sym next);
  cut = λ w h all. c.in_ok-put_before.ensures.cut w h (c.loop-left.invariant.cut w h all)
      (subst (IsCutEntry w h) (sym c.index-entries-left.is) (all (c.loop-left.left - 1) c.index-entries-left.result below));
}
  where
    below : c.loop-left.left - 1 < length c.args.entries.now
    below = let w = c.loop-left.invariant.within in omega (arith, w, c.loop-left-test.true)

    next : drop (c.loop-left.left - 1) c.args.entries.now ≡ c.index-entries-left.result ∷ drop c.loop-left.left c.args.entries.now
    next = drop_more c.args.entries.now (c.loop-left.left - 1) c.index-entries-left.result below
        ∙ ap (λ (n : ℕ). slice_index_or c.args.entries.now (c.loop-left.left - 1) c.index-entries-left.result ∷ drop n c.args.entries.now) (let q : c.loop-left.left - 1 + 1 ≡ c.loop-left.left = omega (arith, c.loop-left-test.true) in q)
        ∙ ap (λ (e : LogEntry). e ∷ drop c.loop-left.left c.args.entries.now) (sym c.index-entries-left.is)

pub returns-clause-cut : goal.returns-clause-cut
returns-clause-cut c w h all = subst (All (IsCutEntry w h)) (sym c.reverse.ensures.items) (reversed_is_cut w h c.loop-left.out.items (c.loop-left.invariant.cut w h all))
