use Rattle.std.proofs.Common.{ap, inl, inr, ◌∙◌, sym}
use Rattle.slab.proofs.SlabLemmas.{Contains-cons_cases, Contains-entries}
use Rattle.key_set.specs.Among.{is_among}
use Rattle.connections.proofs.listing.list_keys.Goals as goal

pub loop-key-init : goal.loop-key-init
loop-key-init g c =
    let left = c.into_iter-key-iterator.ensures.into_iter_gives in
    (tt, tt, λ key e there. inr (rw left ((Contains-entries c.args.connections.now key e).1 there)), λ key h. h)

pub loop-key-preserved : goal.loop-key-preserved
loop-key-preserved g c =
    let at = c.in-Some.ensures.steps in
    let more = c.in_ok-insert.ensures.kept in (
      tt,
      tt,
      λ key e there. elim (c.loop-key.invariant.2 key e there) [
        | inl on ↦ inl (more key on)
        | inr left ↦ elim (Contains-cons_cases _ _ _ (rw at at left)) [
          | inl same ↦ inl (ap (λ k. is_among k c.insert.new.self.list) (sym (ap (λ p. p.0) same)) ∙ c.in_ok-insert.ensures.there)
          | inr rest ↦ inr rest
        ]
      ],
      λ key h. more key (c.loop-key.invariant.3 key h),
    )
