use Rattle.std.proofs.Common.{◌≡◌, ◌⊎◌, inl, inr, true≢false, ℕ, List, true, Option, Some, slice_index_or, sym, ap, ◌∙◌, subst, arith, length}
use Rattle.key_set.specs.Among.{is_among}
use Rattle.connections.specs.Serving.{works_at}
use Rattle.key_set.specs.AmongLemmas.{each-among, each-more}
use Rattle.connections.proofs.listing.keep_busy.Goals as goal

pub loop-key-init : goal.loop-key-init
loop-key-init g c = record {
  kept = λ i below. absurd (omega (arith, below));
  work = λ k there. absurd (true≢false (sym there ∙ ap (is_among k) c.clear.ensures));
}

pub loop-key-preserved : goal.loop-key-preserved
loop-key-preserved g c = record {
  kept = each-more
      (λ (k : ℕ). works_at c.args.connections.now.slots k ≡ true → (c.args.last ≡ Some k) ⊎ (is_among k c.loop-key.kept.list ≡ true))
      (λ (k : ℕ). works_at c.args.connections.now.slots k ≡ true → (c.args.last ≡ Some k) ⊎ (is_among k c.keep_unless_last.new.kept.list ≡ true))
      c.args.agenda.now.list c.loop-key.key-index
      (λ k before works. elim (before works) [ inl last ↦ inl last | inr on ↦ inr (c.in_ok-keep_unless_last.ensures.more k on) ])
      (subst (λ (l : List ℕ). works_at c.args.connections.now.slots (slice_index_or l c.loop-key.key-index 0) ≡ true
      → (c.args.last ≡ Some (slice_index_or l c.loop-key.key-index 0)) ⊎ (is_among (slice_index_or l c.loop-key.key-index 0) c.keep_unless_last.new.kept.list ≡ true))
      c.as_slice-key-items.ensures c.in_ok-keep_unless_last.ensures.kept) c.loop-key.invariant.kept;
  work = λ k there. elim (c.keep_unless_last.ensures.work k there) [ inl before ↦ c.loop-key.invariant.work k before | inr works ↦ works ];
}

pub returns-in_ok-keep_if_busy-clause-all : goal.returns-in_ok-keep_if_busy-clause-all
returns-in_ok-keep_if_busy-clause-all g c = λ key works there.
    elim (each-among (λ (k : ℕ). works_at c.args.connections.now.slots k ≡ true → (c.args.last ≡ Some k) ⊎ (is_among k c.loop-key.kept.list ≡ true)) c.args.agenda.now.list
    (λ i below. c.loop-key.invariant.kept i (omega (arith, below, c.loop-key-test.false, c.loop-key.auto.key-index-end, ap (λ (l : List ℕ). length l) c.as_slice-key-items.ensures))) key there works) [
      | inl last ↦
          let same : c.in-Some.key ≡ key = let two : ◌≡◌ {A = Option ℕ} (Some c.in-Some.key) (Some key) = sym c.in-Some.is ∙ last in cc in
          subst (λ (k : ℕ). works_at c.args.connections.now.slots k ≡ true → is_among k c.keep_if_busy.new.kept.list ≡ true) same c.in_ok-keep_if_busy.ensures.kept works
      | inr on ↦ c.in_ok-keep_if_busy.ensures.more key on
    ]

pub returns-in_default-clause-all : goal.returns-in_default-clause-all
returns-in_default-clause-all g c = λ key works there.
    elim (each-among (λ (k : ℕ). works_at c.args.connections.now.slots k ≡ true → (c.args.last ≡ Some k) ⊎ (is_among k c.loop-key.kept.list ≡ true)) c.args.agenda.now.list
    (λ i below. c.loop-key.invariant.kept i (omega (arith, below, c.loop-key-test.false, c.loop-key.auto.key-index-end, ap (λ (l : List ℕ). length l) c.as_slice-key-items.ensures))) key there works) [
      | inl last ↦ absurd (c.in_default.not-Some key last)
      | inr on ↦ on
    ]
