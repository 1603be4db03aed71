use Rattle.std.proofs.Common.{zero, arith, refl, Some, ap, inl, inr, ◌∙◌, sym, subst, Contains}
use Rattle.std.specs.Prelude.{option_map}
use Rattle.slab.proofs.SlabLemmas.{Contains-cons, Contains-cons_cases, Contains-entries}
use Rattle.connection.specs.Connection.{ViewerConnection}
use Rattle.connections.proofs.listing.key_of.Goals as goal

pub loop-key-init : goal.loop-key-init
loop-key-init g c =
    let left = c.into_iter-key-iterator.ensures.into_iter_gives in
    (tt, tt, λ key e there. inr (rw left ((Contains-entries c.args.connections.now key e).1 there)), λ key e there. (Contains-entries c.args.connections.now key e).0 (subst (λ l. Contains l (key, e)) left there))

pub returns-then-number-viewer-clause-found : goal.returns-then-number-viewer-clause-found
returns-then-number-viewer-clause-found g c =
    let e = c.in-Some.connection.now in
    let there = c.loop-key.invariant.3 c.in-Some.key e (subst (λ l. Contains l (c.in-Some.key, e)) (sym c.in-Some.ensures.steps) (zero, omega arith, refl)) in
    ap (option_map (λ (x : ViewerConnection). x.number)) there ∙ ap Some (sym c.number.ensures ∙ c.if-number-viewer.true)

pub loop-key-preserved : goal.loop-key-preserved
loop-key-preserved g c =
    let at = c.in-Some.ensures.steps in
    let other = c.in-Some.connection.now in (
      tt,
      tt,
      λ key e there. elim (c.loop-key.invariant.2 key e there) [
        | inl differs ↦ inl differs
        | inr left ↦ elim (Contains-cons_cases _ _ _ (rw at at left)) [
          | inl same ↦ inl (λ is. c.if-number-viewer.false (c.number.ensures ∙ ap (λ p. p.1.number) same ∙ is))
          | inr rest ↦ inr rest
        ]
      ],
      λ key e there. c.loop-key.invariant.3 key e (subst (λ l. Contains l (key, e)) (sym at) (Contains-cons (c.in-Some.key, other) (key, e) c.next.new.self there)),
    )
