use Rattle.std.proofs.Common.{◌≡◌, ◌<◌, ℕ, true, Option, Some, length, slice_index_or, ap, ◌∙◌, sym, subst, arith, rules}
use Rattle.connections.specs.Serving.{Serving, floods_at}
use Rattle.key_set.specs.AmongLemmas.{each-among, each-more}
use Rattle.connections.proofs.connections.Connections.all_flood.Goals as goal

pub returns-clause-all : goal.returns-clause-all
returns-clause-all g c = λ fine.
    let lengths : length c.self.inside.agenda.list ≡ length c.args.self.now.agenda = ap (λ (x : Serving). length x.agenda) c.self.view_is in
    each-among (λ (k : ℕ). floods_at c.args.self.now.slots k ≡ true) c.args.self.now.agenda (λ i below. c.loop-index.invariant i (omega (arith, below, c.loop-index-test.false, c.len-index-end.ensures, lengths)))

pub loop-index-preserved : goal.loop-index-preserved
loop-index-preserved g c =
    let now = c.args.self.now in
    let lengths : length c.self.inside.agenda.list ≡ length now.agenda = ap (λ (x : Serving). length x.agenda) c.self.view_is in
    let within : c.loop-index.index < length now.agenda = omega (arith, c.loop-index-test.true, c.len-index-end.ensures, lengths) in
    let at : c.in-Some.key ≡ slice_index_or now.agenda c.loop-index.index 0 =
    let two : ◌≡◌ {A = Option ℕ} (Some c.in-Some.key) (Some (slice_index_or now.agenda c.loop-index.index 0)) = sym c.in-Some.is ∙ c.listed.ensures.value within in cc in
    let here : floods_at now.slots c.in-Some.key ≡ true = search rules in
    each-more (λ (k : ℕ). floods_at now.slots k ≡ true) (λ (k : ℕ). floods_at now.slots k ≡ true) now.agenda c.loop-index.index (λ k h. h)
    (subst (λ (k : ℕ). floods_at now.slots k ≡ true) at here) c.loop-index.invariant
