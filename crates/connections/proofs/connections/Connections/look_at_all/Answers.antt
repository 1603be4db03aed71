use Rattle.std.proofs.Common.{◌≡◌, ◌<◌, ℕ, true, Option, Some, length, slice_index_or, ap, ◌∙◌, sym, subst, arith}
use Rattle.connections.specs.Serving.{Serving, may_cut_at}
use Rattle.key_set.specs.AmongLemmas.{each-among, each-more}
use Rattle.connections.proofs.Everyone.{goes-then}
use Rattle.connections.proofs.connections.Connections.look_at_all.Goals as goal

pub loop-index-preserved : goal.loop-index-preserved
loop-index-preserved g c =
    let before = c.loop-index.invariant in
    let now = c.args.self.now in
    let lengths : length c.self.inside.agenda.list ≡ length c.loop-index.self.agenda = ap (λ (x : Serving). length x.agenda) c.self.view_is ∙ sym (ap (λ (x : Serving). length x.agenda) before.same) in
    let within : c.loop-index.index < length c.loop-index.self.agenda = omega (arith, c.loop-index-test.true, c.len-index-end.ensures, lengths) in
    let at : c.in-Some.key ≡ slice_index_or c.loop-index.self.agenda c.loop-index.index 0 =
    let two : ◌≡◌ {A = Option ℕ} (Some c.in-Some.key) (Some (slice_index_or c.loop-index.self.agenda c.loop-index.index 0)) = sym c.in-Some.is ∙ c.listed.ensures.value within in cc in
    let here : c.in-Some.key ≡ slice_index_or now.agenda c.loop-index.index 0 = at ∙ ap (λ (x : Serving). slice_index_or x.agenda c.loop-index.index 0) before.same in
    record {
      same = c.look_at.ensures.same ∙ ap (λ (x : Serving). record x { slots = c.look_at.new.self.slots }) before.same;
      served = goes-then _ _ _ before.served c.look_at.ensures.served;
      looked = each-more (λ (k : ℕ). may_cut_at c.loop-index.self.slots k ≡ true) (λ (k : ℕ). may_cut_at c.look_at.new.self.slots k ≡ true) now.agenda c.loop-index.index c.look_at.ensures.others
          (subst (λ (k : ℕ). may_cut_at c.look_at.new.self.slots k ≡ true) here c.look_at.ensures.looked) before.looked;
      others = λ key h. c.look_at.ensures.others key (before.others key h);
    }

pub returns-clause-looked : goal.returns-clause-looked
returns-clause-looked g c =
    let lengths : length c.self.inside.agenda.list ≡ length c.args.self.now.agenda = ap (λ (x : Serving). length x.agenda) c.self.view_is in
    each-among (λ (k : ℕ). may_cut_at c.loop-index.self.slots k ≡ true) c.args.self.now.agenda (λ i below. c.loop-index.invariant.looked i (omega (arith, below, c.loop-index-test.false, c.len-index-end.ensures, lengths)))
