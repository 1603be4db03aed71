use Rattle.std.proofs.Common.{◌≡◌, ◌<◌, ap, sym, ◌∙◌, ◌++◌, length, map, subst}
use Rattle.std.specs.Prelude.{All, sum_by}
use Rattle.crossbeam_queue.specs.Passes.{view as known}
use Rattle.input_queue.specs.Views.{taker}
use Rattle.input_queue.specs.Ends.{Putting, of_viewer, note_of}
use Rattle.input_queue.proofs.Moves.{joins}
use Rattle.input_queue.proofs.Settled.{join_returns, join_counts}
use Rattle.input_queue.proofs.hub.InputHub.join.Goals as goal

pub absorb-requires-clause-rule : goal.absorb-requires-clause-rule
absorb-requires-clause-rule g c =
    let i = c.maker.invariant.1 in
    joins _ _ _ _ (ap (λ v. v.makes) i) (ap (λ v. v.takes) i) (ap (λ v. v.takes) c.in_ok-items.ensures.taken)

pub returns-clause-each : goal.returns-clause-each
returns-clause-each g c many few apart =
    let n = (known c.maker.inside.pass).number in
    let back = c.give_back_all-taking.ensures in
    let taken = c.args.taker.taken in
    let items = c.in_ok-items.items.items in
    let seats = c.args.seats.items in
    let before : (known c.give_back_all-taking.result).taken ≡ taken = ap (λ v. v.taken) back.noted ∙ ap (λ t. t.taken) c.taker.view_is in
    let notes : (known c.give_back_all-taking.result).noted ≡ map note_of seats = ap (λ v. v.noted) back.noted in
    let is : known c.take_all.new.taking ≡ taker (taken ++ items) (map note_of seats) = c.in_ok-items.ensures.taken ∙ (λ k. taker (before k ++ items) (notes k)) in
    let counted = ap (λ h. h.seats) c.maker.view_is ∙ ap (λ h. h.seats) c.self.view_is in
    let all : length seats ≡ n = many ∙ sym counted ∙ sym (c.maker.invariant.2 (subst (λ m. m < 18446744073709551615) (sym counted) few)) in
    subst (λ l. All (λ (s : Putting). of_viewer s.viewer (taken ++ l) ≡ s.accepted) seats) (sym c.from_vec.ensures)
    (join_returns (known c.take_all.new.taking) (known c.absorb.new.pass) taken items seats n is c.absorb.ensures.rule c.in_ok-items.ensures.empty c.learn_as.ensures.rule all apart back.own)

pub returns-clause-no_other : goal.returns-clause-no_other
returns-clause-no_other g c many few =
    let n = (known c.maker.inside.pass).number in
    let back = c.give_back_all-taking.ensures in
    let taken = c.args.taker.taken in
    let items = c.in_ok-items.items.items in
    let seats = c.args.seats.items in
    let before : (known c.give_back_all-taking.result).taken ≡ taken = ap (λ v. v.taken) back.noted ∙ ap (λ t. t.taken) c.taker.view_is in
    let notes : (known c.give_back_all-taking.result).noted ≡ map note_of seats = ap (λ v. v.noted) back.noted in
    let is : known c.take_all.new.taking ≡ taker (taken ++ items) (map note_of seats) = c.in_ok-items.ensures.taken ∙ (λ k. taker (before k ++ items) (notes k)) in
    let counted = ap (λ h. h.seats) c.maker.view_is ∙ ap (λ h. h.seats) c.self.view_is in
    let all : length seats ≡ n = many ∙ sym counted ∙ sym (c.maker.invariant.2 (subst (λ m. m < 18446744073709551615) (sym counted) few)) in
    subst (λ l. length (taken ++ l) ≡ sum_by (λ (s : Putting). length s.accepted) seats) (sym c.from_vec.ensures)
    (join_counts (known c.take_all.new.taking) (known c.absorb.new.pass) taken items seats n is c.absorb.ensures.rule c.in_ok-items.ensures.empty c.learn_as.ensures.rule all)
