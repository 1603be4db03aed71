use Rattle.std.proofs.Common.{rules, ◌≡◌, ◌-◌, min, List, ℕ, ap, ◌∙◌, arith, take, drop, length}
use Rattle.std.proofs.lemmas.List.{take_all, length-drop}
use Rattle.source_talk.specs.Opening.{answers, answered_by, heard_by}
use Rattle.source_talk.specs.Outbox.{put, most_waiting}
use Rattle.source_talk.proofs.Lists.{drop_within}
use Rattle.source_talk.proofs.opening.Opening.answer.Goals as goal

pub returns-clause-put : goal.returns-clause-put
returns-clause-put c =
    let xs : List ℕ = c.deref-2.result.now in
    let m : ℕ = c.min.result in
    let told : ℕ = c.args.self.now.told in
    let same : xs ≡ answers (answered_by (heard_by c.args.self.now.said)) = search rules in
    let all : take (length xs - m) (drop m xs) ≡ drop m xs = take_all (length xs - m) (drop m xs) (omega (arith, length-drop m xs)) in
    let at : m ≡ min told (length xs) = search rules in
    let bytes : take (length xs - m) (drop m xs) ≡ drop told (answers (answered_by (heard_by c.args.self.now.said))) =
    all ∙ ap (λ (k : ℕ). drop k xs) at ∙ drop_within told xs ∙ ap (λ (l : List ℕ). drop told l) same in
    c.in_ok-put.ensures.ok ∙ ap (λ (l : List ℕ). put most_waiting l c.args.out.now) bytes
