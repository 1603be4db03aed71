use Rattle.std.proofs.Common.{◌≡◌, ◌++◌, List, ℕ, ap, ◌∙◌, arith, subst, take, length}
use Rattle.std.specs.Result.{OnOk}
use Rattle.std.proofs.lemmas.List.{length-take}
use Rattle.source_talk.specs.Requests.{text_message}
use Rattle.source_talk.specs.Outbox.{put, most_pressing, longest_text}
use Rattle.source_talk.proofs.Lists.{take_within}
use Rattle.source_talk.proofs.outbox.Outbox.put_text.Goals as goal

pub returns-clause-ok : goal.returns-clause-ok
returns-clause-ok c =
    let text : List ℕ = c.args.text.now in
    let kept : take c.min.result text ≡ take longest_text text = ap (λ (n : ℕ). take n text) c.min.ensures ∙ take_within longest_text text in
    let long : c.min.result ≡ length (take longest_text text) = omega (arith, c.min.ensures, length-take longest_text text) in
    let bytes : c.text_head.result ++ take c.min.result text ≡ text_message (take longest_text text) = cc in
    subst (λ (l : List ℕ). OnOk c.put_both.result (c.put_both.new.self ≡ put most_pressing l c.args.self.now)) bytes c.put_both.ensures.ok
