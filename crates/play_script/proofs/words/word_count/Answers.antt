use Rattle.std.proofs.Common.{◌≡◌, ◌+◌, eqb, rules, sym, ap, ◌∙◌}
use Rattle.std.specs.List.{count_by}
use Rattle.play_script.proofs.WordLemmas.{length-parts}
use Rattle.play_script.proofs.words.word_count.Goals as goal

pub returns : goal.returns
returns c =
    let counted : c.count.result ≡ count_by (λ b. eqb b 32) c.args.line.now = search rules in
    ap (λ n. n + 1) counted ∙ sym (length-parts 32 c.args.line.now)
