use Rattle.std.proofs.Common.{ℕ, List, ◌+◌, ◌++◌, take, cond, is_ok, length, ap, ◌∙◌, sym, arith}
use Rattle.messages.specs.Grammar.{text_limit}
use Rattle.messages.specs.Reading.{cut_text}
use Rattle.messages.proofs.ListLemmas.{take-append_room}
use Rattle.messages.proofs.text.Text.take.Goals as goal

pub returns : goal.returns
returns c =
    ap (λ (t : List ℕ). cut_text c.args.self.now.length t (c.args.self.now.come + length c.args.bytes.now))
    (c.extend_from_slice.ensures.items
    ∙ ap (λ b. cond b (c.args.self.now.bytes.items ++ take (c.min.result) c.args.bytes.now) c.args.self.now.bytes.items) (ap is_ok c.unwrap.ensures)
    ∙ sym (take-append_room text_limit c.min.result c.args.self.now.bytes.items c.args.bytes.now c.requires.kept (omega (arith, c.min.ensures, c.len-missing.ensures))))
