use Rattle.std.proofs.Common.{◌∙◌, ◌++◌, ap, w32}
use Rattle.std.proofs.lemmas.Int.{to_z-of_z}
use Rattle.encode_raw.specs.Raw.{head}
use Rattle.encode_raw.proofs.rect_header.Goals as goal

pub returns-clause-ok : goal.returns-clause-ok
returns-clause-ok c =
    c.in_ok-extend_from_slice.ensures.items ∙ ap (λ l. c.args.out.now.items ++ l) c.head_bytes.ensures
    ∙ ap (λ e. c.args.out.now.items ++ head c.args.area e) (to_z-of_z w32 c.args.encoding c.ranges.encoding)
