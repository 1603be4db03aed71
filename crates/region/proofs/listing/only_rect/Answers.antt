use Rattle.std.proofs.Common.{ap, sym, ◌∙◌, Some}
use Rattle.std.specs.Prelude.{is_some}
use Rattle.region.proofs.OnlyLemmas.{Begun, read_of, none_is, no_columns, more_columns, some_bands, more_bands, one_read}
use Rattle.region.proofs.listing.only_rect.Goals as goal

pub returns-in_err-columns : goal.returns-in_err-columns
returns-in_err-columns c = c.from_residual-in_err-columns.ensures ∙ sym (no_columns c.args.bands.now c.requires.bands c.requires.left c.first_left.result c.first_left.ensures c.in_err-columns.was)

pub returns-then-is_some : goal.returns-then-is_some
returns-then-is_some c =
    let b : Begun c.args.bands.now c.skip_left.new.self c.in_ok-rows.rows c.in_ok-columns.columns = record { begun = read_of c.args.bands.now c.requires.left; first_rows = sym c.first_rows.ensures ∙ c.in_ok-rows.was; column = sym c.first_left.ensures ∙ c.in_ok-columns.was; skip = c.skip_left.ensures } in
    sym (more_columns c.args.bands.now c.skip_left.new.self c.in_ok-rows.rows c.in_ok-columns.columns b (ap is_some (sym c.first_left-2.ensures) ∙ sym c.if-is_some.ensures))

pub advance-requires : goal.advance-requires
advance-requires c =
    let b : Begun c.args.bands.now c.skip_left.new.self c.in_ok-rows.rows c.in_ok-columns.columns = record { begun = read_of c.args.bands.now c.requires.left; first_rows = sym c.first_rows.ensures ∙ c.in_ok-rows.was; column = sym c.first_left.ensures ∙ c.in_ok-columns.was; skip = c.skip_left.ensures } in
    some_bands c.args.bands.now c.skip_left.new.self c.in_ok-rows.rows c.in_ok-columns.columns b

pub returns-then-is_some-2 : goal.returns-then-is_some-2
returns-then-is_some-2 c =
    let b : Begun c.args.bands.now c.skip_left.new.self c.in_ok-rows.rows c.in_ok-columns.columns = record { begun = read_of c.args.bands.now c.requires.left; first_rows = sym c.first_rows.ensures ∙ c.in_ok-rows.was; column = sym c.first_left.ensures ∙ c.in_ok-columns.was; skip = c.skip_left.ensures } in
    sym (more_bands c.args.bands.now c.skip_left.new.self c.advance.new.self c.in_ok-rows.rows c.in_ok-columns.columns c.requires.bands b c.advance.ensures (ap is_some (sym c.first_rows-2.ensures) ∙ sym c.if-is_some-2.ensures))

pub returns : goal.returns
returns c =
    let b : Begun c.args.bands.now c.skip_left.new.self c.in_ok-rows.rows c.in_ok-columns.columns = record { begun = read_of c.args.bands.now c.requires.left; first_rows = sym c.first_rows.ensures ∙ c.in_ok-rows.was; column = sym c.first_left.ensures ∙ c.in_ok-columns.was; skip = c.skip_left.ensures } in
    ap Some c.rect_of.ensures
    ∙ sym (one_read c.args.bands.now c.skip_left.new.self c.advance.new.self c.in_ok-rows.rows c.in_ok-columns.columns b c.advance.ensures
    (sym c.first_left-2.ensures ∙ none_is c.first_left-2.result (sym c.if-is_some.ensures))
    (sym c.first_rows-2.ensures ∙ none_is c.first_rows-2.result (sym c.if-is_some-2.ensures)))
