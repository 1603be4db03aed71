use Rattle.std.proofs.Common.{sym}
use Rattle.region_bands.proofs.ClearLemmas.{clearing_all, not_empty, clearing_more, fewer_bands, all_cleared, all_given_back}
use Rattle.region_bands.proofs.BandList.clear.Goals as goal

pub bands-init : goal.bands-init
bands-init c = clearing_all c.args.self.now c.rewind.new.self c.rewind.ensures

pub remove_first-requires : goal.remove_first-requires
remove_first-requires c = not_empty c.args.self.now c.bands.self c.bands.invariant c.first_rows.result c.first_rows.ensures c.is_some.result (sym c.is_some.ensures) c.bands-test.true

pub bands-smaller : goal.bands-smaller
bands-smaller c = fewer_bands c.args.self.now c.bands.self c.bands.invariant c.first_rows.result c.first_rows.ensures c.is_some.result (sym c.is_some.ensures) c.bands-test.true c.remove_first.new.self c.remove_first.ensures

pub bands-preserved : goal.bands-preserved
bands-preserved c = clearing_more c.args.self.now c.bands.self c.bands.invariant c.first_rows.result c.first_rows.ensures c.is_some.result (sym c.is_some.ensures) c.bands-test.true c.remove_first.new.self c.remove_first.ensures

pub returns : goal.returns
returns c = record {
  spare = all_given_back c.args.self.now c.bands.self c.bands.invariant c.first_rows.result c.first_rows.ensures c.is_some.result (sym c.is_some.ensures) c.bands-test.false c.drop_row.new.self c.drop_row.ensures.spare c.drop_row.ensures.row;
  cleared = all_cleared c.args.self.now c.bands.self c.bands.invariant c.first_rows.result c.first_rows.ensures c.is_some.result (sym c.is_some.ensures) c.bands-test.false c.drop_row.new.self c.drop_row.ensures.spare c.drop_row.ensures.row;
}
