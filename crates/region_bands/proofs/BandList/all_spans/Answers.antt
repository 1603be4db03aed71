use Rattle.std.proofs.Common.{ap}
use Rattle.region_bands.specs.Bands.{reading_of}
use Rattle.region_bands.proofs.SeenLemmas.{seen, holds_for, shows_for}
use Rattle.region_bands.proofs.StepLemmas.{rewound, rewound_over}
use Rattle.region_bands.proofs.BandList.all_spans.Goals as goal

pub first_under-reader-inside-requires : goal.first_under-reader-inside-requires
first_under-reader-inside-requires c =
    let h = holds_for c.self.inside.spans c.self.inside.lists c.self.inside.gap c.self.inside.left c.args.self.now c.self.invariant c.self.view_is c.in-Some.lists c.in-Some.is in
    rewound_over c.self.inside.spans c.in-Some.lists.bands c.in-Some.lists.row c.self.inside.gap c.self.inside.left c.args.self.now h c.first-reader-inside.result c.first-reader-inside.ensures

pub invariant_of-reader : goal.invariant_of-reader
invariant_of-reader c =
    let h = holds_for c.self.inside.spans c.self.inside.lists c.self.inside.gap c.self.inside.left c.args.self.now c.self.invariant c.self.view_is c.in-Some.lists c.in-Some.is in (
      _,
      shows_for c.self.inside.spans c.self.inside.lists c.first-reader-inside.result c.first_under-reader-inside.result _ c.in-Some.lists c.in-Some.is
          (rewound c.self.inside.spans c.in-Some.lists.bands c.in-Some.lists.row c.self.inside.gap c.self.inside.left c.args.self.now h c.first-reader-inside.result c.first-reader-inside.ensures c.first_under-reader-inside.result c.first_under-reader-inside.ensures),
    )

pub returns-in-Some : goal.returns-in-Some
returns-in-Some c =
    let h = holds_for c.self.inside.spans c.self.inside.lists c.self.inside.gap c.self.inside.left c.args.self.now c.self.invariant c.self.view_is c.in-Some.lists c.in-Some.is in
    ap reading_of (seen c.self.inside.spans c.self.inside.lists c.first-reader-inside.result c.first_under-reader-inside.result _
    (shows_for c.self.inside.spans c.self.inside.lists c.first-reader-inside.result c.first_under-reader-inside.result _ c.in-Some.lists c.in-Some.is
    (rewound c.self.inside.spans c.in-Some.lists.bands c.in-Some.lists.row c.self.inside.gap c.self.inside.left c.args.self.now h c.first-reader-inside.result c.first-reader-inside.ensures c.first_under-reader-inside.result c.first_under-reader-inside.ensures)))
