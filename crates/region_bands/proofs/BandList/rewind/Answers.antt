use Rattle.region_bands.proofs.SeenLemmas.{seen, holds_for, shows_for}
use Rattle.region_bands.proofs.StepLemmas.{rewound, rewound_over}
use Rattle.region_bands.proofs.BandList.rewind.Goals as goal

pub first_under-self-inside-requires : goal.first_under-self-inside-requires
first_under-self-inside-requires c =
    let h = holds_for c.self.inside.spans c.self.inside.lists c.self.inside.gap c.self.inside.left c.args.self.now c.self.invariant c.self.view_is c.in-Some.lists c.in-Some.is in
    rewound_over c.self.inside.spans c.in-Some.lists.bands c.in-Some.lists.row c.self.inside.gap c.self.inside.left c.args.self.now h c.first-self-inside.result c.first-self-inside.ensures

pub invariant_of-self : goal.invariant_of-self
invariant_of-self c =
    let h = holds_for c.self.inside.spans c.self.inside.lists c.self.inside.gap c.self.inside.left c.args.self.now c.self.invariant c.self.view_is c.in-Some.lists c.in-Some.is in (
      _,
      shows_for c.self.inside.spans c.self.inside.lists c.first-self-inside.result c.first_under-self-inside.result _ c.in-Some.lists c.in-Some.is
          (rewound c.self.inside.spans c.in-Some.lists.bands c.in-Some.lists.row c.self.inside.gap c.self.inside.left c.args.self.now h c.first-self-inside.result c.first-self-inside.ensures c.first_under-self-inside.result c.first_under-self-inside.ensures),
    )

pub returns-in-Some : goal.returns-in-Some
returns-in-Some c =
    let h = holds_for c.self.inside.spans c.self.inside.lists c.self.inside.gap c.self.inside.left c.args.self.now c.self.invariant c.self.view_is c.in-Some.lists c.in-Some.is in
    seen c.self.inside.spans c.self.inside.lists c.first-self-inside.result c.first_under-self-inside.result _
    (shows_for c.self.inside.spans c.self.inside.lists c.first-self-inside.result c.first_under-self-inside.result _ c.in-Some.lists c.in-Some.is
    (rewound c.self.inside.spans c.in-Some.lists.bands c.in-Some.lists.row c.self.inside.gap c.self.inside.left c.args.self.now h c.first-self-inside.result c.first-self-inside.ensures c.first_under-self-inside.result c.first_under-self-inside.ensures))
