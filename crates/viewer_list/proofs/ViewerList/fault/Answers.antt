use Rattle.std.proofs.Common.{◌∙◌, sym, ap, Some, Option}
use Rattle.std.specs.Option.{option_map}
use Rattle.messages.specs.declared.Fault.{Fault}
use Rattle.messages.specs.Reading.{fault_in_rest}
use Rattle.viewer.specs.Viewer.{KeptViewer}
use Rattle.viewer_list.proofs.ListLemmas.{viewer-some, viewer-absent}
use Rattle.viewer_list.proofs.ViewerList.fault.Goals as goal

pub returns-in-Some : goal.returns-in-Some
returns-in-Some c = ap (λ (f : Option Fault). Some f) c.fault.ensures ∙ sym (ap (option_map (λ (v : KeptViewer). fault_in_rest v.heard)) (viewer-some c.args.self.now c.self.inside.log.items c.self.inside.viewers.pairs _ c.args.number c.in-Some.lagging.now c.self.view_is c.in-Some.ensures))

pub returns-in-None : goal.returns-in-None
returns-in-None c = sym (ap (option_map (λ (v : KeptViewer). fault_in_rest v.heard)) (viewer-absent c.args.self.now c.self.inside.log.items c.self.inside.viewers.pairs _ c.args.number c.self.view_is c.in-None.ensures))
