use Rattle.std.proofs.Common.{◌≡◌, ℕ, Ok, ap, sym, ◌∙◌, arith}
use Rattle.std.specs.Prelude.{IfOk}
use Rattle.std.proofs.lemmas.Result.{IfOk-weaker}
use Rattle.messages.specs.declared.ear.Prepared.{Prepared}
use Rattle.messages.specs.Steps.{tells}
use Rattle.messages.specs.Partial.{rest_in, told_of}
use Rattle.messages.specs.Reading.{fault_in_rest}
use Rattle.messages.specs.Progress.{becomes}
use Rattle.messages.proofs.Feeding.{Foretells, keeping_foretells, foretold_items, foretold_fault, foretold_rest, faulted_then}
use Rattle.messages.proofs.ear.Ear.prepare.Goals as goal

by_keeping : (c : goal.After-keep_on) → IfOk c.keep_on.result (Foretells c.args.self.now c.args.piece.now)
by_keeping c =
    let short = rw c.in-Text.is at c.self.invariant in
    IfOk-weaker c.keep_on.result _ _
    (keeping_foretells c.args.self.now c.self.inside.phase c.in-Text.text c.args.piece.now (sym c.self.view_is ∙ ap (rest_in c.self.inside.phase) c.in-Text.is) (omega (arith, c.missing.ensures, c.if-piece-missing.true)) short.1)
    c.keep_on.ensures

pub returns-in-Text-clause-items : goal.returns-in-Text-clause-items
returns-in-Text-clause-items c s e = IfOk-weaker c.keep_on.result _ _ (foretold_items s c.args.piece.now c.args.self.now e) (by_keeping c)

pub returns-in-Text-clause-fault : goal.returns-in-Text-clause-fault
returns-in-Text-clause-fault c s e = IfOk-weaker c.keep_on.result _ _ (foretold_fault s c.args.piece.now c.args.self.now e) (by_keeping c)

pub returns-in-Text-clause-rest : goal.returns-in-Text-clause-rest
returns-in-Text-clause-rest c s e = IfOk-weaker c.keep_on.result _ _ (foretold_rest s c.args.piece.now c.args.self.now e) (by_keeping c)

abbrev reading : goal.After-fault → Prepared
reading c =
    let read = c.in_ok-phase-in_default.field-0 in
    record { heard = record { items = c.from_vec.result; fault = c.fault.result }; change = becomes (rest_in read.phase read.partial) }

by_reading : (c : goal.After-fault) → Foretells c.args.self.now c.args.piece.now (reading c)
by_reading c =
    let told : told_of c.in_ok-phase-in_default.field-0 ≡ tells c.args.self.now c.args.piece.now = c.in_ok-phase-in_default.ensures.told ∙ ap (λ r. tells r c.args.piece.now) c.self.view_is in
    record {
      items = c.from_vec.ensures ∙ ap (λ t. t.items) told;
      fault = c.fault.ensures ∙ ap (λ t. fault_in_rest t.rest) told;
      rest = ap (λ t. t.rest) told;
    }

pub returns-in_ok-phase-in_default-clause-items : goal.returns-in_ok-phase-in_default-clause-items
returns-in_ok-phase-in_default-clause-items c s e = foretold_items s c.args.piece.now c.args.self.now e (reading c) (by_reading c)

pub returns-in_ok-phase-in_default-clause-fault : goal.returns-in_ok-phase-in_default-clause-fault
returns-in_ok-phase-in_default-clause-fault c s e = foretold_fault s c.args.piece.now c.args.self.now e (reading c) (by_reading c)

pub returns-in_ok-phase-in_default-clause-rest : goal.returns-in_ok-phase-in_default-clause-rest
returns-in_ok-phase-in_default-clause-rest c s e = foretold_rest s c.args.piece.now c.args.self.now e (reading c) (by_reading c)

pub returns-in_ok-phase-in_default-clause-faulted : goal.returns-in_ok-phase-in_default-clause-faulted
returns-in_ok-phase-in_default-clause-faulted c = faulted_then {E = ℕ} c.args.piece.now c.args.self.now (Ok (reading c)) (by_reading c)
