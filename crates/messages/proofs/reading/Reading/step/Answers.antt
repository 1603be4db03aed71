use Rattle.std.proofs.Common.{refl, sym, ap, subst}
use Rattle.messages.specs.declared.partial.Partial.TheVariants as partial
use Rattle.messages.specs.Steps.{IsBegun}
use Rattle.messages.specs.Partial.{unfinished_in}
use Rattle.messages.proofs.Bulk.{head_begun}
use Rattle.messages.proofs.Arms.{plain_goes_on, plain_waits, numbers_go_on, numbers_end, numbers_wait, text_goes_on, text_end, text_short, fault_goes_on}
use Rattle.messages.proofs.reading.Reading.step.Goals as goal

pub follow-requires : goal.follow-requires
follow-requires c = subst IsBegun (sym c.in-Some.ensures.some.2.said_by) (head_begun c.args.self.now.phase _)

pub returns-then-numbers-clause-reads : goal.returns-then-numbers-clause-reads
returns-then-numbers-clause-reads c =
    let h = c.in-Some-take.ensures.some in
    numbers_go_on c.args.self.now.items.items c.args.self.now.phase c.args.self.now.partial (partial.Encodings c.take.new.self) c.in-Encodings.numbers c.take.new.self c.args.piece.now c.in-Some-take.used (ap unfinished_in c.in-Encodings.is) refl h.0 h.1 h.2 h.3 c.if-numbers.true

pub returns-then-text-clause-reads : goal.returns-then-text-clause-reads
returns-then-text-clause-reads c =
    let short = rw c.in-Text.is at c.requires.short in
    text_goes_on c.args.self.now.items.items c.args.self.now.phase c.args.self.now.partial (partial.Text c.take-in-Text.new.self) c.in-Text.text c.take-in-Text.new.self c.args.piece.now c.missing.result c.min-used.result
    (ap unfinished_in c.in-Text.is) refl c.missing.ensures c.min-used.ensures short.1 c.take-in-Text.ensures c.if-text.true

pub returns-then-text-clause-short : goal.returns-then-text-clause-short
returns-then-text-clause-short c = (c.if-text.true, text_short c.in-Text.text c.take-in-Text.new.self c.args.piece.now c.min-used.result c.take-in-Text.ensures)

pub returns-in-None-clause-reads : goal.returns-in-None-clause-reads
returns-in-None-clause-reads c =
    let h = c.in-None.ensures.none in
    plain_waits c.args.self.now.items.items c.args.self.now.phase c.args.self.now.partial (partial.Plain c.complete.new.partial) c.in-Plain.partial.items c.complete.new.partial.items c.args.piece.now (ap unfinished_in c.in-Plain.is) refl h.0 h.1

pub returns-in_ok-follow-in-Some-clause-reads : goal.returns-in_ok-follow-in-Some-clause-reads
returns-in_ok-follow-in-Some-clause-reads c =
    let h = c.in-Some.ensures.some in
    plain_goes_on c.args.self.now.items.items c.follow.new.self.items.items c.args.self.now.phase c.follow.new.self.phase c.args.self.now.partial c.follow.new.self.partial c.in-Plain.partial.items c.args.piece.now
    c.in-Some.head c.in-Some.used (ap unfinished_in c.in-Plain.is) h.0 h.1 h.2 c.in_ok-follow-in-Some.ensures.items c.in_ok-follow-in-Some.ensures.rest

pub returns-in-None-take-clause-reads : goal.returns-in-None-take-clause-reads
returns-in-None-take-clause-reads c =
    let h = c.in-None-take.ensures.none in
    numbers_wait c.args.self.now.items.items c.args.self.now.phase c.args.self.now.partial (partial.Encodings c.take.new.self) c.in-Encodings.numbers c.take.new.self c.args.piece.now (ap unfinished_in c.in-Encodings.is) refl h.0 h.1

pub returns-in_ok-say-in-Some-take-clause-reads : goal.returns-in_ok-say-in-Some-take-clause-reads
returns-in_ok-say-in-Some-take-clause-reads c =
    let h = c.in-Some-take.ensures.some in
    let short = rw c.in-Encodings.is at c.requires.short in
    numbers_end c.args.self.now.items.items c.say.new.self.items.items c.args.self.now.phase c.say.new.self.phase c.args.self.now.partial c.say.new.self.partial c.in-Encodings.numbers c.take.new.self c.args.piece.now
    c.in-Some-take.used c.item-item.result (ap unfinished_in c.in-Encodings.is) h.0 h.1 h.2 h.3 c.if-numbers.false short.0 c.item-item.ensures c.in_ok-say-in-Some-take.ensures.items c.in_ok-say-in-Some-take.ensures.rest

pub returns-in_ok-say-in-Text-clause-reads : goal.returns-in_ok-say-in-Text-clause-reads
returns-in_ok-say-in-Text-clause-reads c =
    let short = rw c.in-Text.is at c.requires.short in
    text_end c.args.self.now.items.items c.say-in-Text.new.self.items.items c.args.self.now.phase c.say-in-Text.new.self.phase c.args.self.now.partial c.say-in-Text.new.self.partial c.in-Text.text c.take-in-Text.new.self
    c.args.piece.now c.missing.result c.min-used.result c.finish-item.result (ap unfinished_in c.in-Text.is) c.missing.ensures c.min-used.ensures short.0 c.requires.more c.take-in-Text.ensures
    c.if-text.false c.finish-item.ensures c.in_ok-say-in-Text.ensures.items c.in_ok-say-in-Text.ensures.rest

pub returns-in-Faulted-clause-reads : goal.returns-in-Faulted-clause-reads
returns-in-Faulted-clause-reads c =
    fault_goes_on c.args.self.now.items.items c.args.self.now.phase c.args.self.now.partial c.in-Faulted.field-0 c.args.piece.now (ap unfinished_in c.in-Faulted.is)
