use Rattle.std.proofs.Common.{refl, sym, ap, ◌∙◌}
use Rattle.std.specs.Prelude.{option_map}
use Rattle.connections.specs.Telling.{inputs_told}
use Rattle.demo_app.specs.Application.{stroke_event}
use Rattle.demo_app.proofs.LoopLemmas.{keeps-said, told-more, told-none, told-refused}
use Rattle.demo_app.proofs.one_thread.ShowingApplication.on_input.Goals as goal

pub returns-in_default-clause-told : goal.returns-in_default-clause-told
returns-in_default-clause-told g c = λ told was.
    let w = g.S.Options.width in
    let h = g.S.Options.height in
    let old = c.args.self.now in
    let input = c.args.input.now in
    keeps-said w h g.S.Options.forever old.easel old.drawn old.viewers old.viewers old.receipts.items old.receipts.items told c.args._viewer input refl refl
    (told-none w h old.easel old.drawn (inputs_told told) c.args._viewer input (ap (option_map stroke_event) (sym c.in_default.is) ∙ c.stroke.ensures) was.drew) was.ends was.kept

pub returns-in_err-keep-clause-told : goal.returns-in_err-keep-clause-told
returns-in_err-keep-clause-told g c = λ told was.
    let w = g.S.Options.width in
    let h = g.S.Options.height in
    let old = c.args.self.now in
    let now = c.keep.new.self in
    keeps-said w h g.S.Options.forever now.easel now.drawn old.viewers now.viewers old.receipts.items now.receipts.items told c.args._viewer c.args.input.now c.keep.ensures.viewers (ap (λ v. v.items) c.keep.ensures.receipts)
    (told-refused w h old.easel now.easel old.drawn now.drawn (inputs_told told) _ c.keep.ensures.easel c.in_err-keep.ensures.refused was.drew) was.ends was.kept

pub returns-clause-told : goal.returns-clause-told
returns-clause-told g c = λ told was.
    let w = g.S.Options.width in
    let h = g.S.Options.height in
    let old = c.args.self.now in
    let now = c.keep.new.self in
    let input = c.args.input.now in
    keeps-said w h g.S.Options.forever now.easel now.drawn old.viewers now.viewers old.receipts.items now.receipts.items told c.args._viewer input c.keep.ensures.viewers (ap (λ v. v.items) c.keep.ensures.receipts)
    (told-more w h old.easel now.easel old.drawn now.drawn (inputs_told told) c.args._viewer input (stroke_event c.in-Some.stroke) c.keep.ensures.easel
    (ap (option_map stroke_event) (sym c.in-Some.is) ∙ c.stroke.ensures) c.in_ok-keep.ensures.kept was.drew) was.ends was.kept
