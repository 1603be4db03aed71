use Rattle.std.proofs.Common.{◌++◌, ◌∙◌, ap, subst}
use Rattle.std.specs.Prelude.{not}
use mathlib.Core.Bool.{beq}
use Rattle.region.specs.Region.{IsCanonical, reversed_if, in_order}
use Rattle.region.proofs.ListLemmas.{written}
use Rattle.region.specs.Rects.{lines_in}
use Rattle.region.proofs.Region.rects.Goals as goal
use Rattle.region.proofs.ListOrderLemmas.{in_the_order}
use Rattle.region.proofs.BandRectLemmas.{rects_canonical}
use Rattle.region.specs.Forms.{bands_in}
use Rattle.region.proofs.FormLemmas.{form_bands}

pub returns-in_err-push_rects-clause-canonical : goal.returns-in_err-push_rects-clause-canonical
returns-in_err-push_rects-clause-canonical c = subst (λ v. IsCanonical v.list) c.self.view_is (rects_canonical (bands_in c.self.inside.form) (form_bands c.self.inside.form c.self.invariant))

pub returns-clause-canonical : goal.returns-clause-canonical
returns-clause-canonical c = subst (λ v. IsCanonical v.list) c.self.view_is (rects_canonical (bands_in c.self.inside.form) (form_bands c.self.inside.form c.self.invariant))

pub returns-clause-order : goal.returns-clause-order
returns-clause-order c =
    c.from_vec.ensures
    ∙ written c.push_rects.new.out c.deref_mut.result.now c.reverse_if.new.rects c.deref_mut.ensures.value c.reverse_if.auto.rects
    ∙ c.reverse_if.ensures
    ∙ ap (reversed_if c.args.reverse_y) (c.deref_mut.ensures.value ∙ c.in_ok-push_rects.ensures ∙ ap (λ l. l ++ lines_in (not (beq c.args.reverse_x c.args.reverse_y)) c.reader.result.bands) c.new-list.ensures.items
    ∙ ap (λ r. lines_in (not (beq c.args.reverse_x c.args.reverse_y)) r.bands) c.reader.ensures)
    ∙ in_the_order c.args.reverse_x c.args.reverse_y (bands_in c.self.inside.form) (form_bands c.self.inside.form c.self.invariant)
    ∙ ap (λ v. in_order c.args.reverse_x c.args.reverse_y v.list) c.self.view_is
