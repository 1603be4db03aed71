use Rattle.std.proofs.Common.{◌≡◌, List, ℕ, [], ◌++◌, sym, ap, ◌∙◌, append_assoc, append-nil, rules}
use Rattle.std.specs.Prelude.{flat_map}
use Rattle.std.proofs.lemmas.List.{nil_from_length}
use Rattle.scribe.specs.ScribingLemmas.{puts-nothing}
use Rattle.recorder.specs.Words.{colour_digits}
use Rattle.recorder.proofs.Lines.{puts-as, few-more}
use Rattle.recorder.proofs.words.put_colours.Goals as goal

pub loop-few-init : goal.loop-few-init
loop-few-init g c = (search rules, tt, search rules, ([], puts-nothing c.args.scribe.now, search rules))

pub loop-few-preserved : goal.loop-few-preserved
loop-few-preserved g c =
    let few = c.in-Some.few.now in
    let steps = c.in-Some.ensures.steps in
    let so_far = c.loop-few.invariant.3 in (
      search rules,
      tt,
      steps.0 ∙ c.loop-few.invariant.2,
      (
        so_far.0 ++ few,
        few-more colour_digits so_far.0 few c.args.scribe.now c.loop-few.scribe c.put_few_colours.new.scribe so_far.1 c.put_few_colours.ensures,
        append_assoc so_far.0 few _ ∙ ap (λ (l : List ℕ). so_far.0 ++ l) (sym steps.1.0) ∙ so_far.2,
      ),
    )

pub returns : goal.returns
returns g c =
    let so_far = c.loop-few.invariant.3 in
    let none = nil_from_length _ c.in-None.ensures.steps.1.0 in
    let all : so_far.0 ≡ c.args.colours.now = sym (append-nil so_far.0) ∙ ap (λ (l : List ℕ). so_far.0 ++ l) (sym none) ∙ so_far.2 in
    puts-as (flat_map colour_digits so_far.0) (flat_map colour_digits c.args.colours.now) c.args.scribe.now c.loop-few.scribe (ap (flat_map colour_digits) all) so_far.1
