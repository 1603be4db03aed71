use Rattle.std.proofs.Common.{◌≡◌, ◌∙◌, ◌++◌, ◌∷◌, ◌+◌, [], ℕ, sym, ap, subst, arith, take, List, All}
use Rattle.std.specs.Map.{values_of}
use Rattle.client_list.specs.Connected.{changed}
use Rattle.copy_schedule.specs.declared.LogEntry.{LogEntry}
use Rattle.copy_schedule.specs.declared.LogEntry.TheVariants.{Mark}
use Rattle.viewer_list.specs.declared.lagging.Lagging.{Lagging}
use Rattle.viewer_list.specs.Lagging.{seen, brought_up, within_end, Fits}
use Rattle.viewer_list.proofs.ListLemmas.{seen-joined, fit-joined}
use Rattle.viewer_list.proofs.joining.join.Goals as goal

pub catch_up_from-requires : goal.catch_up_from-requires
catch_up_from-requires c = subst (λ (es : List LogEntry). All (Fits es) (values_of c.args.viewers.now.pairs)) (sym c.deref.ensures.value) c.requires.fits

pub returns-in_err-catch_up_from-clause-seen : goal.returns-in_err-catch_up_from-clause-seen
returns-in_err-catch_up_from-clause-seen c = subst (λ (es : List LogEntry). seen es c.catch_up_from.new.viewers.pairs ≡ seen es c.args.viewers.now.pairs) c.deref.ensures.value c.catch_up_from.ensures.same

pub returns-in_err-catch_up_from-clause-fits : goal.returns-in_err-catch_up_from-clause-fits
returns-in_err-catch_up_from-clause-fits c = subst (λ (es : List LogEntry). All (Fits es) (values_of c.catch_up_from.new.viewers.pairs)) c.deref.ensures.value c.catch_up_from.ensures.fits

pub returns-clause-seen : goal.returns-clause-seen
returns-clause-seen c =
    let log = c.args.log.now.items in
    let start = c.args.viewers.now.pairs in
    let end : c.len.result ≡ c.args.position + 1 = omega arith in
    let entries : c.push_reserved.new.self.items ≡ take c.args.position log ++ Mark c.args.region ∷ [] = c.push_reserved.ensures.items ∙ ap (λ (es : List LogEntry). es ++ Mark c.args.region ∷ []) c.truncate.ensures.items in
    let moved : c.move_all_within.new.viewers.pairs ≡ changed (within_end c.len.result) (changed (brought_up log (c.args.position + 1)) start) =
    c.move_all_within.ensures ∙ ap (changed (within_end c.len.result)) (c.in_ok-catch_up_from.ensures.ok ∙ ap (λ (es : List LogEntry). changed (brought_up es (c.args.position + 1)) start) c.deref.ensures.value) in
    ap (λ (es : List LogEntry). seen es c.move_all_within.new.viewers.pairs) entries
    ∙ ap (seen (take c.args.position log ++ Mark c.args.region ∷ [])) moved
    ∙ seen-joined log c.args.position c.len.result c.args.region c.requires.position end c.requires.joined start c.requires.fits

pub returns-clause-fits : goal.returns-clause-fits
returns-clause-fits c =
    let log = c.args.log.now.items in
    let start = c.args.viewers.now.pairs in
    let end : c.len.result ≡ c.args.position + 1 = omega arith in
    let entries : c.push_reserved.new.self.items ≡ take c.args.position log ++ Mark c.args.region ∷ [] = c.push_reserved.ensures.items ∙ ap (λ (es : List LogEntry). es ++ Mark c.args.region ∷ []) c.truncate.ensures.items in
    let moved : c.move_all_within.new.viewers.pairs ≡ changed (within_end c.len.result) (changed (brought_up log (c.args.position + 1)) start) =
    c.move_all_within.ensures ∙ ap (changed (within_end c.len.result)) (c.in_ok-catch_up_from.ensures.ok ∙ ap (λ (es : List LogEntry). changed (brought_up es (c.args.position + 1)) start) c.deref.ensures.value) in
    subst (λ (es : List LogEntry). All (Fits es) (values_of c.move_all_within.new.viewers.pairs)) (sym entries)
    (subst (λ (ps : List (ℕ × Lagging)). All (Fits (take c.args.position log ++ Mark c.args.region ∷ [])) (values_of ps)) (sym moved)
    (fit-joined log c.args.position c.len.result c.args.region c.requires.position end c.requires.joined start c.requires.fits))
