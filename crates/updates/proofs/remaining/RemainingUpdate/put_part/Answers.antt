use Rattle.std.proofs.Common.{◌≤◌, ℕ, List, [], ◌++◌, length, ◌∙◌, ap, refl, sym, arith, append-nil}
use Rattle.updates.specs.declared.remaining.RemainingPart.TheVariants.{Nothing}
use Rattle.updates.specs.RemainingUpdates.{remaining_part, remaining_update}
use Rattle.updates.proofs.RemainingLemmas.{all_told, on_ok}
use Rattle.updates.proofs.SentLemmas.{some_more}
use Rattle.updates.proofs.remaining.RemainingUpdate.put_part.Goals as goal

pub returns-then-self-clause-more : goal.returns-then-self-clause-more
returns-then-self-clause-more c = λ some. some_more c.args.out.now.items c.put_colour_map.new.out.items c.in_ok-put_colour_map.ensures.ok

pub returns-in_ok-put_size-in-NewSize-clause-bytes : goal.returns-in_ok-put_size-in-NewSize-clause-bytes
returns-in_ok-put_size-in-NewSize-clause-bytes c =
    let here = c.self.inside in
    let over : length here.notices.items ≤ here.notices_sent = omega (arith, here.notices.ok.0, c.len.ensures, c.if-self-len.false) in
    let rest = all_told here.map_owed here.notices.items here.notices_sent (remaining_part here.part) c.args.self.now c.if-self.false over c.self.view_is in
    let none = all_told here.map_owed here.notices.items here.notices_sent [] (remaining_update here.map_owed here.notices.items here.notices_sent Nothing) c.if-self.false over refl in
    ap (λ (l : List ℕ). c.put_size.new.out.items ++ l) (sym none) ∙ append-nil c.put_size.new.out.items ∙ c.in_ok-put_size-in-NewSize.ensures
    ∙ ap (λ (l : List ℕ). c.args.out.now.items ++ l) (sym (ap remaining_part c.in-NewSize.is) ∙ rest)

pub returns-in-Places-clause-more : goal.returns-in-Places-clause-more
returns-in-Places-clause-more c =
    let here = c.self.inside in
    let over : length here.notices.items ≤ here.notices_sent = omega (arith, here.notices.ok.0, c.len.ensures, c.if-self-len.false) in
    let rest = all_told here.map_owed here.notices.items here.notices_sent (remaining_part here.part) c.args.self.now c.if-self.false over c.self.view_is in
    on_ok c.put_part.result _ _ c.put_part.ensures.more (λ f some. f (λ none. some (sym rest ∙ ap remaining_part c.in-Places.is ∙ none)))

pub returns-in-Shared-clause-more : goal.returns-in-Shared-clause-more
returns-in-Shared-clause-more c =
    let here = c.self.inside in
    let over : length here.notices.items ≤ here.notices_sent = omega (arith, here.notices.ok.0, c.len.ensures, c.if-self-len.false) in
    let rest = all_told here.map_owed here.notices.items here.notices_sent (remaining_part here.part) c.args.self.now c.if-self.false over c.self.view_is in
    on_ok c.put_part-in-Shared.result _ _ c.put_part-in-Shared.ensures.more (λ f some. f (λ none. some (sym rest ∙ ap remaining_part c.in-Shared.is ∙ none)))
