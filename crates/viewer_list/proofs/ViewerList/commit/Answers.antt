use Rattle.std.proofs.Common.{◌∙◌, ◌∷◌, ◌≤◌, ◌+◌, ◌-◌, ℕ, [], sym, ap, subst, arith, List, All}
use Rattle.std.specs.Prelude.{min, vec_len, vec_capacity}
use Rattle.std.specs.Map.{values_of}
use Rattle.std.proofs.lemmas.List.{length-append}
use Rattle.client_list.specs.Connected.{changed}
use Rattle.copy_schedule.specs.declared.LogEntry.{LogEntry}
use Rattle.copy_schedule.specs.Log.{IsCutEntry}
use Rattle.viewer_list.specs.Lagging.{seen, Fits, IsBounded}
use Rattle.viewer_list.specs.Viewers.{Viewers, drawn}
use Rattle.viewer_list.proofs.ListLemmas.{cut-seen, fit-drawn, seen-drawn}
use Rattle.viewer_list.proofs.ViewerList.commit.Goals as goal

below : (room most len : ℕ) → 1 ≤ min room most - len → len + 1 ≤ most
below room most len some = omega (arith, some)

pub invariant_of-self : goal.invariant_of-self
invariant_of-self c =
    let log = c.self.inside.log.items in
    let pairs = c.self.inside.viewers.pairs in
    let e = c.args.call in
    let room : 1 ≤ min (vec_capacity c.self.inside.log) (c.self.inside.joined + 256) - vec_len c.self.inside.log = subst (λ (s : Viewers). 1 ≤ s.room) (sym c.self.view_is) c.requires.room in
    let cut : All (λ v. IsCutEntry v.marks.width v.marks.height e) (values_of (seen log pairs)) =
    subst (λ (s : Viewers). All (λ v. IsCutEntry v.marks.width v.marks.height e) (values_of s.pairs)) (sym c.self.view_is) c.requires.cut in
    record {
      short =
          subst (λ (es : List LogEntry). IsBounded es c.self.inside.joined) (sym c.push_reserved.ensures.items) (record {
            within = omega (arith, c.self.invariant.short.within, length-append log (e ∷ []));
            few = c.self.invariant.short.few;
            others = omega (arith, below (vec_capacity c.self.inside.log) (c.self.inside.joined + 256) (vec_len c.self.inside.log) room, length-append log (e ∷ []), c.self.inside.log.ok.0);
          });
      each = subst (λ (es : List LogEntry). All (Fits es) (values_of pairs)) (sym c.push_reserved.ensures.items) (fit-drawn log e pairs c.self.invariant.each (cut-seen log e pairs cut));
    }

pub returns-then-not-is_empty : goal.returns-then-not-is_empty
returns-then-not-is_empty c =
    let log = c.self.inside.log.items in
    ap (λ (es : List LogEntry). seen es c.self.inside.viewers.pairs) c.push_reserved.ensures.items
    ∙ seen-drawn log c.args.call c.self.inside.viewers.pairs c.self.invariant.each
    ∙ ap (λ (s : Viewers). changed (drawn c.args.call) s.pairs) c.self.view_is
