use Rattle.std.proofs.Common.{◌≡◌, ◌≤◌, ◌-◌, ℕ, List, ◌++◌, length, take, drop, Ok, ◌∙◌, ap, ap₂, refl, sym, arith, vec_len}
use Rattle.updates.specs.declared.stream.Stream.TheInside.{Inside}
use Rattle.std.proofs.lemmas.List.{drop_all}
use Rattle.updates.proofs.RemainingLemmas.{piece_given}
use Rattle.updates.proofs.stream.Stream.put.Goals as goal
use Rattle.updates.proofs.stream.Stream.put.Goals.{then-self-len+in_ok-put_short+else-branch+in_ok-make_part, else-self-len}

pub returns-clause-ok : goal.returns-clause-ok
returns-clause-ok c =
    let here = c.if-self-len.self-inside in
    let out = c.args.out.now.items in
    let same : drop here.given here.made.items ++ here.remaining ≡ c.args.self.now = elim c.if-self-len.branch [
      | then-self-len+in_ok-put_short+else-branch+in_ok-make_part w ↦
          let was = c.self.inside in
          let over : length was.made.items ≤ was.given = omega (arith, was.made.ok.0, c.len.ensures, w.if-self-len.true) in
          let other = w.put_short.ensures.same (w.in_ok-put_short.was ∙ ap Ok w.if-branch.false) in
          rw w.self-inside-is (w.in_ok-make_part.ensures.bytes ∙ other ∙ sym (ap (λ (l : List ℕ). l ++ was.remaining) (drop_all was.given was.made.items over)) ∙ c.self.view_is)
      | else-self-len w ↦ rw w.self-inside-is c.self.view_is
    ] in
    let untouched : c.if-self-len.out.items ≡ out = elim c.if-self-len.branch [
      | then-self-len+in_ok-put_short+else-branch+in_ok-make_part w ↦ rw w.out-is (w.put_short.ensures.other (w.in_ok-put_short.was ∙ ap Ok w.if-branch.false))
      | else-self-len w ↦ rw w.out-is refl
    ] in
    let ordered : here.given ≤ c.min-end.result = elim c.if-self-len.branch [
      | then-self-len+in_ok-put_short+else-branch+in_ok-make_part w ↦ omega (arith, ap (λ (i : Inside). i.given) w.self-inside-is)
      | else-self-len w ↦ omega (arith, ap (λ (i : Inside). i.given) w.self-inside-is, ap (λ (i : Inside). vec_len i.made) w.self-inside-is, w.if-self-len.false, c.len.ensures, c.len-2.ensures, c.min-end.ensures, c.saturating_add.ensures)
    ] in
    piece_given here.made.items here.remaining out c.extend_from_slice.new.self.items here.given c.min-end.result ordered
    (c.in_ok-extend_from_slice.ensures.items ∙ ap₂ (λ (o l : List ℕ). o ++ take (c.min-end.result - here.given) (drop here.given l)) untouched c.deref.ensures.value)
    ∙ ap (λ (l : List ℕ). out ++ l) same
