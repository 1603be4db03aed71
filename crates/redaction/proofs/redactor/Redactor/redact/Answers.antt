use Rattle.std.proofs.Common.{◌≡◌, ℕ, Some, None, sym, ap, ◌∙◌, rules}
use Rattle.std.specs.BTreeMap.{BTreeMap}
use Rattle.redaction.specs.Places.{Spot}
use Rattle.redaction.specs.Following.{spot_at}
use Rattle.redaction.proofs.Following.{redacted_there, redacted_away, follows_there, follows_away}
use Rattle.redaction.proofs.redactor.Redactor.redact.Goals as goal
use Rattle.redaction.proofs.redactor.Redactor.redact.Goals.{in-Some, in-None}

pub returns-clause-piece : goal.returns-clause-piece
returns-clause-piece c = λ es follows. elim c.match-get_mut.branch [
  | in-Some w ↦
      let found : spot_at c.args.self.now c.args.viewer ≡ Some w.in-Some.place.now = rw (← c.self.view_is) (sym w.in-Some.ensures.value) in
      w.piece-is ∙ w.redact.ensures.piece ∙ redacted_there _ w.in-Some.place.now c.args.piece.now (sym (follows c.args.viewer) ∙ found)
  | in-None w ↦
      let found : spot_at c.args.self.now c.args.viewer ≡ None = rw (← c.self.view_is) (sym w.in-None.ensures.value) in
      w.piece-is ∙ w.clear.ensures ∙ redacted_away _ c.args.piece.now (sym (follows c.args.viewer) ∙ found)
]

pub returns-clause-follows : goal.returns-clause-follows
returns-clause-follows c = λ es follows. elim c.match-get_mut.branch [
  | in-Some w ↦
      let found : spot_at c.args.self.now c.args.viewer ≡ Some w.in-Some.place.now = rw (← c.self.view_is) (sym w.in-Some.ensures.value) in
      follows_there c.args.self.now _ es c.args.viewer c.args.piece.now w.in-Some.place.now follows found
      (λ q. rw (w.self-inside-is, ← w.redact.ensures.place, ← c.self.view_is) (((c.get_mut.follows.holds w.redact.new.self).3 (search rules)).0 q))
  | in-None w ↦
      let found : spot_at c.args.self.now c.args.viewer ≡ None = rw (← c.self.view_is) (sym w.in-None.ensures.value) in
      follows_away c.args.self.now _ es c.args.viewer c.args.piece.now follows found
      (λ q. rw (w.self-inside-is, ← c.self.view_is) (ap (λ (places : BTreeMap ℕ Spot). spot_at places.entries q) c.get_mut.follows.holds-at-none))
]
