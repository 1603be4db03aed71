use Rattle.std.proofs.Common.{◌≡◌, ◌++◌, take, drop, sym, ap, refl, ◌∙◌, rules}
use Rattle.std.proofs.lemmas.List.{take_rest}
use Rattle.connection.specs.Waiting.{waiting_bytes}
use Rattle.connection.proofs.Pieces.{taken}
use Rattle.connection.specs.BoundsLemmas.{writes-few}
use Rattle.connection.proofs.backlog.Backlog.write_update.Goals as goal

pub returns-in-Ok : goal.returns-in-Ok
returns-in-Ok g c =
    let b = c.deref.result.now in
    let n = c.write_once-count.result.0 in
    let left = waiting_bytes c.make.new.self in
    let made : c.make.new.buffer.items ++ left ≡ waiting_bytes c.args.self.now = search rules in
    let parts = taken n b left _ (ap (λ l. l ++ left) c.deref.ensures.value ∙ made) in
    record {
      sent = (take n b, drop n b ++ left, c.write_once-count.ensures.moved, parts, λ fine. ap (λ l. drop n l ++ left) (c.deref.ensures.value ∙ sym c.deref-2.ensures.value) ∙ ap (λ l. l ++ left) (sym (take_rest c.deref-2.result.now n)) ∙ sym c.in-Ok.ensures.bytes);
      bound = writes-few 65536 n _ _ _ c.write_once-count.ensures.moved.written c.write_once-count.ensures.most;
      few = c.keep.ensures.few;
    }

pub returns-in-Err : goal.returns-in-Err
returns-in-Err g c =
    let b = c.deref.result.now in
    let n = c.write_once-count.result.0 in
    let left = waiting_bytes c.make.new.self in
    let made : c.make.new.buffer.items ++ left ≡ waiting_bytes c.args.self.now = search rules in
    let parts = taken n b left _ (ap (λ l. l ++ left) c.deref.ensures.value ∙ made) in
    record {
      sent = (take n b, drop n b ++ left, c.write_once-count.ensures.moved, parts, λ fine. absurd (fine refl));
      bound = writes-few 65536 n _ _ _ c.write_once-count.ensures.moved.written c.write_once-count.ensures.most;
      few = c.keep.ensures.few;
    }
