-- What is written to a source is what waited.
use Rattle.std.proofs.Common.{◌≡◌, ℕ, Bool, true, false, if◌then◌else◌, List, [], ◌++◌, length, take, Option, None, Result, Ok, Err, refl, sym, ap, ◌∙◌, append_assoc, append-nil, subst}
use Rattle.std.proofs.lemmas.List.{take-append-drop}
use Rattle.std.proofs.KnownBytes.{Appends-nil, Appends-trans, Appends-kept}
use Rattle.std.specs.Io.KnownBytes.{WriteAppends}
use Rattle.std.specs.declared.io.Error.{Error}
use Rattle.std.specs.Prelude.{IfOk, OnErr}
use Rattle.source_talk.specs.Outbox.{Waiting, put, has_room, without, written, most_waiting}
use Rattle.source_picture.specs.declared.source.Request.{Request}
use Rattle.source_picture.specs.declared.source.Request.TheVariants as request
use Rattle.server_reader.specs.declared.stage.Size.{Size}
use Rattle.mirror.specs.declared.source.Source.{Source}
use Rattle.mirror.specs.declared.source.Stage.{Stage}
use Rattle.mirror.specs.declared.source.Stage.TheVariants as stage
use Rattle.mirror.specs.Sources.{Sends}
use Rattle.mirror.specs.Pictures.{out_with, out_asked, stage_asked}
use Rattle.source_talk.specs.Requests.{request_message}

-- nothing is written, and nothing put
pub sends_none : (known : Option (List ℕ)) (bytes : List ℕ) → Sends known known bytes bytes
sends_none known bytes = record { sent = []; put = []; appends = Appends-nil known; whole = sym (append-nil bytes) }

pub sends_then : (a b c : Option (List ℕ)) (x y z : List ℕ) → Sends a b x y → Sends b c y z → Sends a c x z
sends_then a b c x y z one other = record {
  sent = one.sent ++ other.sent;
  put = one.put ++ other.put;
  appends = Appends-trans a b c one.sent other.sent one.appends other.appends;
  whole = append_assoc one.sent other.sent z ∙ ap (λ (l : List ℕ). one.sent ++ l) other.whole ∙ sym (append_assoc one.sent y other.put)
      ∙ ap (λ (l : List ℕ). l ++ other.put) one.whole ∙ append_assoc x one.put other.put;
}

-- what one write took is the front of what waited
pub sends_write : (a b : Option (List ℕ)) (result : Result ℕ Error) (old new : Waiting) → WriteAppends a b result old.bytes
    → IfOk result (λ n. new ≡ written n old) → OnErr result (new ≡ old) → Sends a b old.bytes new.bytes
sends_write a b (Ok n) old new appends is still = subst (λ (w : Waiting). Sends a b old.bytes w.bytes) (sym is) (record {
  sent = take n old.bytes;
  put = [];
  appends = appends;
  whole = take-append-drop n old.bytes ∙ sym (append-nil old.bytes);
})
sends_write a b (Err error) old new keeps is still = subst (λ (w : Waiting). Sends a b old.bytes w.bytes) (sym still) (record {
  sent = [];
  put = [];
  appends = Appends-kept a a b [] (Appends-nil a) keeps;
  whole = sym (append-nil old.bytes);
})

-- bytes with more behind them
abbrev Adds : (old new : List ℕ) → Type 0
Adds old new = (added : List ℕ) × (new ≡ old ++ added)

adds_none : (bytes : List ℕ) → Adds bytes bytes
adds_none bytes = ([], sym (append-nil bytes))

put_adds : (most : ℕ) (message : List ℕ) (waiting : Waiting) → Adds waiting.bytes (put most message waiting).bytes
put_adds most message waiting =
    elim (has_room most (length message) waiting) as (λ (b : Bool).
    Adds waiting.bytes (if b then record waiting { bytes = waiting.bytes ++ message; last = None } else without waiting).bytes) [
      | true ↦ (message, refl)
      | false ↦ adds_none waiting.bytes
    ]

put_if_adds : (b : Bool) (message : List ℕ) (waiting : Waiting) → Adds waiting.bytes (if b then put most_waiting message waiting else waiting).bytes
put_if_adds true message waiting = put_adds most_waiting message waiting
put_if_adds false message waiting = adds_none waiting.bytes

with_adds : (r : Request) (size : Size) (waiting : Waiting) → Adds waiting.bytes (out_with r size waiting).bytes
with_adds request.None size waiting = adds_none waiting.bytes
with_adds request.Changes size waiting = put_if_adds (has_room most_waiting 10 waiting) (request_message true size.width size.height) waiting
with_adds request.All size waiting = put_if_adds (has_room most_waiting 10 waiting) (request_message false size.width size.height) waiting

asked_adds : (s : Stage) (waiting : Waiting) → Adds waiting.bytes (out_asked s waiting).bytes
asked_adds (stage.Opening opening) waiting = adds_none waiting.bytes
asked_adds (stage.Naming name) waiting = adds_none waiting.bytes
asked_adds (stage.Picture picture) waiting = with_adds picture.asking.request picture.reader.state.size waiting

-- what is asked waits
pub sends_asked : (known : Option (List ℕ)) (s : Stage) (waiting : Waiting) → Sends known known waiting.bytes (out_asked s waiting).bytes
sends_asked known s waiting =
    let more : Adds waiting.bytes (out_asked s waiting).bytes = asked_adds s waiting in
    record { sent = []; put = more.0; appends = Appends-nil known; whole = more.1 }

-- nothing has changed
pub sends_still : {S : Type 0} (contents : S → Option (List ℕ)) (old new : Source S) → new ≡ old
    → Sends (contents old.stream) (contents new.stream) old.out.bytes new.out.bytes
sends_still {S = S} contents old new still =
    subst (λ (s : Source S). Sends (contents old.stream) (contents s.stream) old.out.bytes s.out.bytes) (sym still) (sends_none (contents old.stream) old.out.bytes)

-- a source was asked
pub sends_asking : {S : Type 0} (contents : S → Option (List ℕ)) (old new : Source S)
    → new ≡ record old { stage = stage_asked old.stage old.out; out = out_asked old.stage old.out }
    → Sends (contents old.stream) (contents new.stream) old.out.bytes new.out.bytes
sends_asking {S = S} contents old new asked =
    subst (λ (s : Source S). Sends (contents old.stream) (contents s.stream) old.out.bytes s.out.bytes) (sym asked) (sends_asked (contents old.stream) old.stage old.out)
