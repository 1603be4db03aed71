-- The heads of messages, and the entries of the colour map, are turns.
use Rattle.std.proofs.Common.{◌≡◌, ℕ, zero, suc, ◌+◌, ◌<◌, List, [], ◌∷◌, ◌++◌, length, slice_index, Option, None, Some, refl, sym, ap, ◌∙◌, arith}
use Rattle.std.specs.Prelude.{◌==◌, if◌then◌else◌}
use Rattle.std.proofs.lemmas.Bool.{ne_eqb, cond-false}
use Rattle.std.specs.Int.{w32, from_be_bytes}
use Rattle.pixel_translate.specs.Pixel.{be16_at, be32_at}
use Rattle.encode_raw.specs.Reading.{◌>>=◌, bytes_at}
use Rattle.viewer_picture.specs.Messages.{Display, ColourMap, message_of, rectangles_at, entries_at, messages_in}
use Rattle.server_reader.specs.declared.stage.Size.{Size}
use Rattle.server_reader.specs.declared.stage.MapEntries.{MapEntries}
use Rattle.server_reader.specs.declared.stage.Stage.{Stage}
use Rattle.server_reader.specs.declared.stage.Stage.TheVariants as stage
use Rattle.server_reader.specs.declared.step.Step.TheVariants as step
use Rattle.server_reader.specs.declared.fault.ReadFault.{ReadFault}
use Rattle.server_reader.specs.Groups.{message_length}
use Rattle.server_reader.specs.Stages.{display, rest_of, entries_rest}
use Rattle.server_reader.specs.Steps.{state_at, IsTurn, IsRefused}

-- ---- what comes next

pub no_rectangles : (count : ℕ) (d : Display) (bytes : List ℕ) → count ≡ 0 → rest_of stage.UpdateEnd d bytes ≡ rectangles_at count d bytes
unfolding rectangles_at
no_rectangles count d bytes e = ap (λ (n : ℕ). rectangles_at n d bytes) (sym e)

pub some_rectangles : (count behind : ℕ) (d : Display) (bytes : List ℕ) → behind + 1 ≡ count → rest_of (stage.Rectangle behind) d bytes ≡ rectangles_at count d bytes
some_rectangles count behind d bytes e = ap (λ (n : ℕ). rectangles_at n d bytes) (let one : suc behind ≡ count = omega (arith, e) in one)

pub no_entries : (left first : ℕ) (d : Display) (bytes : List ℕ) → left ≡ 0 → rest_of stage.Message d bytes ≡ entries_rest left first d bytes
unfolding entries_at
no_entries left first d bytes e = ap (λ (n : ℕ). entries_rest n first d bytes) (sym e)

-- ---- heads

abbrev then_messages : ℕ → Option (Display × List ℕ) → Option Display
then_messages n o = o >>= λ (r : Display × List ℕ). messages_in n r.0 r.1

-- 7.6.1
pub update_turn : (size : Size) (head : List ℕ) (after : Stage) → length head ≡ 4 → slice_index head 0 ≡ 0
    → ((d : Display) (bytes : List ℕ) → rest_of after d bytes ≡ rectangles_at (be16_at head 2) d bytes)
    → IsTurn (state_at size stage.Message) head (record { state = state_at size after; step = step.Head })
unfolding messages_in
update_turn size (a ∷ b ∷ c ∷ e ∷ []) after long kind rest shown colours later zero room = absurd (omega (arith, room))
update_turn size (a ∷ b ∷ c ∷ e ∷ []) after long kind rest shown colours later (suc n) room =
    let d : Display = display size shown colours in
    record {
      left = n;
      room = omega (arith, room);
      is = ap (λ (k : ℕ). then_messages n (message_of d k (b ∷ c ∷ e ∷ later))) kind ∙ ap (then_messages n) (sym (rest d later));
    }
update_turn size _ after long kind rest shown colours later n room = absurd (omega (arith, long))

-- 7.6.2
pub map_turn : (size : Size) (head : List ℕ) (after : Stage) → length head ≡ 6 → slice_index head 0 ≡ 1
    → ((d : Display) (bytes : List ℕ) → rest_of after d bytes ≡ entries_rest (be16_at head 4) (be16_at head 2) d bytes)
    → IsTurn (state_at size stage.Message) head (record { state = state_at size after; step = step.Head })
unfolding messages_in
map_turn size (a ∷ b ∷ c ∷ e ∷ f ∷ g ∷ []) after long kind rest shown colours later zero room = absurd (omega (arith, room))
map_turn size (a ∷ b ∷ c ∷ e ∷ f ∷ g ∷ []) after long kind rest shown colours later (suc n) room =
    let d : Display = display size shown colours in
    record {
      left = n;
      room = omega (arith, room);
      is = ap (λ (k : ℕ). then_messages n (message_of d k (b ∷ c ∷ e ∷ f ∷ g ∷ later))) kind ∙ ap (then_messages n) (sym (rest d later));
    }
map_turn size _ after long kind rest shown colours later n room = absurd (omega (arith, long))

-- 7.6.3
pub bell_turn : (size : Size) (head : List ℕ) → length head ≡ 1 → slice_index head 0 ≡ 2
    → IsTurn (state_at size stage.Message) head (record { state = state_at size stage.Message; step = step.Bell })
unfolding messages_in
bell_turn size (a ∷ []) long kind shown colours later zero room = absurd (omega (arith, room))
bell_turn size (a ∷ []) long kind shown colours later (suc n) room =
    record { left = n; room = omega (arith, room); is = ap (λ (k : ℕ). then_messages n (message_of (display size shown colours) k later)) kind }
bell_turn size _ long kind shown colours later n room = absurd (omega (arith, long))

-- 7.6.4
behind_bytes : (n : ℕ) (d : Display) (o : Option (List ℕ × List ℕ))
    → then_messages n ((o >>= λ (t : List ℕ × List ℕ). Some t.1) >>= λ (more : List ℕ). Some (d, more)) ≡ (o >>= λ (t : List ℕ × List ℕ). messages_in n d t.1)
behind_bytes n d None = refl
behind_bytes n d (Some t) = refl

pub text_turn : (size : Size) (head : List ℕ) (long : ℕ) → length head ≡ 8 → slice_index head 0 ≡ 3 → long ≡ be32_at head 4
    → IsTurn (state_at size stage.Message) head (record { state = record { size = size; text = long; stage = stage.Message }; step = step.TextBegins long })
unfolding messages_in
text_turn size (a ∷ b ∷ c ∷ e ∷ f ∷ g ∷ h ∷ i ∷ []) long eight kind is shown colours later zero room = absurd (omega (arith, room))
text_turn size (a ∷ b ∷ c ∷ e ∷ f ∷ g ∷ h ∷ i ∷ []) long eight kind is shown colours later (suc n) room =
    let d : Display = display size shown colours in
    record {
      left = n;
      room = omega (arith, room);
      is = ap (λ (k : ℕ). then_messages n (message_of d k (b ∷ c ∷ e ∷ f ∷ g ∷ h ∷ i ∷ later))) kind
          ∙ behind_bytes n d (bytes_at (from_be_bytes w32 (f ∷ g ∷ h ∷ i ∷ [])) later)
          ∙ ap (λ (m : ℕ). bytes_at m later >>= λ (t : List ℕ × List ℕ). messages_in n d t.1) (sym is);
    }
text_turn size _ long eight kind is shown colours later n room = absurd (omega (arith, eight))

-- a message has a first byte
pub some_head : (head : List ℕ) → length head ≡ message_length (slice_index head 0) → 0 < length head
some_head [] long = absurd (omega (arith, long))
some_head (a ∷ head) long = omega arith

-- 7.6: no message has another type
other_kind : (d : Display) (kind : ℕ) (bytes : List ℕ) → 3 < kind → message_of d kind bytes ≡ None
other_kind d kind bytes above =
    cond-false _ _ _ (ne_eqb kind 0 (λ e. absurd (omega (arith, above, e))))
    ∙ cond-false _ _ _ (ne_eqb kind 1 (λ e. absurd (omega (arith, above, e))))
    ∙ cond-false _ _ _ (ne_eqb kind 2 (λ e. absurd (omega (arith, above, e))))
    ∙ cond-false _ _ _ (ne_eqb kind 3 (λ e. absurd (omega (arith, above, e))))

pub unknown_refused : (size : Size) (head : List ℕ) → 0 < length head → 3 < slice_index head 0 → IsRefused (state_at size stage.Message) head
unfolding messages_in
unknown_refused size [] some above shown colours later n = absurd (omega (arith, some))
unknown_refused size (a ∷ head) some above shown colours later zero = refl
unknown_refused size (a ∷ head) some above shown colours later (suc n) = ap (then_messages n) (other_kind (display size shown colours) a (head ++ later) above)

-- an update's end has no bytes
pub end_turn : (size : Size) (group : List ℕ) → length group ≡ 0 → IsTurn (state_at size stage.UpdateEnd) group (record { state = state_at size stage.Message; step = step.UpdateEnd })
end_turn size [] long shown colours later n room = record { left = n; room = room; is = refl }
end_turn size (a ∷ group) long shown colours later n room = absurd (omega (arith, long))

pub fault_refused : (size : Size) (fault : ReadFault) (group : List ℕ) → IsRefused (state_at size (stage.Faulted fault)) group
fault_refused size fault group shown colours later n = refl

-- ---- an entry of the colour map

pub entry_turn : (size : Size) (entries : MapEntries) (bytes : List ℕ) (after : Stage) (next left : ℕ) → length bytes ≡ 6 → next ≡ entries.next + 1 → left + 1 ≡ entries.left
    → ((d : Display) (bytes : List ℕ) → rest_of after d bytes ≡ entries_rest left next d bytes)
    → IsTurn (state_at size (stage.MapEntries entries)) bytes
    (record { state = state_at size after; step = step.MapEntry entries.next (be16_at bytes 0) (be16_at bytes 2) (be16_at bytes 4) })
unfolding entries_at
entry_turn size entries (a ∷ b ∷ c ∷ e ∷ f ∷ g ∷ []) after next left long is-next is-left rest shown colours later n room =
    let d : Display = display size shown colours in
    let all : List ℕ = a ∷ b ∷ c ∷ e ∷ f ∷ g ∷ later in
    let red : ℕ = be16_at (a ∷ b ∷ []) 0 in
    let green : ℕ = be16_at (c ∷ e ∷ []) 0 in
    let blue : ℕ = be16_at (f ∷ g ∷ []) 0 in
    let now : ColourMap = λ entry. if entry == entries.next then Some (red, green, blue) else colours entry in
    record {
      left = n;
      room = omega (arith, room);
      is = ap (λ (k : ℕ). then_messages n (entries_rest k entries.next d all)) (let one : entries.left ≡ suc left = omega (arith, is-left) in one)
          ∙ ap (λ (k : ℕ). then_messages n (entries_rest left k (record d { colours = now }) later)) (sym is-next)
          ∙ ap (then_messages n) (sym (rest (record d { colours = now }) later));
    }
entry_turn size entries _ after next left long is-next is-left rest shown colours later n room = absurd (omega (arith, long))
