-- Messages that were written are read, one after the other.
use Rattle.std.proofs.Common.{◌≡◌, ℕ, zero, suc, ◌+◌, ◌<◌, ◌≤◌, ◌^◌, Bool, true, false, cond, ◌&&◌, List, [], ◌∷◌, ◌++◌, length, None, Some, Option, refl, ap, ◌∙◌, arith, append_assoc}
use Rattle.std.specs.List.{flat_map, AllByRecursion}
use Rattle.std.specs.Int.{w16, w32, to_be_bytes}
use Rattle.std.proofs.lemmas.Nat.{from_be_bytes-to_be_bytes_2, from_be_bytes-to_be_bytes_4}
use Rattle.std.proofs.lemmas.List.{length-append}
use Rattle.pixel_translate.specs.declared.Area.{Area}
use Rattle.encode_raw.specs.Raw.{head}
use Rattle.encode_raw.specs.Reading.{◌>>=◌, bytes_at, Head, head_at, Shown}
use Rattle.encode_raw.specs.Back.{head_back}
use Rattle.messages.specs.Grammar.{desktop_size, is_desktop_size}
use Rattle.messages.specs.Server.{bell, cut_text, update_head}
use Rattle.viewer_picture.specs.Messages.{Agreed, Display, ColourMap, is_in_picture, may_come, data_at, rectangle_at, with_size, next_by, rectangles_at, message_of, messages_in}

abbrev pub display : Agreed → Shown → ColourMap → Display
display g shown colours = record { agreed = g; shown = shown; colours = colours }

-- ---- rectangles

-- a list's bytes are read as rectangles, each of which changes what is shown
abbrev pub IsReadAs : {X : Type 0} → Agreed → (X → List ℕ) → (X → Shown → Shown) → X → Type 0
IsReadAs g bytes change x = (shown : Shown) (more : List ℕ) → rectangle_at g shown (bytes x ++ more) ≡ Some (change x shown, more)

abbrev pub changed : {X : Type 0} → (X → Shown → Shown) → List X → Shown → Shown
changed change [] shown = shown
changed change (x ∷ xs) shown = changed change xs (change x shown)

module _ {X : Type 0} (g : Agreed) (bytes : X → List ℕ) (change : X → Shown → Shown) where
  pub list-read : (xs : List X) → AllByRecursion (IsReadAs g bytes change) xs → (n k : ℕ) → n ≡ length xs + k → (shown : Shown) (colours : ColourMap) (more : List ℕ)
      → rectangles_at n (display g shown colours) (flat_map bytes xs ++ more) ≡ rectangles_at k (display g (changed change xs shown) colours) more
  unfolding rectangles_at
  list-read [] each n k e shown colours more = let count : n ≡ k = omega (arith, e) in ap (λ (m : ℕ). rectangles_at m (display g shown colours) more) count
  list-read (x ∷ xs) each n k e shown colours more =
      let count : n ≡ suc (length xs + k) = omega (arith, e) in
      let d : Display = display g shown colours in
      let rest : List ℕ = flat_map bytes xs ++ more in
      ap (λ (m : ℕ). rectangles_at m d (flat_map bytes (x ∷ xs) ++ more)) count
      ∙ ap (λ (t : List ℕ). rectangles_at (suc (length xs + k)) d t) (append_assoc (bytes x) (flat_map bytes xs) more)
      ∙ ap (λ (o : Option (Shown × List ℕ)). next_by d (bytes x ++ rest) o >>= λ p. rectangles_at (length xs + k) p.0 p.1) (each.0 shown rest)
      ∙ list-read xs each.1 (length xs + k) k refl (change x shown) colours more

-- ---- messages

pub bytes-read : (text more : List ℕ) → bytes_at (length text) (text ++ more) ≡ Some (text, more)
bytes-read [] more = refl
bytes-read (b ∷ text) more = ap (λ (o : Option (List ℕ × List ℕ)). o >>= λ p. Some (b ∷ p.0, p.1)) (bytes-read text more)

-- with one message read, the others are still to be read
pub record Reads (n : ℕ) (before : Display) (bytes : List ℕ) (after : Display) (more : List ℕ) : Type 0 where
  pub left : ℕ
  pub room : length more ≤ left
  pub is : messages_in n before bytes ≡ messages_in left after more

pub message-read : (n : ℕ) (before after : Display) (b : ℕ) (body more : List ℕ) → length (b ∷ body ++ more) ≤ n → message_of before b (body ++ more) ≡ Some (after, more) → Reads n before (b ∷ body ++ more) after more
unfolding messages_in
message-read zero before after b body more room read = absurd (omega (arith, room))
message-read (suc n) before after b body more room read = record {
  left = n;
  room = omega (arith, room, length-append body more);
  is = ap (λ (o : Option (Display × List ℕ)). o >>= λ p. messages_in n p.0 p.1) read;
}

pub bell-read : (n : ℕ) (d : Display) (more : List ℕ) → length (bell ++ more) ≤ n → Reads n d (bell ++ more) d more
bell-read n d more room = message-read n d d 2 [] more room refl

pub text-read : (n : ℕ) (d : Display) (text more : List ℕ) → length text < 2 ^ 32 → length (cut_text text ++ more) ≤ n → Reads n d (cut_text text ++ more) d more
text-read n d text more small room = message-read n d d 3 (0 ∷ 0 ∷ 0 ∷ to_be_bytes w32 (length text) ++ text) more room
    (ap (λ (m : ℕ). (bytes_at m (text ++ more) >>= λ (t : List ℕ × List ℕ). Some t.1) >>= λ (r : List ℕ). Some (d, r)) (from_be_bytes-to_be_bytes_4 (length text) small)
    ∙ ap (λ (o : Option (List ℕ × List ℕ)). (o >>= λ t. Some t.1) >>= λ (r : List ℕ). Some (d, r)) (bytes-read text more))

pub update-read : (n count : ℕ) (before after : Display) (body more : List ℕ) → count < 2 ^ 16 → length (update_head count ++ body ++ more) ≤ n
    → rectangles_at count before (body ++ more) ≡ Some (after, more) → Reads n before (update_head count ++ body ++ more) after more
update-read n count before after body more small room read = message-read n before after 0 (0 ∷ to_be_bytes w16 count ++ body) more room
    (ap (λ (m : ℕ). rectangles_at m before (body ++ more)) (from_be_bytes-to_be_bytes_2 count small) ∙ read)

-- ---- a new size

-- an update that tells a size to a viewer to which it may come
pub size-read : (n : ℕ) (d : Display) (w h : ℕ) (more : List ℕ) → w < 2 ^ 16 → h < 2 ^ 16 → may_come d.agreed.listed desktop_size ≡ true
    → length (update_head 1 ++ head (record { x = 0; y = 0; w = w; h = h }) desktop_size ++ more) ≤ n
    → Reads n d (update_head 1 ++ head (record { x = 0; y = 0; w = w; h = h }) desktop_size ++ more) (with_size (record { x = 0; y = 0; w = w; h = h }) d) more
unfolding rectangles_at
size-read n d w h more wide high comes room =
    update-read n 1 d (with_size area d) (head area desktop_size) more (omega arith) room
    (ap (λ (o : Option (Display × List ℕ)). o >>= λ p. rectangles_at 0 p.0 p.1)
    (ap (λ (o : Option (Shown × List ℕ)). next_by d bytes o) none ∙ ap (λ (o : Option (Head × List ℕ)). o >>= λ r. cond (is_desktop_size r.0.encoding && may_come d.agreed.listed desktop_size) (Some (with_size r.0.area d, r.1)) None) read
    ∙ ap (λ b. cond b (Some (with_size area d, more)) None) comes))
  where
    area : Area
    area = record { x = 0; y = 0; w = w; h = h }

    bytes : List ℕ
    bytes = head area desktop_size ++ more

    read : head_at bytes ≡ Some (record { area = area; encoding = desktop_size }, more)
    read = head_back area desktop_size more (record { x = omega arith; y = omega arith; w = wide; h = high }) (record { sfits = omega arith })

    neither : (b : Bool) (o : Option (Shown × List ℕ)) → cond b o o ≡ o
    neither true o = refl
    neither false o = refl

    -- it is no rectangle of the picture
    none : rectangle_at d.agreed d.shown bytes ≡ None
    none = ap (λ (o : Option (Head × List ℕ)). o >>= λ r. cond (is_in_picture d.agreed r.0.area && may_come d.agreed.listed r.0.encoding) (data_at d.agreed r.0.area d.shown r.0.encoding r.1) None) read
        ∙ neither (is_in_picture d.agreed area && may_come d.agreed.listed desktop_size) None
