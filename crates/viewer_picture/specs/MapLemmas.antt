-- The server's colour map is read, and leaves its entries.
use Rattle.std.proofs.Common.{◌≡◌, ℕ, zero, suc, ◌+◌, ◌*◌, ◌/◌, ◌%◌, ◌<◌, ◌≤◌, ◌^◌, Bool, true, false, cond, List, ◌∷◌, ◌++◌, length, map, Option, Some, refl, sym, ap, ◌∙◌, arith, append_assoc}
use Rattle.std.specs.Prelude.{◌==◌}
use Rattle.std.specs.List.{flat_map, range_with_len}
use Rattle.std.specs.Int.{w16, to_be_bytes, from_be_bytes}
use Rattle.std.proofs.lemmas.Bool.Decides.{nat_tests, Decides-eqb}
use Rattle.std.proofs.lemmas.Nat.{from_be_bytes-to_be_bytes_2}
use Rattle.std.proofs.Math.Nat.{mod-lt}
use Rattle.encode_raw.specs.Reading.{◌>>=◌}
use Rattle.messages.specs.Server.{map_entry, entry_bytes, colour_map}
use Rattle.viewer_picture.specs.Messages.{Display, ColourMap, entries_at}
use Rattle.viewer_picture.specs.MessageLemmas.{Reads, message-read}

-- the map once an entry is set, and once so many of the server's are, from one on
abbrev pub set_in : ℕ → ℕ × ℕ × ℕ → ColourMap → ColourMap
set_in first told colours entry = cond (entry == first) (Some told) (colours entry)

abbrev pub mapped : ℕ → ℕ → ColourMap → ColourMap
mapped zero first colours = colours
mapped (suc n) first colours = mapped n (first + 1) (set_in first (map_entry first) colours)

again : ℕ → ℕ
again n = from_be_bytes w16 (to_be_bytes w16 n)

again_is : (n : ℕ) → n < 2 ^ 16 → again n ≡ n
unfolding again
again_is n h = from_be_bytes-to_be_bytes_2 n h

low : (p : ℕ) → p % 8 * 65535 / 7 < 2 ^ 16
low p = let h : p % 8 < 8 = mod-lt p (omega arith) in omega arith

middle : (p : ℕ) → p / 8 % 8 * 65535 / 7 < 2 ^ 16
middle p = low (p / 8)

high : (p : ℕ) → p / 64 % 4 * 65535 / 3 < 2 ^ 16
high p = let h : p / 64 % 4 < 4 = mod-lt (p / 64) (omega arith) in omega arith

-- one entry, and then the others
entry-read : (n first : ℕ) (colours : ColourMap) (rest : List ℕ)
    → entries_at (suc n) first colours (entry_bytes (map_entry first) ++ rest) ≡ entries_at n (first + 1) (set_in first (map_entry first) colours) rest
unfolding entries_at again
entry-read n first colours rest =
    let r : ℕ = first % 8 * 65535 / 7 in
    let g : ℕ = first / 8 % 8 * 65535 / 7 in
    let b : ℕ = first / 64 % 4 * 65535 / 3 in
    ap (λ (k : ℕ). entries_at n (first + 1) (set_in first (k, again g, again b) colours) rest) (again_is r (low first))
    ∙ ap (λ (k : ℕ). entries_at n (first + 1) (set_in first (r, k, again b) colours) rest) (again_is g (middle first))
    ∙ ap (λ (k : ℕ). entries_at n (first + 1) (set_in first (r, g, k) colours) rest) (again_is b (high first))

entries-read : (n first : ℕ) (colours : ColourMap) (more : List ℕ)
    → entries_at n first colours (flat_map entry_bytes (map map_entry (range_with_len first n)) ++ more) ≡ Some (mapped n first colours, more)
unfolding entries_at
entries-read zero first colours more = refl
entries-read (suc n) first colours more =
    let others : List ℕ = flat_map entry_bytes (map map_entry (range_with_len (first + 1) n)) in
    ap (entries_at (suc n) first colours) (append_assoc (entry_bytes (map_entry first)) others more)
    ∙ entry-read n first colours (others ++ more)
    ∙ entries-read n (first + 1) (set_in first (map_entry first) colours) more

-- the map once all of the server's are set
unfoldable pub all_mapped : ColourMap → ColourMap
all_mapped colours = mapped 256 0 colours

-- the whole map is one message
pub map-read : (n : ℕ) (d : Display) (more : List ℕ) → length (colour_map ++ more) ≤ n → Reads n d (colour_map ++ more) (record d { colours = all_mapped d.colours }) more
unfolding colour_map all_mapped
map-read n d more room =
    message-read n d (record d { colours = mapped 256 0 d.colours }) 1 (0 ∷ 0 ∷ 0 ∷ 1 ∷ 0 ∷ flat_map entry_bytes (map map_entry (range_with_len 0 256))) more room
    (ap (λ (o : Option (ColourMap × List ℕ)). o >>= λ (r : ColourMap × List ℕ). Some (record d { colours = r.0 }, r.1)) (entries-read 256 0 d.colours more))

-- ---- what the entries are then

-- an entry before the first is left as it was
before : (n first : ℕ) (colours : ColourMap) (p : ℕ) → p < first → mapped n first colours p ≡ colours p
before zero first colours p small = refl
before (suc n) first colours p small =
    before n (first + 1) (set_in first (map_entry first) colours) p (omega arith)
    ∙ (let other : (p == first) ≡ false = grind (arith, nat_tests) in ap (λ b. cond b (Some (map_entry first)) (colours p)) other)

set-there : (n first : ℕ) (colours : ColourMap) (p : ℕ) → first ≤ p → p < first + n → mapped n first colours p ≡ Some (map_entry p)
set-there zero first colours p from to = absurd (omega arith)
set-there (suc n) first colours p from to = go (p == first) refl (λ other. set-there n (first + 1) (set_in first (map_entry first) colours) p other (omega arith))
  where
    go : (b : Bool) → (p == first) ≡ b → (first + 1 ≤ p → mapped n (first + 1) (set_in first (map_entry first) colours) p ≡ Some (map_entry p))
        → mapped n (first + 1) (set_in first (map_entry first) colours) p ≡ Some (map_entry p)
    go true e rest =
        let same : p ≡ first = (Decides-eqb p first).0 e in
        before n (first + 1) (set_in first (map_entry first) colours) p (omega arith)
        ∙ ap (λ b. cond b (Some (map_entry first)) (colours p)) e ∙ ap (λ k. Some (map_entry k)) (sym same)
    go false e rest = let other : first + 1 ≤ p = grind (arith, nat_tests) in rest other

-- each of the server's entries is there
pub all-there : (colours : ColourMap) (p : ℕ) → p < 256 → all_mapped colours p ≡ Some (map_entry p)
unfolding all_mapped
all-there colours p small = set-there 256 0 colours p (omega arith) small
