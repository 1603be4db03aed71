use Rattle.std.proofs.Common.{◌≡◌, ℕ, ◌+◌, ◌++◌, List, length, map, sym, ap, ◌∙◌, arith}
use Rattle.std.specs.List.{flat_map, range_with_len}
use Rattle.std.proofs.lemmas.List.{flat_map_more}
use Rattle.std.proofs.lemmas.List.FromFn.{map-range_with_len_more}
use Rattle.messages.specs.Server.{map_entry, entry_bytes}
use Rattle.messages.proofs.writers.append_entries.Goals as goal

-- one entry more
more : (old : List ℕ) (n : ℕ) → (old ++ flat_map entry_bytes (map map_entry (range_with_len 0 n))) ++ entry_bytes (map_entry n) ≡ old ++ flat_map entry_bytes (map map_entry (range_with_len 0 (n + 1)))
more old n =
    flat_map_more entry_bytes old (map map_entry (range_with_len 0 n)) (map_entry n)
    ∙ ap (λ (l : List (ℕ × ℕ × ℕ)). old ++ flat_map entry_bytes l) (sym (map-range_with_len_more map_entry 0 n n (omega arith)))

pub loop-pixel-preserved : goal.loop-pixel-preserved
loop-pixel-preserved c =
    let n : ℕ = c.loop-pixel.pixel in
    let bytes = c.entry_bytes.ensures ∙ ap entry_bytes (sym c.entry_of.ensures) in
    record {
      done = c.append.ensures.items ∙ ap (λ (l : List ℕ). c.loop-pixel.out.items ++ l) bytes
          ∙ ap (λ (l : List ℕ). l ++ entry_bytes (map_entry n)) c.loop-pixel.invariant.done ∙ more c.args.out.now.items n;
      room = omega (arith, c.append.ensures.len, c.append.ensures.capacity, c.loop-pixel.invariant.room, c.loop-pixel-test.true, ap (λ (l : List ℕ). length l) bytes);
    }

pub returns : goal.returns
returns c =
    let all : c.loop-pixel.pixel ≡ 256 = omega (arith, c.loop-pixel-test.false, c.loop-pixel.auto.pixel-end) in
    c.loop-pixel.invariant.done ∙ ap (λ (n : ℕ). c.args.out.now.items ++ flat_map entry_bytes (map map_entry (range_with_len 0 n))) all
