use Rattle.std.proofs.Common.{ℕ, ◌++◌, ◌∷◌, [], List, map, ap, ◌∙◌, append_assoc}
use Rattle.std.specs.List.{flat_map, range_with_len}
use Rattle.messages.specs.Server.{map_entry, entry_bytes, colour_map}
use Rattle.messages.proofs.writers.put_colour_map.Goals as goal

pub returns-clause-ok : goal.returns-clause-ok
unfolding colour_map
returns-clause-ok c =
    let front : List ℕ = 1 ∷ 0 ∷ 0 ∷ 0 ∷ 1 ∷ 0 ∷ [] in
    let entries : List ℕ = flat_map entry_bytes (map map_entry (range_with_len 0 256)) in
    c.append_entries.ensures
    ∙ ap (λ (l : List ℕ). l ++ entries) (c.append.ensures.items ∙ ap (λ (l : List ℕ). l ++ front) c.reserve.ensures.items)
    ∙ append_assoc c.args.out.now.items front entries
