-- What is held behind inputs, some behind others.
use Rattle.std.proofs.Common.{◌≡◌, ℕ, List, [], ◌∷◌, ◌++◌, refl, ap, ◌∙◌}
use Rattle.std.specs.Prelude.{◌+◌, ◌<◌, length, take, get_or}
use Rattle.std.proofs.lemmas.List.{take_more}
use Rattle.screen.specs.declared.Input.{Input}
use Rattle.held_inputs.specs.Held.{Held, after, roomy}
use Rattle.connection.specs.Holding.{held_behind}

-- what is held behind inputs, and told of them, behind others
pub held-append : (held : Held) (first rest : List Input) → held_behind held (first ++ rest) ≡ held_behind (held_behind held first) rest
held-append held [] rest = refl
held-append held (i ∷ first) rest = held-append (after (roomy held) i) first rest

-- of one input more
pub held-more : (held : Held) (inputs : List Input) (k : ℕ) (input : Input) → k < length inputs → get_or inputs k input ≡ input → held_behind held (take (k + 1) inputs) ≡ after (roomy (held_behind held (take k inputs))) input
held-more held inputs k input inside is =
    ap (held_behind held) (take_more inputs k input inside ∙ ap (λ i. take k inputs ++ i ∷ []) is) ∙ held-append held (take k inputs) (input ∷ [])
