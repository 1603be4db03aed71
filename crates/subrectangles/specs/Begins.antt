-- What an output keeps where memory is refused half-way.
use Rattle.std.proofs.Common.{◌≡◌, ℕ, List, ◌++◌, length, take, Result, Ok, Err, OnErr, sym, ap, ◌∙◌, arith, length-append}
use Rattle.std.proofs.Math.Seq.{take-append_seam}
use Rattle.std.proofs.lemmas.List.{take-take}

-- what was written stays in front
abbrev pub BeginsWith : List ℕ → List ℕ → Type 0
BeginsWith old new = take (length old) new ≡ old

pub begins_more : (old now new : List ℕ) (more : List ℕ) → now ≡ old ++ more → BeginsWith now new → BeginsWith old new
begins_more old now new more e h =
    sym (take-take (length old) (length now) new (omega (arith, ap (length {A = ℕ}) e, length-append old more))) ∙ ap (take (length old)) h
    ∙ ap (take (length old)) e ∙ take-append_seam old more

pub on_err : {A E : Type 0} (r : Result A E) (P : Type 0) → P → OnErr r P
on_err (Ok x) P p = tt
on_err (Err e) P p = p

pub on_err_map : {A E : Type 0} (r : Result A E) (P Q : Type 0) → (P → Q) → OnErr r P → OnErr r Q
on_err_map (Ok x) P Q f p = tt
on_err_map (Err e) P Q f p = f p
