use Rattle.std.proofs.Common.{◌≡◌, ℤ, pos, ◌∙◌, arith, rules}
use Rattle.std.specs.Prelude.{FitsSigned, ◌+ℤ◌, ◌≤ℤ◌}
use Rattle.std.specs.Int.{w32, w64}
use Rattle.std.proofs.lemmas.Int.{ints, to_z-of_z}
use Rattle.framebuffer.proofs.SpanLemmas.{kept_is}
use Rattle.framebuffer.proofs.spans.kept_span.Goals as goal

pub span_of-requires-clause-high : goal.span_of-requires-clause-high
span_of-requires-clause-high c =
    let end : FitsSigned w64 c.smaller-end.result = record { sfits = c.smaller-end.type_inv } in
    let limit : FitsSigned w64 c.from-limit.result = record { sfits = c.from-limit.type_inv } in
    rw (to_z-of_z w64 _ end) (omega (arith, ints, simp to_z-of_z at c.smaller-end.ensures.second, c.from-limit.ensures, c.requires))

pub returns-clause-same : goal.returns-clause-same
returns-clause-same c = λ x.
    let from : FitsSigned w64 c.from.result = record { sfits = c.from.type_inv } in
    let to : FitsSigned w64 c.from-2.result = record { sfits = c.from-2.type_inv } in
    let by : FitsSigned w64 c.from-by.result = record { sfits = c.from-by.type_inv } in
    let limit : FitsSigned w64 c.from-limit.result = record { sfits = c.from-limit.type_inv } in
    let start : FitsSigned w64 c.larger-start.result = record { sfits = c.larger-start.type_inv } in
    let end : FitsSigned w64 c.smaller-end.result = record { sfits = c.smaller-end.type_inv } in
    let a : FitsSigned w64 c.larger.result = record { sfits = c.larger.type_inv } in
    let b : FitsSigned w64 c.smaller.result = record { sfits = c.smaller.type_inv } in
    let f32 : FitsSigned w32 c.args.from = c.ranges.from in
    let t32 : FitsSigned w32 c.args.to = c.ranges.to in
    let b32 : FitsSigned w32 c.args.by = c.ranges.by in
    let is_from : c.from.result ≡ c.args.from = c.from.ensures ∙ to_z-of_z w32 _ f32 in
    let is_to : c.from-2.result ≡ c.args.to = c.from-2.ensures ∙ to_z-of_z w32 _ t32 in
    let is_by : c.from-by.result ≡ c.args.by = c.from-by.ensures ∙ to_z-of_z w32 _ b32 in
    let is_limit : c.from-limit.result ≡ pos c.args.limit = c.from-limit.ensures in
    let sum : FitsSigned w64 (c.from-limit.result +ℤ c.from-by.result) = search rules in
    kept_is c.args.from c.args.to c.args.by (pos c.args.limit) c.larger-start.result c.smaller-end.result c.larger.result c.smaller.result x _
    (simp to_z-of_z at (c.span_of.ensures.same x))
    (simp (is_from, is_by) at (simp to_z-of_z at (c.larger.ensures.test x)))
    (simp to_z-of_z at (c.larger-start.ensures.test x))
    (simp (is_to, is_by, is_limit) at (simp to_z-of_z at (c.smaller.ensures.test x)))
    (simp is_limit at (simp to_z-of_z at (c.smaller-end.ensures.test x)))

pub returns-clause-low : goal.returns-clause-low
returns-clause-low c = λ less. search rules

pub returns-clause-high : goal.returns-clause-high
returns-clause-high c = λ less. search rules

pub returns-clause-source_low : goal.returns-clause-source_low
returns-clause-source_low c = λ less.
    let by : FitsSigned w64 c.from-by.result = record { sfits = c.from-by.type_inv } in
    let start : FitsSigned w64 c.larger-start.result = record { sfits = c.larger-start.type_inv } in
    let a : FitsSigned w64 c.larger.result = record { sfits = c.larger.type_inv } in
    let b32 : FitsSigned w32 c.args.by = c.ranges.by in
    omega (arith, ints, simp to_z-of_z at (c.span_of.ensures.start less), simp to_z-of_z at c.larger-start.ensures.first, simp to_z-of_z at c.larger.ensures.second, simp to_z-of_z at c.from-by.ensures)

pub returns-clause-source_high : goal.returns-clause-source_high
returns-clause-source_high c = λ less.
    let by : FitsSigned w64 c.from-by.result = record { sfits = c.from-by.type_inv } in
    let end : FitsSigned w64 c.smaller-end.result = record { sfits = c.smaller-end.type_inv } in
    let b : FitsSigned w64 c.smaller.result = record { sfits = c.smaller.type_inv } in
    let limit : FitsSigned w64 c.from-limit.result = record { sfits = c.from-limit.type_inv } in
    let is_by : c.from-by.result ≡ c.args.by = c.from-by.ensures ∙ to_z-of_z w32 _ c.ranges.by in
    let is_limit : c.from-limit.result ≡ pos c.args.limit = c.from-limit.ensures in
    let sum : FitsSigned w64 (c.from-limit.result +ℤ c.from-by.result) = search rules in
    before _ _ _ _ (simp to_z-of_z at (c.span_of.ensures.end less)) (simp to_z-of_z at c.smaller-end.ensures.first) (simp (is_by, is_limit) at (simp to_z-of_z at c.smaller.ensures.second))
  where
    before : (r e b n : ℤ) → r ≤ℤ e → e ≤ℤ b → b ≤ℤ n → r ≤ℤ n
    before r e b n p q s = omega (arith, ints, p, q, s)
