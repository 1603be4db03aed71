use Rattle.std.proofs.Common.{rules, ◌≡◌, ◌<◌, ◌≢◌, [], refl, sym, ap, ◌∙◌, inl, inr, length, ℕ, List}
use Rattle.std.proofs.lemmas.List.{get_or-set_same}
use Rattle.c_screen.specs.Desk.{first_index, has_output}
use Rattle.c_screen.proofs.Pieces.{no_next, next_at, piece_left, piece_gone}
use Rattle.c_screen.proofs.output.fetch_output.Goals as goal

pub returns-in_default-clause-given : goal.returns-in_default-clause-given
returns-in_default-clause-given c =
    let none = no_next c.args.viewer c.args.output.now.items (ap (has_output c.args.viewer) (sym c.deref.ensures.value) ∙ c.in_default.ensures) in
    ([], [], refl, sym none.0, refl, sym none.1)

pub returns-in_default-clause-some : goal.returns-in_default-clause-some
returns-in_default-clause-some c = λ zero. inr (no_next c.args.viewer c.args.output.now.items (ap (has_output c.args.viewer) (sym c.deref.ensures.value) ∙ c.in_default.ensures)).0

pub returns-then-is_ended-clause-given : goal.returns-then-is_ended-clause-given
returns-then-is_ended-clause-given c =
    let less : c.in-Some.i < length c.args.output.now.items = rw (sym c.deref.ensures.value) c.in-Some.ensures.0 in
    let first : first_index c.args.viewer c.args.output.now.items ≡ c.in-Some.i = rw (sym c.deref.ensures.value) c.in-Some.ensures.1 in
    let now : c.index.result.now ≡ c.fetch.new.self = c.index.ensures ∙ get_or-set_same c.args.output.now.items c.in-Some.i c.fetch.new.self c.index.result.now less in
    let none : c.fetch.new.self.1 ≡ [] = ap (λ (p : ℕ × List ℕ). p.1) (sym now) ∙ c.is_ended.ensures.0 (search rules) in
    piece_gone c.args.viewer c.args.output.now.items c.remove.new.self.items c.in-Some.i c.in_ok-count.count c.index_mut.result.now c.fetch.new.self _ _ less first c.index_mut.ensures.value none c.remove.ensures.items c.in_ok-count.ensures.bytes

pub returns-then-is_ended-clause-some : goal.returns-then-is_ended-clause-some
returns-then-is_ended-clause-some c = λ zero.
    let less : c.in-Some.i < length c.args.output.now.items = rw (sym c.deref.ensures.value) c.in-Some.ensures.0 in
    let first : first_index c.args.viewer c.args.output.now.items ≡ c.in-Some.i = rw (sym c.deref.ensures.value) c.in-Some.ensures.1 in
    let next = next_at c.args.viewer c.args.output.now.items c.in-Some.i c.index_mut.result.now less first ∙ ap (λ (p : ℕ × List ℕ). p.1) (sym c.index_mut.ensures.value) in
    elim (c.in_ok-count.ensures.some zero) [ inl none ↦ inl none | inr none ↦ inr (next ∙ none) ]

pub returns-else-is_ended-clause-given : goal.returns-else-is_ended-clause-given
returns-else-is_ended-clause-given c =
    let less : c.in-Some.i < length c.args.output.now.items = rw (sym c.deref.ensures.value) c.in-Some.ensures.0 in
    let first : first_index c.args.viewer c.args.output.now.items ≡ c.in-Some.i = rw (sym c.deref.ensures.value) c.in-Some.ensures.1 in
    let now : c.index.result.now ≡ c.fetch.new.self = c.index.ensures ∙ get_or-set_same c.args.output.now.items c.in-Some.i c.fetch.new.self c.index.result.now less in
    let some : c.fetch.new.self.1 ≢ [] = λ none. absurd (let yes = c.is_ended.ensures.1 (ap (λ (p : ℕ × List ℕ). p.1) now ∙ none) in search rules) in
    piece_left c.args.viewer c.args.output.now.items c.in-Some.i c.in_ok-count.count c.index_mut.result.now c.fetch.new.self _ _ less first c.index_mut.ensures.value c.in_ok-count.ensures.viewer some c.in_ok-count.ensures.bytes
