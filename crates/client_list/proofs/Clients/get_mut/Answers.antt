use Rattle.std.proofs.Common.{ℕ, sym, ap, ◌∙◌, inl}
use Rattle.client_list.specs.Connected.{Connected, index_of, with_value, value_at}
use Rattle.client_list.proofs.NumberLemmas.{value_found}
use Rattle.client_list.proofs.Clients.get_mut.Goals as goal

pub returns-in-Some : goal.returns-in-Some
returns-in-Some g c = (
  ap (λ (v : Connected g.row.T.Denot). inl (c.at_mut.result.ghost_name, with_value v (index_of v.positions c.in-Some.position))) c.self.view_is
      ∙ ap (λ (i : ℕ). inl (c.at_mut.result.ghost_name, with_value c.args.self.now i)) c.in-Some.ensures.found.1,
  record {
    writes_back = tt;
    value = sym c.at_mut.ensures.value ∙ ap (λ (v : Connected g.row.T.Denot). value_at v c.in-Some.position) c.self.view_is ∙ value_found c.args.self.now c.in-Some.position c.args.number c.in-Some.ensures.found;
  },
)
