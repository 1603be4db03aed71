-- Who is let in, by examples, so that a wrong rule does not check.
use Rattle.std.proofs.Common.{◌≡◌, ℕ, true, false, List, [], ◌∷◌, codes, refl}
use Rattle.websocket.specs.Headers.{Fields, eq_ignore_case}
use Rattle.web_opening.specs.Text.{is_element, has_element}
use Rattle.web_opening.specs.LetIn.{is_at_any_port, is_origin_by, is_let_in}

-- a request of a page
abbrev of_page : List ℕ → List ℕ → Fields
of_page host origin = (codes "Host", host) ∷ (codes "Origin", origin) ∷ []

-- a request of a program
abbrev of_program : List ℕ → Fields
of_program host = (codes "Host", host) ∷ []

-- where no host and no origin is named
pub record AreUnnamedExamples : Type 0 where
  pub program : is_let_in [] [] (of_program (codes "[::1]:5800")) ≡ true
  pub own_page : is_let_in [] [] (of_page (codes "127.0.0.1:5800") (codes "http://127.0.0.1:5800")) ≡ true
  pub other_letters : is_let_in [] [] (of_page (codes "LOCALHOST") (codes "HTTPS://localhost")) ≡ true
  pub foreign_page : is_let_in [] [] (of_page (codes "127.0.0.1:5800") (codes "https://evil.example")) ≡ false
  pub rebound_name : is_let_in [] [] (of_page (codes "evil.example:5800") (codes "http://evil.example:5800")) ≡ false
  pub longer_name : is_let_in [] [] (of_page (codes "localhost.evil.example") (codes "http://localhost.evil.example")) ≡ false
  pub other_port : is_let_in [] [] (of_page (codes "127.0.0.1:5800") (codes "http://127.0.0.1:80")) ≡ false
  pub hidden_origin : is_let_in [] [] (of_page (codes "localhost:5800") (codes "null")) ≡ false
  pub no_host : is_let_in [] [] (of_program []) ≡ false
  pub no_origin : is_let_in [] [] (of_page (codes "localhost") []) ≡ false

pub unnamed_examples : AreUnnamedExamples
unfolding is_let_in is_at_any_port is_origin_by is_element has_element eq_ignore_case
unnamed_examples = record {
  program = refl;
  own_page = refl;
  other_letters = refl;
  foreign_page = refl;
  rebound_name = refl;
  longer_name = refl;
  other_port = refl;
  hidden_origin = refl;
  no_host = refl;
  no_origin = refl;
}

abbrev hosts : List ℕ
hosts = codes "desk.example, desk.example:8443"

abbrev origins : List ℕ
origins = codes "https://pages.example"

-- where two hosts and an origin are named
pub record AreNamedExamples : Type 0 where
  pub named_host : is_let_in hosts origins (of_page (codes "Desk.example:8443") (codes "https://desk.example:8443")) ≡ true
  pub named_origin : is_let_in hosts origins (of_page (codes "localhost:5800") (codes "https://pages.example")) ≡ true
  pub both : is_let_in hosts origins (of_page (codes "desk.example") (codes "https://pages.example")) ≡ true
  pub unnamed_port : is_let_in hosts origins (of_program (codes "desk.example:5800")) ≡ false
  pub other_scheme : is_let_in hosts origins (of_page (codes "localhost:5800") (codes "http://pages.example")) ≡ false

pub named_examples : AreNamedExamples
unfolding is_let_in is_at_any_port is_origin_by is_element has_element eq_ignore_case
named_examples = record {
  named_host = refl;
  named_origin = refl;
  both = refl;
  unnamed_port = refl;
  other_scheme = refl;
}
