-- Who came and went, as a program in C is given it.
use Rattle.std.specs.Prelude.{◌≡◌, ◌⊎◌, ℕ, pos, List, [], ◌∷◌}
use Rattle.receipts.specs.declared.Ended.{Ended}
use Rattle.c_server.specs.Codes.{reason_code, fault_of}
use Rattle.c_server.specs.declared.visits.Visit.{Visit}

abbrev pub coming_of : ℕ → Visit
coming_of v = record { viewer = v; kind = 1; reason = 0; fault = pos 0 }

abbrev pub going_of : ℕ → Ended → Visit
going_of v ended = record { viewer = v; kind = 2; reason = reason_code ended; fault = fault_of ended }

-- somebody came, or went
abbrev pub IsVisit : Visit → Type 0
IsVisit visit = ((v : ℕ) × (visit ≡ coming_of v)) ⊎ ((v : ℕ) × (ended : Ended) × (visit ≡ going_of v ended))

abbrev pub AreVisits : List Visit → Type 0
AreVisits [] = Unit {0}
AreVisits (visit ∷ visits) = IsVisit visit × AreVisits visits
