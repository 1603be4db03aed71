-- A list that may not be kept, and its room.
use Rattle.std.specs.Prelude.{◌≡◌, ℕ, ◌-◌, ◌≤◌, List, Option, Some, None, IfSome, option_map, vec_capacity, vec_len, refl}
use Rattle.std.specs.Global.{Vec}
use Rattle.std.specs.Coded.{Coded, code_by, coded×, coded_ℕ, coded_list, coded_option}

-- the list, if it is kept, and for how many more there is room then
pub record KeptItems (X : Type 0) : Type 0 where
  pub items : Option (List X)
  pub room : ℕ

-- they are stored as the two
abbrev pub kept_code : {X : Type 0} → Coded X → Coded (KeptItems X)
kept_code {X} code =
    code_by
    (Option (List X) × ℕ)
    (coded× (coded_option (coded_list code)) coded_ℕ)
    (λ k. (k.items, k.room))
    (λ p. record { items = p.0; room = p.1 })
    (λ _. refl)

-- for so many more there is room, where the list is kept
abbrev pub HasRoom : {X : Type 0} → ℕ → KeptItems X → Type 0
HasRoom more kept = IfSome kept.items (λ _. more ≤ kept.room)

abbrev pub room_of : {X : Type 0} → Option (Vec X) → ℕ
room_of None = 0
room_of (Some v) = vec_capacity v - vec_len v

abbrev pub kept_by : {X : Type 0} → Option (Vec X) → KeptItems X
kept_by items = record { items = option_map (λ v. v.items) items; room = room_of items }
