-- Windows of a screen.
use Rattle.std.specs.Prelude.{ℕ, Bool, ◌&&◌, nat_le, nat_lt}
use Rattle.copy_schedule.specs.declared.windows.Window.{Window}

-- whether a place is in a window
abbrev pub in_window : Window → ℕ → ℕ → Bool
in_window a x y = nat_le a.x1 x && nat_lt x a.x2 && nat_le a.y1 y && nat_lt y a.y2
