-- Places that move, as far as a screen goes.
use Rattle.std.specs.Prelude.{ℕ, Bool, ◌||◌, ◌&&◌, ℤ, pos, negsuc, int_le}
use Rattle.region.specs.declared.Rect.{Rect}
use Rattle.region.specs.Places.{longest_side}
use Rattle.copy_schedule.specs.declared.windows.Window.{Window}

-- a move by so many columns, or rows, leads from each place of a screen off it
abbrev pub is_far_by : ℤ → Bool
is_far_by by = int_le by (negsuc 8191) || int_le (pos longest_side) by

-- a window as a rectangle
abbrev pub window_rect : Window → Rect
window_rect a = record { x1 = pos a.x1; y1 = pos a.y1; x2 = pos a.x2; y2 = pos a.y2 }

-- the numbers from low to before high are from 0 to before n
abbrev pub lies_between : ℕ → ℤ → ℤ → Bool
lies_between n low high = int_le (pos 0) low && int_le high (pos n)
