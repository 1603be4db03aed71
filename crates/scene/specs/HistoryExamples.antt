-- Worked examples of the kept events, which compute.
use Rattle.std.specs.Prelude.{◌≡◌, List, [], ◌∷◌, ◌++◌, refl}
use Rattle.region.specs.Examples.{rect}
use Rattle.scene.specs.declared.Event.{Event}
use Rattle.scene.specs.declared.Event.TheVariants.{Paint, Connect, Hear, Cut, Close, Bell}
use Rattle.scene.specs.Examples.{demo, opens, ask}
use Rattle.scene.specs.History.{accepted, drawings, connects}

-- all of nine events are accepted; the two cuts that gave nothing are not kept
abbrev asked : List Event
asked = opens 1 ++ Hear 1 (ask 0 0 0 4 3) ∷ Cut 1 ∷ Hear 1 (ask 1 0 0 4 3) ∷ Cut 1 ∷ Paint (rect 2 1 3 2) (0xff8000 ∷ []) ∷ Cut 1 ∷ Cut 1 ∷ []

seven : accepted demo asked ≡ opens 1 ++ Hear 1 (ask 0 0 0 4 3) ∷ Cut 1 ∷ Hear 1 (ask 1 0 0 4 3) ∷ Paint (rect 2 1 3 2) (0xff8000 ∷ []) ∷ Cut 1 ∷ []
seven = refl

-- what is refused is not kept
refused : accepted demo (Cut 9 ∷ Connect 1 ∷ Connect 1 ∷ Paint (rect 3 0 5 1) [] ∷ Close 2 ∷ Bell ∷ Close 1 ∷ []) ≡ (Connect 1 ∷ Bell ∷ Close 1 ∷ [])
refused = refl

drawn : drawings asked ≡ (Paint (rect 2 1 3 2) (0xff8000 ∷ []) ∷ [])
drawn = refl

connected : connects (opens 1 ++ opens 2) ≡ (1 ∷ 2 ∷ [])
connected = refl
