use Rattle.std.proofs.Common.{◌≡◌, ℕ, ◌+◌, ◌-◌, ◌<◌, ◌≤◌, true, false, ◌==◌, List, length, get_or, take, drop, refl, ◌∙◌, arith, length-drop, get_or-drop}
use Rattle.std.proofs.lemmas.List.{drop_more, take_more}
use Rattle.std.proofs.lemmas.Bool.Decides.{nat_tests}
use Rattle.web_opening.specs.declared.text.Letters.{Letters}
use Rattle.web_opening.specs.Text.{is_element, has_element, has_element_from}
use Rattle.web_opening.proofs.text.has_element.Goals as goal
use Rattle.web_opening.proofs.text.has_element.Goals.{then-list-at-eq44+else-is_element, else-list-at-eq44}

-- at a comma a new piece begins
at_comma : (wanted : List ℕ) (letters : Letters) (piece bytes : List ℕ) (i : ℕ) → i < length bytes → (get_or bytes i 0 == 44) ≡ true
    → is_element piece wanted letters ≡ false
    → has_element_from wanted letters piece (drop i bytes)
    ≡ has_element_from wanted letters (take (i + 1 - (i + 1)) (drop (i + 1) bytes)) (drop (i + 1) bytes)
at_comma wanted letters piece bytes i inside test other =
    let none : i + 1 - (i + 1) ≡ 0 = omega arith in rw (drop_more bytes i 0 inside, test, other, none)

-- any other byte extends the piece
in_piece : (wanted : List ℕ) (letters : Letters) (bytes : List ℕ) (start i : ℕ) → start ≤ i → i < length bytes
    → (get_or bytes i 0 == 44) ≡ false
    → has_element_from wanted letters (take (i - start) (drop start bytes)) (drop i bytes)
    ≡ has_element_from wanted letters (take (i + 1 - start) (drop start bytes)) (drop (i + 1) bytes)
in_piece wanted letters bytes start i ordered inside test =
    let more : i + 1 - start ≡ i - start + 1 = omega arith in
    let back : start + (i - start) ≡ i = omega arith in
    rw (drop_more bytes i 0 inside, test, more, take_more (drop start bytes) (i - start) 0 (omega (arith, length-drop start bytes)), get_or-drop, back)

pub loop-at-init : goal.loop-at-init
unfolding has_element
loop-at-init c = (omega arith, refl)

pub loop-at-preserved : goal.loop-at-preserved
loop-at-preserved c =
    elim c.if-list-at-eq44.branch [
      | then-list-at-eq44+else-is_element w ↦
          rw w.start-is (omega arith, c.loop-at.invariant.1 ∙ at_comma _ _ _ c.args.list.now c.loop-at.at (omega arith) (grind (arith, nat_tests)) (grind arith))
      | else-list-at-eq44 w ↦
          rw w.start-is (omega arith, c.loop-at.invariant.1 ∙ in_piece _ _ c.args.list.now c.loop-at.start c.loop-at.at c.loop-at.invariant.0 (omega arith) (grind (arith, nat_tests)))
    ]
