use Rattle.demo_app.proofs.self_test.self_on.Given as goal

abbrev pub ghosts-own_and_flush : goal.ghosts-own_and_flush
ghosts-own_and_flush g a = record { name = a.blank.name; parts = a.blank.parts }
