use Rattle.test_update_sender_runs.proofs.tests.runs.wrong_in.Given as goal

abbrev pub ghosts-run_of : goal.ghosts-run_of
ghosts-run_of g a = record { name = a.blank.name; parts = a.blank.parts }
