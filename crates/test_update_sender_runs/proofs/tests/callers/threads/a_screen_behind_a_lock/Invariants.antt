use Rattle.test_update_sender_runs.proofs.tests.callers.threads.a_screen_behind_a_lock.Given as goal

abbrev pub ghosts-drawn : goal.ghosts-drawn
ghosts-drawn g a = record { name = a.blank.name; parts = a.blank.parts }
