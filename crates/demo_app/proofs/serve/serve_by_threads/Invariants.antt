use Rattle.demo_app.proofs.serve.serve_by_threads.Given as goal

abbrev pub ghosts-serve_and_flush : goal.ghosts-serve_and_flush
ghosts-serve_and_flush g a = record { name = a.blank.name; parts = a.blank.parts }
