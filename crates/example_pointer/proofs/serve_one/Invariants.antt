use Rattle.example_pointer.proofs.serve_one.Given as goal

abbrev pub ghosts-serve : goal.ghosts-serve
ghosts-serve g a = record { name = a.blank.name; parts = a.blank.parts }
