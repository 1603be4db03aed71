use Rattle.demo_app.proofs.one_thread.serve_in_one_thread.Given as goal

abbrev pub ghosts-serve : goal.ghosts-serve
ghosts-serve g a = record { width = a.options.now.width; height = a.options.now.height; forever = a.besides.forever }
