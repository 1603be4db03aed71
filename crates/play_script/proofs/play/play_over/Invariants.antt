use Rattle.play_script.proofs.play.play_over.Given as goal

abbrev pub ghosts-play_uncounted : goal.ghosts-play_uncounted
ghosts-play_uncounted g a = record { name = a.blank.name; parts = a.blank.parts }
