use Rattle.play_script.proofs.words.+word.Given as goal

abbrev pub decreases-word : goal.decreases-word
decreases-word l = l.index
