use Rattle.c_screen.proofs.Showing.{shows}
use Rattle.c_screen.proofs.settings.show_settings.Goals as goal

pub returns-clause-room : goal.returns-clause-room
returns-clause-room c =
    shows c.args.answer c.in-Ok.settings c.settings_as.result c.words_of-words.result c.args.room.now c.copy_to.new.room c.copy_to.result
    c.in-Ok.is c.settings_as.ensures c.words_of-words.ensures c.copy_to.ensures.count c.copy_to.ensures.room
