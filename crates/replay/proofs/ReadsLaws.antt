-- The laws that what was recorded is read back.
use Rattle.replay.specs.Claims.{lines_are_read, sessions_are_read, beginnings_are_sessions}
use Rattle.replay.proofs.ReadsEvents.{event_says}
use Rattle.replay.proofs.ReadsScreens.{screen_says}
use Rattle.replay.proofs.ReadsSessions.{all_read, first_read, lines_cut, cut_read}

pub lines_are_read-holds : lines_are_read
lines_are_read-holds = record { screen = screen_says; event = event_says }

pub sessions_are_read-holds : sessions_are_read
sessions_are_read-holds = record { all = all_read; first = first_read }

pub beginnings_are_sessions-holds : beginnings_are_sessions
beginnings_are_sessions-holds = record { lines = lines_cut; read = cut_read }
