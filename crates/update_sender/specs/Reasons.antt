-- Why a viewer's thread ends, by what it met.
use Rattle.std.specs.Prelude.{ℕ, List, Result, Ok, Err}
use Rattle.screen.specs.declared.ScreenError.{ScreenError}
use Rattle.screen.specs.declared.ScreenError.TheVariants.{NoViewer}
use Rattle.receipts.specs.declared.Ended.{Ended}
use Rattle.receipts.specs.declared.Ended.TheVariants as ended
use Rattle.update_sender.specs.declared.next_step.NextStep.{NextStep}
use Rattle.update_sender.specs.declared.next_step.NextStep.TheVariants.{Send, Stopped, Closed, Faulty}

-- what a sender sends next, or why it ends
abbrev pub sent_in : NextStep → Result (List ℕ) Ended
sent_in (Send update) = Ok update
sent_in Stopped = Err ended.Stopped
sent_in Closed = Err ended.Closed
sent_in (Faulty fault) = Err (ended.Fault fault)

-- why a piece is not heard: its viewer isn't there any more, or else memory was refused
abbrev pub unheard_for : ScreenError → Ended
unheard_for NoViewer = ended.Closed
unheard_for _ = ended.Memory
