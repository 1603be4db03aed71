use mathlib.Core.List.{[], ◌∷◌}
use denote.Exit
use denote.Param.Send.{param_send, param_sync, arg_send, shr_send}
use Rattle.input_queue.proofs.Shares.{hub_sync, closure_send}
use Rattle.input_queue.proofs.hub.InputSeat.TheSendSync.{the_send as seat_send}
use Rattle.test_update_sender_runs.proofs.tests.queue.three.Goals as goal

pub join-one-requires-send-F : goal.join-one-requires-send-F
join-one-requires-send-F g c κs within = param_send 1 _ (arg_send _ Exit.no _ (closure_send _ (_ ∷ _ ∷ _ ∷ _ ∷ []) (shr_send _ _ _ (param_sync 0 _ c.type_bounds.sync-R), (shr_send _ _ _ hub_sync, (seat_send, (seat_send, tt))))))
