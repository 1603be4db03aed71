use mathlib.Core.List.{[], ◌∷◌}
use denote.Exit
use denote.Param.{param}
use denote.Param.Send.{param_send, param_sync, arg_send, shr_send}
use Rattle.input_queue.proofs.Shares.{closure_send}
use Rattle.input_queue.proofs.ends.InputEnds.TheSendSync.{the_sync as ends_sync}
use Rattle.input_queue.proofs.hub.InputSeat.TheSendSync.{the_send as seat_send}
use Rattle.update_sender.proofs.shared.Shared.TheSendSync as shares
use Rattle.std.proofs.alloc.Global.TheSendSync as globals
use Rattle.serving.proofs.accepting.Caller.TheSendSync.{the_send as caller_send}
use Rattle.serving.proofs.open_connections.OpenConnections.TheSendSync.{the_sync as connections_sync}
use Rattle.serving.proofs.accepting.start.Goals as goal

pub spawn_with-thread-requires-send-F : goal.spawn_with-thread-requires-send-F
spawn_with-thread-requires-send-F g c κs within = param_send 2 _ (arg_send _ Exit.no _ (closure_send _ (_ ∷ _ ∷ _ ∷ _ ∷ _ ∷ _ ∷ _ ∷ []) (globals.the_send, (shr_send _ _ _ (shares.the_sync (param 1 g.row.L) g.L.Ledger), (shr_send _ _ _ ends_sync, (shr_send _ _ _ connections_sync, (shr_send _ _ _ (param_sync 2 _ c.type_bounds.sync-R), (seat_send, (caller_send, tt)))))))))
