-- A hub may be shared by threads: behind a `&` nothing can be done with the pass that it keeps for making seats.
use denote.RattleType.{RattleType}
use denote.Param.Send.{IsSend, IsSync, part_keyless, AllSend, view_sync, recorded_send, recorded_sync, struct_send, struct_sync, plain_sync}
use denote.Struct.Declared as declared
use denote.Struct.Field.{rows}
use denote.Struct.Tuple.{TupleAt, parts, field_at, type_at}
use mathlib.Core.List.{List, [], ◌∷◌}
use Prim.Native.Nat.{ℕ}
use Rattle.atomic_table.specs.contracts.shared.Seat as seat
use Rattle.atomic_table.proofs.shared.Seat.TheSendSync as passes
use Rattle.crossbeam_queue.specs.contracts.array_queue.Doing as doing
use Rattle.std.specs.contracts.option.Option as option
use Rattle.std.proofs.option.Option.TheSendSync as options
use Rattle.std.proofs.alloc.Global.TheSendSync as globals
use Rattle.input_queue.proofs.ends.InputEnds.TheSendSync as ends
use Rattle.input_queue.specs.contracts.Told as told
use Rattle.input_queue.proofs.Told.TheSendSync as tells
use Rattle.input_queue.specs.contracts.rule.View as view
use Rattle.input_queue.specs.contracts.hub.InputHub as hub
use Rattle.input_queue.specs.contracts.hub.InputHub.TheInside as inside
use Rattle.input_queue.specs.contracts.hub.SeatMaker as maker
use Rattle.input_queue.specs.contracts.hub.SeatMaker.TheInside as made

pub pass_sync : (S V : RattleType) → IsSend S → IsSync (seat.the_row S V)
pass_sync S V s = record { shared = λ d b o κ q. part_keyless (seat.the_row S V) (passes.the_send S V s) q d b o }

maker_sync : IsSync maker.the_row
maker_sync =
    let item = options.the_send told.the_row tells.the_send in
    view_sync made.the_row _ _ _ _ (recorded_sync (made.the_field).row _ _ (made.the_type).to_one (struct_sync (declared.shape made.the_type)
    (pass_sync (option.the_row told.the_row) (doing.the_row told.the_row view.the_row) item, (plain_sync _ _ _ _ _, tt))))

pub hub_sync : IsSync hub.the_row
hub_sync =
    view_sync inside.the_row _ _ _ _ (recorded_sync (inside.the_field).row _ _ (inside.the_type).to_one (struct_sync (declared.shape inside.the_type)
    (globals.the_field_sync, (ends.the_sync, (maker_sync, tt)))))

all_send : (captured : List RattleType) → AllSend captured → AllSend (rows (parts captured))
all_send [] all = tt
all_send (R ∷ Rs) all = (all.0, all_send Rs all.1)

-- a closure may go to another thread where what it captured may
pub closure_send : (name : List ℕ) (captured : List RattleType) → AllSend captured → IsSend (TupleAt name captured)
closure_send name captured all = recorded_send (field_at name captured).row _ _ (type_at name captured).to_one (struct_send (declared.shape (type_at name captured)) (all_send captured all))
