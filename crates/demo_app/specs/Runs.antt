-- Runs of `serve`, as they are printed at their ends.
use Rattle.std.specs.Prelude.{◌≡◌, ℕ, Bool, true, false, List, [], ◌++◌, Option, Some, None, Result, Err, IfOk, IfErr, ◌⊎◌, IsPermutation}
use Rattle.std.specs.List.Sorted.{IsNonDecreasingBy}
use Rattle.screen.specs.declared.Config.{Config}
use Rattle.screen.specs.declared.Event.{Event}
use Rattle.screen.specs.declared.Input.{Input}
use Rattle.screen.specs.History.{accepted}
use Rattle.receipts.specs.declared.Receipt.{Receipt}
use Rattle.receipts.specs.declared.Report.{Report}
use Rattle.receipts.specs.declared.FinishError.{FinishError}
use Rattle.receipts.specs.declared.FinishError.TheVariants as errors
use Rattle.receipts.specs.Checking.{checked, Gives}
use Rattle.receipts.specs.Claims.{IsReportOf, IsRefusedFor}
use Rattle.connections.specs.Serving.{Serving, Serves}
use Rattle.connections.specs.Telling.{Told, inputs_after, receipts_in}
use Rattle.event_loop.specs.Sockets.{sockets, sockets_and, IsAccountOf}
use Rattle.serving.specs.Serving.{AreNumbered, AreServed}
use Rattle.update_sender.specs.Finishing.{Finishes}
use Rattle.demo_app.specs.declared.serve.ServeOptions.{ServeOptions}
use Rattle.demo_app.specs.Application.{KeepsOwn, drawn_by, own_calls, receipts_kept, said}
use Rattle.demo_app.specs.Endings.{PrintsOf}
use Rattle.demo_app.specs.Screens.{config_by, own_config}

-- The answer is what the check says of a history, of drawing calls and of receipts, or want of memory. So a report is that history's, and a refusal is for what is wrong with it.
pub record IsCheckOf (c : Config) (history drawn : List Event) (receipts : List Receipt) (result : Result Report FinishError) : Type 0 where
  pub checked : Gives result (checked c history drawn receipts)
  pub report : IfOk result (λ report. IsReportOf c history drawn receipts report)
  pub refusal : IfErr result (λ e. IsRefusedFor c history drawn receipts e ⊎ (e ≡ errors.OutOfMemory))

-- What a loop's run is judged to be, by the history and the drawing calls that are kept. Drawing calls that are not kept were refused memory.
abbrev pub JudgesLoop : Config → (history drawn : Option (List Event)) → List Receipt → Result Report FinishError → Type 0
JudgesLoop c None drawn receipts result = result ≡ Err errors.NotKept
JudgesLoop c (Some history) None receipts result = result ≡ Err errors.OutOfMemory
JudgesLoop c (Some history) (Some drawn) receipts result = IsCheckOf c history drawn receipts result

-- the inputs of events, whoever's they are
abbrev pub inputs_of : Config → List Event → List Input
inputs_of c list = said (inputs_after c [] list)

-- What one thread prints of a run, and its status. These events happened to the screen that the options tell, and by them each viewer was served; the history that is judged is these events, as far as they happened, the drawing calls are what the inputs among them have the application draw, and the receipts are those of the viewers that left in them. Where viewers are taken without end no receipt is kept.
pub record PrintsLoop (o : ServeOptions) (forever : Bool) (before after : Option (List ℕ)) (status : ℕ) : Type 0 where
  pub events : List Event
  -- the loop at its end, and what a record's file held before
  pub served : Serving
  pub held : Option (Option (List ℕ))
  pub serves : Serves (config_by o) (sockets_and held (config_by o)) events served
  -- what the application was told of the events
  pub told : List Told
  pub account : IsAccountOf (config_by o) [] events told
  -- the receipts that it kept, by their viewers' numbers
  pub receipts : List Receipt
  pub all : IsPermutation (receipts_kept forever told) receipts
  pub sorted : IsNonDecreasingBy (λ (r : Receipt). r.viewer) receipts
  pub printed : PrintsOf o.check receipts (IsCheckOf (config_by o) (accepted (config_by o) events) (drawn_by o.width o.height (inputs_of (config_by o) events)) receipts) before after status

-- whose receipts a server with threads gives: nobody's where it takes viewers without end; else those of so many, or of the first of them where it may be stopped
abbrev pub AreGiven : ℕ → Bool → Bool → List Receipt → Type 0
AreGiven viewers true may_stop receipts = receipts ≡ []
AreGiven viewers false may_stop receipts = AreServed viewers may_stop receipts

-- What threads print of a run, and its status: the receipts are such, and the judgement is that of these and of what the application drew.
pub record PrintsServed (o : ServeOptions) (AreSuch : List Receipt → Type 0) (before after : Option (List ℕ)) (status : ℕ) : Type 0 where
  pub receipts : List Receipt
  pub such : AreSuch receipts
  pub drawn : Option (List Event)
  pub printed : PrintsOf o.check receipts (Finishes (config_by o) drawn receipts) before after status

-- The judgement of a run of `self` with threads: that of so many viewers' receipts and of what the application drew.
abbrev pub IsOwnFinish : ℕ → Result Report FinishError → Type 0
IsOwnFinish viewers judgement = (receipts : List Receipt) × (drawn : Option (List Event)) × AreNumbered viewers receipts × Finishes own_config drawn receipts judgement

-- What is judged of a loop and its application's drawing calls.
abbrev pub JudgesOwn : Config → Option (List Event) → List Event → List Receipt → Result Report FinishError → Type 0
JudgesOwn c None drawn receipts result = result ≡ Err errors.NotKept
JudgesOwn c (Some history) drawn receipts result = IsCheckOf c history drawn receipts result

-- A loop served: whatever list of events its screen stood for, it stands for it with others behind it, and its application kept an account of these, by the drawing calls and the receipts that it has.
abbrev pub RanOwn : Serving → Serving → List Event → List Receipt → Type 0
RanOwn old new drawn receipts =
    (held : Option (Option (List ℕ))) (c : Config) (list : List Event) → Serves c (sockets_and held c) list old
    → (more : List Event) × Serves c (sockets_and held c) (list ++ more) new × (told : List Told) × IsAccountOf c list more told × KeepsOwn drawn receipts told

-- The judgement of a run of `self` in one thread. These events happened to its screen, and by them each viewer was served; what is judged is their history, the receipts of the viewers that left in them, and the drawing calls that were kept: those of the stored run, or none.
pub record IsOwnCheck (judgement : Result Report FinishError) : Type 0 where
  pub events : List Event
  -- the loop at its end
  pub served : Serving
  pub serves : Serves own_config (sockets own_config) events served
  -- what the application was told of the events
  pub told : List Told
  pub account : IsAccountOf own_config [] events told
  pub drawn : List Event
  pub drew : (drawn ≡ []) ⊎ (drawn ≡ own_calls)
  -- the receipts by their viewers' numbers
  pub receipts : List Receipt
  pub all : IsPermutation (receipts_in told) receipts
  pub sorted : IsNonDecreasingBy (λ (r : Receipt). r.viewer) receipts
  pub checked : IsCheckOf own_config (accepted own_config events) drawn receipts judgement
