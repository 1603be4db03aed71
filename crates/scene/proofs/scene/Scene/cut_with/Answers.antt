use Rattle.std.proofs.Common.{◌≡◌, ℕ, List, ◌∷◌, [], ◌++◌, Option, None, Result, Ok, Err, IfOk, OnOk, OnErr, All, sym, subst, ap, ap₂, ◌∙◌, refl}
use Rattle.std.specs.Prelude.{option_map}
use Rattle.std.specs.Map.{keys_of, values_of}
use Rattle.std.proofs.lemmas.Option.{none-some}
use Rattle.std.proofs.lemmas.Result.{on_ok_weaker, on_err_weaker, IfOk-weaker}
use Rattle.std.specs.declared.alloc.AllocError.{AllocError}
use Rattle.client_list.specs.Connected.{index_of}
use Rattle.framebuffer.specs.Frame.{Frame}
use Rattle.viewer.specs.Given.{bytes_given}
use Rattle.viewer.specs.Sending.{sending_kept}
use Rattle.viewer.specs.Viewer.{KeptViewer}
use Rattle.scene.specs.declared.Config.{Config}
use Rattle.scene.specs.declared.Event.TheVariants.{Cut}
use Rattle.scene.specs.declared.Answer.{Answer}
use Rattle.scene.specs.Alone.{at_size, gives}
use Rattle.scene.specs.Answers.{SceneState, scene_after, answer_to}
use Rattle.scene.specs.Consistent.{IsConsistent, IsSized}
use Rattle.scene.specs.Refusals.{viewer_at, absence}
use Rattle.scene.proofs.Calls.{seen, at_config, cut-step, cut-answer, cut-size}
use Rattle.scene.proofs.Connected.{viewer_numbered, with_numbered}
use Rattle.scene.proofs.Found.{present-seen}
use Rattle.scene.proofs.Kept.{all-at, all-set}
use Rattle.scene.proofs.scene.Scene.cut_with.Goals as goal

pub cut_with-requires-clause-there : goal.cut_with-requires-clause-there
cut_with-requires-clause-there g c = λ none.
    let there = present-seen c.self.inside.config c.self.inside.picture c.self.inside.viewers.pairs c.args.number c.args.self.now c.self.view_is c.requires.there in none-some there.0 (sym none ∙ sym there.1)

pub cut_with-requires-clause-width : goal.cut_with-requires-clause-width
cut_with-requires-clause-width g c = λ v is. (all-at (IsSized (at_size c.self.inside.picture c.self.inside.config)) c.self.inside.viewers.pairs c.args.number v c.self.invariant.sized (sym is)).width

pub cut_with-requires-clause-height : goal.cut_with-requires-clause-height
cut_with-requires-clause-height g c = λ v is. (all-at (IsSized (at_size c.self.inside.picture c.self.inside.config)) c.self.inside.viewers.pairs c.args.number v c.self.invariant.sized (sym is)).height

-- what was cut leaves the sizes
still-sized : {X E : Type 0} (r : Result X E) (k : Config) (pairs now : List (ℕ × KeptViewer)) (number : ℕ) (v : KeptViewer) → OnOk r (now ≡ with_numbered pairs number v) → OnErr r (now ≡ pairs) → IsSized k v
    → All (IsSized k) (values_of pairs) → All (IsSized k) (values_of now)
still-sized (Ok x) k pairs now number v cut same size all = subst (λ (ps : List (ℕ × KeptViewer)). All (IsSized k) (values_of ps)) (sym cut) (all-set (IsSized k) pairs (index_of (keys_of pairs) number) v all size)
still-sized (Err e) k pairs now number v cut same size all = subst (λ (ps : List (ℕ × KeptViewer)). All (IsSized k) (values_of ps)) (sym same) all

pub invariant_of-self : goal.invariant_of-self
invariant_of-self g c =
    let here = c.self.inside in
    let pairs : List (ℕ × KeptViewer) = here.viewers.pairs in
    let k : Config = at_size here.picture here.config in
    let there = present-seen here.config here.picture pairs c.args.number c.args.self.now c.self.view_is c.requires.there in
    let size = cut-size here.picture.width here.picture.height here.config.rects_per_update here.picture.colours there.0 (all-at (IsSized k) pairs c.args.number there.0 c.self.invariant.sized there.1) in
    subst (λ (p : Frame). IsConsistent here.config p (values_of c.cut_with.new.self.pairs)) (sym c.cut_with.ensures.same)
    (record {
      accepted = c.self.invariant.accepted;
      sized = still-sized c.cut_with.result k pairs c.cut_with.new.self.pairs c.args.number _ (c.cut_with.ensures.viewer there.0 (sym there.1)) c.cut_with.ensures.err size c.self.invariant.sized;
    })

pub returns-clause-step : goal.returns-clause-step
returns-clause-step g c = λ config list h.
    let here = c.self.inside in
    let pairs : List (ℕ × KeptViewer) = here.viewers.pairs in
    let there = present-seen here.config here.picture pairs c.args.number c.args.self.now c.self.view_is c.requires.there in
    on_ok_weaker c.cut_with.result
    (λ cut.
    at_config (λ k. seen here.config c.cut_with.new.picture c.cut_with.new.self.pairs ≡ scene_after k (list ++ Cut c.args.number ∷ [])) here.config config here.picture pairs list (c.self.view_is ∙ h) (λ k.
    ap₂ (seen here.config) c.cut_with.ensures.same cut ∙ cut-step here.config list here.picture pairs c.args.number there.0 _ k there.1 refl))
    (c.cut_with.ensures.viewer there.0 (sym there.1))

given : {T : Type 0} (r : Result (Option (List ℕ × T)) AllocError) (bytes : List ℕ) (a : Answer) → gives bytes ≡ a → IfOk r (λ cut. bytes_given (option_map (λ x. x.0) cut) ≡ bytes) → IfOk r (λ cut. gives (bytes_given (option_map (λ x. x.0) cut)) ≡ a)
given (Ok cut) bytes a answer is = ap gives is ∙ answer
given (Err e) bytes a answer is = tt

pub returns-clause-answer : goal.returns-clause-answer
returns-clause-answer g c = λ config list h.
    let here = c.self.inside in
    let pairs : List (ℕ × KeptViewer) = here.viewers.pairs in
    let there = present-seen here.config here.picture pairs c.args.number c.args.self.now c.self.view_is c.requires.there in
    let answer : gives (sending_kept here.picture.width here.picture.height here.config.rects_per_update here.picture.colours there.0).0 ≡ answer_to config list (Cut c.args.number) =
    at_config (λ k. gives (sending_kept here.picture.width here.picture.height here.config.rects_per_update here.picture.colours there.0).0 ≡ answer_to k list (Cut c.args.number)) here.config config here.picture pairs list (c.self.view_is ∙ h) (λ k.
    sym (cut-answer here.config list here.picture pairs c.args.number there.0 k there.1)) in
    given c.cut_with.result _ _ answer (c.cut_with.ensures.bytes there.0 (sym there.1))

pub returns-clause-none : goal.returns-clause-none
returns-clause-none g c = IfOk-weaker c.cut_with.result _ _ (λ cut same none. ap₂ (seen c.self.inside.config) c.cut_with.ensures.same (same none) ∙ c.self.view_is) c.cut_with.ensures.none

pub returns-clause-err : goal.returns-clause-err
returns-clause-err g c = on_err_weaker c.cut_with.result (λ same. ap₂ (seen c.self.inside.config) c.cut_with.ensures.same same ∙ c.self.view_is) c.cut_with.ensures.err
