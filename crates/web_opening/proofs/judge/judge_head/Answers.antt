use Rattle.std.proofs.Common.{[], refl, arith}
use Rattle.web_opening.proofs.RequestLemmas.{found_is_judged, none_is_refused}
use Rattle.web_opening.proofs.judge.judge_head.Goals as goal

pub returns-in-Some : goal.returns-in-Some
returns-in-Some c =
    found_is_judged _ _ c.args.head.now c.find_request.new.spans c.in-Some.request _ (omega arith) c.in-Some.ensures.complete
    (λ h reads few. c.in-Some.ensures.found h [] reads few) c.judge_whole.ensures.whole c.judge_whole.ensures.longer

pub returns-in-None : goal.returns-in-None
returns-in-None c = none_is_refused _ _ c.args.head.now _ (λ h reads few. c.in-None.ensures.found h [] reads few) refl
