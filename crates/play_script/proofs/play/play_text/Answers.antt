use Rattle.std.proofs.Common.{◌≡◌, ◌∷◌, ◌++◌, [], List, length, map, arith, sym, ap, ◌∙◌}
use Rattle.std.specs.Option.{option_map_or}
use Rattle.play_script.specs.declared.lines.Line.{Line}
use Rattle.play_script.specs.Words.{lines_of}
use Rattle.play_script.specs.Lines.{line_of}
use Rattle.play_script.specs.Transcript.{outcome}
use Rattle.play_script.proofs.PlayLemmas.{appends_more, goes_on, ends, shorter}
use Rattle.play_script.proofs.play.play_text.Goals as goal

pub returns-in-Some-status-clause-transcript : goal.returns-in-Some-status-clause-transcript
returns-in-Some-status-clause-transcript g c =
    let played = c.loop-rest.invariant.played in
    let said = c.in_ok-said.said in
    let lines : List Line = map line_of (option_map_or (λ r. lines_of r.now) c.split_line.result.1 []) in
    let first : map line_of (option_map_or (λ r. lines_of r.now) c.loop-rest.rest []) ≡ line_of c.split_line.result.0.now ∷ lines = rw c.in-Some.is (ap (map line_of) c.split_line.ensures.lines) in
    let says = c.in_ok-said.ensures.says played.0 played.2 in
    let end = ends c.loop-rest.number played.1 played.0 (line_of c.split_line.result.0.now) lines _ said.text.items said.status _ c.step.new.screen (outcome c.args.script.now) first played.4 says.0 says.1 c.in-Some-status.is in
    appends_more _ _ _ played.1 c.deref.result.now _ played.3 c.in_ok-print.ensures (end.0 ∙ ap (λ r. played.1 ++ r) (sym c.deref.ensures.value))

pub returns-in-Some-status-clause-status : goal.returns-in-Some-status-clause-status
returns-in-Some-status-clause-status g c =
    let played = c.loop-rest.invariant.played in
    let said = c.in_ok-said.said in
    let lines : List Line = map line_of (option_map_or (λ r. lines_of r.now) c.split_line.result.1 []) in
    let first : map line_of (option_map_or (λ r. lines_of r.now) c.loop-rest.rest []) ≡ line_of c.split_line.result.0.now ∷ lines = rw c.in-Some.is (ap (map line_of) c.split_line.ensures.lines) in
    let says = c.in_ok-said.ensures.says played.0 played.2 in
    let end = ends c.loop-rest.number played.1 played.0 (line_of c.split_line.result.0.now) lines _ said.text.items said.status _ c.step.new.screen (outcome c.args.script.now) first played.4 says.0 says.1 c.in-Some-status.is in
    end.1

pub loop-rest-preserved : goal.loop-rest-preserved
loop-rest-preserved g c =
    let played = c.loop-rest.invariant.played in
    let said = c.in_ok-said.said in
    let lines : List Line = map line_of (option_map_or (λ r. lines_of r.now) c.split_line.result.1 []) in
    let first : map line_of (option_map_or (λ r. lines_of r.now) c.loop-rest.rest []) ≡ line_of c.split_line.result.0.now ∷ lines = rw c.in-Some.is (ap (map line_of) c.split_line.ensures.lines) in
    let says = c.in_ok-said.ensures.says played.0 played.2 in
    let next = goes_on c.loop-rest.number played.1 played.0 (line_of c.split_line.result.0.now) lines _ said.text.items said.status c.step.new.screen (outcome c.args.script.now) first played.4 says.0 says.1 c.in_default-status.is in
    let wrote = appends_more _ _ _ played.1 c.deref.result.now (played.1 ++ said.text.items) played.3 c.in_ok-print.ensures (ap (λ r. played.1 ++ r) (sym c.deref.ensures.value)) in
    let before = rw c.in-Some.is at c.loop-rest.invariant.lines in
    record {
      played = (next.played, played.1 ++ said.text.items, next.stands, wrote, next.rest);
      lines = omega (arith, before, shorter c.split_line.result.1 (length c.in-Some.text.now) c.split_line.ensures.less);
    }
