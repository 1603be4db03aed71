use Rattle.std.proofs.Common.{◌≡◌, ◌<◌, ◌+◌, ◌++◌, take, length, false, sym, ap, ◌∙◌, subst, arith, get_or}
use Rattle.std.specs.Io.KnownBytes.{Appends}
use Rattle.std.proofs.KnownBytes.{Appends-trans}
use Rattle.std.proofs.lemmas.List.{length-take-le, take_more}
use Rattle.demo_app.specs.Endings.{show_line, shows_text}
use Rattle.demo_app.proofs.PrintedLemmas.{shows-more}
use Rattle.demo_app.proofs.self_test.print_shows.Goals as goal

pub loop-index-preserved : goal.loop-index-preserved
loop-index-preserved g c =
    let i = c.loop-index.index in
    let xs = c.args.shows.now in
    let x = get_or xs i false in
    let inside : i < length xs = omega arith in
    let many : length (take i xs) + 1 ≡ i + 1 = ap (λ n. n + 1) (length-take-le i xs (omega arith)) in
    let more : shows_text 1 (take (i + 1) xs) ≡ shows_text 1 (take i xs) ++ show_line (i + 1) x = ap (shows_text 1) (take_more xs i false inside) ∙ (shows-more 1 (take i xs) x ∙ ap (λ n. shows_text 1 (take i xs) ++ show_line n x) many) in
    let line : c.deref.result.now ≡ show_line (i + 1) x = c.deref.ensures.value ∙ c.in_ok-show_line.ensures in
    subst (Appends (g.W.Write.contents c.args.writer.now) (g.W.Write.contents c.print.new.writer)) (sym more)
    (Appends-trans _ (g.W.Write.contents c.loop-index.writer) _ (shows_text 1 (take i xs)) (show_line (i + 1) x) c.loop-index.invariant
    (subst (Appends (g.W.Write.contents c.loop-index.writer) (g.W.Write.contents c.print.new.writer)) line c.in_ok-print.ensures))
