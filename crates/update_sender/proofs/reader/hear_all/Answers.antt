use Rattle.std.proofs.Common.{[], refl}
use Rattle.update_sender.proofs.Putting.{puts-on, puts-frame, taken-all}
use Rattle.update_sender.proofs.Served.{fault-ends, hears-a-piece, hears-nothing, hears-then}
use Rattle.update_sender.proofs.reader.hear_all.Goals as goal

pub loop-init : goal.loop-init
loop-init g c = (hears-nothing _ _, refl, [], 0, (refl, refl), refl)

pub returns-in-Err-take_in-clause-heard : goal.returns-in-Err-take_in-clause-heard
returns-in-Err-take_in-clause-heard g c =
    ([], hears-then _ _ _ _ _ _ [] c.loop.invariant.0 (hears-a-piece _ _ _ _ c.in-Ok.ensures), fault-ends _ _ c.in-Err-take_in.ended _ c.in-Err-take_in.ensures.fault)

pub returns-in-Err-take_in-clause-puts : goal.returns-in-Err-take_in-clause-puts
returns-in-Err-take_in-clause-puts g c =
    let i = c.loop.invariant in
    let p = c.take_in.ensures.puts in
    let b = taken-all _ _ _ _ _ _ _ _ p.3 p.4 in
    puts-on i.2 b.0 _ _ _ i.3 p.0 _ _ i.4 i.5 b.1 p.5

pub loop-preserved : goal.loop-preserved
loop-preserved g c =
    let i = c.loop.invariant in
    let p = c.take_in.ensures.puts in
    let b = taken-all _ _ _ _ _ _ _ _ p.3 p.4 in
    let all = puts-on i.2 b.0 _ _ _ i.3 p.0 _ _ i.4 i.5 b.1 p.5 in
    (hears-then _ _ _ _ _ _ [] i.0 (hears-a-piece _ _ _ _ c.in-Ok.ensures), puts-frame _ _ _ _ all.2, all.0, all.1, all.2, all.3)

pub returns-in-Err-take_in-clause-seat : goal.returns-in-Err-take_in-clause-seat
returns-in-Err-take_in-clause-seat g c =
    let i = c.loop.invariant in
    let p = c.take_in.ensures.puts in
    let b = taken-all _ _ _ _ _ _ _ _ p.3 p.4 in
    let all = puts-on i.2 b.0 _ _ _ i.3 p.0 _ _ i.4 i.5 b.1 p.5 in
    puts-frame _ _ _ _ all.2
