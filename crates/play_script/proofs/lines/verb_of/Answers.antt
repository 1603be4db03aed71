use Rattle.std.proofs.Common.{◌≡◌, arith, rules, codes, refl}
use Rattle.std.proofs.lemmas.Slice.Eq.{text_from_reads}
use Rattle.play_script.proofs.lines.verb_of.Goals as goal

pub returns-in-screen : goal.returns-in-screen
returns-in-screen c =
    let e : c.args.word.now ≡ codes "screen" = text_from_reads _ (codes "screen") (omega arith) (search rules) in
    rw e refl

pub returns-in-connect : goal.returns-in-connect
returns-in-connect c =
    let e : c.args.word.now ≡ codes "connect" = text_from_reads _ (codes "connect") (omega arith) (search rules) in
    rw e refl

pub returns-in-docopy : goal.returns-in-docopy
returns-in-docopy c =
    let e : c.args.word.now ≡ codes "docopy" = text_from_reads _ (codes "docopy") (omega arith) (search rules) in
    rw e refl

pub returns-in-cuttext : goal.returns-in-cuttext
returns-in-cuttext c =
    let e : c.args.word.now ≡ codes "cuttext" = text_from_reads _ (codes "cuttext") (omega arith) (search rules) in
    rw e refl

pub returns-in-schedule : goal.returns-in-schedule
returns-in-schedule c =
    let e : c.args.word.now ≡ codes "schedule" = text_from_reads _ (codes "schedule") (omega arith) (search rules) in
    rw e refl

pub returns-in-resize : goal.returns-in-resize
returns-in-resize c =
    let e : c.args.word.now ≡ codes "resize" = text_from_reads _ (codes "resize") (omega arith) (search rules) in
    rw e refl
