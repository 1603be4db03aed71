use Rattle.std.proofs.Common.{◌≡◌, arith, rules, codes, refl}
use Rattle.std.proofs.lemmas.Slice.Eq.{text_from_reads}
use Rattle.replay.proofs.lines.verb_of.Goals as goal

pub returns-in-desktop : goal.returns-in-desktop
returns-in-desktop c =
    let e : c.args.word.now ≡ codes "desktop" = text_from_reads _ (codes "desktop") (omega arith) (search rules) in
    rw e refl

pub returns-in-schedule : goal.returns-in-schedule
returns-in-schedule c =
    let e : c.args.word.now ≡ codes "schedule" = text_from_reads _ (codes "schedule") (omega arith) (search rules) in
    rw e refl

pub returns-in-schedule-2 : goal.returns-in-schedule-2
returns-in-schedule-2 c =
    let e : c.args.word.now ≡ codes "schedules" = text_from_reads _ (codes "schedules") (omega arith) (search rules) in
    rw e refl

pub returns-in-docopy : goal.returns-in-docopy
returns-in-docopy c =
    let e : c.args.word.now ≡ codes "docopy" = text_from_reads _ (codes "docopy") (omega arith) (search rules) in
    rw e refl

pub returns-in-docopy-2 : goal.returns-in-docopy-2
returns-in-docopy-2 c =
    let e : c.args.word.now ≡ codes "docopies" = text_from_reads _ (codes "docopies") (omega arith) (search rules) in
    rw e refl

pub returns-in-mark-2 : goal.returns-in-mark-2
returns-in-mark-2 c =
    let e : c.args.word.now ≡ codes "marks" = text_from_reads _ (codes "marks") (omega arith) (search rules) in
    rw e refl
