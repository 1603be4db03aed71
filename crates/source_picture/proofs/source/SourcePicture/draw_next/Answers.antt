use Rattle.std.proofs.Common.{List, ℕ, [], refl, ap, subst}
use Rattle.server_reader.specs.Steps.{View}
use Rattle.source_picture.specs.Mirroring.{SourceView, IsReadAs, IsNext, IsMirrored, IsMirroredNext}
use Rattle.source_picture.proofs.ReadLemmas.{read_kept, mirrored_kept, mirrored_one}
use Rattle.source_picture.specs.Bands.{with_band}
use Rattle.source_picture.proofs.source.SourcePicture.draw_next.Goals as goal

pub returns-in-Ok-None-clause-mirrored : goal.returns-in-Ok-None-clause-mirrored
returns-in-Ok-None-clause-mirrored c config list fine was =
    let piece : List ℕ = c.args.piece.now in
    let picture = c.args.canvas.now.screen.picture in
    let before : SourceView = record { reader = c.self.inside.reader; asking = c.self.inside.asking; text = c.self.inside.painter.text; waiting = c.self.inside.painter.band } in
    let after : SourceView = record { reader = c.next.new.self; asking = c.self.inside.asking; text = c.self.inside.painter.text; waiting = c.self.inside.painter.band } in
    let given = rw c.in-Ok-None.field-0-is at c.in-Ok-None.ensures in
    let P : SourceView → Type 0 = λ v. IsMirrored v piece after [] (with_band v.waiting picture) (with_band after.waiting picture) in
    subst P c.self.view_is (mirrored_kept before after piece (with_band before.waiting picture) (read_kept before after piece given.kept refl refl) (ap (λ (v : View). v.state.size) given.held))

pub returns-in-Ok-None-clause-read : goal.returns-in-Ok-None-clause-read
returns-in-Ok-None-clause-read c =
    let piece : List ℕ = c.args.piece.now in
    let before : SourceView = record { reader = c.self.inside.reader; asking = c.self.inside.asking; text = c.self.inside.painter.text; waiting = c.self.inside.painter.band } in
    let after : SourceView = record { reader = c.next.new.self; asking = c.self.inside.asking; text = c.self.inside.painter.text; waiting = c.self.inside.painter.band } in
    let given = rw c.in-Ok-None.field-0-is at c.in-Ok-None.ensures in
    let P : SourceView → Type 0 = λ v. IsReadAs v piece [] after [] in
    subst P c.self.view_is (read_kept before after piece given.kept refl refl)

pub returns-clause-mirrored : goal.returns-clause-mirrored
returns-clause-mirrored c config list fine was =
    let piece : List ℕ = c.args.piece.now in
    let old = c.args.canvas.now.screen.picture in
    let new = c.draw.new.canvas.screen.picture in
    let next = c.in-Ok-Some.next in
    let before : SourceView = record { reader = c.self.inside.reader; asking = c.self.inside.asking; text = c.self.inside.painter.text; waiting = c.self.inside.painter.band } in
    let after : SourceView = record { reader = c.next.new.self; asking = c.note.new.self; text = c.draw.new.self.text; waiting = c.draw.new.self.band } in
    let given = rw c.in-Ok-Some.field-0-is at c.in-Ok-Some.ensures in
    let one : IsNext before piece next after = record { read = given.step; ended = given.ended; asked = c.note.ensures; text = c.in_default.ensures.text } in
    let P : SourceView → Type 0 = λ v. IsMirroredNext v piece after next.rest.now (with_band v.waiting old) (with_band after.waiting new) in
    subst P c.self.view_is (mirrored_one before after piece next (with_band before.waiting old) (with_band after.waiting new) one given.sized given.on (c.in_default.ensures.done config list fine was))

pub returns-clause-read : goal.returns-clause-read
returns-clause-read c =
    let piece : List ℕ = c.args.piece.now in
    let next = c.in-Ok-Some.next in
    let before : SourceView = record { reader = c.self.inside.reader; asking = c.self.inside.asking; text = c.self.inside.painter.text; waiting = c.self.inside.painter.band } in
    let after : SourceView = record { reader = c.next.new.self; asking = c.note.new.self; text = c.draw.new.self.text; waiting = c.draw.new.self.band } in
    let given = rw c.in-Ok-Some.field-0-is at c.in-Ok-Some.ensures in
    let one : IsNext before piece next after = record { read = given.step; ended = given.ended; asked = c.note.ensures; text = c.in_default.ensures.text } in
    let P : SourceView → Type 0 = λ v. IsNext v piece next after in
    (next, subst P c.self.view_is one, refl, c.cost_of.ensures)
