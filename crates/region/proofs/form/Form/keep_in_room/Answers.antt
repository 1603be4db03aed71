use Rattle.region.proofs.form.Form.keep_in_room.Goals as goal
use Rattle.region.proofs.FormLemmas.{form_bands, kept_nothing}

pub returns-in-Plain-clause-kept : goal.returns-in-Plain-clause-kept
returns-in-Plain-clause-kept c = kept_nothing c.args.keep c.args.self.now c.in-Plain.rect c.args.other.now.bands c.in-Plain.is (form_bands c.args.self.now c.requires.form) c.requires.second c.requires.room
