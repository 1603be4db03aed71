-- What a place keeps.
use Rattle.messages.specs.declared.Phase.{Phase}
use Rattle.redaction.specs.declared.place.Part.{Part}
use Rattle.redaction.specs.declared.place.Part.TheVariants as part
use Rattle.redaction.specs.Places.{Spot, front, list, text, over}

abbrev pub spot_in : Phase → Part → Spot
spot_in p (part.Front bytes) = front p bytes.items
spot_in p (part.List left) = list p left
spot_in p (part.Text left) = text p left
spot_in p part.Over = over
