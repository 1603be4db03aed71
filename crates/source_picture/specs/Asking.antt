-- What a source is asked behind what it said.
use Rattle.std.specs.Prelude.{Bool, true, false}
use Rattle.server_reader.specs.declared.step.Step.{Step}
use Rattle.server_reader.specs.declared.step.Step.TheVariants as step
use Rattle.source_picture.specs.declared.source.Request.{Request}
use Rattle.source_picture.specs.declared.source.Request.TheVariants as request
use Rattle.source_picture.specs.declared.asking.Asking.{Asking}

-- all of its picture
abbrev pub first_asking : Asking
first_asking = record { request = request.All; has_size = false; has_update = false }

-- all of the picture, where that is to be asked already, or its size is another
abbrev pub request_with : (has_size : Bool) → Request → Request
request_with true r = request.All
request_with false request.All = request.All
request_with false r = request.Changes

abbrev pub request_behind : Asking → Request
request_behind a = request_with a.has_size a.request

-- 7.5.3: one request behind each whole update; 7.8.2: for all behind a new size
abbrev pub asked_after : Step → Asking → Asking
asked_after (step.Size width height) a = record a { has_size = true }
asked_after step.UpdateEnd a = record { request = request_behind a; has_size = false; has_update = true }
asked_after _ a = a
