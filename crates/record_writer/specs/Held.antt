-- What a record's writer holds.
use Rattle.std.specs.Prelude.{ℕ, List, Option, Some, None}
use Rattle.record_writer.specs.declared.record_writer.RecordWriter.{RecordWriter}
use Rattle.record_writer.specs.declared.record_writer.RecordWriter.TheVariants.{File, PrivateFile, Memory}

-- what a record's writer holds, where that is known: of a file it is not
abbrev pub bytes_held : RecordWriter → Option (List ℕ)
bytes_held (File file) = None
bytes_held (PrivateFile file) = None
bytes_held (Memory bytes) = Some bytes.items
