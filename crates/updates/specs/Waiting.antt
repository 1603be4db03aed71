-- The notices that wait for a viewer.
use Rattle.std.specs.Prelude.{Bool, true, false, if◌then◌else◌, nat_lt, List, [], ◌∷◌, ◌++◌, length}
use Rattle.updates.specs.declared.notices.Notice.{Notice}

-- no notice waits
abbrev pub none_wait : List Notice → Bool
none_wait [] = true
none_wait (n ∷ notices) = false

-- a notice is kept where fewer than 64 wait
abbrev pub with_notice : Notice → List Notice → List Notice
with_notice notice waiting_ones = if nat_lt (length waiting_ones) 64 then waiting_ones ++ notice ∷ [] else waiting_ones
