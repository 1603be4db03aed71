-- Why the program ended.
use Rattle.std.proofs.Common.{Bool}
use Rattle.mirror.specs.declared.program.Trouble.{Trouble}
use Rattle.mirror.specs.declared.program.Trouble.TheVariants as trouble
use Rattle.mirror.specs.Programs.{IsTrouble, IsTroubleWith}

pub trouble_with : (once : Bool) (t : Trouble) → IsTrouble t → IsTroubleWith once t
trouble_with once trouble.OutOfMemory is = tt
trouble_with once trouble.Network is = tt
trouble_with once trouble.Write is = tt
trouble_with once trouble.NoSource is = absurd is
