-- What the program says of a fault, and its exit status.
use Rattle.std.specs.Prelude.{ℕ, List, Result, Ok, Err, codes}
use Rattle.iddqd_run.specs.declared.serving.Fault.{Fault}
use Rattle.iddqd_run.specs.declared.serving.Fault.TheVariants.{Read, Write, Memory}
use Rattle.iddqd_run.specs.declared.statuses.Stop.{Stop}
use Rattle.iddqd_run.specs.declared.statuses.Stop.TheVariants as stop

abbrev pub text_for : Fault → List ℕ
text_for Read = codes "read failed"
text_for Write = codes "write failed"
text_for Memory = codes "no memory"

-- of the number of refusals, or of why there are no replies
abbrev pub status_for : Result ℕ Stop → ℕ
status_for (Ok refusals) = 0
status_for (Err (stop.Fault fault)) = 1
status_for (Err stop.Usage) = 2
