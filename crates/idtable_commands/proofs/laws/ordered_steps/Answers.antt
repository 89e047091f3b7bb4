use Rattle.idtable_commands.proofs.AscendLemmas as ascend
use Rattle.idtable_commands.proofs.laws.ordered_steps.Goals as goal

pub returns : goal.returns
returns g c = ascend.ordered_steps
