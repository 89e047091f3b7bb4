use Rattle.idtable_commands.proofs.SameRepliesLemmas as same
use Rattle.idtable_commands.proofs.laws.same_replies.Goals as goal

pub returns : goal.returns
returns g c = same.same_replies
