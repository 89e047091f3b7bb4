use Rattle.std.proofs.Common.{rules}
use Rattle.std.specs.Result.{IsOk}
use Rattle.idtable_commands.proofs.running.insert_unique.Goals as goal

pub returns-in-Ok-clause-reply : goal.returns-in-Ok-clause-reply
returns-in-Ok-clause-reply g c =
    let is : IsOk c.insert_unique.result = search rules in
    let inserted = (c.insert_unique.follows.holds tt is).inserted in
    (inserted.0, inserted.1, search rules)
