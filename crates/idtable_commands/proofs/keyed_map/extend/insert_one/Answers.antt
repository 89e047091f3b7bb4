use Rattle.std.proofs.Common.{rules}
use Rattle.std.specs.Result.{IsOk}
use Rattle.idtable_commands.proofs.keyed_map.extend.insert_one.Goals as goal

pub returns-in-Ok-clause-inserted : goal.returns-in-Ok-clause-inserted
returns-in-Ok-clause-inserted g c =
    let is : IsOk c.insert_unique.result = search rules in
    let done = c.insert_unique.follows.holds tt is in
    record { inserted = (done.inserted.0, done.inserted.1, search rules); stays = search rules }

pub returns-in-Err-Duplicate-clause-inserted : goal.returns-in-Err-Duplicate-clause-inserted
returns-in-Err-Duplicate-clause-inserted g c = search rules
