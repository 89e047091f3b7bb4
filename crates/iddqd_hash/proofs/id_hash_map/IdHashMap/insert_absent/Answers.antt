-- For speed alone: the prover finds these proofs by itself, but later.
use Rattle.std.proofs.Common.{rules}
use Rattle.iddqd_hash.proofs.id_hash_map.IdHashMap.insert_absent.Goals as goal

pub returns-in_err-slot-clause-inserted : goal.returns-in_err-slot-clause-inserted
returns-in_err-slot-clause-inserted g c = search rules

pub returns-in_err-slot-clause-there : goal.returns-in_err-slot-clause-there
returns-in_err-slot-clause-there g c = search rules

pub returns-in_err-slot-clause-kept : goal.returns-in_err-slot-clause-kept
returns-in_err-slot-clause-kept g c = search rules

pub returns-in_err-slot-clause-refused : goal.returns-in_err-slot-clause-refused
returns-in_err-slot-clause-refused g c = search rules

pub returns-clause-inserted : goal.returns-clause-inserted
returns-clause-inserted g c = search rules

pub returns-clause-there : goal.returns-clause-there
returns-clause-there g c = search rules
