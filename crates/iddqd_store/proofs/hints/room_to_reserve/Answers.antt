-- For speed alone: the prover finds these proofs by itself, but later.
use Rattle.std.proofs.Common.{rules}
use Rattle.iddqd_store.proofs.hints.room_to_reserve.Goals as goal

pub returns-then-there-eq0 : goal.returns-then-there-eq0
returns-then-there-eq0 c = search rules

pub returns-else-there-eq0 : goal.returns-else-there-eq0
returns-else-there-eq0 c = search rules
