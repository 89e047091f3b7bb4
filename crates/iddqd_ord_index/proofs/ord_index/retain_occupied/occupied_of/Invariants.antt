use Rattle.std.proofs.Common.{◌≡◌, take}
use Rattle.iddqd_ord_index.specs.Listed.{occupied_slots}
use Rattle.iddqd_ord_index.proofs.ord_index.retain_occupied.occupied_of.Given as goal

abbrev pub invariant-loop-i : goal.invariant-loop-i
invariant-loop-i g l = l.kept.items ≡ occupied_slots l.store (take l.i l.run)
