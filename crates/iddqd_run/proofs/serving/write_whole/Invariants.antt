use Rattle.std.proofs.Common.{◌≡◌, ℕ, List, ◌++◌}
use Rattle.std.specs.Io.KnownBytes.{Appends}
use Rattle.iddqd_run.proofs.serving.write_whole.Given as goal

-- what is gone from the rest was appended
abbrev pub invariant-loop : goal.invariant-loop
invariant-loop g l = (written : List ℕ) × (l.text ≡ written ++ l.rest) × Appends (g.W.Write.contents l.initial.writer) (g.W.Write.contents l.writer) written
