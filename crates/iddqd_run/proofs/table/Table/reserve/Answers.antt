use Rattle.std.proofs.Common.{◌+◌, length, arith}
use Rattle.iddqd_run.proofs.ShownLemmas.{no_space_answered, reserved_answered}
use Rattle.iddqd_run.proofs.table.Table.reserve.Goals as goal
use Rattle.iddqd_run.proofs.table.Table.reserve.Goals.{in-Ok, in-Err}

pub returns : goal.returns
returns g c =
    let kind = g.M.ByName.kind in
    let items = (g.M.KeyedMap.state c.self.inside.map).items in
    rw (← c.self.view_is) (elim c.match-reserve.branch [
      | in-Ok w ↦ rw w.result-is (reserved_answered kind items _ c.args.additional (omega (arith, w.in-Ok.ensures.made.in_limit, c.self.invariant.limit)) c.reserve.ensures.unchanged)
      | in-Err w ↦
          let wanted = length items + c.args.additional in
          rw w.result-is (no_space_answered kind items _ c.args.additional w.no_room.result c.reserve.ensures.unchanged (w.no_room.ensures.space wanted (rw c.self.invariant.limit at w.in-Err.ensures.refused.0)))
    ])
