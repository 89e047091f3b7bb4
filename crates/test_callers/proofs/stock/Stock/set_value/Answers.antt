use Rattle.std.proofs.Common.{◌≡◌, Some, refl, rules}
use Rattle.iddqd.proofs.ChangeLemmas.{find_replaced, found_passes}
use Rattle.test_callers.specs.Lookups.{of_name}
use Rattle.test_callers.proofs.stock.Stock.set_value.Goals as goal

pub returns-in-Occupied-clause-read : goal.returns-in-Occupied-clause-read
returns-in-Occupied-clause-read c =
    let x = c.get_mut-found.result.now in
    let found : of_name c.args.name.now c.self.inside.map.items ≡ Some x = search rules in
    let read = find_replaced _ _ c.self.inside.map.items _ (record x { value = c.args.value }) x (c.in-Occupied.ensures.entry.written _) refl found (found_passes _ c.self.inside.map.items x found) in
    rw (← c.self.view_is) (rw found (search rules))
