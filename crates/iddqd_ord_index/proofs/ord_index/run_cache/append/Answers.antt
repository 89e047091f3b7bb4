use Rattle.std.proofs.Common.{◌≡◌, ◌∷◌, drop, subst, IfSome}
use Rattle.iddqd_ord_index.proofs.RunLemmas.{slots_appended}
use Rattle.iddqd_ord_index.proofs.ord_index.run_cache.append.Goals as goal

pub returns-clause-appended : goal.returns-clause-appended
returns-clause-appended c =
    let walk = c.leaves_at-walk.result in
    let left = c.next.new.self in
    let slot = c.unwrap-slot.result in
    let more : walk ≡ slot ∷ left = subst (λ o. IfSome o (λ slot. walk ≡ slot ∷ left)) c.unwrap-slot.ensures c.next.ensures.some in
    slots_appended c.args.slots.now.items c.push.new.self.items c.fill.new.slots.items walk left (drop c.args.at c.args.root.now.slots) slot c.leaves_at-walk.ensures.walk more c.push.ensures.items c.fill.ensures.appended
