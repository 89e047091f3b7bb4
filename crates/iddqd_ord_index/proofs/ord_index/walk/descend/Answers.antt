use Rattle.std.proofs.Common.{◌≡◌, ◌∷◌, IfSome, subst}
use Rattle.iddqd_ord_index.proofs.RunLemmas.{next_begins}
use Rattle.iddqd_ord_index.proofs.ord_index.walk.descend.Goals as goal

pub returns-clause-there : goal.returns-clause-there
returns-clause-there c =
    let leaves = c.leaves_at-leaves.result in
    let new = c.next.new.self in
    let more : leaves ≡ c.unwrap-slot.result ∷ new = subst (λ o. IfSome o (λ slot. leaves ≡ slot ∷ new)) c.unwrap-slot.ensures c.next.ensures.some in
    next_begins c.args.root.now.slots leaves new c.args.at c.unwrap-slot.result c.requires.in_list c.leaves_at-leaves.ensures.walk more
