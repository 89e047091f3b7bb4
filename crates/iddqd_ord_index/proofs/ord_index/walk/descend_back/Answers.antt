use Rattle.std.proofs.Common.{◌≡◌, [], ◌∷◌, ◌++◌, IfSome, subst}
use Rattle.iddqd_ord_index.proofs.BackLemmas.{prev_ends, prev_is}
use Rattle.iddqd_ord_index.proofs.ord_index.walk.descend_back.Goals as goal

pub returns-clause-slot : goal.returns-clause-slot
returns-clause-slot c =
    let leaves = c.leaves_before-leaves.result in
    let new = c.next.new.self in
    let more : leaves ≡ new ++ c.unwrap-slot.result ∷ [] = subst (λ o. IfSome o (λ slot. leaves ≡ new ++ slot ∷ [])) c.unwrap-slot.ensures c.next.ensures.some in
    prev_is c.args.root.now.slots leaves new c.args.at c.unwrap-slot.result c.requires.in_list c.leaves_before-leaves.ensures.walk more

pub returns-clause-there : goal.returns-clause-there
returns-clause-there c =
    let leaves = c.leaves_before-leaves.result in
    let new = c.next.new.self in
    let more : leaves ≡ new ++ c.unwrap-slot.result ∷ [] = subst (λ o. IfSome o (λ slot. leaves ≡ new ++ slot ∷ [])) c.unwrap-slot.ensures c.next.ensures.some in
    prev_ends c.args.root.now.slots leaves new c.args.at c.unwrap-slot.result c.requires.in_list c.leaves_before-leaves.ensures.walk more
