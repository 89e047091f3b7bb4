use Rattle.std.proofs.Common.{◌≡◌, ◌+◌, length, get_or, ap, sym, ◌∙◌, arith}
use Rattle.iddqd_ord_index.specs.Nodes.{subtrees}
use Rattle.iddqd_ord_index.specs.Shape.{unused}
use Rattle.iddqd_ord_index.proofs.RebalanceLemmas.{first_cell, lower_is, same_sum, shifted_cells, two_packed, upper_is}
use Rattle.iddqd_ord_index.proofs.tree.node.pair.shift_cells.Goals as goal

-- the two nodes are the branches in their cells
lower : (c : goal.After-shift-top) → get_or (subtrees c.args.nodes.now) c.args.j unused ≡ c.in-Some.lower
lower c =
    let h = c.split_at_mut-front.ensures in
    lower_is c.args.nodes.now c.split_at_mut-front.result.0.now c.split_at_mut-front.result.1.now c.args.j c.requires.packed c.requires.pair.within h.value h.front_len _ c.in-Some.lower c.index-front-j.is c.in-Some.is

upper : (c : goal.After-shift-top) → get_or (subtrees c.args.nodes.now) (c.args.j + 1) unused ≡ c.in-Some-back.upper
upper c =
    let h = c.split_at_mut-front.ensures in
    upper_is c.args.nodes.now c.split_at_mut-front.result.0.now c.split_at_mut-front.result.1.now c.args.j c.requires.packed c.requires.pair.within h.value h.front_len _ c.in-Some-back.upper c.index-back-0.is c.in-Some-back.is

pub len-requires : goal.len-requires
len-requires c =
    omega (arith, same_sum _ _ _ _ _ _ c.shift-top.ensures, c.requires.pair.room, ap (λ t. length t.slots) (lower c), ap (λ t. length t.slots) (upper c))

pub returns-clause-packed : goal.returns-clause-packed
returns-clause-packed c =
    let h = c.split_at_mut-front.ensures in
    two_packed c.args.nodes.now c.split_at_mut-front.result.0.now c.split_at_mut-front.result.1.now c.args.j c.requires.packed c.requires.pair.within h.value h.front_len c.shift-top.new.self c.shift-top.new.upper

pub returns-clause-shifted : goal.returns-clause-shifted
returns-clause-shifted c =
    let h = c.split_at_mut-front.ensures in
    shifted_cells c.args.nodes.now c.split_at_mut-front.result.0.now c.split_at_mut-front.result.1.now c.args.j c.requires.packed c.requires.pair.within h.value h.front_len c.shift-top.new.self c.shift-top.new.upper
    c.args.middle c.shift-top.result c.in-Some.lower c.in-Some-back.upper (lower c.before.before.before) (upper c.before.before.before) c.shift-top.ensures

pub returns-clause-len : goal.returns-clause-len
returns-clause-len c =
    let h = c.split_at_mut-front.ensures in
    c.len.ensures
    ∙ sym (ap (λ t. length t.slots) (first_cell c.args.nodes.now c.split_at_mut-front.result.0.now c.split_at_mut-front.result.1.now c.args.j c.requires.packed c.requires.pair.within h.value h.front_len c.shift-top.new.self c.shift-top.new.upper))
