use Rattle.std.proofs.Common.{◌≡◌, ◌+◌, ◌∷◌, [], ap, sym, ◌∙◌, subst, arith, length}
use Rattle.std.specs.List.{insert, All}
use Rattle.std.proofs.lemmas.List.Elements.{All-cons, All-nil}
use Rattle.iddqd_ord_index.specs.Nodes.{below}
use Rattle.iddqd_ord_index.specs.Shape.{IsBranch}
use Rattle.iddqd_ord_index.proofs.DenseLemmas.{dense_of}
use Rattle.iddqd_ord_index.proofs.HalfLemmas.{forked_of}
use Rattle.iddqd_ord_index.proofs.tree.node.Node.make_root.Goals as goal

pub returns-clause-dense : goal.returns-clause-dense
returns-clause-dense c =
    let e : below c.insert-2.new.self ≡ c.args.lower ∷ (c.args.upper ∷ []) = c.insert-2.ensures.below ∙ (ap (λ l. insert l 1 c.args.upper) c.insert.ensures.below ∙ ap (λ l. insert (insert l 0 c.args.lower) 1 c.args.upper) c.within.ensures.none) in
    let h = c.args.lower.height + 1 in
    let al = All-cons (IsBranch h) c.args.lower (c.args.upper ∷ []) c.requires.lower (All-cons (IsBranch h) c.args.upper [] c.requires.upper (All-nil (IsBranch h))) in
    let w : length c.self.inside.slots.items ≡ 0 = ap (λ t. t.width) (c.self.view_is ∙ c.requires.unused) in
    let n : length (below c.insert-2.new.self) ≡ length c.push.new.self.items + 1 = omega (arith, ap length e, c.push.ensures.len) in
    dense_of (below c.insert-2.new.self) c.push.new.self.items (forked_of h (below c.insert-2.new.self) c.push.new.self.items (subst (λ l. All (IsBranch h) l) (sym e) al) n)
