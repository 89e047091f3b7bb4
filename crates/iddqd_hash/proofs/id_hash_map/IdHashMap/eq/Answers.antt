use Rattle.std.proofs.Common.{◌∷◌, sym, subst, rules}
use Rattle.std.proofs.lemmas.List.Elements.{All-cons, All-drop}
use Rattle.std.specs.List.{All}
use Rattle.iddqd_store.specs.Contents.{FindsEqual}
use Rattle.iddqd_hash.proofs.id_hash_map.IdHashMap.eq.Goals as goal

pub loop-item-preserved : goal.loop-item-preserved
loop-item-preserved g c =
    let finds = FindsEqual g.T.IdHashItem.key g.T.Key.PartialEq.eq g.T.PartialEq.eq c.args.other.now.items in
    let kept = c.loop-item.invariant in
    let item = c.in-Some.item.now in
    let rest = c.next.new.self in
    let steps = c.in-Some.ensures.steps in
    let here : finds item = c.has_equal.ensures.0 c.if-not-has_equal.false in
    (tt, tt, kept.2, ((λ all. All-drop finds 1 (item ∷ rest) (subst (All finds) steps (kept.3.0 all))), (λ all. kept.3.1 (subst (All finds) (sym steps) (All-cons finds item rest here all)))))

pub returns : goal.returns
returns g c = search rules
