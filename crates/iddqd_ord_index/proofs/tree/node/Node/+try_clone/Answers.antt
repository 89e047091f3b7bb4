use Rattle.std.proofs.Common.{◌≡◌, ◌∷◌, ◌++◌, List, ℕ, [], length, take, drop, get_or, ap, sym, ◌∙◌, subst, arith}
use Rattle.std.proofs.lemmas.List.{take_more, take_all, length-take-le, drop_all}
use Rattle.std.specs.List.{insert}
use Rattle.iddqd_ord_index.specs.Nodes.{below}
use Rattle.iddqd_ord_index.specs.Shape.{Subtree, tree, unused, IsForked}
use Rattle.iddqd_ord_index.proofs.BelowLemmas.{length-nodes}
use Rattle.iddqd_ord_index.proofs.tree.node.Node.+try_clone.Goals as goal

pub insert-requires-clause-in_bounds : goal.insert-requires-clause-in_bounds
insert-requires-clause-in_bounds t c =
    let n = length-take-le c.loop-i.i (below c.self.inside.branches) (omega (arith, c.len-i-end.ensures)) in
    omega (arith, ap length c.loop-i.invariant.copied)

pub insert-requires-clause-room : goal.insert-requires-clause-room
insert-requires-clause-room t c =
    let n = length-take-le c.loop-i.i (below c.self.inside.branches) (omega (arith, c.len-i-end.ensures)) in
    let m = length-nodes c.self.inside.branches c.self.invariant.branches in
    omega (arith, ap length c.loop-i.invariant.copied, c.self.invariant.branches.packed.fits, c.len-i-end.ensures)

pub insert-requires-clause-block : goal.insert-requires-clause-block
insert-requires-clause-block t c = c.loop-i.invariant.block (omega (arith, c.len-i-end.ensures))

at_end : (xs : List Subtree) (i : ℕ) (x : Subtree) → i ≡ length xs → insert xs i x ≡ xs ++ x ∷ []
at_end xs i x e = ap (λ l. l ++ x ∷ drop i xs) (take_all i xs (omega arith)) ∙ ap (λ l. xs ++ x ∷ l) (drop_all i xs (omega arith))

pub loop-i-preserved : goal.loop-i-preserved
loop-i-preserved t c =
    let ts = below c.self.inside.branches in
    let i = c.loop-i.i in
    let n = length-take-le i ts (omega (arith, c.len-i-end.ensures)) in
    let m : length (below c.loop-i.branches) ≡ i = omega (arith, ap length c.loop-i.invariant.copied) in
    let v : c.in_ok-node.node ≡ get_or ts i unused = c.in_ok-node.ensures ∙ c.get.ensures in
    let e = at_end (below c.loop-i.branches) i c.in_ok-node.node (sym m) in
    record {
      branches = c.insert.ensures.branches;
      block = λ _. c.insert.ensures.block;
      copied = c.insert.ensures.below ∙ (e ∙ (ap (λ l. l ++ c.in_ok-node.node ∷ []) c.loop-i.invariant.copied
          ∙ (ap (λ x. take i ts ++ x ∷ []) v ∙ sym (take_more ts i unused (omega (arith, c.len-i-end.ensures))))));
    }

whole : (t : ℕ) (c : goal.After-extend_from_slice t) → (below c.loop-i.branches ≡ below c.self.inside.branches) × (c.extend_from_slice.new.self.items ≡ c.self.inside.slots.items)
whole t c = (
  c.loop-i.invariant.copied ∙ take_all c.loop-i.i (below c.self.inside.branches) (omega (arith, c.len-i-end.ensures)),
  c.extend_from_slice.ensures.items ∙ (ap (λ l. l ++ c.as_slice.result.now) c.new-slots.ensures ∙ c.as_slice.ensures.value),
)

pub invariant_of-result : goal.invariant_of-result
invariant_of-result t c =
    let w = whole t c in
    record {
      branches = c.loop-i.invariant.branches;
      forked = subst (λ ts. IsForked ts c.extend_from_slice.new.self.items) (sym w.0) (subst (λ ss. IsForked (below c.self.inside.branches) ss) (sym w.1) c.self.invariant.forked);
    }

pub returns : goal.returns
returns t c =
    let w = whole t c in
    ap (λ ts. tree ts c.extend_from_slice.new.self.items) w.0 ∙ (ap (λ ss. tree (below c.self.inside.branches) ss) w.1 ∙ c.self.view_is)
