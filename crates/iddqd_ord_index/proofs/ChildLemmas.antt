-- A branch of a node that is borrowed in its cell, and the one of them where a query belongs.
--     IsCell, cell_of      what is known of a branch in its cell
--     IsChild, child      and of the one where the query belongs
--     child_found, child_among, child_place, child_at      what is found in it, and where
--     IsStill      the node whose branch has not changed
--     steps_here, steps_below      the comparisons at a node, and those at its branch
use Rattle.std.proofs.Common.{refl, ◌≡◌, ℕ, ◌+◌, ◌*◌, ◌<◌, ◌≤◌, List, length, set, take, get_or, Option, Some, Ok, Err, subst, sym, ap, ◌∙◌, arith}
use Rattle.std.specs.declared.cmp.Ordering.{Ordering}
use Rattle.std.proofs.lemmas.List.{set-get_or}
use Rattle.std.specs.Borrow.{MutBor}
use Rattle.std.specs.List.{All}
use Rattle.std.specs.Option.{option_copied_mut}
use Rattle.iddqd_ord_index.specs.Digits.{digits}
use Rattle.iddqd_ord_index.specs.Nodes.{below, counts_of, nodes_of, AreBranches, IsBlockOf}
use Rattle.iddqd_ord_index.specs.Shape.{Subtree, lists, starts, tree, unused, IsBranchAt, IsForked}
use Rattle.iddqd_ord_index.specs.Standing.{IsAmong, IsMonotone, IsPart, IsPlace}
use Rattle.iddqd_ord_index.specs.declared.tree.node.Block.{Block}
use Rattle.iddqd_ord_index.specs.declared.tree.node.Branches.{Branches}
use Rattle.iddqd_ord_index.specs.declared.tree.node.Node.{Node}
use Rattle.iddqd_store.specs.Counting.{CountsAtMost}
use Rattle.iddqd_store.proofs.CountingLemmas.{CountsAtMost-le, CountsAtMost-then}
use Rattle.iddqd_ord_index.proofs.BelowLemmas.{length-lists, list_at}
use Rattle.iddqd_ord_index.proofs.BranchAtLemmas.{branch_within}
use Rattle.iddqd_ord_index.proofs.CellLemmas.{branch_in, branches_with, changed_counts, changed_nodes, counted, kept}
use Rattle.iddqd_ord_index.proofs.DenseLemmas.{branch_some, dense_of}
use Rattle.iddqd_ord_index.proofs.DescentLemmas.{digits_four, inner}
use Rattle.iddqd_ord_index.proofs.FoundLemmas.{found_place, missed_front, missed_back, part_all, part_mono, whole_part}

-- the branches are still what they were, in another value
pub record IsStill (new old : Branches) (ss : List ℕ) (self : Subtree) : Type 0 where
  pub branches : AreBranches new
  pub same : below new ≡ below old
  pub forked : IsForked (below new) ss
  pub view : tree (below new) ss ≡ self

-- what is known of the branch d, the i-th of a node, which was read from the node's block
pub record IsCell (bs : Branches) (self : Subtree) (read : Block) (i : ℕ) (d : Subtree) : Type 0 where
  -- the branch
  pub inside : i < length (below bs)
  pub is : d ≡ get_or (below bs) i unused
  pub within : length d.slots ≤ length self.slots
  pub height : d.height + 1 ≡ self.height
  pub low : 1 ≤ d.height
  pub wide : 5 ≤ d.width
  pub some : 0 < length d.slots
  -- its cell and its count
  pub counted : (node : Node) → i < length (counts_of (branches_with bs read i node))
  pub nodes : (node : Node) → nodes_of (branches_with bs read i node) ≡ set (nodes_of bs) i (Some node)
  pub counts : (node : Node) (count : ℕ) → set (counts_of (branches_with bs read i node)) i count ≡ set (counts_of bs) i count

-- and if the query belongs in it
pub record IsChild (order : ℕ → Ordering) (P : ℕ → Type 0) (bs : Branches) (ss : List ℕ) (self : Subtree) (read : Block) (i : ℕ) (d : Subtree) : Type 0 where
  pub cell : IsCell bs self read i d
  pub open cell use *
  pub part : IsPart order self.slots d.slots (starts (take i (lists (below bs))))
  pub room : starts (lists (below bs)) ≤ length self.slots + 1
  pub all : All P d.slots
  pub monotone : IsMonotone order d.slots
  pub still : (node : Node) → node ≡ d → IsStill (branches_with bs read i node) bs ss self

-- the place of a query among a node's own slots is that of a branch
pub place_inside : (ts : List Subtree) (xs ss : List ℕ) (i : ℕ) → IsForked ts ss → 0 < length ts → xs ≡ ss → i ≤ length xs → i < length ts
place_inside ts xs ss i f some e le = omega (arith, f.fork some, ap length e)

pub cell_of : (bs : Branches) (ss : List ℕ) (self : Subtree) → AreBranches bs → IsForked (below bs) ss → tree (below bs) ss ≡ self → (read : Block) → IsBlockOf bs read → (i : ℕ) → i < length (below bs)
    → (o : Option Node) {r : Option (MutBor Node)} {x : MutBor Node} → option_copied_mut r ≡ get_or read.nodes i o → r ≡ Some x → IsCell bs self read i x.now
cell_of bs ss self br f v read h i lt o {r} {x} at is =
    let w = branch_in bs read h i br lt o at is in
    let b = f.branches i unused lt in
    record {
      inside = lt;
      is = w;
      within = omega (arith, branch_within (below bs) ss f i lt, ap (λ t. length t.slots) w, ap (λ t. length t.slots) v);
      height = ap (λ t. t.height + 1) w ∙ (b.height ∙ ap (λ t. t.height) v);
      low = omega (arith, b.dense.low, ap (λ t. t.height) w);
      wide = omega (arith, b.wide, ap (λ t. t.width) w);
      some = omega (arith, branch_some _ (get_or (below bs) i unused) b, ap (λ t. length t.slots) w);
      counted = counted bs read h i br lt;
      nodes = changed_nodes bs read h i;
      counts = changed_counts bs read h i;
    }

module _ (order : ℕ → Ordering) (P : ℕ → Type 0) (bs : Branches) (ss : List ℕ) (self : Subtree) (m : IsMonotone order self.slots) (a : All P self.slots) (br : AreBranches bs) (f : IsForked (below bs) ss) (v : tree (below bs) ss ≡ self)
    (read : Block) (h : IsBlockOf bs read) (some : 0 < length (below bs)) (i : ℕ) (xs : List ℕ) (e : xs ≡ ss) (p : IsPlace order xs (Err i))
    (o : Option Node) {r : Option (MutBor Node)} {x : MutBor Node} (at : option_copied_mut r ≡ get_or read.nodes i o) (is : r ≡ Some x) where
  child_part : x.now ≡ get_or (below bs) i unused → IsPart order self.slots x.now.slots (starts (take i (lists (below bs))))
  child_part w =
      let n = inner order P self.slots (below bs) ss 0 self m a f some v (whole_part order self.slots) in
      let zero : 0 + starts (take i (lists (below bs))) ≡ starts (take i (lists (below bs))) = omega arith in
      subst (IsPart order self.slots x.now.slots) zero (n.down i (starts (take i (lists (below bs)))) x.now (subst (λ l. IsPlace order l (Err i)) e p) refl w)

  child_still : i < length (below bs) → x.now ≡ get_or (below bs) i unused → (new : Node) → new ≡ x.now → IsStill (branches_with bs read i new) bs ss self
  child_still lt w new same_node =
      let k = kept bs read h i br lt new (ap (λ t. length t.slots) (same_node ∙ w)) in
      let same = k.1 ∙ (ap (λ t. set (below bs) i t) (same_node ∙ w) ∙ set-get_or (below bs) i unused) in
      record { branches = k.0; same = same; forked = subst (λ us. IsForked us ss) (sym same) f; view = ap (λ us. tree us ss) same ∙ v }

  pub child : IsChild order P bs ss self read i x.now
  child =
      let lt = place_inside (below bs) xs ss i f some e p.0 in
      let b = cell_of bs ss self br f v read h i lt o at is in
      let part = child_part b.is in
      record {
        cell = b;
        part = part;
        room = (inner order P self.slots (below bs) ss 0 self m a f some v (whole_part order self.slots)).room;
        all = part_all order P self.slots x.now.slots (starts (take i (lists (below bs)))) a part;
        monotone = part_mono order self.slots x.now.slots (starts (take i (lists (below bs)))) m part;
        still = child_still lt b.is;
      }

module _ {order : ℕ → Ordering} {P : ℕ → Type 0} {bs : Branches} {ss : List ℕ} {self : Subtree} {read : Block} {i : ℕ} {d : Subtree} (h : IsChild order P bs ss self read i d) where
  pub child_found : (k : ℕ) → IsPlace order d.slots (Ok k) → IsPlace order self.slots (Ok (starts (take i (lists (below bs))) + k))
  child_found k q = found_place order self.slots d.slots (starts (take i (lists (below bs)))) h.part k q.0 q.1

  pub child_among : (found : ℕ) → IsAmong order d.slots (Some found) → IsAmong order self.slots (Some found)
  child_among found q = (starts (take i (lists (below bs))) + q.0, q.1 ∙ sym (h.part.same q.0 q.2.0), child_found q.0 q.2)

  pub child_place : (rest : ℕ) → IsPlace order d.slots (Err rest) → IsPlace order self.slots (Err (starts (take i (lists (below bs))) + rest))
  child_place rest q =
      let b = starts (take i (lists (below bs))) in (
        omega (arith, q.0, h.part.fits),
        λ k lt. missed_front order self.slots d.slots b h.part rest k q.0 q.1 lt,
        λ k le lt. missed_back order self.slots d.slots b h.part rest k q.0 q.2 le lt,
      )

  pub child_at : (rest : ℕ) → rest ≤ length d.slots → IsBranchAt (lists (below bs)) (starts (take i (lists (below bs))) + rest) i rest
  child_at rest le =
      record {
        branch = omega (arith, length-lists (below bs), h.inside);
        within = omega (arith, ap length (list_at (below bs) i h.inside), ap (λ t. length t.slots) h.is);
        sum = omega arith;
      }

-- a node has a level
pub low_of : (ts : List Subtree) (ss : List ℕ) (self : Subtree) → IsForked ts ss → tree ts ss ≡ self → 1 ≤ self.height
low_of ts ss self f v = omega (arith, (dense_of ts ss f).low, ap (λ t. t.height) v)

pub steps_here : (n first last height : ℕ) → n ≤ 11 → CountsAtMost first last (digits n) → 1 ≤ height → CountsAtMost first last (4 * height)
steps_here n first last height le counted low = CountsAtMost-le counted (omega (arith, digits_four n le))

pub steps_below : (n first searched last height high : ℕ) → n ≤ 11 → CountsAtMost first searched (digits n) → CountsAtMost searched last (4 * height) → height + 1 ≡ high → CountsAtMost first last (4 * high)
steps_below n first searched last height high le here deep e =
    CountsAtMost-le (CountsAtMost-then here deep) (omega (arith, digits_four n le))
