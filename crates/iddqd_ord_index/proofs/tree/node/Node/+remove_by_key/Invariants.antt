use Rattle.iddqd_ord_index.proofs.tree.node.Node.+remove_by_key.Given as goal

abbrev pub decreases-remove_by_key : goal.decreases-remove_by_key
decreases-remove_by_key g l = l.self.now.height
