use Rattle.iddqd_ord_index.proofs.tree.node.Node.+remove.Given as goal

abbrev pub decreases-remove : goal.decreases-remove
decreases-remove l = l.self.now.height
