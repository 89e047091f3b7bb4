use Rattle.iddqd_ord_index.proofs.tree.node.Node.+cut.Given as goal

abbrev pub decreases-cut : goal.decreases-cut
decreases-cut l = l.self.now.height
