use Rattle.iddqd_ord_index.proofs.tree.node.Node.+add.Given as goal

abbrev pub decreases-add : goal.decreases-add
decreases-add l = l.self.now.height
