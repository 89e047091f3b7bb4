use Rattle.iddqd_ord_index.proofs.tree.node.Node.+insert_by_key.Given as goal

abbrev pub decreases-insert_by_key : goal.decreases-insert_by_key
decreases-insert_by_key g l = l.self.now.height
