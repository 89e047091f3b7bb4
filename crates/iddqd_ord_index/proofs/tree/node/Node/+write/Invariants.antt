use Rattle.iddqd_ord_index.proofs.tree.node.Node.+write.Given as goal

abbrev pub decreases-write : goal.decreases-write
decreases-write l = l.self.now.height
