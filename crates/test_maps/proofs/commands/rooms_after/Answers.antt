-- An untouched item keeps its key.
use Rattle.test_maps.proofs.commands.rooms_after.Goals as goal

pub replies-requires-clause-keeps_keys : goal.replies-requires-clause-keeps_keys
replies-requires-clause-keeps_keys g c = λ v x. g.met.K.Eq.laws.refl (g.T.IdOrdItem.key x)

pub replies-requires-2-clause-keeps_keys : goal.replies-requires-2-clause-keeps_keys
replies-requires-2-clause-keeps_keys g c = λ v x. g.met.K.Eq.laws.refl (g.T.IdHashItem.key x)
