use Rattle.std.proofs.Common.{[], ◌∷◌, ap, ap₂, refl}
use Rattle.std.proofs.lemmas.List.Elements.{same_from_all_zip}
use Rattle.idtable_commands.specs.declared.commands.Command.TheVariants.{InsertUnique, InsertOverwrite, Get, Remove, Visit, RetainMut, Clear, Reserve, Shrink, Len, ExtendUnique}
use Rattle.idtable_commands.proofs.laws.clones_are_same.Goals as goal

pub returns : goal.returns
returns g c te ke ve [] [] clones = tt
returns g c te ke ve (InsertUnique x ∷ ones) (InsertUnique y ∷ others) (clone, clones) = (ap InsertUnique (te x y clone), returns g c te ke ve ones others clones)
returns g c te ke ve (InsertOverwrite x ∷ ones) (InsertOverwrite y ∷ others) (clone, clones) = (ap InsertOverwrite (te x y clone), returns g c te ke ve ones others clones)
returns g c te ke ve (Get k ∷ ones) (Get l ∷ others) (clone, clones) = (ap Get (ke k l clone), returns g c te ke ve ones others clones)
returns g c te ke ve (Remove k ∷ ones) (Remove l ∷ others) (clone, clones) = (ap Remove (ke k l clone), returns g c te ke ve ones others clones)
returns g c te ke ve (Visit k v ∷ ones) (Visit l w ∷ others) (clone, clones) = (ap₂ Visit (ke k l clone.0) (ve v w clone.1), returns g c te ke ve ones others clones)
returns g c te ke ve (RetainMut v ∷ ones) (RetainMut w ∷ others) (clone, clones) = (ap RetainMut (ve v w clone), returns g c te ke ve ones others clones)
returns g c te ke ve (Clear ∷ ones) (Clear ∷ others) (clone, clones) = (refl, returns g c te ke ve ones others clones)
returns g c te ke ve (Reserve n ∷ ones) (Reserve m ∷ others) (clone, clones) = (ap Reserve clone, returns g c te ke ve ones others clones)
returns g c te ke ve (Shrink ∷ ones) (Shrink ∷ others) (clone, clones) = (refl, returns g c te ke ve ones others clones)
returns g c te ke ve (Len ∷ ones) (Len ∷ others) (clone, clones) = (refl, returns g c te ke ve ones others clones)
returns g c te ke ve (ExtendUnique xs ∷ ones) (ExtendUnique ys ∷ others) (clone, clones) =
    ((ys, refl, same_from_all_zip g.T.Clone.is_clone xs.items ys.items clone.0 te), returns g c te ke ve ones others clones)
returns g c te ke ve (one ∷ ones) (other ∷ others) (clone, clones) = absurd clone
returns g c te ke ve ones others clones = absurd clones
