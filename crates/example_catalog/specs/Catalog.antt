use Rattle.std.specs.Prelude.{ℕ, List}
use Rattle.std.specs.Ordering.{nat_cmp}
use Rattle.std.specs.declared.ops.Bound.TheVariants.{Included, Excluded}
use Rattle.iddqd.specs.IdOrdMap.{items_between}
use Rattle.example_catalog.specs.declared.catalog.Product.{Product}

-- the products whose numbers are not less than the first one, and less than the second
abbrev pub products_between : (from to : ℕ) → List Product → List Product
products_between from to all = items_between nat_cmp (λ product. product.number) (Included from) (Excluded to) all
