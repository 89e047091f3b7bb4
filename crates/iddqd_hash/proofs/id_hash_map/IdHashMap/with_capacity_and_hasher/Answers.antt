use Rattle.std.proofs.Common.{rules}
use Rattle.std.proofs.lemmas.Result.{err_from_is_err_and}
use Rattle.iddqd_hash.proofs.id_hash_map.IdHashMap.with_capacity_and_hasher.Goals as goal

pub returns-clause-spare : goal.returns-clause-spare
returns-clause-spare g c = search rules

pub overflow_cast-t-10 : goal.overflow_cast-t-10
overflow_cast-t-10 g c = search rules

pub returns-then-capacity : goal.returns-then-capacity
returns-then-capacity g c = record {
  empty = tt;
  spare = tt;
  spare_fits = tt;
  capacity = tt;
  hasher = tt;
  in_limit = tt;
  refused = search rules;
  asked = search rules;
  keyed = tt;
}

pub returns-in_err-index : goal.returns-in_err-index
returns-in_err-index g c =
    let back = err_from_is_err_and c.from_residual.result c.from_residual.ensures.1 in
    rw back.1 (record {
      empty = tt;
      spare = tt;
      spare_fits = tt;
      capacity = tt;
      hasher = tt;
      in_limit = tt;
      refused = search rules;
      asked = search rules;
      keyed = tt;
    })

pub returns-in_err-store : goal.returns-in_err-store
returns-in_err-store g c =
    let back = err_from_is_err_and c.from_residual-in_err-store.result c.from_residual-in_err-store.ensures.1 in
    rw back.1 (record {
      empty = tt;
      spare = tt;
      spare_fits = tt;
      capacity = tt;
      hasher = tt;
      in_limit = tt;
      refused = search rules;
      asked = search rules;
      keyed = tt;
    })
