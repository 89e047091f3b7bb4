use Rattle.std.proofs.Common.{rules, refl, arith}
use Rattle.std.proofs.lemmas.Result.{on_err_weaker}
use Rattle.idtable_commands.proofs.keyed_map.hash.IdHashMapKeyedMap.insert_unique.Goals as goal

pub returns : goal.returns
returns g c = (
  (
    refl,
    (λ w is.
        let done = c.insert_unique.follows.holds w is in
        record {
          inserted = (search rules, done.inserts.room, done.inserts.added);
          stays = record {
            keyed = done.stays.keyed;
            limit = done.inserts.limit;
            room = record { at_least = done.stays.spare.never_less; in_limit = omega (arith, done.stays.spare.spare_fits, done.inserts.limit) };
          };
        }),
    on_err_weaker c.insert_unique.result
        (λ kept. (
          record {
            items = kept.0.keeps.items;
            stays = record {
              keyed = kept.0.stays.keyed;
              limit = kept.0.keeps.limit;
              room = record { at_least = kept.0.stays.spare.never_less; in_limit = omega (arith, kept.0.stays.spare.spare_fits, kept.0.keeps.limit) };
            };
          },
          kept.1,
        ))
        c.insert_unique.follows.holds-at-none,
  ),
  record { after = tt; refused = c.insert_unique.ensures.refused; no_spare = search rules },
)
