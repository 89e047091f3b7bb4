use Rattle.std.proofs.Common.{rules, refl, sym, subst}
use Rattle.std.specs.Result.{IsOk}
use Rattle.iddqd.specs.Refusal.{IsOnly}
use Rattle.idtable_commands.proofs.ExtendLemmas.{conflict_answered, conflict_more, refused_answered, refused_more}
use Rattle.idtable_commands.proofs.running.extend_unique.Goals as goal

pub overflow_sub-after : goal.overflow_sub-after
overflow_sub-after g c =
    conflict_more g.M.KeyedMap.key g.met.M.Key.Eq.laws (g.M.KeyedMap.limit c.args.map.now) c.args.items.items (g.M.KeyedMap.state c.args.map.now) _ c.len-before.result c.len.result c.len-before.ensures.len c.len.ensures.len c.in-Err-Duplicate.duplicate (search rules)

pub overflow_sub-result : goal.overflow_sub-result
overflow_sub-result g c =
    refused_more g.M.KeyedMap.key g.met.M.Key.Eq.laws (g.M.KeyedMap.limit c.args.map.now) c.args.items.items (g.M.KeyedMap.state c.args.map.now) _ c.len-before.result c.len-in-Err-Refused.result c.len-before.ensures.len c.len-in-Err-Refused.ensures.len c.in-Err-Refused.refused (search rules)

pub returns-in-Ok-clause-reply : goal.returns-in-Ok-clause-reply
returns-in-Ok-clause-reply g c =
    let is : IsOk c.extend_unique.result = search rules in
    let told = c.extend_unique.follows.holds tt is in
    (search rules, told.1, search rules)

pub returns-in-Err-Duplicate-clause-reply : goal.returns-in-Err-Duplicate-clause-reply
returns-in-Err-Duplicate-clause-reply g c =
    conflict_answered g.M.KeyedMap.key g.met.M.Key.Eq.laws (g.M.KeyedMap.limit c.args.map.now) c.args.items.items (g.M.KeyedMap.state c.args.map.now) _ c.len-before.result c.len.result c.len-before.ensures.len c.len.ensures.len c.in-Err-Duplicate.duplicate (search rules)
    c.into_parts-new.result.0 c.into_parts-new.ensures.new c.first_clone-existing.result (λ y lent. c.first_clone-existing.ensures.clone y (subst (λ ds. IsOnly ds y) (sym c.into_parts-new.ensures.duplicates) lent))

pub returns-in-Err-Refused-clause-reply : goal.returns-in-Err-Refused-clause-reply
returns-in-Err-Refused-clause-reply g c =
    refused_answered g.M.KeyedMap.key g.met.M.Key.Eq.laws (g.M.KeyedMap.limit c.args.map.now) c.args.items.items (g.M.KeyedMap.state c.args.map.now) _ c.len-before.result c.len-in-Err-Refused.result c.len-before.ensures.len c.len-in-Err-Refused.ensures.len g.V.Visit.visits g.M.KeyedMap.rule c.args.items refl c.in-Err-Refused.refused.item c.in-Err-Refused.refused.error (search rules) (search rules)
