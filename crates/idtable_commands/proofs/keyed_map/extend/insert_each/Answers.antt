use Rattle.std.proofs.Common.{◌≡◌, [], ◌∷◌, ◌++◌, refl, sym, ap, subst, ◌∙◌, append_assoc, rules, arith}
use Rattle.std.proofs.lemmas.Grind.{common_steps}
use Rattle.std.proofs.lemmas.Result.{err_from_is_err_and}
use Rattle.iddqd.specs.Contents.{OverwritesItem}
use Rattle.std.specs.Prelude.{None}
use Rattle.idtable_commands.specs.KeyedMap.{RefusesOne}
use Rattle.idtable_commands.proofs.ExtendLemmas.{refuses_among, stays_on, takes_last, takes_none}
use Rattle.idtable_commands.proofs.StepLemmas.{room_kept}
use Rattle.idtable_commands.proofs.keyed_map.extend.insert_each.Goals as goal

pub loop-item-init : goal.loop-item-init
loop-item-init g c =
    let items = (g.M.KeyedMap.state c.args.map.now).items in
    record {
      left = sym c.into_iter-item-iterator.ensures.into_iter_gives.0;
      taken = takes_none g.M.KeyedMap.key g.met.M.Key.Eq.laws (g.M.KeyedMap.limit c.args.map.now) items items refl (g.met.M.KeyedMap.differ c.args.map.now c.requires.keyed);
      stays = record { keyed = c.requires.keyed; limit = refl; room = room_kept g.M.KeyedMap.rule (g.M.KeyedMap.limit c.args.map.now) (g.M.KeyedMap.state c.args.map.now) c.requires.room };
    }

pub loop-item-preserved : goal.loop-item-preserved
loop-item-preserved g c =
    let key = g.M.KeyedMap.key in
    let eq = g.M.Key.PartialEq.eq in
    let old = c.args.map.now in
    let middle = c.loop-item.map in
    let new = c.insert_one.new.map in
    let kept = c.loop-item.invariant in
    let put = c.in_ok-insert_one.ensures.inserted in
    let inserted = subst (λ n. OverwritesItem key eq c.in-Some.item n (g.M.KeyedMap.state middle).items None (g.M.KeyedMap.state new).items) kept.stays.limit put.inserted in
    let steps : c.loop-item.item-iterator.rest.items ≡ c.in-Some.item ∷ c.next.new.self.rest.items = c.in-Some.ensures.steps.0 in
    record {
      left = kept.left ∙ ap (λ zs. c.loop-item.yielded ++ zs) steps ∙ sym (append_assoc c.loop-item.yielded (c.in-Some.item ∷ []) c.next.new.self.rest.items);
      taken = takes_last key g.met.M.Key.Eq.laws (g.M.KeyedMap.limit old) c.loop-item.yielded (g.M.KeyedMap.state old).items (g.M.KeyedMap.state middle).items (g.M.KeyedMap.state new).items c.in-Some.item kept.taken inserted;
      stays = stays_on g.M.KeyedMap.state g.M.KeyedMap.limit g.M.KeyedMap.rule g.M.KeyedMap.keyed old middle new kept.stays put.stays;
    }

pub returns-in_err-insert_one-clause-refused : goal.returns-in_err-insert_one-clause-refused
returns-in_err-insert_one-clause-refused g c =
    let old = c.args.map.now in
    let middle = c.loop-item.map in
    let kept = c.loop-item.invariant in
    let back = err_from_is_err_and c.from_residual.result c.from_residual.ensures.1 in
    let steps : c.loop-item.item-iterator.rest.items ≡ c.in-Some.item ∷ c.next.new.self.rest.items = c.in-Some.ensures.steps.0 in
    let is : c.args.items.items ≡ c.loop-item.yielded ++ c.in-Some.item ∷ c.next.new.self.rest.items = kept.left ∙ ap (λ zs. c.loop-item.yielded ++ zs) steps in
    let told = c.in_err-insert_one.ensures in
    let refused = subst (λ n. RefusesOne g.M.KeyedMap.key g.M.Key.PartialEq.eq n (g.M.KeyedMap.state middle) c.in-Some.item c.in_err-insert_one.field-0.0) kept.stays.limit told.refused in
    rw back.1 (refuses_among g.M.KeyedMap.key g.met.M.Key.Eq.laws (g.M.KeyedMap.limit old) g.M.KeyedMap.rule c.loop-item.yielded c.next.new.self.rest.items c.args.items.items c.in-Some.item is (g.M.KeyedMap.state old) (g.M.KeyedMap.state middle) (g.M.KeyedMap.state c.insert_one.new.map).items told.kept.items kept.taken kept.stays.room _ (rw back.2 refused))

pub returns-in_err-insert_one-clause-taken : goal.returns-in_err-insert_one-clause-taken
returns-in_err-insert_one-clause-taken g c = search rules

pub returns-in_err-insert_one-clause-stays : goal.returns-in_err-insert_one-clause-stays
returns-in_err-insert_one-clause-stays g c = search rules

pub returns-clause-taken : goal.returns-clause-taken
returns-clause-taken g c = grind (arith, common_steps)
