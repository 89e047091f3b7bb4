use Rattle.std.proofs.Common.{◌∙◌, ◌++◌, ◌∷◌, [], length-append, arith, subst, sym, rules}
use Rattle.std.specs.List.{AllZip}
use Rattle.std.proofs.lemmas.List.{map-id}
use Rattle.std.proofs.lemmas.Iterator.Adapters.{YieldsList-from_vec}
use Rattle.std.proofs.lemmas.Iterator.Consumers.{YieldsList-end}
use Rattle.std.proofs.lemmas.Slice.Zip.{all_zipped_more}
use Rattle.idtable_commands.specs.Step.{Does, Run, ShowsClone, ShowsClones, Step}
use Rattle.idtable_commands.proofs.StepLemmas.{run_more}
use Rattle.idtable_commands.proofs.running.run.Goals as goal

pub loop-command-init : goal.loop-command-init
loop-command-init g c = record {
  ran = search rules;
  shown = record { shown = λ sure. search rules };
  keyed = search rules;
  limit = search rules;
  counted = search rules;
  room = search rules;
}

pub loop-command-preserved : goal.loop-command-preserved
loop-command-preserved g c =
    let key = g.M.KeyedMap.key in
    let eq = g.M.Key.PartialEq.eq in
    let visits = g.V.Visit.visits in
    let rule = g.M.KeyedMap.rule in
    let limit = g.M.KeyedMap.limit c.args.map.now in
    let first = g.M.KeyedMap.state c.args.map.now in
    let middle = g.M.KeyedMap.state c.loop-command.map in
    let last = g.M.KeyedMap.state c.answer.new.map in
    let kept = c.loop-command.invariant in
    let does = subst (λ n. Does key eq visits n rule middle c.in-Some.command c.answer.result last) kept.limit c.answer.ensures.does in
    let step : Step key eq visits limit rule middle c.in-Some.command c.answer.result last = record { does = does; lie = g.met.M.KeyedMap.lie c.answer.new.map c.answer.ensures.keyed } in
    let ran = run_more key eq visits rule limit c.loop-command.yielded c.loop-command.replies.items c.in-Some.command c.answer.result first middle last kept.ran step in
    record {
      ran = subst (λ replies. Run key eq visits limit rule first (c.loop-command.yielded ++ c.in-Some.command ∷ []) replies last) (sym c.push_reserved.ensures.items) ran;
      shown = record {
        shown = λ sure. subst (λ replies. AllZip ShowsClone (c.loop-command.yielded ++ c.in-Some.command ∷ []) replies) (sym c.push_reserved.ensures.items)
            (all_zipped_more ShowsClone c.loop-command.yielded c.loop-command.replies.items c.in-Some.command c.answer.result (kept.shown.shown sure) (c.answer.ensures.shown sure));
      };
      keyed = c.answer.ensures.keyed;
      limit = c.answer.ensures.limit ∙ kept.limit;
      counted = omega (arith, length-append c.loop-command.yielded (c.in-Some.command ∷ []));
      room = omega arith;
    }

pub returns-clause-shown : goal.returns-clause-shown
returns-clause-shown g c =
    let begun = YieldsList-from_vec {s = c.into_iter-command-iterator.result} c.args.commands.items (search rules) (search rules) in
    let all = YieldsList-end begun c.loop-command.yielded c.loop-command.command-iterator c.loop-command.yielded_by c.next.result c.next.new.self c.in-None.is c.next.ensures.steps in
    subst (λ commands. ShowsClones g.M.Item.Clone.is_infallible commands c.loop-command.replies.items) (sym (map-id c.loop-command.yielded) ∙ all.0) c.loop-command.invariant.shown

pub returns-in_default-clause-handed_back : goal.returns-in_default-clause-handed_back
returns-in_default-clause-handed_back g c = search rules
