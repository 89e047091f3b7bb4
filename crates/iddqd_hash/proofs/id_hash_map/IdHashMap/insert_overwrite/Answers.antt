use Rattle.std.proofs.Common.{◌∙◌, ◌≡◌, None, Some, cond, refl, sym, ap, subst, arith}
use Rattle.std.proofs.lemmas.Result.{err_from_is_err_and}
use Rattle.iddqd_store.proofs.ChangeLemmas.{find_inserted, find_replaced, put_beside, put_over}
use Rattle.iddqd_store.proofs.OrderLemmas.{found_answers}
use Rattle.iddqd_store.proofs.WrittenLemmas.{length-written, written_found}
use Rattle.iddqd_store.specs.Contents.{AddsItem, find_item, items_without}
use Rattle.iddqd_store.specs.Hashing.{hash_under}
use Rattle.iddqd_hash_parts.specs.HashItems.{IsKeyed}
use Rattle.iddqd_hash.specs.Guard.{with_item_in_slot}
use Rattle.iddqd_hash.specs.HashMap.{map_overwritten}
use Rattle.iddqd_hash_parts.proofs.GetMutLemmas.{keyed_akin_written}
use Rattle.iddqd_hash.proofs.id_hash_map.IdHashMap.insert_overwrite.Goals as goal

pub returns-in-Some-clause-stays : goal.returns-in-Some-clause-stays
unfolding IsKeyed
returns-in-Some-clause-stays g c =
    let key = g.T.IdHashItem.key in
    let eq = g.T.Key.PartialEq.eq in
    let laws = g.met.T.Key.Eq.laws in
    let now = c.args.self.now in
    let slot = c.in-Some.slot in
    let y = c.args.item in
    let x = c.item_in_slot_mut.result.now in
    let there = c.item_in_slot_mut.ensures.value in
    let akin = found_answers (λ z. eq (key y) (key z)) now.items (Some x) (sym there ∙ c.in-Some.ensures.slot.item) in
    let keyed = keyed_akin_written key g.T.Key.Hash.hash_input (hash_under g.S.BuildHasher g.S.Hasher.Hasher) now c.requires.keyed slot x y there laws g.met.T.Key.Hash.respects_eq (laws.symm (key x) (key y) ∙ akin) in
    let many = length-written now.slots now.items slot y in
    rw c.replace.ensures.after (record {
      keyed = keyed;
      spare = record { never_less = omega (arith, many); spare_fits = omega (arith, many, c.in-Some.ensures.spare_fits) };
      hasher = refl;
    })

pub returns-in-Some-clause-put : goal.returns-in-Some-clause-put
unfolding IsKeyed
returns-in-Some-clause-put g c =
    let key = g.T.IdHashItem.key in
    let eq = g.T.Key.PartialEq.eq in
    let laws = g.met.T.Key.Eq.laws in
    let now = c.args.self.now in
    let slot = c.in-Some.slot in
    let y = c.args.item in
    let x = c.item_in_slot_mut.result.now in
    let slot_found = c.in-Some.ensures.slot in
    let found : find_item key (eq (key y)) now.items ≡ Some x = sym slot_found.item ∙ c.item_in_slot_mut.ensures.value in
    let put = written_found key laws (eq (key y)) (laws.congr (key y)) now.slots now.items c.requires.keyed.differ slot y slot_found.there (sym slot_found.item) in
    let new : with_item_in_slot now slot c.replace.new.dest ≡ map_overwritten key eq y now = ap (with_item_in_slot now slot) c.replace.ensures.after ∙ ap (λ xs. record now { items = xs }) put in
    record {
      found = ap Some c.replace.ensures.value ∙ sym found;
      replaced = new;
      inserted = tt;
      there = find_replaced (λ z. eq (key y) (key z)) (λ z. cond (eq (key y) (key z)) y z) now.items _ y x (ap (λ m. m.items) new) refl found (laws.refl (key y));
      others = subst (λ m. AddsItem y (items_without key (eq (key y)) now.items) m.items) (sym new) (put_over key laws (eq (key y)) (laws.congr (key y)) now.items c.requires.keyed.differ x y found);
    }

pub returns-in_err-insert_hashed-in-None : goal.returns-in_err-insert_hashed-in-None
returns-in_err-insert_hashed-in-None g c =
    let back = err_from_is_err_and c.from_residual.result c.from_residual.ensures.1 in
    let told = c.in_err-insert_hashed-in-None.ensures in
    rw back.1 (record {
      put = tt;
      refused = rw back.2 told.refused;
      kept = told.kept;
      stays = told.kept.stays;
    })

pub returns-in_ok-insert_hashed-in-None : goal.returns-in_ok-insert_hashed-in-None
returns-in_ok-insert_hashed-in-None g c =
    let key = g.T.IdHashItem.key in
    let eq = g.T.Key.PartialEq.eq in
    let absent : find_item key (eq (key c.args.item)) c.args.self.now.items ≡ None = sym c.in-None.ensures.slot.item in
    let put = c.in_ok-insert_hashed-in-None.ensures.inserted in
    record {
      put = record {
        found = sym absent;
        replaced = tt;
        inserted = put.inserts;
        there = find_inserted (λ z. eq (key c.args.item) (key z)) _ _ c.args.item put.inserts.added absent (g.met.T.Key.Eq.laws.refl (key c.args.item));
        others = put_beside (λ z. eq (key c.args.item) (key z)) _ _ c.args.item put.inserts.added absent;
      };
      refused = tt;
      kept = tt;
      stays = put.stays;
    }
