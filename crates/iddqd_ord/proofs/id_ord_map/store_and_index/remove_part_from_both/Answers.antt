use Rattle.std.proofs.Common.{◌≡◌, ◌+◌, ◌-◌, ◌++◌, ◌∷◌, ◌∙◌, length, take, drop, get_or, refl, sym, ap, subst, arith, length-append, length-drop}
use Rattle.std.proofs.lemmas.List.{drop_more, length-take-le, take-append-drop}
use Rattle.std.proofs.Math.Seq.{get_or-append_seam}
use Rattle.std.specs.List.{remove, slice_get}
use Rattle.iddqd_ord_index.specs.Listed.{listed_items}
use Rattle.iddqd_ord_index.proofs.ListedLemmas.{length-listed}
use Rattle.iddqd_store.specs.Store.{IsOccupied}
use Rattle.iddqd_ord.specs.StoreAndIndex.{ListsOccupied}
use Rattle.iddqd_ord.proofs.TakenOutLemmas.{all_listed, get_first, remove_first, still_listed, taken_out}
use Rattle.iddqd_ord.proofs.id_ord_map.store_and_index.remove_part_from_both.Goals as goal

pub drop-init : goal.drop-init
drop-init g c =
    let slots = c.args.index.now.slots in
    let from = c.args.from in
    let to = c.args.to in
    let store = c.args.store.now in
    let walk = c.walk_between-walk in
    let items = listed_items store slots in
    let all : still_listed from to slots walk.result ≡ slots = ap (λ l. still_listed from to slots l) walk.ensures.slots ∙ all_listed from to slots c.requires.forward in
    let long = length-take-le to slots c.requires.in_list in
    let many : to - length walk.result ≡ from = omega (arith, ap length walk.ensures.slots, length-drop from (take to slots), c.requires.forward) in
    record {
      paired = subst (ListsOccupied store) (sym all) c.requires.paired;
      items = ap (listed_items store) all ∙ sym (ap (λ k. take from items ++ drop k items) many ∙ take-append-drop from items);
      within = omega (arith, ap length walk.ensures.slots, length-drop from (take to slots), c.requires.forward);
      vacant = refl;
      bounds = (refl, refl);
    }

pub remove-requires : goal.remove-requires
remove-requires g c =
    let slots = c.args.index.now.slots in
    let front = take c.args.from slots in
    let back = c.next.new.self ++ drop c.args.to slots in
    let listed = ap (λ l. still_listed c.args.from c.args.to slots l) c.in-Some.ensures.steps in
    let at = length-take-le c.args.from slots (omega (arith, c.requires.forward, c.requires.in_list)) in
    subst (IsOccupied c.drop.store) (ap (λ l. get_or l (length front) 0) listed ∙ get_or-append_seam front c.in-Some.slot back 0)
    (c.drop.invariant.paired.occupied (length front) 0 (omega (arith, ap length listed, length-append front (c.in-Some.slot ∷ back))))

pub drop-preserved : goal.drop-preserved
drop-preserved g c =
    let slots = c.args.index.now.slots in
    let from = c.args.from in
    let to = c.args.to in
    let inv = c.drop.invariant in
    let slot = c.in-Some.slot in
    let walk = c.drop.walk in
    let rest = c.next.new.self in
    let items = listed_items c.args.store.now slots in
    let front = take from slots in
    let back = rest ++ drop to slots in
    let long = length-take-le from slots (omega (arith, c.requires.forward, c.requires.in_list)) in
    let listed = ap (λ l. still_listed from to slots l) c.in-Some.ensures.steps in
    let there = ap (λ l. slice_get l from) listed ∙ get_first front slot back from long in
    let gone = sym (ap (λ l. remove l from) listed ∙ remove_first front slot back from long) in
    let out = taken_out c.drop.store c.remove.new.self (still_listed from to slots walk) (still_listed from to slots rest) from slot c.remove.result inv.paired there gone c.remove.ensures.item c.remove.ensures.updates c.remove.ensures.len in
    let many = ap length c.in-Some.ensures.steps in
    let all = length-listed c.args.store.now slots c.requires.paired.occupied in
    let place = to - length walk in
    let next : place + 1 ≡ to - length rest = omega (arith, many, inv.within) in
    let first = drop_more items place c.remove.result (omega (arith, many, all, inv.within, c.requires.in_list)) in
    let left = ap (λ l. remove (take from items ++ l) from) first ∙ (remove_first (take from items) (get_or items place c.remove.result) (drop (place + 1) items) from (length-take-le from items (omega (arith, all, c.requires.forward, c.requires.in_list))) ∙ ap (λ k. take from items ++ drop k items) next) in
    record {
      paired = out.paired;
      items = out.items ∙ (ap (λ l. remove l from) inv.items ∙ left);
      within = omega (arith, many, inv.within);
      vacant = omega (arith, c.remove.ensures.vacant, c.remove.ensures.len, inv.vacant);
      bounds = (ap (λ s. s.capacity) c.remove.ensures.store ∙ inv.bounds.0, ap (λ s. s.limit) c.remove.ensures.store ∙ inv.bounds.1);
    }
