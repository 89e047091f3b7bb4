use Rattle.std.proofs.Common.{◌≡◌, ◌<◌, ◌≤◌, ◌∙◌, OnErr, length, max, sym, ap, arith, subst}
use Rattle.std.proofs.Common.{min as least}
use Rattle.iddqd_store.specs.Store.{item_at, store_len, vacant}
use Rattle.iddqd_ord.proofs.CompactLemmas.{paired_same}
use Rattle.iddqd_ord.proofs.StoreAndIndexLemmas.{have_slots, items_counted}
use Rattle.iddqd_ord.proofs.id_ord_map.IdOrdMap.shrink_to.Given.{Over}
use Rattle.iddqd_ord.proofs.id_ord_map.IdOrdMap.shrink_to.Goals as goal

counted : (g : Over) (c : goal.After-shrink_to g) → store_len c.compact.new.store ≡ length c.args.self.now.items
counted g c = sym (items_counted c.compact.new.store c.compact.new.index.slots c.compact.ensures.paired) ∙ ap length c.compact.ensures.items ∙ ap (λ v. length v.items) c.self.view_is

room : (g : Over) (c : goal.After-shrink_to g) → c.compact.new.store.capacity ≡ c.args.self.now.capacity
room g c = c.compact.ensures.bounds.0 ∙ ap (λ v. v.capacity) c.self.view_is

pub returns-clause-shrinks : goal.returns-clause-shrinks
returns-clause-shrinks g c =
    let old = c.compact.new.store in
    let new = c.shrink_to.new.self in
    let slots = c.compact.new.index.slots in
    let rest = c.shrink_to.ensures.rest in
    record {
      vacant = ap vacant rest ∙ c.compact.ensures.vacant;
      lower = omega (arith, c.shrink_to.ensures.lowers, room g c);
      holds_items = omega (arith, c.shrink_to.ensures.keeps_items, counted g c);
      holds_min = subst (λ n. least c.args.min n ≤ new.capacity) (room g c) c.shrink_to.ensures.keeps_room;
      slots = have_slots new slots (paired_same old new slots c.compact.ensures.paired (ap store_len rest) (λ slot. ap (λ s. item_at s slot) rest));
      limit = ap (λ s. s.limit) rest ∙ c.compact.ensures.bounds.1 ∙ ap (λ v. v.limit) c.self.view_is;
    }

pub returns-clause-needed : goal.returns-clause-needed
returns-clause-needed g c =
    subst (λ n. OnErr c.shrink_to.result (max c.args.min (length c.args.self.now.items) < n)) (room g c)
    (subst (λ n. OnErr c.shrink_to.result (max c.args.min n < c.compact.new.store.capacity)) (counted g c) c.shrink_to.ensures.needed)
