use Rattle.std.specs.Prelude.{Err, IfOk, Ok, OnOk, Option, Result, String, nat_eq, ℕ}
use Rattle.std.specs.Hash.{u64}
use Rattle.std.specs.String.{string_eq}
use Rattle.std.specs.declared.alloc.Global.{Global}
use Rattle.iddqd_bi_hash.specs.BiHashItems.{BiHashItems}
use Rattle.iddqd_bi_hash.specs.BiHashMap.{BiOverwrites}
use Rattle.iddqd_bi_hash.specs.HashItems.{text_writes}
use Rattle.iddqd_bi_hash.specs.declared.both.Both as both
use Rattle.iddqd_bi_hash.proofs.ChangeLemmas.{find_unmet}
use Rattle.iddqd_store.specs.declared.errors.Few.{Few}
use Rattle.iddqd_store.specs.declared.errors.Refused.{Refused}
use Rattle.test_callers.specs.Accounts.{KeepsNumbersUnmet, KeepsTextsUnmet}
use Rattle.test_callers.specs.declared.bi_accounts.Account.{Account}
use Rattle.test_callers.proofs.bi_accounts.put_beside.Goals as goal

abbrev keys : both.Ghosts Account ℕ (String Global)
keys = record { key1 = λ (a : Account). a.number; key2 = λ (a : Account). a.email; eq1 = nat_eq; eq2 = string_eq; input1 = u64; input2 = text_writes }

numbers : {S : Type 0} (x : Account) (old new : BiHashItems S Account) (r : Result (Option (Few Account)) (Refused Account)) → IfOk r (BiOverwrites keys x old new) → OnOk r (KeepsNumbersUnmet x old.items new.items)
numbers x old new (Ok back) put = λ a found apart beside emails. find_unmet (λ (y : Account). y.number) (λ (y : Account). y.email) nat_eq string_eq (λ (y : Account). nat_eq a.number y.number) old.items new.items x a put.put found apart beside emails
numbers x old new (Err e) put = tt

pub returns-clause-numbers : goal.returns-clause-numbers
returns-clause-numbers c = numbers _ _ _ _ c.insert_overwrite.ensures.put

texts : {S : Type 0} (x : Account) (old new : BiHashItems S Account) (r : Result (Option (Few Account)) (Refused Account)) → IfOk r (BiOverwrites keys x old new) → OnOk r (KeepsTextsUnmet x old.items new.items)
texts x old new (Ok back) put = λ a found beside apart emails. find_unmet (λ (y : Account). y.number) (λ (y : Account). y.email) nat_eq string_eq (λ (y : Account). string_eq a.email y.email) old.items new.items x a put.put found apart beside emails
texts x old new (Err e) put = tt

pub returns-clause-texts : goal.returns-clause-texts
returns-clause-texts c = texts _ _ _ _ c.insert_overwrite.ensures.put
