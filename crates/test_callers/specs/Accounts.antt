-- What a lookup of accounts by a number, by an address or by a text finds, and what a change leaves of that.
use Rattle.std.specs.Prelude.{◌≡◌, ◌≢◌, ℕ, ◌==◌, [], IfSome, List, None, Option, Some, String, false, nat_eq, string_bytes}
use Rattle.std.specs.Str.{bytes_eq}
use Rattle.std.specs.String.{string_eq}
use Rattle.std.specs.declared.alloc.Global.{Global}
use Rattle.iddqd_bi_hash.specs.Contents.{AddsItem, find_item}
use Rattle.iddqd_bi_hash.specs.TwoKeys.{find_by_both, items_found}
use Rattle.test_callers.specs.declared.bi_accounts.Account.{Account}

abbrev pub of_number : ℕ → List Account → Option Account
of_number number all = find_item (λ a. a.number) (nat_eq number) all

abbrev pub of_text : List ℕ → List Account → Option Account
of_text text all = find_item (λ a. a.email) (λ k. bytes_eq text (string_bytes k)) all

abbrev pub of_email : String Global → List Account → Option Account
of_email email all = find_item (λ a. a.email) (string_eq email) all

abbrev pub of_both : ℕ → List ℕ → List Account → Option Account
of_both number text all = find_by_both (λ a. a.number) (λ a. a.email) (λ k. number == k) (λ k. bytes_eq text (string_bytes k)) all

-- the accounts that have the number or the address
abbrev pub items_of : ℕ → String Global → List Account → List Account
items_of number email all = items_found (λ a. a.number) (λ a. a.email) (nat_eq number) (string_eq email) all

-- x is inserted, if no account has its number or its address
abbrev pub AddsIfNone : Account → (old new : List Account) → Type 0
AddsIfNone x old new = items_of x.number x.email old ≡ [] → AddsItem x old new

abbrev pub with_email : String Global → Account → Account
with_email email a = record a { email = email }

abbrev pub with_quota : ℕ → Account → Account
with_quota quota a = record a { quota = quota }

-- any other number, or any other text, finds what it found
abbrev pub KeepsNumbers : ℕ → (old new : List Account) → Type 0
KeepsNumbers number old new = (other : ℕ) → other ≢ number → of_number other new ≡ of_number other old

abbrev pub KeepsTexts : List ℕ → (old new : List Account) → Type 0
KeepsTexts text old new = (other : List ℕ) → other ≢ text → of_text other new ≡ of_text other old

-- the same of the account's number, or of its address, if there is an account
abbrev pub KeepsNumbersBeside : Option Account → (old new : List Account) → Type 0
KeepsNumbersBeside was old new = IfSome was (λ a. KeepsNumbers a.number old new)

abbrev pub KeepsTextsBeside : Option Account → (old new : List Account) → Type 0
KeepsTextsBeside was old new = IfSome was (λ a. KeepsTexts (string_bytes a.email) old new)

-- an account that shares neither key with x is found as before, by its number or by its address
abbrev pub KeepsNumbersUnmet : Account → (old new : List Account) → Type 0
KeepsNumbersUnmet x old new = (a : Account) → of_number a.number old ≡ Some a → nat_eq a.number x.number ≡ false → nat_eq x.number a.number ≡ false → string_eq x.email a.email ≡ false → of_number a.number new ≡ Some a

abbrev pub KeepsTextsUnmet : Account → (old new : List Account) → Type 0
KeepsTextsUnmet x old new = (a : Account) → of_email a.email old ≡ Some a → nat_eq x.number a.number ≡ false → string_eq a.email x.email ≡ false → string_eq x.email a.email ≡ false → of_email a.email new ≡ Some a

-- the account, if there is one, is found no more by its number, or by its address
abbrev pub LosesNumber : Option Account → List Account → Type 0
LosesNumber was new = IfSome was (λ a. of_number a.number new ≡ None)

abbrev pub LosesEmail : Option Account → List Account → Type 0
LosesEmail was new = IfSome was (λ a. of_email a.email new ≡ None)

-- the same, unless x has the number, or the address
abbrev pub LosesNumberTo : Account → Option Account → List Account → Type 0
LosesNumberTo x was new = IfSome was (λ a. nat_eq a.number x.number ≡ false → of_number a.number new ≡ None)

abbrev pub LosesEmailTo : String Global → Option Account → List Account → Type 0
LosesEmailTo email was new = IfSome was (λ a. string_eq a.email email ≡ false → of_email a.email new ≡ None)

-- the account, if there is one, is found by its number, or by its address, as it is after the change
abbrev pub HasNumber : (Account → Account) → Option Account → List Account → Type 0
HasNumber change was new = IfSome was (λ a. of_number a.number new ≡ Some (change a))

abbrev pub HasEmail : (Account → Account) → Option Account → List Account → Type 0
HasEmail change was new = IfSome was (λ a. of_email (change a).email new ≡ Some (change a))
