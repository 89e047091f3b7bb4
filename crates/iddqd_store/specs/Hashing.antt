-- How keys and queries of a hash map hash.
use Rattle.std.specs.Prelude.{◌≡◌, ℕ, Bool, IsTrue, fold}
use Rattle.std.specs.Hash.{HashWrites}
use Rattle.std.specs.declared.hash.BuildHasher as builder
use Rattle.std.specs.declared.hash.Hasher as hasher
use Rattle.iddqd_store.specs.declared.queries.Equivalent as query

-- the query makes the writes of each key that it is equivalent to, so that it hashes as they do under any hasher
abbrev pub HashesAs : {K : Type 0} → (K → Bool) → HashWrites → (K → HashWrites) → Type 0
HashesAs {K} test writes input = (k : K) → IsTrue (test k) → writes ≡ input k

-- the same of a type of queries, where its trait says which keys it is equivalent to
abbrev pub HashesByTrait : {Q K : Type 0} → query.Ghosts Q K → (Q → HashWrites) → (K → HashWrites) → Q → Type 0
HashesByTrait equal query_input key_input q = HashesAs (equal.equivalent q) (query_input q) key_input

-- the hash that a hasher of the builder gives after these writes
abbrev pub hash_under : {S H : Type 0} → builder.Ghosts S H → hasher.Ghosts H → S → HashWrites → ℕ
hash_under build hash s writes = hash.finish (fold hash.write (build.build_hasher s) writes)
