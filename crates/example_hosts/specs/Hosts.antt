use Rattle.std.specs.Prelude.{ℕ, List, Option, string_bytes}
use Rattle.std.specs.Str.{bytes_eq}
use Rattle.iddqd_bi_hash.specs.Contents.{find_item}
use Rattle.example_hosts.specs.declared.Host.{Host}

-- the host of the name, by a text
abbrev pub host_of_name : List ℕ → List Host → Option Host
host_of_name name all = find_item (λ host. host.name) (λ k. bytes_eq name (string_bytes k)) all

-- the host of the address, by a text
abbrev pub host_of_address : List ℕ → List Host → Option Host
host_of_address address all = find_item (λ host. host.address) (λ k. bytes_eq address (string_bytes k)) all
