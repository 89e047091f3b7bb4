use Rattle.std.proofs.Common.{◌≡◌, ◌+◌, ◌*◌, ◌%◌, ◌^◌, take, fold}
use Rattle.test_support.proofs.hashers.FewBitsHasher.write.Given as goal

abbrev pub invariant-loop-byte : goal.invariant-loop-byte
invariant-loop-byte l = l.self ≡ record l.initial.self { bits = fold (λ h b. (h * 256 % 2 ^ 64 + b) % 2 ^ 64) l.initial.self.bits (take l.byte-index l.bytes) }
