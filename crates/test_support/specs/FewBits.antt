-- Where `FewBits` puts the bits of a number.
use Rattle.std.specs.Prelude.{ℕ, ◌*◌, ◌%◌, ◌^◌, ◌/◌}
use Rattle.test_support.specs.declared.hashers.Varying.{Varying}
use Rattle.test_support.specs.declared.hashers.Varying.TheVariants.{High, Low, Multiples}

abbrev pub placed : Varying → ℕ → ℕ
placed High bits = (bits * 2 ^ 32) % 2 ^ 64
placed Low bits = bits / 256
placed Multiples bits = (bits / 256 * 64) % 2 ^ 64
