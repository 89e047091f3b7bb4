-- A reader and a writer in memory that fail at one call, as contracts see them.
use Rattle.std.specs.Prelude.{◌≡◌, ℕ, List, IfErr, IsErrAnd, IsOkAnd, Result, length, min}
use Rattle.std.specs.IoError.{error_kind}
use Rattle.std.specs.declared.io.Error.{Error}
use Rattle.std.specs.declared.io.ErrorKind.{ErrorKind}

-- the bytes that are left to read, and the number of the read that fails, the next one being 1 (0: none fails)
pub record Reading : Type 0 where
  pub rest : List ℕ
  pub after : ℕ

-- the bytes that were taken, and the number of the write that fails, the next one being 1 (0: none fails)
pub record Writing : Type 0 where
  pub taken : List ℕ
  pub after : ℕ

-- the call gives what is left as far as there is room for it: this is how many bytes
abbrev pub GivesWhatFits : (rest room : List ℕ) → Result ℕ Error → Type 0
GivesWhatFits rest room result = IsOkAnd result (λ count. count ≡ min (length rest) (length room))

-- the call fails, by an error of this kind
abbrev pub FailsBy : ErrorKind → Result ℕ Error → Type 0
FailsBy kind result = IsErrAnd result (λ error. error_kind error ≡ kind)

-- if the call fails, it is by an error of this kind
abbrev pub FailsOnlyBy : ErrorKind → Result ℕ Error → Type 0
FailsOnlyBy kind result = IfErr result (λ error. error_kind error ≡ kind)
