-- What `serve` has read and written, of a reader and a writer whose bytes are known.
use Rattle.std.specs.Prelude.{◌≡◌, ◌≢◌, ℕ, List, Option}
use Rattle.std.specs.Global.{Vec}
use Rattle.std.specs.Io.{StartsWith}
use Rattle.std.specs.Io.KnownBytes.{Appends, Consumes, IsAtEnd, Keeps}
use Rattle.iddqd_run.specs.Answer.{AnswersWithRefusals}
use Rattle.idtable_lines.specs.declared.arguments.Kind.{Kind}
use Rattle.iddqd_run.specs.declared.serving.Fault.{Fault}
use Rattle.iddqd_run.specs.declared.serving.Fault.TheVariants.{Write}

-- all bytes that a reader had left were read, and the text has the replies to them
pub record AnswersAll (kind : Kind) (old new : Option (List ℕ)) (refusals : ℕ) (text : List ℕ) : Type 0 where
  pub input : List ℕ
  pub answers : AnswersWithRefusals kind input refusals text
  pub read : Consumes old new input
  pub at_end : IsAtEnd new

-- the bytes of a vector are what was read of what the reader had left
abbrev pub ReadsInto : {R : Type 0} → (R → Option (List ℕ)) → R → R → Vec ℕ → Type 0
ReadsInto left old new input = Consumes (left old) (left new) input.items

-- the first bytes of what the reader had left were read, and the rest is left
abbrev pub ReadsBeginning : {R : Type 0} → (R → Option (List ℕ)) → R → R → Type 0
ReadsBeginning left old new = (input : List ℕ) × Consumes (left old) (left new) input

-- a beginning of the text was written, and nothing else
abbrev pub AppendsBeginning : {W : Type 0} → (W → Option (List ℕ)) → W → W → List ℕ → Type 0
AppendsBeginning contents old new text = (written : List ℕ) × StartsWith text written × Appends (contents old) (contents new) written

-- what a reader has left and what a writer has, before and after
module _ {R W : Type 0} (left : R → Option (List ℕ)) (written : W → Option (List ℕ)) (kind : Kind) (reader reader' : R) (writer writer' : W) where
  -- all input was read, the replies to it were written, and this many lines were refused memory
  abbrev pub ServesAll : ℕ → Type 0
  ServesAll refusals = (text : List ℕ) × AnswersAll kind (left reader) (left reader') refusals text × Appends (written writer) (written writer') text

  -- if the writer failed: all input was read, and a beginning of the replies was written
  abbrev pub ServesBeginning : Fault → Type 0
  ServesBeginning fault = fault ≡ Write → (refusals : ℕ) × (text : List ℕ) × AnswersAll kind (left reader) (left reader') refusals text × AppendsBeginning written writer writer' text

-- if something other than the writer failed, nothing was written
abbrev pub WritesNothing : {W : Type 0} → (W → Option (List ℕ)) → W → W → Fault → Type 0
WritesNothing contents old new fault = fault ≢ Write → Keeps (contents old) (contents new)
