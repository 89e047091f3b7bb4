use Rattle.std.proofs.Common.{refl, arith, add-one}
use Rattle.std.proofs.lemmas.List.{take_rest}
use Rattle.idtable_lines.specs.Lines.{words_of}
use Rattle.idtable_lines.proofs.Cuts.{cut, words-whole}
use Rattle.idtable_lines.proofs.lines.first_word.Goals as goal

pub returns-then-byte-eq32-clause-words : goal.returns-then-byte-eq32-clause-words
returns-then-byte-eq32-clause-words c =
    let parted = cut 32 words_of (λ b text. refl) c.args.text.now c.loop-i.i c.loop-i-test.true c.loop-i.invariant c.if-byte-eq32.true in
    rw take_rest (rw add-one parted)

pub returns-clause-words : goal.returns-clause-words
returns-clause-words c = words-whole c.args.text.now (λ k h. c.loop-i.invariant k (omega (arith, h)))
