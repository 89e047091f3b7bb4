use Rattle.std.proofs.Common.{◌≡◌, refl, suc, ◌∷◌, take, drop, arith, add-one}
use Rattle.std.proofs.lemmas.List.{take_rest}
use Rattle.idtable_lines.specs.Lines.{lines_of}
use Rattle.idtable_lines.proofs.Cuts.{cut, whole}
use Rattle.idtable_lines.proofs.lines.first_line.Goals as goal

pub returns-then-byte-eq10-clause-lines : goal.returns-then-byte-eq10-clause-lines
returns-then-byte-eq10-clause-lines c =
    let parted : lines_of c.args.text.now ≡ take c.loop-i.i c.args.text.now ∷ lines_of (drop (suc c.loop-i.i) c.args.text.now) = cut 10 lines_of (λ b text. refl) c.args.text.now c.loop-i.i c.loop-i-test.true c.loop-i.invariant c.if-byte-eq10.true in
    rw take_rest (rw add-one parted)

pub returns-clause-lines : goal.returns-clause-lines
returns-clause-lines c = whole 10 lines_of (λ b text. refl) (λ b. refl) c.args.text.now c.requires (λ k h. c.loop-i.invariant k (omega (arith, h)))
