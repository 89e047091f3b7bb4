use Rattle.iddqd_ord_index.proofs.DigitLemmas as digit
use Rattle.iddqd_ord_index.proofs.laws.digits_are_least.Goals as goal

pub returns : goal.returns
returns c = digit.digits_are_least
