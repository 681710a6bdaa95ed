use Rattle.std.proofs.Common.{ℕ, ◌<◌, get_or}
use Rattle.order_ints.specs.declared.order_int.OrdInt.{OrdInt}
use Rattle.core_forms.specs.Letters.{IsLetter}
use Rattle.core_forms.proofs.word.names_of.Given as goal

-- each integer so far is a letter
abbrev pub invariant-loop-a : goal.invariant-loop-a
invariant-loop-a l = (k : ℕ) (d : OrdInt) → k < l.a-index → IsLetter l.names l.base l.weight (get_or l.ints k d)
