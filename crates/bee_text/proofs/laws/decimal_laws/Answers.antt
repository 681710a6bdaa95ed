use Rattle.std.proofs.Common.{arith}
use Rattle.bee_text.proofs.NumberLemmas.{decimal_injective_wide, signed_decimal_injective_wide, decimal_digits, decimal_leads_by_zero, decimal_word, signed_decimal_word}
use Rattle.bee_text.proofs.laws.decimal_laws.Goals as goal

pub returns-clause-injective : goal.returns-clause-injective
returns-clause-injective c = λ m n p q. decimal_injective_wide m n (omega arith) (omega arith)

pub returns-clause-signed_injective : goal.returns-clause-signed_injective
returns-clause-signed_injective c = λ y z p q. signed_decimal_injective_wide y z (omega (arith, p.sfits)) (omega (arith, q.sfits))

pub returns-clause-digits : goal.returns-clause-digits
returns-clause-digits c = λ n p. decimal_digits n (omega arith)

pub returns-clause-zero : goal.returns-clause-zero
returns-clause-zero c = λ n p. decimal_leads_by_zero n (omega arith)

pub returns-clause-word : goal.returns-clause-word
returns-clause-word c = λ n p. decimal_word n (omega arith)

pub returns-clause-signed_word : goal.returns-clause-signed_word
returns-clause-signed_word c = λ z p. signed_decimal_word z (omega (arith, p.sfits))
