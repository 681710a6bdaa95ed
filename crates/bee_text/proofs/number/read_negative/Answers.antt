use Rattle.std.proofs.Common.{suc, ap, arith, Some}
use Rattle.std.proofs.lemmas.Int.{ints}
use Rattle.bee_text.proofs.NumberLemmas.{negative_read, none_some, some_same}
use Rattle.bee_text.proofs.number.read_negative.Goals as goal

pub returns-in_err-n-clause-complete : goal.returns-in_err-n-clause-complete
returns-in_err-n-clause-complete c = λ z fits within is.
    let d = negative_read c.args.most c.min.result c.args.digits.now c.read_number.result c.min.ensures c.read_number.ensures.complete z fits within is in
    absurd (none_some c.read_number.result (suc d.0) c.in_err-n.was d.3)

pub returns-in_err-before-clause-complete : goal.returns-in_err-before-clause-complete
returns-in_err-before-clause-complete c = λ z fits within is.
    let d = negative_read c.args.most c.min.result c.args.digits.now c.read_number.result c.min.ensures c.read_number.ensures.complete z fits within is in
    absurd (omega (arith, some_same c.read_number.result c.in_ok-n.n (suc d.0) c.in_ok-n.was d.3))

pub returns-clause-complete : goal.returns-clause-complete
returns-clause-complete c = λ z fits within is.
    let d = negative_read c.args.most c.min.result c.args.digits.now c.read_number.result c.min.ensures c.read_number.ensures.complete z fits within is in
    ap Some (omega (arith, ints, some_same c.read_number.result c.in_ok-n.n (suc d.0) c.in_ok-n.was d.3, d.1, d.2))
