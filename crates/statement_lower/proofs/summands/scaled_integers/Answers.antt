use Rattle.std.proofs.Common.{◌≡◌, ℤ, pos, [], ◌∷◌, ◌++◌, get_or, to_z, of_z, w64, FitsSigned, ap, ◌∙◌, arith, rules}
use Rattle.std.proofs.lemmas.Int.{to_z-of_z}
use Rattle.order_ints.specs.declared.order_int.OrdInt.{OrdInt}
use Rattle.order_ints.specs.OrderChange.{scaled_of}
use Rattle.model_meaning.specs.declared.what.IntTerm.TheVariants as int_term
use Rattle.statement_lower.specs.Terms.{integer_of}
use Rattle.statement_lower.proofs.SummandSteps.{integers-moved, integers-finished}
use Rattle.statement_lower.proofs.summands.scaled_integers.Goals as goal

scaled_is : (x : ℤ) (a r : OrdInt) → FitsSigned w64 x → r ≡ scaled_of a (to_z w64 (of_z w64 x)) → r ≡ scaled_of a x
scaled_is x a r f h = rw (to_z-of_z w64 x f) at h

pub loop-i-preserved : goal.loop-i-preserved
loop-i-preserved c =
    let coefficient = get_or c.args.coefficients.now c.loop-i.i (pos 0) in
    let term = get_or c.args.members.now c.loop-i.i (int_term.Number (pos 0)) in
    let f : FitsSigned w64 coefficient = search rules in
    let same = scaled_is coefficient (integer_of c.args.entries.now term) c.in_ok-int.int f c.in_ok-int.ensures in
    integers-moved c.args.entries.now c.args.coefficients.now c.args.members.now c.loop-i.i (pos 0) (int_term.Number (pos 0)) c.loop-i.ints.items _ c.push.new.self.items
    (omega arith) (omega arith) (c.in_ok-push.ensures.items ∙ ap (λ a. c.loop-i.ints.items ++ a ∷ []) same) c.loop-i.invariant

pub returns : goal.returns
returns c =
    integers-finished c.args.entries.now c.args.coefficients.now c.args.members.now c.loop-i.i c.loop-i.ints.items _ (omega arith) c.loop-i.invariant
