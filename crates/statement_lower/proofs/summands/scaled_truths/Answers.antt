use Rattle.std.proofs.Common.{◌≡◌, ℤ, pos, false, [], ◌∷◌, ◌++◌, get_or, to_z, of_z, w64, FitsSigned, ap, ◌∙◌, arith, rules}
use Rattle.std.proofs.lemmas.Int.{to_z-of_z}
use Rattle.order_ints.specs.declared.order_int.OrdInt.{OrdInt}
use Rattle.order_ints.specs.OrderMade.{integer_of_atom}
use Rattle.order_ints.specs.OrderChange.{scaled_of}
use Rattle.model_meaning.specs.declared.what.BoolTerm.TheVariants as bool_term
use Rattle.statement_lower.specs.Terms.{atom_of}
use Rattle.statement_lower.proofs.SummandSteps.{truths-moved, truths-finished}
use Rattle.statement_lower.proofs.summands.scaled_truths.Goals as goal

scaled_is : (x : ℤ) (a b r : OrdInt) → FitsSigned w64 x → b ≡ a → r ≡ scaled_of b (to_z w64 (of_z w64 x)) → r ≡ scaled_of a x
scaled_is x a b r f e h = rw (to_z-of_z w64 x f, e) at h

pub loop-i-preserved : goal.loop-i-preserved
loop-i-preserved c =
    let coefficient = get_or c.args.coefficients.now c.loop-i.i (pos 0) in
    let term = get_or c.args.members.now c.loop-i.i (bool_term.Const false) in
    let f : FitsSigned w64 coefficient = search rules in
    let bit : c.in_ok-bit.bit ≡ integer_of_atom (atom_of c.args.entries.now term) = c.in_ok-bit.ensures.shape ∙ ap integer_of_atom c.atom_of.ensures in
    let same = scaled_is coefficient (integer_of_atom (atom_of c.args.entries.now term)) c.in_ok-bit.bit c.in_ok-scaled.field-0 f bit c.in_ok-scaled.ensures in
    truths-moved c.args.entries.now c.args.coefficients.now c.args.members.now c.loop-i.i (pos 0) (bool_term.Const false) c.loop-i.ints.items _ c.push.new.self.items
    (omega arith) (omega arith) (c.in_ok-push.ensures.items ∙ ap (λ a. c.loop-i.ints.items ++ a ∷ []) same) c.loop-i.invariant

pub returns : goal.returns
returns c =
    truths-finished c.args.entries.now c.args.coefficients.now c.args.members.now c.loop-i.i c.loop-i.ints.items _ (omega arith) c.loop-i.invariant
