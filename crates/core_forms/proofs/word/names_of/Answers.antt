use Rattle.std.proofs.Common.{ℤ, get_or, subst, arith}
use Rattle.std.proofs.lemmas.Int.{to_z-of_z}
use mir.Syntax.{w128}
use Rattle.core_forms.specs.Letters.{IsLetter}
use Rattle.core_forms.proofs.Letters.{each-letters}
use Rattle.core_forms.proofs.word.names_of.Goals as goal

pub returns : goal.returns
returns c =
    each-letters c.loop-a.names c.args.base c.args.weight c.args.ints.now
    (λ k d h. subst (λ (b : ℤ). IsLetter c.loop-a.names b c.args.weight (get_or c.args.ints.now k d)) (to_z-of_z w128 c.args.base c.ranges.base) (c.loop-a.invariant k d (omega arith)))
