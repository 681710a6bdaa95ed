use Rattle.std.proofs.Common.{◌≡◌, ℕ, ℤ, Bool, false, nat_eq, List, arith, sym, ◌∙◌, drop, map}
use Rattle.std.proofs.lemmas.Bool.Decides.{nat_tests}
use Rattle.std.proofs.lemmas.List.{length-map, length-drop}
use Rattle.model_meaning.specs.declared.what.BoolTerm.{BoolTerm}
use Rattle.model_meaning.specs.Terms.{numbers_of, truths_of, as_number}
use Rattle.model_meaning.proofs.ListLaws.{in_order-right_ends, in_order-left_ends}
use Rattle.model_meaning.proofs.lists.numbers_in_order.Goals as goal

abbrev ints : List ℤ → List BoolTerm → List ℤ
ints a xs = map as_number (truths_of a xs)

unequal : (m n : ℕ) (b : Bool) → (m ≡ n → ⊥) → false ≡ b → nat_eq m n ≡ b
unequal m n b h e = grind (arith, nat_tests)

pub returns-then-i-right : goal.returns-then-i-right
returns-then-i-right c =
    let a = c.args.values.now in
    let xs = numbers_of a (drop c.loop-i.i c.args.left.now) in
    let ys = numbers_of a (drop c.loop-i.i c.args.right.now) in
    sym (in_order-right_ends c.args.strict xs ys (simp (length-map, length-drop) (omega arith)) (simp (length-map, length-drop) (omega arith))) ∙ c.loop-i.invariant.rest

pub returns-else-left-right : goal.returns-else-left-right
returns-else-left-right c =
    let a = c.args.values.now in
    let xs = numbers_of a (drop c.loop-i.i c.args.left.now) in
    let ys = numbers_of a (drop c.loop-i.i c.args.right.now) in
    unequal _ _ _ c.if-left-right.false (sym (in_order-left_ends c.args.strict xs ys (simp (length-map, length-drop) (omega arith)) (simp (length-map, length-drop) (omega arith))) ∙ c.loop-i.invariant.rest)
