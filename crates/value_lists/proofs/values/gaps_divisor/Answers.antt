use Rattle.std.proofs.Common.{◌≡◌, ℕ, ◌-◌, ℤ, pos, ◌-ℤ◌, unsigned_abs, get_or, w64, FitsSigned, rules, arith, ◌∙◌, ap}
use Rattle.std.proofs.lemmas.Int.{to_z-of_z}
use Rattle.value_lists.proofs.Made.{divisor-last, divisor-more}
use Rattle.value_lists.proofs.values.gaps_divisor.Goals as goal

gap : (a b a' b' : ℤ) (s : ℕ) → a ≡ a' → b ≡ b' → s ≡ unsigned_abs (a -ℤ b) → s ≡ unsigned_abs (a' -ℤ b')
gap a b a' b' s p q h = h ∙ (ap (λ a. unsigned_abs (a -ℤ b)) p ∙ ap (λ b. unsigned_abs (a' -ℤ b)) q)

pub loop-i-init : goal.loop-i-init
loop-i-init c = divisor-last c.args.values.now

pub loop-i-preserved : goal.loop-i-preserved
loop-i-preserved c =
    let here : ℤ = get_or c.args.values.now (c.loop-i.i - 1) (pos 0) in
    let before : ℤ = get_or c.args.values.now (c.loop-i.i - 1 - 1) (pos 0) in
    let f : FitsSigned w64 here = search rules in
    let g : FitsSigned w64 before = search rules in
    let e : c.from.result ≡ unsigned_abs (here -ℤ before) = gap _ _ here before c.from.result (to_z-of_z w64 here f) (to_z-of_z w64 before g) (c.from.ensures ∙ c.abs_diff-gap.ensures) in
    divisor-more c.args.values.now (c.loop-i.i - 1) c.from.result c.common_divisor-divisor.result c.loop-i.divisor (pos 0)
    (omega (arith, c.loop-i-test.true, c.loop-i.auto.i)) (omega (arith, c.loop-i-test.true, c.loop-i.auto.i)) e c.loop-i.invariant c.common_divisor-divisor.ensures.value
