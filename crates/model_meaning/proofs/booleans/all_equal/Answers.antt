use Rattle.std.proofs.Common.{ℕ, ◌≡◌, arith, length, Bool, nat_eq, ◌||◌}
use Rattle.std.proofs.lemmas.List.{length-map}
use Rattle.std.proofs.lemmas.Bool.Decides.{nat_tests}
use Rattle.model_meaning.specs.Terms.{truth_of, truths_of}
use Rattle.model_meaning.specs.Booleans.{all_true, none_true, count_true}
use Rattle.model_meaning.proofs.BooleanLaws.{all_equal-count}
use Rattle.model_meaning.proofs.booleans.all_equal.Goals as goal

by_zero : (n m : ℕ) (b : Bool) → b ≡ (nat_eq n 0 || nat_eq n m) → n ≡ 0 → nat_eq n 0 ≡ b
by_zero n m b e z = grind (arith, nat_tests)

by_length : (n m : ℕ) (b : Bool) → b ≡ (nat_eq n 0 || nat_eq n m) → (n ≡ 0 → ⊥) → nat_eq n m ≡ b
by_length n m b e z = grind (arith, nat_tests)

pub returns-then-count-eq0 : goal.returns-then-count-eq0
returns-then-count-eq0 c =
    let xs = truths_of c.args.values.now c.args.members.now in
    let e : all_true xs || none_true xs ≡ (nat_eq (count_true xs) 0 || nat_eq (count_true xs) (length xs)) = all_equal-count xs in
    let n = c.count_true-count.ensures.count in
    by_zero c.count_true-count.result (length xs) _ (rw n e) c.if-count-eq0.true

pub returns-else-count-eq0 : goal.returns-else-count-eq0
returns-else-count-eq0 c =
    let xs = truths_of c.args.values.now c.args.members.now in
    let e : all_true xs || none_true xs ≡ (nat_eq (count_true xs) 0 || nat_eq (count_true xs) (length xs)) = all_equal-count xs in
    let n = c.count_true-count.ensures.count in
    let m : length xs ≡ length c.args.members.now = length-map c.args.members.now (truth_of c.args.values.now) in
    by_length c.count_true-count.result (length c.args.members.now) _ (rw (n, ← m) e) c.if-count-eq0.false
