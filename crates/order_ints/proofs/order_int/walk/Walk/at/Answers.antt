use Rattle.std.proofs.Common.{◌≡◌, ◌<ℤ◌, ◌≤ℤ◌, to_z, of_z, sym, ap, subst, ◌∙◌, arith}
use mir.Syntax.{w128}
use Rattle.std.proofs.lemmas.Int.{ints, to_z-of_z}
use Rattle.order_ints.specs.OrderLevels.{at_of}
use Rattle.order_ints.proofs.Wide.{small_bits}
use Rattle.order_ints.proofs.Walks.{stands_small, reaching-place, reaching-none}
use Rattle.order_ints.proofs.order_int.walk.Walk.at.Goals as goal

pub returns-then-self-v-clause-atom : goal.returns-then-self-v-clause-atom
returns-then-self-v-clause-atom c =
    let v = to_z w128 (of_z w128 c.args.v) in
    let is : v ≡ c.args.v = to_z-of_z w128 c.args.v c.ranges.v in
    let s = c.go_down.new.self in
    let test = rw (small_bits s.value (stands_small s.int.now s.place s.value s.stands)) at c.if-self-v.true in
    let below : s.value <ℤ v = omega (arith, ints, test) in
    let top = c.go_down.ensures.reached c.go_up.ensures.reached below in
    let none = reaching-none s.int.now v s.place top (subst (λ w. w <ℤ v) s.stands.2 below) in
    sym (ap (λ a. at_of a v) (sym (c.go_down.ensures.same ∙ c.go_up.ensures.same)) ∙ none) ∙ ap (at_of c.args.self.now.int.now) is

pub returns-clause-atom : goal.returns-clause-atom
returns-clause-atom c =
    let v = to_z w128 (of_z w128 c.args.v) in
    let is : v ≡ c.args.v = to_z-of_z w128 c.args.v c.ranges.v in
    let s = c.go_down.new.self in
    let test = rw (small_bits s.value (stands_small s.int.now s.place s.value s.stands)) at c.if-self-v.false in
    let reached : v ≤ℤ s.value = omega (arith, ints, test) in
    let there = reaching-place s.int.now v s.place s.stands.1 c.go_down.ensures.first (subst (λ w. v ≤ℤ w) s.stands.2 reached) in
    c.atom.ensures ∙ sym (ap (λ a. at_of a v) (sym (c.go_down.ensures.same ∙ c.go_up.ensures.same)) ∙ there) ∙ ap (at_of c.args.self.now.int.now) is
