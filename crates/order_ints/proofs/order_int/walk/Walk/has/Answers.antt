use Rattle.std.proofs.Common.{◌≡◌, ◌<ℤ◌, length, to_z, of_z, sym, ap, subst, ◌∙◌}
use Rattle.std.specs.Ordering.{int_eq}
use mir.Syntax.{w128}
use Rattle.std.proofs.lemmas.Int.{to_z-of_z}
use Rattle.order_ints.specs.Walk.{value_at, has_value}
use Rattle.order_ints.proofs.Wide.{same_bits}
use Rattle.order_ints.proofs.Walks.{stands_small, has-place}
use Rattle.order_ints.proofs.order_int.walk.Walk.has.Goals as goal

pub returns-clause-value : goal.returns-clause-value
returns-clause-value c =
    let v = to_z w128 (of_z w128 c.args.v) in
    let is : v ≡ c.args.v = to_z-of_z w128 c.args.v c.ranges.v in
    let s = c.go_down.new.self in
    let same = sym (c.go_down.ensures.same ∙ c.go_up.ensures.same) in
    let reached : value_at s.int.now s.place <ℤ v → s.place ≡ length s.int.now.steps =
    λ h. c.go_down.ensures.reached c.go_up.ensures.reached (subst (λ w. w <ℤ v) (sym s.stands.2) h) in
    let there : has_value s.int.now v ≡ int_eq (value_at s.int.now s.place) v =
    has-place s.int.now v s.place s.stands.1 c.go_down.ensures.first reached in
    same_bits s.value c.args.v (stands_small s.int.now s.place s.value s.stands) c.ranges.v
    ∙ ap (λ w. int_eq w c.args.v) s.stands.2 ∙ ap (int_eq (value_at s.int.now s.place)) (sym is)
    ∙ sym (ap (has_value c.args.self.now.int.now) (sym is) ∙ ap (λ a. has_value a v) same ∙ there)
