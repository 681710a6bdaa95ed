use Rattle.std.proofs.Common.{◌≡◌, Bool, ◌||◌, ℤ, sym, ap, ◌∙◌}
use Rattle.std.specs.BTreeSet.{contains}
use Rattle.std.specs.Ordering.{int_cmp}
use mir.Syntax.{w128}
use Rattle.std.proofs.lemmas.Int.{to_z-of_z}
use Rattle.equation_runs.proofs.different.Taken.has.Goals as goal

pub returns-then-contains : goal.returns-then-contains
returns-then-contains c =
    let held = c.args.self.now.held in
    let shared = c.args.self.now.shared in
    let first : c.contains.result ≡ contains int_cmp held c.args.value =
    c.contains.ensures ∙ ap (λ (v : ℤ). contains int_cmp held v) (to_z-of_z w128 c.args.value c.ranges.value) in
    c.if-contains.true ∙ sym (ap (λ (b : Bool). b || contains int_cmp shared c.args.value) (sym first ∙ c.if-contains.true))

pub returns-else-contains : goal.returns-else-contains
returns-else-contains c =
    let held = c.args.self.now.held in
    let shared = c.args.self.now.shared in
    let first : c.contains.result ≡ contains int_cmp held c.args.value =
    c.contains.ensures ∙ ap (λ (v : ℤ). contains int_cmp held v) (to_z-of_z w128 c.args.value c.ranges.value) in
    let second : c.contains-else-contains.result ≡ contains int_cmp shared c.args.value =
    c.contains-else-contains.ensures ∙ ap (λ (v : ℤ). contains int_cmp shared v) (to_z-of_z w128 c.args.value c.ranges.value) in
    second ∙ sym (ap (λ (b : Bool). b || contains int_cmp shared c.args.value) (sym first ∙ c.if-contains.false))
