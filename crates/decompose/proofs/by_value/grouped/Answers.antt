use Rattle.std.proofs.Common.{◌≡◌, pos, get_or, length, drop, rules, arith, ap, ◌∙◌}
use mir.Syntax.{w128}
use Rattle.std.proofs.lemmas.Int.{to_z-of_z}
use Rattle.decompose.proofs.GroupLaws.{group-more}
use Rattle.decompose.proofs.by_value.grouped.Goals as goal

pub loop-value-preserved : goal.loop-value-preserved
loop-value-preserved c =
    let atoms = c.in_ok-atoms.atoms in
    let count : c.len.result ≡ length atoms.items = omega (arith, c.len.ensures, atoms.ok.0) in
    group-more c.loop-value.groups.items c.push.new.self.items c.args.values.now c.loop-value.value-index (pos 0) _ c.loop-value.rest.now c.split_at.result.1.now atoms.items _
    c.loop-value-test.true (to_z-of_z w128 (get_or c.args.values.now c.loop-value.value-index (pos 0)) (search rules)) c.in_ok-atoms.ensures.atoms
    (c.split_at.ensures.back ∙ ap (λ n. drop n c.loop-value.rest.now) count) (search rules) c.loop-value.invariant
