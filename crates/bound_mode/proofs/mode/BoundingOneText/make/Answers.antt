use Rattle.std.proofs.Common.{◌≡◌, ℤ, rules, w64, to_z, of_z, subst}
use Rattle.bound_mode.specs.Bounded.{Bounds}
use Rattle.bound_mode.proofs.Ends.{given_text}
use Rattle.bound_mode.proofs.mode.BoundingOneText.make.Goals as goal

pub returns-in-Ok-Some : goal.returns-in-Ok-Some
returns-in-Ok-Some c =
    let e : to_z w64 (of_z w64 c.args.self.now.number) ≡ c.args.self.now.number = search rules in
    given_text c.args.self.now.number c.args.text.now c.in-Ok-Some.written.items c.requires
    (subst (λ (m : ℤ). Bounds m c.args.text.now c.in-Ok-Some.written.items) e (rw c.in-Ok-Some.field-0-is at c.in-Ok-Some.ensures.bounded))
