use Rattle.std.proofs.Common.{ap, sym, arith, ◌∙◌, length}
use Rattle.literal_trail.specs.declared.entry.Entry.{Entry}
use Rattle.literal_trail.specs.Trail.{Trail, up_to}
use Rattle.literal_trail.proofs.Levels.{up_to-whole}
use Rattle.literal_trail.proofs.trail.LiteralTrail.end_of_level.Goals as goal

pub returns-else-level-as_slice : goal.returns-else-level-as_slice
returns-else-level-as_slice c =
    ap (length {A = Entry}) (c.as_slice-else-level-as_slice.ensures.value
    ∙ sym (up_to-whole c.args.level c.self.inside.entries.items 0 (length c.self.inside.ends.items) c.self.invariant.trail.levelled (omega (arith, c.as_slice.ensures.len)))
    ∙ ap (λ (t : Trail). up_to c.args.level t.entries) c.self.view_is)
