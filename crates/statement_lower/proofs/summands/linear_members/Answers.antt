use Rattle.std.proofs.Common.{arith}
use Rattle.core_forms.proofs.Bounds.{small_bits}
use Rattle.statement_lower.specs.Terms.{integer_of}
use Rattle.statement_lower.proofs.EntryLaws.{integer_of-in_limit}
use Rattle.statement_lower.specs.Linear.{linear_members}
use Rattle.statement_lower.proofs.LinearLaws.{summands-last, sound-steps, last-total}
use Rattle.statement_lower.proofs.summands.linear_members.Goals as goal

pub constant_of_members-constant-requires-clause-members : goal.constant_of_members-constant-requires-clause-members
constant_of_members-constant-requires-clause-members c =
    rw (c.deref.ensures.value, c.in_ok-push.ensures.items, c.in_ok-negated_integer_of.ensures)
    (summands-last c.args.ints.items (integer_of c.args.entries.now c.args.right) c.requires.ints
    (integer_of-in_limit c.args.entries.now c.args.right c.requires.entries c.requires.right))

pub returns-clause-sound : goal.returns-clause-sound
returns-clause-sound c =
    rw (c.keep_with_steps.ensures, c.in_ok-push.ensures.items, c.in_ok-negated_integer_of.ensures)
    (sound-steps (linear_members c.args.ints.items (integer_of c.args.entries.now c.args.right))
    (summands-last c.args.ints.items (integer_of c.args.entries.now c.args.right) c.requires.ints
    (integer_of-in_limit c.args.entries.now c.args.right c.requires.entries c.requires.right)))

pub returns-clause-limit : goal.returns-clause-limit
returns-clause-limit c =
    let bits = small_bits c.constant_of_members-constant.result (omega (arith, c.constant_of_members-constant.ensures.range)) in
    rw (bits, c.constant_of_members-constant.ensures.value, c.deref.ensures.value, c.keep_with_steps.ensures, c.in_ok-push.ensures.items, c.in_ok-negated_integer_of.ensures)
    (last-total c.args.ints.items (integer_of c.args.entries.now c.args.right) c.requires.ints
    (integer_of-in_limit c.args.entries.now c.args.right c.requires.entries c.requires.right) c.requires.few)
