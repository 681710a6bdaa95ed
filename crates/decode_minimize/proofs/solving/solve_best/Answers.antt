use Rattle.std.proofs.Common.{refl}
use Rattle.decode_minimize.specs.Solved.{problem_of}
use Rattle.decode_minimize.proofs.Ready.{seekable-at}
use Rattle.decode_minimize.proofs.solving.solve_best.Goals as goal

pub solve_one-requires-clause-seekable : goal.solve_one-requires-clause-seekable
solve_one-requires-clause-seekable g c =
    seekable-at (problem_of c.args.names.now c.args.cnf) c.requires.problem (record { integer = c.integer_named.result; view = c.args.names.now.view; direction = c.args.objectives.direction; names = c.args.names.now }) c.as_slice-entries.result.now c.args.objectives.place
    refl c.as_slice-entries.ensures c.integer_named.ensures

pub solve_two-requires-clause-seekable : goal.solve_two-requires-clause-seekable
solve_two-requires-clause-seekable g c =
    seekable-at (problem_of c.args.names.now c.args.cnf) c.requires.problem (record { integer = c.integer_named.result; view = c.args.names.now.view; direction = c.args.objectives.direction; names = c.args.names.now }) c.as_slice-entries.result.now c.args.objectives.place
    refl c.as_slice-entries.ensures c.integer_named.ensures

pub solve_two-requires-clause-seekable_behind : goal.solve_two-requires-clause-seekable_behind
solve_two-requires-clause-seekable_behind g c =
    seekable-at (problem_of c.args.names.now c.args.cnf) c.requires.problem (record { integer = c.integer_named-in-Some.result; view = c.args.names.now.view; direction = c.args.objectives.direction; names = c.args.names.now }) c.as_slice-entries.result.now c.in-Some.other
    refl c.as_slice-entries.ensures c.integer_named-in-Some.ensures
