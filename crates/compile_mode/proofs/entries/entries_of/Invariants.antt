use Rattle.std.proofs.Common.{◌≡◌, ◌++◌, length, reverse, vec_len}
use Rattle.compile_mode.specs.Compiled.{entries_of}
use Rattle.compile_mode.proofs.entries.entries_of.Given as goal

-- the lines of what is left, and those that were made
abbrev pub invariant-loop-decl : goal.invariant-loop-decl
invariant-loop-decl l =
    (entries_of l.decls.items l.values.items ++ reverse l.entries.items ≡ entries_of l.fn.decls.items l.fn.values.items)
    × (length l.decls.items ≡ length l.values.items)

abbrev pub decreases-loop-decl : goal.decreases-loop-decl
decreases-loop-decl l = vec_len l.decls
