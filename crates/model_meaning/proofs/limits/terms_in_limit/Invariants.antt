use Rattle.std.proofs.Common.{ℕ, ◌<◌, pos, slice_index_or}
use Rattle.model_meaning.specs.declared.what.IntTerm.TheVariants as int_term
use Rattle.model_meaning.specs.Limits.{TermInLimit}
use Rattle.model_meaning.proofs.limits.terms_in_limit.Given as goal

abbrev pub invariant-loop-term : goal.invariant-loop-term
invariant-loop-term l = (k : ℕ) → k < l.term-index → TermInLimit (slice_index_or l.terms k (int_term.Number (pos 0)))
