use Rattle.std.proofs.Common.{subst, sym, ◌∙◌}
use Rattle.std.specs.Prelude.{List}
use Rattle.order_ints.specs.declared.atom.Atom.{Atom}
use Rattle.order_ints.specs.Truth.{Valuation, valuation_at}
use Rattle.table_rules.specs.Rows.{are_equal_in}
use Rattle.table_rules.specs.Pairs.{IsIn}
use Rattle.table_rules.proofs.RowLaws.{filter-in}
use Rattle.table_rules.proofs.words.keep_told_of.Goals as goal
use Rattle.table_rules.proofs.words.keep_told_of.Goals.{then-is_some_apart+then-is_told_of, else-is_some_apart}

pub loop-number-preserved : goal.loop-number-preserved
loop-number-preserved c =
    let σ : Valuation = valuation_at c.args.vars.now c.write_row.new.values in
    elim c.if-is_some_apart.branch [
      | then-is_some_apart+then-is_told_of w ↦ λ p h i.
          let told = sym w.is_told_of.ensures ∙ w.if-is_told_of.true in
          let kept = filter-in (are_equal_in σ) c.loop-number.pairs.items p (c.loop-number.invariant p h i) (h σ told) in
          rw w.pairs-is (subst (λ (pairs : List (Atom × Atom)). IsIn p pairs) (sym w.keep_equal.ensures) kept)
      | else-is_some_apart w ↦ λ p h i. rw w.pairs-is (c.loop-number.invariant p h i)
    ]
