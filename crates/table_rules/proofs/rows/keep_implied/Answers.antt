use Rattle.std.proofs.Common.{◌≡◌, ℕ, suc, ◌+◌, List, [], length, vec_len, rules, sym, ap, subst, ◌∙◌, arith}
use Rattle.std.proofs.lemmas.Bool.{eqb-true}
use Rattle.std.proofs.lemmas.List.{nil_from_length}
use Rattle.order_ints.specs.declared.atom.Atom.{Atom}
use Rattle.order_ints.specs.Truth.{valuation_at}
use Rattle.table_rules.specs.Rows.{is_some_apart, left_below}
use Rattle.table_rules.proofs.RowLaws.{none-left, met-next, unmet-next, together-next}
use Rattle.table_rules.proofs.rows.keep_implied.Goals as goal
use Rattle.table_rules.proofs.rows.keep_implied.Goals.{then-is_some_apart+then-holds_in_row, else-is_some_apart, else-is_some_apart-via-then-is_some_apart+else-holds_in_row, else-is_some_apart-via-else-is_some_apart}

pub returns-then-is_empty : goal.returns-then-is_empty
returns-then-is_empty c =
    let pairs = c.loop-number.pairs in
    let zero = eqb-true (vec_len pairs) 0 (sym c.is_empty.ensures ∙ c.if-is_empty.true) in
    let none : pairs.items ≡ [] = nil_from_length pairs.items (omega (arith, zero, pairs.ok.0)) in
    none ∙ sym (none-left c.args.core.now c.args.vars.now c.args.pairs.now.items c.loop-number.number _ (omega arith) (sym c.loop-number.invariant.left ∙ none))

pub loop-number-preserved : goal.loop-number-preserved
loop-number-preserved c =
    let core = c.args.core.now in
    let vars = c.args.vars.now in
    let whole = c.args.pairs.now.items in
    let rows = c.loop-number in
    let values = c.write_row.new.values in
    let row = c.write_row.ensures in
    let more : suc rows.number ≡ rows.number + 1 = omega arith in
    let next : (kept : List (Atom × Atom)) → kept ≡ left_below core vars whole (suc rows.number) → kept ≡ left_below core vars whole (rows.number + 1) =
    λ kept h. subst (λ (n : ℕ). kept ≡ left_below core vars whole n) more h in
    let long : length values ≡ length vars = search rules in
    elim c.if-is_some_apart.branch [
      | then-is_some_apart+then-holds_in_row w ↦ record {
        left = rw w.pairs-is (next w.keep_equal.new.pairs.items (met-next core vars whole rows.pairs.items rows.values values rows.number row rows.invariant.long rows.invariant.left w.holds_in_row.result w.keep_equal.new.pairs.items w.holds_in_row.ensures.shape w.if-holds_in_row.true w.keep_equal.ensures));
        long = long;
      }
      | else-is_some_apart w ↦ elim w.else-is_some_apart.branch [
        | else-is_some_apart-via-then-is_some_apart+else-holds_in_row v ↦ record {
          left = rw w.pairs-is (next rows.pairs.items (unmet-next core vars whole rows.pairs.items rows.values values rows.number row rows.invariant.long rows.invariant.left v.holds_in_row.result v.holds_in_row.ensures.shape v.if-holds_in_row.false));
          long = long;
        }
        | else-is_some_apart-via-else-is_some_apart v ↦ record {
          left = rw w.pairs-is (next rows.pairs.items (together-next core vars whole rows.pairs.items rows.values values rows.number row rows.invariant.long rows.invariant.left c.is_some_apart.result
              (c.is_some_apart.ensures ∙ ap (is_some_apart (valuation_at vars values)) c.as_slice.ensures.value) v.if-is_some_apart.false));
          long = long;
        }
      ]
    ]
