use Rattle.std.proofs.Common.{◌≡◌, [], List, take, vec_len, subst, sym, ◌∙◌, arith}
use Rattle.std.specs.Prelude.{None}
use Rattle.std.proofs.lemmas.Bool.{eqb-true}
use Rattle.std.proofs.lemmas.List.{nil_from_length}
use Rattle.order_ints.specs.declared.atom.Atom.{Atom}
use Rattle.table_rules.specs.Pairs.{IsIn}
use Rattle.table_rules.proofs.OneValue.{told-by}
use Rattle.table_rules.proofs.words.is_none_left.Goals as goal

pub returns : goal.returns
returns c is p i first whole =
    let front = c.args.front.now in
    let back = c.args.back.now in
    let pairs = c.keep_told_of.new.pairs in
    let zero = eqb-true (vec_len pairs) 0 (sym c.is_empty.ensures ∙ is) in
    let none : pairs.items ≡ [] = nil_from_length pairs.items (omega (arith, zero, pairs.ok.0)) in
    let told = told-by c.args.truth None (take 16 front) (take 16 back) c.first_of.result.now c.first_of-2.result.now p c.first_of.ensures.first c.first_of-2.ensures.first first in
    let left = c.keep_told.ensures p told (subst (λ (ps : List (Atom × Atom)). IsIn p ps) (sym c.in_ok-pairs.ensures) i) in
    subst (λ (ps : List (Atom × Atom)). IsIn p ps) none (c.keep_told_of.ensures p whole left)
