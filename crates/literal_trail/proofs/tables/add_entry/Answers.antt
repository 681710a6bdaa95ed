use Rattle.std.proofs.Common.{◌≡◌, ◌∙◌, ◌++◌, ◌∷◌, [], ◌+◌, List, true, sym, ap, arith, subst, set}
use Rattle.std.specs.Prelude.{is_ok, vec_len}
use Rattle.std.proofs.lemmas.Bool.{cond-true}
use Rattle.literal_trail.specs.declared.entry.Entry.{Entry}
use Rattle.literal_trail.specs.declared.tables.Value.TheVariants.{Holds, Fails}
use Rattle.literal_trail.specs.Tables.{AreTables}
use Rattle.literal_trail.proofs.Tabled.{tables-added, code_of-negated}
use Rattle.literal_trail.proofs.tables.add_entry.Goals as goal

pub returns-clause-tables : goal.returns-clause-tables
returns-clause-tables c =
    let added : is_ok c.push.result ≡ true = ap is_ok c.unwrap.ensures in
    let items : c.push.new.self.items ≡ c.args.entries.now.items ++ c.args.entry ∷ [] = c.push.ensures.items ∙ cond-true _ _ _ added in
    let longer : vec_len c.push.new.self ≡ vec_len c.args.entries.now + 1 = c.push.ensures.len ∙ cond-true _ _ _ added in
    subst (λ (es : List Entry). AreTables es (set (set c.args.values.now c.code_of.result Holds) c.code_of-2.result Fails) (set c.args.places.now c.args.entry.lit.var c.len.result)) (sym items)
    (tables-added c.args.entries.now.items c.args.values.now c.args.places.now c.args.entry c.code_of.result c.code_of-2.result c.len.result
    c.requires.tables c.requires.lit c.requires.free c.code_of.ensures
    (c.code_of-2.ensures ∙ code_of-negated c.args.entry.lit c.negated.result c.negated.ensures.var c.negated.ensures.sign)
    (omega arith))
