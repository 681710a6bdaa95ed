use Rattle.std.proofs.Common.{◌≡◌, ◌∙◌, ◌++◌, ◌∷◌, [], List, length, Option, ap, subst}
use Rattle.std.specs.Option.{option_to_list}
use Rattle.literal_trail.specs.declared.entry.Entry.{Entry}
use Rattle.literal_trail.specs.Tables.{AreTables, AreFresh}
use Rattle.literal_trail.proofs.Trails.{fresh-last}
use Rattle.literal_trail.proofs.Tabled.{tables-removed, code_of-negated}
use Rattle.literal_trail.proofs.tables.take_back.Goals as goal

pub returns-clause-tables : goal.returns-clause-tables
returns-clause-tables c =
    let rest = c.pop.new.self.items in
    let e = c.unwrap-entry.result in
    let whole : c.args.entries.now.items ≡ rest ++ e ∷ [] = c.pop.ensures.items ∙ ap (λ (o : Option Entry). rest ++ option_to_list o) c.unwrap-entry.ensures in
    let last = fresh-last (length c.args.places.now) rest e (subst (AreFresh (length c.args.places.now)) whole c.requires.inside) in
    tables-removed rest c.args.values.now c.args.places.now e c.code_of.result c.code_of-2.result
    (subst (λ (es : List Entry). AreTables es c.args.values.now c.args.places.now) whole c.requires.tables)
    last.0 last.1 c.code_of.ensures (c.code_of-2.ensures ∙ code_of-negated e.lit c.negated.result c.negated.ensures.var c.negated.ensures.sign)
