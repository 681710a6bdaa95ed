use Rattle.std.proofs.Common.{ℕ, ◌∷◌, [], true, ap, ◌∙◌}
use Rattle.std.proofs.lemmas.Int.{to_z-of_z}
use mir.Syntax.{w128}
use Rattle.order_ints.specs.declared.atom.Atom.TheVariants.{Of}
use Rattle.core_forms.proofs.Letters.{if-there, name-there, names-kept}
use Rattle.core_forms.proofs.word.put_letter.Goals as goal

pub returns-then-own-weight-clause-letter : goal.returns-then-own-weight-clause-letter
returns-then-own-weight-clause-letter c =
    if-there c.put.result
    (λ x put. record {
      name = c.in_ok-name.name;
      among = name-there c.in_ok-name.name c.args.names.now c.put.new.self put;
      base_is = c.has_base.ensures c.if-has_base.true ∙ to_z-of_z w128 c.args.base c.ranges.base;
      steps_are = c.in_ok-name.ensures ∙ ap (λ (w : ℕ). (Of (record { var = c.in_ok-name.name; positive = true }), w) ∷ []) c.if-own-weight.true;
    })
    c.put.ensures.put

pub returns-then-own-weight-clause-kept : goal.returns-then-own-weight-clause-kept
returns-then-own-weight-clause-kept c = if-there c.put.result (λ x put. names-kept c.in_ok-name.name c.args.names.now c.put.new.self put) c.put.ensures.put
