use Rattle.std.proofs.Common.{List, [], sym, refl, ap, subst, ◌∙◌}
use Rattle.model_meaning.specs.declared.model.Model.{Model}
use Rattle.model_meaning.specs.declared.model.Assignment.{Assignment}
use Rattle.model_parts.specs.Only.{numbers_of}
use Rattle.core_extract.specs.Parts.{whole_of, part_of, AreFound}
use Rattle.core_extract.proofs.Turns.{turn-as, same-behind, spent-of}
use Rattle.core_extract.proofs.settling.settle.Goals as goal

pub loop-place-init : goal.loop-place-init
loop-place-init g c = record {
  settled = record {
    reduced = c.requires.reduced;
    found = subst (λ (gs : List Assignment). AreFound (part_of (whole_of c.args.reduction.model) c.args.reduction.out.items) [] gs) (sym c.new-given.ensures.items) tt;
  };
  same = record { whole = refl; count = refl };
}

pub settle_at-requires-clause-count : goal.settle_at-requires-clause-count
settle_at-requires-clause-count g c = c.loop-place.invariant.same.count ∙ c.requires.count

pub settle_at-requires-clause-numbers : goal.settle_at-requires-clause-numbers
settle_at-requires-clause-numbers g c = c.requires.numbers ∙ ap (λ (m : Model). numbers_of m.stmts) (sym c.loop-place.invariant.same.whole)

pub returns-in-Spent : goal.returns-in-Spent
returns-in-Spent g c =
    let h = turn-as g.F.Oracle.told c.args.asker.now.options _ c.loop-place.progress.reduction _ _ c.in-Spent.is c.in_ok-turn.ensures in
    let same = c.loop-place.invariant.same in
    (spent-of g.F.Oracle.told c.args.asker.now.options _ _ _ same.whole h.0, h.1 ∙ same.whole)

pub loop-place-preserved : goal.loop-place-preserved
loop-place-preserved g c =
    let h = turn-as g.F.Oracle.told c.args.asker.now.options _ c.loop-place.progress.reduction _ _ c.in-Next.is c.in_ok-turn.ensures in
    record { settled = h.0; same = same-behind c.args.reduction c.loop-place.progress.reduction c.in-Next.next.reduction c.loop-place.invariant.same h.1 }
