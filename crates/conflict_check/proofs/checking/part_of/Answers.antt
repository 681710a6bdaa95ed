use Rattle.std.proofs.Common.{◌≤◌, ◌++◌, true, List, map, drop, length, sym, ap, ◌∙◌, subst}
use Rattle.model_meaning.specs.declared.model.Stmt.{Stmt}
use Rattle.conflict_check.proofs.Judging.{part-chosen}
use Rattle.conflict_check.proofs.checking.part_of.Goals as goal

pub mark_rest-requires : goal.mark_rest-requires
mark_rest-requires c = subst (λ (ss : List Stmt). length c.args.out.items ≤ length ss) (sym c.as_slice.ensures) c.requires

pub returns : goal.returns
returns c =
    let out = c.args.out.items in
    part-chosen c.args.model out c.mark_rest.new.out.items c.new.result c.choose.result (c.choose.ensures.divided c.args.model c.new.ensures.divided) c.choose.ensures.moved
    (c.in_ok-mark_rest.ensures ∙ ap (λ (ss : List Stmt). out ++ map (λ (s : Stmt). true) (drop (length out) ss)) c.as_slice.ensures)
