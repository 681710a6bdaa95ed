use Rattle.std.proofs.Common.{◌≡◌, ◌∙◌, ℕ, List, ap, get_or, sym, ⊎_elim}
use Rattle.std.proofs.lemmas.Bool.{cases_eq, eq-eqb, eqb-true}
use Rattle.core_occurrences.proofs.Keeping.{absent-from, present-from}
use Rattle.core_occurrences.proofs.lists.BodyOccurrences.is_absent.Goals as goal

pub returns-clause-absent : goal.returns-clause-absent
returns-clause-absent c =
    let head : get_or c.as_slice.result.now c.args.id 0 ≡ get_or c.self.inside.heads.items c.args.id 0 = ap (λ (hs : List ℕ). get_or hs c.args.id 0) c.as_slice.ensures.value in (
      λ t. absent-from c.self.inside.rings c.self.inside.nodes.items c.self.inside.heads.items c.self.inside.room c.args.self.now c.self.invariant c.self.view_is c.args.id c.requires.1 (sym head ∙ eqb-true (get_or c.as_slice.result.now c.args.id 0) 0 t),
      λ absent. ⊎_elim (λ e. eq-eqb (get_or c.as_slice.result.now c.args.id 0) 0 e) (λ ne. absurd (present-from c.self.inside.rings c.self.inside.nodes.items c.self.inside.heads.items c.self.inside.room c.args.self.now c.self.invariant c.self.view_is c.args.id c.requires.0 c.requires.1 (λ e. ne (head ∙ e)) absent)) (cases_eq (get_or c.as_slice.result.now c.args.id 0) 0),
    )
