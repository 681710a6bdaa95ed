-- What is written is accepted.
use Rattle.std.proofs.Common.{◌≡◌, ℕ, List, map, sym, subst}
use Rattle.bee_text.specs.Lines.{AreLines}
use Rattle.ledger_check.proofs.DocumentLines.{declared-lines}
use Rattle.model_meaning.specs.declared.model.Decl.{Decl}
use Rattle.model_texts.proofs.ModelShapes.{limited, names}
use Rattle.conflict_text.specs.ConflictSays.{IsConflictText}
use Rattle.conflict_text.proofs.WholeText.{written-law}
use Rattle.core_mode.specs.Accepted.{ConflictsAreAccepted}

pub conflicts-accepted : ConflictsAreAccepted
conflicts-accepted options text outcome written h =
    let model = h.model in
    let d = h.is.document in
    let lines : AreLines (map (λ (x : Decl). x.name) model.decls) = declared-lines (map (λ (x : Decl). x.name) model.decls) (names text model h.held.says) in
    let whole = written-law model d (limited text model h.held.within h.held.says) lines h.is.numbers h.is.is.document in
    record { model = model; held = h.held; verdict = d.verdict; valid = subst (λ (t : List ℕ). IsConflictText model t d.verdict) (sym h.is.writes) whole }
