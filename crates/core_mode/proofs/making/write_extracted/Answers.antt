use Rattle.std.proofs.Common.{List, sym, ap, ◌∙◌, subst}
use Rattle.model_meaning.specs.declared.model.Decl.{Decl}
use Rattle.conflict_text.specs.ConflictDocuments.{AreNumbers, AreWhole, conflict_text}
use Rattle.core_extract.proofs.Claimed.{document-claims}
use Rattle.core_mode.proofs.making.write_extracted.Goals as goal

pub write_core-requires : goal.write_core-requires
write_core-requires g c =
    let d = c.in_ok-extracted.extracted.document in
    subst (λ (ds : List Decl). AreWhole ds d.assignments) (sym (c.as_slice-decls.ensures ∙ c.in_ok-extracted.ensures.decls)) c.in_ok-extracted.ensures.extracted.whole

pub returns-clause-text : goal.returns-clause-text
returns-clause-text g c =
    let d = c.in_ok-extracted.extracted.document in
    record {
      document = d;
      is = c.in_ok-extracted.ensures.extracted;
      claims = document-claims c.args.model d c.requires.typed c.requires.limits c.in_ok-extracted.ensures.light c.in_ok-extracted.ensures.extracted.document;
      numbers = subst AreNumbers c.as_slice.ensures c.fit.ensures;
      writes = c.in_ok-text.ensures ∙ ap (λ (ds : List Decl). conflict_text ds d) (c.as_slice-decls.ensures ∙ c.in_ok-extracted.ensures.decls);
      outcome_is = c.outcome_of.ensures;
    }
