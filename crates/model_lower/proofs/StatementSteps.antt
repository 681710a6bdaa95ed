-- The law of a statement.
use Rattle.std.proofs.Common.{ℕ, ◌+◌, ◌≤◌, List, ◌++◌, subst, arith}
use Rattle.core_forms.specs.declared.form.Core.{Core}
use Rattle.core_forms.specs.Cores.{CoresBelow}
use Rattle.core_forms.proofs.CoreLists.{MeetsAll-append, MeetsAll-agree, MeetsAll-depends, CoresBelow-append, CoresBelow-more, AreWellFormed-append}
use Rattle.model_meaning.specs.Holds.{Holds}
use Rattle.statement_lower.specs.Lines.{made_of}
use Rattle.statement_lower.proofs.EntryLaws.{EntriesFit-more, numbers_of-agree}
use Rattle.statement_lower.proofs.LineLaws.{line_law}
use Rattle.model_lower.specs.ItemLaws.{StatementLaw}

pub statement_law : StatementLaw
statement_law l decls s enc fit small =
    let n : ℕ = l.vars + 1 in
    let entries = l.map.entries in
    let made = made_of l.vars entries s.what in
    let line = line_law l.vars s.number decls entries s.what enc.entries fit small in
    let le : n ≤ made.vars + 1 = omega (arith, line.more) in
    let more : List Core = made.cores in
    let below : CoresBelow (made.vars + 1) (l.cores ++ more) =
    CoresBelow-append (made.vars + 1) l.cores more (CoresBelow-more n (made.vars + 1) l.cores le enc.below) line.below in (
      record {
        entries = EntriesFit-more n (made.vars + 1) decls entries le enc.entries;
        below = below;
        well_formed = AreWellFormed-append l.cores more enc.well_formed line.well_formed;
        ordered = λ σ h. enc.ordered σ ((MeetsAll-append σ l.cores more).0 h).0;
      },
      record {
        fewer = le;
        constrains = MeetsAll-depends (made.vars + 1) (l.cores ++ more) below;
        depends = λ σ τ same h. (MeetsAll-agree n σ τ l.cores same enc.below h.0, subst (λ a. Holds a s.what) (numbers_of-agree n σ τ decls entries same enc.entries) h.1);
        implies = λ σ h. let r = (MeetsAll-append σ l.cores more).0 h in (r.0, line.implies σ (enc.ordered σ r.0) r.1);
        extends = λ σ h.
            let t = line.extends σ (enc.ordered σ h.0) h.1 in
            (t.0, t.1, (MeetsAll-append t.0 l.cores more).1 (MeetsAll-agree n σ t.0 l.cores t.1 enc.below h.0, t.2));
      },
    )
