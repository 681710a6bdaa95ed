use Rattle.std.proofs.Common.{◌+◌, refl, subst, None, arith}
use Rattle.answer_import.specs.declared.judging.Found.{Found}
use Rattle.answer_import.specs.Imports.{IsFound}
use Rattle.answer_import.specs.Importing.{sought_of}
use Rattle.objective_bound.proofs.Objectives.{values-bounded, values-below}
use Rattle.answer_import.proofs.Shorts.{values-short}
use Rattle.answer_import.proofs.importing.import_text.Goals as goal

pub judge-requires : goal.judge-requires
judge-requires c =
    let made = c.args.compiled in
    let fits = c.requires.fits in
    record {
      few = omega (arith, c.requires.fits.vars);
      in_range = fits.clauses;
      ascend = c.requires.ascend;
      bounded = values-bounded (made.cnf.vars + 1) made.decls made.map.entries fits.values;
      below = values-below (made.cnf.vars + 1) made.decls made.map.entries fits.values;
      short = values-short (made.cnf.vars + 1) made.decls made.map.entries fits.values;
    }

pub returns : goal.returns
returns c =
    let made = c.in_ok-text-in-Shown.ensures in
    record {
      answer = made.answer;
      document = record { verdict = c.in-Shown.verdict; assignment = c.in-Shown.assignment; ledger = c.args.compiled.ledger; proof = c.in-Shown.proof; second = None };
      spelled = made.spelled;
      verdict = refl;
      adds = made.adds;
      shows = subst (λ (f : Found). IsFound (sought_of c.args.model.now c.args.compiled) c.args.text.now f) c.in-Shown.is c.in_ok-line.ensures;
    }
