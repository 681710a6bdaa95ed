-- A valid answer is a whole text.
use Rattle.std.proofs.Common.{◌≡◌, ◌⊎◌, ℕ, ◌+◌, ◌<◌, ◌≤◌, Bool, true, false, not, List, [], ◌∷◌, ◌++◌, map, codes, length, append_assoc, Option, None, Some, refl, sym, ap, ◌∙◌, subst, ℤ, arith, ⊎_elim}
use Rattle.std.specs.Prelude.{IsTrue, if◌then◌else◌, is_some, ◌||◌, ◌&&◌, ◌==◌, nat_lt, ◌^◌}
use Rattle.std.specs.Bool.{beq}
use Rattle.std.specs.Ordering.{int_eq}
use Rattle.std.proofs.lemmas.Bool.{true≢false, false≢true}
use Rattle.std.proofs.lemmas.Int.{ints}
use Rattle.order_ints.specs.declared.atom.Atom.{Atom}
use Rattle.order_ints.specs.declared.atom.Atom.TheVariants.{True, False, Of}
use Rattle.bee_text.specs.Lines.{AreLines}
use Rattle.model_meaning.specs.declared.model.Assignment.{Assignment}
use Rattle.model_meaning.specs.declared.model.Decl.{Decl}
use Rattle.model_meaning.specs.declared.model.Goal.{Goal}
use Rattle.model_meaning.specs.declared.model.Goal.TheVariants.{Satisfy, Minimize, Maximize}
use Rattle.model_meaning.specs.declared.model.Model.{Model}
use Rattle.model_meaning.specs.Domains.{domain, in_domains}
use Rattle.model_meaning.specs.Integers.{is_member}
use Rattle.model_meaning.specs.Solutions.{IsSolution, objective, first_broken}
use Rattle.model_meaning.proofs.SolutionLaws.{first_broken-none}
use Rattle.ledger_text.specs.Steps.{step_text}
use Rattle.step_kernel.specs.CnfOf.{cnf_of}
use Rattle.proof_check.specs.declared.line.ProofLine.{ProofLine}
use Rattle.proof_check.specs.Lines.{line_bytes}
use Rattle.proof_check.specs.Lrat.{Proof, proof_of}
use Rattle.proof_check.specs.Known.{known}
use Rattle.answer_document.specs.Goals.{has_second, has_objective}
use Rattle.answer_document.specs.declared.verdict.Bounds.{Bounds}
use Rattle.answer_document.specs.declared.verdict.Verdict.{Verdict}
use Rattle.answer_document.specs.declared.verdict.Verdict.TheVariants.{Satisfiable, Unsatisfiable, Optimum, Unknown}
use Rattle.answer_document.specs.declared.document.Document.{Document}
use Rattle.answer_document.specs.Verdicts.{numbers_in, verdict_text, is_certified, HaveSecond, BoundsFit, VerdictFits}
use Rattle.answer_document.specs.DocumentText.{version_line, best_line, best_lines, assignment_lines, second_lines, certificate_lines, document_lines}
use Rattle.name_map.specs.ValueLines.{declared_lines}
use Rattle.answer_document.specs.Claims.{IsSolutionAt}
use Rattle.answer_document.specs.Valid.{start_of, stated, IsShown, IsDerived, IsSecond, AreShown, AreAdded, AreAddedAlone, IsCertified, IsReadableDocument, IsReadableSecond, AnswerHolds, numbers_given, FitNumbers, FitValues, FitAssignment, IsValid}
use Rattle.line_texts.specs.LineByLine.{Lead, IsWhole}
use Rattle.line_texts.proofs.Leads.{lead_join}
use Rattle.ledger_check.specs.declared.part.Part.{Part}
use Rattle.ledger_check.specs.declared.part.Part.TheVariants as part
use Rattle.ledger_check.specs.declared.fault.Why.TheVariants as why
use Rattle.ledger_check.specs.Items.{Version, Answer, Best, LedgerBegins, ProofBegins, SecondBegins, End, Standing, HasNumbers, IsVerdictLine, may_have_second, must_have_second}
use Rattle.ledger_check.specs.Tests.{start_standing, verdict_fits, behind_verdict, same_numbers, objective_fault, statement_fault, values_fault, is_shown, is_optimal, is_concluded, when, unless, taken, second_begun, fixed_cnf}
use Rattle.ledger_check.specs.Reading.{IsNext, IsEnd}
use Rattle.ledger_check.proofs.Backward.{standing, values-lead, ledger-lead, proof-lead, more-lead}

-- Tests that are passed.

same-itself : (b : Bool) → beq b b ≡ true
same-itself true = refl
same-itself false = refl

shown-test : (p : Proof) (a : Atom) → IsShown p a → is_shown p a ≡ true
shown-test p True h = refl
shown-test p False h = h
shown-test p (Of l) h = ⊎_elim (front (known p []) (known p (l ∷ []))) (back (known p []) (known p (l ∷ []))) h
  where
    front : (a b : Bool) → IsTrue a → (a || b) ≡ true
    front true b e = refl
    front false b e = absurd (false≢true e)

    back : (a b : Bool) → IsTrue b → (a || b) ≡ true
    back true b e = refl
    back false b e = e

count-test : (n : ℕ) → 1 ≤ n → n < 2 ^ 63 → (nat_lt 0 n && nat_lt n (2 ^ 63)) ≡ true
count-test n h k = grind (arith)

equal-count : (a b : ℕ) → a ≡ b → (a == b) ≡ true
equal-count a b e = grind (arith)

equal-numbers : (xs : List ℤ) → same_numbers xs xs ≡ true
equal-numbers [] = refl
equal-numbers (x ∷ xs) = both (int_eq x x) (same_numbers xs xs) (itself x) (equal-numbers xs)
  where
    itself : (x : ℤ) → int_eq x x ≡ true
    itself x = grind (arith, ints)

    both : (a b : Bool) → a ≡ true → b ≡ true → (a && b) ≡ true
    both true b e f = f
    both false b e f = absurd (false≢true e)

-- The verdict fits the goal.

some-second : (second : Option ℕ) (n : Option ℤ) → HaveSecond second n → is_some n ≡ is_some second
some-second None None h = refl
some-second None (Some n) h = absurd h
some-second (Some place) None h = absurd h
some-second (Some place) (Some n) h = refl

has-numbers : (goal : Goal) (b : Bounds) → BoundsFit goal b → FitNumbers (Some b) → HasNumbers goal b × (has_objective goal ≡ true)
has-numbers Satisfy b h fits = absurd h
has-numbers (Minimize place second) b h fits = ((fits.0, fits.1, some-second second b.second h), refl)
has-numbers (Maximize place second) b h fits = ((fits.0, fits.1, some-second second b.second h), refl)

-- The answer holds.

no-fault : (goal : Goal) (a : List ℤ) (b : Bounds) → objective goal a ≡ numbers_in b → objective_fault goal a (Some b) ≡ None
no-fault goal a b e = ap (λ t. if t then None else Some why.Objective) (ap (λ ns. same_numbers ns (numbers_in b)) e ∙ equal-numbers (numbers_in b))

none-is : (o : Option ℕ) → is_some o ≡ false → o ≡ None
none-is None e = refl
none-is (Some n) e = absurd (true≢false e)

module _ (model : Model) where
  solution-fault : (a : List ℤ) (b : Option Bounds) → IsSolution model a → objective_fault model.goal a b ≡ None
      → (if in_domains model.decls a then statement_fault (first_broken a model.stmts) (objective_fault model.goal a b) else Some why.Value) ≡ None
  solution-fault a b h e =
      ap (λ t. if t then statement_fault (first_broken a model.stmts) (objective_fault model.goal a b) else Some why.Value) h.in_domains
      ∙ ap (λ o. statement_fault o (objective_fault model.goal a b)) (none-is (first_broken a model.stmts) ((first_broken-none a model.stmts).1 h.holds)) ∙ e

  all-named : (ds : List Decl) (a : List ℤ) → in_domains ds a ≡ true → length a < length ds → ⊥
  all-named [] [] e h = omega (arith, h)
  all-named [] (z ∷ zs) e h = false≢true e
  all-named (d ∷ ds) [] e h = false≢true e
  all-named (d ∷ ds) (z ∷ zs) e h = all-named ds zs (back (is_member z (domain d.kind)) (in_domains ds zs) e) (omega (arith, h))
    where
      back : (a b : Bool) → (a && b) ≡ true → b ≡ true
      back true b e = e
      back false b e = absurd (false≢true e)

  -- one line
  one : (s t : Standing) (line : List ℕ) → IsNext model s line t → Lead (IsNext model) s (line ∷ []) t
  one s t line next = (t, next, refl)

  -- how the lines behind the answer lead to the end
  record EndsFrom (s : Standing) (lines : List (List ℕ)) (v : Verdict) : Type 0 where
    end : Standing
    lead : Lead (IsNext model) s lines end
    ended : end.part ≡ part.End
    verdict : end.verdict ≡ v

  behind-line : (s t : Standing) (line : List ℕ) (lines : List (List ℕ)) (v : Verdict) → IsNext model s line t → EndsFrom t lines v → EndsFrom s (line ∷ lines) v
  behind-line s t line lines v next e = record { end = e.end; lead = (t, next, e.lead); ended = e.ended; verdict = e.verdict }

  behind-lines : (s t : Standing) (front lines : List (List ℕ)) (v : Verdict) → Lead (IsNext model) s front t → EndsFrom t lines v → EndsFrom s (front ++ lines) v
  behind-lines s t front lines v lead e = record { end = e.end; lead = lead_join (IsNext model) s front lines t e.end lead e.lead; ended = e.ended; verdict = e.verdict }

  end-line : (s : Standing) (v : Verdict) → s.verdict ≡ v → IsNext model s (codes "end") (record s { part = part.End }) → EndsFrom s (codes "end" ∷ []) v
  end-line s v is next = record { end = record s { part = part.End }; lead = one s (record s { part = part.End }) (codes "end") next; ended = refl; verdict = is }

  -- The certificate.

  module _ (v : Verdict) (values : List ℤ) (d : Document) (readable : IsReadableDocument d) (c : IsDerived model d) where
    abbrev behind_proof : Standing
    behind_proof = standing model part.Proof v values c.last (Some c.proof) None

    abbrev behind_second : Proof → Standing
    behind_second q = standing model part.Second v values c.last (Some c.proof) (Some q)

    -- without a second derivation
    end-of-one : must_have_second v ≡ false → is_concluded model behind_proof v ≡ true → EndsFrom behind_proof (codes "end" ∷ []) v
    end-of-one absent concluded = end-line behind_proof v refl (record {
      item = End;
      says = (absent, refl);
      taken = ap (λ b. when b why.Open (record behind_proof { part = part.End })) concluded;
    })

    -- with one
    end-of-two : (b : Bounds) (more : List ProofLine) (s : IsSecond model c.last c.proof b more) → stated v ≡ Some b → may_have_second v ≡ true → IsReadableSecond (Some more)
        → is_concluded model (behind_second s.proof) v ≡ true → EndsFrom behind_proof (codes "second" ∷ (map line_bytes more ++ codes "end" ∷ [])) v
    end-of-two b more s told two fits concluded =
        let begun = proof_of (fixed_cnf model behind_proof b.first) in
        behind-line behind_proof (behind_second begun) (codes "second") (map line_bytes more ++ codes "end" ∷ []) v
        (record {
          item = SecondBegins;
          says = (two, refl);
          taken = ap (second_begun model behind_proof) told
              ∙ ap (λ t. when t why.Open (behind_second begun)) (shown-test c.proof _ s.bound);
        })
        (behind-lines (behind_second begun) (behind_second s.proof) (map line_bytes more) (codes "end" ∷ []) v (more-lead model v values c.last c.proof begun s.proof more fits s.accepted)
        (end-line (behind_second s.proof) v refl (record {
          item = End;
          says = (tt, refl);
          taken = ap (λ t. when t why.Open (record (behind_second s.proof) { part = part.End })) concluded;
        })))

    unsatisfiable-end : v ≡ Unsatisfiable → IsTrue (known c.proof []) → (more : Option (List ProofLine)) → more ≡ None → EndsFrom behind_proof (second_lines more ++ codes "end" ∷ []) v
    unsatisfiable-end e h more none =
        subst (λ o. EndsFrom behind_proof (second_lines o ++ codes "end" ∷ []) v) (sym none)
        (end-of-one (ap must_have_second e) (ap (is_concluded model behind_proof) e ∙ h))

    optimum-end : (b : Bounds) → v ≡ Optimum b → (o : Option ℤ) → b.second ≡ o → (more : Option (List ProofLine)) → IsReadableSecond more → AreShown model c.last c.proof b o more
        → EndsFrom behind_proof (second_lines more ++ codes "end" ∷ []) v
    optimum-end b e None is None fits h =
        end-of-one (ap must_have_second e ∙ ap is_some is) (ap (is_concluded model behind_proof) e ∙ ap (is_optimal model behind_proof b.first) is ∙ shown-test c.proof _ h)
    optimum-end b e None is (Some lines) fits h = absurd h
    optimum-end b e (Some n) is None fits h = absurd h
    optimum-end b e (Some n) is (Some lines) fits h =
        end-of-two b lines h.0 (ap stated e) (ap may_have_second e ∙ ap is_some is) fits
        (ap (is_concluded model (behind_second h.0.proof)) e ∙ ap (is_optimal model (behind_second h.0.proof) b.first) is ∙ shown-test h.0.proof _ h.1)

    unknown-end : (n : ℕ) → v ≡ Unknown n None → (more : Option (List ProofLine)) → AreAddedAlone c.proof n more → EndsFrom behind_proof (second_lines more ++ codes "end" ∷ []) v
    unknown-end n e None h = end-of-one (ap must_have_second e) (ap (is_concluded model behind_proof) e ∙ equal-count (length c.proof.added + 0) n (omega (arith, h)))
    unknown-end n e (Some lines) h = absurd h

    best-end : (n : ℕ) (b : Bounds) → v ≡ Unknown n (Some b) → (o : Option ℤ) → b.second ≡ o → (more : Option (List ProofLine)) → IsReadableSecond more → AreAdded model c.last c.proof n b o more
        → EndsFrom behind_proof (second_lines more ++ codes "end" ∷ []) v
    best-end n b e o is None fits h = end-of-one (ap must_have_second e) (ap (is_concluded model behind_proof) e ∙ equal-count (length c.proof.added + 0) n (omega (arith, h)))
    best-end n b e None is (Some lines) fits h = absurd h
    best-end n b e (Some m) is (Some lines) fits h =
        end-of-two b lines h.0 (ap stated e) (ap may_have_second e ∙ ap is_some is) fits
        (ap (is_concluded model (behind_second h.0.proof)) e ∙ equal-count (length c.proof.added + length h.0.proof.added) n h.1)

    -- the ledger, the derivation, and what stands behind it
    certificate-end : (s : Standing) → IsNext model s (codes "ledger") (standing model part.Ledger v values (start_of model) None None)
        → EndsFrom behind_proof (second_lines d.second ++ codes "end" ∷ []) v → EndsFrom s (certificate_lines d ++ codes "end" ∷ []) v
    certificate-end s next e =
        subst (λ ls. EndsFrom s ls v) (sym shape)
        (behind-line s (standing model part.Ledger v values (start_of model) None None) (codes "ledger") _ v next
        (behind-lines (standing model part.Ledger v values (start_of model) None None) (standing model part.Ledger v values c.last None None) (map step_text d.ledger) _ v
        (ledger-lead model v values (start_of model) c.last d.ledger readable.ledger c.leads)
        (behind-line (standing model part.Ledger v values c.last None None) (standing model part.Proof v values c.last (Some (proof_of (cnf_of c.last))) None) (codes "proof") _ v
        (record { item = ProofBegins; says = (tt, refl); taken = refl })
        (behind-lines (standing model part.Proof v values c.last (Some (proof_of (cnf_of c.last))) None) behind_proof (map line_bytes d.proof) _ v
        (proof-lead model v values c.last (proof_of (cnf_of c.last)) c.proof d.proof readable.proof c.accepted) e))))
      where
        shape : certificate_lines d ++ codes "end" ∷ []
            ≡ codes "ledger" ∷ (map step_text d.ledger ++ codes "proof" ∷ (map line_bytes d.proof ++ (second_lines d.second ++ codes "end" ∷ [])))
        shape =
            ap (λ x. codes "ledger" ∷ x) (append_assoc (map step_text d.ledger) (codes "proof" ∷ (map line_bytes d.proof ++ second_lines d.second)) (codes "end" ∷ [])
            ∙ ap (λ x. map step_text d.ledger ++ codes "proof" ∷ x) (append_assoc (map line_bytes d.proof) (second_lines d.second) (codes "end" ∷ [])))

  -- The first lines.

  abbrev fresh : Part → Verdict → List ℤ → Standing
  fresh p v values = standing model p v values (start_of model) None None

  version-next : IsNext model (start_standing model) (version_line model.goal) (fresh part.Verdict Unsatisfiable [])
  version-next = record {
    item = Version (has_second model.goal);
    says = (tt, refl);
    taken = ap (λ b. when b why.Goal (fresh part.Verdict Unsatisfiable [])) (same-itself (has_second model.goal));
  }

  verdict-next : (v : Verdict) → IsVerdictLine (has_second model.goal) v → verdict_fits model.goal v ≡ true → IsNext model (fresh part.Verdict Unsatisfiable []) (verdict_text v) (fresh (behind_verdict v) v [])
  verdict-next v form fits = record {
    item = Answer v;
    says = (form, refl);
    taken = ap (λ b. when b why.Goal (fresh (behind_verdict v) v [])) fits;
  }

  best-next : (n : ℕ) (b : Bounds) → HasNumbers model.goal b → has_objective model.goal ≡ true → IsNext model (fresh part.Best (Unknown n None) []) (best_line b) (fresh part.Values (Unknown n (Some b)) [])
  best-next n b form sought = record {
    item = Best b;
    says = (form, refl);
    taken = ap (λ t. when t why.Goal (fresh part.Values (Unknown n (Some b)) [])) sought;
  }

  ledger-next : (v : Verdict) (values : List ℤ) → is_certified v ≡ true → in_domains model.decls values ≡ true → values_fault model (fresh part.Values v values) ≡ None
      → IsNext model (fresh part.Values v values) (codes "ledger") (fresh part.Ledger v values)
  ledger-next v values certified inside fault = record {
    item = LedgerBegins;
    says = ((all-named model.decls values inside, certified), refl);
    taken = ap (λ f. unless f (fresh part.Ledger v values)) fault;
  }

  end-next : (v : Verdict) (values : List ℤ) → is_certified v ≡ false → in_domains model.decls values ≡ true → values_fault model (fresh part.Values v values) ≡ None
      → IsNext model (fresh part.Values v values) (codes "end") (fresh part.End v values)
  end-next v values bare inside fault = record {
    item = End;
    says = ((all-named model.decls values inside, bare), refl);
    taken = ap (λ f. unless f (fresh part.End v values)) fault;
  }

  -- the values, and what stands behind them
  values-end : (v : Verdict) (values : List ℤ) (lines : List (List ℕ)) → in_domains model.decls values ≡ true → FitValues values → EndsFrom (fresh part.Values v values) lines v
      → EndsFrom (fresh part.Values v []) (declared_lines model.decls values ++ lines) v
  values-end v values lines inside fits e =
      behind-lines (fresh part.Values v []) (fresh part.Values v values) (declared_lines model.decls values) lines v
      (values-lead model v (start_of model) [] model.decls [] values refl refl inside fits) e

  -- The lines of a document with a verdict and an assignment.

  abbrev given_lines : Option (List ℤ) → List (List ℕ)
  given_lines None = []
  given_lines (Some values) = declared_lines model.decls values

  given-lines : (a : Option Assignment) → assignment_lines model.decls a ≡ given_lines (numbers_given a)
  given-lines None = refl
  given-lines (Some a) = refl

  given-fits : (o : Option Assignment) (values : List ℤ) → FitAssignment o → numbers_given o ≡ Some values → FitValues values
  given-fits None values fits e = absurd (none values e)
    where
      none : (values : List ℤ) → None ≡ Some values → ⊥
      none values e = cc
  given-fits (Some a) values fits e = subst FitValues (same a.values values e) fits
    where
      same : (x y : List ℤ) → Some x ≡ Some y → x ≡ y
      same x y e = cc

  abbrev lines_with : Document → Verdict → Option (List ℤ) → List (List ℕ)
  lines_with d v a = version_line model.goal ∷ verdict_text v ∷ (best_lines v ++ (given_lines a ++ ((if is_certified v then certificate_lines d else []) ++ codes "end" ∷ [])))

  lines-given : (d : Document) (v : Verdict) (a : Option (List ℤ)) → d.verdict ≡ v → numbers_given d.assignment ≡ a → document_lines model.decls model.goal d ≡ lines_with d v a
  lines-given d v a told given =
      ap (λ x. version_line model.goal ∷ verdict_text x ∷ (best_lines x ++ (assignment_lines model.decls d.assignment ++ ((if is_certified x then certificate_lines d else []) ++ codes "end" ∷ [])))) told
      ∙ ap (λ ls. version_line model.goal ∷ verdict_text v ∷ (best_lines v ++ (ls ++ ((if is_certified v then certificate_lines d else []) ++ codes "end" ∷ [])))) (given-lines d.assignment ∙ ap given_lines given)

  from-start : (v u : Verdict) (lines : List (List ℕ)) → IsVerdictLine (has_second model.goal) u → verdict_fits model.goal u ≡ true → EndsFrom (fresh (behind_verdict u) u []) lines v
      → EndsFrom (start_standing model) (version_line model.goal ∷ verdict_text u ∷ lines) v
  from-start v u lines form fits e =
      behind-line (start_standing model) (fresh part.Verdict Unsatisfiable []) (version_line model.goal) (verdict_text u ∷ lines) v version-next
      (behind-line (fresh part.Verdict Unsatisfiable []) (fresh (behind_verdict u) u []) (verdict_text u) lines v (verdict-next u form fits) e)

  solved-fault : (a : List ℤ) (v : Verdict) (b : Bounds) → stated v ≡ Some b → IsSolutionAt model a b → values_fault model (fresh part.Values v a) ≡ None
  solved-fault a v b told h = solution-fault a (stated v) h.solution (ap (objective_fault model.goal a) told ∙ no-fault model.goal a b h.objective)

  by-verdict : (d : Document) (readable : IsReadableDocument d) (v : Verdict) (a : Option (List ℤ)) → d.verdict ≡ v → numbers_given d.assignment ≡ a → VerdictFits model.goal v → AnswerHolds model v a → IsCertified model d v
      → EndsFrom (start_standing model) (lines_with d v a) v
  by-verdict d readable Satisfiable (Some a) told given fits answer certificate =
      from-start Satisfiable Satisfiable _ tt (ap (λ g. not (has_objective g)) fits)
      (values-end Satisfiable a (codes "end" ∷ []) answer.in_domains (given-fits d.assignment a readable.assignment given)
      (record {
        end = fresh part.End Satisfiable a;
        lead = one (fresh part.Values Satisfiable a) (fresh part.End Satisfiable a) (codes "end") (end-next Satisfiable a refl answer.in_domains (solution-fault a None answer refl));
        ended = refl;
        verdict = refl;
      }))
  by-verdict d readable Satisfiable None told given fits answer certificate = absurd answer
  by-verdict d readable Unsatisfiable (Some a) told given fits answer certificate = absurd answer
  by-verdict d readable Unsatisfiable None told given fits answer certificate =
      from-start Unsatisfiable Unsatisfiable _ tt refl
      (certificate-end Unsatisfiable [] d readable certificate.0 (fresh part.Unanswered Unsatisfiable []) (record { item = LedgerBegins; says = (tt, refl); taken = refl })
      (unsatisfiable-end Unsatisfiable [] d readable certificate.0 refl certificate.1 d.second certificate.2))
  by-verdict d readable (Optimum b) (Some a) told given fits answer certificate =
      let numbers = has-numbers model.goal b fits (subst (λ v. FitNumbers (stated v)) told readable.verdict) in
      from-start (Optimum b) (Optimum b) _ numbers.0 numbers.1
      (values-end (Optimum b) a _ answer.solution.in_domains (given-fits d.assignment a readable.assignment given)
      (certificate-end (Optimum b) a d readable certificate.0 (fresh part.Values (Optimum b) a) (ledger-next (Optimum b) a refl answer.solution.in_domains (solved-fault a (Optimum b) b refl answer))
      (optimum-end (Optimum b) a d readable certificate.0 b refl b.second refl d.second readable.second certificate.1)))
  by-verdict d readable (Optimum b) None told given fits answer certificate = absurd answer
  by-verdict d readable (Unknown n None) (Some a) told given fits answer certificate = absurd answer
  by-verdict d readable (Unknown n None) None told given fits answer certificate =
      from-start (Unknown n None) (Unknown n None) _ (omega (arith, fits.1), refl) (count-test n fits.0 fits.1)
      (certificate-end (Unknown n None) [] d readable certificate.0 (fresh part.Best (Unknown n None) []) (record { item = LedgerBegins; says = (tt, refl); taken = refl })
      (unknown-end (Unknown n None) [] d readable certificate.0 n refl d.second certificate.1))
  by-verdict d readable (Unknown n (Some b)) (Some a) told given fits answer certificate =
      let numbers = has-numbers model.goal b fits.2 (subst (λ v. FitNumbers (stated v)) told readable.verdict) in
      from-start (Unknown n (Some b)) (Unknown n None) _ (omega (arith, fits.1), refl) (count-test n fits.0 fits.1)
      (behind-line (fresh part.Best (Unknown n None) []) (fresh part.Values (Unknown n (Some b)) []) (best_line b) _ (Unknown n (Some b)) (best-next n b numbers.0 numbers.1)
      (values-end (Unknown n (Some b)) a _ answer.solution.in_domains (given-fits d.assignment a readable.assignment given)
      (certificate-end (Unknown n (Some b)) a d readable certificate.0 (fresh part.Values (Unknown n (Some b)) a)
      (ledger-next (Unknown n (Some b)) a refl answer.solution.in_domains (solved-fault a (Unknown n (Some b)) b refl answer))
      (best-end (Unknown n (Some b)) a d readable certificate.0 n b refl b.second refl d.second readable.second certificate.1))))
  by-verdict d readable (Unknown n (Some b)) None told given fits answer certificate = absurd answer

  -- where the lines of a document are lines, a valid answer is a whole text, and its verdict is told
  pub valid-whole : ((d : Document) → IsReadableDocument d → VerdictFits model.goal d.verdict → AreLines (document_lines model.decls model.goal d)) → (text : List ℕ) (v : Verdict) (a : Option (List ℤ)) → IsValid model text v a
      → (s : Standing) × IsWhole (IsNext model) IsEnd (start_standing model) text s × (s.verdict ≡ v)
  valid-whole are_lines text v a valid =
      let e = by-verdict valid.document valid.readable v a valid.verdict valid.assignment valid.fits valid.answer valid.certificate in (
        e.end,
        record {
          lines = document_lines model.decls model.goal valid.document;
          are_lines = are_lines valid.document valid.readable (subst (VerdictFits model.goal) (sym valid.verdict) valid.fits);
          joined = valid.spelled;
          lead = subst (λ ls. Lead (IsNext model) (start_standing model) ls e.end) (sym (lines-given valid.document v a valid.verdict valid.assignment)) e.lead;
          ended = e.ended;
        },
        e.verdict,
      )
