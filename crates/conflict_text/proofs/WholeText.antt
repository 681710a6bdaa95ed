-- The text of a document of a conflict is whole.
use Rattle.std.proofs.Common.{◌≡◌, inl, inr, ℕ, suc, ◌+◌, ◌<◌, ◌≤◌, ◌^◌, true, not, ◌==◌, List, [], ◌∷◌, ◌++◌, map, codes, length, append_assoc, ℤ, Option, None, Some, Ok, refl, sym, ap, ◌∙◌, subst, arith}
use Rattle.std.specs.Prelude.{slice_get, FitsSigned}
use Rattle.std.specs.Fmt.{decimal}
use Rattle.std.specs.Int.{w64}
use Rattle.std.proofs.lemmas.Bool.{false≢true, and_parts, and_from}
use Rattle.std.proofs.lemmas.Int.{ints}
use Rattle.std.proofs.lemmas.List.{append-nil}
use Rattle.std.proofs.lemmas.List.Folds.{list_all-append}
use Rattle.bee_text.specs.Lines.{lacks, IsLine, AreLines}
use Rattle.bee_text.proofs.GapLemmas.{word_line}
use Rattle.bee_text.proofs.NumberLemmas.{decimal_word}
use Rattle.model_meaning.specs.declared.model.Assignment.{Assignment}
use Rattle.model_meaning.specs.declared.model.Decl.{Decl}
use Rattle.model_meaning.specs.declared.model.Model.{Model}
use Rattle.model_meaning.specs.Domains.{domain, in_domains}
use Rattle.model_meaning.specs.Integers.{is_member}
use Rattle.model_meaning.specs.Limits.{InLimit, InLimits, DeclsInLimit}
use Rattle.model_parts.specs.Only.{only}
use Rattle.name_map.specs.ValueLines.{declared_lines}
use Rattle.ledger_text.specs.declared.line.Line.{Line}
use Rattle.ledger_text.specs.Steps.{step_text}
use Rattle.step_kernel.specs.Kernel.{Kernel}
use Rattle.step_kernel.specs.CnfOf.{cnf_of}
use Rattle.step_kernel.specs.Steps.{replay}
use Rattle.proof_check.specs.declared.line.ProofLine.{ProofLine}
use Rattle.proof_check.specs.Lines.{line_bytes}
use Rattle.proof_check.specs.Lrat.{Proof, proof_of, take_lines}
use Rattle.answer_document.specs.Told.{AreNames}
use Rattle.answer_document.specs.Valid.{start_of, FitValues, AreReadableSteps, AreReadableLines}
use Rattle.answer_document.proofs.DocumentLines.{line-more, lines-append, values-are-lines, steps-are-lines, proof-are-lines}
use Rattle.line_texts.specs.LineByLine.{Lead}
use Rattle.line_texts.proofs.Leads.{lead_join}
use Rattle.certificate_lines.specs.CertificateLines.{IsValueLine}
use Rattle.certificate_lines.proofs.LineLaws.{member-limit}
use Rattle.certificate_lines.proofs.Leads.{ledger-leads, derivation-leads}
use Rattle.conflict_text.specs.declared.document.ConflictDocument.{ConflictDocument}
use Rattle.conflict_text.specs.declared.part.Part.{Part}
use Rattle.conflict_text.specs.declared.part.Part.TheVariants as part
use Rattle.conflict_text.specs.declared.verdict.CoreVerdict.{CoreVerdict}
use Rattle.conflict_text.specs.declared.verdict.CoreVerdict.TheVariants.{Satisfiable, Core, Unknown}
use Rattle.conflict_text.specs.ConflictLines.{Standing, start_standing, version_line, verdict_line, statement_line, without_line, VerdictFits, behind_verdict, MayName, HasNamed, Continues, GoesOn, IsNext}
use Rattle.conflict_text.specs.ConflictDocuments.{certificate_lines, witness_lines, solution_lines, behind_lines, conflict_lines, AreNumbers, ArePart, AreWitnesses, IsOneSolution, IsDocumentOf, IsConflictDocument}
use Rattle.conflict_text.specs.ConflictSays.{WrittenLaw}

-- The lines are lines.

fits-word : (z : ℤ) → InLimit z → FitsSigned w64 z
fits-word z h = omega (arith, ints)

values-fit : (ds : List Decl) (a : List ℤ) → DeclsInLimit ds → in_domains ds a ≡ true → FitValues a
values-fit [] [] limits e = tt
values-fit [] (z ∷ a) limits e = absurd (false≢true e)
values-fit (d ∷ ds) [] limits e = absurd (false≢true e)
values-fit (d ∷ ds) (z ∷ a) limits e =
    let parts = and_parts (is_member z (domain d.kind)) (in_domains ds a) e in
    (fits-word z (member-limit d z limits.0 parts.0), values-fit ds a limits.1 parts.1)

line-append : (v w : List ℕ) → IsLine v → IsLine w → IsLine (v ++ w)
line-append v w h k = list_all-append (λ b. not (b == 10)) v w ∙ and_from (lacks 10 v) (lacks 10 w) h k

number-is-line : (word : List ℕ) (n : ℕ) → IsLine word → n < 2 ^ 64 → IsLine (word ++ decimal n)
number-is-line word n w h = line-append word (decimal n) w (word_line (decimal n) (decimal_word n (omega (arith, h))))

verdict-is-line : (v : CoreVerdict) → VerdictFits v → IsLine (verdict_line v)
verdict-is-line Satisfiable h = refl
verdict-is-line (Core k) h = number-is-line (codes "CORE ") k refl h
verdict-is-line (Unknown n) h = let small = h.1 in number-is-line (codes "UNKNOWN ") n refl (omega (arith, small))

statements-are-lines : (ns : List ℕ) → AreNumbers ns → AreLines (map statement_line ns)
statements-are-lines [] h = refl
statements-are-lines (n ∷ ns) h = line-more (statement_line n) (map statement_line ns) (number-is-line (codes "statement ") n refl h.0) (statements-are-lines ns h.1)

certificate-are-lines : (ns : List ℕ) (ledger : List Line) (proof : List ProofLine) → AreNumbers ns → AreReadableSteps ledger → AreReadableLines proof → AreLines (certificate_lines ns ledger proof)
certificate-are-lines ns ledger proof numbers steps lines =
    lines-append (map statement_line ns) ((codes "ledger" ∷ map step_text ledger) ++ (codes "proof" ∷ map line_bytes proof)) (statements-are-lines ns numbers)
    (lines-append (codes "ledger" ∷ map step_text ledger) (codes "proof" ∷ map line_bytes proof) (line-more (codes "ledger") (map step_text ledger) refl (steps-are-lines ledger steps))
    (line-more (codes "proof") (map line_bytes proof) refl (proof-are-lines proof lines)))

module _ (model : Model) (limits : InLimits model) (names : AreNames model.decls) where
  witnesses-are-lines : (conflict ns : List ℕ) (given : List Assignment) → AreNumbers ns → AreWitnesses model conflict ns given → AreLines (witness_lines model.decls ns given)
  witnesses-are-lines conflict [] given numbers h = refl
  witnesses-are-lines conflict (n ∷ ns) [] numbers h = refl
  witnesses-are-lines conflict (n ∷ ns) (a ∷ given) numbers h =
      line-more (without_line n) (declared_lines model.decls a.values ++ witness_lines model.decls ns given) (number-is-line (codes "without ") n refl numbers.0)
      (lines-append (declared_lines model.decls a.values) (witness_lines model.decls ns given) (values-are-lines model.decls a.values names (values-fit model.decls a.values limits.0 h.0.in_domains))
      (witnesses-are-lines conflict ns given numbers.1 h.1))

  solution-are-lines : (given : List Assignment) → IsOneSolution model given → AreLines (solution_lines model.decls given)
  solution-are-lines [] h = refl
  solution-are-lines (a ∷ []) h = values-are-lines model.decls a.values names (values-fit model.decls a.values limits.0 h.in_domains)
  solution-are-lines (a ∷ b ∷ given) h = absurd h

  behind-are-lines : (d : ConflictDocument) (v : CoreVerdict) → AreNumbers d.statements → IsDocumentOf model d v → AreLines (behind_lines model.decls d v)
  behind-are-lines d Satisfiable numbers h = solution-are-lines d.assignments h
  behind-are-lines d (Core k) numbers h =
      lines-append (certificate_lines d.statements d.ledger d.proof) (witness_lines model.decls d.statements d.assignments) (certificate-are-lines d.statements d.ledger d.proof numbers h.0.steps h.0.lines)
      (witnesses-are-lines d.statements d.statements d.assignments numbers h.3)
  behind-are-lines d (Unknown n) numbers h = certificate-are-lines d.statements d.ledger d.proof numbers h.0.steps h.0.lines

  conflict-are-lines : (d : ConflictDocument) → AreNumbers d.statements → IsConflictDocument model d → AreLines (conflict_lines model.decls d)
  conflict-are-lines d numbers h =
      line-more version_line (verdict_line d.verdict ∷ (behind_lines model.decls d d.verdict ++ codes "end" ∷ [])) refl
      (line-more (verdict_line d.verdict) (behind_lines model.decls d d.verdict ++ codes "end" ∷ []) (verdict-is-line d.verdict h.fits)
      (lines-append (behind_lines model.decls d d.verdict) (codes "end" ∷ []) (behind-are-lines d d.verdict numbers h.document) refl))

-- Places behind a front.

turn-behind : {A : Type 0} (front : List A) (x : A) (xs : List A) → slice_get (front ++ x ∷ xs) (length front) ≡ Some x
turn-behind [] x xs = refl
turn-behind (y ∷ front) x xs = turn-behind front x xs

none-behind : {A : Type 0} (front : List A) → slice_get (front ++ []) (length front) ≡ None
none-behind [] = refl
none-behind (y ∷ front) = none-behind front

longer : {A B : Type 0} (front : List A) (others : List B) (x : A) (y : B) → length front ≡ length others → length (front ++ x ∷ []) ≡ length (others ++ y ∷ [])
longer [] [] x y e = refl
longer [] (z ∷ others) x y e = absurd (omega (arith, e))
longer (w ∷ front) [] x y e = absurd (omega (arith, e))
longer (w ∷ front) (z ∷ others) x y e = let f : length front ≡ length others = omega (arith, e) in ap suc (longer front others x y f)

one-longer : (front : List ℕ) (n b : ℕ) → b ≡ length front → b + 1 ≡ length (front ++ n ∷ [])
one-longer [] n b e = omega (arith, e)
one-longer (m ∷ front) n b e =
    let f : length front + 1 ≡ length (front ++ n ∷ []) = one-longer front n (length front) refl in
    omega (arith, e, f)

pub all-valued : (ds : List Decl) (a : List ℤ) → in_domains ds a ≡ true → length a ≡ length ds
all-valued [] [] e = refl
all-valued [] (z ∷ a) e = absurd (false≢true e)
all-valued (d ∷ ds) [] e = absurd (false≢true e)
all-valued (d ∷ ds) (z ∷ a) e = ap suc (all-valued ds a (and_parts (is_member z (domain d.kind)) (in_domains ds a) e).1)

-- The values of an assignment lead on, where the line of each value does.
module _ (decls : List Decl) (at : List ℤ → Standing)
    (one : (values : List ℤ) (d : Decl) (z : ℤ) (line : List ℕ) → slice_get decls (length values) ≡ Some d → IsValueLine d line z → IsNext (at values) line (at (values ++ z ∷ []))) where
  values-lead : (values : List ℤ) (front ds : List Decl) (a : List ℤ) → decls ≡ front ++ ds → length front ≡ length values → in_domains ds a ≡ true → Lead IsNext (at values) (declared_lines ds a) (at (values ++ a))
  values-lead values front [] [] parts many inside = ap at (sym (append-nil values))
  values-lead values front [] (z ∷ a) parts many inside = absurd (false≢true inside)
  values-lead values front (d ∷ ds) [] parts many inside = absurd (false≢true inside)
  values-lead values front (d ∷ ds) (z ∷ a) parts many inside =
      let both = and_parts (is_member z (domain d.kind)) (in_domains ds a) inside in
      let front_is : slice_get decls (length values) ≡ slice_get (front ++ d ∷ ds) (length front) = λ i. slice_get (parts i) (sym many i) in (
        at (values ++ z ∷ []),
        one values d z _ (front_is ∙ turn-behind front d ds) (record { inside = both.0; spelled = refl }),
        subst (λ (x : List ℤ). Lead IsNext (at (values ++ z ∷ [])) (declared_lines ds a) (at x)) (append_assoc values (z ∷ []) a)
            (values-lead (values ++ z ∷ []) (front ++ d ∷ []) ds a (parts ∙ sym (append_assoc front (d ∷ []) ds)) (longer front values d z many) both.1),
      )

-- The lines lead from a standing to the end, with a verdict.
abbrev Ends : CoreVerdict → Standing → List (List ℕ) → Type 0
Ends v s lines = (t : Standing) × (Lead IsNext s lines t × ((t.part ≡ part.End) × (t.verdict ≡ v)))

ends-join : (v : CoreVerdict) (s m : Standing) (xs ys : List (List ℕ)) → Lead IsNext s xs m → Ends v m ys → Ends v s (xs ++ ys)
ends-join v s m xs ys lead h = (h.0, (lead_join IsNext s xs ys m h.0 lead h.1.0, h.1.1))

ends-more : (v : CoreVerdict) (s m : Standing) (line : List ℕ) (ys : List (List ℕ)) → IsNext s line m → Ends v m ys → Ends v s (line ∷ ys)
ends-more v s m line ys next h = (h.0, ((m, next, h.1.0), h.1.1))

module _ (model : Model) where
  -- behind the verdict
  abbrev at_solution : List ℤ → Standing
  at_solution values =
      record { model = model; part = part.Values; verdict = Satisfiable; conflict = []; now = 0; begun = 0; values = values; kernel = None; proof = None }

  solution-ends : (given : List Assignment) → IsOneSolution model given → Ends Satisfiable (at_solution []) (solution_lines model.decls given ++ codes "end" ∷ [])
  solution-ends [] h = absurd h
  solution-ends (a ∷ []) h =
      ends-join Satisfiable (at_solution []) (at_solution a.values) (declared_lines model.decls a.values) (codes "end" ∷ [])
      (values-lead model.decls at_solution (λ values d z line turn told. inl (record { decl = d; turn = turn; value = z; told = told; behind = refl })) [] [] model.decls a.values refl refl h.in_domains) (
        record (at_solution a.values) { part = part.End },
        (
          (
            record (at_solution a.values) { part = part.End },
            inr (record { all = all-valued model.decls a.values h.in_domains; in_domains = h.in_domains; holds = h.holds }, (refl, refl)),
            refl,
          ),
          (refl, refl),
        ),
      )
  solution-ends (a ∷ b ∷ given) h = absurd h

  module _ (v : CoreVerdict) where
    abbrev at_statements : List ℕ → ℕ → Standing
    at_statements conflict now =
        record { model = model; part = part.Statements; verdict = v; conflict = conflict; now = now; begun = 0; values = []; kernel = None; proof = None }

    -- the last number of a part
    abbrev last_of : ℕ → List ℕ → ℕ
    last_of now [] = now
    last_of now (n ∷ ns) = last_of n ns

    names-lead : (total : ℕ) → ((m : ℕ) → m < total → MayName v m) → (done : List ℕ) (now : ℕ) (ns : List ℕ) → length done + length ns ≤ total → ArePart model now ns → AreNumbers ns
        → Lead IsNext (at_statements done now) (map statement_line ns) (at_statements (done ++ ns) (last_of now ns))
    names-lead total room done now [] few h small = ap (λ (c : List ℕ). at_statements c now) (sym (append-nil done))
    names-lead total room done now (n ∷ ns) few h small = (
      at_statements (done ++ n ∷ []) n,
      inl (record { number = n; small = small.0; spelled = refl; room = room (length done) (omega (arith, few)); above = h.0; named = h.1; behind = refl }),
      subst (λ (c : List ℕ). Lead IsNext (at_statements (done ++ n ∷ []) n) (map statement_line ns) (at_statements c (last_of n ns))) (append_assoc done (n ∷ []) ns)
          (names-lead total room (done ++ n ∷ []) n ns (let e = one-longer done n (length done) refl in omega (arith, few, e)) h.2 small.1),
    )

    module _ (conflict : List ℕ) (last : Kernel) (reached : Proof) where
      abbrev at_ledger : ℕ → Kernel → Standing
      at_ledger now k =
          record { model = only model conflict; part = part.Ledger; verdict = v; conflict = conflict; now = now; begun = 0; values = []; kernel = Some k; proof = None }

      abbrev at_proof : ℕ → Proof → Standing
      at_proof now p =
          record { model = only model conflict; part = part.Proof; verdict = v; conflict = conflict; now = now; begun = 0; values = []; kernel = Some last; proof = Some p }

      abbrev at_values : ℕ → ℕ → List ℤ → Standing
      at_values now begun values =
          record { model = only model conflict; part = part.Values; verdict = v; conflict = conflict; now = now; begun = begun; values = values; kernel = Some last; proof = Some reached }

      -- the lines from the first statement to the last line of the derivation
      certificate-lead : (ledger : List Line) (proof : List ProofLine) → ArePart model 0 conflict → AreNumbers conflict → ((m : ℕ) → m < length conflict → MayName v m) → HasNamed v (length conflict) → AreReadableSteps ledger
          → AreReadableLines proof → replay (start_of (only model conflict)) ledger ≡ Ok last → take_lines (proof_of (cnf_of last)) proof ≡ Ok reached
          → Lead IsNext (at_statements [] 0) (certificate_lines conflict ledger proof) (at_proof (last_of 0 conflict) reached)
      certificate-lead ledger proof is small room complete steps lines leads accepted =
          let now = last_of 0 conflict in
          let start = start_of (only model conflict) in
          let begun = proof_of (cnf_of last) in
          lead_join IsNext (at_statements [] 0) (map statement_line conflict) ((codes "ledger" ∷ map step_text ledger) ++ (codes "proof" ∷ map line_bytes proof)) (at_statements conflict now) (at_proof now reached)
          (names-lead (length conflict) room [] 0 conflict (omega arith) is small) (
            at_ledger now start,
            inr (record { spelled = refl; complete = complete; behind = refl }),
            lead_join IsNext (at_ledger now start) (map step_text ledger) (codes "proof" ∷ map line_bytes proof) (at_ledger now last) (at_proof now reached)
                (ledger-leads IsNext (at_ledger now) (λ k next line step. inl (record { now = k; at = refl; next = next; step = step; behind = refl })) start last ledger steps leads) (
                  at_proof now begun,
                  inr (record { last = last; at = refl; spelled = refl; behind = refl }),
                  derivation-leads IsNext (at_proof now) (λ p next line derived. inl (record { now = p; at = refl; next = next; derived = derived; behind = refl })) begun reached proof lines accepted,
                ),
          )

-- The assignments of a conflict, from where the next one may begin.
module _ (model : Model) (k : ℕ) (conflict : List ℕ) (last : Kernel) (reached : Proof) where
  abbrev witnessing : Part → ℕ → ℕ → List ℤ → Standing
  witnessing p now begun values =
      record { model = only model conflict; part = p; verdict = Core k; conflict = conflict; now = now; begun = begun; values = values; kernel = Some last; proof = Some reached }

  witnesses-end : (p : Part) (now begun : ℕ) (values : List ℤ) (front ns : List ℕ) (given : List Assignment)
      → ((line : List ℕ) (t : Standing) → GoesOn (witnessing p now begun values) line t → IsNext (witnessing p now begun values) line t) → begun ≡ length front → conflict ≡ front ++ ns → AreWitnesses model conflict ns given
      → Ends (Core k) (witnessing p now begun values) (witness_lines model.decls ns given ++ codes "end" ∷ [])
  witnesses-end p now begun values front [] (a ∷ given) onward count parts h = absurd h
  witnesses-end p now begun values front (n ∷ ns) [] onward count parts h = absurd h
  witnesses-end p now begun values front [] [] onward count parts h =
      let none : None ≡ slice_get conflict begun = sym ((λ i. slice_get (parts i) (count i)) ∙ none-behind front) in
      let s = witnessing p now begun values in
      let ended : Standing = record s { part = part.End } in
      (ended, ((ended, onward (codes "end") ended (subst (λ (o : Option ℕ). Continues s o (codes "end") ended) none (refl, refl)), refl), (refl, refl)))
  witnesses-end p now begun values front (n ∷ ns) (a ∷ given) onward count parts h =
      let some : Some n ≡ slice_get conflict begun = sym ((λ i. slice_get (parts i) (count i)) ∙ turn-behind front n ns) in
      let s = witnessing p now begun values in
      let t = witnessing part.Values n (begun + 1) [] in
      let u = witnessing part.Values n (begun + 1) a.values in
      let met : (line : List ℕ) (t : Standing) → GoesOn u line t → IsNext u line t
      = λ line t goes. inr (record { all = all-valued model.decls a.values h.0.in_domains; in_domains = h.0.in_domains; holds = h.0.others }, goes) in
      let behind = witnesses-end part.Values n (begun + 1) a.values (front ++ n ∷ []) ns given met (one-longer front n begun count) (parts ∙ sym (append_assoc front (n ∷ []) ns)) h.1 in
      let valued = values-lead model.decls (witnessing part.Values n (begun + 1)) (λ values d z line turn told. inl (record { decl = d; turn = turn; value = z; told = told; behind = refl })) [] [] model.decls a.values refl
      refl h.0.in_domains in
      ends-more (Core k) s t (without_line n) ((declared_lines model.decls a.values ++ witness_lines model.decls ns given) ++ codes "end" ∷ [])
      (onward (without_line n) t (subst (λ (o : Option ℕ). Continues s o (without_line n) t) some (refl, refl)))
      (subst (λ (ls : List (List ℕ)). Ends (Core k) t ls) (sym (append_assoc (declared_lines model.decls a.values) (witness_lines model.decls ns given) (codes "end" ∷ [])))
      (ends-join (Core k) t u (declared_lines model.decls a.values) (witness_lines model.decls ns given ++ codes "end" ∷ []) valued behind))

module _ (model : Model) (d : ConflictDocument) (numbers : AreNumbers d.statements) where
  -- the standing behind the verdict
  abbrev behind : CoreVerdict → Standing
  behind v = record (start_standing model) { part = behind_verdict v; verdict = v }

  behind-ends : (v : CoreVerdict) → IsDocumentOf model d v → Ends v (behind v) (behind_lines model.decls d v ++ codes "end" ∷ [])
  behind-ends Satisfiable h = solution-ends model d.assignments h
  behind-ends (Core k) h =
      let conflict = d.statements in
      let s = h.0 in
      let complete : length conflict ≡ k = h.2 in
      let now = last_of model (Core k) 0 conflict in
      let lead = certificate-lead model (Core k) conflict s.last s.proof d.ledger d.proof s.part numbers (λ m less. subst (λ (n : ℕ). m < n) complete less) complete s.steps s.lines s.leads s.accepted in
      let rest = witnesses-end model k conflict s.last s.proof part.Proof now 0 [] [] conflict d.assignments (λ line t goes. inr (h.1, goes)) refl refl h.3 in
      subst (λ (ls : List (List ℕ)). Ends (Core k) (behind (Core k)) ls) (sym (append_assoc (certificate_lines conflict d.ledger d.proof) (witness_lines model.decls conflict d.assignments) (codes "end" ∷ [])))
      (ends-join (Core k) (behind (Core k)) (at_proof model (Core k) conflict s.last s.proof now s.proof) (certificate_lines conflict d.ledger d.proof) (witness_lines model.decls conflict d.assignments ++ codes "end" ∷ []) lead rest)
  behind-ends (Unknown n) h =
      let conflict = d.statements in
      let s = h.0 in
      let now = last_of model (Unknown n) 0 conflict in
      let lead = certificate-lead model (Unknown n) conflict s.last s.proof d.ledger d.proof s.part numbers (λ m less. tt) tt s.steps s.lines s.leads s.accepted in
      let m = at_proof model (Unknown n) conflict s.last s.proof now s.proof in
      let ended : Standing = record m { part = part.End } in
      ends-join (Unknown n) (behind (Unknown n)) m (certificate_lines conflict d.ledger d.proof) (codes "end" ∷ []) lead
      (ended, ((ended, inr (h.1, (refl, refl)), refl), (refl, refl)))

  text-ends : IsConflictDocument model d → Ends d.verdict (start_standing model) (conflict_lines model.decls d)
  text-ends h =
      ends-more d.verdict (start_standing model) (record (start_standing model) { part = part.Verdict }) version_line (verdict_line d.verdict ∷ (behind_lines model.decls d d.verdict ++ codes "end" ∷ [])) (refl, refl)
      (ends-more d.verdict (record (start_standing model) { part = part.Verdict }) (behind d.verdict) (verdict_line d.verdict) (behind_lines model.decls d d.verdict ++ codes "end" ∷ [])
      (record { verdict = d.verdict; fits = h.fits; spelled = refl; behind = refl }) (behind-ends d.verdict h.document))

pub written-law : WrittenLaw
written-law model d limits names numbers h =
    let t = text-ends model d numbers h in
    record {
      stands = t.0;
      whole = record { lines = conflict_lines model.decls d; are_lines = conflict-are-lines model limits names d numbers h; joined = refl; lead = t.1.0; ended = t.1.1.0 };
      verdict = t.1.1.1;
    }
