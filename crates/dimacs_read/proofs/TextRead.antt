-- What lines that lead somewhere spell, and which line fails.
use Rattle.std.proofs.Common.{◌≡◌, ◌≢◌, ℕ, ◌+◌, ◌^◌, ◌<◌, ◌≤◌, ◌⊎◌, inl, inr, List, [], ◌∷◌, ◌++◌, length, map, Option, Some, None, refl, sym, ap, subst, ◌∙◌, arith}
use Rattle.std.proofs.lemmas.List.{map-append, append-nil, append_assoc}
use Rattle.bee_text.specs.Lines.{join_lines, lines_of}
use Rattle.order_ints.specs.declared.literal.Lit.{Lit}
use Rattle.order_ints.specs.Place.{ClauseBelow, ClausesBelow}
use Rattle.ledger_text.specs.declared.line.Line.{Line}
use Rattle.ledger_text.specs.Steps.{IsReadableStep}
use Rattle.bumblebee_reader.specs.Names.{IsDeclarable, IsNew, AreDeclared}
use Rattle.name_map.specs.declared.entries.MapEntry.{MapEntry}
use Rattle.dimacs_out.specs.CompiledText.{entry_line, clause_line, heading, ledger_line, numbers_line, text_lines}
use Rattle.dimacs_read.specs.declared.draft.TextStage.{TextStage}
use Rattle.dimacs_read.specs.declared.draft.TextStage.TheVariants.{Start, Names, Steps, Clauses}
use Rattle.line_texts.specs.LineByLine.{Lead, IsWhole}
use Rattle.line_texts.specs.Ends.{MisfitAt, MissingAt}
use Rattle.dimacs_read.specs.TextLines.{IsReadableEntry, AreReadableEntries, AreReadableSteps, first_above, IsReadable, IsTextOf}
use Rattle.dimacs_read.specs.TextSteps.{Draft, nothing_read, IsNamed, IsLedgered, IsProblem, IsClause, NextAt, NextLine, vars_of, held, HasAll, IsComplete, FaultAt, FailsBefore, TextFails}

-- the lines that were read
abbrev pub lines_at : TextStage → Draft → List (List ℕ)
lines_at Start s = []
lines_at Names s = heading ∷ map entry_line s.entries
lines_at Steps s = heading ∷ (map entry_line s.entries ++ map ledger_line s.ledger)
lines_at (Clauses vars count) s = heading ∷ (map entry_line s.entries ++ (map ledger_line s.ledger ++ numbers_line vars count ∷ map clause_line s.clauses))

-- what isn't read yet is empty, and the clauses are over the variables
abbrev pub StageFits : TextStage → Draft → Type 0
StageFits Start s = (s.entries ≡ []) × (s.ledger ≡ []) × (s.clauses ≡ [])
StageFits Names s = (s.ledger ≡ []) × (s.clauses ≡ [])
StageFits Steps s = s.clauses ≡ []
StageFits (Clauses vars count) s = (vars ≤ 2 ^ 26) × (count < 2 ^ 64) × (first_above vars s.entries s.ledger ≡ None) × ClausesBelow (vars + 1) s.clauses

pub record Spelled (lines : List (List ℕ)) (s : Draft) : Type 0 where
  pub lines_are : lines ≡ lines_at s.stage s
  pub names : AreDeclared (map (λ e. e.name) s.entries)
  pub entries : AreReadableEntries s.entries
  pub ledger : AreReadableSteps s.ledger
  pub stage : StageFits s.stage s

-- one more of each kind

new_push : (n m : List ℕ) (names : List (List ℕ)) → IsNew m names → m ≢ n → IsNew m (names ++ n ∷ [])
new_push n m [] h other = (other, tt)
new_push n m (x ∷ names) h other = (h.0, new_push n m names h.1 other)

declared_push : (names : List (List ℕ)) (n : List ℕ) → AreDeclared names → IsDeclarable n → IsNew n names → AreDeclared (names ++ n ∷ [])
declared_push [] n h d new = (d, tt, tt)
declared_push (m ∷ names) n h d new = (h.0, new_push n m names h.1 (λ e. new.0 (sym e)), declared_push names n h.2 d new.1)

entries_push : (es : List MapEntry) (e : MapEntry) → AreReadableEntries es → IsReadableEntry e → AreReadableEntries (es ++ e ∷ [])
entries_push [] e h k = (k, tt)
entries_push (f ∷ es) e h k = (h.0, entries_push es e h.1 k)

steps_push : (ls : List Line) (l : Line) → AreReadableSteps ls → IsReadableStep l → AreReadableSteps (ls ++ l ∷ [])
steps_push [] l h k = (k, tt)
steps_push (m ∷ ls) l h k = (h.0, steps_push ls l h.1 k)

clauses_push : (n : ℕ) (cs : List (List Lit)) (c : List Lit) → ClausesBelow n cs → ClauseBelow n c → ClausesBelow n (cs ++ c ∷ [])
clauses_push n [] c h k = (k, tt)
clauses_push n (d ∷ cs) c h k = (h.0, clauses_push n cs c h.1 k)

-- lists of lines

named_lines : (lines : List (List ℕ)) (line : List ℕ) (es : List MapEntry) (e : MapEntry) → lines ≡ heading ∷ map entry_line es → line ≡ entry_line e
    → lines ++ line ∷ [] ≡ heading ∷ map entry_line (es ++ e ∷ [])
named_lines lines line es e a b = (λ i. a i ++ b i ∷ []) ∙ ap (λ ls. heading ∷ ls) (sym (map-append entry_line es (e ∷ [])))

pushed : (xs ys : List (List ℕ)) (z : List ℕ) → (heading ∷ (xs ++ ys)) ++ z ∷ [] ≡ heading ∷ (xs ++ (ys ++ z ∷ []))
pushed xs ys z = ap (λ ls. heading ∷ ls) (append_assoc xs ys (z ∷ []))

ledgered_lines : (lines : List (List ℕ)) (line : List ℕ) (es : List MapEntry) (ls : List Line) (l : Line) → lines ≡ heading ∷ (map entry_line es ++ map ledger_line ls) → line ≡ ledger_line l
    → lines ++ line ∷ [] ≡ heading ∷ (map entry_line es ++ map ledger_line (ls ++ l ∷ []))
ledgered_lines lines line es ls l a b =
    (λ i. a i ++ b i ∷ []) ∙ pushed (map entry_line es) (map ledger_line ls) (ledger_line l) ∙ ap (λ xs. heading ∷ (map entry_line es ++ xs)) (sym (map-append ledger_line ls (l ∷ [])))

clause_lines : (lines : List (List ℕ)) (line : List ℕ) (es : List MapEntry) (ls : List Line) (n : List ℕ) (cs : List (List Lit)) (c : List Lit)
    → lines ≡ heading ∷ (map entry_line es ++ (map ledger_line ls ++ n ∷ map clause_line cs)) → line ≡ clause_line c
    → lines ++ line ∷ [] ≡ heading ∷ (map entry_line es ++ (map ledger_line ls ++ n ∷ map clause_line (cs ++ c ∷ [])))
clause_lines lines line es ls n cs c a b =
    (λ i. a i ++ b i ∷ []) ∙ pushed (map entry_line es) (map ledger_line ls ++ n ∷ map clause_line cs) (clause_line c)
    ∙ ap (λ xs. heading ∷ (map entry_line es ++ xs)) (append_assoc (map ledger_line ls) (n ∷ map clause_line cs) (clause_line c ∷ []) ∙ ap (λ xs. map ledger_line ls ++ n ∷ xs) (sym (map-append clause_line cs (c ∷ []))))

-- a front of names is one of names and no ledger
no_ledger : (lines : List (List ℕ)) (es : List MapEntry) (ls : List Line) → ls ≡ [] → lines ≡ heading ∷ map entry_line es → lines ≡ heading ∷ (map entry_line es ++ map ledger_line ls)
no_ledger lines es ls none a = a ∙ ap (λ xs. heading ∷ xs) (sym (append-nil (map entry_line es))) ∙ ap (λ (ms : List Line). heading ∷ (map entry_line es ++ map ledger_line ms)) (sym none)

-- each step

module _ (lines : List (List ℕ)) (s : Draft) (line : List ℕ) (t : Draft) where
  spelled_named : s.stage ≡ Names → Spelled lines s → IsNamed s line t → Spelled (lines ++ line ∷ []) t
  spelled_named is h n =
      let P : TextStage → Type 0 = λ g. lines ≡ lines_at g s in
      let Q : TextStage → Type 0 = λ g. StageFits g s in
      let names : lines ≡ lines_at Names s = subst P is h.lines_are in
      let stage : StageFits Names s = subst Q is h.stage in
      let R : List (List ℕ) → Type 0 = AreDeclared in
      let G : Draft → Type 0 = Spelled (lines ++ line ∷ []) in
      subst G (sym n.after) (record {
        lines_are = named_lines lines line s.entries n.entry names n.spelled;
        names = subst R (sym (map-append (λ (e : MapEntry). e.name) s.entries (n.entry ∷ []))) (declared_push (map (λ e. e.name) s.entries) n.entry.name h.names n.readable.name n.new);
        entries = entries_push s.entries n.entry h.entries n.readable;
        ledger = h.ledger;
        stage = stage;
      })

  spelled_ledgered : lines ≡ heading ∷ (map entry_line s.entries ++ map ledger_line s.ledger) → s.clauses ≡ [] → Spelled lines s → IsLedgered s line t → Spelled (lines ++ line ∷ []) t
  spelled_ledgered are none h n =
      let G : Draft → Type 0 = Spelled (lines ++ line ∷ []) in
      subst G (sym n.after) (record {
        lines_are = ledgered_lines lines line s.entries s.ledger n.step are n.spelled;
        names = h.names;
        entries = h.entries;
        ledger = steps_push s.ledger n.step h.ledger n.readable;
        stage = none;
      })

  spelled_problem : lines ≡ heading ∷ (map entry_line s.entries ++ map ledger_line s.ledger) → s.clauses ≡ [] → Spelled lines s → IsProblem s line t → Spelled (lines ++ line ∷ []) t
  spelled_problem are none h n =
      let G : Draft → Type 0 = Spelled (lines ++ line ∷ []) in
      let B : List (List Lit) → Type 0 = ClausesBelow (n.vars + 1) in
      subst G (sym n.after) (record {
        lines_are = (λ i. are i ++ n.numbers.spelled i ∷ []) ∙ pushed (map entry_line s.entries) (map ledger_line s.ledger) (numbers_line n.vars n.count)
            ∙ ap (λ (cs : List (List Lit)). heading ∷ (map entry_line s.entries ++ (map ledger_line s.ledger ++ numbers_line n.vars n.count ∷ map clause_line cs))) (sym none);
        names = h.names;
        entries = h.entries;
        ledger = h.ledger;
        stage = (n.most, n.numbers.count_fits, n.within, subst B (sym none) tt);
      })

  spelled_behind : lines ≡ heading ∷ (map entry_line s.entries ++ map ledger_line s.ledger) → s.clauses ≡ [] → Spelled lines s → IsLedgered s line t ⊎ IsProblem s line t
      → Spelled (lines ++ line ∷ []) t
  spelled_behind are none h (inl n) = spelled_ledgered are none h n
  spelled_behind are none h (inr n) = spelled_problem are none h n

  spelled_clause : (vars count : ℕ) → lines ≡ lines_at (Clauses vars count) s → StageFits (Clauses vars count) s → Spelled lines s → IsClause vars count s line t → Spelled (lines ++ line ∷ []) t
  spelled_clause vars count are stage h n =
      let G : Draft → Type 0 = Spelled (lines ++ line ∷ []) in
      subst G (sym n.after) (record {
        lines_are = clause_lines lines line s.entries s.ledger (numbers_line vars count) s.clauses n.clause are n.spelled;
        names = h.names;
        entries = h.entries;
        ledger = h.ledger;
        stage = (stage.0, stage.1, stage.2, clauses_push (vars + 1) s.clauses n.clause stage.3 n.below);
      })

  spelled_heading : lines ≡ [] → StageFits Start s → Spelled lines s → NextAt Start s line t → Spelled (lines ++ line ∷ []) t
  spelled_heading are stage h n =
      let G : Draft → Type 0 = Spelled (lines ++ line ∷ []) in
      subst G (sym n.1) (record {
        lines_are = (λ i. are i ++ n.0 i ∷ []) ∙ ap (λ (es : List MapEntry). heading ∷ map entry_line es) (sym stage.0);
        names = h.names;
        entries = h.entries;
        ledger = h.ledger;
        stage = (stage.1, stage.2);
      })

  spelled_names : lines ≡ lines_at Names s → StageFits Names s → s.stage ≡ Names → Spelled lines s → NextAt Names s line t → Spelled (lines ++ line ∷ []) t
  spelled_names are stage is h (inl n) = spelled_named is h n
  spelled_names are stage is h (inr n) = spelled_behind (no_ledger lines s.entries s.ledger stage.0 are) stage.1 h n

  spelled_at : (g : TextStage) → s.stage ≡ g → lines ≡ lines_at g s → StageFits g s → Spelled lines s → NextAt g s line t → Spelled (lines ++ line ∷ []) t
  spelled_at Start is are stage h n = spelled_heading are stage h n
  spelled_at Names is are stage h n = spelled_names are stage is h n
  spelled_at Steps is are stage h n = spelled_behind are stage h n
  spelled_at (Clauses vars count) is are stage h n = spelled_clause vars count are stage h n

pub spelled_next : (lines : List (List ℕ)) (s : Draft) (line : List ℕ) (t : Draft) → Spelled lines s → NextLine s line t → Spelled (lines ++ line ∷ []) t
spelled_next lines s line t h n = spelled_at lines s line t s.stage refl h.lines_are h.stage h n

pub spelled_start : Spelled [] nothing_read
spelled_start = record { lines_are = refl; names = tt; entries = tt; ledger = tt; stage = (refl, refl, refl) }

lead_spelled : (before lines : List (List ℕ)) (s t : Draft) → Spelled before s → Lead NextLine s lines t → Spelled (before ++ lines) t
lead_spelled before [] s t h lead =
    let P : Draft → Type 0 = Spelled (before ++ []) in
    let Q : List (List ℕ) → Type 0 = λ ls. Spelled ls s in
    subst P lead (subst Q (sym (append-nil before)) h)
lead_spelled before (line ∷ lines) s t h lead =
    let Q : List (List ℕ) → Type 0 = λ ls. Spelled ls t in
    subst Q (append_assoc before (line ∷ []) lines) (lead_spelled (before ++ line ∷ []) lines lead.0 t (spelled_next before s line lead.0 h lead.1) lead.2)

-- a text that is whole is the text of what it holds

held_of : (g : TextStage) (s : Draft) (lines : List (List ℕ)) → s.stage ≡ g → HasAll g (length s.clauses) → lines ≡ lines_at g s → StageFits g s → Spelled lines s
    → IsReadable (held s) × (lines ≡ text_lines (held s))
held_of Start s lines is all are fits h = absurd all
held_of Names s lines is all are fits h = absurd all
held_of Steps s lines is all are fits h = absurd all
held_of (Clauses vars count) s lines is all are fits h =
    let P : TextStage → Type 0 = λ g. IsReadable (record { entries = s.entries; ledger = s.ledger; cnf = record { vars = vars_of g; clauses = s.clauses } }) × (lines ≡ text_lines (record { entries = s.entries; ledger = s.ledger; cnf = record { vars = vars_of g; clauses = s.clauses } })) in
    subst P (sym is) (
      record {
        names = h.names;
        entries = h.entries;
        ledger = h.ledger;
        vars = fits.0;
        within = fits.2;
        clauses = fits.3;
        count = omega (arith, all, fits.1);
      },
      are ∙ ap (λ n. heading ∷ (map entry_line s.entries ++ (map ledger_line s.ledger ++ numbers_line vars n ∷ map clause_line s.clauses))) (sym all),
    )

pub whole_text : (text : List ℕ) (s : Draft) → IsWhole NextLine IsComplete nothing_read text s → IsTextOf (held s) text
whole_text text s h =
    let spelled = lead_spelled [] h.lines nothing_read s spelled_start h.lead in
    let both = held_of s.stage s h.lines refl h.ended spelled.lines_are spelled.stage spelled in
    record { readable = both.0; spelled = h.joined ∙ ap join_lines both.1 }

-- which line fails

pub text_line_fails : (text : List ℕ) (here number : ℕ) (before : Option ℕ) → MisfitAt NextLine FailsBefore nothing_read text here before → ((s : Draft) (line : List ℕ) → FailsBefore s line before → FaultAt s line here number)
    → TextFails text number
text_line_fails text here number before h fault =
    let P : ℕ → Type 0 = λ k. FaultAt h.stands h.line k number in
    record { before = h.before; left = h.line ∷ h.left; parts = h.parts; stands = h.stands; lead = h.lead; misfit = h.misfit; fault = subst P h.number_is (fault h.stands h.line h.because) }

-- a line before it, or the line itself
pub text_fails_before : (text : List ℕ) (here number : ℕ) → MisfitAt NextLine FailsBefore nothing_read text here (Some number) → TextFails text number
text_fails_before text here number h = text_line_fails text here number (Some number) h (λ s line above. inl above)

pub text_fails_here : (text : List ℕ) (here : ℕ) → MisfitAt NextLine FailsBefore nothing_read text here None → TextFails text here
text_fails_here text here h = text_line_fails text here here None h (λ s line none. inr (none, refl))

pub text_end_fails : (text : List ℕ) (number : ℕ) → MissingAt NextLine IsComplete nothing_read text number → TextFails text number
text_end_fails text number h =
    record { before = lines_of text; left = []; parts = sym (append-nil (lines_of text)); stands = h.stands; lead = h.lead; misfit = h.early; fault = h.number_is }
