-- A compiled text tells the names, what they stand for, and the CNF; so it stands for what these give.
use Rattle.std.proofs.Common.{◌≡◌, ℕ, ◌+◌, ◌*◌, ◌^◌, ◌≤◌, List, [], ◌∷◌, ◌++◌, map, length, drop, get_or, refl, sym, ap, subst, ◌∙◌, arith}
use Rattle.std.specs.List.{list_all}
use Rattle.std.proofs.lemmas.Bool.{and_from}
use Rattle.std.proofs.lemmas.List.Folds.{list_all-append}
use Rattle.bee_text.specs.Lines.{lacks, AreLines}
use Rattle.bee_text.proofs.LineLemmas.{join_lines_injective}
use Rattle.bumblebee_reader.specs.Names.{AreDeclared}
use Rattle.order_ints.specs.Truth.{Valuation}
use Rattle.order_ints.specs.Satisfies.{Satisfies}
use Rattle.order_ints.specs.Numbers.{numbers_of}
use Rattle.name_map.specs.declared.entries.MapEntry.{MapEntry}
use Rattle.name_map.specs.Values.{values_of}
use Rattle.dimacs_out.specs.declared.text.CnfText.{CnfText}
use Rattle.ledger_text.specs.declared.line.Line.{Line}
use Rattle.ledger_text.specs.Steps.{LedgerBelow}
use Rattle.dimacs_out.specs.CompiledText.{entry_line, ledger_line, numbers_line, clause_line, text_lines, text_of, EntriesBelow, IsWritable}
use Rattle.dimacs_out.specs.TextSolutions.{StandsFor}
use Rattle.dimacs_out.specs.TextLaws.{TextTellsAll, StandsForExactly}
use Rattle.dimacs_out.proofs.LinesTell.{IsEntry, entry_line_line, entry_line_tells, entry_line_begins, clause_lines_tell, clause_lines_lines, numbers_line_line, numbers_line_tells}
use Rattle.dimacs_out.proofs.LedgerTells.{ledger_line_tells, ledger_lines_lines}

-- entries that can be written, with variables below n
pub record AreEntries (n : ℕ) (entries : List MapEntry) : Type 0 where
  pub bound : n ≤ 2 ^ 32
  pub names : AreDeclared (map (λ e. e.name) entries)
  pub values : EntriesBelow n entries

first_entry : (n : ℕ) (e : MapEntry) (entries : List MapEntry) → AreEntries n (e ∷ entries) → IsEntry n e
first_entry n e entries h = record { bound = h.bound; spelled = h.names.0.spelled; below = h.values.0 }

later_entries : (n : ℕ) (e : MapEntry) (entries : List MapEntry) → AreEntries n (e ∷ entries) → AreEntries n entries
later_entries n e entries h = record { bound = h.bound; names = h.names.2; values = h.values.1 }

entry_lines_lines : (n : ℕ) (entries : List MapEntry) → AreEntries n entries → AreLines (map entry_line entries)
entry_lines_lines n [] h = refl
entry_lines_lines n (e ∷ entries) h =
    and_from (lacks 10 (entry_line e)) (list_all (lacks 10) (map entry_line entries))
    (entry_line_line n e (first_entry n e entries h)) (entry_lines_lines n entries (later_entries n e entries h))

-- A line that no name's line is: it begins with `c`, a blank and `l`, or with `p`.
abbrev pub beginning : List ℕ → ℕ
beginning line = 1000 * get_or line 0 0 + get_or line 2 0

abbrev BeginsBehind : List (List ℕ) → Type 0
BeginsBehind lines = 99106 ≤ beginning (get_or lines 0 [])

entry_before : (e : MapEntry) → beginning (entry_line e) ≤ 99105
entry_before e = let b = entry_line_begins e in omega (arith, b.0, b.1)

behind_entries : (ledger : List Line) (y : List ℕ) (zs : List (List ℕ)) → get_or y 0 0 ≡ 112 → BeginsBehind (map ledger_line ledger ++ y ∷ zs)
behind_entries [] y zs b = omega (arith, b)
behind_entries (l ∷ ledger) y zs b = omega arith

no_entry : (e : MapEntry) (lines rest : List (List ℕ)) → BeginsBehind lines → entry_line e ∷ rest ≡ lines → ⊥
no_entry e lines rest b same =
    let first : beginning (entry_line e) ≡ beginning (get_or lines 0 []) = ap (λ ls. beginning (get_or ls 0 [])) same in
    omega (arith, entry_before e, b, first)

-- the lines of entries tell the entries and the lines behind them
entry_lines_tell : (n m : ℕ) (entries fs : List MapEntry) (xs ys : List (List ℕ)) → AreEntries n entries → AreEntries m fs → BeginsBehind xs → BeginsBehind ys
    → map entry_line entries ++ xs ≡ map entry_line fs ++ ys → (entries ≡ fs) × (xs ≡ ys)
entry_lines_tell n m [] [] xs ys p q bx by e = (refl, e)
entry_lines_tell n m [] (f ∷ fs) xs ys p q bx by e = absurd (no_entry f xs (map entry_line fs ++ ys) bx (sym e))
entry_lines_tell n m (e ∷ entries) [] xs ys p q bx by same = absurd (no_entry e ys (map entry_line entries ++ xs) by same)
entry_lines_tell n m (e ∷ entries) (f ∷ fs) xs ys p q bx by same =
    let first = entry_line_tells n m e f (first_entry n e entries p) (first_entry m f fs q) (ap (λ ls. get_or ls 0 []) same) in
    let rest = entry_lines_tell n m entries fs xs ys (later_entries n e entries p) (later_entries m f fs q) bx by (ap (drop 1) same) in
    (λ i. first i ∷ rest.0 i, rest.1)

-- the lines of the ledger and a line that begins as none of them tell the ledger, that line and the lines behind it
pub record SameParts (ls ks : List Line) (x y : List ℕ) (xs ys : List (List ℕ)) : Type 0 where
  pub ledger_same : ls ≡ ks
  pub line_same : x ≡ y
  pub lines_same : xs ≡ ys

ledger_lines_tell : (n m : ℕ) (ls ks : List Line) (x y : List ℕ) (xs ys : List (List ℕ)) → n ≤ 2 ^ 32 → m ≤ 2 ^ 32 → LedgerBelow n ls → LedgerBelow m ks
    → get_or x 0 0 ≡ 112 → get_or y 0 0 ≡ 112 → map ledger_line ls ++ x ∷ xs ≡ map ledger_line ks ++ y ∷ ys → SameParts ls ks x y xs ys
ledger_lines_tell n m [] [] x y xs ys bn bm p q bx by e = record { ledger_same = refl; line_same = ap (λ ls. get_or ls 0 []) e; lines_same = ap (drop 1) e }
ledger_lines_tell n m [] (k ∷ ks) x y xs ys bn bm p q bx by e = absurd (omega (arith, bx, ap (λ ls. get_or (get_or ls 0 []) 0 0) e))
ledger_lines_tell n m (l ∷ ls) [] x y xs ys bn bm p q bx by e = absurd (omega (arith, by, ap (λ ls. get_or (get_or ls 0 []) 0 0) e))
ledger_lines_tell n m (l ∷ ls) (k ∷ ks) x y xs ys bn bm p q bx by e =
    let first = ledger_line_tells n m l k bn bm p.0 q.0 (ap (λ ls. get_or ls 0 []) e) in
    let rest = ledger_lines_tell n m ls ks x y xs ys bn bm p.1 q.1 bx by (ap (drop 1) e) in
    record { ledger_same = λ i. first i ∷ rest.ledger_same i; line_same = rest.line_same; lines_same = rest.lines_same }

writable_entries : (x : CnfText) → IsWritable x → AreEntries (x.cnf.vars + 1) x.entries
writable_entries x h = record { bound = omega (arith, h.vars); names = h.names; values = h.values }

lines_join : (xs ys : List (List ℕ)) → AreLines xs → AreLines ys → AreLines (xs ++ ys)
lines_join xs ys p q = list_all-append (lacks 10) xs ys ∙ and_from (list_all (lacks 10) xs) (list_all (lacks 10) ys) p q

-- the lines of a compiled text are lines
pub text_lines_lines : (x : CnfText) → IsWritable x → AreLines (text_lines x)
text_lines_lines x h =
    let n = x.cnf.vars + 1 in
    let numbers = numbers_line x.cnf.vars (length x.cnf.clauses) in
    let clauses = map clause_line x.cnf.clauses in
    lines_join (map entry_line x.entries) (map ledger_line x.ledger ++ numbers ∷ clauses) (entry_lines_lines n x.entries (writable_entries x h))
    (lines_join (map ledger_line x.ledger) (numbers ∷ clauses) (ledger_lines_lines n x.ledger (omega (arith, h.vars)) h.ledger)
    (and_from (lacks 10 numbers) (list_all (lacks 10) clauses) (numbers_line_line x.cnf.vars (length x.cnf.clauses) h.vars h.count)
    (clause_lines_lines n x.cnf.clauses (omega (arith, h.vars)) h.clauses)))

-- the names, the map, the ledger and the CNF of a compiled text are unique
pub text_tells_all : TextTellsAll
text_tells_all x y p q e =
    let n = x.cnf.vars + 1 in
    let m = y.cnf.vars + 1 in
    let v = numbers_line x.cnf.vars (length x.cnf.clauses) in
    let w = numbers_line y.cnf.vars (length y.cnf.clauses) in
    let vs = map clause_line x.cnf.clauses in
    let ws = map clause_line y.cnf.clauses in
    let bn : n ≤ 2 ^ 32 = omega (arith, p.vars) in
    let bm : m ≤ 2 ^ 32 = omega (arith, q.vars) in
    let lines = join_lines_injective (text_lines x) (text_lines y) (text_lines_lines x p) (text_lines_lines y q) e in
    let parts = entry_lines_tell n m x.entries y.entries (map ledger_line x.ledger ++ v ∷ vs) (map ledger_line y.ledger ++ w ∷ ws) (writable_entries x p) (writable_entries y q)
    (behind_entries x.ledger v vs refl) (behind_entries y.ledger w ws refl) (ap (drop 1) lines) in
    let behind = ledger_lines_tell n m x.ledger y.ledger v w vs ws bn bm p.ledger q.ledger refl refl parts.1 in
    let numbers = numbers_line_tells x.cnf.vars y.cnf.vars (length x.cnf.clauses) (length y.cnf.clauses) p.vars q.vars p.count q.count behind.line_same in
    let clauses = clause_lines_tell n m x.cnf.clauses y.cnf.clauses bn bm p.clauses q.clauses behind.lines_same in
    λ i. record { entries = parts.0 i; ledger = behind.ledger_same i; cnf = record { vars = numbers.vars_same i; clauses = clauses i } }

-- a compiled text stands for the assignments of the valuations that satisfy its CNF, and for no other
pub stands_for_exactly : StandsForExactly
stands_for_exactly x a h = (forth, back)
  where
    forth : StandsFor (text_of x) a → (σ : Valuation) × Satisfies σ x.cnf × (a ≡ numbers_of σ (values_of x.entries))
    forth s =
        let same = text_tells_all x s.holds h s.writable s.spelled in
        let P : CnfText → Type 0 = λ y. Satisfies s.valuation y.cnf in
        (s.valuation, subst P (sym same) s.satisfies, s.gives ∙ ap (λ (y : CnfText). numbers_of s.valuation (values_of y.entries)) (sym same))

    back : (σ : Valuation) × Satisfies σ x.cnf × (a ≡ numbers_of σ (values_of x.entries)) → StandsFor (text_of x) a
    back t = record { holds = x; writable = h; spelled = refl; valuation = t.0; satisfies = t.1; gives = t.2 }
