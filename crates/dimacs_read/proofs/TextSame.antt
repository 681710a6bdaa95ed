-- Each line of a compiled text leads to one standing alone.
use Rattle.std.proofs.Common.{◌≡◌, ℕ, ◌+◌, ◌^◌, ◌<◌, ◌⊎◌, inl, inr, List, [], ◌∷◌, ◌++◌, get_or, sym, ap, subst, ◌∙◌, arith}
use Rattle.order_ints.specs.declared.literal.Lit.{Lit}
use Rattle.ledger_text.specs.declared.line.Line.{Line}
use Rattle.ledger_text.specs.declared.line.Line.TheVariants.{Equate, Split, Encode}
use Rattle.ledger_text.specs.Steps.{IsReadableStep, LineBelow}
use Rattle.name_map.specs.declared.entries.MapEntry.{MapEntry}
use Rattle.dimacs_out.specs.CompiledText.{entry_line, ledger_line, numbers_line}
use Rattle.dimacs_out.proofs.LinesTell.{IsEntry, entry_line_tells, entry_line_begins, clause_line_tells, SameNumbers, numbers_line_tells}
use Rattle.dimacs_out.proofs.LedgerTells.{ledger_line_tells}
use Rattle.dimacs_read.specs.declared.draft.TextStage.{TextStage}
use Rattle.dimacs_read.specs.declared.draft.TextStage.TheVariants.{Start, Names, Steps, Clauses}
use Rattle.dimacs_read.specs.TextLines.{IsReadableEntry}
use Rattle.dimacs_read.specs.TextSteps.{Draft, IsNamed, IsLedgered, IsNumbers, IsProblem, IsClause, NextAt, NextLine}

-- what can be read of a ledger line
pub line_of : (l : Line) → IsReadableStep l → LineBelow (2 ^ 27 + 1) l
line_of (Equate id e) h = h
line_of (Split id) h = h
line_of (Encode id) h = h

pub numbers_tell : (line : List ℕ) (v w c d : ℕ) → IsNumbers line v c → IsNumbers line w d → SameNumbers v w c d
numbers_tell line v w c d p q = numbers_line_tells v w c d p.vars_fit q.vars_fit p.count_fits q.count_fits (sym p.spelled ∙ q.spelled)

-- lines of different kinds differ

entry_no_ledger : (e : MapEntry) (l : Line) → entry_line e ≡ ledger_line l → ⊥
entry_no_ledger e l same = let b = entry_line_begins e in omega (arith, b.1, ap (λ t. get_or t 2 0) same)

entry_no_numbers : (e : MapEntry) (v c : ℕ) → entry_line e ≡ numbers_line v c → ⊥
entry_no_numbers e v c same = let b = entry_line_begins e in omega (arith, b.0, ap (λ t. get_or t 0 0) same)

ledger_no_numbers : (l : Line) (v c : ℕ) → ledger_line l ≡ numbers_line v c → ⊥
ledger_no_numbers l v c same = omega (arith, ap (λ t. get_or t 0 0) same)

-- each kind of line tells one thing

pub entry_of : (e : MapEntry) → IsReadableEntry e → IsEntry (2 ^ 27 + 1) e
entry_of e h = record { bound = omega arith; spelled = h.name.spelled; below = h.value }

named_same : (s : Draft) (line : List ℕ) (t u : Draft) → IsNamed s line t → IsNamed s line u → t ≡ u
named_same s line t u p q =
    let n = 2 ^ 27 + 1 in
    let same : p.entry ≡ q.entry = entry_line_tells n n p.entry q.entry (entry_of p.entry p.readable) (entry_of q.entry q.readable) (sym p.spelled ∙ q.spelled) in
    p.after ∙ ap (λ (e : MapEntry). record { stage = Names; entries = s.entries ++ e ∷ []; ledger = s.ledger; clauses = s.clauses }) same ∙ sym q.after

ledgered_same : (s : Draft) (line : List ℕ) (t u : Draft) → IsLedgered s line t → IsLedgered s line u → t ≡ u
ledgered_same s line t u p q =
    let n = 2 ^ 27 + 1 in
    let same : p.step ≡ q.step = ledger_line_tells n n p.step q.step (omega arith) (omega arith) (line_of p.step p.readable) (line_of q.step q.readable) (sym p.spelled ∙ q.spelled) in
    p.after ∙ ap (λ (l : Line). record { stage = Steps; entries = s.entries; ledger = s.ledger ++ l ∷ []; clauses = s.clauses }) same ∙ sym q.after

problem_same : (s : Draft) (line : List ℕ) (t u : Draft) → IsProblem s line t → IsProblem s line u → t ≡ u
problem_same s line t u p q =
    let same = numbers_tell line p.vars q.vars p.count q.count p.numbers q.numbers in
    let both : Clauses p.vars p.count ≡ Clauses q.vars q.count = λ k. Clauses (same.vars_same k) (same.counts_same k) in
    p.after ∙ ap (λ (g : TextStage). record { stage = g; entries = s.entries; ledger = s.ledger; clauses = s.clauses }) both ∙ sym q.after

clause_same : (vars count : ℕ) (s : Draft) (line : List ℕ) (t u : Draft) → vars < 2 ^ 32 → IsClause vars count s line t → IsClause vars count s line u → t ≡ u
clause_same vars count s line t u fits p q =
    let n = vars + 1 in
    let same : p.clause ≡ q.clause = clause_line_tells n n p.clause q.clause (omega arith) (omega arith) p.below q.below (sym p.spelled ∙ q.spelled) in
    p.after ∙ ap (λ (c : List Lit). record { stage = Clauses vars count; entries = s.entries; ledger = s.ledger; clauses = s.clauses ++ c ∷ [] }) same ∙ sym q.after

behind_same : (s : Draft) (line : List ℕ) (t u : Draft) → IsLedgered s line t ⊎ IsProblem s line t → IsLedgered s line u ⊎ IsProblem s line u → t ≡ u
behind_same s line t u (inl p) (inl q) = ledgered_same s line t u p q
behind_same s line t u (inl p) (inr q) = absurd (ledger_no_numbers p.step q.vars q.count (sym p.spelled ∙ q.numbers.spelled))
behind_same s line t u (inr p) (inl q) = absurd (ledger_no_numbers q.step p.vars p.count (sym q.spelled ∙ p.numbers.spelled))
behind_same s line t u (inr p) (inr q) = problem_same s line t u p q

named_no_behind : (s : Draft) (line : List ℕ) (t u : Draft) → IsNamed s line t → IsLedgered s line u ⊎ IsProblem s line u → ⊥
named_no_behind s line t u p (inl q) = entry_no_ledger p.entry q.step (sym p.spelled ∙ q.spelled)
named_no_behind s line t u p (inr q) = entry_no_numbers p.entry q.vars q.count (sym p.spelled ∙ q.numbers.spelled)

names_same : (s : Draft) (line : List ℕ) (t u : Draft) → NextAt Names s line t → NextAt Names s line u → t ≡ u
names_same s line t u (inl p) (inl q) = named_same s line t u p q
names_same s line t u (inl p) (inr q) = absurd (named_no_behind s line t u p q)
names_same s line t u (inr p) (inl q) = absurd (named_no_behind s line u t q p)
names_same s line t u (inr p) (inr q) = behind_same s line t u p q

-- the number of variables fits
abbrev pub FitsStage : TextStage → Type 0
FitsStage Start = Unit {0}
FitsStage Names = Unit {0}
FitsStage Steps = Unit {0}
FitsStage (Clauses vars count) = vars < 2 ^ 32

abbrev pub FitsDraft : Draft → Type 0
FitsDraft s = FitsStage s.stage

next_at_same : (g : TextStage) (s : Draft) (line : List ℕ) (t u : Draft) → FitsStage g → NextAt g s line t → NextAt g s line u → t ≡ u
next_at_same Start s line t u fits p q = p.1 ∙ sym q.1
next_at_same Names s line t u fits p q = names_same s line t u p q
next_at_same Steps s line t u fits p q = behind_same s line t u p q
next_at_same (Clauses vars count) s line t u fits p q = clause_same vars count s line t u fits p q

pub next_line_same : (s t u : Draft) (line : List ℕ) → FitsDraft s → NextLine s line t → NextLine s line u → t ≡ u
next_line_same s t u line fits p q = next_at_same s.stage s line t u fits p q

behind_fits : (s : Draft) (line : List ℕ) (t : Draft) → IsLedgered s line t ⊎ IsProblem s line t → FitsDraft t
behind_fits s line t (inl p) = subst FitsDraft (sym p.after) tt
behind_fits s line t (inr p) = subst FitsDraft (sym p.after) p.numbers.vars_fit

next_at_fits : (g : TextStage) (s : Draft) (line : List ℕ) (t : Draft) → FitsStage g → NextAt g s line t → FitsDraft t
next_at_fits Start s line t fits p = subst FitsDraft (sym p.1) tt
next_at_fits Names s line t fits (inl p) = subst FitsDraft (sym p.after) tt
next_at_fits Names s line t fits (inr p) = behind_fits s line t p
next_at_fits Steps s line t fits p = behind_fits s line t p
next_at_fits (Clauses vars count) s line t fits p = subst FitsDraft (sym p.after) fits

pub next_line_fits : (s t : Draft) (line : List ℕ) → FitsDraft s → NextLine s line t → FitsDraft t
next_line_fits s t line fits p = next_at_fits s.stage s line t fits p
