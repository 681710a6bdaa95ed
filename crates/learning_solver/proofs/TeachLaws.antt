-- What is learned has no fault and is new.
use Rattle.std.proofs.Common.{◌≡◌, ℕ, ◌+◌, ◌-◌, ◌≤◌, List, [], ◌∷◌, map, pos, Some, None, Bor, ap, sym, ◌∙◌, subst, arith, ⊎_elim}
use Rattle.std.specs.Prelude.{Contains, ℤ}
use Rattle.std.proofs.lemmas.List.Sorted.{IsPermutation-sym}
use Rattle.order_ints.specs.declared.literal.Lit.{Lit}
use Rattle.order_ints.specs.declared.cnf.Cnf.{Cnf}
use Rattle.order_ints.specs.Place.{LitBelow}
use Rattle.literal_trail.specs.declared.entry.Entry.{Entry}
use Rattle.literal_trail.specs.Trail.{Trail, IsTrail, entry_of, up_to}
use Rattle.literal_trail.specs.Standing.{IsQuiet}
use Rattle.literal_trail.proofs.Entries.{entry_of-found}
use Rattle.clause_arena.specs.Clauses.{Clause, IsLive, lits_of}
use Rattle.clause_rings.specs.Clauses.{IsDb}
use Rattle.clause_rings.proofs.Literals.{quiet-permuted}
use Rattle.proof_check.specs.declared.line.ProofLine.{ProofLine}
use Rattle.proof_check.specs.Named.{Named, Lives}
use Rattle.proof_check.specs.New.{New}
use Rattle.proof_check.specs.Lrat.{Proof, addition_fault}
use Rattle.conflict_analysis.specs.Learned.{IsLearned, AreKept, hints_of}
use Rattle.conflict_analysis.specs.Analysis.{IsAnalysed, IsRefuted, IsForced}
use Rattle.conflict_analysis.proofs.Newness.{learned-new, learned-range}
use Rattle.conflict_analysis.proofs.Places.{in-range}
use Rattle.learning_solver.specs.declared.search.Search.{Search}
use Rattle.learning_solver.specs.declared.lesson.Lesson.{Lesson}
use Rattle.learning_solver.specs.Sight.{named_in}
use Rattle.learning_solver.specs.Log.{proof_behind}
use Rattle.learning_solver.specs.Kept.{IsKept}
use Rattle.learning_solver.specs.Searching.{IsSearch, Stays, IsReady, Teaches}
use Rattle.learning_solver.proofs.ReasonLaws.{reasons-there, member-cases}
use Rattle.learning_solver.proofs.AcceptLaws.{addition-accepted}
use Rattle.learning_solver.proofs.EndLaws.{new-stays}

-- each clause that lives is neither false nor unit at the end of the level below the current one
lives-quiet : (live : List Named) (cs : List Clause) (t : Trail) → IsKept live cs → IsDb cs t → 1 ≤ t.level → (d : Named) → Lives live d → IsQuiet (up_to (t.level - 1) t.entries) d.lits
lives-quiet live cs t kept db above d lives =
    let st = kept.stored d lives in
    quiet-permuted (up_to (t.level - 1) t.entries) (lits_of cs st.0) d.lits (IsPermutation-sym d.lits (lits_of cs st.0) st.1.lits) (db.below (t.level - 1) (omega (arith, above)) st.0 st.1.live)

-- so no clause that lives lies within a clause that is false by one literal of the current level
new-learned : (live : List Named) (cs : List Clause) (t : Trail) (first : Lit) (others : List Lit) (jump : ℕ) → IsKept live cs → IsDb cs t → AreKept t.entries t.level first others jump → New live (first ∷ others)
new-learned live cs t first others jump kept db are =
    learned-new live t first others jump db.trail are (lives-quiet live cs t kept db (omega (arith, are.below)))

-- which is in range
kept-range : (t : Trail) → IsTrail t → (vars : ℕ) → t.vars ≡ vars → (first : Lit) (others : List Lit) (jump : ℕ) → AreKept t.entries t.level first others jump → (l : Lit) → Contains (first ∷ others) l → LitBelow (vars + 1) l
kept-range t is vars same first others jump are l has = subst (λ n. LitBelow (n + 1) l) same (learned-range t first others jump is are l has)

-- a log that stays, an id, literals and hints that are these
pub fault-stays : (old new : Search) (lesson : Lesson) (lits : List Lit) (hints : List ℕ) → Stays old new → lesson.id ≡ (proof_behind new.cnf.now new.lines.items).last + 1 → lesson.lits ≡ lits → lesson.hints ≡ map pos hints → addition_fault (proof_behind old.cnf.now old.lines.items) ((proof_behind old.cnf.now old.lines.items).last + 1) lits (map pos hints) ≡ None → addition_fault (proof_behind new.cnf.now new.lines.items) lesson.id lesson.lits lesson.hints ≡ None
fault-stays old new lesson lits hints stays next same-lits same-hints none =
    let p : Search → Proof = λ s. proof_behind s.cnf.now s.lines.items in
    let same : p new ≡ p old = ap (λ (x : Bor Cnf). proof_behind x.now new.lines.items) stays.cnf ∙ ap (λ (ls : List ProofLine). proof_behind old.cnf.now ls) stays.lines in
    ap (λ (i : ℕ). addition_fault (p new) i lesson.lits lesson.hints) next
    ∙ ap (λ (ls : List Lit). addition_fault (p new) ((p new).last + 1) ls lesson.hints) same-lits
    ∙ ap (λ (hs : List ℤ). addition_fault (p new) ((p new).last + 1) lits hs) same-hints
    ∙ ap (λ (q : Proof). addition_fault q (q.last + 1) lits (map pos hints)) same
    ∙ none

-- what the analysis of a conflict finds
pub teaches : (old new : Search) (c : ℕ) (lesson : Lesson) → IsSearch old → IsLive old.db.clauses c → Stays old new → IsReady new lesson → IsAnalysed old.db.trail (named_in old.db.clauses) (named_in old.db.clauses c) new.walker → Teaches new lesson
teaches old new c lesson is there stays ready found =
    let t = old.db.trail in
    let cs = old.db.clauses in
    let lits = ready.lits ∙ found.shape in
    let hints : lesson.hints ≡ map pos (hints_of found.steps (named_in cs c)) = ready.hints ∙ ap (map pos) found.told in
    let L : List Lit → Type 0 = IsLearned t.entries (named_in cs) (named_in cs c) found.steps in
    let range = kept-range t is.db.trail old.cnf.now.vars is.vars found.first found.others new.walker.jump found.kept in
    let none = addition-accepted old.cnf.now old.lines.items cs t c found.steps (found.first ∷ found.others) is.log is.kept is.db there (subst L found.shape found.learned) range in
    let K : Trail → Type 0 = λ u. AreKept u.entries u.level found.first found.others new.walker.jump in
    record {
      fault = fault-stays old new lesson (found.first ∷ found.others) (hints_of found.steps (named_in cs c)) stays ready.next lits hints none;
      new = new-stays old new stays (found.first ∷ found.others) lesson.lits lits (new-learned (proof_behind old.cnf.now old.lines.items).live cs t found.first found.others new.walker.jump is.kept is.db found.kept);
      first = found.first;
      others = found.others;
      shape = lits;
      kept = subst K (sym stays.trail) found.kept;
    }

-- what is refuted at level 0 has no fault
pub refuted-accepted : (old new : Search) (c : ℕ) (lesson : Lesson) (lits : List Lit) → IsSearch old → IsLive old.db.clauses c → Stays old new → IsReady new lesson → IsRefuted old.db.trail (named_in old.db.clauses) (named_in old.db.clauses c) lits new.walker → ((l : Lit) → Contains lits l → LitBelow (old.cnf.now.vars + 1) l) → addition_fault (proof_behind new.cnf.now new.lines.items) lesson.id lesson.lits lesson.hints ≡ None
refuted-accepted old new c lesson lits is there stays ready found range =
    let cs = old.db.clauses in
    fault-stays old new lesson lits (hints_of found.steps (named_in cs c)) stays ready.next (ready.lits ∙ found.same) (ready.hints ∙ ap (map pos) found.told)
    (addition-accepted old.cnf.now old.lines.items cs old.db.trail c found.steps lits is.log is.kept is.db there found.learned range)

pub empty-range : (n : ℕ) (l : Lit) → Contains [] l → LitBelow n l
empty-range n l has = absurd (omega (arith, has.1))

-- one literal that has an entry is in range
pub one-range : (t : Trail) → IsTrail t → (vars : ℕ) → t.vars ≡ vars → (m : Lit) (e : Entry) → entry_of t.entries m.var ≡ Some e → (l : Lit) → Contains (m ∷ []) l → LitBelow (vars + 1) l
one-range t is vars same m e found l has =
    let range = in-range t is m.var e found in
    ⊎_elim
    (λ (it : m ≡ l). let P : Lit → Type 0 = LitBelow (vars + 1) in subst P it (range.0, omega (arith, range.1, same)))
    (λ (there : Contains [] l). absurd (omega (arith, there.1)))
    (member-cases m [] l has)

-- the reason of an entry lives
pub forced-live : (cs : List Clause) (t : Trail) → IsDb cs t → (v : ℕ) (e : Entry) (c : ℕ) → IsForced t.entries v e c → IsLive cs c
forced-live cs t db v e c forced =
    let f = entry_of-found t.entries v e forced.found in
    let reasons = reasons-there cs t.entries db.reasons in
    reasons.live f.place c f.below (ap (λ (x : Entry). x.reason) f.is ∙ forced.because)
