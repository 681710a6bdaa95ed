-- A search that goes on, stops, or learns.
use Rattle.std.proofs.Common.{◌≡◌, ℕ, ◌+◌, ◌-◌, ◌*◌, ◌≤◌, ◌<◌, ◌^◌, true, false, List, [], ◌∷◌, ◌++◌, length, Bor, ap, sym, ◌∙◌, subst, arith, append_assoc}
use Rattle.std.proofs.lemmas.List.{append-nil}
use Rattle.order_ints.specs.declared.cnf.Cnf.{Cnf}
use Rattle.literal_trail.specs.Trail.{Trail}
use Rattle.proof_check.specs.declared.line.ProofLine.{ProofLine}
use Rattle.proof_check.specs.declared.line.ProofLine.TheVariants.{Add}
use Rattle.learning_solver.specs.declared.candidates.Candidates.{Candidates}
use Rattle.learning_solver.specs.declared.search.Search.{Search}
use Rattle.learning_solver.specs.declared.lesson.Lesson.{Lesson}
use Rattle.learning_solver.specs.declared.restarts.Restarts.{Restarts}
use Rattle.learning_solver.specs.declared.task.Task.{Task}
use Rattle.learning_solver.specs.Height.{height}
use Rattle.learning_solver.specs.Log.{GoesOn}
use Rattle.learning_solver.specs.Outcome.{NoneRefutes, most_learned}
use Rattle.learning_solver.specs.Ending.{NoneStands}
use Rattle.learning_solver.specs.Restarting.{AreStretched, Counts}
use Rattle.learning_solver.specs.Searching.{IsSearch, GoesForward, IsAssumed, IsRunning, IsLeft, left_to_do, Stays, TurnsBack, BeginsAnew, Takes, JumpsBack, Forgets}
use Rattle.learning_solver.proofs.HeightLaws.{height-below}
use Rattle.learning_solver.proofs.OpenLaws.{none-refutes}
use Rattle.learning_solver.proofs.RestartLaws.{one-more, stretched-learned, stretched-anew, less-learned}

pub goes-on-same : (old new : List ProofLine) → new ≡ old → GoesOn old new
goes-on-same old new e = let none : List ProofLine = [] in (none, e ∙ sym (append-nil old))

pub goes-on-then : (a b c : List ProofLine) → GoesOn a b → GoesOn b c → GoesOn a c
goes-on-then a b c first second = (first.0 ++ second.0, second.1 ∙ ap (λ (l : List ProofLine). l ++ second.0) first.1 ∙ append_assoc a first.0 second.0)

pub forward-then : (a b c : Search) → GoesForward a b → GoesForward b c → GoesForward a c
forward-then a b c first second = record {
  cnf = second.cnf ∙ first.cnf;
  log = goes-on-then a.lines.items b.lines.items c.lines.items first.log second.log;
}

pub forward-stays : (old new : Search) → Stays old new → GoesForward old new
forward-stays old new stays = record { cnf = stays.cnf; log = goes-on-same old.lines.items new.lines.items stays.lines }

pub forward-turns : (old new : Search) (lesson : Lesson) → TurnsBack old new lesson → GoesForward old new
forward-turns old new lesson turns = record { cnf = turns.cnf; log = (Add lesson.id lesson.lits lesson.hints ∷ [], turns.lines) }

pub forward-takes : (old new : Search) (lesson : Lesson) (c : ℕ) → Takes old new lesson c → GoesForward old new
forward-takes old new lesson c takes = record { cnf = takes.cnf; log = (Add lesson.id lesson.lits lesson.hints ∷ [], takes.lines) }

pub forward-anew : (old new : Search) → BeginsAnew old new → GoesForward old new
forward-anew old new anew = record { cnf = anew.cnf; log = anew.log }

-- nothing goes, or some goes and then more
pub forgets-same : (old new : Search) → new.cnf ≡ old.cnf → new.lines.items ≡ old.lines.items → new.added ≡ old.added → new.db.trail ≡ old.db.trail → Forgets old new
forgets-same old new cnf lines added trail = record { cnf = cnf; log = goes-on-same old.lines.items new.lines.items lines; added = added; trail = trail }

pub forgets-then : (a b c : Search) → Forgets a b → Forgets b c → Forgets a c
forgets-then a b c first second = record {
  cnf = second.cnf ∙ first.cnf;
  log = goes-on-then a.lines.items b.lines.items c.lines.items first.log second.log;
  added = second.added ∙ first.added;
  trail = second.trail ∙ first.trail;
}

pub forgets-candidates : (old new : Search) (k : Candidates) → Forgets old new → Forgets old (record new { candidates = k })
forgets-candidates old new k forgets = record { cnf = forgets.cnf; log = forgets.log; added = forgets.added; trail = forgets.trail }

-- the jump to level 0, and what goes behind it
pub anew-forgets : (s0 s1 s2 : Search) → JumpsBack s0 s1 0 → Forgets s1 s2 → BeginsAnew s0 s2
anew-forgets s0 s1 s2 jumped forgets =
    let same = jumped.same in
    record {
      cnf = forgets.cnf ∙ ap (λ (x : Search). x.cnf) same;
      log = goes-on-then s0.lines.items s1.lines.items s2.lines.items (goes-on-same s0.lines.items s1.lines.items (ap (λ (x : Search). x.lines.items) same)) forgets.log;
      added = forgets.added ∙ ap (λ (x : Search). x.added) same;
      level = ap (λ (t : Trail). t.level) (forgets.trail ∙ jumped.trail);
    }

pub same-vars : (old new : Search) → new.cnf ≡ old.cnf → new.cnf.now.vars ≡ old.cnf.now.vars
same-vars old new e = ap (λ (x : Bor Cnf). x.now.vars) e

-- a search that goes on may stop
pub left-running : (task : Task) (p : Restarts) (s : Search) → IsRunning task p s → IsLeft task p s
left-running task p s is = record {
  search = is.search;
  within = is.within;
  most = omega (arith, one-more s.cnf.now.vars s.added (height s.db.trail) p is.stretched);
}

-- also after something that changes no log
pub left-stays : (task : Task) (p : Restarts) (old new : Search) → IsRunning task p old → Stays old new → IsSearch new → IsLeft task p new
left-stays task p old new is stays search =
    let bound = ap (most_learned p.restart) (same-vars old new stays.cnf) in
    record {
      search = search;
      within = omega (arith, is.within, stays.added);
      most = omega (arith, one-more old.cnf.now.vars old.added (height old.db.trail) p is.stretched, stays.added, bound);
    }

-- and with one more clause
pub left-takes : (task : Task) (p : Restarts) (old mid new : Search) (lesson : Lesson) (c : ℕ) → IsRunning task p old → Stays old mid → Takes mid new lesson c → IsSearch new → old.added < task.budget → IsLeft task p new
left-takes task p old mid new lesson c is stays takes search low =
    let bound = ap (most_learned p.restart) (same-vars mid new takes.cnf ∙ same-vars old mid stays.cnf) in
    record {
      search = search;
      within = omega (arith, low, stays.added, takes.added);
      most = omega (arith, one-more old.cnf.now.vars old.added (height old.db.trail) p is.stretched, stays.added, takes.added, bound);
    }

-- the budget is spent
pub spent : (task : Task) (p : Restarts) (s : Search) → IsRunning task p s → task.budget ≤ s.added → NoneStands s.db.clauses task.assumption
    → (s.added ≡ task.budget) × (s.added < p.start + most_learned p.restart s.cnf.now.vars) × NoneRefutes s.cnf.now s.lines.items task.assumption
spent task p s is high none = (
  omega (arith, is.within, high),
  one-more s.cnf.now.vars s.added (height s.db.trail) p is.stretched,
  none-refutes s.cnf.now s.lines.items s.db.clauses is.search.log is.search.kept task.assumption none,
)

-- a clause is learned
module _ (task : Task) (old-restarts new-restarts : Restarts) (s0 s1 s2 : Search) (lesson : Lesson) (is : IsRunning task old-restarts s0) (stays : Stays s0 s1) (turns : TurnsBack s1 s2 lesson) (low : s0.added < task.budget) where
  vars-then : s2.cnf.now.vars ≡ s0.cnf.now.vars
  vars-then = same-vars s1 s2 turns.cnf ∙ same-vars s0 s1 stays.cnf

  added-then : s2.added ≡ s0.added + 1
  added-then = omega (arith, stays.added, turns.added)

  falls-then : height s2.db.trail < height s0.db.trail
  falls-then = omega (arith, turns.falls, ap height stays.trail)

  assumed-then : 1 ≤ s2.db.trail.level → IsAssumed s2.db.trail task.assumption
  assumed-then above =
      let P : Trail → Type 0 = λ t. 1 ≤ t.level → IsAssumed t task.assumption in
      turns.assumed task.assumption (subst P (sym stays.trail) is.assumed) above

  pub less-then : (s3 : Search) → s3.cnf.now.vars ≡ s0.cnf.now.vars → s3.added ≡ s0.added + 1 → left_to_do task s3 < left_to_do task s0
  less-then s3 vars added =
      let left : ℕ → ℕ → ℕ = λ v a. (task.budget - a) * (v + 1) + (v - length s3.db.trail.entries) in
      let same : left_to_do task s3 ≡ left s0.cnf.now.vars (s0.added + 1) = ap (λ (v : ℕ). left v s3.added) vars ∙ ap (λ (a : ℕ). left s0.cnf.now.vars a) added in
      omega (arith, same, less-learned task.budget s0.added s0.cnf.now.vars (length s0.db.trail.entries) (length s3.db.trail.entries) low)

  pub running-learned : IsSearch s2 → Counts old-restarts new-restarts false → IsRunning task new-restarts s2 × (left_to_do task s2 < left_to_do task s0)
  running-learned search counts =
      let P : ℕ → Type 0 = λ v. AreStretched v s2.added (height s2.db.trail) new-restarts in
      let Q : ℕ → Type 0 = λ a. AreStretched s0.cnf.now.vars a (height s2.db.trail) new-restarts in
      let stretched = subst P (sym vars-then) (subst Q (sym added-then) (stretched-learned s0.cnf.now.vars s0.added (height s0.db.trail) (height s2.db.trail) old-restarts new-restarts is.stretched counts falls-then)) in
      (record { search = search; within = omega (arith, added-then, low); stretched = stretched; assumed = assumed-then }, less-then s2 vars-then added-then)

  pub running-anew : (s3 : Search) → BeginsAnew s2 s3 → IsSearch s3 → Counts old-restarts new-restarts true → IsRunning task new-restarts s3 × (left_to_do task s3 < left_to_do task s0)
  running-anew s3 anew search counts =
      let vars : s3.cnf.now.vars ≡ s0.cnf.now.vars = same-vars s2 s3 anew.cnf ∙ vars-then in
      let added : s3.added ≡ s0.added + 1 = anew.added ∙ added-then in
      let below : height s3.db.trail < 2 ^ s0.cnf.now.vars = omega (arith, height-below s3.db.trail, ap (λ (v : ℕ). 2 ^ v) (search.vars ∙ vars)) in
      let P : ℕ → Type 0 = λ v. AreStretched v s3.added (height s3.db.trail) new-restarts in
      let Q : ℕ → Type 0 = λ a. AreStretched s0.cnf.now.vars a (height s3.db.trail) new-restarts in
      let stretched = subst P (sym vars) (subst Q (sym added) (stretched-anew s0.cnf.now.vars s0.added (height s0.db.trail) (height s2.db.trail) (height s3.db.trail) old-restarts new-restarts is.stretched counts falls-then below)) in (
        record { search = search; within = omega (arith, added, low); stretched = stretched; assumed = λ above. absurd (omega (arith, above, anew.level)) },
        less-then s3 vars added,
      )
