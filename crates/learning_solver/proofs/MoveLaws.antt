-- A search whose clause store moves on: propagation, decisions, the start of a call.
use Rattle.std.proofs.Common.{◌≡◌, ℕ, ◌+◌, ◌≤◌, ◌<◌, ◌^◌, Bool, true, false, List, [], ◌∷◌, ◌++◌, length, Option, Some, None, Result, Ok, Err, refl, ap, sym, ◌∙◌, subst, arith, ⊎_elim, ◌⊎◌, append_assoc, drop, not}
use Rattle.std.proofs.lemmas.List.{append-nil}
use Rattle.std.specs.Prelude.{if◌then◌else◌, option_map}
use Rattle.std.specs.Bool.{beq}
use Rattle.std.proofs.lemmas.List.{length-append, take-append-drop}
use Rattle.std.proofs.lemmas.Bool.{cases_lt}
use Rattle.std.specs.declared.alloc.AllocError.{AllocError}
use Rattle.order_ints.specs.declared.literal.Lit.{Lit}
use Rattle.order_ints.specs.Truth.{not_lit}
use Rattle.literal_trail.specs.Standing.{IsFalse}
use Rattle.conflict_analysis.specs.Analysis.{IsFalseAtBottom}
use Rattle.literal_trail.specs.declared.entry.Entry.{Entry}
use Rattle.literal_trail.specs.Trail.{Trail, IsTrail, entry_of, truth_in, up_to, chosen}
use Rattle.literal_trail.proofs.Entries.{by_entry, truth_in-none, truth_in-stays, truth_in-some, entry_of-push, entry_of-found}
use Rattle.literal_trail.proofs.Levels.{up_to-push, up_to-whole, take-up_to, levelled-above}
use Rattle.clause_arena.specs.Clauses.{Clause}
use Rattle.clause_rings.specs.Clauses.{ClauseLists, IsDb, SameClauses, Follows}
use Rattle.clause_rings.specs.Clauses.Follows.{same, more}
use Rattle.learning_solver.specs.declared.candidates.Candidates.{Candidates}
use Rattle.learning_solver.specs.declared.search.Search.{Search}
use Rattle.learning_solver.specs.declared.restarts.Restarts.{Restarts}
use Rattle.learning_solver.specs.declared.task.Task.{Task}
use Rattle.learning_solver.specs.declared.found.Found.{Found}
use Rattle.learning_solver.specs.Height.{height}
use Rattle.learning_solver.specs.Log.{proof_behind}
use Rattle.learning_solver.specs.Kept.{IsKept, AreOnce}
use Rattle.learning_solver.specs.Deciding.{IsTrueIn}
use Rattle.learning_solver.specs.Order.{IsFreeIn}
use Rattle.learning_solver.specs.Searching.{IsSearch, IsAssumed, IsRunning, IsTurned, IsLeft, left_to_do, JumpsBack}
use Rattle.learning_solver.proofs.HeightLaws.{height-below, height-chosen, height-follows}
use Rattle.learning_solver.proofs.KeptLaws.{kept-same}
use Rattle.learning_solver.proofs.DeleteLaws.{once-same}
use Rattle.learning_solver.proofs.RestartLaws.{stretched-lower, stretched-start, less-assigned}
use Rattle.learning_solver.proofs.TurnLaws.{assumed-more}

-- another clause store that fits
pub search-db : (s : Search) (d : ClauseLists) → IsSearch s → IsDb d.clauses d.trail → d.trail.vars ≡ s.db.trail.vars → IsKept (proof_behind s.cnf.now s.lines.items).live d.clauses → AreOnce s.base d.clauses → IsSearch (record s { db = d })
search-db s d is db vars kept once = record {
  db = db;
  vars = vars ∙ is.vars;
  few = is.few;
  log = is.log;
  base = is.base;
  added = is.added;
  kept = kept;
  once = once;
  order = is.order;
  walker = is.walker;
}

-- another table of candidates
pub search-candidates : (s : Search) (k : Candidates) → IsSearch s → IsSearch (record s { candidates = k })
search-candidates s k is = record {
  db = is.db;
  vars = is.vars;
  few = is.few;
  log = is.log;
  base = is.base;
  added = is.added;
  kept = is.kept;
  once = is.once;
  order = is.order;
  walker = is.walker;
}

-- literals that follow come behind
follows-more : (cs : List Clause) (t u : Trail) → Follows cs t u → (rest : List Entry) × (u.entries ≡ t.entries ++ rest)
follows-more cs t _ same = let none : List Entry = [] in (none, sym (append-nil t.entries))
follows-more cs t _ (more u l c before live unit) =
    let w = follows-more cs t u before in
    let e : Entry = record { lit = l; level = u.level; reason = Some c } in
    (w.0 ++ e ∷ [], ap (λ (es : List Entry). es ++ e ∷ []) w.1 ∙ append_assoc t.entries w.0 (e ∷ []))

follows-vars : (cs : List Clause) (t u : Trail) → Follows cs t u → (u.vars ≡ t.vars) × (u.level ≡ t.level)
follows-vars cs t _ same = (refl, refl)
follows-vars cs t _ (more u l c before live unit) = follows-vars cs t u before

-- propagation
module _ (task : Task) (p : Restarts) (s : Search) (d : ClauseLists) (is : IsRunning task p s) (same-clauses : SameClauses s.db.clauses d.clauses) (follows : Follows d.clauses s.db.trail d.trail) (db : IsDb d.clauses d.trail) where
  pub running-propagated : IsRunning task p (record s { db = d })
  running-propagated =
      let w = follows-more d.clauses s.db.trail d.trail follows in
      let vars = follows-vars d.clauses s.db.trail d.trail follows in
      record {
        search =
            search-db s d is.search db vars.0 (kept-same (proof_behind s.cnf.now s.lines.items).live s.db.clauses d.clauses is.search.kept same-clauses)
            (once-same s.base s.db.clauses d.clauses is.search.once same-clauses);
        within = is.within;
        stretched = stretched-lower s.cnf.now.vars s.added (height s.db.trail) (height d.trail) p is.stretched (height-follows d.clauses s.db.trail d.trail follows);
        assumed = λ above. assumed-more s.db.trail d.trail w.0 task.assumption w.1 (is.assumed (omega (arith, above, vars.1)));
      }

  pub turned-propagated : (p' : Restarts) (new : Search) (r : Result (Option Found) AllocError) → IsTurned task (record s { db = d }) p' new r → IsTurned task s p' new r
  turned-propagated p' new (Ok None) turned =
      let w = follows-more d.clauses s.db.trail d.trail follows in
      (turned.0, omega (arith, turned.1, ap (λ (es : List Entry). length es) w.1, length-append s.db.trail.entries w.0))
  turned-propagated p' new (Ok (Some found)) turned = turned
  turned-propagated p' new (Err e) turned = turned

-- what is true with fewer entries is so with more
pub true-more : (t : Trail) (l : Lit) → truth_in (up_to 1 t.entries) l ≡ Some true → truth_in t.entries l ≡ Some true
true-more t l e =
    let m = length (up_to 1 t.entries) in
    let whole : t.entries ≡ up_to 1 t.entries ++ drop m t.entries = sym (take-append-drop m t.entries) ∙ ap (λ (es : List Entry). es ++ drop m t.entries) (take-up_to 1 t.entries) in
    let P : List Entry → Type 0 = λ es. truth_in es l ≡ Some true in
    subst P (sym whole) (truth_in-stays (up_to 1 t.entries) (drop m t.entries) l true e)

pub assumed-true : (t : Trail) (a : Option Lit) → IsAssumed t a → IsTrueIn t a
assumed-true t None was = tt
assumed-true t (Some l) was = true-more t l was

-- a decision
module _ (t : Trail) (is : IsTrail t) (l : Lit) (free : entry_of t.entries l.var ≡ None) (next : IsTrail (chosen t l)) where
  last : Entry
  last = record { lit = l; level = t.level + 1; reason = None }

  whole-then : t.level ≡ 0 → up_to 1 (t.entries ++ last ∷ []) ≡ t.entries ++ last ∷ []
  unfolding last
  whole-then zero-level = up_to-whole 1 (t.entries ++ record { lit = l; level = t.level + 1; reason = None } ∷ []) 0 (t.level + 1) next.levelled (omega (arith, zero-level))

  lit-true : truth_in (t.entries ++ last ∷ []) l ≡ Some true
  unfolding last
  lit-true =
      truth_in-some (t.entries ++ record { lit = l; level = t.level + 1; reason = None } ∷ []) l (record { lit = l; level = t.level + 1; reason = None }) (entry_of-push t.entries (record { lit = l; level = t.level + 1; reason = None }) free)
      ∙ ap (λ (b : Bool). Some b) (itself l.positive)
    where
      itself : (b : Bool) → (if b then b else not b) ≡ true
      itself true = refl
      itself false = refl

  pub assumed-chosen : (a : Option Lit) → (1 ≤ t.level → IsAssumed t a) → (IsTrueIn t a) ⊎ (a ≡ Some l) → IsAssumed (chosen t l) a
  unfolding last
  assumed-chosen a was stands =
      ⊎_elim
      (λ (bottom : t.level < 1).
      let whole = whole-then (omega arith) in
      ⊎_elim
      (λ (holds : IsTrueIn t a). at-bottom a whole holds)
      (λ (is-it : a ≡ Some l).
      let P : Option Lit → Type 0 = IsAssumed (chosen t l) in
      let Q : List Entry → Type 0 = λ es. truth_in es l ≡ Some true in
      subst P (sym is-it) (subst Q (sym whole) lit-true))
      stands)
      (λ (above : 1 ≤ t.level).
      let before = was above in
      let e = up_to-push 1 t.entries (record { lit = l; level = t.level + 1; reason = None }) (omega (arith, above)) in
      at-higher a e before)
      (cases_lt t.level 1)
    where
      at-bottom : (a : Option Lit) → up_to 1 (t.entries ++ last ∷ []) ≡ t.entries ++ last ∷ [] → IsTrueIn t a → IsAssumed (chosen t l) a
      at-bottom None whole holds = tt
      at-bottom (Some x) whole holds = let Q : List Entry → Type 0 = λ es. truth_in es x ≡ Some true in subst Q (sym whole) (truth_in-stays t.entries (last ∷ []) x true holds)

      at-higher : (a : Option Lit) → up_to 1 (t.entries ++ last ∷ []) ≡ up_to 1 t.entries → IsAssumed t a → IsAssumed (chosen t l) a
      at-higher None e before = tt
      at-higher (Some x) e before = let Q : List Entry → Type 0 = λ es. truth_in es x ≡ Some true in subst Q (sym e) before

pub running-decided : (task : Task) (p : Restarts) (s : Search) (d : ClauseLists) (l : Lit) → IsRunning task p s → d.clauses ≡ s.db.clauses → d.trail ≡ chosen s.db.trail l → IsDb d.clauses d.trail → IsFreeIn s.db.trail l.var → (IsTrueIn s.db.trail task.assumption) ⊎ (task.assumption ≡ Some l) → IsRunning task p (record s { db = d }) × (left_to_do task (record s { db = d }) < left_to_do task s)
running-decided task p s d l is clauses trail db free stands =
    let P : List Clause → Type 0 = IsKept (proof_behind s.cnf.now s.lines.items).live in
    let O : List Clause → Type 0 = AreOnce s.base in
    let Q : Trail → Type 0 = IsTrail in
    let R : Trail → Type 0 = λ t. IsAssumed t task.assumption in
    let next = subst Q trail db.trail in
    let long = ap (λ (t : Trail). length t.entries) trail in (
      record {
        search = search-db s d is.search db (ap (λ (t : Trail). t.vars) trail) (subst P (sym clauses) is.search.kept) (subst O (sym clauses) is.search.once);
        within = is.within;
        stretched = stretched-lower s.cnf.now.vars s.added (height s.db.trail) (height d.trail) p is.stretched (omega (arith, ap height trail, height-chosen s.db.trail l));
        assumed = λ above. subst R (sym trail) (assumed-chosen s.db.trail is.search.db.trail l free.free next task.assumption is.assumed stands);
      },
      less-assigned task.budget s.added s.cnf.now.vars (length s.db.trail.entries) (length d.trail.entries)
          (omega (arith, long, length-append s.db.trail.entries (record { lit = l; level = s.db.trail.level + 1; reason = None } ∷ [])))
          (omega (arith, db.trail.fits, ap (λ (t : Trail). t.vars) trail, is.search.vars)),
    )

-- the start of a call
pub running-started : (task : Task) (restart : Bool) (old s : Search) → JumpsBack old s 0 → IsSearch s → s.added ≤ task.budget → IsRunning task (record { start = s.added; restart = restart; stretches = 0; learned = 0 }) s
running-started task restart old s jumped search within = record {
  search = search;
  within = within;
  stretched = stretched-start s.cnf.now.vars s.added (height s.db.trail) restart (omega (arith, height-below s.db.trail, ap (λ (v : ℕ). 2 ^ v) search.vars));
  assumed = λ above. absurd (omega (arith, above, ap (λ (t : Trail). t.level) jumped.trail));
}

-- at level 0 each entry has a reason
pub reason-there : (t : Trail) → IsTrail t → t.level ≡ 0 → (v : ℕ) (e : Entry) → entry_of t.entries v ≡ Some e → e.reason ≡ None → ⊥
reason-there t is bottom v e found none =
    let f = entry_of-found t.entries v e found in
    let P : Entry → Type 0 = λ x. x.reason ≡ None in
    let above = levelled-above t.entries 0 t.level is.levelled f.place f.below (subst P (sym f.is) none) in
    omega (arith, above, is.top f.place f.below, bottom)

pub level-bottom : (t : Trail) → IsTrail t → t.level ≡ 0 → (v : ℕ) (e : Entry) → entry_of t.entries v ≡ Some e → e.level ≡ 0
level-bottom t is bottom v e found =
    let f = entry_of-found t.entries v e found in
    let P : Entry → Type 0 = λ x. x.level ≤ t.level in
    let low = subst P f.is (is.top f.place f.below) in
    omega (arith, low, bottom)

-- a clause that is false at level 0
pub bottom-false : (t : Trail) → IsTrail t → t.level ≡ 0 → (lits : List Lit) → IsFalse t.entries lits → IsFalseAtBottom t.entries lits
bottom-false t is bottom lits fails l has = record {
  is_false = fails l has;
  of_level =
      by_entry t.entries l.var
      (λ none. let e : None ≡ Some false = sym (truth_in-none t.entries l none) ∙ fails l has in cc)
      (λ e found. ap (λ (o : Option Entry). option_map (λ (x : Entry). x.level) o) found ∙ ap (λ (n : ℕ). Some n) (level-bottom t is bottom l.var e found));
}

lit-made : (l m : Lit) → l.var ≡ m.var → l.positive ≡ m.positive → l ≡ m
lit-made l m vars phases =
    let made : ℕ → Bool → Lit = λ v b. record { var = v; positive = b } in
    ap (λ (v : ℕ). made v l.positive) vars ∙ ap (λ (b : Bool). made m.var b) phases

other-sign : (a b : Bool) → beq a b ≡ false → a ≡ not b
other-sign true true e = cc
other-sign true false e = refl
other-sign false true e = refl
other-sign false false e = cc

pub lit-negated : (l a : Lit) → l.var ≡ a.var → beq l.positive a.positive ≡ false → l ≡ not_lit a
lit-negated l a vars phases = lit-made l (not_lit a) vars (other-sign l.positive a.positive phases)

pub entry-var : (t : Trail) (v : ℕ) (e : Entry) → entry_of t.entries v ≡ Some e → e.lit.var ≡ v
entry-var t v e found = (entry_of-found t.entries v e found).var

-- another order of decisions
pub left-order : (task : Task) (p : Restarts) (s : Search) (o : ℕ) → IsLeft task p s → o ≡ s.order → IsLeft task p (record s { order = o })
left-order task p s o is alike = record {
  search = record {
    db = is.search.db;
    vars = is.search.vars;
    few = is.search.few;
    log = is.search.log;
    base = is.search.base;
    added = is.search.added;
    kept = is.search.kept;
    once = is.search.once;
    order = alike ∙ is.search.order;
    walker = is.search.walker;
  };
  within = is.within;
  most = is.most;
}
