-- The state of the checker behind a deletion, an addition, and at the start.
use Rattle.std.proofs.Common.{◌≡◌, ℕ, zero, suc, ◌+◌, ◌<◌, ◌≤◌, ◌^◌, Bool, true, List, [], ◌∷◌, ◌++◌, ℤ, length, take, drop, get_or, map, arith, refl, sym, ap, ◌∙◌, subst}
use Rattle.std.specs.Prelude.{Option, None, Some, Result, Ok, Err, OnOk}
use Rattle.std.specs.List.{list_any}
use Rattle.std.proofs.lemmas.List.{take-map, drop-map, take-append-le, drop-append-le, length-append, map-append, take_more, length-take-le, take_all, drop_all, take-append-drop, length-map}
use Rattle.std.proofs.lemmas.Bool.{lt-ltb, cond-true}
use Rattle.order_ints.specs.declared.literal.Lit.{Lit}
use Rattle.order_ints.specs.declared.cnf.Cnf.{Cnf}
use Rattle.order_ints.specs.Place.{ClauseBelow, ClausesBelow}
use Rattle.proof_check.specs.declared.fault.ProofFault.{ProofFault}
use Rattle.proof_check.specs.declared.line.ProofLine.TheVariants.{Add, Delete}
use Rattle.proof_check.specs.Named.{Named, numbered, literals_of}
use Rattle.proof_check.specs.Values.{Values, no_values}
use Rattle.proof_check.specs.Faults.{or_else, lits_fault, hints_fault, against, body_fault, deletion_fault}
use Rattle.proof_check.specs.Lrat.{Proof, proof_of, with_clause, after_line, take_line, unless_fault}
use Rattle.proof_check.specs.Assigned.{value_at}
use Rattle.proof_check.specs.Known.{same_literals, known}
use Rattle.proof_check.specs.Arena.{Kept, clauses_in, live_in, kept_ids, last_from, all_live}
use Rattle.proof_check.specs.Checking.{proof_in, IsChecker, kill_all}
use Rattle.proof_check.proofs.Ascending.{last-more}
use Rattle.proof_check.proofs.Denied.{no-fault}
use Rattle.proof_check.proofs.Living.{live-append}
use Rattle.proof_check.proofs.Killed.{live-killed, clauses-killed}

-- no variable has a value
abbrev pub IsFree : List (Option Bool) → Type 0
IsFree values = value_at values ≡ no_values

-- the ids are those of the clauses
ids-clauses : (ks : List Kept) → kept_ids ks ≡ map (λ (c : Named). c.id) (clauses_in ks)
ids-clauses [] = refl
ids-clauses (k ∷ ks) = ap (λ (xs : List ℕ). k.clause.id ∷ xs) (ids-clauses ks)

-- what the clauses alone tell
taken : (n : ℕ) (ks js : List Kept) → clauses_in ks ≡ clauses_in js → clauses_in (take n ks) ≡ clauses_in (take n js)
taken n ks js e = sym (take-map (λ (k : Kept). k.clause) n ks) ∙ ap (take n) e ∙ take-map (λ (k : Kept). k.clause) n js

dropped : (n : ℕ) (ks js : List Kept) → clauses_in ks ≡ clauses_in js → clauses_in (drop n ks) ≡ clauses_in (drop n js)
dropped n ks js e = sym (drop-map (λ (k : Kept). k.clause) n ks) ∙ ap (drop n) e ∙ drop-map (λ (k : Kept). k.clause) n js

-- a deletion
pub checker-killed : (vars given : ℕ) (ks : List Kept) (values : List (Option Bool)) (ids : List ℕ) → IsChecker vars given ks values →
    IsChecker vars given (kill_all ids ks) values
checker-killed vars given ks values ids h =
    let same = clauses-killed ids ks in
    record {
      small = h.small;
      enough = omega (arith, h.enough, ap length same, length-map ks (λ (k : Kept). k.clause), length-map (kill_all ids ks) (λ (k : Kept). k.clause));
      below = let P : List Named → Type 0 = λ cs. ClausesBelow (vars + 1) (literals_of cs) in subst P (sym same) h.below;
      size = h.size;
      free = h.free;
    }

pub proof-killed : (vars given at : ℕ) (ks : List Kept) (ids : List ℕ) →
    after_line (proof_in vars given ks) (Delete at ids) ≡ proof_in vars given (kill_all ids ks)
proof-killed vars given at ks ids =
    let same : clauses_in ks ≡ clauses_in (kill_all ids ks) = sym (clauses-killed ids ks) in
    λ i. record {
      cnf = record { vars = vars; clauses = literals_of ((taken given ks (kill_all ids ks) same) i) };
      live = (sym (live-killed ids ks)) i;
      added = (dropped given ks (kill_all ids ks) same) i;
      last = (ap (last_from 0) (ids-clauses ks ∙ ap (map (λ (c : Named). c.id)) same ∙ sym (ids-clauses (kill_all ids ks)))) i;
    }

pub deletion-taken : (vars given : ℕ) (ks : List Kept) (ids : List ℕ) → deletion_fault (live_in ks) ids ≡ None → (at : ℕ) →
    take_line (proof_in vars given ks) (Delete at ids) ≡ Ok (proof_in vars given (kill_all ids ks))
deletion-taken vars given ks ids ok at =
    ap (λ (o : Option ProofFault). unless_fault o (after_line (proof_in vars given ks) (Delete at ids))) ok ∙ ap (λ (p : Proof). Ok p) (proof-killed vars given at ks ids)

-- an addition
below-append : (n : ℕ) (cs : List (List Lit)) (c : List Lit) → ClausesBelow n cs → ClauseBelow n c → ClausesBelow n (cs ++ c ∷ [])
below-append n [] c all new = (new, tt)
below-append n (d ∷ cs) c all new = (all.0, below-append n cs c all.1 new)

-- the clause with its life
abbrev pub alive : ℕ → List Lit → Kept
alive id lits = record { clause = record { id = id; lits = lits }; live = true }

literals-more : (ks : List Kept) (k : Kept) → literals_of (clauses_in (ks ++ k ∷ [])) ≡ literals_of (clauses_in ks) ++ k.clause.lits ∷ []
literals-more ks k = ap literals_of (map-append (λ (x : Kept). x.clause) ks (k ∷ [])) ∙ map-append (λ (c : Named). c.lits) (clauses_in ks) (k.clause ∷ [])

pub checker-more : (vars given : ℕ) (ks : List Kept) (values new-values : List (Option Bool)) (id : ℕ) (lits : List Lit) → IsChecker vars given ks values →
    ClauseBelow (vars + 1) lits → length new-values ≡ vars + 1 → IsFree new-values → IsChecker vars given (ks ++ alive id lits ∷ []) new-values
checker-more vars given ks values new-values id lits h new size free = record {
  small = h.small;
  enough = omega (arith, h.enough, length-append ks (alive id lits ∷ []));
  below = let P : List (List Lit) → Type 0 = λ cs. ClausesBelow (vars + 1) cs in
      subst P (sym (literals-more ks (alive id lits))) (below-append (vars + 1) (literals_of (clauses_in ks)) lits h.below new);
  size = size;
  free = free;
}

pub proof-more : (vars given : ℕ) (ks : List Kept) (id : ℕ) (lits : List Lit) → given ≤ length ks →
    with_clause (proof_in vars given ks) (record { id = id; lits = lits }) ≡ proof_in vars given (ks ++ alive id lits ∷ [])
proof-more vars given ks id lits le =
    λ i. record {
      cnf = record { vars = vars; clauses = literals_of (clauses_in ((sym (take-append-le given ks (alive id lits ∷ []) le)) i)) };
      live = (sym (live-append ks (record { id = id; lits = lits }))) i;
      added = (sym (map-append (λ (k : Kept). k.clause) (drop given ks) (alive id lits ∷ []))
          ∙ ap clauses_in (sym (drop-append-le given ks (alive id lits ∷ []) le))) i;
      last = (sym (ap (last_from 0) (map-append (λ (k : Kept). k.clause.id) ks (alive id lits ∷ [])) ∙ last-more 0 (kept_ids ks) id)) i;
    }

pub addition-taken : (vars given : ℕ) (ks : List Kept) (id : ℕ) (lits : List Lit) (hints : List ℤ) → given ≤ length ks → last_from 0 (kept_ids ks) < id →
    body_fault vars (live_in ks) lits hints ≡ None →
    take_line (proof_in vars given ks) (Add id lits hints) ≡ Ok (proof_in vars given (ks ++ alive id lits ∷ []))
addition-taken vars given ks id lits hints le above ok =
    ap (λ (o : Option ProofFault). unless_fault (or_else o (body_fault vars (live_in ks) lits hints)) (after_line (proof_in vars given ks) (Add id lits hints)))
    (cond-true _ _ _ (lt-ltb (last_from 0 (kept_ids ks)) id above))
    ∙ ap (λ (o : Option ProofFault). unless_fault o (after_line (proof_in vars given ks) (Add id lits hints))) ok
    ∙ ap (λ (p : Proof). Ok p) (proof-more vars given ks id lits le)

-- the literals of a clause without a fault are in range
or-none : (a b : Option ProofFault) → or_else a b ≡ None → a ≡ None
or-none None b e = refl
or-none (Some x) b e = e

-- the literals fit and are denied: what is left is the fault of the hints
pub body-hints : (vars : ℕ) (live : List Named) (lits : List Lit) (hints : List ℤ) (values : Values) → lits_fault vars [] lits 1 ≡ None → values ≡ against lits →
    hints_fault live values hints 1 ≡ body_fault vars live lits hints
body-hints vars live lits hints values ok denied =
    ap (λ (f : Values). hints_fault live f hints 1) denied ∙ sym (ap (λ (o : Option ProofFault). or_else o (hints_fault live (against lits) hints 1)) ok)

pub body-below : (vars : ℕ) (live : List Named) (lits : List Lit) (hints : List ℤ) → body_fault vars live lits hints ≡ None → ClauseBelow (vars + 1) lits
body-below vars live lits hints ok = (no-fault vars [] lits 1 (or-none (lits_fault vars [] lits 1) _ ok)).0

pub clause-wider : (n m : ℕ) (c : List Lit) → n ≤ m → ClauseBelow n c → ClauseBelow m c
clause-wider n m [] le below = tt
clause-wider n m (l ∷ ls) le below = ((below.0.0, omega (arith, below.0.1, le)), clause-wider n m ls le below.1)

pub clauses-wider : (n m : ℕ) (cs : List (List Lit)) → n ≤ m → ClausesBelow n cs → ClausesBelow m cs
clauses-wider n m [] le below = tt
clauses-wider n m (c ∷ cs) le below = (clause-wider n m c le below.0, clauses-wider n m cs le below.1)

-- the start
pub numbered-more : (k : ℕ) (xs : List (List Lit)) (c : List Lit) → numbered k (xs ++ c ∷ []) ≡ numbered k xs ++ record { id = k + length xs; lits = c } ∷ []
numbered-more k [] c = ap (λ (n : ℕ). record { id = n; lits = c } ∷ []) (let e : k ≡ k + 0 = omega arith in e)
numbered-more k (x ∷ xs) c =
    ap (λ (cs : List Named). record { id = k; lits = x } ∷ cs) (numbered-more (k + 1) xs c
    ∙ ap (λ (n : ℕ). numbered (k + 1) xs ++ record { id = n; lits = c } ∷ []) (let e : k + 1 + length xs ≡ k + suc (length xs) = omega arith in e))

pub live-more : (xs : List (List Lit)) (c : List Lit) → all_live (numbered 1 (xs ++ c ∷ [])) ≡ all_live (numbered 1 xs) ++ alive (1 + length xs) c ∷ []
live-more xs c = ap all_live (numbered-more 1 xs c) ∙ map-append (λ (d : Named). record { clause = d; live = true }) (numbered 1 xs) (record { id = 1 + length xs; lits = c } ∷ [])

last-numbered : (j : ℕ) (xs : List (List Lit)) → last_from j (kept_ids (all_live (numbered (j + 1) xs))) ≡ j + length xs
last-numbered j [] = let e : j ≡ j + 0 = omega arith in e
last-numbered j (x ∷ xs) = last-numbered (j + 1) xs ∙ (let e : j + 1 + length xs ≡ j + suc (length xs) = omega arith in e)

pub last-start : (xs : List (List Lit)) → last_from 0 (kept_ids (all_live (numbered 1 xs))) ≡ length xs
last-start xs = last-numbered 0 xs ∙ (let e : 0 + length xs ≡ length xs = omega arith in e)

pub clauses-start : (k : ℕ) (xs : List (List Lit)) → literals_of (clauses_in (all_live (numbered k xs))) ≡ xs
clauses-start k [] = refl
clauses-start k (x ∷ xs) = ap (λ (cs : List (List Lit)). x ∷ cs) (clauses-start (k + 1) xs)

live-start : (cs : List Named) → live_in (all_live cs) ≡ cs
live-start [] = refl
live-start (c ∷ cs) = ap (λ (ds : List Named). c ∷ ds) (live-start cs)

pub proof-start : (cnf : Cnf) → let ks = all_live (numbered 1 cnf.clauses) in proof_in cnf.vars (length ks) ks ≡ proof_of cnf
proof-start cnf =
    let ks = all_live (numbered 1 cnf.clauses) in
    λ i. record {
      cnf = record { vars = cnf.vars; clauses = (ap (λ (xs : List Kept). literals_of (clauses_in xs)) (take_all (length ks) ks (omega arith)) ∙ clauses-start 1 cnf.clauses) i };
      live = (live-start (numbered 1 cnf.clauses)) i;
      added = (ap clauses_in (drop_all (length ks) ks (omega arith))) i;
      last = (last-start cnf.clauses) i;
    }

pub checker-start : (cnf : Cnf) (values : List (Option Bool)) → cnf.vars ≤ 2 ^ 27 → ClausesBelow (cnf.vars + 1) cnf.clauses → length values ≡ cnf.vars + 1 → IsFree values →
    let ks = all_live (numbered 1 cnf.clauses) in IsChecker cnf.vars (length ks) ks values
checker-start cnf values small below size free =
    let ks = all_live (numbered 1 cnf.clauses) in
    record {
      small = small;
      enough = omega arith;
      below = let P : List (List Lit) → Type 0 = λ cs. ClausesBelow (cnf.vars + 1) cs in subst P (sym (clauses-start 1 cnf.clauses)) below;
      size = size;
      free = free;
    }

-- the clauses of the CNF and those that were added are all
pub all-known : (vars given : ℕ) (ks : List Kept) (lits : List Lit) →
    list_any (same_literals lits) (literals_of (clauses_in ks)) ≡ known (proof_in vars given ks) lits
all-known vars given ks lits =
    ap (list_any (same_literals lits))
    (ap (λ (xs : List Kept). literals_of (clauses_in xs)) (sym (take-append-drop given ks))
    ∙ ap literals_of (map-append (λ (k : Kept). k.clause) (take given ks) (drop given ks))
    ∙ map-append (λ (c : Named). c.lits) (clauses_in (take given ks)) (clauses_in (drop given ks)))

-- the clause at a place is in range
pub clause-at-below : (n : ℕ) (cs : List (List Lit)) (i : ℕ) (c : List Lit) → ClausesBelow n cs → i < length cs → c ≡ get_or cs i c → ClauseBelow n c
clause-at-below n [] i c all lt is = absurd (omega arith)
clause-at-below n (d ∷ cs) zero c all lt is = let P : List Lit → Type 0 = λ x. ClauseBelow n x in subst P (sym is) all.0
clause-at-below n (d ∷ cs) (suc i) c all lt is = clause-at-below n cs i c all.1 (omega (arith, lt)) is

-- one clause of the CNF more
pub start-more : (cs : List (List Lit)) (i : ℕ) (c : List Lit) (now new : List Kept) → i < length cs → c ≡ get_or cs i c →
    now ≡ all_live (numbered 1 (take i cs)) → new ≡ now ++ alive (i + 1) c ∷ [] → new ≡ all_live (numbered 1 (take (i + 1) cs))
start-more cs i c now new lt is was put =
    put ∙ ap (λ (ks : List Kept). ks ++ alive (i + 1) c ∷ []) was
    ∙ ap (λ (n : ℕ). all_live (numbered 1 (take i cs)) ++ alive n c ∷ []) (let e : i + 1 ≡ 1 + length (take i cs) = omega (arith, length-take-le i cs (omega (arith, lt))) in e)
    ∙ sym (live-more (take i cs) c)
    ∙ ap (λ (x : List Lit). all_live (numbered 1 (take i cs ++ x ∷ []))) is
    ∙ ap (λ (xs : List (List Lit)). all_live (numbered 1 xs)) (sym (take_more cs i c lt))

pub start-last : (cs : List (List Lit)) (i : ℕ) (now : List Kept) → i ≤ length cs → now ≡ all_live (numbered 1 (take i cs)) → last_from 0 (kept_ids now) < i + 1
start-last cs i now le was =
    let last : last_from 0 (kept_ids now) ≡ length (take i cs) = ap (λ (ks : List Kept). last_from 0 (kept_ids ks)) was ∙ last-start (take i cs) in
    omega (arith, last, length-take-le i cs le)

-- what holds where a line was taken
pub on-ok : {A E : Type 0} {P Q : Type 0} (r : Result A E) → (P → Q) → OnOk r P → OnOk r Q
on-ok (Ok x) f h = f h
on-ok (Err e) f h = h
