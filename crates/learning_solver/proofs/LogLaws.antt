-- A log with a line more.
use Rattle.std.proofs.Common.{◌≡◌, ℕ, ◌+◌, ◌≤◌, ◌<◌, true, false, List, [], ◌∷◌, ◌++◌, length, Option, Some, None, is_some, Result, Ok, Err, refl, ap, sym, ◌∙◌, subst, arith, ⊎_elim, append_assoc}
use Rattle.std.specs.Prelude.{IsTrue, ℤ}
use Rattle.std.proofs.lemmas.Bool.{cases_eq}
use Rattle.std.proofs.lemmas.List.{map-append}
use Rattle.order_ints.specs.declared.literal.Lit.{Lit}
use Rattle.order_ints.specs.declared.cnf.Cnf.{Cnf}
use Rattle.proof_check.specs.declared.fault.ProofFault.{ProofFault}
use Rattle.proof_check.specs.declared.line.ProofLine.{ProofLine}
use Rattle.proof_check.specs.declared.line.ProofLine.TheVariants.{Add, Delete}
use Rattle.proof_check.specs.Named.{Named, numbered, literals_of, clause_at, has_id, without, without_all, Lives}
use Rattle.proof_check.specs.Lrat.{Proof, proof_of, line_fault, after_line, unless_fault, behind, take_line, take_lines, addition_fault, with_clause}
use Rattle.proof_check.specs.Faults.{deletion_fault}
use Rattle.proof_check.specs.New.{New}
use Rattle.proof_check.specs.Known.{all_clauses}
use Rattle.proof_check.specs.Lines.{Each, IsReadable}
use Rattle.learning_solver.specs.Log.{additions, after_lines, proof_behind, AreAdded, IsFresh, EachLine, IsFreshLog, all_named, StaysKnown, IsLog}
use Rattle.clause_rings.specs.Clauses.{IsApart}
use Rattle.learning_solver.proofs.LitLaws.{lits-of-addition}
use Rattle.learning_solver.proofs.NamedLaws.{cases-at, at-front, at-back, at-more, at-first, at-last, at-others, at-without, lives-without, numbered-range}

pub after-more : (p : Proof) (lines : List ProofLine) (line : ProofLine) → after_lines p (lines ++ line ∷ []) ≡ after_line (after_lines p lines) line
after-more p [] line = refl
after-more p (first ∷ lines) line = after-more (after_line p first) lines line

pub each-more : (p : Proof) (lines : List ProofLine) (line : ProofLine) → EachLine IsFresh p lines → IsFresh (after_lines p lines) line → EachLine IsFresh p (lines ++ line ∷ [])
each-more p [] line each here = (here, tt)
each-more p (first ∷ lines) line each here = (each.0, each-more (after_line p first) lines line each.1 here)

pub additions-add : (lines : List ProofLine) (id : ℕ) (lits : List Lit) (hints : List ℤ) → additions (lines ++ Add id lits hints ∷ []) ≡ additions lines + 1
additions-add [] id lits hints = refl
additions-add (Add i l h ∷ lines) id lits hints = omega (arith, additions-add lines id lits hints)
additions-add (Delete at ids ∷ lines) id lits hints = additions-add lines id lits hints

pub additions-delete : (lines : List ProofLine) (at : ℕ) (ids : List ℕ) → additions (lines ++ Delete at ids ∷ []) ≡ additions lines
additions-delete [] at ids = refl
additions-delete (Add i l h ∷ lines) at ids = omega (arith, additions-delete lines at ids)
additions-delete (Delete a is ∷ lines) at ids = additions-delete lines at ids

takes-front : (r : Result Proof ProofFault) (lines : List ProofLine) (q : Proof) (line : ProofLine) → behind r (λ s. take_lines s lines) ≡ Ok q → ((s : Proof) → take_lines s lines ≡ Ok q → take_lines s (lines ++ line ∷ []) ≡ Ok (after_line q line)) → behind r (λ s. take_lines s (lines ++ line ∷ [])) ≡ Ok (after_line q line)
takes-front (Ok s) lines q line e step = step s e
takes-front (Err f) lines q line e step = cc

pub takes-more : (p : Proof) (lines : List ProofLine) (q : Proof) (line : ProofLine) → take_lines p lines ≡ Ok q → line_fault q line ≡ None → take_lines p (lines ++ line ∷ []) ≡ Ok (after_line q line)
takes-more p [] q line is none =
    let same : p ≡ q = cc in
    let fault : line_fault p line ≡ None = ap (λ (r : Proof). line_fault r line) same ∙ none in
    ap (λ (o : Option ProofFault). behind (unless_fault o (after_line p line)) (λ r. Ok r)) fault ∙ ap (λ (r : Proof). Ok (after_line r line)) same
takes-more p (first ∷ lines) q line is none =
    takes-front (take_line p first) lines q line is (λ s e. takes-more s lines q line e none)

-- no clause has an id above the last
pub none-above : (cnf : Cnf) (log : List ProofLine) → IsLog cnf log → (id : ℕ) → (proof_behind cnf log).last < id → clause_at (all_named (proof_behind cnf log)) id ≡ None
none-above cnf log is id high =
    ⊎_elim
    (λ (none : clause_at (all_named (proof_behind cnf log)) id ≡ None). none)
    (λ (w : (lits : List Lit) × (clause_at (all_named (proof_behind cnf log)) id ≡ Some lits)).
    absurd (omega (arith, is.low (record { id = id; lits = w.0 }) w.1)))
    (cases-at (all_named (proof_behind cnf log)) id)

pub none-lives-above : (cnf : Cnf) (log : List ProofLine) → IsLog cnf log → (id : ℕ) → (proof_behind cnf log).last < id → clause_at (proof_behind cnf log).live id ≡ None
none-lives-above cnf log is id high =
    ⊎_elim
    (λ (none : clause_at (proof_behind cnf log).live id ≡ None). none)
    (λ (w : (lits : List Lit) × (clause_at (proof_behind cnf log).live id ≡ Some lits)).
    let d : Named = record { id = id; lits = w.0 } in
    absurd (omega (arith, is.low d (is.known d w.1))))
    (cases-at (proof_behind cnf log).live id)

-- what a log keeps, with the proof behind it as a value of its own
record IsLogAt (cnf : Cnf) (log : List ProofLine) (p : Proof) : Type 0 where
  accepted : take_lines (proof_of cnf) log ≡ Ok p
  fresh : IsFreshLog cnf log
  readable : Each IsReadable log
  last : p.last ≡ length cnf.clauses + additions log
  cnf_lives : (d : Named) → Lives (numbered 1 cnf.clauses) d → Lives p.live d
  known : (d : Named) → Lives p.live d → Lives (all_named p) d
  differ : (d : Named) → Lives p.live d → IsApart d.lits
  low : (d : Named) → Lives (all_named p) d → d.id ≤ p.last
  apart : (id : ℕ) → IsTrue (has_id p.added id) → length cnf.clauses < id
  short : Each (StaysKnown p.live) (all_clauses p)

log-at : (cnf : Cnf) (log : List ProofLine) → IsLogAt cnf log (proof_behind cnf log) → IsLog cnf log
log-at cnf log is = record {
  accepted = is.accepted;
  fresh = is.fresh;
  readable = is.readable;
  last = is.last;
  cnf_lives = is.cnf_lives;
  known = is.known;
  differ = is.differ;
  low = is.low;
  apart = is.apart;
  short = is.short;
}

each-weaker : (P Q : List Lit → Type 0) (xs : List (List Lit)) → ((x : List Lit) → P x → Q x) → Each P xs → Each Q xs
each-weaker P Q [] step each = tt
each-weaker P Q (x ∷ xs) step each = (step x each.0, each-weaker P Q xs step each.1)

each-last : {X : Type 0} (P : X → Type 0) (xs : List X) (x : X) → Each P xs → P x → Each P (xs ++ x ∷ [])
each-last P [] x each here = (here, tt)
each-last P (y ∷ ys) x each here = (each.0, each-last P ys x each.1 here)

-- one known clause more
more-clauses : (cs : List (List Lit)) (ds : List Named) (c : Named) → cs ++ literals_of (ds ++ c ∷ []) ≡ (cs ++ literals_of ds) ++ c.lits ∷ []
more-clauses cs ds c =
    ap (λ (l : List (List Lit)). cs ++ l) (map-append (λ (d : Named). d.lits) ds (c ∷ []))
    ∙ sym (append_assoc cs (literals_of ds) (c.lits ∷ []))

-- what an addition makes of a proof that is a log's
module _ (cnf : Cnf) (log : List ProofLine) (is : IsLog cnf log) (id : ℕ) (lits : List Lit) (next : id ≡ (proof_behind cnf log).last + 1) where
  added-all : (d : Named) → Lives (all_named (with_clause (proof_behind cnf log) (record { id = id; lits = lits }))) d → Lives (all_named (proof_behind cnf log) ++ record { id = id; lits = lits } ∷ []) d
  added-all d lives =
      let p = proof_behind cnf log in
      ap (λ (l : List Named). clause_at l d.id) (append_assoc (numbered 1 p.cnf.clauses) p.added (record { id = id; lits = lits } ∷ [])) ∙ lives

  all-added : (d : Named) → Lives (all_named (proof_behind cnf log) ++ record { id = id; lits = lits } ∷ []) d → Lives (all_named (with_clause (proof_behind cnf log) (record { id = id; lits = lits }))) d
  all-added d lives =
      let p = proof_behind cnf log in
      sym (ap (λ (l : List Named). clause_at l d.id) (append_assoc (numbered 1 p.cnf.clauses) p.added (record { id = id; lits = lits } ∷ []))) ∙ lives

  added-known : (d : Named) → Lives ((proof_behind cnf log).live ++ record { id = id; lits = lits } ∷ []) d → Lives (all_named (with_clause (proof_behind cnf log) (record { id = id; lits = lits }))) d
  added-known d lives =
      let p = proof_behind cnf log in
      let c : Named = record { id = id; lits = lits } in
      all-added d
      (⊎_elim
      (λ (before : Lives p.live d). at-front (all_named p) (c ∷ []) d.id d.lits (is.known d before))
      (λ (w : (clause_at p.live d.id ≡ None) × (c.id ≡ d.id) × (c.lits ≡ d.lits)).
      let none : clause_at (all_named p) d.id ≡ None = ap (λ (i : ℕ). clause_at (all_named p) i) (sym w.1) ∙ none-above cnf log is id (omega (arith, next)) in
      at-back (all_named p) (c ∷ []) d.id none ∙ at-first c [] d.id w.1 ∙ ap (λ (l : List Lit). Some l) w.2)
      (at-more p.live c d lives))

  added-low : (d : Named) → Lives (all_named (with_clause (proof_behind cnf log) (record { id = id; lits = lits }))) d → d.id ≤ id
  added-low d lives =
      let p = proof_behind cnf log in
      let c : Named = record { id = id; lits = lits } in
      ⊎_elim
      (λ (before : Lives (all_named p) d). omega (arith, is.low d before, next))
      (λ (w : (clause_at (all_named p) d.id ≡ None) × (c.id ≡ d.id) × (c.lits ≡ d.lits)). let e : id ≡ d.id = w.1 in omega (arith, e))
      (at-more (all_named p) c d (added-all d lives))

  added-apart : (i : ℕ) → IsTrue (has_id ((proof_behind cnf log).added ++ record { id = id; lits = lits } ∷ []) i) → length cnf.clauses < i
  added-apart i has =
      let p = proof_behind cnf log in
      let c : Named = record { id = id; lits = lits } in
      ⊎_elim
      (λ (none : clause_at p.added i ≡ None).
      ⊎_elim
      (λ (same : id ≡ i). omega (arith, is.last, next, same))
      (λ (other : id ≡ i → ⊥).
      let nothing : clause_at (p.added ++ c ∷ []) i ≡ None = at-back p.added (c ∷ []) i none ∙ at-others c [] i other in
      let fails : has_id (p.added ++ c ∷ []) i ≡ false = ap (λ (o : Option (List Lit)). is_some o) nothing in
      let holds : has_id (p.added ++ c ∷ []) i ≡ true = has in
      cc)
      (cases_eq id i))
      (λ (w : (l : List Lit) × (clause_at p.added i ≡ Some l)). is.apart i (ap (λ (o : Option (List Lit)). is_some o) w.1))
      (cases-at p.added i)

  added-short : IsApart lits → Each (StaysKnown ((proof_behind cnf log).live ++ record { id = id; lits = lits } ∷ [])) (all_clauses (with_clause (proof_behind cnf log) (record { id = id; lits = lits })))
  added-short differ =
      let p = proof_behind cnf log in
      let c : Named = record { id = id; lits = lits } in
      let S : List Lit → Type 0 = StaysKnown (p.live ++ c ∷ []) in
      let P : List (List Lit) → Type 0 = Each S in
      let before : Each S (all_clauses p)
      = each-weaker (StaysKnown p.live) S (all_clauses p) (λ x st. record { apart = st.apart; lives = λ few. let w = st.lives few in (w.0, at-front p.live (c ∷ []) w.0 x w.1) }) is.short in
      let here : S lits = record { apart = differ; lives = λ few. (id, at-last p.live c (none-lives-above cnf log is id (omega (arith, next)))) } in
      subst P (sym (more-clauses p.cnf.clauses p.added c)) (each-last S (all_clauses p) lits before here)

  pub log-added : (hints : List ℤ) → IsReadable (Add id lits hints) → addition_fault (proof_behind cnf log) id lits hints ≡ None → New (proof_behind cnf log).live lits → IsLog cnf (log ++ Add id lits hints ∷ [])
  log-added hints can fault new =
      let p = proof_behind cnf log in
      let line = Add id lits hints in
      let behind-it : proof_behind cnf (log ++ line ∷ []) ≡ after_line p line = after-more (proof_of cnf) log line in
      let P : Proof → Type 0 = IsLogAt cnf (log ++ line ∷ []) in
      log-at cnf (log ++ line ∷ [])
      (subst P (sym behind-it)
      (record {
        accepted = takes-more (proof_of cnf) log p line is.accepted fault;
        fresh = each-more (proof_of cnf) log line is.fresh new;
        readable = each-last IsReadable log line is.readable can;
        last = omega (arith, additions-add log id lits hints, is.last, next);
        cnf_lives = λ d there. at-front p.live (record { id = id; lits = lits } ∷ []) d.id d.lits (is.cnf_lives d there);
        known = added-known;
        differ = λ d lives.
            let c : Named = record { id = id; lits = lits } in
            ⊎_elim
            (λ (before : Lives p.live d). is.differ d before)
            (λ (w : (clause_at p.live d.id ≡ None) × (c.id ≡ d.id) × (c.lits ≡ d.lits)).
            let Q : List Lit → Type 0 = IsApart in subst Q w.2 (lits-of-addition cnf log cnf.vars id lits hints fault refl).1)
            (at-more p.live c d lives);
        low = added-low;
        apart = added-apart;
        short = added-short (lits-of-addition cnf log cnf.vars id lits hints fault refl).1;
      }))

-- what a deletion makes of it
module _ (cnf : Cnf) (log : List ProofLine) (is : IsLog cnf log) where
  still-known : (ids : List ℕ) (cs : List Named) (d : Named) → Lives (without_all ids cs) d → Lives cs d
  still-known [] cs d lives = lives
  still-known (x ∷ ids) cs d lives = (lives-without x cs d (still-known ids (without x cs) d lives)).1

  still-lives : (ids : List ℕ) (cs : List Named) (d : Named) → AreAdded (proof_behind cnf log) ids → Lives (numbered 1 cnf.clauses) d → Lives cs d → Lives (without_all ids cs) d
  still-lives [] cs d added of_cnf lives = lives
  still-lives (x ∷ ids) cs d added of_cnf lives =
      let low = numbered-range 1 cnf.clauses d.id d.lits of_cnf in
      let ne : x ≡ d.id → ⊥ = λ e. omega (arith, is.apart x added.0, low.1, e) in
      still-lives ids (without x cs) d added.1 of_cnf (at-without x cs d.id ne ∙ lives)

  -- a clause that goes has more than one literal
  deleted-short : (x : ℕ) → ((lits : List Lit) → clause_at (proof_behind cnf log).live x ≡ Some lits → 2 ≤ length lits) → Each (StaysKnown (without x (proof_behind cnf log).live)) (all_clauses (proof_behind cnf log))
  deleted-short x long =
      let p = proof_behind cnf log in
      each-weaker (StaysKnown p.live) (StaysKnown (without x p.live)) (all_clauses p) (λ c st. record {
        apart = st.apart;
        lives = λ few.
            let w = st.lives few in
            let ne : x ≡ w.0 → ⊥ = λ e. omega (arith, few, long c (ap (λ (i : ℕ). clause_at p.live i) e ∙ w.1)) in
            (w.0, at-without x p.live w.0 ne ∙ w.1);
      }) is.short

  pub log-deleted : (at x : ℕ) → IsReadable (Delete at (x ∷ [])) → at ≡ (proof_behind cnf log).last → deletion_fault (proof_behind cnf log).live (x ∷ []) ≡ None → AreAdded (proof_behind cnf log) (x ∷ []) → ((lits : List Lit) → clause_at (proof_behind cnf log).live x ≡ Some lits → 2 ≤ length lits) → IsLog cnf (log ++ Delete at (x ∷ []) ∷ [])
  log-deleted at x can mark fault added long =
      let p = proof_behind cnf log in
      let ids = x ∷ [] in
      let line = Delete at ids in
      let behind-it : proof_behind cnf (log ++ line ∷ []) ≡ after_line p line = after-more (proof_of cnf) log line in
      let P : Proof → Type 0 = IsLogAt cnf (log ++ line ∷ []) in
      log-at cnf (log ++ line ∷ [])
      (subst P (sym behind-it)
      (record {
        accepted = takes-more (proof_of cnf) log p line is.accepted fault;
        fresh = each-more (proof_of cnf) log line is.fresh (mark, added, λ e. cc);
        readable = each-last IsReadable log line is.readable can;
        last = omega (arith, additions-delete log at ids, is.last);
        cnf_lives = λ d there. still-lives ids p.live d added there (is.cnf_lives d there);
        known = λ d lives. is.known d (still-known ids p.live d lives);
        differ = λ d lives. is.differ d (still-known ids p.live d lives);
        low = is.low;
        apart = is.apart;
        short = deleted-short x long;
      }))
