-- A store at its start, and what it says of the empty clause.
use Rattle.std.proofs.Common.{◌≡◌, ℕ, Bool, true, false, List, [], ◌∷◌, ◌++◌, get_or, refl, sym, ap, ◌∙◌, subst, inl, ⊎_elim, Option, Some, None}
use Rattle.std.specs.Prelude.{Contains, IfSome, IfNone, IsTrue, is_some}
use Rattle.std.proofs.lemmas.Bool.{false≢true}
use Rattle.std.proofs.lemmas.List.{get_or_default}
use Rattle.std.proofs.lemmas.List.Elements.{Contains-append_left}
use Rattle.order_ints.specs.declared.literal.Lit.{Lit}
use Rattle.order_ints.specs.declared.cnf.Cnf.{Cnf}
use Rattle.literal_trail.specs.Standing.{IsFalse}
use Rattle.clause_arena.specs.Clauses.{Clause, IsLive, lits_of}
use Rattle.clause_rings.specs.Clauses.{ClauseLists, SameClauses, Follows, IsComplete, IsDb, HoldsCnf}
use Rattle.drup_check.specs.Rup.{Rup}
use Rattle.drup_check.specs.Stored.{SameSet, AreHeld, IsListed, AreListed}
use Rattle.drup_check.specs.Standing.{Stands, StandsAs, IsBroughtBack}
use Rattle.drup_check.specs.declared.tiers.Tiers.{Tiers}
use Rattle.drup_check.proofs.Members.{no-member}
use Rattle.drup_check.proofs.Implied.{shown_by_more}
use Rattle.drup_check.proofs.Permuted.{listed-same, held-same}
use Rattle.drup_check.proofs.Denials.{denying-none}
use Rattle.drup_check.proofs.Trails.{follows-same}
use Rattle.drup_check.proofs.Rups.{shown-all}
use Rattle.drup_check.proofs.Additions.{false-shows}

same-set : (c d : List Lit) → c ≡ d → SameSet c d
same-set c d e l = let P : List Lit → Type 0 = λ ls. Contains ls l in ((λ has. subst P e has), (λ has. subst P (sym e) has))

module _ (cnf : Cnf) (clauses : List Clause) (h : HoldsCnf cnf clauses) where
  pub cnf-held : AreHeld clauses cnf.clauses
  cnf-held d has =
      let at = h.stored has.0 has.1 in
      let is : get_or cnf.clauses has.0 [] ≡ d = get_or_default cnf.clauses has.0 [] d has.1 ∙ has.2 in
      inl (record { reference = at.0; live = ap (λ (x : Clause). x.live) at.1; same = same-set (lits_of clauses at.0) d (ap (λ (x : Clause). x.lits) at.1 ∙ is) })

  pub cnf-listed : AreListed clauses cnf.clauses
  cnf-listed c live =
      let at = h.alone c live in
      let d = get_or cnf.clauses at.0 [] in
      record { clause = d; is_in = (at.0, at.1, get_or_default cnf.clauses at.0 d [] at.1); same = same-set (lits_of clauses c) d (ap (λ (x : Clause). x.lits) at.2) }

-- listed clauses that are propagated to the end, where none was deleted
module _ (old : ClauseLists) (s : Tiers) (cs : List (List Lit)) (bottom : old.trail.level ≡ 0) (clauses : SameClauses old.clauses s.db.clauses) (follows : Follows s.db.clauses old.trail s.db.trail) (db : IsDb s.db.clauses s.db.trail) (held : AreHeld old.clauses cs) (listed : AreListed old.clauses cs) (none_gone : s.gone.items ≡ []) where
  low : s.db.trail.level ≡ 0
  low = (follows-same s.db.clauses old.trail s.db.trail follows).1 ∙ bottom

  never-gone : (P : Type 0) (g : List Lit) → Contains s.gone.items g → P
  never-gone P g has = absurd (no-member g (let Q : List (List Lit) → Type 0 = λ gs. Contains gs g in subst Q none_gone has))

  pub propagated : (found : Option ℕ) → IfSome found (λ c. IsLive s.db.clauses c × IsFalse s.db.trail.entries (lits_of s.db.clauses c)) → IfNone found (IsComplete s.db.trail.entries s.db.clauses) → (b : Bool) → b ≡ is_some found → StandsAs b s cs
  propagated (Some c) some none b is =
      let P : Bool → Type 0 = λ x. StandsAs x s cs in
      subst P (sym is) (false-shows s.db c low db some.0 some.1 cs (listed-same old.clauses s.db.clauses clauses cs listed))
  propagated None some none b is =
      let P : Bool → Type 0 = λ x. StandsAs x s cs in
      subst P (sym is) (record {
        held = λ d has. inl (held-same old.clauses s.db.clauses clauses d (held d has));
        listed = listed-same old.clauses s.db.clauses clauses cs listed;
        gone = λ g has. never-gone (IsListed cs g) g has;
        in_range = λ g has. never-gone _ g has;
        bottom = low;
        complete = none;
      })

-- where no clause is deleted, each is held
pub all-held : (s : Tiers) (cs : List (List Lit)) → s.gone.items ≡ [] → Stands s cs → AreHeld s.db.clauses cs
all-held s cs none st d has =
    ⊎_elim
    (λ h. h)
    (λ (g : IsListed s.gone.items d). absurd (no-member g.clause (let Q : List (List Lit) → Type 0 = λ gs. Contains gs g.clause in subst Q none g.is_in)))
    (st.held d has)

-- once all are brought back, the store tells whether the clauses show the empty one
pub refuted-as : (b : Bool) (s : Tiers) (cs : List (List Lit)) → IsBroughtBack b s cs → (IsTrue b → Rup cs []) × (Rup cs [] → IsTrue b)
refuted-as true s cs st = ((λ e. st), (λ r. refl))
refuted-as false s cs st = (
  (λ e. absurd (false≢true e)),
  (λ r. shown-all s.db s.db [] (denying-none [] s.db) false ((λ l has. absurd (no-member l has)), st.0.complete) cs (all-held s cs st.1 st.0) r),
)

-- once the empty clause is shown, it stays so
pub shown-refuted : (b : Bool) (s : Tiers) → b ≡ true → (cs : List (List Lit)) → StandsAs b s cs → Rup cs []
shown-refuted true s is cs st = st
shown-refuted false s is cs st = absurd (false≢true is)

-- and each clause is shown
pub all-shown : (cs : List (List Lit)) (lits : List Lit) → Rup cs [] → Rup cs lits × Rup (cs ++ lits ∷ []) []
all-shown cs lits st = (
  shown_by_more cs cs [] lits (λ x has. has) (λ l has. absurd (no-member l has)) st,
  shown_by_more cs (cs ++ lits ∷ []) [] [] (λ x has. Contains-append_left cs (lits ∷ []) x has) (λ l has. has) st,
)

pub any-shown : (b : Bool) (s : Tiers) (lits : List Lit) → b ≡ true → (cs : List (List Lit)) → StandsAs b s cs → Rup cs lits × StandsAs b s (cs ++ lits ∷ [])
any-shown true s lits is cs st = all-shown cs lits st
any-shown false s lits is cs st = absurd (false≢true is)

-- until it is, the tiers stand
pub still-stands : (b : Bool) (s : Tiers) → b ≡ false → (cs : List (List Lit)) → StandsAs b s cs → Stands s cs
still-stands true s is cs st = absurd (false≢true (sym is))
still-stands false s is cs st = st

-- what is brought back, by the answer
pub brought-refuted : (b : Bool) (s : Tiers) (cs : List (List Lit)) → b ≡ true → IsBroughtBack b s cs → Rup cs []
brought-refuted true s cs is st = st
brought-refuted false s cs is st = absurd (false≢true is)

pub brought-all : (b : Bool) (s : Tiers) (cs : List (List Lit)) → b ≡ false → IsBroughtBack b s cs → Stands s cs × (s.gone.items ≡ [])
brought-all true s cs is st = absurd (false≢true (sym is))
brought-all false s cs is st = st

-- a clause is deleted, where the empty one is not shown yet
pub deleted-as : (b : Bool) (s t : Tiers) → b ≡ false → ((cs : List (List Lit)) → Stands s cs → Stands t cs) → (cs : List (List Lit)) → StandsAs b s cs → StandsAs b t cs
deleted-as true s t is h = absurd (false≢true (sym is))
deleted-as false s t is h = h
