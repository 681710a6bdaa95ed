-- What a clause store keeps while a clause that waits gets its watches.
use Rattle.std.proofs.Common.{◌≡◌, ◌≢◌, ℕ, zero, suc, ◌+◌, ◌*◌, ◌/◌, ◌%◌, ◌^◌, ◌≤◌, ◌<◌, false, List, length, take, drop, refl, ap, sym, ◌∙◌, subst, arith, inl, inr, ⊎_elim}
use Rattle.std.proofs.lemmas.Bool.{cases_eq}
use Rattle.std.proofs.lemmas.List.{take-append-drop}
use Rattle.literal_trail.specs.declared.entry.Entry.{Entry}
use Rattle.literal_trail.specs.Trail.{Trail, IsTrail, entry_of, truth_in, implied}
use Rattle.literal_trail.specs.Standing.{IsUnit}
use Rattle.clause_arena.specs.Clauses.{Clause, Arena, clause_at, IsLive, lits_of, lit_in}
use Rattle.clause_arena.specs.Codes.{code_of}
use Rattle.index_ring.specs.Lists.{RingLists, IsRings, IsFree, Stands, list_of, unlinked, pushed_back, without}
use Rattle.clause_rings.specs.Clauses.{SameClauses}
use Rattle.clause_rings.specs.Clauses.Follows.{same}
use Rattle.clause_rings.specs.Watches.{IsGuarded, IsWatched, IsWaiting, IsIdle, IsAttended, IsWatching, IsKept}
use Rattle.clause_rings.specs.Keeping.{Keeps, Advances}
use Rattle.clause_rings.specs.Attaching.{IsReordered, IsAttached, IsForced, IsLinkable, IsLinked}
use Rattle.clause_rings.specs.declared.watches.Watches.{Watches}
use Rattle.clause_rings.proofs.Entries.{entry-append, truth-append}
use Rattle.clause_rings.proofs.Literals.{contains-at}
use Rattle.clause_rings.proofs.Nodes.{OthersStand, unlinked-free, unlinked-others, pushed-others, pushed-here, pushed-list, list-unlinked, length-unlinked, length-pushed, stands-once, stands-held}
use Rattle.clause_rings.proofs.Db.{IsChanged, live-inside, same-changed, db-same}
use Rattle.clause_rings.proofs.Guards.{guarded-open}
use Rattle.clause_rings.proofs.Kept.{ringed-lit, ringed, blocked-same, kept-implied}
use Rattle.clause_rings.proofs.Looked.{advances-none, advances-implied}

-- what the moves of one clause's nodes leave of the nodes of all others
pub record OthersOf (old new : RingLists) (c : ℕ) : Type 0 where
  pub stand : (w q : ℕ) → w ≢ 2 * c → w ≢ 2 * c + 1 → Stands old q w → Stands new q w
  pub free : (w : ℕ) → w ≢ 2 * c → w ≢ 2 * c + 1 → IsFree old w → IsFree new w

pub others-first : (old new : RingLists) (c : ℕ) → OthersStand old new (2 * c) → OthersOf old new c
others-first old new c h = record { stand = λ w q ne other s. h.stand w q ne s; free = λ w ne other s. h.free w ne s }

pub others-second : (old new : RingLists) (c : ℕ) → OthersStand old new (2 * c + 1) → OthersOf old new c
others-second old new c h = record { stand = λ w q other ne s. h.stand w q ne s; free = λ w other ne s. h.free w ne s }

pub others-of_both : (a b d : RingLists) (c : ℕ) → OthersOf a b c → OthersOf b d c → OthersOf a d c
others-of_both a b d c f g = record { stand = λ w q n m s. g.stand w q n m (f.stand w q n m s); free = λ w n m s. g.free w n m (f.free w n m s) }

pub others-same : (rings : RingLists) (c : ℕ) → OthersOf rings rings c
others-same rings c = record { stand = λ w q n m s. s; free = λ w n m s. s }

-- a clause of another number is attended as it was
pub attended-apart : (x : Clause) (old new : RingLists) (es done : List Entry) (d c : ℕ) → (d ≡ c → ⊥) → OthersOf old new c → IsAttended x old es done d → IsAttended x new es done d
attended-apart x old new es done d c ne others h = ⊎_elim watched (⊎_elim waiting idle) h
  where
    watched : IsWatched x old es done d → IsAttended x new es done d
    watched w = inl (record { live = w.live; two = w.two; stands = λ i lt. others.stand (2 * d + i) (code_of (lit_in x.lits i)) (λ e. ne (omega arith)) (λ e. ne (omega arith)) (w.stands i lt); guarded = w.guarded })

    waiting : IsWaiting x old d → IsAttended x new es done d
    waiting w = inr (inl (record { live = w.live; stands = others.stand (2 * d) 0 (λ e. ne (omega arith)) (λ e. ne (omega arith)) w.stands; free = others.free (2 * d + 1) (λ e. ne (omega arith)) (λ e. ne (omega arith)) w.free }))

    idle : IsIdle x old es d → IsAttended x new es done d
    idle i = inr (inr (record { done = i.done; first = others.free (2 * d) (λ e. ne (omega arith)) (λ e. ne (omega arith)) i.first; second = others.free (2 * d + 1) (λ e. ne (omega arith)) (λ e. ne (omega arith)) i.second }))

-- one clause is another one or attended anew, and all others are as they were
pub watching-anew : (old new : List Clause) (t : Trail) (rings moved : RingLists) (head c : ℕ) (x : Clause) → IsChanged old new c x → OthersOf rings moved c → IsRings moved → length moved.lists ≡ length rings.lists → moved.nodes ≡ rings.nodes → IsAttended x moved t.entries (take head t.entries) c → IsWatching old t rings head → IsWatching new t moved head
watching-anew old new t rings moved head c x change others made count nodes here h = record {
  made = made;
  ring_count = count ∙ h.ring_count;
  node_count = omega (arith, change.count, nodes, h.node_count);
  attended = λ d. ⊎_elim (λ (e : d ≡ c). subst (λ (n : ℕ). IsAttended (clause_at new n) moved t.entries (take head t.entries) n) (sym e) (subst (λ (y : Clause). IsAttended y moved t.entries (take head t.entries) c) (sym change.here) here)) (λ (ne : d ≡ c → ⊥). subst (λ (y : Clause). IsAttended y moved t.entries (take head t.entries) d) (sym (change.others d ne)) (attended-apart (clause_at old d) rings moved t.entries (take head t.entries) d c ne others (h.attended d))) (cases_eq d c);
  worked = h.worked;
  late = h.late;
}

-- a clause whose node stands in ring 0 waits
pub waits-by : (cs : List Clause) (t : Trail) (rings : RingLists) (blockers : List ℕ) (head c : ℕ) → IsKept cs t rings blockers head → Stands rings 0 (2 * c) → IsWaiting (clause_at cs c) rings c
waits-by cs t rings blockers head c kept stands = ⊎_elim watched (⊎_elim (λ (w : IsWaiting (clause_at cs c) rings c). w) idle) (kept.watching.attended c)
  where
    watched : IsWatched (clause_at cs c) rings t.entries (take head t.entries) c → IsWaiting (clause_at cs c) rings c
    watched w =
        let two : 2 ≤ length (lits_of cs c) = w.two in
        let r = ringed t.vars (length rings.lists) (lit_in (lits_of cs c) 0) kept.db.trail.few kept.watching.ring_count (kept.db.in_range c w.live (lit_in (lits_of cs c) 0) (contains-at (lits_of cs c) 0 (omega arith))) in
        let there : Stands rings (code_of (lit_in (lits_of cs c) 0)) (2 * c) = subst (λ (n : ℕ). Stands rings (code_of (lit_in (lits_of cs c) 0)) n) (omega arith) (w.stands 0 (omega arith)) in
        let same : 0 ≡ code_of (lit_in (lits_of cs c) 0) = stands-once rings 0 (code_of (lit_in (lits_of cs c) 0)) (2 * c) kept.watching.made stands there in
        absurd (omega (arith, same, r.ring_low))

    idle : IsIdle (clause_at cs c) rings t.entries c → IsWaiting (clause_at cs c) rings c
    idle d = absurd (stands-held rings 0 (2 * c) stands d.first)

pub linkable : (w : Watches) (c : ℕ) → Keeps w → Stands w.rings 0 (2 * c) → IsLinkable (lits_of w.arena.clauses c) w.rings c
linkable w c kept stands =
    let waits = waits-by w.arena.clauses w.trail w.rings w.blockers.items w.head c kept stands in
    record {
      made = kept.watching.made;
      waits = stands;
      free = waits.free;
      node = (let lt : c < length w.arena.clauses = live-inside w.arena.clauses c waits.live in omega (arith, kept.watching.node_count));
      ring = λ k lt. (let r = ringed-lit w c (lit_in (lits_of w.arena.clauses c) k) kept waits.live (contains-at (lits_of w.arena.clauses c) k lt) in (r.ring_low, r.ring_high, r.small));
    }

-- the literals of a clause that waits stand in another order
pub same-reordered : (a b : Arena) (c : ℕ) → IsReordered a b c → SameClauses a.clauses b.clauses
same-reordered a b c r = same-changed a.clauses b.clauses c (clause_at b.clauses c) (record { count = r.count; here = refl; others = r.others }) r.here

pub kept-reordered : (a b : Arena) (t : Trail) (rings : RingLists) (blockers : List ℕ) (head c : ℕ) → IsReordered a b c → Stands rings 0 (2 * c) → IsKept a.clauses t rings blockers head → IsKept b.clauses t rings blockers head
kept-reordered a b t rings blockers head c r stands h =
    let s = same-reordered a b c r in
    let waits = waits-by a.clauses t rings blockers head c h stands in
    record {
      db = db-same a.clauses b.clauses t s h.db;
      watching = watching-anew a.clauses b.clauses t rings rings head c (clause_at b.clauses c) (record { count = r.count; here = refl; others = r.others }) (others-same rings c) h.watching.made refl refl (inr (inl (record { live = r.here.live ∙ waits.live; stands = stands; free = waits.free }))) h.watching;
      blocked = blocked-same a.clauses b.clauses blockers s h.blocked;
      room = omega (arith, r.count, h.room);
    }

-- its first literal may have become true
pub kept-forced : (cs : List Clause) (c : ℕ) (t u : Trail) (rings : RingLists) (blockers : List ℕ) (head : ℕ) → IsForced cs c t u → IsTrail u → IsLive cs c → IsKept cs t rings blockers head → IsKept cs u rings blockers head
kept-forced cs c t u rings blockers head forced trail live h = ⊎_elim (λ (e : u ≡ t). subst (λ (v : Trail). IsKept cs v rings blockers head) (sym e) h) (λ (s : IsUnit t.entries (lits_of cs c) (lit_in (lits_of cs c) 0) × (u ≡ implied t (lit_in (lits_of cs c) 0) c)). subst (λ (v : Trail). IsKept cs v rings blockers head) (sym s.1) (kept-implied cs t rings blockers head c (lit_in (lits_of cs c) 0) (subst IsTrail s.1 trail) live s.0 h)) forced

pub advances-forced : (cs : List Clause) (c : ℕ) (t u : Trail) (lits clauses : ℕ) → IsForced cs c t u → IsLive cs c → Advances (record { clauses = cs; trail = t; spare_lits = lits; spare_clauses = clauses }) (record { clauses = cs; trail = u; spare_lits = lits; spare_clauses = clauses })
advances-forced cs c t u lits clauses forced live = ⊎_elim (λ (e : u ≡ t). subst (λ (v : Trail). Advances (record { clauses = cs; trail = t; spare_lits = lits; spare_clauses = clauses }) (record { clauses = cs; trail = v; spare_lits = lits; spare_clauses = clauses })) (sym e) (advances-none (record { clauses = cs; trail = t; spare_lits = lits; spare_clauses = clauses }))) (λ (s : IsUnit t.entries (lits_of cs c) (lit_in (lits_of cs c) 0) × (u ≡ implied t (lit_in (lits_of cs c) 0) c)). subst (λ (v : Trail). Advances (record { clauses = cs; trail = t; spare_lits = lits; spare_clauses = clauses }) (record { clauses = cs; trail = v; spare_lits = lits; spare_clauses = clauses })) (sym s.1) (advances-implied cs t lits clauses (lit_in (lits_of cs c) 0) c live s.0)) forced

pub advances-reordered : (a b : Arena) (t : Trail) (c : ℕ) → IsReordered a b c → Advances (record { clauses = a.clauses; trail = t; spare_lits = a.spare_lits; spare_clauses = a.spare_clauses }) (record { clauses = b.clauses; trail = t; spare_lits = b.spare_lits; spare_clauses = b.spare_clauses })
advances-reordered a b t c r = record { clauses = same-reordered a b c r; trail = same; spare_lits = r.spare_lits; spare_clauses = r.spare_clauses }

-- its nodes watch its first two literals, or it is true by level 0
pub record IsNewlyLinked (cs : List Clause) (t : Trail) (old new : RingLists) (head c : ℕ) : Type 0 where
  pub others : OthersOf old new c
  pub count : length new.lists ≡ length old.lists
  pub nodes : new.nodes ≡ old.nodes
  pub here : IsAttended (clause_at cs c) new t.entries (take head t.entries) c
  pub gone : list_of new 0 ≡ without (2 * c) (list_of old 0)

pub newly-linked : (cs : List Clause) (t : Trail) (old new : RingLists) (head c : ℕ) → IsLive cs c → 1 ≤ length (lits_of cs c) → IsLinkable (lits_of cs c) old c → IsAttached t.entries (lits_of cs c) → IsLinked (lits_of cs c) old new c → IsNewlyLinked cs t old new head c
newly-linked cs t old new head c live some able attached linked = ⊎_elim one two linked
  where
    mid : RingLists
    mid = unlinked old (2 * c)

    one : (length (lits_of cs c) ≤ 1) × (new ≡ mid) → IsNewlyLinked cs t old new head c
    one (few, e) = subst (λ (r : RingLists). IsNewlyLinked cs t old r head c) (sym e) (record {
      others = others-first old mid c (unlinked-others old (2 * c));
      count = length-unlinked old (2 * c);
      nodes = refl;
      here = inr (inr (record { done = λ is. attached.alone (omega arith); first = unlinked-free old (2 * c); second = (unlinked-others old (2 * c)).free (2 * c + 1) (λ k. absurd (omega arith)) able.free }));
      gone = list-unlinked (2 * c) old.lists 0;
    })

    two : (1 < length (lits_of cs c)) × (new ≡ pushed_back (pushed_back mid (code_of (lit_in (lits_of cs c) 0)) (2 * c)) (code_of (lit_in (lits_of cs c) 1)) (2 * c + 1)) → IsNewlyLinked cs t old new head c
    two (more, e) = subst (λ (r : RingLists). IsNewlyLinked cs t old r head c) (sym e) made
      where
        r0 : ℕ
        r0 = code_of (lit_in (lits_of cs c) 0)

        r1 : ℕ
        r1 = code_of (lit_in (lits_of cs c) 1)

        next : RingLists
        next = pushed_back mid r0 (2 * c)

        last : RingLists
        last = pushed_back next r1 (2 * c + 1)

        able0 : (2 ≤ r0) × (r0 < length old.lists) × ((lit_in (lits_of cs c) 0).var < 2 ^ 27 + 1)
        able0 = able.ring 0 some

        able1 : (2 ≤ r1) × (r1 < length old.lists) × ((lit_in (lits_of cs c) 1).var < 2 ^ 27 + 1)
        able1 = able.ring 1 more

        in0 : r0 < length mid.lists
        in0 = omega (arith, able0.1, length-unlinked old (2 * c))

        in1 : r1 < length next.lists
        in1 = omega (arith, able1.1, length-unlinked old (2 * c), length-pushed mid r0 (2 * c))

        stands : (i : ℕ) → i < 2 → Stands last (code_of (lit_in (lits_of cs c) i)) (2 * c + i)
        stands zero lt = subst (λ (n : ℕ). Stands last r0 n) (omega arith) ((pushed-others next r1 (2 * c + 1) in1).stand (2 * c) r0 (λ k. absurd (omega arith)) (pushed-here mid r0 (2 * c) in0))
        stands (suc zero) lt = pushed-here next r1 (2 * c + 1) in1
        stands (suc (suc i)) lt = absurd (omega arith)

        guarded : (i : ℕ) → i < 2 → IsGuarded t.entries (take head t.entries) (lits_of cs c) (lit_in (lits_of cs c) i)
        guarded zero lt = guarded-open t.entries (take head t.entries) (drop head t.entries) (lits_of cs c) (lit_in (lits_of cs c) 0) (sym (take-append-drop head t.entries)) attached.first
        guarded (suc zero) lt = λ s given f.
            attached.second s (ap (λ (es : List Entry). entry_of es (lit_in (lits_of cs c) 1).var) (sym (take-append-drop head t.entries)) ∙ entry-append (take head t.entries) (drop head t.entries) (lit_in (lits_of cs c) 1).var s given) (ap (λ (es : List Entry). truth_in es (lit_in (lits_of cs c) 1)) (sym (take-append-drop head t.entries)) ∙ truth-append (take head t.entries) (drop head t.entries) (lit_in (lits_of cs c) 1) false f) more
        guarded (suc (suc i)) lt = absurd (omega arith)

        made : IsNewlyLinked cs t old last head c
        made = record {
          others = others-of_both old mid last c (others-first old mid c (unlinked-others old (2 * c))) (others-of_both mid next last c (others-first mid next c (pushed-others mid r0 (2 * c) in0)) (others-second next last c (pushed-others next r1 (2 * c + 1) in1)));
          count = length-pushed next r1 (2 * c + 1) ∙ (length-pushed mid r0 (2 * c) ∙ length-unlinked old (2 * c));
          nodes = refl;
          here = inl (record { live = live; two = more; stands = stands; guarded = guarded });
          gone = pushed-list next r1 (2 * c + 1) 0 in1 (λ k. absurd (omega (arith, able1.0))) ∙ (pushed-list mid r0 (2 * c) 0 in0 (λ k. absurd (omega (arith, able0.0))) ∙ list-unlinked (2 * c) old.lists 0);
        }

pub kept-linked : (cs : List Clause) (t : Trail) (old new : RingLists) (blockers : List ℕ) (head c : ℕ) → IsRings new → IsNewlyLinked cs t old new head c → IsKept cs t old blockers head → IsKept cs t new blockers head
kept-linked cs t old new blockers head c made l h = record {
  db = h.db;
  watching = watching-anew cs cs t old new head c (clause_at cs c) (record { count = refl; here = refl; others = λ d ne. refl }) l.others made l.count l.nodes l.here h.watching;
  blocked = h.blocked;
  room = h.room;
}

-- a clause waits by its first node alone
pub waits-even : (w : Watches) (node : ℕ) → Keeps w → Stands w.rings 0 node → 2 * (node / 2) ≡ node
waits-even w node kept stands = ⊎_elim (λ (e : node % 2 ≡ 0). omega arith) odd (cases_eq (node % 2) 0)
  where
    odd : (node % 2 ≡ 0 → ⊥) → 2 * (node / 2) ≡ node
    odd ne = absurd (not_odd (subst (λ (n : ℕ). Stands w.rings 0 n) (omega arith) stands) (kept.watching.attended (node / 2)))
      where
        not_odd : Stands w.rings 0 (2 * (node / 2) + 1) → IsAttended (clause_at w.arena.clauses (node / 2)) w.rings w.trail.entries (take w.head w.trail.entries) (node / 2) → ⊥
        not_odd there h = ⊎_elim watched (⊎_elim (λ (x : IsWaiting (clause_at w.arena.clauses (node / 2)) w.rings (node / 2)). stands-held w.rings 0 (2 * (node / 2) + 1) there x.free) (λ (x : IsIdle (clause_at w.arena.clauses (node / 2)) w.rings w.trail.entries (node / 2)). stands-held w.rings 0 (2 * (node / 2) + 1) there x.second)) h
          where
            watched : IsWatched (clause_at w.arena.clauses (node / 2)) w.rings w.trail.entries (take w.head w.trail.entries) (node / 2) → ⊥
            watched x =
                let l = lit_in (lits_of w.arena.clauses (node / 2)) 1 in
                let two : 2 ≤ length (lits_of w.arena.clauses (node / 2)) = x.two in
                let r = ringed-lit w (node / 2) l kept x.live (contains-at (lits_of w.arena.clauses (node / 2)) 1 (omega arith)) in
                let same_ring : 0 ≡ code_of l = stands-once w.rings 0 (code_of l) (2 * (node / 2) + 1) kept.watching.made there (x.stands 1 (omega arith)) in
                absurd (omega (arith, same_ring, r.ring_low))
