-- What a clause store keeps when a clause comes, waits again, or goes.
use Rattle.std.proofs.Common.{◌≡◌, ◌≢◌, ℕ, ◌+◌, ◌*◌, ◌/◌, ◌≤◌, ◌<◌, true, false, List, [], ◌∷◌, ◌++◌, length, take, refl, ap, sym, ◌∙◌, subst, arith, inl, inr, ⊎_elim, Some, None}
use Rattle.std.specs.Prelude.{slice_index, ◌==◌}
use Rattle.std.specs.List.{Contains}
use Rattle.std.proofs.lemmas.Bool.{cases_eq, cond-false, ne_eqb}
use Rattle.std.proofs.lemmas.List.{length-append, get_or_at}
use Rattle.order_ints.specs.declared.literal.Lit.{Lit}
use Rattle.order_ints.specs.Place.{LitBelow}
use Rattle.literal_trail.specs.declared.entry.Entry.{Entry}
use Rattle.literal_trail.specs.Trail.{Trail, entry_at, no_entry, truth_in, up_to}
use Rattle.literal_trail.specs.Standing.{IsUnit, IsQuiet}
use Rattle.clause_arena.specs.Clauses.{Clause, no_clause, live_clause, clause_at, IsLive, lits_of, lit_in}
use Rattle.clause_arena.specs.Codes.{code_of}
use Rattle.index_ring.specs.Lists.{RingLists, IsRings, IsFree, Stands, list_of, unlinked, pushed_back, without, times, first_in}
use Rattle.index_ring.proofs.Times.{length-without, times-without}
use Rattle.clause_rings.specs.Clauses.{IsApart, HaveReasons, IsDb, IsLate, HaveTwoLate, MayCome, IsUnused}
use Rattle.clause_rings.specs.Watches.{IsWatched, IsWaiting, IsIdle, Blocks, AreBlockers, IsKept}
use Rattle.clause_rings.specs.Moves.{IsParked, IsReleased, AreSet}
use Rattle.clause_rings.specs.Keeping.{Keeps, head_ring}
use Rattle.clause_rings.specs.declared.watches.Watches.{Watches}
use Rattle.clause_rings.proofs.Entries.{truth-has, truth-same, up-entry}
use Rattle.clause_rings.proofs.Literals.{contains-at}
use Rattle.clause_rings.proofs.Nodes.{unlinked-free, unlinked-others, pushed-others, pushed-here, pushed-list, list-unlinked, length-unlinked, length-pushed, stands-held}
use Rattle.clause_rings.proofs.Db.{IsChanged, live-inside}
use Rattle.clause_rings.proofs.Kept.{at-watch}
use Rattle.clause_rings.proofs.Propagated.{first-stands}
use Rattle.clause_rings.proofs.Linked.{OthersOf, others-first, others-second, others-of_both, watching-anew}

-- a literal that is free, true or false by the current level isn't false below it
pub late-open : (t : Trail) (l : Lit) (k : ℕ) → IsLate t l → k < t.level → truth_in (up_to k t.entries) l ≢ Some false
late-open t l k late lt f =
    let e = truth-has (up_to k t.entries) l false f in
    let was = up-entry k t.entries l.var e.0 e.1 in
    let now : truth_in t.entries l ≡ Some false = truth-same t.entries (up_to k t.entries) l (was.0 ∙ sym e.1) ∙ f in
    let top : e.0.level ≡ t.level = late e.0 was.0 now in
    absurd (omega (arith, was.1))

-- so a clause with two of them is neither false nor unit below it
pub late-quiet : (t : Trail) (ls : List Lit) (k : ℕ) → IsApart ls → HaveTwoLate t ls → k < t.level → IsQuiet (up_to k t.entries) ls
late-quiet t ls k apart h lt = record { not_false = λ f. late-open t (lit_in ls h.one) k h.one_late lt (f (lit_in ls h.one) (contains-at ls h.one h.one_in)); not_unit = not_unit }
  where
    not_unit : (u : Lit) → IsUnit (up_to k t.entries) ls u → ⊥
    not_unit u f = ⊎_elim same other (cases_eq (lit_in ls h.one).var u.var)
      where
        other : ((lit_in ls h.one).var ≡ u.var → ⊥) → ⊥
        other ne = late-open t (lit_in ls h.one) k h.one_late lt (f.others (lit_in ls h.one) (contains-at ls h.one h.one_in) (λ e. ne (ap (λ (l : Lit). l.var) e)))

        same : (lit_in ls h.one).var ≡ u.var → ⊥
        same e = late-open t (lit_in ls h.other) k h.other_late lt (f.others (lit_in ls h.other) (contains-at ls h.other h.other_in) (λ i. h.apart (apart h.one h.other h.one_in h.other_in (e ∙ sym (ap (λ (l : Lit). l.var) i)))))

pub may-come_quiet : (t : Trail) (ls : List Lit) (k : ℕ) → IsApart ls → MayCome t ls → k < t.level → IsQuiet (up_to k t.entries) ls
may-come_quiet t ls k apart h lt = ⊎_elim (λ (e : t.level ≡ 0). absurd (omega arith)) (λ (two : HaveTwoLate t ls). late-quiet t ls k apart two lt) h

-- what has to hold of a clause that comes
pub record IsWelcome (t : Trail) (ls : List Lit) : Type 0 where
  pub in_range : (l : Lit) → Contains ls l → LitBelow (t.vars + 1) l
  pub apart : IsApart ls
  pub may_come : MayCome t ls

-- a live clause is the new one, or was there
pub live-cases : (old new : List Clause) (c : ℕ) (x : Clause) (P : ℕ → Clause → Type 0) → IsChanged old new c x → P c x → ((d : ℕ) → d ≢ c → IsLive old d → P d (clause_at old d)) → (d : ℕ) → IsLive new d → P d (clause_at new d)
live-cases old new c x P change here there d live = ⊎_elim (λ (e : d ≡ c). subst (λ (n : ℕ). P n (clause_at new n)) (sym e) (subst (λ (y : Clause). P c y) (sym change.here) here)) (λ (ne : d ≡ c → ⊥). subst (λ (y : Clause). P d y) (sym (change.others d ne)) (there d ne (subst (λ (y : Clause). y.live ≡ true) (change.others d ne) live))) (cases_eq d c)

pub db-added : (old new : List Clause) (t : Trail) (c id : ℕ) (ls : List Lit) → IsChanged old new c (live_clause id ls) → (clause_at old c).live ≡ false → IsWelcome t ls → IsDb old t → IsDb new t
db-added old new t c id ls change dead w h = record {
  trail = h.trail;
  in_range = λ d live. live-cases old new c (live_clause id ls) (λ d x. (l : Lit) → Contains x.lits l → LitBelow (t.vars + 1) l) change w.in_range (λ d ne was. h.in_range d was) d live;
  apart = λ d live. live-cases old new c (live_clause id ls) (λ d x. IsApart x.lits) change w.apart (λ d ne was. h.apart d was) d live;
  reasons = reasons;
  below = λ k lt d live. live-cases old new c (live_clause id ls) (λ d x. IsQuiet (up_to k t.entries) x.lits) change (may-come_quiet t ls k w.apart w.may_come lt) (λ d ne was. h.below k lt d was) d live;
}
  where
    reasons : HaveReasons new t.entries
    reasons before after e d cut reason =
        let r = h.reasons before after e d cut reason in
        let ne : d ≢ c = λ k. (let no : false ≡ true = sym dead ∙ (ap (λ (n : ℕ). (clause_at old n).live) (sym k) ∙ r.0) in cc) in
        subst (λ (y : Clause). (y.live ≡ true) × IsUnit before y.lits e.lit) (sym (change.others d ne)) r

-- the nodes of a clause that isn't there are free
pub dead-idle : (cs : List Clause) (t : Trail) (rings : RingLists) (blockers : List ℕ) (head c : ℕ) → IsKept cs t rings blockers head → (clause_at cs c).live ≡ false → IsFree rings (2 * c) × IsFree rings (2 * c + 1)
dead-idle cs t rings blockers head c kept dead = ⊎_elim (λ (w : IsWatched (clause_at cs c) rings t.entries (take head t.entries) c). absurd (let no : false ≡ true = sym dead ∙ w.live in cc)) (⊎_elim (λ (w : IsWaiting (clause_at cs c) rings c). absurd (let no : false ≡ true = sym dead ∙ w.live in cc)) (λ (d : IsIdle (clause_at cs c) rings t.entries c). (d.first, d.second))) (kept.watching.attended c)

pub blocked-added : (old new : List Clause) (blockers more : List ℕ) (c id : ℕ) (ls : List Lit) → IsChanged old new c (live_clause id ls) → AreSet blockers more (2 * c) ls → AreBlockers old blockers → AreBlockers new more
blocked-added old new blockers more c id ls change set_is h d i small live some = ⊎_elim here there (cases_eq d c)
  where
    here : d ≡ c → Blocks (lits_of new d) (slice_index more (2 * d + i))
    here e =
        let is : lits_of new d ≡ ls = ap (λ (n : ℕ). lits_of new n) e ∙ ap (λ (y : Clause). y.lits) change.here in
        subst (λ (n : ℕ). Blocks (lits_of new d) (slice_index more (2 * n + i))) (sym e) (subst (λ (l : List Lit). Blocks l (slice_index more (2 * c + i))) (sym is) (set_is.here i small (omega (arith, ap (length {A = Lit}) is))))

    there : (d ≡ c → ⊥) → Blocks (lits_of new d) (slice_index more (2 * d + i))
    there ne =
        let is : clause_at new d ≡ clause_at old d = change.others d ne in
        let was : IsLive old d = subst (λ (y : Clause). y.live ≡ true) is live in
        let got : slice_index more (2 * d + i) ≡ slice_index blockers (2 * d + i) = set_is.others (2 * d + i) (λ e. ne (omega arith)) (λ e. ne (omega arith)) in
        subst (λ (y : Clause). Blocks y.lits (slice_index more (2 * d + i))) (sym is) (subst (λ (n : ℕ). Blocks (lits_of old d) n) (sym got) (h d i small was (omega (arith, ap (λ (y : Clause). length y.lits) is))))

-- a clause comes and waits
pub kept-added : (old new : List Clause) (t : Trail) (rings moved : RingLists) (blockers more : List ℕ) (head c id : ℕ) (ls : List Lit) → IsChanged old new c (live_clause id ls) → (clause_at old c).live ≡ false → IsWelcome t ls → moved ≡ pushed_back rings 0 (2 * c) → IsRings moved → AreSet blockers more (2 * c) ls → IsKept old t rings blockers head → IsKept new t moved more head
kept-added old new t rings moved blockers more head c id ls change dead welcome is made set_is h =
    let free = dead-idle old t rings blockers head c h dead in
    let ring : 0 < length rings.lists = omega (arith, h.watching.ring_count) in
    let waits : IsWaiting (live_clause id ls) (pushed_back rings 0 (2 * c)) c = record { live = refl; stands = pushed-here rings 0 (2 * c) ring; free = (pushed-others rings 0 (2 * c) ring).free (2 * c + 1) (λ e. absurd (omega arith)) free.1 } in
    record {
      db = db-added old new t c id ls change dead welcome h.db;
      watching = watching-anew old new t rings moved head c (live_clause id ls) change (subst (λ (r : RingLists). OthersOf rings r c) (sym is) (others-first rings (pushed_back rings 0 (2 * c)) c (pushed-others rings 0 (2 * c) ring))) made (ap (λ (r : RingLists). length r.lists) is ∙ length-pushed rings 0 (2 * c)) (ap (λ (r : RingLists). r.nodes) is) (inr (inl (subst (λ (r : RingLists). IsWaiting (live_clause id ls) r c) (sym is) waits))) h.watching;
      blocked = blocked-added old new blockers more c id ls change set_is h.blocked;
      room = omega (arith, change.count, set_is.count, h.room);
    }

-- a clause that no literal became true for goes
pub reason-at : (es before after : List Entry) (e : Entry) (c : ℕ) → es ≡ before ++ e ∷ after → e.reason ≡ Some c → IsUnused es c → ⊥
reason-at es before after e c cut reason unused =
    let here : entry_at es (length before) ≡ e = ap (λ (l : List Entry). entry_at l (length before)) cut ∙ get_or_at before e after no_entry (length before) refl in
    let inside : length before < length es = omega (arith, ap (length {A = Entry}) cut, length-append before (e ∷ after)) in
    unused (length before) inside (ap (λ (x : Entry). x.reason) here ∙ reason)

pub db-deleted : (old new : List Clause) (t : Trail) (c : ℕ) → IsChanged old new c no_clause → IsUnused t.entries c → IsDb old t → IsDb new t
db-deleted old new t c change unused h = record {
  trail = h.trail;
  in_range = λ d live. subst (λ (y : Clause). (l : Lit) → Contains y.lits l → LitBelow (t.vars + 1) l) (sym (was d live).0) (h.in_range d (was d live).1);
  apart = λ d live. subst (λ (y : Clause). IsApart y.lits) (sym (was d live).0) (h.apart d (was d live).1);
  reasons = reasons;
  below = λ k lt d live. subst (λ (y : Clause). IsQuiet (up_to k t.entries) y.lits) (sym (was d live).0) (h.below k lt d (was d live).1);
}
  where
    was : (d : ℕ) → IsLive new d → (clause_at new d ≡ clause_at old d) × IsLive old d
    was d live = ⊎_elim (λ (e : d ≡ c). absurd (let no : false ≡ true = sym (ap (λ (n : ℕ). (clause_at new n).live) e ∙ ap (λ (y : Clause). y.live) change.here) ∙ live in cc)) (λ (ne : d ≡ c → ⊥). (change.others d ne, subst (λ (y : Clause). y.live ≡ true) (change.others d ne) live)) (cases_eq d c)

    reasons : HaveReasons new t.entries
    reasons before after e d cut reason =
        let ne : d ≢ c = λ k. reason-at t.entries before after e c cut (reason ∙ ap (λ (n : ℕ). Some n) k) unused in
        subst (λ (y : Clause). (y.live ≡ true) × IsUnit before y.lits e.lit) (sym (change.others d ne)) (h.reasons before after e d cut reason)

pub blocked-deleted : (old new : List Clause) (blockers : List ℕ) (c : ℕ) → IsChanged old new c no_clause → AreBlockers old blockers → AreBlockers new blockers
blocked-deleted old new blockers c change h d i small live some = ⊎_elim (λ (e : d ≡ c). absurd (let no : false ≡ true = sym (ap (λ (n : ℕ). (clause_at new n).live) e ∙ ap (λ (y : Clause). y.live) change.here) ∙ live in cc)) (λ (ne : d ≡ c → ⊥). let is : clause_at new d ≡ clause_at old d = change.others d ne in subst (λ (y : Clause). Blocks y.lits (slice_index blockers (2 * d + i))) (sym is) (h d i small (subst (λ (y : Clause). y.live ≡ true) is live) (omega (arith, ap (λ (y : Clause). length y.lits) is)))) (cases_eq d c)

pub kept-deleted : (old new : List Clause) (t : Trail) (rings mid moved : RingLists) (blockers : List ℕ) (head c : ℕ) → IsChanged old new c no_clause → IsUnused t.entries c → IsReleased rings mid (2 * c) → IsReleased mid moved (2 * c + 1) → IsRings moved → IsKept old t rings blockers head → IsKept new t moved blockers head
kept-deleted old new t rings mid moved blockers head c change unused one two made h = record {
  db = db-deleted old new t c change unused h.db;
  watching = watching-anew old new t rings moved head c no_clause change
      (record { stand = λ w q n m s. two.others w q m (one.others w q n s); free = λ w n m s. two.still_free w m (one.still_free w n s) })
      made (two.count ∙ one.count) (two.nodes ∙ one.nodes)
      (inr (inr (record { done = λ live. absurd (let no : false ≡ true = live in cc); first = two.still_free (2 * c) (λ e. absurd (omega arith)) one.free; second = two.free })))
      h.watching;
  blocked = blocked-deleted old new blockers c change h.blocked;
  room = omega (arith, change.count, h.room);
}

pub released-unlinked : (rings : RingLists) (v : ℕ) → IsReleased rings (unlinked rings v) v
released-unlinked rings v = record {
  free = unlinked-free rings v;
  others = λ w q ne s. (unlinked-others rings v).stand w q ne s;
  still_free = λ w ne f. (unlinked-others rings v).free w ne f;
  count = length-unlinked rings v;
  nodes = refl;
}

-- a watched clause waits again
pub parked-waits : (x : Clause) (old new : RingLists) (es done : List Entry) (c : ℕ) → 0 < length old.lists → IsParked old new c → IsWatched x old es done c → IsWaiting x new c × OthersOf old new c
parked-waits x old new es done c ring is w =
    let one = unlinked old (2 * c) in
    let two = unlinked one (2 * c + 1) in
    let there : 0 < length two.lists = omega (arith, length-unlinked old (2 * c), length-unlinked one (2 * c + 1)) in (
      subst (λ (r : RingLists). IsWaiting x r c) (sym is) (record { live = w.live; stands = pushed-here two 0 (2 * c) there; free = (pushed-others two 0 (2 * c) there).free (2 * c + 1) (λ e. absurd (omega arith)) (unlinked-free one (2 * c + 1)) }),
      subst (λ (r : RingLists). OthersOf old r c) (sym is) (others-of_both old one (pushed_back two 0 (2 * c)) c (others-first old one c (unlinked-others old (2 * c))) (others-of_both one two (pushed_back two 0 (2 * c)) c (others-second one two c (unlinked-others one (2 * c + 1))) (others-first two (pushed_back two 0 (2 * c)) c (pushed-others two 0 (2 * c) there)))),
    )

pub kept-parked : (cs : List Clause) (t : Trail) (old new : RingLists) (blockers : List ℕ) (head c : ℕ) → IsParked old new c → IsRings new → IsWatched (clause_at cs c) old t.entries (take head t.entries) c → IsKept cs t old blockers head → IsKept cs t new blockers head
kept-parked cs t old new blockers head c is made w h =
    let p = parked-waits (clause_at cs c) old new t.entries (take head t.entries) c (omega (arith, h.watching.ring_count)) is w in
    record {
      db = h.db;
      watching = watching-anew cs cs t old new head c (clause_at cs c) (record { count = refl; here = refl; others = λ d ne. refl }) p.1 made
          (ap (λ (r : RingLists). length r.lists) is ∙ (length-pushed (unlinked (unlinked old (2 * c)) (2 * c + 1)) 0 (2 * c) ∙ (length-unlinked (unlinked old (2 * c)) (2 * c + 1) ∙ length-unlinked old (2 * c))))
          (ap (λ (r : RingLists). r.nodes) is) (inr (inl p.0)) h.watching;
      blocked = h.blocked;
      room = h.room;
    }

-- the ring that is emptied is shorter
pub parked-list : (old new : RingLists) (c r : ℕ) → 0 < length old.lists → r ≢ 0 → IsParked old new c → list_of new r ≡ without (2 * c + 1) (without (2 * c) (list_of old r))
parked-list old new c r ring ne is =
    let one = unlinked old (2 * c) in
    let two = unlinked one (2 * c + 1) in
    let there : 0 < length two.lists = omega (arith, length-unlinked old (2 * c), length-unlinked one (2 * c + 1)) in
    ap (λ (x : RingLists). list_of x r) is ∙ (pushed-list two 0 (2 * c) r there ne ∙ (list-unlinked (2 * c + 1) one.lists r ∙ ap (without (2 * c + 1)) (list-unlinked (2 * c) old.lists r)))

-- what is known of the first node in the ring that is emptied
pub record IsParkable (w : Watches) (ring node : ℕ) : Type 0 where
  pub watched : IsWatched (clause_at w.arena.clauses (node / 2)) w.rings w.trail.entries (take w.head w.trail.entries) (node / 2)
  pub first : ¬ IsFree w.rings (2 * (node / 2))
  pub second : ¬ IsFree w.rings (2 * (node / 2) + 1)
  pub inside : 2 * (node / 2) + 1 < w.rings.nodes
  pub less : length (without (2 * (node / 2) + 1) (without (2 * (node / 2)) (list_of w.rings ring))) < length (list_of w.rings ring)

pub parkable : (w : Watches) (ring node : ℕ) → Keeps w → w.head < length w.trail.entries → head_ring w ≡ ring → Some node ≡ first_in (list_of w.rings ring) → IsParkable w ring node
parkable w ring node kept lt is first =
    let stands : Stands w.rings ring node = first-stands w.rings ring node first in
    let at = at-watch w node kept lt (subst (λ (r : ℕ). Stands w.rings r node) (sym is) stands) in
    let zero_th : Stands w.rings (code_of (lit_in (lits_of w.arena.clauses (node / 2)) 0)) (2 * (node / 2)) = subst (λ (n : ℕ). Stands w.rings (code_of (lit_in (lits_of w.arena.clauses (node / 2)) 0)) n) (omega arith) (at.watched.stands 0 (omega arith)) in
    record {
      watched = at.watched;
      first = stands-held w.rings (code_of (lit_in (lits_of w.arena.clauses (node / 2)) 0)) (2 * (node / 2)) zero_th;
      second = stands-held w.rings (code_of (lit_in (lits_of w.arena.clauses (node / 2)) 1)) (2 * (node / 2) + 1) (at.watched.stands 1 (omega arith));
      inside = (let in_clauses : node / 2 < length w.arena.clauses = live-inside w.arena.clauses (node / 2) at.watched.live in omega (arith, kept.watching.node_count));
      less = shorter (list_of w.rings ring) stands;
    }
  where
    shorter : (list : List ℕ) → 1 ≤ times node list → length (without (2 * (node / 2) + 1) (without (2 * (node / 2)) list)) < length list
    shorter list here =
        let c = node / 2 in
        let one : length (without (2 * c) list) + times (2 * c) list ≡ length list = length-without (2 * c) list in
        let two : length (without (2 * c + 1) (without (2 * c) list)) + times (2 * c + 1) (without (2 * c) list) ≡ length (without (2 * c) list) = length-without (2 * c + 1) (without (2 * c) list) in
        let kept_times : times (2 * c + 1) (without (2 * c) list) ≡ times (2 * c + 1) list = times-without (2 * c) (2 * c + 1) list ∙ cond-false {A = ℕ} ((2 * c + 1) == (2 * c)) 0 (times (2 * c + 1) list) (ne_eqb (2 * c + 1) (2 * c) (λ e. absurd (omega arith))) in
        ⊎_elim (λ (e : node ≡ 2 * c). omega (arith, ap (λ (n : ℕ). times n list) e)) (λ (ne : node ≡ 2 * c → ⊥). let other : node ≡ 2 * c + 1 = omega arith in omega (arith, ap (λ (n : ℕ). times n list) other)) (cases_eq node (2 * c))

-- an empty ring has no node
pub none-stands : (rings : RingLists) (r v : ℕ) → None ≡ first_in (list_of rings r) → ¬ Stands rings r v
none-stands rings r v e h = let n : times v (list_of rings r) ≡ 0 = ap (times v) (nothing (list_of rings r) e) in absurd (omega arith)
  where
    nothing : (list : List ℕ) → None ≡ first_in list → list ≡ []
    nothing [] k = refl
    nothing (x ∷ list) k = absurd (let no : None ≡ Some x = k in cc)
