-- The literals of what is met, one after another.
use Rattle.std.proofs.Common.{◌≡◌, ◌≢◌, ◌⊎◌, ◌==◌, ◌||◌, ℕ, ◌+◌, ◌<◌, ◌≤◌, Bool, true, false, List, [], ◌∷◌, ◌++◌, length, get_or, Some, refl, sym, ap, ◌∙◌, subst, inl, inr, arith}
use Rattle.std.specs.List.{Contains}
use Rattle.std.proofs.lemmas.List.{get_or_default}
use Rattle.std.proofs.lemmas.List.Elements.{Contains-append_left, Contains-push, Contains-push_cases}
use Rattle.std.proofs.lemmas.Bool.{cases_eq, cases_lt}
use Rattle.order_ints.specs.declared.literal.Lit.{Lit}
use Rattle.order_ints.specs.Truth.{not_lit}
use Rattle.literal_trail.specs.declared.entry.Entry.{Entry}
use Rattle.literal_trail.specs.Trail.{Trail, IsTrail, entry_of}
use Rattle.proof_check.specs.Values.{has_var, VarsDiffer}
use Rattle.conflict_analysis.specs.declared.marks.Mark.{Mark}
use Rattle.conflict_analysis.specs.declared.marks.Mark.TheVariants.{Met}
use Rattle.conflict_analysis.specs.Marking.{mark_at, IsTouched}
use Rattle.conflict_analysis.specs.Reasons.{the_entry, level_at}
use Rattle.conflict_analysis.specs.Learned.{IsFalseAt, IsFalseUpTo, IsSecond}
use Rattle.conflict_analysis.specs.Collecting.{IsLeft, IsFarthest, IsCollecting, IsCollected}
use Rattle.conflict_analysis.proofs.Members.{contains-here, contains-there, contains-cases, contains-nil}
use Rattle.conflict_analysis.proofs.Literals.{not-not-lit}
use Rattle.conflict_analysis.proofs.Places.{entry-place, place-entry, entry-false, the-entry, level-of, level-in, in-range}
use Rattle.conflict_analysis.proofs.Derived.{no-lit-var}
use Rattle.conflict_analysis.proofs.Resolves.{met-not-blank}

has-var-push : (v : ℕ) (ls : List Lit) (l : Lit) → has_var v ls ≡ false → v ≢ l.var → has_var v (ls ++ l ∷ []) ≡ false
has-var-push v [] l h n = no-lit-var v (l ∷ []) (λ m c. elim (contains-cases l m [] c) [ inl e ↦ λ q. n (q ∙ ap (λ (x : Lit). x.var) (sym e)) | inr k ↦ absurd (contains-nil m k) ])
has-var-push v (m ∷ ls) l h n =
    let p = split (v == m.var) (has_var v ls) h in
    rw p.0 (has-var-push v ls l p.1 n)
  where
    split : (a b : Bool) → (a || b) ≡ false → (a ≡ false) × (b ≡ false)
    split true b h = cc
    split false b h = (refl, h)

pub differ-push : (ls : List Lit) (l : Lit) → VarsDiffer ls → ((m : Lit) → Contains ls m → m.var ≢ l.var) → VarsDiffer (ls ++ l ∷ [])
differ-push [] l d h = (refl, tt)
differ-push (m ∷ ls) l d h = (has-var-push m.var ls l d.0 (h m (contains-here m ls)), differ-push ls l d.1 (λ n c. h n (contains-there m n ls c)))

module _ (t : Trail) (tr : IsTrail t) (cells : List Mark) (first : Lit) (left : IsLeft t cells first.var) (first_is : first ≡ not_lit (the_entry t.entries first.var).lit) where
  -- the literal of a variable that is met
  met-entry : (v : ℕ) → mark_at cells v ≡ Met → (e : Entry) × (entry_of t.entries v ≡ Some e)
  met-entry v m = place-entry t.entries v (left.entry v m)

  pub met-low : (v : ℕ) → mark_at cells v ≡ Met → v ≤ t.vars
  met-low v m = let e = met-entry v m in (in-range t tr v e.0 e.1).1

  lit-var : (v : ℕ) → mark_at cells v ≡ Met → (not_lit (the_entry t.entries v).lit).var ≡ v
  lit-var v m = let e = met-entry v m in ap (λ (x : Entry). x.lit.var) (the-entry t.entries v e.0 e.1) ∙ (entry-place t.entries v e.0 e.1).2

  pub lit-false : (v : ℕ) → mark_at cells v ≡ Met → IsFalseAt t.entries (level_at t.entries v) (not_lit (the_entry t.entries v).lit)
  lit-false v m =
      let e = met-entry v m in
      let at : entry_of t.entries (not_lit (the_entry t.entries v).lit).var ≡ Some e.0 = ap (entry_of t.entries) (lit-var v m) ∙ e.1 in
      record {
        is_false = entry-false t.entries (not_lit (the_entry t.entries v).lit) e.0 at (sym (not-not-lit e.0.lit) ∙ ap (λ (x : Entry). not_lit (not_lit x.lit)) (sym (the-entry t.entries v e.0 e.1)));
        of_level = level-in t.entries (not_lit (the_entry t.entries v).lit).var e.0 at ∙ ap Some (sym (level-of t.entries v e.0 e.1));
      }

  module _ (best jump : ℕ) (far : IsFarthest t.entries cells first.var best jump) where
    lit-lower : (v : ℕ) → mark_at cells v ≡ Met → v ≢ first.var → IsFalseUpTo t.entries jump (not_lit (the_entry t.entries v).lit)
    lit-lower v m n = record { level = level_at t.entries v; at = lit-false v m; above = left.above v m; up_to = far.most v m n }

    pub jump-below : jump < t.level
    jump-below = elim (cases_lt 0 jump) [
      | inl p ↦
          let b = far.has p in
          let e : level_at t.entries best ≡ jump = b.2 in
          elim (left.below best b.0) [ inl s ↦ absurd (b.1 s) | inr l ↦ omega arith ]
      | inr z ↦ let a : 1 ≤ level_at t.entries first.var = left.above first.var left.met in let n : level_at t.entries first.var ≡ t.level = left.now in omega arith
    ]

    module _ (touched : List ℕ) (listed : IsTouched cells touched) where
      -- at first there is the first alone, and the best if there is one
      pub collecting-alone : jump ≡ 0 → (lits : List Lit) → lits ≡ first ∷ [] → IsCollecting t cells first best jump touched 0 lits
      collecting-alone z lits e = rw e (record {
        others = [];
        shape = refl;
        second = z;
        lower = λ l c. absurd (contains-nil l c);
        differ = (refl, tt);
        met = λ l c. elim (contains-cases first l [] c) [ inl s ↦ ap (λ (x : Lit). mark_at cells x.var) (sym s) ∙ left.met | inr k ↦ absurd (contains-nil l k) ];
        among = λ l c. elim (contains-cases first l [] c) [ inl s ↦ inl (ap (λ (x : Lit). x.var) (sym s)) | inr k ↦ absurd (contains-nil l k) ];
        farther = λ p. absurd (omega arith);
        done = λ i l m. absurd (omega arith);
      })

      pub collecting-two : 0 < jump → (lits : List Lit) → lits ≡ first ∷ not_lit (the_entry t.entries best).lit ∷ [] → IsCollecting t cells first best jump touched 0 lits
      collecting-two p lits e =
          let b = far.has p in
          rw e (record {
            others = not_lit (the_entry t.entries best).lit ∷ [];
            shape = refl;
            second = subst (λ (n : ℕ). IsFalseAt t.entries n (not_lit (the_entry t.entries best).lit)) b.2 (lit-false best b.0);
            lower = λ l c. elim (contains-cases (not_lit (the_entry t.entries best).lit) l [] c) [
              | inl s ↦ subst (λ (x : Lit). IsFalseUpTo t.entries jump x) s (lit-lower best b.0 b.1)
              | inr k ↦ absurd (contains-nil l k)
            ];
            differ = (
              no-lit-var first.var (not_lit (the_entry t.entries best).lit ∷ []) (λ l c. elim (contains-cases (not_lit (the_entry t.entries best).lit) l [] c) [
                | inl s ↦ λ q. b.1 (sym (q ∙ ap (λ (x : Lit). x.var) (sym s) ∙ lit-var best b.0))
                | inr k ↦ absurd (contains-nil l k)
              ]),
              (refl, tt),
            );
            met = λ l c. elim (contains-cases first l (not_lit (the_entry t.entries best).lit ∷ []) c) [
              | inl s ↦ ap (λ (x : Lit). mark_at cells x.var) (sym s) ∙ left.met
              | inr k ↦ elim (contains-cases (not_lit (the_entry t.entries best).lit) l [] k) [
                | inl s ↦ ap (λ (x : Lit). mark_at cells x.var) (sym s) ∙ ap (mark_at cells) (lit-var best b.0) ∙ b.0
                | inr k' ↦ absurd (contains-nil l k')
              ]
            ];
            among = λ l c. elim (contains-cases first l (not_lit (the_entry t.entries best).lit ∷ []) c) [
              | inl s ↦ inl (ap (λ (x : Lit). x.var) (sym s))
              | inr k ↦ elim (contains-cases (not_lit (the_entry t.entries best).lit) l [] k) [
                | inl s ↦ inr (inl (ap (λ (x : Lit). x.var) (sym s) ∙ lit-var best b.0))
                | inr k' ↦ absurd (contains-nil l k')
              ]
            ];
            farther = λ q. contains-there first (not_lit (the_entry t.entries best).lit) (not_lit (the_entry t.entries best).lit ∷ []) (contains-here (not_lit (the_entry t.entries best).lit) []);
            done = λ i l m. absurd (omega arith);
          })

      module _ (k : ℕ) (low : k < length touched) (lits : List Lit) (h : IsCollecting t cells first best jump touched k lits) where
        first-in : Contains lits (not_lit (the_entry t.entries first.var).lit)
        first-in = subst (λ (x : Lit). Contains lits x) first_is (rw h.shape (contains-here first h.others))

        -- one that is there already, or isn't met, is passed
        pub collecting-skip : (get_or touched k 0 ≡ first.var) ⊎ (get_or touched k 0 ≡ best) ⊎ (mark_at cells (get_or touched k 0) ≢ Met) → IsCollecting t cells first best jump touched (k + 1) lits
        collecting-skip why = record {
          others = h.others;
          shape = h.shape;
          second = h.second;
          lower = h.lower;
          differ = h.differ;
          met = h.met;
          among = λ l c. elim (h.among l c) [
            | inl s ↦ inl s
            | inr r ↦ elim r [ inl s ↦ inr (inl s) | inr i ↦ let li : i.0 < k = i.1 in inr (inr (i.0, omega arith, i.2)) ]
          ];
          farther = h.farther;
          done = λ i l m. elim (cases_lt i k) [
            | inl li ↦ h.done i li m
            | inr hi ↦ let e : i ≡ k = omega arith in at-k i e m
          ];
        }
          where
            at-k : (i : ℕ) → i ≡ k → mark_at cells (get_or touched i 0) ≡ Met → Contains lits (not_lit (the_entry t.entries (get_or touched i 0)).lit)
            at-k i e m =
                let same : get_or touched i 0 ≡ get_or touched k 0 = ap (λ (j : ℕ). get_or touched j 0) e in
                elim why [
                  | inl s ↦ subst (λ (x : ℕ). Contains lits (not_lit (the_entry t.entries x).lit)) (sym (same ∙ s)) first-in
                  | inr r ↦ elim r [
                    | inl s ↦ elim (cases_eq (get_or touched i 0) first.var) [
                      | inl f ↦ subst (λ (x : ℕ). Contains lits (not_lit (the_entry t.entries x).lit)) (sym f) first-in
                      | inr n ↦
                          let a : 1 ≤ level_at t.entries (get_or touched i 0) = left.above (get_or touched i 0) m in
                          let b : level_at t.entries (get_or touched i 0) ≤ jump = far.most (get_or touched i 0) m n in
                          subst (λ (x : ℕ). Contains lits (not_lit (the_entry t.entries x).lit)) (sym (same ∙ s)) (h.farther (omega arith))
                    ]
                    | inr n ↦ absurd (n (ap (mark_at cells) (sym same) ∙ m))
                  ]
                ]

        -- another one that is met is added
        pub collecting-push : get_or touched k 0 ≢ first.var → get_or touched k 0 ≢ best → mark_at cells (get_or touched k 0) ≡ Met → (more : List Lit) → more ≡ lits ++ not_lit (the_entry t.entries (get_or touched k 0)).lit ∷ []
            → IsCollecting t cells first best jump touched (k + 1) more
        collecting-push nf nb m more e = rw e (record {
          others = h.others ++ (not_lit (the_entry t.entries (get_or touched k 0)).lit) ∷ [];
          shape = ap (λ (ls : List Lit). ls ++ (not_lit (the_entry t.entries (get_or touched k 0)).lit) ∷ []) h.shape;
          second = still h.others h.second;
          lower = λ l c. elim (Contains-push_cases h.others (not_lit (the_entry t.entries (get_or touched k 0)).lit) l c) [
            | inl k' ↦ h.lower l k'
            | inr s ↦ subst (λ (x : Lit). IsFalseUpTo t.entries jump x) s (lit-lower (get_or touched k 0) m nf)
          ];
          differ = differ-push lits (not_lit (the_entry t.entries (get_or touched k 0)).lit) h.differ (λ l c q. fresh l c (q ∙ lit-var (get_or touched k 0) m));
          met = λ l c. elim (Contains-push_cases lits (not_lit (the_entry t.entries (get_or touched k 0)).lit) l c) [
            | inl k' ↦ h.met l k'
            | inr s ↦ ap (λ (x : Lit). mark_at cells x.var) (sym s) ∙ ap (mark_at cells) (lit-var (get_or touched k 0) m) ∙ m
          ];
          among = λ l c. elim (Contains-push_cases lits (not_lit (the_entry t.entries (get_or touched k 0)).lit) l c) [
            | inl k' ↦ elim (h.among l k') [
              | inl s ↦ inl s
              | inr r ↦ elim r [ inl s ↦ inr (inl s) | inr i ↦ let li : i.0 < k = i.1 in inr (inr (i.0, omega arith, i.2)) ]
            ]
            | inr s ↦ inr (inr (k, omega arith, sym (ap (λ (x : Lit). x.var) (sym s) ∙ lit-var (get_or touched k 0) m)))
          ];
          farther = λ p. Contains-append_left lits ((not_lit (the_entry t.entries (get_or touched k 0)).lit) ∷ []) (not_lit (the_entry t.entries best).lit) (h.farther p);
          done = λ i l m'. elim (cases_lt i k) [
            | inl li ↦ Contains-append_left lits ((not_lit (the_entry t.entries (get_or touched k 0)).lit) ∷ []) (not_lit (the_entry t.entries (get_or touched i 0)).lit) (h.done i li m')
            | inr hi ↦ let q : i ≡ k = omega arith in subst (λ (j : ℕ). Contains (lits ++ (not_lit (the_entry t.entries (get_or touched k 0)).lit) ∷ []) (not_lit (the_entry t.entries (get_or touched j 0)).lit)) (sym q) (Contains-push lits (not_lit (the_entry t.entries (get_or touched k 0)).lit))
          ];
        })
          where
            still : (others : List Lit) → IsSecond t.entries jump others → IsSecond t.entries jump (others ++ not_lit (the_entry t.entries (get_or touched k 0)).lit ∷ [])
            still [] z =
                let a : 1 ≤ level_at t.entries (get_or touched k 0) = left.above (get_or touched k 0) m in
                let b : level_at t.entries (get_or touched k 0) ≤ jump = far.most (get_or touched k 0) m nf in
                absurd (omega arith)
            still (o ∷ others) s = s

            fresh : (l : Lit) → Contains lits l → l.var ≢ get_or touched k 0
            fresh l c q = elim (h.among l c) [
              | inl s ↦ nf (sym q ∙ s)
              | inr r ↦ elim r [
                | inl s ↦ nb (sym q ∙ s)
                | inr i ↦
                    let li : i.0 < k = i.1 in
                    let z : i.0 ≡ k = listed.once i.0 k (omega arith) low (i.2 ∙ q) in
                    omega arith
              ]
            ]

      -- at the end
      pub collected : (lits : List Lit) (n : ℕ) → n ≡ length touched → IsCollecting t cells first best jump touched n lits → IsCollected t cells first lits jump
      collected lits n e h = record {
        others = h.others;
        shape = h.shape;
        lower = h.lower;
        second = h.second;
        below = jump-below;
        differ = h.differ;
        met = h.met;
        all = λ v m.
            let c = listed.listed v (met-not-blank (mark_at cells v) m) in
            let at : get_or touched c.0 0 ≡ v = get_or_default touched c.0 0 v c.1 ∙ c.2 in
            let li : c.0 < length touched = c.1 in
            subst (λ (x : ℕ). Contains lits (not_lit (the_entry t.entries x).lit)) at (h.done c.0 (omega arith) (ap (mark_at cells) at ∙ m));
      }
