-- Whether a line is the next one of values can be decided.
use Rattle.std.proofs.Common.{◌≡◌, ℕ, ◌+◌, ◌-◌, ◌≤◌, ◌⊎◌, inl, inr, Bool, true, false, List, [], ◌∷◌, codes, length, drop, get_or, Some, refl, sym, ap, subst, ◌∙◌, arith}
use Rattle.std.specs.Prelude.{slice_get}
use Rattle.std.specs.List.{list_all}
use Rattle.std.proofs.lemmas.Bool.{false≢true}
use Rattle.bee_text.specs.Gaps.{words_of}
use Rattle.order_ints.specs.declared.literal.Lit.{Lit}
use Rattle.order_ints.specs.declared.cnf.Cnf.{Cnf}
use Rattle.order_ints.specs.Truth.{valuation_of}
use Rattle.order_ints.specs.Satisfies.{clauses_truth}
use Rattle.ledger_text.specs.Words.{literal_word}
use Rattle.dimacs_read.specs.declared.values.Stage.{Stage}
use Rattle.dimacs_read.specs.declared.values.Stage.TheVariants.{Before, Listing, Ended}
use Rattle.dimacs_read.specs.Values.{Known, Told, told, IsNew, with_literal, Tell, IsAnswer, Stands, IsTold, IsList, Says, is_skipped, NextValues, AreTold}
use Rattle.dimacs_read.proofs.Searches.{Decided, true-decided, and-decided, or-decided, like-decided, most-decided, bytes-decided, words-decided, untold-decided, Literal, literal-decided}
use Rattle.dimacs_read.proofs.LinesDecided.{Led}
use Rattle.dimacs_read.proofs.ValuesTell.{new_below}

-- Words that tell values, to an end of which this holds.

record Tells (k : Known) (ws : List (List ℕ)) (Q : Bool → Known → Type 0) : Type 0 where
  ends : Bool
  known : Known
  tell : Tell k ws ends known
  holds : Q ends known

record TellsMore (k : Known) (w : List ℕ) (ws : List (List ℕ)) (Q : Bool → Known → Type 0) (l : Lit) : Type 0 where
  word : w ≡ literal_word l
  new : IsNew k l
  rest : Tells (with_literal k l) ws Q

moved : (Q : Bool → Known → Type 0) (e f : Bool) (a b : Known) → e ≡ f → a ≡ b → Q e a → Q f b
moved Q e f a b p q h = subst (λ (c : Bool). Q c b) p (subst (λ (j : Known). Q e j) q h)

new-decided : (k : Known) (l : Lit) → Decided (IsNew k l)
new-decided k l = and-decided (most-decided 1 l.var) (untold-decided (slice_get k.listed (l.var - 1)))

module _ (k : Known) (w : List ℕ) (ws : List (List ℕ)) (Q : Bool → Known → Type 0) where
  abbrev Last : Type 0
  Last = (w ≡ codes "0") × ((ws ≡ []) × Q true k)

  abbrev More : Type 0
  More = Literal (length k.listed + 1) (λ l. TellsMore k w ws Q l)

  from-either : Last ⊎ More → Tells k (w ∷ ws) Q
  from-either (inl h) = record { ends = true; known = k; tell = inl (h.0, h.1.0, refl, refl); holds = h.1.1 }
  from-either (inr h) =
      let r = h.holds.rest in
      record { ends = r.ends; known = r.known; tell = inr (h.at, h.holds.word, h.holds.new, r.tell); holds = r.holds }

  to-either : (ends : Bool) (known : Known) → Tell k (w ∷ ws) ends known → Q ends known → Last ⊎ More
  to-either ends known (inl t) q = inl (t.0, (t.1, moved Q ends true known k t.2 t.3 q))
  to-either ends known (inr t) q =
      inr (record { at = t.0; below = new_below k t.0 t.2; holds = record { word = t.1; new = t.2; rest = record { ends = ends; known = known; tell = t.3; holds = q } } })

  more-decided : ((l : Lit) → Decided (Tells (with_literal k l) ws Q)) → (l : Lit) → Decided (TellsMore k w ws Q l)
  more-decided rest l =
      like-decided (and-decided (bytes-decided w (literal_word l)) (and-decided (new-decided k l) (rest l)))
      (λ h. record { word = h.0; new = h.1.0; rest = h.1.1 }) (λ t. (t.word, (t.new, t.rest)))

  word-decided : Decided (Q true k) → ((l : Lit) → Decided (Tells (with_literal k l) ws Q)) → Decided (Tells k (w ∷ ws) Q)
  word-decided last rest =
      like-decided
      (or-decided (and-decided (bytes-decided w (codes "0")) (and-decided (words-decided ws []) last))
      (literal-decided (length k.listed + 1) (λ l. TellsMore k w ws Q l) (more-decided rest)))
      from-either (λ t. to-either t.ends t.known t.tell t.holds)

no-words : (k : Known) (Q : Bool → Known → Type 0) → Decided (Q false k) → Decided (Tells k [] Q)
no-words k Q d =
    like-decided d (λ q. record { ends = false; known = k; tell = (refl, refl); holds = q }) (λ t. moved Q t.ends false t.known k t.tell.0 t.tell.1 t.holds)

tells-decided : (ws : List (List ℕ)) (k : Known) (Q : Bool → Known → Type 0) → ((e : Bool) (j : Known) → Decided (Q e j)) → Decided (Tells k ws Q)
tells-decided [] k Q d = no-words k Q (d false k)
tells-decided (w ∷ ws) k Q d = word-decided k w ws Q (d true k) (λ l. tells-decided ws (with_literal k l) Q d)

-- Which line may stand next.

record Stood (cnf : Cnf) (e : Bool) (k : Known) : Type 0 where
  to : Told
  is : Stands cnf e k to

answer-decided : (cnf : Cnf) (k : Known) → Decided (IsAnswer cnf k)
answer-decided cnf k = and-decided (true-decided (list_all (λ b. b) k.listed)) (true-decided (clauses_truth (valuation_of k.values) cnf.clauses))

stood-decided : (cnf : Cnf) (e : Bool) (k : Known) → Decided (Stood cnf e k)
stood-decided cnf false k = inl (record { to = told Listing k; is = refl })
stood-decided cnf true k = like-decided (answer-decided cnf k) (λ h. record { to = told Ended k; is = (h, refl) }) (λ s. s.is.0)

module _ (cnf : Cnf) (k : Known) where
  record LedList (words : List (List ℕ)) : Type 0 where
    to : Told
    is : IsList cnf k words to

  list-decided : (words : List (List ℕ)) → Decided (LedList words)
  list-decided [] = inr (λ h. omega (arith, ap length h.is.words_are))
  list-decided (w ∷ ws) =
      like-decided (and-decided (bytes-decided w (codes "v")) (tells-decided ws k (λ e j. Stood cnf e j) (λ e j. stood-decided cnf e j))) onto back
    where
      onto : (w ≡ codes "v") × Tells k ws (λ e j. Stood cnf e j) → LedList (w ∷ ws)
      onto h =
          let t = h.1 in
          record {
            to = t.holds.to;
            is = record {
              behind = ws;
              words_are = ap (λ (v : List ℕ). v ∷ ws) h.0;
              tells = record { ends = t.ends; known = t.known; tell = t.tell; stands = t.holds.is };
            };
          }

      tail-as : (behind : List (List ℕ)) (t : Told) → w ∷ ws ≡ codes "v" ∷ behind → IsTold cnf k behind t → IsTold cnf k ws t
      tail-as behind t e h = subst (λ (vs : List (List ℕ)). IsTold cnf k vs t) (sym (ap (λ (vs : List (List ℕ)). drop 1 vs) e)) h

      back : LedList (w ∷ ws) → (w ≡ codes "v") × Tells k ws (λ e j. Stood cnf e j)
      back h =
          let t = tail-as h.is.behind h.to h.is.words_are h.is.tells in
          (ap (λ (vs : List (List ℕ)). get_or vs 0 []) h.is.words_are, record { ends = t.ends; known = t.known; tell = t.tell; holds = record { to = h.to; is = t.stands } })

record LedWords (cnf : Cnf) (g : Stage) (k : Known) (words : List (List ℕ)) : Type 0 where
  to : Told
  is : Says cnf g k words to

says-decided : (cnf : Cnf) (g : Stage) (k : Known) (words : List (List ℕ)) → Decided (LedWords cnf g k words)
says-decided cnf Before k words =
    like-decided (words-decided words (codes "s" ∷ codes "SATISFIABLE" ∷ [])) (λ e. record { to = told Listing k; is = (e, refl) }) (λ h. h.is.0)
says-decided cnf Listing k words = like-decided (list-decided cnf k words) (λ h. record { to = h.to; is = h.is }) (λ h. record { to = h.to; is = h.is })
says-decided cnf Ended k words = inr (λ h. h.is)

module _ (cnf : Cnf) (s : Told) (line : List ℕ) where
  unskipped : (t : Told) → is_skipped (words_of line) ≡ false → NextValues cnf s line t → LedWords cnf s.stage s.known (words_of line)
  unskipped t e (inl h) = absurd (false≢true (sym e ∙ h.0))
  unskipped t e (inr h) = record { to = t; is = h.1 }

  by-skip : (b : Bool) → is_skipped (words_of line) ≡ b → Decided (Led (NextValues cnf) s line)
  by-skip true e = inl (record { to = s; is = inl (e, refl) })
  by-skip false e =
      like-decided (says-decided cnf s.stage s.known (words_of line)) (λ h. record { to = h.to; is = inr (e, h.is) }) (λ l. unskipped l.to e l.is)

  pub values-next : Decided (Led (NextValues cnf) s line)
  values-next = by-skip (is_skipped (words_of line)) refl

pub told-decided : (s : Told) → Decided (AreTold s)
told-decided s = by s.stage
  where
    is_ended : Stage → Bool
    is_ended Before = false
    is_ended Listing = false
    is_ended Ended = true

    by : (g : Stage) → Decided (g ≡ Ended)
    by Before = inr (λ e. false≢true (ap is_ended e))
    by Listing = inr (λ e. false≢true (ap is_ended e))
    by Ended = inl refl
