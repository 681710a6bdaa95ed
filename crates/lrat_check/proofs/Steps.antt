-- Hints that are followed one after another, and what comes of an addition.
use Rattle.std.proofs.Common.{◌≡◌, ℕ, ◌+◌, ◌<◌, Bool, true, false, ◌&&◌, ◌||◌, ℤ, List, [], ◌∷◌, ◌++◌, length, drop, get_or, sym, ap, subst, ◌∙◌}
use Rattle.std.specs.Prelude.{◌==◌, Some, nat_eq}
use Rattle.std.proofs.lemmas.Bool.{cond-true}
use Rattle.std.proofs.lemmas.List.{at_drop_more}
use Rattle.indexmap.specs.IndexMap.{insert_entry}
use Rattle.order_ints.specs.declared.literal.Lit.{Lit}
use Rattle.order_ints.specs.declared.cnf.Cnf.{Cnf}
use Rattle.proof_check.specs.declared.line.ProofLine.TheVariants.{Add}
use Rattle.proof_check.specs.Values.{Values}
use Rattle.lrat_check.specs.declared.follow.Step.{Step}
use Rattle.lrat_check.specs.Hints.{Added, is_new, by_hint, shows, is_shown}
use Rattle.lrat_check.specs.LratLines.{SoFar, after_line}
use Rattle.lrat_check.specs.Stored.{AddedBelow, told}
use Rattle.lrat_check.proofs.Adding.{goes-last, new-absent, added-more, shown-below}

-- what is left, by one hint
pub one-hint : (given : List (List Lit)) (added : Added) (f g : Values) (hints : List ℤ) (i : ℕ) (d : ℤ) (s : Step) → i < length hints → ((next : Values → Bool) → by_hint given added (get_or hints i d) f next ≡ told s (next g))
    → shows given added f (drop i hints) ≡ told s (shows given added g (drop (i + 1) hints))
one-hint given added f g hints i d s low h =
    at_drop_more (λ (hs : List ℤ). shows given added f hs) hints i d low ∙ h (λ x. shows given added x (drop (i + 1) hints))

-- an addition
module _ (cnf : Cnf) (s : SoFar) (id : ℕ) (lits : List Lit) (hints : List ℤ) where
  both : (a b : Bool) → a ≡ true → b ≡ true → (a && b) ≡ true
  both true b e f = f
  both false b e f = e

  pub after-shown : is_new cnf.clauses s.added id ≡ true → is_shown cnf.vars cnf.clauses s.added lits hints ≡ true → (added : Added) (refuted : Bool) → added ≡ insert_entry nat_eq s.added id lits → refuted ≡ (s.refuted || (length lits == 0))
      → after_line cnf s (Add id lits hints) ≡ Some (record { added = added; refuted = refuted })
  after-shown new shown added refuted a r =
      let e : added ≡ s.added ++ (id, lits) ∷ [] = a ∙ goes-last s.added id lits (new-absent cnf.clauses s.added id new) in
      cond-true _ _ _ (both (is_new cnf.clauses s.added id) (is_shown cnf.vars cnf.clauses s.added lits hints) new shown)
      ∙ sym (ap (λ (xs : Added). Some (record { added = xs; refuted = refuted })) e ∙ ap (λ (b : Bool). Some (record { added = s.added ++ (id, lits) ∷ []; refuted = b })) r)

  pub more-below : is_new cnf.clauses s.added id ≡ true → is_shown cnf.vars cnf.clauses s.added lits hints ≡ true → (added : Added) → added ≡ insert_entry nat_eq s.added id lits → AddedBelow (cnf.vars + 1) s.added
      → AddedBelow (cnf.vars + 1) added
  more-below new shown added a h =
      subst (AddedBelow (cnf.vars + 1)) (sym (a ∙ goes-last s.added id lits (new-absent cnf.clauses s.added id new)))
      (added-more (cnf.vars + 1) s.added id lits h (shown-below cnf.vars cnf.clauses s.added lits hints shown))
