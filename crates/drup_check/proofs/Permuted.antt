-- Clauses whose literals change places.
use Rattle.std.proofs.Common.{ℕ, List, refl, sym, ◌∙◌, inl, inr}
use Rattle.std.specs.Prelude.{Contains}
use Rattle.std.proofs.lemmas.List.Sorted.{Contains-permutation, IsPermutation-sym, IsPermutation-refl, IsPermutation-trans}
use Rattle.order_ints.specs.declared.literal.Lit.{Lit}
use Rattle.literal_trail.specs.declared.entry.Entry.{Entry}
use Rattle.literal_trail.specs.Standing.{IsQuiet}
use Rattle.clause_arena.specs.Clauses.{Clause, lits_of}
use Rattle.clause_rings.specs.Clauses.{SameClauses, IsComplete}
use Rattle.drup_check.specs.Stored.{IsHeld, AreListed}

pub same-clauses : (cs : List Clause) → SameClauses cs cs
same-clauses cs = record { count = refl; each = λ c. record { id = refl; live = refl; lits = IsPermutation-refl (lits_of cs c) } }

pub same-both : (a b c : List Clause) → SameClauses a b → SameClauses b c → SameClauses a c
same-both a b c f g = record {
  count = g.count ∙ f.count;
  each = λ n. record { id = (g.each n).id ∙ (f.each n).id; live = (g.each n).live ∙ (f.each n).live; lits = IsPermutation-trans (lits_of a n) (lits_of b n) (lits_of c n) (f.each n).lits (g.each n).lits };
}

module _ (old new : List Clause) (s : SameClauses old new) where
  here : (c : ℕ) (l : Lit) → Contains (lits_of old c) l → Contains (lits_of new c) l
  here c l has = Contains-permutation (lits_of old c) (lits_of new c) l (s.each c).lits has

  there : (c : ℕ) (l : Lit) → Contains (lits_of new c) l → Contains (lits_of old c) l
  there c l has = Contains-permutation (lits_of new c) (lits_of old c) l (IsPermutation-sym (lits_of old c) (lits_of new c) (s.each c).lits) has

  pub complete-same : (es : List Entry) → IsComplete es old → IsComplete es new
  complete-same es h c live =
      let quiet : IsQuiet es (lits_of old c) = h c (sym (s.each c).live ∙ live) in
      record {
        not_false = λ fails. quiet.not_false (λ l has. fails l (here c l has));
        not_unit = λ u is. quiet.not_unit u (record { is_in = there c u is.is_in; free = is.free; others = λ l has other. is.others l (here c l has) other });
      }

  pub listed-same : (cs : List (List Lit)) → AreListed old cs → AreListed new cs
  listed-same cs h c live =
      let is = h c (sym (s.each c).live ∙ live) in
      record { clause = is.clause; is_in = is.is_in; same = λ l. ((λ has. (is.same l).0 (there c l has)), (λ has. here c l ((is.same l).1 has))) }

  pub held-same : (d : List Lit) → IsHeld old d → IsHeld new d
  held-same d (inl x) = inl (record { reference = x.reference; live = (s.each x.reference).live ∙ x.live; same = λ l. ((λ has. (x.same l).0 (there x.reference l has)), (λ has. here x.reference l ((x.same l).1 has))) })
  held-same d (inr x) = inr x
