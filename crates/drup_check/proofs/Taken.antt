-- What comes of a line, for the clauses so far and the store that stands for them.
use Rattle.std.proofs.Common.{◌≡◌, ℕ, ◌+◌, ◌≤◌, Bool, true, false, List, [], ◌∷◌, ◌++◌, codes, sym, subst, ⊎_elim, ◌^◌}
use Rattle.std.specs.Prelude.{Contains, MatchBool}
use Rattle.bee_text.specs.Gaps.{words_of}
use Rattle.order_ints.specs.declared.literal.Lit.{Lit}
use Rattle.order_ints.specs.Place.{LitBelow, ClauseBelow}
use Rattle.drup_check.specs.declared.tiers.Tiers.{Tiers}
use Rattle.drup_check.specs.Rup.{Rup}
use Rattle.drup_check.specs.Standing.{StandsAs}
use Rattle.drup_check.specs.DrupLines.{SpellsClause, Says}
use Rattle.drup_check.specs.Taken.{IsSpelled, SaysOn, GoesOn, Misfits}
use Rattle.drup_check.proofs.Members.{member-cases, no-member}
use Rattle.drup_check.proofs.Taking.{deletes, no_deletion, adds, no_addition, not_shown, said, none_said}

pub below-each : (n : ℕ) (c : List Lit) → ClauseBelow n c → (l : Lit) → Contains c l → LitBelow n l
below-each n [] h l has = absurd (no-member l has)
below-each n (m ∷ c) h l has =
    ⊎_elim
    (λ (here : m ≡ l). subst (LitBelow n) here h.0)
    (λ (there : Contains c l). below-each n c h.1 l there)
    (member-cases m c l has)

-- a clause that words spell
module _ (vars given : ℕ) (words : List (List ℕ)) (lits slice : List Lit) (same : given ≡ vars) (told : slice ≡ lits) (spelled : SpellsClause given words lits) where
  spells : SpellsClause vars words slice
  spells = subst (λ (n : ℕ). SpellsClause n words slice) same (subst (SpellsClause given words) (sym told) spelled)

  pub spelled-below : (l : Lit) → Contains slice l → LitBelow (vars + 1) l
  spelled-below = below-each (vars + 1) slice spells.below

  pub said-taken : vars ≤ 2 ^ 27 → (first : List ℕ) (behind : List (List ℕ)) → words ≡ first ∷ behind → (first ≡ codes "d" → ⊥) → (b : Bool) (old : Tiers) (r : Bool) (new : Tiers) (taken : Bool)
      → ((cs : List (List Lit)) → StandsAs b old cs → MatchBool taken (Rup cs slice × StandsAs r new (cs ++ slice ∷ [])) (Rup cs slice → ⊥))
      → (cs : List (List Lit)) → StandsAs b old cs → MatchBool taken (SaysOn vars cs words r new) ((after : List (List Lit)) → Says vars cs words after → ⊥)
  said-taken small first behind cut other b old r new true h cs st =
      let both = h cs st in
      record { clauses = cs ++ slice ∷ []; says = adds vars cs words first behind cut other slice spells both.0; stands = both.1 }
  said-taken small first behind cut other b old r new false h cs st =
      no_addition vars cs words first behind cut other (not_shown vars cs words first behind cut small slice spells (h cs st))

-- what comes of a deletion
pub deletion-taken : (vars : ℕ) (words : List (List ℕ)) (first : List ℕ) (behind : List (List ℕ)) → words ≡ first ∷ behind → first ≡ codes "d" → (b : Bool) (old : Tiers) (r : Bool) (new : Tiers) (taken : Bool) → IsSpelled taken vars behind
    → ((cs : List (List Lit)) → StandsAs b old cs → StandsAs r new cs)
    → (cs : List (List Lit)) → StandsAs b old cs → MatchBool taken (SaysOn vars cs words r new) ((after : List (List Lit)) → Says vars cs words after → ⊥)
deletion-taken vars words first behind cut is b old r new true spelled stays cs st =
    record { clauses = cs; says = deletes vars cs words first behind cut is spelled.0 spelled.1; stands = stays cs st }
deletion-taken vars words first behind cut is b old r new false spelled stays cs st = no_deletion vars cs words first behind cut is spelled

pub line-taken : (vars : ℕ) (line first : List ℕ) (behind : List (List ℕ)) → words_of line ≡ first ∷ behind → (first ≡ codes "c" → ⊥) → (b : Bool) (old : Tiers) (r : Bool) (new : Tiers) (taken : Bool)
    → ((cs : List (List Lit)) → StandsAs b old cs → MatchBool taken (SaysOn vars cs (words_of line) r new) ((after : List (List Lit)) → Says vars cs (words_of line) after → ⊥))
    → (cs : List (List Lit)) → StandsAs b old cs → MatchBool taken (GoesOn vars cs line r new) (Misfits vars cs line)
line-taken vars line first behind cut other b old r new true h cs st =
    let on = h cs st in
    record { clauses = on.clauses; next = said vars cs line first behind cut other on.clauses on.says; stands = on.stands }
line-taken vars line first behind cut other b old r new false h cs st = none_said vars cs line first behind cut other (h cs st)
