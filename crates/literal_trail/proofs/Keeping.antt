-- What a trail keeps, after each move.
use Rattle.std.proofs.Common.{◌≡◌, ℕ, ◌+◌, ◌<◌, ◌≤◌, List, [], ◌∷◌, ◌++◌, length, get_or, take, Some, None, ap, sym, ◌∙◌, subst, arith, ⊎_elim, length-append}
use Rattle.std.proofs.lemmas.Bool.{cases_lt}
use Rattle.std.proofs.lemmas.List.{get_or_append_left, get_or-take, length-take-le}
use Rattle.std.proofs.Math.Seq.{get_or-append_seam}
use Rattle.order_ints.specs.declared.literal.Lit.{Lit}
use Rattle.order_ints.specs.Place.{LitBelow}
use Rattle.literal_trail.specs.declared.entry.Entry.{Entry}
use Rattle.literal_trail.specs.declared.tables.Value.{Value}
use Rattle.literal_trail.specs.Trail.{Trail, IsTrail, entry_of, up_to, cut_back}
use Rattle.literal_trail.specs.Tables.{AreTables, AreEnds, IsKept}
use Rattle.literal_trail.proofs.Levels.{take-up_to, up_to-whole, up_to-up_to, up_to-push, length-up_to}
use Rattle.literal_trail.proofs.Trails.{trail-implied, trail-chosen, trail-cut_back, room-free}

module _ (vars : ℕ) (entries : List Entry) (values : List Value) (places ends : List ℕ) (entry_room end_room : ℕ) (h : IsKept vars entries values places ends entry_room end_room) where
  abbrev here : Trail
  here = record { vars = vars; entries = entries; level = length ends }

  -- where a variable is free there is room for its entry, and for a level
  pub free-room : (l : Lit) → LitBelow (vars + 1) l → entry_of entries l.var ≡ None → (length entries < vars) × (length ends < vars)
  free-room l low free =
      let fewer = room-free here l.var h.trail low.0 (omega (arith, low.1)) free in (fewer, omega (arith, h.trail.high))

  -- an entry behind the others changes no prefix of a lower level
  ends-more : (e : Entry) (j : ℕ) → j < length ends → length ends ≤ e.level → get_or ends j 0 ≡ length (up_to j (entries ++ e ∷ []))
  ends-more e j below high = h.ended j below ∙ sym (ap (length {A = Entry}) (up_to-push j entries e (omega arith)))

  module _ (entries1 : List Entry) (values1 : List Value) (places1 : List ℕ) (entry_room1 : ℕ) (tables : AreTables entries1 values1 places1) (count : length places1 ≡ length places) (wider : entry_room ≤ entry_room1) where
    pub kept-implied : (l : Lit) (reason : ℕ) → LitBelow (vars + 1) l → entry_of entries l.var ≡ None → entries1 ≡ entries ++ record { lit = l; level = length ends; reason = Some reason } ∷ [] → IsKept vars entries1 values1 places1 ends entry_room1 end_room
    kept-implied l reason low free is =
        let e : Entry = record { lit = l; level = length ends; reason = Some reason } in
        record {
          trail = subst (λ (es : List Entry). IsTrail (record { vars = vars; entries = es; level = length ends })) (sym is) (trail-implied here l reason h.trail low free);
          tables = tables;
          count = count ∙ h.count;
          ended = subst (λ (es : List Entry). AreEnds es ends) (sym is) (λ j below. ends-more e j below (omega arith));
          entries_fit = omega (arith, h.entries_fit);
          ends_fit = h.ends_fit;
        }

    pub kept-chosen : (l : Lit) (level : ℕ) (ends1 : List ℕ) (end_room1 : ℕ) → LitBelow (vars + 1) l → entry_of entries l.var ≡ None → ends1 ≡ ends ++ length entries ∷ [] → level ≡ length ends + 1 → end_room ≤ end_room1 → entries1 ≡ entries ++ record { lit = l; level = level; reason = None } ∷ [] → IsKept vars entries1 values1 places1 ends1 entry_room1 end_room1
    kept-chosen l level ends1 end_room1 low free ends_are level_is more is =
        let e : Entry = record { lit = l; level = level; reason = None } in
        let deeper : length ends1 ≡ length ends + 1 = ap (length {A = ℕ}) ends_are ∙ length-append ends (length entries ∷ []) in
        let level1 : level ≡ length ends1 = level_is ∙ sym deeper in
        let trail : IsTrail (record { vars = vars; entries = entries ++ e ∷ []; level = level }) =
        subst (λ (k : ℕ). IsTrail (record { vars = vars; entries = entries ++ record { lit = l; level = k; reason = None } ∷ []; level = k })) (sym level_is) (trail-chosen here l h.trail low free) in
        record {
          trail = subst (λ (k : ℕ). IsTrail (record { vars = vars; entries = entries1; level = k })) level1 (subst (λ (es : List Entry). IsTrail (record { vars = vars; entries = es; level = level })) (sym is) trail);
          tables = tables;
          count = count ∙ h.count;
          ended = subst (λ (es : List Entry). AreEnds es ends1) (sym is) (subst (AreEnds (entries ++ e ∷ [])) (sym ends_are) (ended e level_is));
          entries_fit = omega (arith, h.entries_fit);
          ends_fit = omega (arith, h.ends_fit);
        }
      where
        ended : (e : Entry) → e.level ≡ length ends + 1 → AreEnds (entries ++ e ∷ []) (ends ++ length entries ∷ [])
        ended e is j below =
            ⊎_elim
            (λ before. get_or_append_left ends (length entries ∷ []) 0 j before ∙ ends-more e j before (omega arith))
            (λ behind.
            let last : j ≡ length ends = omega (arith, below, length-append ends (length entries ∷ [])) in
            ap (λ (k : ℕ). get_or (ends ++ length entries ∷ []) k 0) last ∙ get_or-append_seam ends (length entries) [] 0
            ∙ sym (ap (length {A = Entry}) (up_to-push j entries e (omega arith) ∙ up_to-whole j entries 0 (length ends) h.trail.levelled (omega arith))))
            (cases_lt j (length ends))

  -- the number of entries of a level and below
  pub end-front : (k : ℕ) → k < length ends → take (get_or ends k 0) entries ≡ up_to k entries
  end-front k below = ap (λ (m : ℕ). take m entries) (h.ended k below) ∙ take-up_to k entries

  pub end-within : (k : ℕ) → k < length ends → get_or ends k 0 ≤ length entries
  end-within k below = omega (arith, h.ended k below, length-up_to k entries)

  pub made-cut_back : (k n : ℕ) (entries1 : List Entry) → k < length ends → entries1 ≡ take (get_or ends k 0) entries → n ≡ k → record { vars = vars; entries = entries1; level = n } ≡ cut_back here k
  made-cut_back k n entries1 below is level =
      let front : entries1 ≡ up_to k entries = is ∙ end-front k below in
      λ i. record { vars = vars; entries = front i; level = level i }

  pub kept-cut_back : (k : ℕ) (entries1 : List Entry) (values1 : List Value) (places1 ends1 : List ℕ) (entry_room1 end_room1 : ℕ) → k < length ends → AreTables entries1 values1 places1 → length places1 ≡ length places → entries1 ≡ take (get_or ends k 0) entries → ends1 ≡ take k ends → entry_room ≤ entry_room1 → end_room ≤ end_room1 → IsKept vars entries1 values1 places1 ends1 entry_room1 end_room1
  kept-cut_back k entries1 values1 places1 ends1 entry_room1 end_room1 below tables count is ends_are wider more =
      let front : entries1 ≡ up_to k entries = is ∙ end-front k below in
      let level : length ends1 ≡ k = ap (length {A = ℕ}) ends_are ∙ length-take-le k ends (omega arith) in
      record {
        trail = subst (λ (m : ℕ). IsTrail (record { vars = vars; entries = entries1; level = m })) (sym level)
            (subst (λ (es : List Entry). IsTrail (record { vars = vars; entries = es; level = k })) (sym front) (trail-cut_back here k h.trail (omega arith)));
        tables = tables;
        count = count ∙ h.count;
        ended = subst (λ (es : List Entry). AreEnds es ends1) (sym front) (subst (AreEnds (up_to k entries)) (sym ends_are) (ended k below));
        entries_fit = omega (arith, h.entries_fit);
        ends_fit = omega (arith, h.ends_fit);
      }
    where
      ended : (k : ℕ) → k < length ends → AreEnds (up_to k entries) (take k ends)
      ended k below j low =
          let lower : j < k = omega (arith, low, length-take-le k ends (omega arith)) in
          get_or-take k ends j 0 lower ∙ h.ended j (omega arith) ∙ sym (ap (length {A = Entry}) (up_to-up_to j k entries (omega arith)))

-- a jump to the current level changes nothing
pub same-cut_back : (t : Trail) (k : ℕ) → IsTrail t → k ≤ t.level → t.level ≤ k → t ≡ cut_back t k
same-cut_back t k is low high =
    let level : t.level ≡ k = omega arith in
    let whole : t.entries ≡ up_to k t.entries = sym (up_to-whole k t.entries 0 t.level is.levelled high) in
    λ i. record { vars = t.vars; entries = whole i; level = level i }
