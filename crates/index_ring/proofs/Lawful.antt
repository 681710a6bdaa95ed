-- The laws of lists of nodes.
use Rattle.std.proofs.Common.{◌≡◌, ℕ, zero, suc, ◌+◌, ◌≤◌, ◌<◌, List, [], ◌∷◌, ◌++◌, length, map, refl, ap, sym, ◌∙◌, arith, ⊎_elim, append_assoc, Option}
use Rattle.std.proofs.lemmas.Bool.{cases_eq, cases_lt}
use Rattle.std.proofs.lemmas.List.{get_or_past, get_or-map, get_or-set_other, length-map}
use Rattle.index_ring.specs.Lists.{RingLists, IsRings, list_of, times, times_in_all, without, unlinked, after_in, first_in}
use Rattle.index_ring.specs.Laws.{StandsOnce, FreeExactly, LengthsFit, WalkMeets, WalkIsList, walk_from, UnlinkCloses, OthersStay}
use Rattle.index_ring.proofs.Times.{times-same, times-append, all-get, all-two, all-find, without-none, without-cut, total_length-le}
use Rattle.index_ring.proofs.Seen.{after_in-cut}

pub stands_once : StandsOnce
stands_once rings r s v h stands = (
  λ there. ⊎_elim (λ e. e) (λ ne. absurd (omega (arith, all-two v rings.lists s r ne, h.once v))) (cases_eq s r),
  omega (arith, all-get v rings.lists r, h.once v),
)

pub free_exactly : FreeExactly
free_exactly rings v = (
  λ free r stands. omega (arith, all-get v rings.lists r),
  λ nowhere. ⊎_elim (λ (low : times_in_all v rings.lists < 1). omega arith) (λ some. let found = all-find v rings.lists some in absurd (nowhere found.0 found.2)) (cases_lt (times_in_all v rings.lists) 1),
)

pub lengths_fit : LengthsFit
lengths_fit rings h = total_length-le rings.nodes rings.lists h.once h.inside

pub walk_meets : WalkMeets
walk_meets rings r v met left h e =
    ap (after_in v) e
    ∙ after_in-cut v met left (omega (arith, ap (times v) e, times-append v met (v ∷ left), times-same v v left refl, all-get v rings.lists r, h.once v))

-- from the nodes that are left on a walk meets them
walk_from-left : (rings : RingLists) (r most : ℕ) (met left : List ℕ) → IsRings rings → list_of rings r ≡ met ++ left → length left ≤ most → walk_from (list_of rings r) (first_in left) most ≡ left
walk_from-left rings r most met [] h e fits = refl
walk_from-left rings r zero met (v ∷ left) h e fits = absurd (omega arith)
walk_from-left rings r (suc most) met (v ∷ left) h e fits =
    ap (λ (o : Option ℕ). v ∷ walk_from (list_of rings r) o most) (walk_meets rings r v met left h e)
    ∙ ap (λ (l : List ℕ). v ∷ l) (walk_from-left rings r most (met ++ v ∷ []) left h (e ∙ sym (append_assoc met (v ∷ []) left)) (omega arith))

pub walk_is_list : WalkIsList
walk_is_list rings r most h fits = walk_from-left rings r most [] (list_of rings r) h refl fits

pub unlink_closes : UnlinkCloses
unlink_closes rings r v front back h inside e =
    let counted : times v (list_of rings r) ≡ times v front + times v (v ∷ back) = ap (times v) e ∙ times-append v front (v ∷ back) in
    let left : times v front + times v back ≡ 0 = omega (arith, counted, times-same v v back refl, all-get v rings.lists r, h.once v) in
    get_or-map (without v) rings.lists r [] [] inside ∙ ap (without v) e ∙ without-cut v front back (omega arith) (omega arith)

pub others_stay : OthersStay
others_stay rings r s q v list h stands not_r not_s =
    get_or-set_other (map (without v) rings.lists) s q list [] not_s
    ∙ ⊎_elim inside past (cases_lt q (length rings.lists))
  where
    inside : q < length rings.lists → list_of (unlinked rings v) q ≡ list_of rings q
    inside low =
        get_or-map (without v) rings.lists q [] [] low ∙ without-none v (list_of rings q) (omega (arith, all-two v rings.lists q r not_r, h.once v))

    past : length rings.lists ≤ q → list_of (unlinked rings v) q ≡ list_of rings q
    past high =
        get_or_past (map (without v) rings.lists) q [] (omega (arith, length-map rings.lists (without v))) ∙ sym (get_or_past rings.lists q [] high)
