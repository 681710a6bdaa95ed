use Rattle.std.proofs.Common.{◌≡◌, ◌+◌, ◌*◌, ◌<◌, ◌≤◌, List, [], ◌∷◌, ◌++◌, length, length-append, sym, subst, arith}
use Rattle.order_ints.specs.declared.order_int.OrdInt.{OrdInt}
use Rattle.core_forms.specs.WellFormed.{IsSound, AreSound, greatest_abs, abs_total}
use Rattle.core_forms.proofs.IntLists.{AreSound-append, abs_total-append}
use Rattle.core_words.proofs.ints.ints.Goals as goal

-- the list with one more, named by what pushing told of it
sound-pushed : (xs ys : List OrdInt) (a : OrdInt) → ys ≡ xs ++ a ∷ [] → AreSound xs → IsSound a → AreSound ys
sound-pushed xs ys a e h k = subst AreSound (sym e) (AreSound-append xs (a ∷ []) h (k, tt))

small-more : (xs : List OrdInt) (a : OrdInt) → abs_total xs ≤ 1000 * length xs → greatest_abs a < 1000 → abs_total (xs ++ a ∷ []) ≤ 1000 * length (xs ++ a ∷ [])
small-more xs a h k = omega (arith, abs_total-append xs (a ∷ []), length-append xs (a ∷ []), h, k)

small-pushed : (xs ys : List OrdInt) (a : OrdInt) → ys ≡ xs ++ a ∷ [] → abs_total xs ≤ 1000 * length xs → greatest_abs a < 1000 → abs_total ys ≤ 1000 * length ys
small-pushed xs ys a e h k = subst (λ zs. abs_total zs ≤ 1000 * length zs) (sym e) (small-more xs a h k)

pub loop-member-preserved-in_ok-push : goal.loop-member-preserved-in_ok-push
loop-member-preserved-in_ok-push c =
    let read = c.in_ok-int.ensures in
    let before = c.loop-member.invariant in
    let is = c.in_ok-push.ensures.items in
    record {
      sound = sound-pushed _ _ _ is before.sound read.sound;
      small = small-pushed _ _ _ is before.small read.small;
    }
