use Rattle.core_forms.proofs.IntLists.{IntsBelow-append, IntsBelow-left, IntsBelow-right, AreSound-append, AreSound-left, AreSound-right, all_ordered-append, values-append, total-append, abs_total-append}
use Rattle.core_forms.proofs.list_laws.ints_law.Goals as goal

pub returns : goal.returns
returns c = record {
  below = λ n xs ys. (λ h. (IntsBelow-left n xs ys h, IntsBelow-right n xs ys h), λ h. IntsBelow-append n xs ys h.0 h.1);
  sound = λ xs ys. (λ h. (AreSound-left xs ys h, AreSound-right xs ys h), λ h. AreSound-append xs ys h.0 h.1);
  ordered = all_ordered-append;
  values = values-append;
  total = total-append;
  abs = abs_total-append;
}
