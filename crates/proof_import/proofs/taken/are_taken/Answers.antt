use Rattle.proof_import.proofs.taken.are_taken.Goals as goal

pub returns : goal.returns
returns c = λ holds. record {
  behind = c.take_all.new.checker;
  taken = c.in_ok-taken.ensures.taken c.if-not-taken.false;
  refuted = c.is_refuted-refuted.ensures holds;
  additions = c.in_ok-taken.ensures.additions c.if-not-taken.false;
}
