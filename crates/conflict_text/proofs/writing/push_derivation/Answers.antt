use Rattle.std.proofs.Common.{[], ◌∷◌, map, codes}
use Rattle.proof_check.specs.Lines.{line_bytes}
use Rattle.conflict_text.proofs.Written.{two}
use Rattle.conflict_text.proofs.writing.push_derivation.Goals as goal

pub returns : goal.returns
returns c = two c.args.out.now.items c.push_bytes.new.out.items _ (codes "proof" ∷ []) (map line_bytes c.args.proof.now) c.in_ok-push_bytes.ensures.ok c.in_ok-push_proof.ensures
