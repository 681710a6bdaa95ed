use Rattle.std.proofs.Common.{◌≡◌, ℕ, ◌+◌, ◌<◌, true, List, [], ◌∷◌, ◌++◌, length, get_or, drop, sym, ap, ◌∙◌, arith, append_assoc}
use Rattle.std.specs.Prelude.{is_ok, vec_len}
use Rattle.std.proofs.lemmas.Bool.{cond-true}
use Rattle.std.proofs.lemmas.List.{at_drop_more, length-append}
use Rattle.order_ints.specs.declared.atom.Atom.{Atom}
use Rattle.direct_encode.specs.Literals.{literals}
use Rattle.step_kernel.specs.Pieces.{pieces, all_lengths}
use Rattle.step_kernel.proofs.PieceLaws.{all_lengths-put, pieces-put}
use Rattle.step_kernel.proofs.clause_list.put_all.Goals as goal

-- the clauses that are left, of which this one is the first
left-at : (cs : List (List Atom)) (i : ℕ) (c : List Atom) → i < length cs → c ≡ get_or cs i c → drop i cs ≡ c ∷ drop (i + 1) cs
left-at cs i c lt is = at_drop_more (λ ys. ys) cs i c lt ∙ ap (λ (x : List Atom). x ∷ drop (i + 1) cs) (sym is)

pub overflow_cast-len : goal.overflow_cast-len
overflow_cast-len c =
    let left = left-at c.args.clauses.now c.loop-clause.clause-index c.clause-item.result c.loop-clause-test.true c.clause-item.is in
    omega (arith, ap literals left, c.loop-clause.invariant.small, c.len.ensures)

pub loop-clause-preserved : goal.loop-clause-preserved
loop-clause-preserved c =
    let cs = c.args.clauses.now in
    let i = c.loop-clause.clause-index in
    let clause = c.clause-item.result in
    let left : drop i cs ≡ clause ∷ drop (i + 1) cs = left-at cs i clause c.loop-clause-test.true c.clause-item.is in
    let fewer : literals (drop i cs) ≡ length clause + literals (drop (i + 1) cs) = ap literals left in
    let one : length (drop i cs) ≡ length (drop (i + 1) cs) + 1 = ap length left ∙ omega arith in
    let slice : c.as_slice.result.now ≡ clause = c.as_slice.ensures in
    let pushed : is_ok c.push.result ≡ true = c.push.ensures.succeeds (omega (arith, one, c.loop-clause.invariant.lengths)) in
    let put : is_ok c.extend_from_slice.result ≡ true = c.extend_from_slice.ensures.succeeds (omega (arith, fewer, c.loop-clause.invariant.atoms, ap length slice)) in
    let lengths : c.push.new.self.items ≡ c.loop-clause.lengths.items ++ length clause ∷ [] =
    c.push.ensures.items ∙ cond-true _ _ _ pushed ∙ ap (λ (n : ℕ). c.loop-clause.lengths.items ++ n ∷ []) c.len.ensures in
    let atoms : c.extend_from_slice.new.self.items ≡ c.loop-clause.atoms.items ++ clause =
    c.extend_from_slice.ensures.items ∙ cond-true _ _ _ put ∙ ap (λ (t : List Atom). c.loop-clause.atoms.items ++ t) slice in
    let longer : vec_len c.push.new.self ≡ vec_len c.loop-clause.lengths + 1 = c.push.ensures.len ∙ cond-true _ _ _ pushed in
    let larger : vec_len c.extend_from_slice.new.self ≡ vec_len c.loop-clause.atoms + length c.as_slice.result.now = c.extend_from_slice.ensures.len ∙ cond-true _ _ _ put in
    record {
      small = omega (arith, fewer, c.loop-clause.invariant.small);
      kept = ap all_lengths lengths ∙ omega (arith, all_lengths-put c.loop-clause.lengths.items (length clause), ap length atoms, length-append c.loop-clause.atoms.items clause, c.loop-clause.invariant.kept);
      added =
          ap (λ (t : List Atom). pieces c.push.new.self.items t ++ drop (i + 1) cs) atoms
          ∙ ap (λ (ns : List ℕ). pieces ns (c.loop-clause.atoms.items ++ clause) ++ drop (i + 1) cs) lengths
          ∙ ap (λ (t : List (List Atom)). t ++ drop (i + 1) cs) (pieces-put c.loop-clause.lengths.items c.loop-clause.atoms.items clause c.loop-clause.invariant.kept)
          ∙ append_assoc (pieces c.loop-clause.lengths.items c.loop-clause.atoms.items) (clause ∷ []) (drop (i + 1) cs)
          ∙ ap (λ (t : List (List Atom)). pieces c.loop-clause.lengths.items c.loop-clause.atoms.items ++ t) (sym left)
          ∙ c.loop-clause.invariant.added;
      atoms = omega (arith, fewer, larger, ap length slice, c.loop-clause.invariant.atoms, c.extend_from_slice.ensures.capacity);
      lengths = omega (arith, one, longer, c.loop-clause.invariant.lengths, c.push.ensures.capacity);
    }
