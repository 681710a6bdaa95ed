-- What each end of a run over two texts says decides the rest of its promise.
use Rattle.std.proofs.Common.{◌≡◌, ℕ, ◌≤◌, List, Option, None, Ok, Err, refl, ap, sym, subst, inl, inr}
use Rattle.bee_outside.specs.Faults.{Rose, next_count}
use Rattle.bee_outside.proofs.FaultLaws.{Rose-next, Rose-from_before}
use Rattle.text_modes.specs.Seen.{ShelfShown, Seen}
use Rattle.text_modes.proofs.Idle.{untouched}
use Rattle.text_modes.specs.Promises.{ReadWhole, ReadFaulty, WroteText, WroteSome, TookUnder, Writes}
use Rattle.text_modes.specs.TwoTexts.{Texts, CountsStay, FirstRead, HoldsSome, GivesBehind, TwoTextRun}
use Rattle.text_modes.specs.declared.ends.Outcome.{Outcome}
use Rattle.text_modes.specs.declared.ends.End.{End}
use Rattle.text_modes.specs.declared.ends.End.TheVariants.{Wrote, Fault, Read, Write, Memory}

module _ {H F : Type 0} (limit : Option ℕ) (Holds : List ℕ → H → Type 0) (HasFault : List ℕ → F → Type 0) (Gives : Texts → Outcome → List ℕ → Type 0) (input second : List ℕ) (seen : Seen) where
  abbrev Unmoved : Type 0
  Unmoved = seen.out_after ≡ seen.out_before

  abbrev Promised : End F → Type 0
  Promised end = TwoTextRun limit (HoldsSome Holds) Gives HasFault input second end seen

  -- the reading of the first text ended the run

  module _ (took : TookUnder input limit seen.shelf_before seen.shelf_after) (still : Unmoved) where
    first_faulty : (fault : F) → ReadFaulty input limit seen.shelf_before seen.shelf_after HasFault fault × CountsStay seen.shelf_before seen.shelf_after → Promised (Fault fault)
    first_faulty fault r = record {
      between = seen.shelf_after;
      says = record { faulty = r.0; unasked = refl };
      silent = λ _. ap (λ s. s.taken) still;
      read_faults = inl (r.1, λ name. refl);
      write_faults = ap (λ s. s.faults) still;
      first_taken = took;
      second_taken = untouched second None seen.shelf_after;
    }

    first_failed : seen.shelf_after.faults input ≡ next_count (seen.shelf_before.faults input) → Promised Read
    first_failed r = record {
      between = seen.shelf_after;
      says = inl (subst (λ n. Rose (seen.shelf_before.faults input) n) (sym r) (Rose-next (seen.shelf_before.faults input)));
      silent = λ _. ap (λ s. s.taken) still;
      read_faults = inr (refl, r, refl);
      write_faults = ap (λ s. s.faults) still;
      first_taken = took;
      second_taken = untouched second None seen.shelf_after;
    }

    first_wanting : CountsStay seen.shelf_before seen.shelf_after → Promised Memory
    first_wanting r = record {
      between = seen.shelf_after;
      says = tt;
      silent = λ _. ap (λ s. s.taken) still;
      read_faults = inl (r, λ name. refl);
      write_faults = ap (λ s. s.faults) still;
      first_taken = took;
      second_taken = untouched second None seen.shelf_after;
    }

    pub first_ended : (end : End F) → FirstRead input limit Holds HasFault seen.shelf_before seen.shelf_after (Err end) → Promised end
    first_ended (Fault fault) r = first_faulty fault r
    first_ended Read r = first_failed r
    first_ended Memory r = first_wanting r
    first_ended end r = absurd r

  -- the first text was read, and holds something

  module _ (held : H) (between : ShelfShown) (r : FirstRead input limit Holds HasFault seen.shelf_before between (Ok held)) (first_taken : TookUnder input limit seen.shelf_before between)
      (second_taken : TookUnder second None between seen.shelf_after) where
    pub second_failed : seen.shelf_after.faults second ≡ next_count (between.faults second) → seen.shelf_before.faults second ≤ between.faults second → Unmoved → Promised Read
    second_failed counts rises still =
        let later : Rose (between.faults second) (seen.shelf_after.faults second) = subst (λ n. Rose (between.faults second) n) (sym counts) (Rose-next (between.faults second)) in
        record {
          between = between;
          says = inr (record {
            text = r.0;
            read = r.1;
            fit = (held, r.2);
            failed = Rose-from_before (seen.shelf_before.faults second) (between.faults second) (seen.shelf_after.faults second) rises later;
          });
          silent = λ _. ap (λ s. s.taken) still;
          read_faults = inl (r.3, counts);
          write_faults = ap (λ s. s.faults) still;
          first_taken = first_taken;
          second_taken = second_taken;
        }

    second_wanting : CountsStay between seen.shelf_after → Unmoved → Promised Memory
    second_wanting counts still = record {
      between = between;
      says = tt;
      silent = λ _. ap (λ s. s.taken) still;
      read_faults = inl (r.3, counts);
      write_faults = ap (λ s. s.faults) still;
      first_taken = first_taken;
      second_taken = second_taken;
    }

    module _ (text : List ℕ) (read : ReadWhole (between.left second) (seen.shelf_after.left second) text) (counts : CountsStay between seen.shelf_after) where
      wrote : (outcome : Outcome) → WroteText seen.out_before seen.out_after (λ written. GivesBehind Holds Gives held text outcome written) → Promised (Wrote outcome)
      wrote outcome w = record {
        between = between;
        says = record {
          texts = record { first = r.0; second = text };
          written = w.written;
          read = record { first_read = r.1; second_read = read };
          gives = w.gives r.0 r.2;
          taken = w.taken;
          flushed = w.flushed;
        };
        silent = λ e. absurd e;
        read_faults = inl (r.3, counts);
        write_faults = w.counts;
        first_taken = first_taken;
        second_taken = second_taken;
      }

      unwritten : WroteSome seen.out_before seen.out_after (GivesBehind Holds Gives held text) → Promised Write
      unwritten w = record {
        between = between;
        says = (
          record {
            texts = record { first = r.0; second = text };
            written = w.written;
            read = record { first_read = r.1; second_read = read };
            gives = (w.outcome, w.gives r.0 r.2);
            taken = w.taken;
          },
          subst (λ n. Rose seen.out_before.faults n) (sym w.counts) (Rose-next seen.out_before.faults),
        );
        silent = λ e. absurd e;
        read_faults = inl (r.3, counts);
        write_faults = w.counts;
        first_taken = first_taken;
        second_taken = second_taken;
      }

      pub written_ended : (end : End F) → Writes (GivesBehind Holds Gives held text) (λ fault. ⊥) end seen.out_before seen.out_after → Promised end
      written_ended (Wrote outcome) w = wrote outcome w
      written_ended (Fault fault) w = absurd w.0
      written_ended Write w = unwritten w
      written_ended Memory w = second_wanting counts w
      written_ended Read w = absurd w
