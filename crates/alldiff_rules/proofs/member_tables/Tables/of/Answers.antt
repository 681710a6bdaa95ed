use Rattle.std.proofs.Common.{◌&&◌, Bool, length, ap, sym, ◌∙◌}
use Rattle.std.specs.Prelude.{◌==◌, nat_lt}
use Rattle.alldiff_rules.specs.Members.{number_of_values}
use Rattle.alldiff_rules.proofs.Places.{and-left}
use Rattle.alldiff_rules.proofs.TallyLaws.{values-shown, count-where}
use Rattle.alldiff_rules.proofs.member_tables.Tables.of.Goals as goal

pub returns : goal.returns
returns c =
    let xs = c.args.ints.now in
    let sure = c.are_all_sure-sure.result in
    let is = c.in_ok-tally.ensures in
    let tally = c.in_ok-tally.tally in
    record {
      narrow = c.in_ok-narrow.ensures;
      values = λ many. values-shown xs tally (is (and-left sure (tally.count == length xs) (sym c.both-as_many.ensures ∙ many)));
      too_few = c.both-too_few.ensures ∙ count-where xs tally sure is (λ n. nat_lt n (length xs)) ∙ ap (λ (t : Bool). t && nat_lt (number_of_values xs) (length xs)) c.are_all_sure-sure.ensures;
      as_many = c.both-as_many.ensures ∙ count-where xs tally sure is (λ n. n == length xs) ∙ ap (λ (t : Bool). t && (number_of_values xs == length xs)) c.are_all_sure-sure.ensures;
    }
