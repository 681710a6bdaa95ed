use Rattle.std.proofs.Common.{arith, ◌≡◌, ◌++◌, map, take, drop, length, ◌∙◌, ap}
use Rattle.bee_outside.specs.MemFiles.{kept_file, GivesFront}
use Rattle.bee_outside.proofs.FileLaws.{take-whole}
use Rattle.bee_outside.proofs.GiveLaws.{GivesFront-along, moved-given, told-given, others-given}
use Rattle.bee_outside.proofs.mem_shelf.MemShelfShelf.next.Goals as goal
use Rattle.bee_outside.proofs.mem_shelf.MemShelfShelf.next.Goals.{In-Some}

-- what was given, of the files as the clauses see them
given : (c : In-Some) → GivesFront c.args.self.now.files c.self.inside.step c.args.name.now (map kept_file (take c.self.inside.files.len (c.give.new.files ++ drop (length c.give.new.files) c.self.inside.files.items))) c.args.into.now c.give.new.into c.in-Some.size
given c =
    let same : length c.give.new.files ≡ c.self.inside.files.len = omega (arith, c.give.auto.files, c.as_mut_slice.ensures.len) in
    GivesFront-along _ _ _ _ _ _ _ _ _ (ap (map kept_file) c.as_mut_slice.ensures.value ∙ ap (λ s. s.files) c.self.view_is) (ap (map kept_file) (take-whole c.give.new.files (drop (length c.give.new.files) c.self.inside.files.items) c.self.inside.files.len same)) c.in-Some.ensures.gives

pub returns-in-Some-clause-others_stay : goal.returns-in-Some-clause-others_stay
returns-in-Some-clause-others_stay c = others-given _ _ _ _ _ _ _ (given c)

pub returns-in-Some-clause-told_stays : goal.returns-in-Some-clause-told_stays
returns-in-Some-clause-told_stays c = told-given _ _ _ _ _ _ _ (given c)

pub returns-in-Some-clause-moves : goal.returns-in-Some-clause-moves
returns-in-Some-clause-moves c = moved-given _ _ _ _ _ _ _ (given c)
