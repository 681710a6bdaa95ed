use Rattle.core_extract.specs.Parts.{whole_of}
use Rattle.core_extract.proofs.Divisions.{anew}
use Rattle.core_extract.proofs.reduction.divide.Goals as goal

pub returns : goal.returns
returns c =
    anew c.args.model c.in_ok-marks.marks.items c.args.out.now c.choose.result c.in_ok-marks.ensures.items c.requires
    (c.choose.ensures.divided (whole_of c.args.model) c.requires.divided) c.choose.ensures.moved
