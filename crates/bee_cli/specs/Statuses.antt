-- The status of a run, by the end that its mode has.
use Rattle.std.specs.Prelude.{◌≡◌, ℕ}
use Rattle.text_modes.specs.declared.ends.Outcome.{Outcome}
use Rattle.text_modes.specs.declared.ends.Outcome.TheVariants as outcome
use Rattle.text_modes.specs.declared.ends.End.{End}
use Rattle.text_modes.specs.declared.ends.End.TheVariants as end
use Rattle.model_texts.specs.declared.fault.ModelFault.{ModelFault}
use Rattle.model_texts.specs.declared.fault.ModelFault.TheVariants.{TooLong, Cnf}
use Rattle.sat_front.specs.declared.text_fault.CnfTextFault.{CnfTextFault}
use Rattle.sat_front.specs.declared.text_fault.CnfTextFault.TheVariants as clauses
use Rattle.certify_mode.specs.declared.fault.CertifyFault.{CertifyFault}
use Rattle.certify_mode.specs.declared.fault.CertifyFault.TheVariants as certify
use Rattle.bound_mode.specs.declared.fault.BoundFault.{BoundFault}
use Rattle.bound_mode.specs.declared.fault.BoundFault.TheVariants as bound
use Rattle.bee_cli.specs.declared.status.Status.{Status}
use Rattle.bee_cli.specs.declared.status.Status.TheVariants.{Done, Refused, Model, NoObjective, TwoObjectives}
use Rattle.bee_cli.specs.declared.status.Status.TheVariants.{Read, Write, Memory, Unknown}

-- of a run that wrote its text
abbrev pub outcome_status : Outcome → Status
outcome_status outcome.Done = Done
outcome_status (outcome.Refused line) = Refused line
outcome_status (outcome.Unknown count) = Unknown count

-- of any run, by the status that a fault of its first text has
abbrev pub status_of : {F : Type 0} → (F → Status) → End F → Status
status_of called (end.Wrote outcome) = outcome_status outcome
status_of called (end.Fault fault) = called fault
status_of called end.Read = Read
status_of called end.Write = Write
status_of called end.Memory = Memory

-- the fault of the text of a model, and that of a compiled text, the first line that fails
abbrev pub model_fault : ModelFault → Status
model_fault fault = Model fault

abbrev pub cnf_fault : ℕ → Status
cnf_fault line = Model (Cnf line)

-- the fault of the text of a plain CNF
abbrev pub clauses_fault : CnfTextFault → Status
clauses_fault clauses.TooLong = Model TooLong
clauses_fault (clauses.Form line) = Model (Cnf line)

-- the fault of a model for which nothing is imported
abbrev pub certify_fault : CertifyFault → Status
certify_fault (certify.Model fault) = Model fault
certify_fault certify.TwoObjectives = TwoObjectives

-- the fault of a model whose objective isn't bounded
abbrev pub bound_fault : BoundFault → Status
bound_fault (bound.Model fault) = Model fault
bound_fault bound.NoObjective = NoObjective

-- a run had an end of which this holds, and this is its status
abbrev pub Ended : {F : Type 0} → (F → Status) → (End F → Type 0) → Status → Type 0
Ended {F} called IsEnd status = (end : End F) × (status ≡ status_of called end) × IsEnd end
