-- In which words a complaint is told.
use Rattle.std.specs.Prelude.{ℕ, List, Result, Ok, Err}
use Rattle.unit_compile.specs.declared.complaint.Complaint.{Complaint}
use Rattle.unit_compile.specs.declared.complaint.Complaint.TheVariants.{Malformed, UnitThere, There, Unknown, UnknownIn, Missing, Overflow}
use Rattle.unit_compile.specs.Said.{dotted, is_missing, is_unknown, overflow, said_of_cause, there_already, unit_there}

abbrev pub said : Complaint → List ℕ
said (Malformed cause) = said_of_cause cause.now
said (UnitThere name) = unit_there name.now
said (There name) = there_already name.now
said (Unknown name) = is_unknown name.now
said (UnknownIn unit name) = is_unknown (dotted unit.now name.now)
said (Missing app unit) = is_missing app.now unit.now
said Overflow = overflow

-- the answer, with its complaint in words
abbrev pub said_by : {X : Type 0} → Result X Complaint → Result X (List ℕ)
said_by (Ok x) = Ok x
said_by (Err complaint) = Err (said complaint)
