use Rattle.dep_rows.proofs.Outcomes.{rows_or_limit, rows_or_fault, fault_or_limit, one_fault}
use Rattle.dep_rows.proofs.laws.one_outcome.Goals as goal

pub returns-clause-rows_or_limit : goal.returns-clause-rows_or_limit
returns-clause-rows_or_limit g c known = rows_or_limit (g.C.Children.children_of known)

pub returns-clause-rows_or_fault : goal.returns-clause-rows_or_fault
returns-clause-rows_or_fault g c known = rows_or_fault (g.C.Children.children_of known)

pub returns-clause-fault_or_limit : goal.returns-clause-fault_or_limit
returns-clause-fault_or_limit g c known = fault_or_limit (g.C.Children.children_of known)

pub returns-clause-one_fault : goal.returns-clause-one_fault
returns-clause-one_fault g c known = one_fault (g.C.Children.children_of known)
