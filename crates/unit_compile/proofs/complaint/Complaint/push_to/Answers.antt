use Rattle.std.proofs.Common.{ℕ, List, ◌++◌, codes, ap, ◌∙◌}
use Rattle.unit_compile.specs.Said.{dotted}
use Rattle.unit_compile.proofs.SaidLemmas.{grew_twice}
use Rattle.unit_compile.proofs.complaint.Complaint.push_to.Goals as goal

pub returns-in_ok-push_text-in-UnitThere : goal.returns-in_ok-push_text-in-UnitThere
returns-in_ok-push_text-in-UnitThere c = rw c.in-UnitThere.is (grew_twice _ _ _ (codes "unit ") _ _ c.in_ok-push_text-in-UnitThere.ensures c.push_named.ensures)

pub returns-in-There : goal.returns-in-There
returns-in-There c = rw c.in-There.is c.push_named-in-There.ensures

pub returns-in_ok-push_dotted-in-Missing : goal.returns-in_ok-push_dotted-in-Missing
returns-in_ok-push_dotted-in-Missing c =
    rw c.in-Missing.is (grew_twice _ _ _ (dotted c.in-Missing.app.now c.in-Missing.unit.now) _ _
    (c.in_ok-push_dotted-in-Missing.ensures ∙ ap (λ (app : List ℕ). c.args.text.now.items ++ dotted app c.in-Missing.unit.now) (c.as_bytes.ensures.value ∙ c.as_str.ensures.value))
    c.push_text-in-Missing.ensures)
