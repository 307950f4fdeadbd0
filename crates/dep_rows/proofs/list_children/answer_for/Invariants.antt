use Rattle.std.proofs.Common.{◌≡◌, drop}
use Rattle.dep_rows.specs.ListChildren.{answer_for}
use Rattle.dep_rows.proofs.list_children.answer_for.Given as goal

abbrev pub invariant-loop-answer : goal.invariant-loop-answer
invariant-loop-answer l = answer_for (drop l.answer-index l.answers) l.app ≡ answer_for l.fn.answers l.fn.app
