use Rattle.std.proofs.Common.{map, string_bytes, sym, ◌∙◌}
use Rattle.unitc_call.proofs.CallLemmas.{breaks_of, comes_of}
use Rattle.unitc_call.proofs.call.answer.Goals as goal

pub returns-in-Some-clause-comes : goal.returns-in-Some-clause-comes
returns-in-Some-clause-comes g c =
    comes_of (map (λ word. string_bytes word) c.args.words.now) (g.S.Store.known c.args.store.now) (g.S.Store.known c.compile.new.store) c.in-Some.task
    c.compile.result (sym c.in_ok-task.ensures.task ∙ c.in-Some.is) c.compile.ensures.compiled

pub returns-in-Some-clause-breaks : goal.returns-in-Some-clause-breaks
returns-in-Some-clause-breaks g c =
    breaks_of (map (λ word. string_bytes word) c.args.words.now) (g.S.Store.known c.args.store.now) (g.S.Store.known c.compile.new.store) c.in-Some.task
    c.compile.result (sym c.in_ok-task.ensures.task ∙ c.in-Some.is) c.compile.ensures.stops
