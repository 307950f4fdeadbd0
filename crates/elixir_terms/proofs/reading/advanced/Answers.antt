use Rattle.std.proofs.Common.{◌≡◌, length, get_or, ap, ◌∙◌, subst}
use Rattle.std.proofs.lemmas.Result.{err_from_is_err_and}
use Rattle.elixir_terms.specs.Machine.{depth}
use Rattle.elixir_terms.specs.Reading.{stops, repeats}
use Rattle.elixir_terms.proofs.MoveLemmas.{noted_length, old_by}
use Rattle.elixir_terms.proofs.reading.advanced.Goals as goal

pub repeated-requires : goal.repeated-requires
repeated-requires c = ap length (c.as_slice.ensures.value ∙ c.note.ensures) ∙ noted_length _ _ _ ∙ c.requires.places

pub returns-in_err-next-clause-halts : goal.returns-in_err-next-clause-halts
returns-in_err-next-clause-halts c =
    let p = err_from_is_err_and c.from_residual.result c.from_residual.ensures.1 in
    rw (p.1, p.2) (λ m. let r = c.in_err-next.ensures.stops m in stops r.0 r.1 r.2)

pub returns-then-branch-clause-halts : goal.returns-then-branch-clause-halts
returns-then-branch-clause-halts c = λ m. repeats c.in_ok-next.next c.in_ok-next.after.now c.in_ok-next.ensures.moves (old_by c.in_ok-repeats_entry.field-0 _ c.if-branch.true c.in_ok-repeats_entry.ensures) (subst (λ places. c.repeated.result.left ≡ get_or places (depth c.in_ok-next.next) 0) c.as_slice.ensures.value c.repeated.ensures.left) c.repeated.ensures.cause

pub returns-clause-advances : goal.returns-clause-advances
returns-clause-advances c = record { after = c.in_ok-next.after.now; moves = c.in_ok-next.ensures.moves; new = c.in_ok-repeats_entry.ensures.0 c.if-branch.false; blanks = c.skip_blanks.ensures.blanks; solid = c.skip_blanks.ensures.solid }
