use Rattle.std.proofs.Common.{◌≡◌, ℕ, ◌+◌, ◌-◌, ◌++◌, ◌∷◌, [], List, Some, length, get_or, slice_set, sym, ap, ◌∙◌, subst, arith}
use Rattle.std.proofs.lemmas.List.{get_or_push, length-append, set_at}
use Rattle.compile_model.specs.declared.outcome.Verdict.{Verdict}
use Rattle.partition_face.specs.declared.spawner.ProgramRun.{ProgramRun}
use Rattle.partition_face.proofs.mem_spawner.settle_last.Goals as goal

settled : (old before : List ProgramRun) (run last : ProgramRun) (n : ℕ) (verdict : Verdict) → old ≡ before ++ run ∷ [] → n ≡ length old
    → last ≡ get_or old (n - 1) last
    → slice_set old (n - 1) (record { start = last.start; verdict = Some verdict }) ≡ before ++ record { start = run.start; verdict = Some verdict } ∷ []
settled old before run last n verdict cut count at =
    let place : length before ≡ n - 1 = omega (arith, count, ap length cut, length-append before (run ∷ [])) in
    let same : last ≡ run = at ∙ ap (λ runs. get_or runs (n - 1) last) cut ∙ get_or_push before run last (n - 1) place in
    ap (λ runs. slice_set runs (n - 1) (record { start = last.start; verdict = Some verdict })) cut
    ∙ set_at before run [] (record { start = last.start; verdict = Some verdict }) (n - 1) place
    ∙ ap (λ (r : ProgramRun). before ++ record { start = r.start; verdict = Some verdict } ∷ []) same

pub returns : goal.returns
returns c = λ before run cut.
    settled c.args.runs.now.items before run c.index_mut.result.now c.len-last.result c.args.verdict cut
    (omega (arith, c.len-last.ensures, c.args.runs.now.ok.0)) c.index_mut.ensures.value
