use Rattle.std.proofs.Common.{◌++◌, flat_map, sym, ◌∙◌, ap, subst}
use Rattle.compile_model.specs.Planned.{words_of}
use Rattle.partition_face.specs.Spawners.{Spawns}
use Rattle.compiler_drive.specs.Drive.{job_words, need_words, start_for}
use Rattle.compiler_drive.proofs.driving.drive.Goals as goal

pub returns : goal.returns
returns g c =
    let old = g.W.Spawner.known c.args.spawner.now in
    let new = g.W.Spawner.known c.run.new.self in
    let at = c.in-Job in
    let first = words_of at.how ++ job_words at.env at.app at.dir in
    let words = c.as_slice-2.ensures.value ∙ c.in_ok-words.ensures ∙ ap (λ needs. first ++ flat_map (need_words at.env) needs) c.as_slice.ensures in
    subst (λ job. Spawns (start_for job) old new c.run.result) (sym at.is)
    (subst (λ variables. Spawns (record { words = first ++ flat_map (need_words at.env) at.needs; variables = variables }) old new c.run.result)
    c.as_slice-3.ensures
    (subst (λ words. Spawns (record { words = words; variables = c.as_slice-3.result.now }) old new c.run.result) words c.run.ensures))
