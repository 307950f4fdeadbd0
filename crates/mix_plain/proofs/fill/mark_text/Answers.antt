use Rattle.std.proofs.Common.{length, sym, ◌∙◌, ap}
use Rattle.compile_model.specs.Seq.{outcomes_of}
use Rattle.compile_model.proofs.SeqLemmas.{one_outcome_each}
use Rattle.mix_plain.proofs.fill.mark_text.Goals as goal

pub mark_of-requires-clause-each : goal.mark_of-requires-clause-each
mark_of-requires-clause-each c =
    ap length (c.as_slice-2.ensures.value ∙ c.in_ok-needs.ensures ∙ ap (outcomes_of c.args.fates.now) c.as_slice.ensures)
    ∙ one_outcome_each c.args.fates.now c.args.job.now.needs c.requires.needs ∙ sym c.requires.named
