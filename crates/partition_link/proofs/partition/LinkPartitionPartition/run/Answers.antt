use Rattle.std.proofs.Common.{◌≡◌, ◌+◌, ap, ◌∙◌, subst}
use Rattle.std.proofs.lemmas.Result.{err_from_is_err_and}
use Rattle.partition_link.specs.Channel.{channel_of}
use Rattle.partition_link.specs.Run.{Asks, asked}
use Rattle.partition_link.proofs.Questions.{asks_memory}
use Rattle.partition_link.proofs.partition.LinkPartitionPartition.run.Goals.{then-matches, else-matches}
use Rattle.partition_link.proofs.partition.LinkPartitionPartition.run.Goals as goal

pub returns-in_err-question-clause-asks : goal.returns-in_err-question-clause-asks
returns-in_err-question-clause-asks g c =
    let p = err_from_is_err_and c.from_residual.result c.from_residual.ensures.1 in
    rw (p.1, p.2) (asks_memory (asked (c.args.self.now.counts.runs + 1) (g.F.Folder.known c.args.folder.now).key.env c.args.input.now.job.now)
    (channel_of (g.L.Link.known c.args.self.now.link) c.args.self.now.reader))

pub returns-clause-asks : goal.returns-clause-asks
returns-clause-asks g c =
    let runs = c.args.self.now.counts.runs + 1 in
    let job = c.args.input.now.job.now in
    let asks = subst
    (λ question. Asks question (channel_of (g.L.Link.known c.args.self.now.link) c.args.self.now.reader)
    (channel_of (g.L.Link.known c.ask-answer.new.link) c.ask-answer.new.reader) c.ask-answer.result)
    (c.in_ok-question.ensures ∙ ap (λ env. asked runs env job) c.env.ensures) c.ask-answer.ensures in
    elim c.if-matches.branch [ then-matches w ↦ rw w.self-is asks | else-matches w ↦ rw w.self-is asks ]
