use Rattle.std.proofs.Common.{◌≡◌, ◌≤◌, ◌*◌, ◌+◌, None, length, replicate, vec_capacity, sym, ◌∙◌, ap, arith}
use Rattle.compile_model.specs.declared.job.Plan.{Plan}
use Rattle.partition_core.proofs.TableLemmas.{story_first, table_first, fates_first}
use Rattle.partition_core.specs.Lots.{fates_of}
use Rattle.partition_core.proofs.AgendaTables.{agenda_seen}
use Rattle.partition_core.proofs.table.Table.begin.Goals as goal

pub returns-clause-story : goal.returns-clause-story
returns-clause-story c =
    story_first (record {
      plan = c.args.plan;
      lots = c.in_ok-lots.lots;
      standings = c.in_ok-standings.standings;
      history =
          c.in_ok-history.history;
      spare = c.in_ok-spare.spare;
      agenda = c.in_ok-agenda.agenda;
    }) c.args.kept.items c.args.partitions c.in_ok-lots.ensures
    c.in_ok-standings.ensures c.in_ok-history.ensures.items

pub returns-clause-table : goal.returns-clause-table
returns-clause-table c =
    let jobs : length c.as_slice-jobs.result.now ≡ length c.args.plan.jobs =
    ap length c.as_slice-jobs.ensures ∙ ap (λ (p : Plan). length p.jobs) c.get.ensures in
    let room : 2 * (length c.args.plan.jobs + c.args.partitions) ≤ vec_capacity c.in_ok-history.history =
    omega (arith, c.in_ok-history.ensures.capacity, jobs) in
    let spare_room : length c.args.plan.jobs ≤ vec_capacity c.in_ok-spare.spare = omega (arith, c.in_ok-spare.ensures.capacity, jobs) in
    table_first (record {
      plan = c.args.plan;
      lots = c.in_ok-lots.lots;
      standings = c.in_ok-standings.standings;
      history =
          c.in_ok-history.history;
      spare = c.in_ok-spare.spare;
      agenda = c.in_ok-agenda.agenda;
    }) c.args.kept.items c.args.partitions c.requires.planned
    c.requires.places c.requires.few c.in_ok-lots.ensures c.in_ok-standings.ensures c.in_ok-history.ensures.items room c.in_ok-spare.ensures.items
    spare_room
    (agenda_seen c.get-2.result.now c.args.plan c.as_slice.result.now c.in_ok-lots.lots.items c.as_slice-2.result.now
    c.in_ok-standings.standings.items c.in_ok-agenda.agenda
    c.get-2.ensures c.as_slice.ensures.value c.as_slice-2.ensures.value c.in_ok-agenda.ensures)

pub begin-requires-clause-open_places : goal.begin-requires-clause-open_places
begin-requires-clause-open_places c =
    ap fates_of c.as_slice.ensures.value
    ∙ fates_first c.in_ok-lots.lots.items c.args.kept.items (length c.args.plan.jobs) c.in_ok-lots.ensures c.requires.places
    ∙ ap (λ (p : Plan). replicate (length p.jobs) None) (sym c.get-2.ensures)
