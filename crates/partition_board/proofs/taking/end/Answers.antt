use Rattle.std.proofs.Common.{length, ℕ, ◌<◌, Some, slice_get, slice_set, sym, ap, subst, ◌∙◌}
use Rattle.partition_core.specs.Story.{with_event}
use Rattle.partition_core.specs.Refusals.{place_of}
use Rattle.partition_board.proofs.StoryHomes.{end_away, end_story, housed_as}
use Rattle.partition_board.proofs.taking.end.Goals as goal

pub take_in-requires-clause-within : goal.take_in-requires-clause-within
take_in-requires-clause-within g c =
    subst (λ (n : ℕ). n < length c.args.house.now.homes) (sym c.place-place.ensures)
    (subst (λ (n : ℕ). place_of c.args.event < n) (sym c.requires.home.home.places) c.make.ensures.within)

pub take_in-requires-clause-away : goal.take_in-requires-clause-away
take_in-requires-clause-away g c =
    ap (slice_get c.args.house.now.homes) c.place-place.ensures
    ∙ end_away g.F.Folder.known c.args.core.now c.args.house.now c.make.ensures.legal c.requires.home c.args.event c.requires.suits.ends c.requires.legal

pub returns-clause-home : goal.returns-clause-home
returns-clause-home g c =
    housed_as g.F.Folder.known (with_event c.args.core.now c.args.event) c.make.new.core _ c.take_in.new.self c.make.ensures.story
    (c.take_in.ensures ∙ ap (λ (n : ℕ). record { handed = c.args.house.now.handed; homes = slice_set c.args.house.now.homes n (Some c.args.folder) })
    c.place-place.ensures)
    (end_story g.F.Folder.known c.args.core.now c.args.house.now c.make.ensures.legal c.requires.home c.args.event c.args.folder c.requires.legal
    c.requires.suits)
