use Rattle.std.proofs.Common.{ℕ, ◌<◌, sym, ap, subst}
use Rattle.partition_core.specs.declared.event.Event.TheVariants.{Start}
use Rattle.partition_core.specs.Story.{Story, with_event}
use Rattle.partition_board.specs.Homes.{HouseView}
use Rattle.partition_board.proofs.StoryHomes.{belongs_as, housed_as, start_folder, start_full, start_story}
use Rattle.partition_board.proofs.taking.start.Goals as goal

pub lend-requires-clause-within : goal.lend-requires-clause-within
lend-requires-clause-within g c = subst (λ (n : ℕ). c.args.place < n) (sym c.requires.home.home.places) c.make.ensures.within

pub lend-requires-clause-full : goal.lend-requires-clause-full
lend-requires-clause-full g c =
    start_full g.F.Folder.known c.args.core.now c.args.house.now c.make.ensures.legal c.requires.home c.args.place c.args.by c.requires.legal
    c.make.ensures.within

pub returns-clause-home : goal.returns-clause-home
returns-clause-home g c =
    housed_as g.F.Folder.known (with_event c.args.core.now (Start c.args.place c.args.by)) c.make.new.core _ c.lend.new.self c.make.ensures.story
    c.lend.ensures.homes
    (start_story g.F.Folder.known c.args.core.now c.args.house.now c.make.ensures.legal c.requires.home c.args.place c.args.by c.requires.legal
    c.make.ensures.within)

pub returns-clause-folder : goal.returns-clause-folder
returns-clause-folder g c =
    belongs_as g.F.Folder.known c.args.house.now.handed c.lend.new.self.handed _ c.make.new.core.events c.args.place c.lend.result
    (ap (λ (h : HouseView g.row.F.Denot). h.handed) c.lend.ensures.homes) (ap (λ (s : Story). s.events) c.make.ensures.story)
    (start_folder g.F.Folder.known c.args.core.now c.args.house.now c.make.ensures.legal c.requires.home c.args.place c.args.by c.lend.result
    c.requires.legal c.make.ensures.within c.lend.ensures.folder)
