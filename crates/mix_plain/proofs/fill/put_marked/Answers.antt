use Rattle.mix_plain.proofs.PutLemmas.{marked_held, marked_stops, unmarked_stops}
use Rattle.mix_plain.proofs.fill.put_marked.Goals as goal

pub returns-clause-held : goal.returns-clause-held
returns-clause-held g c =
    marked_held c.args.files.now c.args.mark.now (g.F.Folder.known c.args.folder.now) (g.F.Folder.known c.put_files.new.folder)
    (g.F.Folder.known c.mark.new.self) c.mark.result c.requires.in_order c.requires.bare c.in_ok-put_files.ensures.held c.mark.ensures

pub returns-in_err-put_files-clause-stops : goal.returns-in_err-put_files-clause-stops
returns-in_err-put_files-clause-stops g c =
    unmarked_stops c.args.files.now c.args.mark.now (g.F.Folder.known c.args.folder.now) (g.F.Folder.known c.put_files.new.folder) c.put_files.ensures.unmarked

pub returns-clause-stops : goal.returns-clause-stops
returns-clause-stops g c =
    marked_stops c.args.files.now c.args.mark.now (g.F.Folder.known c.args.folder.now) (g.F.Folder.known c.put_files.new.folder)
    (g.F.Folder.known c.mark.new.self) c.mark.result c.requires.in_order c.requires.bare c.put_files.ensures.unmarked
    c.in_ok-put_files.ensures.held c.mark.ensures
