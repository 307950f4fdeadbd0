use Rattle.std.proofs.Common.{◌≡◌, ℕ, List, ◌∷◌, ◌+◌, None, Option, drop, option_map, arith, rules, sym, ◌∙◌, ap}
use Rattle.std.proofs.lemmas.Grind.{common_steps}
use Rattle.std.proofs.lemmas.List.{drop_more}
use Rattle.mx_base.specs.declared.file.File.{File}
use Rattle.tree_store.specs.declared.holding.Holding.{Holding}
use Rattle.tree_store.specs.FolderKnown.{FolderKnown}
use Rattle.tree_store.specs.Holding.{with_all}
use Rattle.tree_store.specs.Moment.{leaves}
use Rattle.tree_store.specs.Moment.Part.{Whole}
use Rattle.tree_store.specs.Moment.Write.{Put}
use Rattle.tree_store.proofs.MomentLemmas.{if_told, told_has, put_keeps_mark, put_more, stops_at_write, stops_end, stops_then}
use Rattle.tree_store.proofs.filling.put_files.Goals as goal

pub put-requires : goal.put-requires
put-requires g c = stops_end (λ image. image.mark ≡ None) (g.F.Folder.known c.args.folder.now) (g.F.Folder.known c.loop-file.folder) c.loop-file.invariant.stops

pub returns-in_err-put-clause-unmarked : goal.returns-in_err-put-clause-unmarked
returns-in_err-put-clause-unmarked g c =
    let mid : FolderKnown = g.F.Folder.known c.loop-file.folder in
    let new : FolderKnown = g.F.Folder.known c.put.new.self in
    let file : File = record { path = c.file-item.result.path; bytes = c.as_slice.result.now } in
    let bare = stops_end (λ image. image.mark ≡ None) (g.F.Folder.known c.args.folder.now) mid c.loop-file.invariant.stops in
    stops_then (λ image. image.mark ≡ None) (g.F.Folder.known c.args.folder.now) mid new c.loop-file.invariant.stops
    (stops_at_write (λ image. image.mark ≡ None) (Put file) mid new c.put.result c.put.ensures (if_told mid.held (λ held is part. put_keeps_mark file part held ∙ told_has (λ h. h.mark ≡ None) mid.held held is bare)))

pub loop-file-preserved : goal.loop-file-preserved
loop-file-preserved g c =
    let mid : FolderKnown = g.F.Folder.known c.loop-file.folder in
    let new : FolderKnown = g.F.Folder.known c.put.new.self in
    let file : File = record { path = c.file-item.result.path; bytes = c.as_slice.result.now } in
    let files : List File = c.args.files.now in
    let k : ℕ = c.loop-file.file-index in
    let bare = stops_end (λ image. image.mark ≡ None) (g.F.Folder.known c.args.folder.now) mid c.loop-file.invariant.stops in
    let own : file ≡ c.file-item.result = ap (λ (b : List ℕ). record { path = c.file-item.result.path; bytes = b }) c.as_slice.ensures in
    let next : file ∷ drop (k + 1) files ≡ drop k files = ap (λ (f : File). f ∷ drop (k + 1) files) (own ∙ c.file-item.is) ∙ sym (drop_more files k c.file-item.result c.loop-file-test.true) in
    record {
      rest = ap (λ (f : FolderKnown). option_map (with_all (drop (k + 1) files)) f.held) c.in_ok-put.ensures.ended ∙ put_more file (drop (k + 1) files) mid.held
          ∙ ap (λ (fs : List File). option_map (with_all fs) mid.held) next ∙ c.loop-file.invariant.rest;
      stops = stops_then (λ image. image.mark ≡ None) (g.F.Folder.known c.args.folder.now) mid new c.loop-file.invariant.stops
          (stops_at_write (λ image. image.mark ≡ None) (Put file) mid new c.put.result c.put.ensures (if_told mid.held (λ held is part. put_keeps_mark file part held ∙ told_has (λ h. h.mark ≡ None) mid.held held is bare)));
      faults = first_of (search rules, grind (arith, common_steps));
    }
