use Rattle.std.proofs.Common.{subst}
use Rattle.std.specs.Str.{IsUtf8}
use Rattle.partition_frames.proofs.Folders.{sent_folder}
use Rattle.partition_frames.proofs.writing.push_folder.Goals as goal

pub returns-clause-sound : goal.returns-clause-sound
returns-clause-sound c =
    sent_folder c.args.dir.now c.requires.short c.requires.folder c.as_str.ensures.path (subst IsUtf8 c.as_str.ensures.value c.as_str.utf8)
