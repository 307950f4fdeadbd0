-- A frame that was read may be written.
use Rattle.partition_frames.specs.declared.frame.Frame.{Frame}
use Rattle.partition_frames.specs.declared.frame.Frame.TheVariants.{Hello, Job, Verdict, Bye}
use Rattle.partition_frames.specs.Frame.{HasFolder, IsFrame}
use Rattle.partition_frames.proofs.Folders.{folder_sent}

pub frames_have_folders : (frame : Frame) → IsFrame frame → HasFolder frame
frames_have_folders (Hello cookie index) is = tt
frames_have_folders (Job n env app options how system_env dir needs) is = folder_sent dir is.sound.1.1.0
frames_have_folders (Verdict n status text) is = tt
frames_have_folders Bye is = tt
