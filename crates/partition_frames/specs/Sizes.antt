-- How long frames are.
use Rattle.std.specs.Prelude.{ℕ, ◌+◌, map, sum}
use Rattle.compile_model.specs.Planned.{sent, sent_variable, words_of}
use Rattle.partition_frames.specs.declared.frame.Frame.{Frame}
use Rattle.partition_frames.specs.declared.frame.Frame.TheVariants.{Hello, Job, Verdict, Bye}

-- how many bytes kind and body of a frame have: one for the kind, four for each number, one for how a job is compiled
abbrev pub size_of : Frame → ℕ
size_of (Hello cookie index) = 5 + sent cookie
size_of (Job n env app options how system_env dir needs) =
    18 + (sent env + (sent app + (sent options + (sum (map sent (words_of how))
    + (sum (map sent_variable system_env) + (sent dir + sum (map sent needs)))))))
size_of (Verdict n status text) = 9 + sent text
size_of Bye = 1
