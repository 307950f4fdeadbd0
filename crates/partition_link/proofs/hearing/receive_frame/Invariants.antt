use Rattle.std.proofs.Common.{◌-◌, length}
use Rattle.partition_frames.specs.Stream.{most_held}
use Rattle.partition_link.specs.Channel.{Waits, channel_of}
use Rattle.partition_link.proofs.hearing.receive_frame.Given as goal

abbrev pub decreases-frames : goal.decreases-frames
decreases-frames g l = most_held - length l.reader

abbrev pub invariant-frames : goal.invariant-frames
invariant-frames g l = Waits (channel_of (g.L.Link.known l.fn.link) l.fn.reader) (channel_of (g.L.Link.known l.link) l.reader)
