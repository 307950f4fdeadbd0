-- What was said over a link in memory.
use Rattle.partition_face.specs.declared.mem_link.MemLink.{MemLink}
use Rattle.partition_face.specs.Links.{Talk}

abbrev pub talk_of : MemLink → Talk
talk_of link = record { sent = link.sent.items; came = link.came.items; closed = link.closed }
