-- What contracts see of a reader.
use Rattle.mix_words.specs.declared.sofar.Sofar.{Sofar}
use Rattle.mix_words.specs.declared.reader.Reader.{Reader}
use Rattle.mix_words.specs.Live.{Place, State}

abbrev pub state_of : Sofar → State
state_of sofar = record { verb = sofar.verb; settings = sofar.settings; others = sofar.apps.names }

abbrev pub place_of : Reader → Place
place_of reader = record { state = state_of reader.sofar; waiting = reader.waiting }
