-- The trace of a build.
use Rattle.std.specs.Prelude.{ℕ, List, ◌++◌, flat_map, codes}
use Rattle.std.specs.Fmt.{decimal}
use Rattle.compile_model.specs.declared.job.Job.{Job}
use Rattle.partition_core.specs.declared.event.Event.{Event}
use Rattle.partition_core.specs.declared.event.Event.TheVariants.{Keep, Start, Finish, Fail, Skip, Back}
use Rattle.mix_report.specs.App.{app_at}

-- by which partition
abbrev pub by_text : ℕ → List ℕ
by_text by = codes " on " ++ decimal by ++ codes "\n"

-- what happened to the app
abbrev pub event_text : List ℕ → List ℕ → ℕ → List ℕ
event_text word app by = word ++ app ++ by_text by

-- the app is skipped for this need
abbrev pub skip_text : List ℕ → List ℕ → ℕ → List ℕ
skip_text app need by = codes "skip " ++ app ++ event_text (codes " for ") need by

-- the line of an event
abbrev pub event_line : List Job → Event → List ℕ
event_line jobs (Keep place by) = event_text (codes "keep ") (app_at jobs place) by
event_line jobs (Start place by) = event_text (codes "start ") (app_at jobs place) by
event_line jobs (Finish place by outcome) = event_text (codes "finish ") (app_at jobs place) by
event_line jobs (Fail place by outcome) = event_text (codes "fail ") (app_at jobs place) by
event_line jobs (Skip place need by) = skip_text (app_at jobs place) (app_at jobs need) by
event_line jobs (Back place by cause) = event_text (codes "back ") (app_at jobs place) by

-- one line for each event, in order
abbrev pub trace : List Job → List Event → List ℕ
trace jobs events = flat_map (event_line jobs) events
