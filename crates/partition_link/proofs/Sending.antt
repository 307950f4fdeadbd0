-- Each job of a plan can be sent.
use Rattle.std.proofs.Common.{◌≡◌, ℕ, ◌+◌, ◌*◌, ◌≤◌, List, [], ◌∷◌, length, map, sum, arith}
use Rattle.std.specs.List.{All}
use Rattle.std.proofs.lemmas.List.Elements.{All-head, All-tail}
use Rattle.mx_base.specs.AppName.{IsAppName}
use Rattle.compile_model.specs.declared.job.Job.{Job}
use Rattle.compile_model.specs.Planned.{IsSound, sent}
use Rattle.partition_frames.proofs.Lengths.{size_is, sum_more}
use Rattle.partition_link.specs.Run.{MayBeWritten, asked}

names_short : (names : List (List ℕ)) → All IsAppName names → sum (map sent names) ≤ 259 * length names
names_short [] all = omega arith
names_short (name ∷ names) all =
    let first = All-head IsAppName name names all in
    omega (arith, names_short names (All-tail IsAppName name names all), first.not_long, sum_more sent name names)

pub sound_is_sent : (runs : ℕ) (env : List ℕ) (job : Job) → IsSound job → IsAppName env → IsAppName job.app → All IsAppName job.need_apps
    → MayBeWritten (asked runs env job)
sound_is_sent runs env job sound env_is app_is needs_are = record {
  small = omega (
    arith,
    size_is (asked runs env job),
    names_short job.need_apps needs_are,
    sound.few,
    sound.named,
    sound.sent,
    env_is.not_long,
    app_is.not_long,
  );
  folder = record { not_root = sound.not_root; outside = sound.outside };
}
