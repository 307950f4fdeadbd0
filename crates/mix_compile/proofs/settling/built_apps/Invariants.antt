use Rattle.std.proofs.Common.{◌≡◌, ◌++◌, drop, map}
use Rattle.mix_compile.specs.Settling.{built_apps}
use Rattle.mix_compile.proofs.settling.built_apps.Given as goal

abbrev pub invariant-loop-place : goal.invariant-loop-place
invariant-loop-place l = map (λ app. app.now) l.apps.items ++ built_apps (drop l.place l.jobs) (drop l.place l.fates) ≡ built_apps l.jobs l.fates
