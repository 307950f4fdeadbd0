use Rattle.std.proofs.Common.{◌≡◌, ◌++◌, length}
use Rattle.std.specs.Prelude.{flat_map}
use Rattle.std.specs.List.{AllByRecursion}
use Rattle.mx_base.specs.AppName.{IsAppName}
use Rattle.partition_frames.specs.Frame.{text_field}
use Rattle.partition_frames.specs.Field.{together}
use Rattle.partition_frames.proofs.lists.read_apps.Given as goal

abbrev pub invariant-apps : goal.invariant-apps
invariant-apps l = record {
  many : length l.apps.items ≡ l.counter;
  fits : AllByRecursion IsAppName l.apps.items;
  cut : l.text ≡ together (flat_map text_field l.apps.items) ++ l.rest;
}
