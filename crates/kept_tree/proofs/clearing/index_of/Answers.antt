use Rattle.std.proofs.Common.{◌<◌, ◌≤◌, ◌∙◌, ℕ, List, length, bytes_eq, ap, arith}
use Rattle.std.specs.List.{list_any}
use Rattle.std.proofs.lemmas.List.{take_all}
use denote.Ref.{Bor}
use Rattle.kept_tree.proofs.AmongLemmas.{among_views, indexed_more}
use Rattle.kept_tree.proofs.clearing.index_of.Goals as goal

pub loop-name-preserved : goal.loop-name-preserved
loop-name-preserved c =
    let names = c.args.names.now in
    let i = c.loop-name.name-index in
    let within : i < length names = omega arith in
    record {
      indexed = indexed_more names i c.name-item.result c.name-item.result.now within (ap (λ (k : Bor (List ℕ)). k.now) c.name-item.is)
          c.loop-name.index c.insert.new.self c.as_str.result c.as_str.ensures.value c.in_ok-insert.ensures.updates c.loop-name.invariant.indexed;
    }

pub returns : goal.returns
returns c t =
    let names = c.args.names.now in
    let past : length names ≤ c.loop-name.name-index = omega arith in
    c.loop-name.invariant.indexed t
    ∙ ap (λ (ns : List (Bor (List ℕ))). list_any (λ (k : Bor (List ℕ)). bytes_eq t k.now) ns) (take_all c.loop-name.name-index names past)
    ∙ among_views t names
