use Rattle.std.proofs.Common.{◌≡◌, ◌+◌, List, ℕ, false, map, drop, bytes_eq, sym, ap, ◌∙◌, rules}
use Rattle.indexmap.specs.IndexSet.{insert_all, insert_key}
use Rattle.hex_registry.specs.Shelves.{is_among, without_apps}
use Rattle.hex_registry.specs.declared.offer.Demand.{Demand}
use Rattle.hex_registry.proofs.Walks.{insert_demand}
use Rattle.hex_registry.proofs.loading.add_named_by.Goals as goal

pub loop-demand-preserved : goal.loop-demand-preserved
loop-demand-preserved c =
    let keys : c.insert.new.self.keys ≡ insert_key bytes_eq c.loop-demand.names.keys c.demand-item.result.«package» = search rules in
    let kept : is_among c.demand-item.result.app c.args.wants.now.pinned ≡ false = search rules in
    ap (λ (ks : List (List ℕ)). insert_all bytes_eq ks (map (λ (d : Demand). d.«package»)
    (without_apps c.args.wants.now.pinned (drop (c.loop-demand.demand-index + 1) c.demands-demand-items.result.now)))) keys
    ∙ insert_demand c.args.wants.now.pinned c.loop-demand.names.keys c.demands-demand-items.result.now c.loop-demand.demand-index c.demand-item.result
    c.loop-demand-test.true (sym c.demand-item.is) kept
    ∙ c.loop-demand.invariant
