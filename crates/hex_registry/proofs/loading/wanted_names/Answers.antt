use Rattle.std.proofs.Common.{◌≡◌, ◌+◌, List, ℕ, map, drop, bytes_eq, sym, ap, ◌∙◌, rules}
use Rattle.indexmap.specs.IndexSet.{insert_all, insert_key}
use Rattle.hex_registry.specs.declared.wants.Want.{Want}
use Rattle.hex_registry.proofs.Walks.{insert_want}
use Rattle.hex_registry.proofs.loading.wanted_names.Goals as goal

pub loop-want-preserved : goal.loop-want-preserved
loop-want-preserved c =
    let keys : c.insert.new.self.keys ≡ insert_key bytes_eq c.loop-want.names.keys c.want-item.result.«package» = search rules in
    ap (λ (ks : List (List ℕ)). insert_all bytes_eq ks (map (λ (w : Want). w.«package») (drop (c.loop-want.want-index + 1) c.as_slice-want-items.result.now)))
    keys
    ∙ insert_want c.loop-want.names.keys c.as_slice-want-items.result.now c.loop-want.want-index c.want-item.result c.loop-want-test.true (sym c.want-item.is)
    ∙ c.loop-want.invariant
