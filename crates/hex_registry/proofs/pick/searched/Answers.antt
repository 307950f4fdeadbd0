use Rattle.std.proofs.Common.{rules}
use Rattle.std.proofs.lemmas.Fn.{always_returns_same}
use Rattle.mx_base.specs.Order.{text_cmp}
use Rattle.hex_registry.specs.Picks.{Picked}
use Rattle.hex_registry.proofs.PickSearch.{says_place}
use Rattle.hex_registry.proofs.pick.searched.Goals as goal

pub returns : goal.returns
returns c =
    says_place c.args.picks.now c.args.name.now c.binary_search_by.result c.requires c.binary_search_by.ensures.bound
    (c.binary_search_by.ensures.position (λ (q : Picked). text_cmp q.0 c.args.name.now)
    (always_returns_same _ _ _ (λ a r g h. (search rules, search rules))))
