use Rattle.std.proofs.Common.{not, map, rules, ℕ, List}
use Rattle.std.proofs.lemmas.Fn.{filter_same}
use Rattle.kept_tree.specs.Clearing.{is_among}
use Rattle.kept_tree.proofs.clearing.apart_from.Goals as goal

pub returns : goal.returns
returns c =
    filter_same _ (λ (app : List ℕ). not (is_among (map (λ name. name.now) c.args.stays.now) app)) _ (λ p b f k. search rules) _ _ c.retain.ensures.filtered
