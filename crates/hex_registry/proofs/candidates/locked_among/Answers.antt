use Rattle.std.proofs.Common.{rules, tests}
use Rattle.std.proofs.lemmas.Iterator.Consumers.{YieldsList-at}
use Rattle.std.proofs.lemmas.Iterator.{YieldsList-from_slice, YieldsList-from_zip}
use Rattle.std.proofs.lemmas.Iterator.Search.{position_from_yields_List}
use Rattle.hex_registry.specs.Candidates.{is_locked}
use Rattle.hex_registry.proofs.candidates.locked_among.Goals as goal

pub returns : goal.returns
returns c =
    position_from_yields_List (is_locked c.args.text.now) c.position.new.self _ c.position.result c.position.ensures.ran
    (YieldsList-from_zip (YieldsList-at c.zip.ensures.first (YieldsList-from_slice c.args.releases.now c.iter.ensures.rest))
    (YieldsList-at c.zip.ensures.second (YieldsList-from_slice c.args.offers.now c.iter-2.ensures.rest)))
    (λ x b q k. search (rules, tests))
