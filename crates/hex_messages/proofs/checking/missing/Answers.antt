use Rattle.std.proofs.Common.{List, sym, subst}
use Rattle.hex_messages.specs.declared.message.Message.TheVariants as message
use Rattle.hex_messages.specs.Fields.{Field}
use Rattle.hex_messages.specs.Good.{AllGood, has}
use Rattle.hex_messages.proofs.CheckLemmas.{misses_release, lost_or}
use Rattle.hex_messages.proofs.checking.missing.Goals as goal

pub returns-in-Release : goal.returns-in-Release
returns-in-Release c =
    let back = λ (all : List Field) (g : AllGood message.Release all). subst (λ m. AllGood m all) (sym c.in-Release.is) g in
    rw c.in-Release.is (λ fields s g.
    misses_release c.args.text.now fields c.or-in-Release-2.result s g (λ all merged s' g' h.
    lost_or (has 4 all) (has 1 merged) (has 1 all) (has 2 all) c.or-in-Release-2.result c.or-in-Release.result c.lost_reason.result
    c.absent-in-Release.result c.absent-in-Release-2.result
    c.or-in-Release-2.ensures c.or-in-Release.ensures (c.lost_reason.ensures all merged s' g' h) (c.absent-in-Release.ensures all s' (back all g'))
    (c.absent-in-Release-2.ensures all s' (back all g'))))
