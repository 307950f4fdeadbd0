use Rattle.converger.proofs.Links.{starts_within}
use Rattle.converger.proofs.reach.reach.Goals as goal

pub reached-requires : goal.reached-requires
reached-requires c = rw (c.deref.ensures.value, c.in_ok-starts.ensures, c.args.web.now.linked)
    (starts_within c.args.web.now.rows.now.rows c.args.env.now c.args.web.now.target.now)
