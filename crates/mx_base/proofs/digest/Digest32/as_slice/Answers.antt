use Rattle.std.proofs.Common.{◌≡◌, rules}
use Rattle.mx_base.proofs.digest.Digest32.as_slice.Goals as goal

pub returns-clause-digest : goal.returns-clause-digest
returns-clause-digest c =
    let e : c.as_slice-bytes.result.now ≡ c.args.self.now = cc (c.as_slice-bytes.ensures, c.self.view_is) in
    record { long = cc (c.self.told, c.self.view_is); fits = λ k. rw (← e) (search rules) }
