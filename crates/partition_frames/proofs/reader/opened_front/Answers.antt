use Rattle.std.proofs.Common.{◌≡◌, ◌<◌, ℕ, List, [], ◌∷◌, length, subst, take}
use Rattle.std.specs.Prelude.{MatchOption, MatchResult}
use Rattle.partition_frames.specs.Reading.{IsRefused, Opens}
use Rattle.partition_frames.proofs.Wholes.{head_taken, head_told}
use Rattle.partition_frames.proofs.reader.opened_front.Goals as goal

pub returns : goal.returns
returns c =
    let items = c.args.held.now.items in
    let head = c.byte_at.result ∷ c.byte_at-2.result ∷ c.byte_at-3.result ∷ c.byte_at-4.result ∷ c.byte_at-5.result ∷ [] in
    let same : take c.min-count.result head ≡ take 5 items =
    rw (c.min-count.ensures, c.len.ensures.len, c.byte_at.ensures, c.byte_at-2.ensures, c.byte_at-3.ensures, c.byte_at-4.ensures, c.byte_at-5.ensures)
    (head_taken items) in
    head_told items c.opened.result
    (subst (λ (t : List ℕ). MatchResult c.opened.result (λ size. MatchOption size (length t < 4) (Opens t)) (λ e. IsRefused t e.cause e.at)) same
    c.opened.ensures)
