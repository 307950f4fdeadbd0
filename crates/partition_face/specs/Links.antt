-- What a link to a peer is known by, and what its calls do to that.
use Rattle.std.specs.Prelude.{◌≡◌, ℕ, ◌≤◌, Bool, false, ◌||◌, ◌&&◌, nat_eq, nat_lt, List, [], ◌++◌, length, take, Option, Some, option_map, Result, MatchResult, is_err}
use Rattle.mx_base.specs.Causes.{Counted}

-- what was said over a link
pub record Talk : Type 0 where
  -- the bytes that were sent
  pub sent : List ℕ
  -- the bytes that came
  pub came : List ℕ
  -- the peer closed
  pub closed : Bool

pub record LinkKnown : Type 0 where
  -- what was said, where it tells
  pub talk : Option Talk
  -- how often it failed
  pub faults : ℕ

abbrev pub link_of : Option Talk → ℕ → LinkKnown
link_of talk faults = record { talk = talk; faults = faults }

-- nothing was said yet
abbrev pub no_talk : Talk
no_talk = record { sent = []; came = []; closed = false }

-- these bytes were sent, too
abbrev pub with_sent : List ℕ → Talk → Talk
with_sent bytes talk = record talk { sent = talk.sent ++ bytes }

-- these bytes came, too
abbrev pub with_came : List ℕ → Talk → Talk
with_came bytes talk = record talk { came = talk.came ++ bytes }

-- the whole piece was sent, or the link failed, counted it and sent a part of the piece
pub record Sends {T E : Type 0} (piece : List ℕ) (old new : LinkKnown) (result : Result T E) : Type 0 where
  pub sent : MatchResult result
      (λ _. new.talk ≡ option_map (with_sent piece) old.talk)
      (λ _. (n : ℕ) × (new.talk ≡ option_map (with_sent (take n piece)) old.talk))
  pub cause : Counted old.faults new.faults (is_err result)

-- nothing into some room means that the peer closed
abbrev pub closes : List ℕ → ℕ → Bool
closes room count = nat_eq count 0 && nat_lt 0 (length room)

-- so many bytes came into the beginning of a room
abbrev pub with_room : List ℕ → ℕ → Talk → Talk
with_room room count talk = record talk { came = talk.came ++ take count room; closed = talk.closed || closes room count }

-- so many bytes came, no more than there was room for, or the link failed, counted it and none came
pub record Receives {E : Type 0} (room : List ℕ) (old new : LinkKnown) (result : Result ℕ E) : Type 0 where
  pub came : MatchResult result
      (λ count. (count ≤ length room) × (new.talk ≡ option_map (with_room room count) old.talk))
      (λ _. new.talk ≡ old.talk)
  pub cause : Counted old.faults new.faults (is_err result)
