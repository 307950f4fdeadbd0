-- What a clause sees of a board and of its seats.
use Rattle.std.specs.Prelude.{◌≡◌, ◌⊎◌, ℕ, zero, suc, ◌+◌, List, [], ◌∷◌, ◌++◌, Bool, true, false, if◌then◌else◌, Option}
use Rattle.atomic_table.specs.Seated.{TableId}
use Rattle.turn_board.specs.Histories.{Grows}

-- which board it is, and how many seats it has
pub record BoardView : Type 0 where
  pub board : TableId
  pub seats : ℕ

-- which board the seat is of, its number, the opening and the history that it has seen, how many events it made, and whether it has the value out
pub record SeatView (O E : Type 0) : Type 0 where
  pub board : TableId
  pub number : ℕ
  pub opening : Option O
  pub seen : List E
  pub made : ℕ
  pub has_value : Bool

module _ {O E : Type 0} where
  -- a seat that has seen nothing and made nothing
  abbrev pub fresh_seat : TableId → Option O → ℕ → SeatView O E
  fresh_seat board o k = record { board = board; number = k; opening = o; seen = []; made = 0; has_value = false }

  -- one of the seats has this number
  abbrev pub HasSeat : List (SeatView O E) → ℕ → Type 0
  HasSeat [] n = ⊥
  HasSeat (s ∷ ss) n = (s.number ≡ n) ⊎ HasSeat ss n

  -- n fresh seats, with the numbers from 1 on
  abbrev pub numbered : TableId → Option O → ℕ → List (SeatView O E)
  numbered board o zero = []
  numbered board o (suc n) = numbered board o n ++ fresh_seat board o (suc n) ∷ []

  -- the seats of a new board, in the order of their numbers
  abbrev pub fresh_seats : BoardView → Option O → List (SeatView O E)
  fresh_seats b opening = numbered b.board opening b.seats

  -- the seat with the value out, of which it has seen the history
  abbrev pub entered : SeatView O E → List E → SeatView O E
  entered s history = record { board = s.board; number = s.number; opening = s.opening; seen = history; made = s.made; has_value = true }

  -- the seat after it gave the value back
  abbrev pub left : SeatView O E → List E → Bool → SeatView O E
  left s history grew =
      record { board = s.board; number = s.number; opening = s.opening; seen = history; made = s.made + (if grew then 1 else 0); has_value = false }

  -- the history is the one that the seat has seen, with one event more at its end exactly where
  -- it grew, made by the seat
  abbrev pub GrewBy : (E → ℕ) → SeatView O E → Bool → List E → Type 0
  GrewBy maker s grew history = Grows (λ e. maker e ≡ s.number) grew s.seen history
