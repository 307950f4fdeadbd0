-- The rule of a turn board: three words, one slot, and what each seat knows.
-- Word 0 counts the tickets drawn, word 1 the turns passed on, both modulo 2 ^ 64, and word 2 the events. The value lies in slot 0.
use Rattle.std.specs.Prelude.{◌≡◌, ◌≢◌, ◌⊎◌, ℕ, ◌+◌, ◌%◌, ◌^◌, ◌<◌, ◌≤◌, List, [], ◌∷◌, length, Option, Some, None}
use mathlib.Core.Option.{some, none}
use mathlib.Core.Option as maybe
use lib.ListN.{get_elem?}
use Rattle.atomic_table.specs.Table.{State, Me, Step, rest}
use Rattle.turn_board.specs.declared.sight.Tally.{Tally}
use Rattle.turn_board.specs.declared.sight.Sight.{Sight}
use Rattle.turn_board.specs.declared.sight.Stage.{Stage}
use Rattle.turn_board.specs.declared.sight.Stage.TheVariants.{Idle, Waits, Has}
use Rattle.turn_board.specs.Histories.{Account, Continues, made_by, total}
use Rattle.turn_board.specs.Sights.{at_stage, seated, grown, Each, Owns, holding, share, events, Apart, blank, first_of, first_tally, having, ticket_of}

-- a seat, with the values in the slots that it has
abbrev pub Seated : Type 0 → Type 0 → Type 0 → Type 0
Seated X O E = Me (Option X) (Sight O E)

-- what a step tells its seat: the step, the seat before it, the number that was read, and the seat after it
abbrev pub Tells : Type 0 → Type 0 → Type 0 → Type 1
Tells X O E = Step (Option X) → Seated X O E → ℕ → Seated X O E → Type 0

module _ {X O E : Type 0} where
  -- the seat has a ticket, which is this number
  abbrev pub drew : ℕ → Seated X O E → Seated X O E → Type 0
  drew ticket m m' = (t : ℕ) × (ticket ≡ t % 2 ^ 64) × (m' ≡ (at_stage (Waits t) m.0, m.1))

  -- draw: where the word was exchanged, the seat has the ticket that was found there
  abbrev pub draws : Tells X O E
  draws st m r m' = (r ≢ st.first → m' ≡ m) × (r ≡ st.first → drew r m m')

  -- pass on: the seat has no ticket, and its slot is at home
  abbrev pub passes : Tells X O E
  passes st m r m' = m' ≡ (at_stage Idle m.0, rest m.1)

  -- a seat that stands for itself has no ticket
  abbrev pub IsIdle : Seated X O E → Type 0
  IsIdle m = (nx : ℕ) × (r : Tally O E) × (m ≡ (seated 1 nx Idle r, []))

  -- a seat that stands for itself waits with a ticket, which is this number
  abbrev pub IsWaiting : ℕ → Seated X O E → Type 0
  IsWaiting ticket m =
      (nx : ℕ) × (t : ℕ) × (r : Tally O E)
      × (m ≡ (seated 1 nx (Waits t) r, [])) × (ticket ≡ t % 2 ^ 64)

module _ {O E : Type 0} where
  -- one of the seats has a tally of this number
  abbrev pub IsOwned : List (Sight O E) → ℕ → Type 0
  IsOwned views k = (j : ℕ) × (v : Sight O E) × (get_elem? views j ≡ some v) × Owns k v.tallies

module _ {X E : Type 0} (history : X → List E) where
  -- the history of the value that a seat has in its slot
  abbrev pub slot_history : List (ℕ × Option X) → List E
  slot_history [] = []
  slot_history ((k, Some x) ∷ c) = history x
  slot_history ((k, None) ∷ c) = []

  -- count: one event more is made and seen, the last of the history of the value in the slot
  abbrev pub counts : {O : Type 0} → Tells X O E
  counts st m r m' = m' ≡ (grown m.0 (slot_history m.1), m.1)

module _ {X O E : Type 0} (account : Account X O E) where
  module _ (start : O) (log : List E) (drawn served : ℕ) (homes : List (maybe.Option (Option X))) where
    abbrev pub OnStage : List (Tally O E) → Stage → Type 0
    OnStage tallies Idle = Unit {0}
    OnStage tallies (Waits t) = (served ≤ t) × (t < drawn)
    OnStage tallies (Has t) = (t ≡ served) × (t < drawn) × (homes ≡ none ∷ []) × Each (λ r. r.seen ≡ log) tallies

    -- what the rule says of each seat by itself
    pub record Fits (v : Sight O E) : Type 0 where
      pub named : 0 < v.parts → 0 < length v.tallies
      pub opened : Each (λ r. r.opening ≡ Some start) v.tallies
      pub staged : OnStage v.tallies v.stage
      pub continues : Each (λ r. Continues account.maker r.number r.seen log) v.tallies
      pub below : (k : ℕ) → Owns k v.tallies → 0 < v.next → k < v.next
      pub fresh : (k : ℕ) → 0 < v.next → v.next ≤ k → made_by account.maker k log ≡ 0
      pub nobody : v.parts ≡ 0 → (v.stage ≡ Idle) × (v.tallies ≡ [])

    -- the value is at home, or with the seat whose turn it is
    abbrev pub Housed : List (Sight O E) → Type 0
    Housed views =
        ((x : X) × (homes ≡ some (Some x) ∷ []) × (account.opening x ≡ start) × (account.history x ≡ log))
        ⊎ ((j : ℕ) × (v : Sight O E) × (get_elem? views j ≡ some v) × (v.stage ≡ Has served))

  -- the board has its value
  pub record Turning (n : ℕ) (s : State (Option X) (Sight O E)) : Type 0 where
    pub start : O
    pub log : List E
    pub drawn : ℕ
    pub served : ℕ
    pub words : s.words ≡ (drawn % 2 ^ 64) ∷ (served % 2 ^ 64) ∷ length log ∷ []
    pub one_slot : length s.homes ≡ 1
    pub few : n ≤ 64
    pub tickets : drawn ≡ served + total holding s.views
    pub whole : total share s.views ≡ n
    pub counted : total events s.views ≡ length log
    pub makers : (k : ℕ) → 0 < made_by account.maker k log → IsOwned s.views k
    pub housed : Housed start log drawn served s.homes s.views
    pub each : (j : ℕ) (v : Sight O E) → get_elem? s.views j ≡ some v → Fits start log drawn served s.homes v
    pub apart : (i j : ℕ) (v w : Sight O E) → get_elem? s.views i ≡ some v → get_elem? s.views j ≡ some w → i ≢ j → Apart v w

  -- the board is new, and its slot is empty
  pub record Blank (n : ℕ) (s : State (Option X) (Sight O E)) : Type 0 where
    pub few : n ≤ 64
    pub words : s.words ≡ 0 ∷ 0 ∷ 0 ∷ []
    pub homes : s.homes ≡ some None ∷ []
    pub views : s.views ≡ blank n ∷ []

  abbrev pub TurnRule : ℕ → State (Option X) (Sight O E) → Type 0
  TurnRule n s = Blank n s ⊎ Turning n s

  -- open: the first seat takes the empty slot, and from then on has an opening
  abbrev pub opens : Tells X O E
  opens st m r m' = (x : X) → st.said ≡ some (Some x) → m' ≡ (seated m.0.parts 2 (Has 0) (first_of (Some (account.opening x))), (0, None) ∷ [])

  -- the seat has the slot, and has seen the history of the value there
  abbrev pub took : Seated X O E → Seated X O E → Type 0
  took m m' =
      (x : X) × ((first_tally m.0.tallies).opening ≡ Some (account.opening x))
      × Continues account.maker (first_tally m.0.tallies).number (first_tally m.0.tallies).seen (account.history x)
      × (m' ≡ (having m.0 (account.history x), (0, Some x) ∷ m.1))

  -- look: at its turn the seat takes the slot
  abbrev pub looks : Tells X O E
  looks st m r m' = (r ≢ ticket_of m.0.stage % 2 ^ 64 → m' ≡ m) × (r ≡ ticket_of m.0.stage % 2 ^ 64 → took m m')
