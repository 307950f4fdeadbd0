-- What the steps of a seat tell, with what is always true of it.
use Rattle.std.proofs.Common.{◌≡◌, ◌≢◌, ℕ, suc, ◌+◌, ◌-◌, ◌%◌, ◌^◌, ◌<◌, ◌≤◌, List, [], ◌∷◌, ◌++◌, length, Bool, true, false, refl, sym, ap, ◌∙◌, subst, arith}
use Rattle.std.specs.Prelude.{Option, Some, None, if◌then◌else◌}
use mathlib.Core.Option.{none}
use Rattle.atomic_table.specs.Table.{Me, step, rest}
use Rattle.turn_board.specs.declared.sight.Tally.{Tally}
use Rattle.turn_board.specs.declared.sight.Sight.{Sight}
use Rattle.turn_board.specs.declared.sight.Stage.TheVariants.{Idle, Waits, Has}
use Rattle.atomic_table.specs.Seated.{TableId}
use Rattle.turn_board.specs.Histories.{Account, made_by, Continues, Grows}
use Rattle.turn_board.specs.Sights.{seated, at_stage, ticket_of, tally_seen, first_tally, first_of, split_off, splitter}
use Rattle.turn_board.specs.Turn.{IsIdle, IsWaiting, looks, took, drew}
use Rattle.turn_board.specs.Seats.{fresh_seat, numbered}
use Rattle.turn_board.specs.Inside.{tally_at, SeatIs, IsOut, MayCount, counted_if, seat_view}
use Rattle.turn_board.proofs.Sums.{made_by_append, made_by_one}

module _ {A : Type 0} where
  pub slot_is : (c : List (ℕ × A)) (k : ℕ) (y : A) → c ≡ (k, y) ∷ [] → c ≡ (k, y) ∷ rest c
  slot_is c k y e = e ∙ ap (λ l. (k, y) ∷ l) (sym (ap rest e))

  pub same_slot : (c d : List (ℕ × A)) (k : ℕ) (y z : A) → (k, y) ∷ c ≡ (k, z) ∷ d → y ≡ z
  same_slot c d k y z e = ap (value y) e
    where
      value : A → List (ℕ × A) → A
      value w [] = w
      value w (p ∷ ps) = p.1

module _ {X O E : Type 0} (account : Account X O E) where
  abbrev M : Type 0
  M = Me (Option X) (Sight O E)

  -- a seat that has no value out
  abbrev at_home : ℕ → M → M
  at_home number m = (seated 1 m.0.next Idle (tally_at number m.0), [])

  pub is_at_home : (number : ℕ) (out : Bool) (m : M) → SeatIs account.maker number out m → out ≡ false → m ≡ at_home number m
  is_at_home number out m i e =
      let o : IsOut false m = subst (λ b. IsOut b m) e i.1 in
      λ k. ((i.0.alone ∙ ap (λ st. seated 1 m.0.next st (tally_at number m.0)) o.0) k, o.1 k)

  pub is_idle : (number : ℕ) (out : Bool) (m : M) → SeatIs account.maker number out m → out ≡ false → IsIdle m
  is_idle number out m i e = (m.0.next, tally_at number m.0, is_at_home number out m i e)

  abbrev waiting : ℕ → ℕ → M → M
  waiting number t m = (seated 1 m.0.next (Waits t) (tally_at number m.0), [])

  drawn : (number ticket : ℕ) (out : Bool) (m m' : M) → SeatIs account.maker number out m → out ≡ false → (d : drew ticket m m')
      → m' ≡ waiting number d.0 m
  drawn number ticket out m m' i e d = d.2 ∙ ap (λ (z : M). (at_stage (Waits d.0) z.0, z.1)) (is_at_home number out m i e)

  pub is_waiting : (number ticket : ℕ) (out : Bool) (m m' : M) → SeatIs account.maker number out m → out ≡ false → drew ticket m m' → IsWaiting ticket m'
  is_waiting number ticket out m m' i e d = (m.0.next, d.0, tally_at number m.0, drawn number ticket out m m' i e d, d.1)

  -- a seat whose turn it is, with a value in its slot
  abbrev pub having_slot : ℕ → ℕ → Tally O E → X → M
  having_slot nx t r x = (seated 1 nx (Has t) r, (0, Some x) ∷ [])

  pub looked_hit : (m m' : M) (ticket found : ℕ) → IsWaiting ticket m → looks account (step 1 1 0 0 none) m found m' → found ≡ ticket → took account m m'
  looked_hit m m' ticket found w told hit = told.1 (hit ∙ (w.4 ∙ sym (ap (λ (z : M). ticket_of z.0.stage % 18446744073709551616) w.3)))

  pub looked_miss : (m m' : M) (ticket found : ℕ) → IsWaiting ticket m → looks account (step 1 1 0 0 none) m found m' → found ≢ ticket → m' ≡ m
  looked_miss m m' ticket found w told miss = told.0 (λ e. miss (e ∙ (ap (λ (z : M). ticket_of z.0.stage % 18446744073709551616) w.3 ∙ sym w.4)))

  -- the count of own events stays right where others alone made events
  pub own_still : (number made : ℕ) (seen history : List E) → made ≡ made_by account.maker number seen → Continues account.maker number seen history
      → made ≡ made_by account.maker number history
  own_still number made seen history own c = let a = made_by_append account.maker number seen c.0 in let b = ap (made_by account.maker number) c.1 in
      let d = c.2 in omega arith

  -- a seat with the value out, which has seen this history
  abbrev pub outside : ℕ → ℕ → ℕ → Sight O E → List E → M
  outside number nx t v history = (seated 1 nx (Has t) (tally_seen (tally_at number v) history), (0, None) ∷ [])

  -- the seat drew a ticket, it came to its turn, and the value is taken out
  pub takes_out : (number ticket : ℕ) (out : Bool) (m m₁ m₂ m₃ : M) (y : Option X) → SeatIs account.maker number out m → out ≡ false → (d : drew ticket m m₁)
      → took account m₁ m₂ → m₂.1 ≡ (0, y) ∷ rest m₂.1 → m₃ ≡ (m₂.0, (0, None) ∷ rest m₂.1)
      → (x : X) × (y ≡ Some x) × ((first_tally m.0.tallies).opening ≡ Some (account.opening x))
      × Continues account.maker number (first_tally m.0.tallies).seen (account.history x) × (m₃ ≡ outside number m.0.next d.0 m.0 (account.history x))
  takes_out number ticket out m m₁ m₂ m₃ y i e d told found is =
      let k = subst (λ z. took account z m₂) (drawn number ticket out m m₁ i e d) told in
      (k.0, same_slot (rest m₂.1) [] 0 y (Some k.0) (sym found ∙ ap (λ (z : M). z.1) k.3), k.1, k.2, is ∙ ap (λ (z : M). (z.0, (0, None) ∷ rest z.1)) k.3)

  pub has_slot : (number ticket : ℕ) (out : Bool) (m m₁ m₂ : M) → SeatIs account.maker number out m → out ≡ false → drew ticket m m₁ → took account m₁ m₂
      → (y : Option X) × (m₂.1 ≡ (0, y) ∷ rest m₂.1)
  has_slot number ticket out m m₁ m₂ i e d told = let k = subst (λ z. took account z m₂) (drawn number ticket out m m₁ i e d) told in
      (Some k.0, slot_is m₂.1 0 (Some k.0) (ap (λ (z : M). z.1) k.3))

  pub is_outside : (number t : ℕ) (out : Bool) (m m₃ : M) (history : List E) → SeatIs account.maker number out m
      → Continues account.maker number (first_tally m.0.tallies).seen history → m₃ ≡ outside number m.0.next t m.0 history
      → SeatIs account.maker number true m₃
  is_outside number t out m m₃ history i c is = subst (SeatIs account.maker number true) (sym is) (
    record {
      some_number = i.0.some_number;
      alone = refl;
      own = own_still number (first_tally m.0.tallies).made (first_tally m.0.tallies).seen history i.0.own
          c;
    },
    (refl, refl),
  )

  abbrev pub tally_after : Bool → Tally O E → List E → Tally O E
  tally_after grew r history = record { number = r.number; opening = r.opening; seen = history; made = r.made + (if grew then 1 else 0) }

  -- a seat that put a value into its slot again
  puts_in : (number : ℕ) (out : Bool) (m m₁ : M) (x : X) → SeatIs account.maker number out m → out ≡ true → m₁ ≡ (m.0, (0, Some x) ∷ rest m.1)
      → m₁ ≡ having_slot m.0.next (ticket_of m.0.stage) (tally_at number m.0) x
  puts_in number out m m₁ x i e is =
      let o : IsOut true m = subst (λ b. IsOut b m) e i.1 in
      is ∙ (λ k. ((i.0.alone ∙ ap (λ st. seated 1 m.0.next st (tally_at number m.0)) o.0) k, (0, Some x) ∷ rest (o.1 k)))

  pub empty_slot : (number : ℕ) (out : Bool) (m : M) → SeatIs account.maker number out m → out ≡ true → m.1 ≡ (0, None) ∷ rest m.1
  empty_slot number out m i e = slot_is m.1 0 None (subst (λ b. IsOut b m) e i.1).1

  pub may_count : (number : ℕ) (grew out : Bool) (m m₁ : M) (x : X) → SeatIs account.maker number out m → out ≡ true → m₁ ≡ (m.0, (0, Some x) ∷ rest m.1)
      → Grows (λ e. account.maker e ≡ number) grew (first_tally m.0.tallies).seen (account.history x) → length (account.history x) < 2 ^ 64
      → MayCount account grew m₁
  may_count number grew out m m₁ x i e is grows small =
      (m.0.next, ticket_of m.0.stage, tally_at number m.0, x, puts_in number out m m₁ x i e is, grows, small)

  counted : (nx t : ℕ) (grew : Bool) (r : Tally O E) (m₁ m₂ : M) (x : X) → m₁ ≡ having_slot nx t r x
      → Grows (λ e. account.maker e ≡ r.number) grew r.seen (account.history x) → m₂ ≡ counted_if account.history grew m₁
      → m₂ ≡ having_slot nx t (tally_after grew r (account.history x)) x
  counted nx t true r m₁ m₂ x is grows after = after ∙ ap (counted_if account.history true) is
  counted nx t false r m₁ m₂ x is grows after = after
      ∙ (is ∙ (λ k. having_slot nx t record { number = r.number; opening = r.opening; seen = sym grows k; made = plus_zero r.made k } x))
    where
      plus_zero : (k : ℕ) → k ≡ k + 0
      plus_zero k = omega arith

  -- the value is put back, and an event is counted where there is one more
  pub puts_back : (number : ℕ) (grew out : Bool) (m m₁ m₂ : M) (x : X) → SeatIs account.maker number out m → out ≡ true
      → m₁ ≡ (m.0, (0, Some x) ∷ rest m.1) → Grows (λ e. account.maker e ≡ number) grew (first_tally m.0.tallies).seen (account.history x)
      → m₂ ≡ counted_if account.history grew m₁
      → m₂ ≡ having_slot m.0.next (ticket_of m.0.stage) (tally_after grew (tally_at number m.0) (account.history x)) x
  puts_back number grew out m m₁ m₂ x i e is grows after =
      counted m.0.next (ticket_of m.0.stage) grew (tally_at number m.0) m₁ m₂ x (puts_in number out m m₁ x i e is) grows after

  pub own_grown : (number made : ℕ) (grew : Bool) (seen history : List E) → made ≡ made_by account.maker number seen
      → Grows (λ e. account.maker e ≡ number) grew seen history → made + (if grew then 1 else 0) ≡ made_by account.maker number history
  own_grown number made true seen history own g = let a = ap (made_by account.maker number) g.1 in let b = made_by_one account.maker number seen g.0 g.2 in
      omega arith
  own_grown number made false seen history own g = let a = ap (made_by account.maker number) g in omega arith

  -- a seat that gave the value back
  abbrev pub back : ℕ → ℕ → Bool → Sight O E → List E → M
  back number nx grew v history = (seated 1 nx Idle (tally_after grew (tally_at number v) history), [])

  pub gives_back : (number : ℕ) (grew out : Bool) (m m₁ m₂ m₃ : M) (x : X) → SeatIs account.maker number out m → out ≡ true
      → m₁ ≡ (m.0, (0, Some x) ∷ rest m.1) → Grows (λ e. account.maker e ≡ number) grew (first_tally m.0.tallies).seen (account.history x)
      → m₂ ≡ counted_if account.history grew m₁ → m₃ ≡ (at_stage Idle m₂.0, rest m₂.1) → m₃ ≡ back number m.0.next grew m.0 (account.history x)
  gives_back number grew out m m₁ m₂ m₃ x i e is grows after passed =
      passed ∙ ap (λ (z : M). (at_stage Idle z.0, rest z.1)) (puts_back number grew out m m₁ m₂ x i e is grows after)

  pub is_back : (number : ℕ) (grew out : Bool) (m m₃ : M) (history : List E) → SeatIs account.maker number out m
      → Grows (λ e. account.maker e ≡ number) grew (first_tally m.0.tallies).seen history → m₃ ≡ back number m.0.next grew m.0 history
      → SeatIs account.maker number false m₃
  is_back number grew out m m₃ history i g is = subst (SeatIs account.maker number false) (sym is) (
    record {
      some_number = i.0.some_number;
      alone = refl;
      own = own_grown number (first_tally m.0.tallies).made grew (first_tally m.0.tallies).seen history
          i.0.own g;
    },
    (refl, refl),
  )

  -- a new seat with this number
  abbrev pub fresh_me : ℕ → Option O → ℕ → M
  fresh_me nx o number = (seated 1 nx Idle record { number = number; opening = o; seen = []; made = 0 }, [])

  pub is_fresh : (nx number : ℕ) (o : Option O) (m : M) → m ≡ fresh_me nx o number → 0 < number → SeatIs account.maker number false m
  is_fresh nx number o m e some_number = subst (SeatIs account.maker number false) (sym e)
      (record { some_number = some_number; alone = refl; own = refl }, (refl, refl))

  pub fresh_view : (nx number : ℕ) (o : Option O) (m : M) (board z : TableId) → m ≡ fresh_me nx o number → z ≡ board
      → seat_view z number false m.0 ≡ fresh_seat board o number
  fresh_view nx number o m board z e same = λ k. seat_view (same k) number false (e k).0

  pub split_is : (p nx : ℕ) (o : Option O) (m m' : M) → m ≡ (seated p nx Idle (first_of o), []) → m' ≡ (split_off m.0, []) → m' ≡ fresh_me 0 o nx
  split_is p nx o m m' e is = is ∙ ap (λ (z : M). (split_off z.0, [])) e

  -- the first seat, once it has no part to give away
  pub one_left : (seats number nx : ℕ) (o : Option O) (m : M) → m ≡ (seated ((seats - number) + 1) nx Idle (first_of o), []) → seats ≤ number
      → m ≡ fresh_me nx o 1
  one_left seats number nx o m e last = e ∙ ap (λ k. (seated k nx Idle (first_of o), [])) one
    where
      one : (seats - number) + 1 ≡ 1
      one = omega arith

  pub splitter_is : (p p' nx nx' : ℕ) (o : Option O) (m m' : M) → m ≡ (seated p nx Idle (first_of o), []) → m' ≡ (splitter m.0, m.1) → p ≡ p' + 1
      → nx' ≡ nx + 1 → m' ≡ (seated p' nx' Idle (first_of o), [])
  splitter_is p p' nx nx' o m m' e is parts next = is ∙ (ap (λ (z : M). (splitter z.0, z.1)) e ∙ (λ k. (seated (less k) (sym next k) Idle (first_of o), [])))
    where
      less : p - 1 ≡ p'
      less = omega arith

module _ {O E : Type 0} where
  pub fresh_more : (b : TableId) (o : Option O) (k : ℕ) → numbered {E = E} b o (k + 1) ≡ numbered b o k ++ fresh_seat b o (k + 1) ∷ []
  fresh_more b o k = ap (numbered b o) one_more ∙ ap (λ j. numbered b o k ++ fresh_seat b o j ∷ []) (sym one_more)
    where
      one_more : k + 1 ≡ suc k
      one_more = omega arith
