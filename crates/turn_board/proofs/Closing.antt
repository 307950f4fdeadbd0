-- One seat takes in all the others, and the board ends.
use Rattle.std.proofs.Common.{◌≡◌, ℕ, ◌+◌, ◌<◌, inl, inr, List, [], ◌∷◌, ◌++◌, map, length, Bool, false, refl, sym, ap, ◌∙◌, subst, arith, append_assoc}
use Rattle.std.specs.Prelude.{Option, Some}
use Rattle.std.specs.List.{All, sum_by}
use Rattle.std.proofs.lemmas.List.Sums.{sum_by-cons}
use Rattle.std.proofs.lemmas.List.Elements.{All-nil, All-cons}
use mathlib.Core.Option.{some, some-injective}
use lib.ListN.{get_elem?}
use Rattle.atomic_table.specs.Table.{State, Me, Joins, Final, Seen}
use Rattle.turn_board.specs.declared.sight.Tally.{Tally}
use Rattle.turn_board.specs.declared.sight.Sight.{Sight}
use Rattle.turn_board.specs.declared.sight.Stage.TheVariants.{Idle}
use Rattle.turn_board.specs.Histories.{total, Account, Continues, made_by}
use Rattle.turn_board.specs.Sights.{Each, Owns, joined, spent}
use Rattle.turn_board.specs.Turn.{TurnRule}
use Rattle.turn_board.specs.Seats.{HasSeat, SeatView}
use Rattle.turn_board.specs.Inside.{tally_of, Keeps, SeatIs, IsOut}
use Rattle.turn_board.proofs.Ends.{ends}
use Rattle.turn_board.proofs.Joining.{joins_at}

module _ {O E : Type 0} where
  pub each_all : (P : Tally O E → Type 0) (xs : List (SeatView O E)) → Each P (map tally_of xs) → All (λ s. P (tally_of s)) xs
  each_all P [] e = All-nil (λ s. P (tally_of s))
  each_all P (x ∷ xs) e = All-cons (λ s. P (tally_of s)) x xs e.0 (each_all P xs e.1)

  pub made_sum : (xs : List (SeatView O E)) → total (λ (r : Tally O E). r.made) (map tally_of xs) ≡ sum_by (λ (s : SeatView O E). s.made) xs
  made_sum [] = refl
  made_sum (x ∷ xs) = ap (λ k. x.made + k) (made_sum xs) ∙ sym (sum_by-cons (λ (s : SeatView O E). s.made) x xs)

  pub has_seat : (xs : List (SeatView O E)) (k : ℕ) → Owns k (map tally_of xs) → HasSeat xs k
  has_seat [] k o = o
  has_seat (x ∷ xs) k (inl e) = inl e
  has_seat (x ∷ xs) k (inr o) = inr (has_seat xs k o)

  pub keeps_more : {X : Type 0} (all before after : List (SeatView O E)) (m m' : Me (Option X) (Sight O E)) (x : SeatView O E) (u : Sight O E)
      → Keeps all before m → before ≡ after ++ x ∷ [] → u.parts ≡ 1 → u.tallies ≡ tally_of x ∷ [] → m' ≡ (joined m.0 u, m.1) → Keeps all after m'
  keeps_more {X} all before after m m' x u k cut one tally is = subst (Keeps all after) (sym is) (
    x,
    k.0 ∷ k.1,
    k.2 ∙ (ap (λ l. l ++ k.0 ∷ k.1) cut ∙ append_assoc after (x ∷ []) (k.0 ∷ k.1)),
    (let p = k.3 in omega arith),
    k.4,
    (λ i. tally i ++ k.5 i),
    k.6,
  )

module _ {X O E : Type 0} (account : Account X O E) (n : ℕ) where
  abbrev M : Type 0
  M = Me (Option X) (Sight O E)

  abbrev Rule : State (Option X) (Sight O E) → Type 0
  Rule = TurnRule account n

  pub idle_of : (number : ℕ) (out : Bool) (m : M) → SeatIs account.maker number out m → out ≡ false → (m.0.stage ≡ Idle) × (m.1 ≡ [])
  idle_of number out m i e = subst (λ b. IsOut b m) e i.1

  pub joins_from : (id other number : ℕ) (out : Bool) (m u : M) (all before : List (SeatView O E)) → Keeps all before m → SeatIs account.maker number out u
      → out ≡ false → Joins Rule id m.0 other u.0 (joined m.0 u.0) spent
  joins_from id other number out m u all before k i e =
      let p = k.3 in
      joins_at account n id m.0 other u.0 (tally_of k.0) (map tally_of k.1) (omega arith) k.4 (idle_of number out u i e).0 k.5

  -- the last state, where one seat stands for all
  pub closes : (ws : List ℕ) (xs : List (Option X)) (id : ℕ) (m : M) (all : List (SeatView O E)) (y : Option X) → length all ≡ n → Keeps all [] m
      → Final (Seen Rule id m.0) ws xs → get_elem? xs 0 ≡ some y
      → (x : X) × (y ≡ Some x) × All (λ s. s.opening ≡ Some (account.opening x)) all
      × All (λ s. Continues account.maker s.number s.seen (account.history x)) all × (length (account.history x) ≡ sum_by (λ s. s.made) all)
      × ((k : ℕ) → 0 < made_by account.maker k (account.history x) → HasSeat all k)
  closes ws xs id m all y many k final at =
      let p = k.3 in
      let same : all ≡ k.0 ∷ k.1 = k.2 in
      let count : length all ≡ length (k.0 ∷ k.1) = ap length same in
      let z = ends account n ws xs id m.0 (tally_of k.0) (map tally_of k.1) (omega arith) (omega arith) k.4 k.5 final in
      let x = z.0 in (
        x,
        some-injective _ _ (sym at ∙ z.1),
        subst (All (λ s. s.opening ≡ Some (account.opening x))) (sym same)
            (each_all (λ r. r.opening ≡ Some (account.opening x)) (k.0 ∷ k.1) (subst (Each (λ r. r.opening ≡ Some (account.opening x))) k.5 z.2)),
        subst (All (λ s. Continues account.maker s.number s.seen (account.history x))) (sym same)
            (each_all (λ r. Continues account.maker r.number r.seen (account.history x)) (k.0 ∷ k.1)
            (subst (Each (λ r. Continues account.maker r.number r.seen (account.history x))) k.5 z.3)),
        z.4 ∙ (ap (total (λ (r : Tally O E). r.made)) k.5 ∙ (made_sum (k.0 ∷ k.1) ∙ ap (sum_by (λ (s : SeatView O E). s.made)) (sym same))),
        (λ number some. subst (λ l. HasSeat l number) (sym same) (has_seat (k.0 ∷ k.1) number (subst (Owns number) k.5 (z.5 number some)))),
      )
