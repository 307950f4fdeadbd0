-- What a step of one seat leaves true of the others.
use Rattle.std.proofs.Common.{◌≡◌, ◌≢◌, ◌⊎◌, ℕ, ◌+◌, ◌<◌, ◌≤◌, List, [], ◌∷◌, ◌++◌, length, set, refl, sym, ap, ◌∙◌, subst, inl, inr, ⊎_elim, arith}
use Rattle.std.specs.Prelude.{Option}
use mathlib.Core.Logic.{dite}
use mathlib.Core.Option.{some, some-injective}
use mathlib.Core.Option as maybe
use mathlib.Core.List.{append_assoc}
use native.Mathlib.Decide.{ℕ_discrete}
use lib.ListN.{get_elem?}
use Rattle.atomic_table.proofs.Lists.{at_set, set_else, at_longer}
use Rattle.turn_board.specs.declared.sight.Tally.{Tally}
use Rattle.turn_board.specs.declared.sight.Sight.{Sight}
use Rattle.turn_board.specs.declared.sight.Stage.{Stage}
use Rattle.turn_board.specs.declared.sight.Stage.TheVariants.{Idle, Waits, Has}
use Rattle.turn_board.specs.Histories.{Account, Continues, made_by}
use Rattle.turn_board.specs.Sights.{HasTicket, Owns, Apart, Each}
use Rattle.turn_board.specs.Turn.{OnStage, Fits, Housed, IsOwned}
use Rattle.turn_board.proofs.Sums.{at_end, made_by_more, set_at}

pub has_its_ticket : (st : Stage) (t : ℕ) → st ≡ Has t → HasTicket t st
has_its_ticket st t e = subst (HasTicket t) (sym e) refl

module _ {O E : Type 0} where
  pub owns_append : (k : ℕ) (xs ys : List (Tally O E)) → Owns k (xs ++ ys) → Owns k xs ⊎ Owns k ys
  owns_append k [] ys o = inr o
  owns_append k (x ∷ xs) ys (inl e) = inl (inl e)
  owns_append k (x ∷ xs) ys (inr o) = ⊎_elim (λ a. inl (inr a)) inr (owns_append k xs ys o)

module _ {O E : Type 0} where
  pub owns_left : (k : ℕ) (xs ys : List (Tally O E)) → Owns k xs → Owns k (xs ++ ys)
  owns_left k [] ys o = absurd o
  owns_left k (x ∷ xs) ys (inl e) = inl e
  owns_left k (x ∷ xs) ys (inr o) = inr (owns_left k xs ys o)

  pub owns_right : (k : ℕ) (xs ys : List (Tally O E)) → Owns k ys → Owns k (xs ++ ys)
  owns_right k [] ys o = o
  owns_right k (x ∷ xs) ys o = inr (owns_right k xs ys o)

  -- whose number it is, where one seat changes and keeps its numbers
  pub owned_set : (views : List (Sight O E)) (me k : ℕ) (v w : Sight O E) → get_elem? views me ≡ some v → (Owns k v.tallies → Owns k w.tallies)
      → IsOwned views k → IsOwned (set views me w) k
  owned_set views me k v w at stays (j, u, there, own) = dite (ℕ_discrete j me)
      (λ e. (me, w, set_at views me v w at, stays (subst (λ (y : Sight O E). Owns k y.tallies) (some-injective u v (sym there ∙ (ap (get_elem? views) e ∙ at))) own)))
      (λ ne. (j, u, set_else views me j w ne ∙ there, own))

  pub owned_snoc : (views : List (Sight O E)) (w : Sight O E) (k : ℕ) → IsOwned views k → IsOwned (views ++ w ∷ []) k
  owned_snoc views w k (j, u, there, own) = (j, u, at_longer views (w ∷ []) j u there, own)

  -- one seat takes in the numbers of another, which has none then
  pub owned_joined : (views : List (Sight O E)) (me other k : ℕ) (v u w gone : Sight O E) → (other ≡ me → ⊥) → get_elem? views me ≡ some v
      → get_elem? views other ≡ some u → w.tallies ≡ u.tallies ++ v.tallies → IsOwned views k → IsOwned (set (set views me w) other gone) k
  owned_joined views me other k v u w gone apart at there tallies (j, y, here, own) = dite (ℕ_discrete j other)
      (λ e. mine (owns_left k u.tallies v.tallies (subst (λ (z : Sight O E). Owns k z.tallies) (some-injective y u (sym here ∙ (ap (get_elem? views) e ∙ there))) own)))
      (λ ne. dite (ℕ_discrete j me)
      (λ e. mine (owns_right k u.tallies v.tallies (subst (λ (z : Sight O E). Owns k z.tallies) (some-injective y v (sym here ∙ (ap (get_elem? views) e ∙ at))) own)))
      (λ far. (j, y, set_else (set views me w) other j gone ne ∙ (set_else views me j w far ∙ here), own)))
    where
      mine : Owns k (u.tallies ++ v.tallies) → IsOwned (set (set views me w) other gone) k
      mine o = (me, w, set_else (set views me w) other me gone (λ e. apart (sym e)) ∙ set_at views me v w at, subst (Owns k) (sym tallies) o)

module _ {O E : Type 0} where
  pub each_set : (F : (Sight O E) → Type 0) (views : List (Sight O E)) (me : ℕ) (w : (Sight O E)) → F w
      → ((j : ℕ) (u : (Sight O E)) → j ≢ me → get_elem? views j ≡ some u → F u) → (j : ℕ) (u : (Sight O E)) → get_elem? (set views me w) j ≡ some u → F u
  each_set F views me w mine others j u e = ⊎_elim (λ (t : (j ≡ me) × (w ≡ u)). subst F t.1 mine)
      (λ (t : (j ≢ me) × (get_elem? views j ≡ some u)). others j u t.0 t.1) (at_set views me j w u e)

  -- seats stay apart where one of them changes, among those that K speaks of
  pub apart_set_on : (K : ℕ → Type 0) (views : List (Sight O E)) (me : ℕ) (w : (Sight O E))
      → ((j : ℕ) (u : (Sight O E)) → K j → j ≢ me → get_elem? views j ≡ some u → Apart w u × Apart u w)
      → ((i j : ℕ) (v u : (Sight O E)) → K i → K j → i ≢ me → j ≢ me → get_elem? views i ≡ some v → get_elem? views j ≡ some u → i ≢ j → Apart v u)
      → (i j : ℕ) (v u : (Sight O E)) → K i → K j → get_elem? (set views me w) i ≡ some v → get_elem? (set views me w) j ≡ some u → i ≢ j → Apart v u
  apart_set_on K views me w mine others i j v u ki kj e e' n =
      ⊎_elim
      (λ (t : (i ≡ me) × (w ≡ v)). ⊎_elim
      (λ (t' : (j ≡ me) × (w ≡ u)). absurd (n (t.0 ∙ sym t'.0)))
      (λ (t' : (j ≢ me) × (get_elem? views j ≡ some u)). subst (λ x. Apart x u) t.1 (mine j u kj t'.0 t'.1).0)
      (at_set views me j w u e'))
      (λ (t : (i ≢ me) × (get_elem? views i ≡ some v)). ⊎_elim
      (λ (t' : (j ≡ me) × (w ≡ u)). subst (λ x. Apart v x) t'.1 (mine i v ki t.0 t.1).1)
      (λ (t' : (j ≢ me) × (get_elem? views j ≡ some u)). others i j v u ki kj t.0 t'.0 t.1 t'.1 n)
      (at_set views me j w u e'))
      (at_set views me i w v e)

  pub apart_set : (views : List (Sight O E)) (me : ℕ) (w : (Sight O E))
      → ((j : ℕ) (u : (Sight O E)) → j ≢ me → get_elem? views j ≡ some u → Apart w u × Apart u w)
      → ((i j : ℕ) (v u : (Sight O E)) → get_elem? views i ≡ some v → get_elem? views j ≡ some u → i ≢ j → Apart v u)
      → (i j : ℕ) (v u : (Sight O E)) → get_elem? (set views me w) i ≡ some v → get_elem? (set views me w) j ≡ some u → i ≢ j → Apart v u
  apart_set views me w mine others i j v u e e' n = apart_set_on (λ _. Unit {0}) views me w (λ k x _. mine k x) (λ k l x y _ _ _ _. others k l x y) i j v u tt
      tt e e' n

  pub each_snoc : (F : (Sight O E) → Type 0) (views : List (Sight O E)) (w : (Sight O E)) → F w
      → ((j : ℕ) (u : (Sight O E)) → get_elem? views j ≡ some u → F u) → (j : ℕ) (u : (Sight O E)) → get_elem? (views ++ w ∷ []) j ≡ some u → F u
  each_snoc F views w mine others j u e = ⊎_elim (λ t. others j u t) (λ (t : (j ≡ length views) × (w ≡ u)). subst F t.1 mine) (at_end views w u j e)

  pub apart_snoc : (views : List (Sight O E)) (w : (Sight O E)) → ((j : ℕ) (u : (Sight O E)) → get_elem? views j ≡ some u → Apart w u × Apart u w)
      → ((i j : ℕ) (v u : (Sight O E)) → get_elem? views i ≡ some v → get_elem? views j ≡ some u → i ≢ j → Apart v u)
      → (i j : ℕ) (v u : (Sight O E)) → get_elem? (views ++ w ∷ []) i ≡ some v → get_elem? (views ++ w ∷ []) j ≡ some u → i ≢ j → Apart v u
  apart_snoc views w mine others i j v u e e' n =
      ⊎_elim
      (λ (t : get_elem? views i ≡ some v). ⊎_elim
      (λ (t' : get_elem? views j ≡ some u). others i j v u t t' n)
      (λ (t' : (j ≡ length views) × (w ≡ u)). subst (λ x. Apart v x) t'.1 (mine i v t).1)
      (at_end views w u j e'))
      (λ (t : (i ≡ length views) × (w ≡ v)). ⊎_elim
      (λ (t' : get_elem? views j ≡ some u). subst (λ x. Apart x u) t.1 (mine j u t').0)
      (λ (t' : (j ≡ length views) × (w ≡ u)). absurd (n (t.0 ∙ sym t'.0)))
      (at_end views w u j e'))
      (at_end views w v i e)

  -- a seat that changes neither its numbers nor its next one, and holds away further ticket
  pub apart_kept : (v w u : (Sight O E)) → w.tallies ≡ v.tallies → w.next ≡ v.next → ((t : ℕ) → HasTicket t w.stage → HasTicket t v.stage)
      → Apart v u × Apart u v → Apart w u × Apart u w
  apart_kept v w u tallies next less a = (
    record {
      tickets = λ t x y. a.0.tickets t (less t x) y;
      numbers = λ k x y. a.0.numbers k (subst (Owns k) tallies x) y;
      above = λ k x l. subst (λ z. k < z) (sym next) (a.0.above k x (subst (λ z. 0 < z) next l));
      one_next = λ l. a.0.one_next (subst (λ z. 0 < z) next l);
    },
    record {
      tickets = λ t x y. a.1.tickets t x (less t y);
      numbers = λ k x y. a.1.numbers k x (subst (Owns k) tallies y);
      above = λ k x l. a.1.above k (subst (Owns k) tallies x) l;
      one_next = λ l. next ∙ a.1.one_next l;
    },
  )

module _ {X O E : Type 0} (account : Account X O E) where
  abbrev Homes : Type 0
  Homes = List (maybe.Option (Option X))

  module _ (start : O) where
    abbrev On : List E → ℕ → ℕ → Homes → List (Tally O E) → Stage → Type 0
    On log d n hs = OnStage account start log d n hs

    abbrev Fit : List E → ℕ → ℕ → Homes → Sight O E → Type 0
    Fit log d n hs = Fits account start log d n hs

    -- a seat without the ticket whose turn it is
    quiet_stage : (log log' : List E) (d d' n n' : ℕ) (hs hs' : Homes) (tallies : List (Tally O E)) (st : Stage) → d ≤ d' → n' ≤ n + 1 → (HasTicket n st → ⊥)
        → On log d n hs tallies st → On log' d' n' hs' tallies st
    quiet_stage log log' d d' n n' hs hs' tallies Idle more next away k = tt
    quiet_stage log log' d d' n n' hs hs' tallies (Waits t) more next away k = let a = k.0 in let b = k.1 in
        (dite (ℕ_discrete t n) (λ e. absurd (away e)) (λ ne. omega arith), omega arith)
    quiet_stage log log' d d' n n' hs hs' tallies (Has t) more next away k = absurd (away k.0)

    drawn_stage : (log : List E) (d d' n : ℕ) (hs : Homes) (tallies : List (Tally O E)) (st : Stage) → d ≤ d' → On log d n hs tallies st
        → On log d' n hs tallies st
    drawn_stage log d d' n hs tallies Idle more k = tt
    drawn_stage log d d' n hs tallies (Waits t) more k = let b = k.1 in (k.0, omega arith)
    drawn_stage log d d' n hs tallies (Has t) more k = let b = k.1 in (k.0, omega arith, k.2, k.3)

    pub ticket_drawn : (log : List E) (d n : ℕ) (hs : Homes) (tallies : List (Tally O E)) (st : Stage) (t : ℕ) → On log d n hs tallies st → HasTicket t st
        → t < d
    ticket_drawn log d n hs tallies Idle t k h = absurd h
    ticket_drawn log d n hs tallies (Waits u) t k h = let b = k.1 in omega arith
    ticket_drawn log d n hs tallies (Has u) t k h = let b = k.1 in omega arith

    -- another seat draws a ticket
    pub fits_drawn : (log : List E) (d d' n : ℕ) (hs : Homes) (u : Sight O E) → d ≤ d' → Fit log d n hs u → Fit log d' n hs u
    fits_drawn log d d' n hs u more f = record {
      named = f.named;
      opened = f.opened;
      staged = drawn_stage log d d' n hs u.tallies u.stage more f.staged;
      continues = f.continues;
      below = f.below;
      fresh = f.fresh;
      nobody = f.nobody;
    }

    -- the seat whose turn it is moves the value, or passes on
    pub fits_quiet : (log : List E) (d n n' : ℕ) (hs hs' : Homes) (u : Sight O E) → n' ≤ n + 1 → (HasTicket n u.stage → ⊥) → Fit log d n hs u
        → Fit log d n' hs' u
    fits_quiet log d n n' hs hs' u next away f = record {
      named = f.named;
      opened = f.opened;
      staged = quiet_stage log log d d n n' hs hs' u.tallies u.stage (omega arith) next away f.staged;
      continues = f.continues;
      below = f.below;
      fresh = f.fresh;
      nobody = f.nobody;
    }

    continues_more : (tallies : List (Tally O E)) (log : List E) (e : E) → (Owns (account.maker e) tallies → ⊥)
        → Each (λ r. Continues account.maker r.number r.seen log) tallies → Each (λ r. Continues account.maker r.number r.seen (log ++ e ∷ [])) tallies
    continues_more [] log e away k = tt
    continues_more (r ∷ rs) log e away k = let c = k.0 in (
      (
        c.0 ++ e ∷ [],
        ap (λ l. l ++ e ∷ []) c.1 ∙ append_assoc r.seen c.0 (e ∷ []),
        made_by_more account.maker r.number c.0 e (λ is. away (inl (sym is)))
            ∙ c.2,
      ),
      continues_more rs log e (λ o. away (inr o)) k.1,
    )

    -- the seat whose turn it is makes an event
    pub fits_grown : (log log' : List E) (e : E) (d n : ℕ) (hs : Homes) (u : Sight O E) → log' ≡ log ++ e ∷ [] → (HasTicket n u.stage → ⊥)
        → (Owns (account.maker e) u.tallies → ⊥) → (0 < u.next → account.maker e < u.next) → Fit log d n hs u → Fit log' d n hs u
    fits_grown log log' e d n hs u is away apart under f = record {
      named = f.named;
      opened = f.opened;
      staged = quiet_stage log log' d d n n hs hs u.tallies u.stage (omega arith) (omega arith) away f.staged;
      continues = subst (λ l. Each (λ r. Continues account.maker r.number r.seen l) u.tallies) (sym is) (continues_more u.tallies log e apart f.continues);
      below = f.below;
      fresh = λ k l m. let b = under l in ap (made_by account.maker k) is ∙ made_by_more account.maker k log e (λ same. omega arith) ∙ f.fresh k l m;
      nobody = f.nobody;
    }

    -- where the value is, after a step of a seat that keeps or gets the slot
    pub housed_set : (log log' : List E) (d d' n : ℕ) (hs : Homes) (views : List (Sight O E)) (me : ℕ) (v w : Sight O E) → get_elem? views me ≡ some v
        → log' ≡ log → (v.stage ≡ Has n → w.stage ≡ Has n)
        → Housed account start log d n hs views → Housed account start log' d' n hs (set views me w)
    housed_set log log' d d' n hs views me v w at same stays (inl x) = inl (x.0, x.1, x.2, x.3 ∙ sym same)
    housed_set log log' d d' n hs views me v w at same stays (inr x) = dite (ℕ_discrete x.0 me)
        (λ e. inr (
          me,
          w,
          set_at views me v w at,
          stays (subst (λ (y : Sight O E). y.stage ≡ Has n) (some-injective x.1 v (sym x.2 ∙ (ap (get_elem? views) e ∙ at))) x.3),
        ))
        (λ ne. inr (x.0, x.1, set_else views me x.0 w ne ∙ x.2, x.3))

    pub housed_snoc : (log : List E) (d n : ℕ) (hs : Homes) (views : List (Sight O E)) (w : Sight O E) → Housed account start log d n hs views
        → Housed account start log d n hs (views ++ w ∷ [])
    housed_snoc log d n hs views w (inl x) = inl x
    housed_snoc log d n hs views w (inr x) = inr (x.0, x.1, at_longer views (w ∷ []) x.0 x.1 x.2, x.3)
