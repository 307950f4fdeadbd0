-- The list of all divergences, turn by turn.
use Rattle.std.proofs.Common.{◌≡◌, ℕ, zero, suc, ◌+◌, ◌<◌, ◌≤◌, ◌⊎◌, inl, inr, List, [], ◌∷◌, ◌++◌, length, get_or, All, Contains, sym, ◌∙◌, ap, subst, refl, arith, Option}
use Rattle.std.proofs.lemmas.Bool.{cases_eq, cases_lt}
use Rattle.std.proofs.lemmas.Option.{slice_get_within}
use Rattle.std.proofs.lemmas.List.Elements.{All-push, All-weaker, Contains-append_left, Contains-push}
use Rattle.std.proofs.lemmas.List.Quantifiers.{all_pairs_push}
use Rattle.semver.specs.Parse.{Parts}
use Rattle.dep_rows.specs.Listed.{Listed}
use Rattle.converger.specs.declared.divergence.Divergence.{Divergence}
use Rattle.converger.specs.declared.divergence.Rule.{Rule}
use Rattle.converger.specs.declared.divergence.Rule.TheVariants.{V1, V2, V3, V4}
use Rattle.converger.specs.Divergence.{AreDivergences, rank}
use Rattle.converger.specs.Cases.{AreBefore, DivergesIn, turn_of, index_of}
use Rattle.converger.proofs.CaseLemmas.{one_place, stands_under}

rule_at : ℕ → Rule
rule_at zero = V1
rule_at (suc zero) = V2
rule_at (suc (suc zero)) = V3
rule_at (suc (suc (suc n))) = V4

rule_back : (rule : Rule) → rule_at (index_of rule) ≡ rule
unfolding rule_at
rule_back V1 = refl
rule_back V2 = refl
rule_back V3 = refl
rule_back V4 = refl

below_four : (rule : Rule) → index_of rule < 4
below_four V1 = omega arith
below_four V2 = omega arith
below_four V3 = omega arith
below_four V4 = omega arith

same_other : (a b : ℕ) (r s : Rule) → turn_of a r ≡ turn_of b s → a ≡ b
same_other a b r s same = omega (arith, same, below_four r, below_four s)

same_rule : (a b : ℕ) (r s : Rule) → turn_of a r ≡ turn_of b s → r ≡ s
same_rule a b r s same =
    let index : index_of r ≡ index_of s = omega (arith, same, below_four r, below_four s) in
    sym (rule_back r) ∙ ap rule_at index ∙ rule_back s

abbrev made : Rule → ℕ → ℕ → Divergence
made rule winner other = record { rule = rule; winner = winner; other = other }

same_parts : (d e : Divergence) → d.rule ≡ e.rule → d.winner ≡ e.winner → d.other ≡ e.other → d ≡ e
same_parts d e rules winners others =
    ap (λ (r : Rule). made r d.winner d.other) rules ∙ ap (λ (w : ℕ). made e.rule w d.other) winners ∙ ap (λ (o : ℕ). made e.rule e.winner o) others

rank_of : (rule : Rule) → rank rule ≡ index_of rule + 1
rank_of V1 = refl
rank_of V2 = refl
rank_of V3 = refl
rank_of V4 = refl

module _ (listed : Listed) (versions : List (Option Parts)) where
  abbrev turn : Divergence → ℕ
  turn d = turn_of d.other d.rule

  abbrev IsEarlier : ℕ → Divergence → Type 0
  IsEarlier now d = (turn d < now) × DivergesIn listed versions d

  -- each turn has one divergence at most
  one_a_turn : (d e : Divergence) → turn d ≡ turn e → DivergesIn listed versions d → DivergesIn listed versions e → d ≡ e
  one_a_turn d e same here there =
      let others = same_other d.other e.other d.rule e.rule same in
      let at : DivergesIn listed versions (made e.rule e.winner d.other) = subst (λ (o : ℕ). DivergesIn listed versions (made e.rule e.winner o))
      (sym others) there in
      same_parts d e (same_rule d.other e.other d.rule e.rule same) (one_place listed.rows listed.winners versions d.rule e.rule d.winner e.winner d.other here
      at) others

  later : (now : ℕ) (list : List Divergence) → All (IsEarlier now) list → All (IsEarlier (now + 1)) list
  later now list only = All-weaker (IsEarlier now) (IsEarlier (now + 1)) (λ d h. (omega (arith, h.0), h.1)) list only

  pub before_found : (d : Divergence) (list : List Divergence) → AreBefore listed versions (turn d) list → DivergesIn listed versions d
      → AreBefore listed versions (turn d + 1) (list ++ d ∷ [])
  before_found d list before here = record {
    in_order = all_pairs_push (λ (earlier later : Divergence). turn earlier < turn later) list d before.in_order (λ k e within. (before.only k e within).0);
    only = All-push (IsEarlier (turn d + 1)) list d (later (turn d) list before.only) (omega arith, here);
    all = λ e less diverges. elim (cases_eq (turn e) (turn d)) [
      | inl same ↦ subst (λ (x : Divergence). Contains (list ++ d ∷ []) x) (one_a_turn d e (sym same) here diverges) (Contains-push list d)
      | inr apart ↦ Contains-append_left list (d ∷ []) e (before.all e (omega (arith, less, apart)) diverges)
    ];
  }

  pub before_none : (rule : Rule) (other : ℕ) (list : List Divergence) → AreBefore listed versions (turn_of other rule) list
      → ((place : ℕ) → DivergesIn listed versions (made rule place other) → ⊥) → AreBefore listed versions (turn_of other rule + 1) list
  before_none rule other list before none = record {
    in_order = before.in_order;
    only = later (turn_of other rule) list before.only;
    all = λ e less diverges. elim (cases_eq (turn e) (turn_of other rule)) [
      | inl same ↦
          let others = same_other e.other other e.rule rule same in
          let rules = same_rule e.other other e.rule rule same in
          let moved : DivergesIn listed versions (made rule e.winner other) = subst (λ (o : ℕ). DivergesIn listed versions (made rule e.winner o)) others
          (subst (λ (r : Rule). DivergesIn listed versions (made r e.winner e.other)) rules diverges) in
          absurd (none e.winner moved)
      | inr apart ↦ before.all e (omega (arith, less, apart)) diverges
    ];
  }

  pub before_first : AreBefore listed versions (turn_of 0 V1) []
  before_first = record {
    in_order = λ i j d less within. absurd (omega arith);
    only = λ k d within. absurd (omega arith);
    all = λ d less diverges. absurd (omega (arith, less));
  }

  pub before_same : (m n : ℕ) (list : List Divergence) → m ≡ n → AreBefore listed versions m list → AreBefore listed versions n list
  before_same m n list same before = rw same at before

  in_order : (a b : Divergence) → turn a < turn b → (a.other < b.other) ⊎ ((a.other ≡ b.other) × (rank a.rule < rank b.rule))
  in_order a b less = elim (cases_lt a.other b.other) [
    | inl before ↦ inl before
    | inr not_before ↦
        let same : a.other ≡ b.other = omega (arith, less, not_before, below_four a.rule, below_four b.rule) in
        inr (same, omega (arith, less, same, rank_of a.rule, rank_of b.rule))
  ]

  pub before_all : (n : ℕ) (list : List Divergence) → length listed.rows ≤ n → AreBefore listed versions (turn_of n V1) list
      → AreDivergences listed.rows listed.winners versions list
  before_all n list long before = record {
    in_order = λ i j d less within. in_order (get_or list i d) (get_or list j d) (before.in_order i j d less within);
    only = λ k d within. (before.only k d within).1;
    all = λ rule place other d.
        let s = stands_under listed.rows listed.winners versions rule place other d in
        before.all (made rule place other) (omega (arith, long, below_four rule, slice_get_within listed.rows other s.row s.under.stands)) d;
  }
