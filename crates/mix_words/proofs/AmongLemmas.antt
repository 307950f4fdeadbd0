-- Words among others, by a set of them.
use Rattle.std.proofs.Common.{◌≡◌, ℕ, Bool, true, false, cond, ◌||◌, List, [], ◌∷◌, ◌++◌, refl, sym, ◌∙◌, ap, ap₂}
use Rattle.std.specs.Prelude.{bytes_eq}
use Rattle.std.specs.BTreeSet.{BTreeSet, contains_by, UpdatesBy}
use Rattle.std.specs.Ordering.{is_eq}
use Rattle.std.specs.Cmp.Lexicographic.{same_text, texts_ties}
use denote.Ref.{Bor}
use Rattle.std.proofs.lemmas.Bool.{both_ways}
use Rattle.std.proofs.lemmas.Cmp.{nat_list_cmp_total, tied_itself}
use Rattle.std.proofs.lemmas.Slice.Eq.{bytes_eq-Decides}
use Rattle.mx_base.specs.Order.{text_cmp}
use Rattle.mix_words.specs.Choice.{is_among}

-- two texts compare as equal where their bytes do
ties_bytes : (a b : List ℕ) → is_eq (text_cmp a b) ≡ bytes_eq b a
ties_bytes a b = at (bytes_eq b a) refl
  where
    at : (t : Bool) → bytes_eq b a ≡ t → is_eq (text_cmp a b) ≡ t
    at true e = rw ((bytes_eq-Decides b a).0 e) (ap is_eq (tied_itself nat_list_cmp_total a))
    at false e = other (is_eq (text_cmp a b)) refl
      where
        other : (s : Bool) → is_eq (text_cmp a b) ≡ s → s ≡ false
        other true h = absurd (both_ways (bytes_eq b a) e ((bytes_eq-Decides b a).1 (sym (same_text a b (sym (texts_ties a b ∙ h))))))
        other false h = refl

or_cond : (b c : Bool) → cond b true c ≡ (c || b)
or_cond true true = refl
or_cond true false = refl
or_cond false true = refl
or_cond false false = refl

or_turned : (a : Bool) → (a || false) ≡ (false || a)
or_turned true = refl
or_turned false = refl

or_regrouped : (a b c : Bool) → (a || (b || c)) ≡ ((a || b) || c)
or_regrouped true b c = refl
or_regrouped false b c = refl

among_more : (words : List (List ℕ)) (word t : List ℕ) → is_among (words ++ word ∷ []) t ≡ (is_among words t || bytes_eq t word)
among_more [] word t = or_turned (bytes_eq t word)
among_more (w ∷ ws) word t =
    ap (λ (b : Bool). bytes_eq t w || b) (among_more ws word t) ∙ or_regrouped (bytes_eq t w) (is_among ws t) (bytes_eq t word)

-- one word more was put into the set
pub known_more : (words more : List (List ℕ)) (word : List ℕ) (old new : BTreeSet (Bor (List ℕ))) (key : Bor (List ℕ)) → word ≡ key.now
    → more ≡ words ++ word ∷ []
    → UpdatesBy (λ (x y : Bor (List ℕ)). text_cmp x.now y.now) (λ (k : Bor (List ℕ)). text_cmp key.now k.now) old new true
    → ((t : List ℕ) → contains_by (λ (k : Bor (List ℕ)). text_cmp t k.now) old ≡ is_among words t)
    → (t : List ℕ) → contains_by (λ (k : Bor (List ℕ)). text_cmp t k.now) new ≡ is_among more t
known_more words more word old new key same grown updates so_far t =
    updates.0 (record { ref_ptr = (0, 0); now = t })
    ∙ or_cond (is_eq (text_cmp key.now t)) _
    ∙ ap₂ (λ (a b : Bool). a || b) (so_far t) (ties_bytes key.now t ∙ ap (bytes_eq t) (sym same))
    ∙ sym (ap (λ (ws : List (List ℕ)). is_among ws t) grown ∙ among_more words word t)
