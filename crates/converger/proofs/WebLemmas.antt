-- Texts, and maps from texts.
use Rattle.std.proofs.Common.{◌≡◌, ◌≢◌, ℕ, Bool, true, false, List, sym, ◌∙◌, ap, refl, Option, Some, bytes_eq}
use Rattle.std.specs.BTreeMap.{BTreeMap, get_by}
use denote.Ref.{Bor}
use Rattle.std.specs.Ordering.{is_eq}
use Rattle.std.specs.Cmp.Lexicographic.{texts_ties, same_text}
use Rattle.std.proofs.lemmas.Cmp.{nat_list_cmp_total, tied_itself}
use Rattle.std.proofs.lemmas.Bool.{both_ways}
use Rattle.std.proofs.lemmas.Slice.Eq.{bytes_eq-Decides}
use Rattle.mx_base.specs.Order.{text_cmp}

pub one_value : {A : Type 0} {x y : A} → Some x ≡ Some y → x ≡ y
one_value e = cc

pub same_bytes : (a b : List ℕ) → bytes_eq a b ≡ true → a ≡ b
same_bytes a b h = (bytes_eq-Decides a b).0 h

pub bytes_same : (a b : List ℕ) → a ≡ b → bytes_eq a b ≡ true
bytes_same a b e = (bytes_eq-Decides a b).1 e

pub not_same_bytes : (a b : List ℕ) → a ≢ b → bytes_eq a b ≡ false
not_same_bytes a b apart = at (bytes_eq a b) refl
  where
    at : (t : Bool) → bytes_eq a b ≡ t → t ≡ false
    at true e = absurd (apart (same_bytes a b e))
    at false e = refl

-- two texts compare as equal where their bytes do
pub ties_bytes : (a b : List ℕ) → is_eq (text_cmp a b) ≡ bytes_eq b a
ties_bytes a b = at (bytes_eq b a) refl
  where
    at : (t : Bool) → bytes_eq b a ≡ t → is_eq (text_cmp a b) ≡ t
    at true e = rw (same_bytes b a e) (ap is_eq (tied_itself nat_list_cmp_total a))
    at false e = other (is_eq (text_cmp a b)) refl
      where
        other : (s : Bool) → is_eq (text_cmp a b) ≡ s → s ≡ false
        other true h = absurd (both_ways (bytes_eq b a) e (bytes_same b a (sym (same_text a b (sym (texts_ties a b ∙ h))))))
        other false h = refl

-- a map by apps, as a function of the app
abbrev pub at_app : BTreeMap (Bor (List ℕ)) ℕ → List ℕ → Option ℕ
at_app apps app = get_by (λ (key : Bor (List ℕ)). text_cmp app key.now) apps
