-- Terms put at the end of a list.
use Rattle.std.proofs.Common.{◌≡◌, List, [], ◌∷◌, ◌++◌, refl, sym, ◌∙◌, ap, ap₂, append-nil}
use Rattle.term_values.specs.declared.term.Term.{Term}

together : (p : List Term) (a b c d : Term) → (((p ++ a ∷ []) ++ b ∷ []) ++ c ∷ []) ++ d ∷ [] ≡ p ++ a ∷ b ∷ c ∷ d ∷ []
together [] a b c d = refl
together (x ∷ p) a b c d = ap (λ (l : List Term). x ∷ l) (together p a b c d)

-- no terms
pub none_added : (parts more : List Term) → more ≡ [] → parts ≡ parts ++ more
none_added parts more none = sym (ap (λ (l : List Term). parts ++ l) none ∙ append-nil parts)

abbrev with : List Term → Term → List Term
with l x = l ++ x ∷ []

-- four terms, of which it is known which they are
pub four_pushed : (p p1 p2 p3 p4 : List Term) (a b c d w x y z : Term) → p1 ≡ p ++ a ∷ [] → p2 ≡ p1 ++ b ∷ [] → p3 ≡ p2 ++ c ∷ [] → p4 ≡ p3 ++ d ∷ [] → a ≡ w → b ≡ x → c ≡ y → d ≡ z → p4 ≡ p ++ w ∷ x ∷ y ∷ z ∷ []
four_pushed p p1 p2 p3 p4 a b c d w x y z h1 h2 h3 h4 e1 e2 e3 e4 =
    h4 ∙ ap₂ with (h3 ∙ ap₂ with (h2 ∙ ap₂ with (h1 ∙ ap (with p) e1) e2) e3) e4 ∙ together p w x y z
