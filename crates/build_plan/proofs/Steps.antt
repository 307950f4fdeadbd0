-- Steps that have an answer each, or one alone, have so together.
use Rattle.std.proofs.Common.{◌≡◌, Result, Ok, Err, refl, sym, ◌∙◌, ap, subst}
use Rattle.build_plan.specs.Stages.{Then}
use Rattle.build_plan.specs.Stages.Then.{stops, goes_on}

-- only one thing is an answer
abbrev pub HasOne : {A : Type 0} → (A → Type 0) → Type 0
HasOne {A = A} Answers = (one other : A) → Answers one → Answers other → one ≡ other

-- something is an answer
abbrev pub HasSome : {A : Type 0} → (A → Type 0) → Type 0
HasSome {A = A} Answers = (a : A) × Answers a

-- what an answer becomes
abbrev pub Becomes : {A B : Type 0} → (A → Type 0) → (A → B) → B → Type 0
Becomes {A = A} Answers become b = (a : A) × Answers a × (b ≡ become a)

pub same_ok : {X E : Type 0} (x y : X) → ◌≡◌ {A = Result X E} (Ok x) (Ok y) → x ≡ y
same_ok x y same = cc

pub same_err : {X E : Type 0} (d e : E) → ◌≡◌ {A = Result X E} (Err d) (Err e) → d ≡ e
same_err d e same = cc

pub ok_not_err : {X E : Type 0} (x : X) (e : E) → ◌≡◌ {A = Result X E} (Ok x) (Err e) → ⊥
ok_not_err x e same = cc

pub becomes_one : {A B : Type 0} (Answers : A → Type 0) (become : A → B) → HasOne Answers → HasOne (Becomes Answers become)
becomes_one Answers become one b c (x, p, is) (y, q, also) = is ∙ ap become (one x y p q) ∙ sym also

then_same : {X Y E : Type 0} {First : Result X E → Type 0} {Next : X → Result Y E → Type 0} → HasOne First → ((x : X) → HasOne (Next x)) → {a b : Result Y E}
    → Then First Next a → Then First Next b → a ≡ b
then_same one each (stops {error = d} p) (stops {error = e} q) = ap (λ z. Err z) (same_err d e (one (Err d) (Err e) p q))
then_same one each (stops {error = d} p) (goes_on y q next) = absurd (ok_not_err y d (one (Ok y) (Err d) q p))
then_same one each (goes_on x p next) (stops {error = e} q) = absurd (ok_not_err x e (one (Ok x) (Err e) p q))
then_same {Next = Next} one each (goes_on x {answer = a} p next) (goes_on y {answer = b} q also) =
    each x a b next (subst (λ z. Next z b) (same_ok y x (one (Ok y) (Ok x) q p)) also)

pub then_one : {X Y E : Type 0} (First : Result X E → Type 0) (Next : X → Result Y E → Type 0) → HasOne First → ((x : X) → HasOne (Next x))
    → HasOne (Then First Next)
then_one First Next one each a b p q = then_same one each p q

pub becomes_some : {A B : Type 0} (Answers : A → Type 0) (become : A → B) → HasSome Answers → HasSome (Becomes Answers become)
becomes_some Answers become (a, is) = (become a, (a, is, refl))

pub then_some : {X Y E : Type 0} (First : Result X E → Type 0) (Next : X → Result Y E → Type 0) → HasSome First → ((x : X) → First (Ok x) → HasSome (Next x))
    → HasSome (Then First Next)
then_some First Next (Ok x, first) each = let next = each x first in (next.0, goes_on x first next.1)
then_some First Next (Err e, first) each = (Err e, stops first)
