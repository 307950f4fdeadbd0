-- Where fields one behind the other lack one.
use Rattle.std.proofs.Common.{◌≡◌, ℕ, ◌+◌, List, [], ◌∷◌, ◌++◌, length, refl, sym, ap, ◌∙◌, subst, inl, inr, ⊎_elim, ◌⊎◌, append_assoc, append-nil, length-append}
use Rattle.reading.specs.Field.{PairFits, TellsItsEnd}
use Rattle.reading.proofs.Fields.{same_rest}
use Rattle.partition_frames.specs.Field.{Lacks, together}

-- ---- fields and their bytes

pub together_append : (a b : List (List ℕ)) → together (a ++ b) ≡ together a ++ together b
together_append [] b = refl
together_append (field ∷ a) b = ap (λ t. field ++ t) (together_append a b) ∙ sym (append_assoc field (together a) (together b))

-- the text of a value is its fields together
abbrev pub text_by : {A : Type 0} → (A → List (List ℕ)) → A → List ℕ
text_by fields value = together (fields value)

-- fields that show by themselves where they end
abbrev pub Tells : {A : Type 0} → (A → List (List ℕ)) → (A → Type 0) → Type 0
Tells fields Fits = TellsItsEnd (text_by fields) Fits

-- one value's fields behind another's
abbrev pub pair_fields : {A B : Type 0} → (A → List (List ℕ)) → (A → B → List (List ℕ)) → A × B → List (List ℕ)
pair_fields first second both = first both.0 ++ second both.0 both.1

-- ---- two ways to cut one list of fields

abbrev Further : List (List ℕ) → List (List ℕ) → List (List ℕ) → List (List ℕ) → Type 0
Further a x b y = (between : List (List ℕ)) × (a ≡ b ++ between) × (y ≡ between ++ x)

same_head : (a b : List ℕ) (s t : List (List ℕ)) → a ∷ s ≡ b ∷ t → a ≡ b
same_head a b s t e = cc

same_tail : (a b : List ℕ) (s t : List (List ℕ)) → a ∷ s ≡ b ∷ t → s ≡ t
same_tail a b s t e = cc

further_by_one : (c d : List ℕ) (a x b y : List (List ℕ)) → c ≡ d → Further a x b y → Further (c ∷ a) x (d ∷ b) y
further_by_one c d a x b y e further = (further.0, cc (e, further.1), further.2)

one_further : (a x b y : List (List ℕ)) → a ++ x ≡ b ++ y → Further a x b y ⊎ Further b y a x
one_further [] x b y e = inr (b, refl, e)
one_further (c ∷ a) x [] y e = inl (c ∷ a, refl, sym e)
one_further (c ∷ a) x (d ∷ b) y e =
    let head = same_head c d (a ++ x) (b ++ y) e in
    ⊎_elim (λ further. inl (further_by_one c d a x b y head further))
    (λ further. inr (further_by_one d c b y a x (sym head) further))
    (one_further a x b y (same_tail c d (a ++ x) (b ++ y) e))

-- ---- where a field is lacking

-- no value of a field stands there
pub nothing_stands : {A : Type 0} (text : A → List ℕ) (Fits : A → Type 0) (bytes : List ℕ) (some : A) → Fits some
    → ((value : A) (others : List ℕ) → Fits value → bytes ≡ text value ++ others → ⊥) → Lacks (λ a. text a ∷ []) Fits bytes 0
nothing_stands text Fits bytes some fits none = record {
  front = [];
  rest = bytes;
  cut = refl;
  place = refl;
  begins = record { value = some; fits = fits; others = text some ∷ []; has = refl };
  refuses = λ value field more others is e cut.
      none value others is (cut ∙ ap (λ t. t ++ others) (sym (same_head (text value) field [] more e)));
  nothing = λ value others is cut. none value others is (cut ∙ ap (λ t. t ++ others) (append-nil (text value)));
}

-- where the first lacks a field, both do
pub first_lacks : {A B : Type 0} (first : A → List (List ℕ)) (Fits : A → Type 0) (second : A → B → List (List ℕ)) (SecondFits : A → B → Type 0)
    → ((a : A) → Fits a → (b : B) × SecondFits a b) → (bytes : List ℕ) (at : ℕ) → Lacks first Fits bytes at
    → Lacks (pair_fields first second) (PairFits Fits SecondFits) bytes at
first_lacks first Fits second SecondFits some bytes at l =
    let next = some l.begins.value l.begins.fits in
    record {
      front = l.front;
      rest = l.rest;
      cut = l.cut;
      place = l.place;
      begins = record {
        value = (l.begins.value, next.0);
        fits = (l.begins.fits, next.1);
        others = l.begins.others ++ second l.begins.value next.0;
        has = ap (λ t. t ++ second l.begins.value next.0) l.begins.has ∙ append_assoc l.front l.begins.others (second l.begins.value next.0);
      };
      refuses = λ value field more others is e cut. ⊎_elim
          (λ (h : Further (first value.0) (second value.0 value.1) l.front (field ∷ more)).
          goes_on first Fits bytes at l value.0 field more others (second value.0 value.1) is.0 cut h)
          (λ (h : Further l.front (field ∷ more) (first value.0) (second value.0 value.1)).
          l.nothing value.0 (together h.0 ++ l.rest) is.0 (l.cut ∙ ap (λ t. together t ++ l.rest) h.1
          ∙ ap (λ t. t ++ l.rest) (together_append (first value.0) h.0) ∙ append_assoc (together (first value.0)) (together h.0) l.rest))
          (one_further (first value.0) (second value.0 value.1) l.front (field ∷ more) e);
      nothing = λ value others is cut. l.nothing value.0 (together (second value.0 value.1) ++ others) is.0
          (cut ∙ ap (λ t. t ++ others) (together_append (first value.0) (second value.0 value.1))
          ∙ append_assoc (together (first value.0)) (together (second value.0 value.1)) others);
    }
  where
    goes_on : {A : Type 0} (first : A → List (List ℕ)) (Fits : A → Type 0) (bytes : List ℕ) (at : ℕ) (l : Lacks first Fits bytes at)
        (a : A) (field : List ℕ) (more : List (List ℕ)) (others : List ℕ) (behind : List (List ℕ)) → Fits a → l.rest ≡ field ++ others
        → Further (first a) behind l.front (field ∷ more) → ⊥
    goes_on first Fits bytes at l a field more others behind is cut ([], same, back) =
        l.nothing a l.rest is (l.cut ∙ ap (λ t. together t ++ l.rest) (sym (append-nil l.front) ∙ sym same))
    goes_on first Fits bytes at l a field more others behind is cut (c ∷ between, same, back) =
        l.refuses a c between others is same (cut ∙ ap (λ t. t ++ others) (same_head field c more (between ++ behind) back))

-- where the second lacks a field behind the first, both do
pub second_lacks : {A B : Type 0} (first : A → List (List ℕ)) (Fits : A → Type 0) (second : A → B → List (List ℕ)) (SecondFits : A → B → Type 0)
    → Tells first Fits → (a : A) → Fits a → (bytes after : List ℕ) (at : ℕ) → bytes ≡ together (first a) ++ after
    → Lacks (second a) (SecondFits a) after at
    → Lacks (pair_fields first second) (PairFits Fits SecondFits) bytes (length (together (first a)) + at)
second_lacks {A} {B} first Fits second SecondFits tells a fits bytes after at cut l = record {
  front = first a ++ l.front;
  rest = l.rest;
  cut = cut ∙ ap (λ t. together (first a) ++ t) l.cut ∙ sym (append_assoc (together (first a)) (together l.front) l.rest)
      ∙ ap (λ t. t ++ l.rest) (sym (together_append (first a) l.front));
  place = ap length (together_append (first a) l.front) ∙ length-append (together (first a)) (together l.front)
      ∙ ap (λ n. length (together (first a)) + n) l.place;
  begins = record {
    value = (a, l.begins.value);
    fits = (fits, l.begins.fits);
    others = l.begins.others;
    has = ap (λ t. first a ++ t) l.begins.has ∙ sym (append_assoc (first a) l.front l.begins.others);
  };
  refuses = λ value field more others is e here.
      let whole = e ∙ append_assoc (first a) l.front (field ∷ more) in
      let bytes_same = sym (together_append (first value.0) (second value.0 value.1)) ∙ ap together whole
      ∙ together_append (first a) (l.front ++ field ∷ more) in
      let same : value.0 ≡ a = tells value.0 a (together (second value.0 value.1)) (together (l.front ++ field ∷ more)) is.0 fits bytes_same in
      let tail = cancel (first a) (second a value.1) (l.front ++ field ∷ more)
      (ap (λ c. first c ++ second c value.1) (sym same) ∙ whole) in
      l.refuses value.1 field more others (subst (λ c. SecondFits c value.1) same is.1) tail here;
  nothing = λ value others is whole.
      let flat = ap (λ t. t ++ others) (together_append (first value.0) (second value.0 value.1))
      ∙ append_assoc (together (first value.0)) (together (second value.0 value.1)) others in
      let both = same_rest (text_by first) Fits tells value.0 a (together (second value.0 value.1) ++ others) after is.0 fits
      (sym flat ∙ sym whole ∙ cut) in
      l.nothing value.1 others (subst (λ c. SecondFits c value.1) both.0 is.1)
      (sym both.1 ∙ ap (λ c. together (second c value.1) ++ others) both.0);
}
  where
    cancel : (a x y : List (List ℕ)) → a ++ x ≡ a ++ y → x ≡ y
    cancel [] x y e = e
    cancel (f ∷ a) x y e = cancel a x y (same_tail f f (a ++ x) (a ++ y) e)

-- the same fields with their values told otherwise
pub lacks_otherwise : {A B : Type 0} (fields : A → List (List ℕ)) (Fits : A → Type 0) (other : B → List (List ℕ)) (OtherFits : B → Type 0)
    (on : A → B) (back : B → A) → ((a : A) → Fits a → OtherFits (on a) × (other (on a) ≡ fields a))
    → ((b : B) → OtherFits b → Fits (back b) × (fields (back b) ≡ other b))
    → (bytes : List ℕ) (at : ℕ) → Lacks fields Fits bytes at → Lacks other OtherFits bytes at
lacks_otherwise fields Fits other OtherFits on back there here bytes at l = record {
  front = l.front;
  rest = l.rest;
  cut = l.cut;
  place = l.place;
  begins = record {
    value = on l.begins.value;
    fits = (there l.begins.value l.begins.fits).0;
    others = l.begins.others;
    has = (there l.begins.value l.begins.fits).1 ∙ l.begins.has;
  };
  refuses = λ value field more others is e cut.
      l.refuses (back value) field more others (here value is).0 ((here value is).1 ∙ e) cut;
  nothing = λ value others is cut.
      l.nothing (back value) others (here value is).0 (cut ∙ ap (λ t. together t ++ others) (sym (here value is).1));
}

-- ---- what tells its end

pub one_tells : {A : Type 0} (text : A → List ℕ) (Fits : A → Type 0) → TellsItsEnd text Fits → Tells (λ a. text a ∷ []) Fits
one_tells text Fits tells a b x y fa fb e =
    tells a b x y fa fb (ap (λ t. t ++ x) (sym (append-nil (text a))) ∙ e ∙ ap (λ t. t ++ y) (append-nil (text b)))

same_pair : {A B : Type 0} (p q : A × B) → p.0 ≡ q.0 → p.1 ≡ q.1 → p ≡ q
same_pair p q e f = ap (λ x. (x, p.1)) e ∙ ap (λ y. (q.0, y)) f

pub both_tell : {A B : Type 0} (first : A → List (List ℕ)) (Fits : A → Type 0) (second : A → B → List (List ℕ)) (SecondFits : A → B → Type 0)
    → Tells first Fits → ((a : A) → Fits a → Tells (second a) (SecondFits a)) → Tells (pair_fields first second) (PairFits Fits SecondFits)
both_tell {A} {B} first Fits second SecondFits tells second_tells a b x y fa fb e =
    let flat : (p : A × B) (z : List ℕ) → together (first p.0 ++ second p.0 p.1) ++ z ≡ together (first p.0) ++ (together (second p.0 p.1) ++ z)
    = λ p z. ap (λ t. t ++ z) (together_append (first p.0) (second p.0 p.1)) ∙ append_assoc (together (first p.0)) (together (second p.0 p.1)) z in
    let both = same_rest (text_by first) Fits tells a.0 b.0 (together (second a.0 a.1) ++ x) (together (second b.0 b.1) ++ y) fa.0 fb.0
    (sym (flat a x) ∙ e ∙ flat b y) in
    let fits : SecondFits b.0 a.1 = subst (λ c. SecondFits c a.1) both.0 fa.1 in
    same_pair a b both.0 (second_tells b.0 fb.0 a.1 b.1 x y fits fb.1 (ap (λ c. together (second c a.1) ++ x) (sym both.0) ∙ both.1))

pub tells_otherwise : {A B : Type 0} (fields : A → List (List ℕ)) (Fits : A → Type 0) (other : B → List (List ℕ)) (OtherFits : B → Type 0)
    (back : B → A) → ((b : B) → OtherFits b → Fits (back b) × (fields (back b) ≡ other b))
    → ((b c : B) → OtherFits b → OtherFits c → back b ≡ back c → b ≡ c) → Tells fields Fits → Tells other OtherFits
tells_otherwise fields Fits other OtherFits back here apart tells b c x y fb fc e =
    apart b c fb fc (tells (back b) (back c) x y (here b fb).0 (here c fc).0
    (ap (λ t. together t ++ x) (here b fb).1 ∙ e ∙ ap (λ t. together t ++ y) (sym (here c fc).1)))
