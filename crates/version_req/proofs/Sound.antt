-- What the readers read, and what the machine accepts, is spelled so.
use Rattle.std.proofs.Common.{◌≡◌, ◌⊎◌, ℕ, suc, ◌+◌, ◌-◌, ◌*◌, ◌/◌, ◌%◌, ◌^◌, ◌<◌, ◌≤◌, ◌==◌, ◌++◌, List, [], ◌∷◌, length, Bool, true, false, IsFalse, Result, Ok, Err, IfOk, IsSome, Option, Some, None, refl, sym, ap, ◌∙◌, arith, inl, inr, subst, append_assoc, append-nil, length-append, decimal, codes}
use Rattle.std.specs.Borrow.{Bor}
use Rattle.std.specs.Char.{is_ascii_digit}
use Rattle.std.specs.List.{list_all}
use Rattle.std.proofs.lemmas.Bool.{cases_Bool, cases_lt, eqb-true, le-leb, lt-leb}
use Rattle.std.proofs.lemmas.Bool.Decides.{nat_tests}
use Rattle.std.proofs.lemmas.Fmt.{decimal_digit, decimal_step}
use Rattle.std.proofs.lemmas.List.Folds.{list_all-append}
use Rattle.semver.specs.Grammar.{is_build, is_identifier_byte, is_pre_release}
use Rattle.semver.specs.Identifiers.{marked}
use Rattle.semver.specs.Order.{parts}
use Rattle.semver.proofs.Segments.{parts-dot, parts-one}
use Rattle.version_req.specs.declared.operator.Operator.{Operator}
use Rattle.version_req.specs.declared.operator.Operator.TheVariants.{Equal, NotEqual, Greater, GreaterOrEqual, Less, LessOrEqual, Compatible}
use Rattle.version_req.specs.declared.scanned.Joint.{Joint}
use Rattle.version_req.specs.declared.scanned.Joint.TheVariants.{And, Or}
use Rattle.version_req.specs.declared.identifiers.Kind.{Kind}
use Rattle.version_req.specs.declared.identifiers.Kind.TheVariants.{PreRelease, Build}
use Rattle.version_req.specs.declared.scan.Head.{Head}
use Rattle.version_req.specs.declared.scan.Stuck.{Stuck}
use Rattle.version_req.specs.Condition.{Condition}
use Rattle.version_req.specs.Grammar.{SpellsComparison, SpellsOperator, operand_text, operator_text, spaces}
use Rattle.version_req.specs.Reading.{Read, ◌>>=◌, after_byte, comparison_of, completed, condition, digits_of, full_head, head_of, identifiers_from, is_identifier, joint_of, mark_of, marked_of, number_of, operator_of, patch_of, read_view, short_head, with_digit, with_equal, without_spaces, word_of}
use Rattle.version_req.proofs.ReadingSteps.{comparison_is, digits_nil, digits_over, digits_refuse, digits_take, head_is, ids_bad, ids_byte, ids_dot, ids_nil_bad, ids_nil_good, ids_stop, joint_nil, joint_other, joint_space, number_digit, number_nil, number_other}

-- ---- answers

pub bind_ok : {A B : Type 0} (r : Result A Stuck) (f : A → Result B Stuck) (y : B) → (r >>= f) ≡ Ok y → (x : A) × (r ≡ Ok x) × (f x ≡ Ok y)
bind_ok (Ok x) f y h = (x, refl, h)
bind_ok (Err s) f y h = cc h

abbrev got : {A : Type 0} → A → Result A Stuck
got x = Ok x

abbrev got_pair : {A : Type 0} → A → List ℕ → Read A
got_pair x rest = Ok (x, rest)

abbrev answer_or : {A : Type 0} → A → Result A Stuck → A
answer_or d (Ok x) = x
answer_or d (Err s) = d

pub ok_value : {A : Type 0} (x y : A) → got x ≡ got y → x ≡ y
ok_value x y e = ap (answer_or x) e

-- both parts of what was read
pub ok_pair : {A : Type 0} (x y : A) (s t : List ℕ) → got_pair x s ≡ got_pair y t → (x ≡ y) × (s ≡ t)
ok_pair {A} x y s t e =
    let both = ok_value {A = A × List ℕ} (x, s) (y, t) e in
    (ap (λ (p : A × List ℕ). p.0) both, ap (λ (p : A × List ℕ). p.1) both)

-- ---- spaces and single bytes

-- a text is its first spaces, and the rest
pub spaces_of : (text : List ℕ) → (n : ℕ) × (text ≡ spaces n ++ without_spaces text)
unfolding without_spaces
spaces_of [] = (0, refl)
spaces_of (b ∷ rest) = elim (cases_Bool (b == 32)) [
  | inl space ↦
      let ih = spaces_of rest in
      (suc ih.0, rw space (rw (eqb-true b 32 space) (ap (λ (t : List ℕ). 32 ∷ t) ih.1)))
  | inr other ↦ (0, rw other refl)
]

pub after_byte-Ok : (byte : ℕ) (text rest : List ℕ) → after_byte byte text ≡ Ok rest → text ≡ byte ∷ rest
after_byte-Ok byte [] rest h = cc h
after_byte-Ok byte (b ∷ r) rest h = elim (cases_Bool (b == byte)) [
  | inl is ↦ rw (eqb-true b byte is) (ap (λ (t : List ℕ). byte ∷ t) (ok_value r rest (rw is at h)))
  | inr other ↦ cc (rw other at h)
]

-- ---- operators

abbrev ReadsOperator : List ℕ → Operator → List ℕ → Type 0
ReadsOperator text o rest = (op : List ℕ) × SpellsOperator op o × (text ≡ op ++ rest)

completed-Ok : (o : Operator) (first second : ℕ) (text : List ℕ) (p : Operator) (rest : List ℕ) → operator_text o ≡ first ∷ second ∷ []
    → completed o (after_byte second text) ≡ Ok (p, rest) → ReadsOperator (first ∷ text) p rest
completed-Ok o first second text p rest spelled h =
    let b = bind_ok (after_byte second text) (λ t. Ok (o, t)) (p, rest) h in
    let pair = ok_pair o p b.0 rest b.2 in
    let bytes : text ≡ second ∷ rest = after_byte-Ok second text b.0 b.1 ∙ ap (λ (t : List ℕ). second ∷ t) pair.1 in
    (first ∷ second ∷ [], inl (sym spelled ∙ ap operator_text pair.0), ap (λ (t : List ℕ). first ∷ t) bytes)

with_equal-Ok : (alone both : Operator) (first : ℕ) (text : List ℕ) (p : Operator) (rest : List ℕ) → operator_text alone ≡ first ∷ []
    → operator_text both ≡ first ∷ 61 ∷ []
    → got (with_equal alone both text) ≡ Ok (p, rest) → ReadsOperator (first ∷ text) p rest
with_equal-Ok alone both first [] p rest one two h =
    let pair = ok_pair alone p [] rest h in
    (first ∷ [], inl (sym one ∙ ap operator_text pair.0), ap (λ (t : List ℕ). first ∷ t) pair.1)
with_equal-Ok alone both first (b ∷ r) p rest one two h = elim (cases_Bool (b == 61)) [
  | inl equal ↦
      let pair = ok_pair both p r rest (rw equal at h) in
      (first ∷ 61 ∷ [], inl (sym two ∙ ap operator_text pair.0), rw (eqb-true b 61 equal) (ap (λ (t : List ℕ). first ∷ 61 ∷ t) pair.1))
  | inr other ↦
      let pair = ok_pair alone p (b ∷ r) rest (rw other at h) in
      (first ∷ [], inl (sym one ∙ ap operator_text pair.0), ap (λ (t : List ℕ). first ∷ t) pair.1)
]

first_is : (b k : ℕ) (text : List ℕ) (o : Operator) (rest : List ℕ) → (b == k) ≡ true → ReadsOperator (k ∷ text) o rest
    → ReadsOperator (b ∷ text) o rest
first_is b k text o rest e h = subst (λ (n : ℕ). ReadsOperator (n ∷ text) o rest) (sym (eqb-true b k e)) h

pub operator_of-Ok : (text : List ℕ) (o : Operator) (rest : List ℕ) → operator_of text ≡ Ok (o, rest) → ReadsOperator text o rest
operator_of-Ok [] o rest h =
    let pair = ok_pair Equal o [] rest h in
    ([], inr (refl, sym pair.0), pair.1)
operator_of-Ok (b ∷ r) o rest h = elim (cases_Bool (b == 61)) [
  | inl equal ↦ first_is b 61 r o rest equal (completed-Ok Equal 61 61 r o rest refl (rw equal at h))
  | inr n1 ↦ elim (cases_Bool (b == 33)) [
    | inl bang ↦ first_is b 33 r o rest bang (completed-Ok NotEqual 33 61 r o rest refl (rw (n1, bang) at h))
    | inr n2 ↦ elim (cases_Bool (b == 126)) [
      | inl tilde ↦ first_is b 126 r o rest tilde (completed-Ok Compatible 126 62 r o rest refl (rw (n1, n2, tilde) at h))
      | inr n3 ↦ elim (cases_Bool (b == 62)) [
        | inl more ↦ first_is b 62 r o rest more (with_equal-Ok Greater GreaterOrEqual 62 r o rest refl refl (rw (n1, n2, n3, more) at h))
        | inr n4 ↦ elim (cases_Bool (b == 60)) [
          | inl less ↦ first_is b 60 r o rest less (with_equal-Ok Less LessOrEqual 60 r o rest refl refl (rw (n1, n2, n3, n4, less) at h))
          | inr n5 ↦
              let pair = ok_pair Equal o (b ∷ r) rest (rw (n1, n2, n3, n4, n5) at h) in
              ([], inr (refl, sym pair.0), pair.1)
        ]
      ]
    ]
  ]
]

-- ---- numbers

-- a number that took one digit more
with_digit-cases : (value digit : ℕ) → (with_digit value digit ≡ None) ⊎
    ((0 < value) × (value * 10 + digit < 2 ^ 64) × (with_digit value digit ≡ Some (value * 10 + digit)))
with_digit-cases value digit = elim (cases_Bool (value == 0)) [
  | inl none ↦ inl (rw none refl)
  | inr some ↦ elim (cases_lt (value * 10 + digit) (2 ^ 64)) [
    | inl small ↦ inr (grind (arith, nat_tests), small, rw (some, lt-leb _ _ small) refl)
    | inr big ↦ inl (rw (some, le-leb _ _ big) refl)
  ]
]

digit_range : (b : ℕ) → is_ascii_digit b ≡ true → (48 ≤ b) × (b ≤ 57)
digit_range b h = grind arith

digit_text : (value b : ℕ) → is_ascii_digit b ≡ true → 0 < value → value * 10 + (b - 48) < 2 ^ 64
    → decimal value ++ b ∷ [] ≡ decimal (value * 10 + (b - 48))
digit_text value b h some small =
    let range = digit_range b h in
    let step = decimal_step (value * 10 + (b - 48)) (omega arith) small in
    let top : (value * 10 + (b - 48)) / 10 ≡ value = omega arith in
    let low : 48 + (value * 10 + (b - 48)) % 10 ≡ b = omega arith in
    sym (rw (top, low) at step)

digits_of-Ok : (value : ℕ) (text : List ℕ) (v : ℕ) (rest : List ℕ) → value < 2 ^ 64 → digits_of value text ≡ Ok (v, rest)
    → (decimal value ++ text ≡ decimal v ++ rest) × (v < 2 ^ 64)
digits_of-Ok value [] v rest fits h =
    let pair = ok_pair value v [] rest (sym (digits_nil value) ∙ h) in
    (rw (pair.0, ← pair.1) refl, rw (← pair.0) fits)
digits_of-Ok value (b ∷ r) v rest fits h = elim (cases_Bool (is_ascii_digit b)) [
  | inl digit ↦ elim (with_digit-cases value (b - 48)) [
    | inl none ↦ cc (sym (digits_refuse value b r digit none) ∙ h)
    | inr (some, small, e) ↦
        let more = value * 10 + (b - 48) in
        let ih = digits_of-Ok more r v rest small (sym (digits_take value more b r digit e) ∙ h) in
        (sym (append_assoc (decimal value) (b ∷ []) r) ∙ ap (λ (t : List ℕ). t ++ r) (digit_text value b digit some small) ∙ ih.0, ih.1)
  ]
  | inr other ↦
      let pair = ok_pair value v (b ∷ r) rest (sym (digits_over value b r other) ∙ h) in
      (rw (pair.0, pair.1) refl, rw (← pair.0) fits)
]

pub number_of-Ok : (text : List ℕ) (v : ℕ) (rest : List ℕ) → number_of text ≡ Ok (v, rest) → (text ≡ decimal v ++ rest) × (v < 2 ^ 64)
number_of-Ok [] v rest h = cc (sym number_nil ∙ h)
number_of-Ok (b ∷ r) v rest h = elim (cases_Bool (is_ascii_digit b)) [
  | inl digit ↦
      let range = digit_range b digit in
      let read = digits_of-Ok (b - 48) r v rest (omega arith) (sym (number_digit b r digit) ∙ h) in
      let back : 48 + (b - 48) ≡ b = omega arith in
      let first : decimal (b - 48) ≡ b ∷ [] = decimal_digit (b - 48) (omega arith) ∙ rw back refl in
      (rw first at read.0, read.1)
  | inr other ↦ cc (sym (number_other b r other) ∙ h)
]

-- ---- the operator and the numbers

-- the bytes of the numbers of a comparison
abbrev numbers_text : Bool → ℕ → ℕ → ℕ → List ℕ
numbers_text true a m p = decimal a ++ (46 ∷ (decimal m ++ (46 ∷ decimal p)))
numbers_text false a m p = decimal a ++ (46 ∷ decimal m)

-- the minor number, and the patch with its dot or neither
record PatchRead (o : Operator) (a m : ℕ) (text rest : List ℕ) (h : Head) : Type 0 where
  pub operator : h.operator ≡ o
  pub major : h.major ≡ a
  pub minor : h.minor ≡ m
  pub fits : h.patch < 2 ^ 64
  pub lacks : IsFalse h.patch_written → (h.operator ≡ Compatible) × (h.patch ≡ 0)
  pub bytes : decimal a ++ (46 ∷ (decimal m ++ text)) ≡ numbers_text h.patch_written h.major h.minor h.patch ++ rest

short_text : (a m text : List ℕ) → a ++ (46 ∷ (m ++ text)) ≡ (a ++ (46 ∷ m)) ++ text
short_text a m text = simp append_assoc

full_text : (a m p rest : List ℕ) → a ++ (46 ∷ (m ++ (46 ∷ (p ++ rest)))) ≡ (a ++ (46 ∷ (m ++ (46 ∷ p)))) ++ rest
full_text a m p rest = simp append_assoc

full_bytes : (a m p : List ℕ) (b : ℕ) (r tail rest : List ℕ) → b ≡ 46 → r ≡ p ++ tail → tail ≡ rest
    → a ++ (46 ∷ (m ++ (b ∷ r))) ≡ (a ++ (46 ∷ (m ++ (46 ∷ p)))) ++ rest
full_bytes a m p b r tail rest dot number same = rw (dot, number, same) (full_text a m p rest)

abbrev short : ℕ → ℕ → Head
short a m = record { operator = Compatible; major = a; minor = m; patch = 0; patch_written = false }

short_read : (o : Operator) (a m : ℕ) (text : List ℕ) (h : Head) (rest : List ℕ) → short_head o a m text ≡ Ok (h, rest) → PatchRead o a m text rest h
short_read Compatible a m text h rest e =
    let pair = ok_pair (short a m) h text rest e in
    subst (PatchRead Compatible a m text rest) pair.0 (record {
      operator = refl;
      major = refl;
      minor = refl;
      fits = omega arith;
      lacks = λ _. (refl, refl);
      bytes = short_text (decimal a) (decimal m) text ∙ ap (λ (t : List ℕ). (decimal a ++ (46 ∷ decimal m)) ++ t) pair.1;
    })
short_read Equal a m text h rest e = cc e
short_read NotEqual a m text h rest e = cc e
short_read Greater a m text h rest e = cc e
short_read GreaterOrEqual a m text h rest e = cc e
short_read Less a m text h rest e = cc e
short_read LessOrEqual a m text h rest e = cc e

true_false : {A : Type 0} → IsFalse true → A
true_false h = cc h

patch_read : (o : Operator) (a m : ℕ) (text : List ℕ) (h : Head) (rest : List ℕ) → patch_of o a m text ≡ Ok (h, rest) → PatchRead o a m text rest h
patch_read o a m [] h rest e = short_read o a m [] h rest e
patch_read o a m (b ∷ r) h rest e = elim (cases_Bool (b == 46)) [
  | inl dot ↦
      let read = bind_ok (number_of r) (λ p. got_pair (full_head o a m p.0) p.1) (h, rest) (rw dot at e) in
      let pair = ok_pair (full_head o a m read.0.0) h read.0.1 rest read.2 in
      let number = number_of-Ok r read.0.0 read.0.1 read.1 in
      subst (PatchRead o a m (b ∷ r) rest) pair.0 (record {
        operator = refl;
        major = refl;
        minor = refl;
        fits = number.1;
        lacks = λ f. true_false f;
        bytes = full_bytes (decimal a) (decimal m) (decimal read.0.0) b r read.0.1 rest (eqb-true b 46 dot) number.0 pair.1;
      })
  | inr other ↦ short_read o a m (b ∷ r) h rest (rw other at e)
]

pub record HeadRead (text rest : List ℕ) (h : Head) : Type 0 where
  pub major : h.major < 2 ^ 64
  pub minor : h.minor < 2 ^ 64
  pub patch : h.patch < 2 ^ 64
  pub lacks : IsFalse h.patch_written → (h.operator ≡ Compatible) × (h.patch ≡ 0)
  pub bytes : (before : ℕ) × (op : List ℕ) × (gap : ℕ) × SpellsOperator op h.operator
      × (text ≡ spaces before ++ (op ++ (spaces gap ++ (numbers_text h.patch_written h.major h.minor h.patch ++ rest))))

pub head_of-Ok : (text : List ℕ) (h : Head) (rest : List ℕ) → head_of text ≡ Ok (h, rest) → HeadRead text rest h
head_of-Ok text h rest e =
    let o = bind_ok (operator_of (without_spaces text)) _ (h, rest) (sym (head_is text) ∙ e) in
    let a = bind_ok (number_of (without_spaces o.0.1)) _ (h, rest) o.2 in
    let t = bind_ok (after_byte 46 a.0.1) _ (h, rest) a.2 in
    let m = bind_ok (number_of t.0) _ (h, rest) t.2 in
    let patch = patch_read o.0.0 a.0.0 m.0.0 m.0.1 h rest m.2 in
    let before = spaces_of text in
    let op = operator_of-Ok (without_spaces text) o.0.0 o.0.1 o.1 in
    let gap = spaces_of o.0.1 in
    let major = number_of-Ok (without_spaces o.0.1) a.0.0 a.0.1 a.1 in
    let dot = after_byte-Ok 46 a.0.1 t.0 t.1 in
    let minor = number_of-Ok t.0 m.0.0 m.0.1 m.1 in
    let numbers : without_spaces o.0.1 ≡ numbers_text h.patch_written h.major h.minor h.patch ++ rest =
    major.0 ∙ ap (λ (x : List ℕ). decimal a.0.0 ++ x) (dot ∙ ap (λ (x : List ℕ). 46 ∷ x) minor.0) ∙ patch.bytes in
    record {
      major = rw patch.major major.1;
      minor = rw patch.minor minor.1;
      patch = patch.fits;
      lacks = patch.lacks;
      bytes = (
        before.0,
        op.0,
        gap.0,
        subst (SpellsOperator op.0) (sym patch.operator) op.1,
        before.1 ∙ ap (λ (x : List ℕ). spaces before.0 ++ x)
            (op.2 ∙ ap (λ (x : List ℕ). op.0 ++ x) (gap.1 ∙ ap (λ (x : List ℕ). spaces gap.0 ++ x) numbers)),
      );
    }

-- ---- identifiers

-- the bytes that were taken make good identifiers, with those of the one in hand
abbrev IdsRead : Kind → List ℕ → List ℕ → List ℕ → List ℕ → List ℕ → Type 0
IdsRead k text last rest v tail = (p : List ℕ) × (text ++ p ≡ v) × (rest ≡ p ++ tail) × (list_all (is_identifier k) (parts (last ++ p)) ≡ true)

dot_cut : (last p : List ℕ) (b : ℕ) → b ≡ 46 → list_all is_identifier_byte last ≡ true → parts (last ++ b ∷ p) ≡ last ∷ parts p
dot_cut last p b e all = rw e (parts-dot last p all)

ids_none : (k : Kind) (text last rest v tail : List ℕ) → list_all is_identifier_byte last ≡ true → is_identifier k last ≡ true
    → got_pair text rest ≡ Ok (v, tail) → IdsRead k text last rest v tail
ids_none k text last rest v tail all good h =
    let pair = ok_pair text v rest tail h in
    let one : parts (last ++ []) ≡ last ∷ [] = rw (append-nil last) (parts-one last all) in
    ([], append-nil text ∙ pair.0, pair.1, rw (one, good) refl)

ids_read : (k : Kind) (text last rest v tail : List ℕ) → list_all is_identifier_byte last ≡ true
    → identifiers_from k text last rest ≡ Ok (v, tail) → IdsRead k text last rest v tail
ids_read k text last [] v tail all h = elim (cases_Bool (is_identifier k last)) [
  | inl good ↦ ids_none k text last [] v tail all good (sym (ids_nil_good k text last good) ∙ h)
  | inr bad ↦ cc (sym (ids_nil_bad k text last bad) ∙ h)
]
ids_read k text last (b ∷ rest) v tail all h = elim (cases_Bool (is_identifier_byte b)) [
  | inl letter ↦
      let bytes : list_all is_identifier_byte (last ++ b ∷ []) ≡ true = rw (list_all-append, all, letter) refl in
      let ih = ids_read k (text ++ b ∷ []) (last ++ b ∷ []) rest v tail bytes (sym (ids_byte k text last b rest letter) ∙ h) in
      (b ∷ ih.0, sym (append_assoc text (b ∷ []) ih.0) ∙ ih.1, ap (λ (t : List ℕ). b ∷ t) ih.2, rw (append_assoc last (b ∷ []) ih.0) at ih.3)
  | inr other ↦ elim (cases_Bool (is_identifier k last)) [
    | inr bad ↦ cc (sym (ids_bad k text last b rest other bad) ∙ h)
    | inl good ↦ elim (cases_Bool (b == 46)) [
      | inl dot ↦
          let byte : b ≡ 46 = eqb-true b 46 dot in
          let ih = ids_read k (text ++ b ∷ []) [] rest v tail refl (sym (ids_dot k text last b rest other good dot) ∙ h) in
          let cut = dot_cut last ih.0 b byte all in
          (b ∷ ih.0, sym (append_assoc text (b ∷ []) ih.0) ∙ ih.1, ap (λ (t : List ℕ). b ∷ t) ih.2, rw (cut, good) ih.3)
      | inr stop ↦ ids_none k text last (b ∷ rest) v tail all good (sym (ids_stop k text last b rest other good stop) ∙ h)
    ]
  ]
]

-- what identifiers of a kind have to be
abbrev pub are_good : Kind → List ℕ → Bool
are_good PreRelease text = is_pre_release text
are_good Build text = is_build text

ids_good : (k : Kind) (v : List ℕ) → list_all (is_identifier k) (parts v) ≡ true → (are_good k v ≡ true) × ((b : ℕ) × (r : List ℕ) × (v ≡ b ∷ r))
ids_good PreRelease [] h = cc h
ids_good Build [] h = cc h
ids_good PreRelease (b ∷ r) h = (h, (b, r, refl))
ids_good Build (b ∷ r) h = (h, (b, r, refl))

good_none : (k : Kind) → are_good k [] ≡ true
good_none PreRelease = refl
good_none Build = refl

pub marked_of-Ok : (k : Kind) (text v rest : List ℕ) → marked_of k text ≡ Ok (v, rest) → (text ≡ marked (mark_of k) v ++ rest) × (are_good k v ≡ true)
marked_of-Ok k [] v rest h =
    let pair = ok_pair [] v [] rest h in
    (rw (← pair.0) pair.1, rw (← pair.0) (good_none k))
marked_of-Ok k (b ∷ r) v rest h = elim (cases_Bool (b == mark_of k)) [
  | inl mark ↦
      let read = ids_read k [] [] r v rest refl (rw mark at h) in
      let same : read.0 ≡ v = read.1 in
      let good = ids_good k v (subst (λ (t : List ℕ). list_all (is_identifier k) (parts t) ≡ true) same read.3) in
      let bytes : b ∷ r ≡ mark_of k ∷ (v ++ rest) = rw (eqb-true b (mark_of k) mark)
      (ap (λ (t : List ℕ). mark_of k ∷ t) (read.2 ∙ ap (λ (t : List ℕ). t ++ rest) same)) in
      let shape : marked (mark_of k) v ≡ mark_of k ∷ v = rw good.1.2 refl in
      (bytes ∙ ap (λ (t : List ℕ). t ++ rest) (sym shape), good.0)
  | inr other ↦
      let pair = ok_pair [] v (b ∷ r) rest (rw other at h) in
      (rw (← pair.0) pair.1, rw (← pair.0) (good_none k))
]

-- ---- a whole comparison

operand-split : (w : Bool) (a m p : ℕ) (pre build : List ℕ)
    → operand_text w (a, m, p, pre, build) ≡ numbers_text w a m p ++ (marked 45 pre ++ marked 43 build)
operand-split true a m p pre build = full_text (decimal a) (decimal m) (decimal p) (marked 45 pre ++ marked 43 build)
operand-split false a m p pre build = short_text (decimal a) (decimal m) (marked 45 pre ++ marked 43 build)

-- a text by its pieces, as the grammar groups them
whole_text : (text s op gap numbers after_numbers pre after_pre build after_build rest operand : List ℕ)
    → text ≡ s ++ (op ++ (gap ++ (numbers ++ after_numbers))) → after_numbers ≡ pre ++ after_pre → after_pre ≡ build ++ after_build
    → after_build ≡ rest
    → operand ≡ numbers ++ (pre ++ build) → text ≡ s ++ ((op ++ (gap ++ operand)) ++ rest)
whole_text text s op gap numbers after_numbers pre after_pre build after_build rest operand e f g h i = rw (e, f, g, h, i) (simp append_assoc)

abbrev pub ReadsComparison : List ℕ → List ℕ → Condition → Type 0
ReadsComparison text rest c = (before : ℕ) × (t : List ℕ) × (text ≡ spaces before ++ (t ++ rest)) × SpellsComparison t c

pub comparison_of-Ok : (text : List ℕ) (c : Condition) (rest : List ℕ) → comparison_of text ≡ Ok (c, rest) → ReadsComparison text rest c
comparison_of-Ok text c rest e =
    let h = bind_ok (head_of text) _ (c, rest) (sym (comparison_is text) ∙ e) in
    let p = bind_ok (marked_of PreRelease h.0.1) _ (c, rest) h.2 in
    let b = bind_ok (marked_of Build p.0.1) (λ build. got_pair (condition h.0.0 p.0.0 build.0) build.1) (c, rest) p.2 in
    let pair = ok_pair (condition h.0.0 p.0.0 b.0.0) c b.0.1 rest b.2 in
    let head = head_of-Ok text h.0.0 h.0.1 h.1 in
    let pre = marked_of-Ok PreRelease h.0.1 p.0.0 p.0.1 p.1 in
    let build = marked_of-Ok Build p.0.1 b.0.0 b.0.1 b.1 in
    let s = head.bytes in
    let n = h.0.0 in
    let t = s.1 ++ (spaces s.2 ++ operand_text n.patch_written (n.major, n.minor, n.patch, p.0.0, b.0.0)) in
    let whole : text ≡ spaces s.0 ++ (t ++ rest) =
    whole_text text (spaces s.0) s.1 (spaces s.2) (numbers_text n.patch_written n.major n.minor n.patch) h.0.1 (marked 45 p.0.0) p.0.1
    (marked 43 b.0.0) b.0.1 rest
    (operand_text n.patch_written (n.major, n.minor, n.patch, p.0.0, b.0.0)) s.4 pre.0 build.0 pair.1
    (operand-split n.patch_written n.major n.minor n.patch p.0.0 b.0.0) in
    let spelled : SpellsComparison t (condition h.0.0 p.0.0 b.0.0) = record {
      valid = (head.major, head.minor, head.patch, pre.1, build.1);
      patch = head.lacks;
      bytes = (s.1, s.2, s.3, refl);
    } in
    (s.0, t, whole, subst (SpellsComparison t) pair.0 spelled)

-- ---- what follows a comparison

abbrev pub joint_word : Joint → List ℕ
joint_word And = codes "and"
joint_word Or = codes "or"

abbrev ReadsWord : List ℕ → Option Joint → List ℕ → Type 0
ReadsWord text None rest = text ≡ []
ReadsWord text (Some j) rest = text ≡ joint_word j ++ (32 ∷ rest)

got_joint : (o q : Option Joint) (s t : List ℕ) → got_pair o s ≡ got_pair q t → (o ≡ q) × (s ≡ t)
got_joint o q s t e = ok_pair o q s t e

word_read : (text : List ℕ) (j : Joint) (o : Option Joint) (s rest : List ℕ) → text ≡ joint_word j ++ (32 ∷ s) → got_pair (Some j) s ≡ Ok (o, rest)
    → ReadsWord text o rest
word_read text j o s rest bytes e =
    let pair = got_joint (Some j) o s rest e in
    subst (λ (q : Option Joint). ReadsWord text q rest) pair.0 (bytes ∙ ap (λ (t : List ℕ). joint_word j ++ (32 ∷ t)) pair.1)

and_bytes : (b : ℕ) (r t u v : List ℕ) → b ≡ 97 → r ≡ 110 ∷ t → t ≡ 100 ∷ u → u ≡ 32 ∷ v → b ∷ r ≡ codes "and" ++ (32 ∷ v)
and_bytes b r t u v a n d s = rw (a, n, d, s) refl

or_bytes : (b : ℕ) (r t u : List ℕ) → b ≡ 111 → r ≡ 114 ∷ t → t ≡ 32 ∷ u → b ∷ r ≡ codes "or" ++ (32 ∷ u)
or_bytes b r t u o n s = rw (o, n, s) refl

word_of-Ok : (text : List ℕ) (o : Option Joint) (rest : List ℕ) → word_of text ≡ Ok (o, rest) → ReadsWord text o rest
word_of-Ok [] o rest h =
    let pair = got_joint None o [] rest h in
    subst (λ (q : Option Joint). ReadsWord [] q rest) pair.0 refl
word_of-Ok (b ∷ r) o rest h = elim (cases_Bool (b == 97)) [
  | inl a ↦
      let n = bind_ok (after_byte 110 r) (λ t. after_byte 100 t >>= λ u. after_byte 32 u >>= λ v. got_pair (Some And) v) (o, rest) (rw a at h) in
      let d = bind_ok (after_byte 100 n.0) (λ u. after_byte 32 u >>= λ v. got_pair (Some And) v) (o, rest) n.2 in
      let s = bind_ok (after_byte 32 d.0) (λ v. got_pair (Some And) v) (o, rest) d.2 in
      let bytes = and_bytes b r n.0 d.0 s.0 (eqb-true b 97 a) (after_byte-Ok 110 r n.0 n.1) (after_byte-Ok 100 n.0 d.0 d.1)
      (after_byte-Ok 32 d.0 s.0 s.1) in
      word_read (b ∷ r) And o s.0 rest bytes s.2
  | inr n1 ↦ elim (cases_Bool (b == 111)) [
    | inl oh ↦
        let n = bind_ok (after_byte 114 r) (λ t. after_byte 32 t >>= λ u. got_pair (Some Or) u) (o, rest) (rw (n1, oh) at h) in
        let s = bind_ok (after_byte 32 n.0) (λ u. got_pair (Some Or) u) (o, rest) n.2 in
        let bytes = or_bytes b r n.0 s.0 (eqb-true b 111 oh) (after_byte-Ok 114 r n.0 n.1) (after_byte-Ok 32 n.0 s.0 s.1) in
        word_read (b ∷ r) Or o s.0 rest bytes s.2
    | inr n2 ↦ cc (rw (n1, n2) at h)
  ]
]

abbrev pub ReadsJoint : List ℕ → Option Joint → List ℕ → Type 0
ReadsJoint text None rest = (n : ℕ) × (text ≡ spaces n)
ReadsJoint text (Some j) rest = (n : ℕ) × (text ≡ spaces (suc n) ++ (joint_word j ++ (32 ∷ rest)))

spaced_word : (n : ℕ) (text word : List ℕ) (o : Option Joint) (rest : List ℕ) → text ≡ 32 ∷ (spaces n ++ word) → ReadsWord word o rest
    → ReadsJoint text o rest
spaced_word n text word None rest e w = (suc n, e ∙ ap (λ (t : List ℕ). 32 ∷ (spaces n ++ t)) w ∙ append-nil (spaces (suc n)))
spaced_word n text word (Some j) rest e w = (n, e ∙ ap (λ (t : List ℕ). 32 ∷ (spaces n ++ t)) w)

pub joint_of-Ok : (text : List ℕ) (o : Option Joint) (rest : List ℕ) → joint_of text ≡ Ok (o, rest) → ReadsJoint text o rest
joint_of-Ok [] o rest h =
    let pair = got_joint None o [] rest (sym joint_nil ∙ h) in
    subst (λ (q : Option Joint). ReadsJoint [] q rest) pair.0 (0, refl)
joint_of-Ok (b ∷ r) o rest h = elim (cases_Bool (b == 32)) [
  | inl space ↦
      let word = word_of-Ok (without_spaces r) o rest (sym (joint_space b r space) ∙ h) in
      let gap = spaces_of r in
      spaced_word gap.0 (b ∷ r) (without_spaces r) o rest (ap (λ (k : ℕ). k ∷ r) (eqb-true b 32 space) ∙ ap (λ (t : List ℕ). 32 ∷ t) gap.1) word
  | inr other ↦ cc (sym (joint_other b r other) ∙ h)
]

-- ---- what the code's clauses say beside the values

pub record ComparisonFits (text rest : List ℕ) (c : Condition) : Type 0 where
  pub pre : is_pre_release c.operand.3 ≡ true
  pub build : is_build c.operand.4 ≡ true
  pub shorter : length rest ≤ length text

pub comparison_fits : (text : List ℕ) (c : Condition) (rest : List ℕ) → comparison_of text ≡ Ok (c, rest) → ComparisonFits text rest c
comparison_fits text c rest e =
    let read = comparison_of-Ok text c rest e in
    let size = ap length read.2 in
    let valid = (read.3).valid in
    record {
      pre = valid.3;
      build = valid.4;
      shorter = omega (arith, size, length-append (spaces read.0) (read.1 ++ rest), length-append read.1 rest);
    }

pub joint_shorter : (text : List ℕ) (j : Joint) (rest : List ℕ) → joint_of text ≡ Ok (Some j, rest) → length rest < length text
joint_shorter text j rest e =
    let read = joint_of-Ok text (Some j) rest e in
    let word = joint_word j ++ (32 ∷ rest) in
    omega (arith, ap length read.1, length-append (spaces (suc read.0)) word, length-append (joint_word j) (32 ∷ rest))

pub joint_fits : (text : List ℕ) (r : Result (Option Joint × Bor (List ℕ)) Stuck) → read_view r ≡ joint_of text
    → IfOk r (λ read. IsSome read.0 → length read.1.now < length text)
joint_fits text (Err s) e = tt
joint_fits text (Ok (None, rest)) e = λ some. cc some
joint_fits text (Ok (Some j, rest)) e = λ some. joint_shorter text j rest.now (sym e)
