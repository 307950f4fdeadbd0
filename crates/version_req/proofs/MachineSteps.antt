-- The readers of specs/Reading.antt follow the machine of specs/Machine.antt.
use Rattle.std.proofs.Common.{◌≡◌, ℕ, ◌-◌, ◌==◌, ◌++◌, ◌&&◌, List, [], ◌∷◌, length, Bool, true, false, Result, Ok, Err, Option, Some, None, refl, sym, ◌∙◌, inl, inr, subst, ◌⊎◌}
use Rattle.std.specs.Char.{is_ascii_digit}
use Rattle.std.proofs.lemmas.Bool.{cases_Bool}
use Rattle.semver.specs.Grammar.{is_identifier_byte}
use Rattle.version_req.specs.declared.operator.Operator.{Operator}
use Rattle.version_req.specs.declared.operator.Operator.TheVariants.{Equal, NotEqual, Greater, GreaterOrEqual, Less, LessOrEqual, Compatible}
use Rattle.version_req.specs.declared.scanned.Joint.{Joint}
use Rattle.version_req.specs.declared.scanned.Joint.TheVariants.{And, Or}
use Rattle.version_req.specs.declared.identifiers.Kind.{Kind}
use Rattle.version_req.specs.declared.identifiers.Kind.TheVariants.{PreRelease, Build}
use Rattle.version_req.specs.declared.scan.Head.{Head}
use Rattle.version_req.specs.declared.scan.Stuck.{Stuck}
use Rattle.version_req.specs.Condition.{Condition}
use Rattle.version_req.specs.Machine.{Numbers, Major, Minor, Patch, Place, Lead, Half, Angle, Before, Number, Whole, Ids, AfterPre, After, Gap, Word, Tree, Go, Close, Enter, finish, run, step, joined, with_condition, closed, first_digit, lacking_patch}
use Rattle.version_req.specs.Reading.{Read, ◌>>=◌, after_byte, comparison_of, completed, condition, digits_of, full_head, head_of, identifiers_from, is_identifier, joint_of, marked_of, number_of, operator_of, patch_of, short_head, with_digit, with_equal, without_spaces, word_of}
use Rattle.version_req.proofs.ReadingSteps.{comparison_is, digits_nil, digits_over, digits_refuse, digits_take, head_is, ids_bad, ids_byte, ids_dot, ids_nil_bad, ids_nil_good, ids_stop, joint_nil, joint_other, joint_space, number_digit, number_nil, number_other}

-- ---- single steps

pub go : (p q : Place) (b : ℕ) (rest : List ℕ) (tree : Tree) → step p b ≡ Some (Go q) → run (b ∷ rest) p tree ≡ run rest q tree
unfolding run
go p q b rest tree h = rw h refl

pub close : (p : Place) (c : Condition) (b : ℕ) (rest : List ℕ) (tree : Tree) → step p b ≡ Some (Close c)
    → run (b ∷ rest) p tree ≡ run rest Gap (with_condition c tree)
unfolding run
close p c b rest tree h = rw h refl

pub enter : (p : Place) (j : Joint) (b : ℕ) (rest : List ℕ) (tree : Tree) → step p b ≡ Some (Enter j)
    → run (b ∷ rest) p tree ≡ run rest Lead (joined j tree)
unfolding run
enter p j b rest tree h = rw h refl

pub halt : (p : Place) (b : ℕ) (rest : List ℕ) (tree : Tree) → step p b ≡ None → run (b ∷ rest) p tree ≡ Err (length (b ∷ rest))
unfolding run
halt p b rest tree h = rw h refl

pub at_end : (p : Place) (tree : Tree) → run [] p tree ≡ finish p tree
unfolding run
at_end p tree = refl

-- two places that the next byte leaves in the same way
pub alike : (p q : Place) (b : ℕ) (rest : List ℕ) (tree : Tree) → step p b ≡ step q b → run (b ∷ rest) p tree ≡ run (b ∷ rest) q tree
unfolding run
alike p q b rest tree h = rw h refl

-- ---- what a reader read leads from one place to another, and where it is stuck the machine is

abbrev pub Follows : {A : Type 0} → Place → List ℕ → (A → Place) → Read A → Type 0
Follows from text to (Ok r) = (tree : Tree) → run text from tree ≡ run (r.1) (to (r.0)) tree
Follows from text to (Err s) = (tree : Tree) → run text from tree ≡ Err s.left

abbrev pub FollowsText : Place → List ℕ → Place → Result (List ℕ) Stuck → Type 0
FollowsText from text to (Ok rest) = (tree : Tree) → run text from tree ≡ run rest to tree
FollowsText from text to (Err s) = (tree : Tree) → run text from tree ≡ Err s.left

pub Follows-later : {A : Type 0} (p q : Place) (text rest : List ℕ) (to : A → Place) (r : Read A)
    → ((tree : Tree) → run text p tree ≡ run rest q tree) → Follows q rest to r → Follows p text to r
Follows-later p q text rest to (Ok x) same h = λ tree. same tree ∙ h tree
Follows-later p q text rest to (Err s) same h = λ tree. same tree ∙ h tree

pub Follows-bind : {A B : Type 0} (p : Place) (text : List ℕ) (mid : A → Place) (to : B → Place) (r : Read A) (f : A × List ℕ → Read B)
    → Follows p text mid r → ((x : A × List ℕ) → r ≡ Ok x → Follows (mid (x.0)) (x.1) to (f x)) → Follows p text to (r >>= f)
Follows-bind p text mid to (Ok x) f h next = Follows-later p (mid (x.0)) text (x.1) to (f x) h (next x refl)
Follows-bind p text mid to (Err s) f h next = h

pub Follows-text : {B : Type 0} (p q : Place) (text : List ℕ) (to : B → Place) (r : Result (List ℕ) Stuck) (f : List ℕ → Read B)
    → FollowsText p text q r → ((rest : List ℕ) → Follows q rest to (f rest)) → Follows p text to (r >>= f)
Follows-text p q text to (Ok rest) f h next = Follows-later p q text rest to (f rest) h (next rest)
Follows-text p q text to (Err s) f h next = h

-- ---- spaces

spaced : (rest : List ℕ) (b : ℕ) → (b == 32) ≡ true → without_spaces (b ∷ rest) ≡ without_spaces rest
unfolding without_spaces
spaced rest b h = rw h refl

unspaced : (rest : List ℕ) (b : ℕ) → (b == 32) ≡ false → without_spaces (b ∷ rest) ≡ b ∷ rest
unfolding without_spaces
unspaced rest b h = rw h refl

none_spaced : without_spaces [] ≡ []
unfolding without_spaces
none_spaced = refl

-- a place that spaces do not leave
pub over_spaces : (p : Place) → ((b : ℕ) → (b == 32) ≡ true → step p b ≡ Some (Go p)) → (text : List ℕ) (tree : Tree)
    → run text p tree ≡ run (without_spaces text) p tree
over_spaces p stays [] tree = rw none_spaced refl
over_spaces p stays (b ∷ rest) tree = elim (cases_Bool (b == 32)) [
  | inl space ↦ rw (spaced rest b space) (go p p b rest tree (stays b space) ∙ over_spaces p stays rest tree)
  | inr other ↦ rw (unspaced rest b other) refl
]

lead_stays : (b : ℕ) → (b == 32) ≡ true → step Lead b ≡ Some (Go Lead)
lead_stays b h = rw h refl

before_stays : (o : Operator) (b : ℕ) → (b == 32) ≡ true → step (Before (Major o)) b ≡ Some (Go (Before (Major o)))
before_stays o b h = rw h refl

gap_stays : (b : ℕ) → (b == 32) ≡ true → step Gap b ≡ Some (Go Gap)
gap_stays b h = rw h refl

pub spaces_lead : (text : List ℕ) (tree : Tree) → run text Lead tree ≡ run (without_spaces text) Lead tree
spaces_lead = over_spaces Lead lead_stays

pub spaces_before : (o : Operator) (text : List ℕ) (tree : Tree)
    → run text (Before (Major o)) tree ≡ run (without_spaces text) (Before (Major o)) tree
spaces_before o = over_spaces (Before (Major o)) (before_stays o)

pub spaces_gap : (text : List ℕ) (tree : Tree) → run text Gap tree ≡ run (without_spaces text) Gap tree
spaces_gap = over_spaces Gap gap_stays

-- a text that begins with no space
abbrev pub starts_space : List ℕ → Bool
starts_space [] = false
starts_space (b ∷ rest) = b == 32

pub starts_space-without : (text : List ℕ) → starts_space (without_spaces text) ≡ false
starts_space-without [] = rw none_spaced refl
starts_space-without (b ∷ rest) = elim (cases_Bool (b == 32)) [
  | inl space ↦ rw (spaced rest b space) (starts_space-without rest)
  | inr other ↦ rw (unspaced rest b other) other
]

-- ---- operators

-- one byte that has to stand there
pub byte_follows : (p q : Place) (byte : ℕ) (text : List ℕ)
    → ((tree : Tree) → finish p tree ≡ Err 0) → ((b : ℕ) → (b == byte) ≡ true → step p b ≡ Some (Go q))
    → ((b : ℕ) → (b == byte) ≡ false → step p b ≡ None)
    → FollowsText p text q (after_byte byte text)
byte_follows p q byte [] ends stands wants = λ tree. at_end p tree ∙ ends tree
byte_follows p q byte (b ∷ rest) ends stands wants = elim (cases_Bool (b == byte)) [
  | inl is ↦ rw is (λ tree. go p q b rest tree (stands b is))
  | inr other ↦ rw other (λ tree. halt p b rest tree (wants b other))
]

half_follows : (o : Operator) (byte : ℕ) (text : List ℕ) → FollowsText (Half byte o) text (Before (Major o)) (after_byte byte text)
half_follows o byte text = byte_follows (Half byte o) (Before (Major o)) byte text (λ tree. refl) (λ b h. rw h refl) (λ b h. rw h refl)

abbrev before_major : Operator → Place
before_major o = Before (Major o)

completed_follows : (o : Operator) (byte : ℕ) (text : List ℕ) → Follows (Half byte o) text before_major (completed o (after_byte byte text))
completed_follows o byte text =
    Follows-text (Half byte o) (Before (Major o)) text before_major (after_byte byte text) (λ rest. Ok (o, rest)) (half_follows o byte text)
    (λ rest tree. refl)

angle_follows : (alone both : Operator) (text : List ℕ) → Follows (Angle alone both) text before_major (Ok (with_equal alone both text))
angle_follows alone both [] = λ tree. at_end (Angle alone both) tree ∙ sym (at_end (Before (Major alone)) tree)
angle_follows alone both (b ∷ rest) = elim (cases_Bool (b == 61)) [
  | inl equal ↦ rw equal (λ tree. go (Angle alone both) (Before (Major both)) b rest tree (rw equal refl))
  | inr other ↦ rw other (λ tree. alike (Angle alone both) (Before (Major alone)) b rest tree (rw other refl))
]

pub operator_follows : (text : List ℕ) → starts_space text ≡ false → Follows Lead text before_major (operator_of text)
operator_follows [] h = λ tree. at_end Lead tree ∙ sym (at_end (Before (Major Equal)) tree)
operator_follows (b ∷ rest) h = elim (cases_Bool (b == 61)) [
  | inl equal ↦ rw equal (Follows-later Lead (Half 61 Equal) (b ∷ rest) rest before_major _
      (λ tree. go Lead (Half 61 Equal) b rest tree (rw (h, equal) refl)) (completed_follows Equal 61 rest))
  | inr n1 ↦ elim (cases_Bool (b == 33)) [
    | inl bang ↦ rw (n1, bang) (Follows-later Lead (Half 61 NotEqual) (b ∷ rest) rest before_major _
        (λ tree. go Lead (Half 61 NotEqual) b rest tree (rw (h, n1, bang) refl)) (completed_follows NotEqual 61 rest))
    | inr n2 ↦ elim (cases_Bool (b == 126)) [
      | inl tilde ↦ rw (n1, n2, tilde) (Follows-later Lead (Half 62 Compatible) (b ∷ rest) rest before_major _
          (λ tree. go Lead (Half 62 Compatible) b rest tree (rw (h, n1, n2, tilde) refl)) (completed_follows Compatible 62 rest))
      | inr n3 ↦ elim (cases_Bool (b == 62)) [
        | inl more ↦ rw (n1, n2, n3, more)
            (Follows-later Lead (Angle Greater GreaterOrEqual) (b ∷ rest) rest before_major (Ok (with_equal Greater GreaterOrEqual rest))
            (λ tree. go Lead (Angle Greater GreaterOrEqual) b rest tree (rw (h, n1, n2, n3, more) refl)) (angle_follows Greater GreaterOrEqual rest))
        | inr n4 ↦ elim (cases_Bool (b == 60)) [
          | inl less ↦ rw (n1, n2, n3, n4, less)
              (Follows-later Lead (Angle Less LessOrEqual) (b ∷ rest) rest before_major (Ok (with_equal Less LessOrEqual rest))
              (λ tree. go Lead (Angle Less LessOrEqual) b rest tree (rw (h, n1, n2, n3, n4, less) refl)) (angle_follows Less LessOrEqual rest))
          | inr n5 ↦ rw (n1, n2, n3, n4, n5) (λ tree. alike Lead (Before (Major Equal)) b rest tree (rw (h, n1, n2, n3, n4, n5) refl))
        ]
      ]
    ]
  ]
]

-- ---- numbers

-- whether a text starts with a digit
abbrev pub starts_digit : List ℕ → Bool
starts_digit [] = false
starts_digit (b ∷ rest) = is_ascii_digit b

pub cases_Option : {A : Type 0} (o : Option A) → (o ≡ None) ⊎ ((x : A) × (o ≡ Some x))
cases_Option None = inl refl
cases_Option (Some x) = inr (x, refl)

-- a number that was read ends where no digit follows
abbrev EndsDigits : Read ℕ → Type 0
EndsDigits (Ok r) = starts_digit (r.1) ≡ false
EndsDigits (Err s) = Unit {0}

pub digits_follow : (n : Numbers) (value : ℕ) (text : List ℕ)
    → Follows (Number n value) text (λ v. Number n v) (digits_of value text) × EndsDigits (digits_of value text)
digits_follow n value [] = rw (digits_nil value) ((λ tree. refl), refl)
digits_follow n value (b ∷ rest) = elim (cases_Bool (is_ascii_digit b)) [
  | inl digit ↦ elim (cases_Option (with_digit value (b - 48))) [
    | inl none ↦ rw (digits_refuse value b rest digit none) ((λ tree. halt (Number n value) b rest tree (rw (digit, none) refl)), tt)
    | inr (more, some) ↦
        let ih = digits_follow n more rest in
        rw (digits_take value more b rest digit some) (
          Follows-later (Number n value) (Number n more) (b ∷ rest) rest (λ v. Number n v) (digits_of more rest)
              (λ tree. go (Number n value) (Number n more) b rest tree (rw (digit, some) refl)) ih.0,
          ih.1,
        )
  ]
  | inr other ↦ rw (digits_over value b rest other) ((λ tree. refl), other)
]

-- spaces may stand before the first number alone
abbrev pub is_major : Numbers → Bool
is_major (Major o) = true
is_major n = false

before_first : (n : Numbers) (b : ℕ) → (is_major n && (b == 32)) ≡ false → step (Before n) b ≡ first_digit n b
before_first (Major o) b h = rw h refl
before_first (Minor o major) b h = refl
before_first (Patch o major minor) b h = refl

-- a number, where the text does not begin with a space that might stand there
pub number_follows : (n : Numbers) (text : List ℕ) → (is_major n && starts_space text) ≡ false
    → Follows (Before n) text (λ v. Number n v) (number_of text) × EndsDigits (number_of text)
number_follows n [] h = rw number_nil ((λ tree. at_end (Before n) tree), tt)
number_follows n (b ∷ rest) h = elim (cases_Bool (is_ascii_digit b)) [
  | inl digit ↦
      let more = digits_follow n (b - 48) rest in
      rw (number_digit b rest digit) (
        Follows-later (Before n) (Number n (b - 48)) (b ∷ rest) rest (λ v. Number n v) (digits_of (b - 48) rest)
            (λ tree. go (Before n) (Number n (b - 48)) b rest tree (before_first n b h ∙ rw digit refl)) more.0,
        more.1,
      )
  | inr other ↦ rw (number_other b rest other) ((λ tree. halt (Before n) b rest tree (before_first n b h ∙ rw other refl)), tt)
]

-- the dot after the first number
pub dot_follows : (o : Operator) (value : ℕ) (text : List ℕ) → starts_digit text ≡ false
    → FollowsText (Number (Major o) value) text (Before (Minor o value)) (after_byte 46 text)
dot_follows o value [] h = λ tree. at_end (Number (Major o) value) tree
dot_follows o value (b ∷ rest) h = elim (cases_Bool (b == 46)) [
  | inl dot ↦ rw dot (λ tree. go (Number (Major o) value) (Before (Minor o value)) b rest tree (rw (h, dot) refl))
  | inr other ↦ rw other (λ tree. halt (Number (Major o) value) b rest tree (rw (h, other) refl))
]

-- the numbers are whole, and what may follow them stands as after the last digit
patch_ends : (o : Operator) (a m v : ℕ) (text : List ℕ) (tree : Tree) → starts_digit text ≡ false
    → run text (Number (Patch o a m) v) tree ≡ run text (Whole (full_head o a m v)) tree
patch_ends o a m v [] tree h = at_end (Number (Patch o a m) v) tree ∙ sym (at_end (Whole (full_head o a m v)) tree)
patch_ends o a m v (b ∷ rest) tree h = alike (Number (Patch o a m) v) (Whole (full_head o a m v)) b rest tree (rw h refl)

-- no patch follows
abbrev starts_dot : List ℕ → Bool
starts_dot [] = false
starts_dot (b ∷ rest) = b == 46

short_refused : (o : Operator) (a m : ℕ) (text : List ℕ) → starts_digit text ≡ false → starts_dot text ≡ false → lacking_patch o a m ≡ None
    → (tree : Tree) → run text (Number (Minor o a) m) tree ≡ Err (length text)
short_refused o a m [] d p none tree = at_end (Number (Minor o a) m) tree ∙ rw none refl
short_refused o a m (b ∷ rest) d p none tree = halt (Number (Minor o a) m) b rest tree (rw (d, p, none) refl)

short_follows : (o : Operator) (a m : ℕ) (text : List ℕ) → starts_digit text ≡ false → starts_dot text ≡ false
    → Follows (Number (Minor o a) m) text (λ h. Whole h) (short_head o a m text)
short_follows Compatible a m [] d p = λ tree. at_end (Number (Minor Compatible a) m) tree
    ∙ sym (at_end (Whole (record { operator = Compatible; major = a; minor = m; patch = 0; patch_written = false })) tree)
short_follows Compatible a m (b ∷ rest) d p = λ tree. alike (Number (Minor Compatible a) m)
    (Whole (record { operator = Compatible; major = a; minor = m; patch = 0; patch_written = false })) b rest tree (rw (d, p) refl)
short_follows Equal a m text d p = short_refused Equal a m text d p refl
short_follows NotEqual a m text d p = short_refused NotEqual a m text d p refl
short_follows Greater a m text d p = short_refused Greater a m text d p refl
short_follows GreaterOrEqual a m text d p = short_refused GreaterOrEqual a m text d p refl
short_follows Less a m text d p = short_refused Less a m text d p refl
short_follows LessOrEqual a m text d p = short_refused LessOrEqual a m text d p refl

pub patch_follows : (o : Operator) (a m : ℕ) (text : List ℕ) → starts_digit text ≡ false
    → Follows (Number (Minor o a) m) text (λ h. Whole h) (patch_of o a m text)
patch_follows o a m [] d = short_follows o a m [] d refl
patch_follows o a m (b ∷ rest) d = elim (cases_Bool (b == 46)) [
  | inl dot ↦
      let read = number_follows (Patch o a m) rest refl in
      let to : Head → Place = λ h. Whole h in
      rw dot (Follows-later (Number (Minor o a) m) (Before (Patch o a m)) (b ∷ rest) rest to _
      (λ tree. go (Number (Minor o a) m) (Before (Patch o a m)) b rest tree (rw (d, dot) refl))
      (Follows-bind (Before (Patch o a m)) rest (λ v. Number (Patch o a m) v) to (number_of rest) (λ p. Ok (full_head o a m p.0, p.1)) read.0
      (λ x e tree. patch_ends o a m x.0 x.1 tree (subst EndsDigits e read.1))))
  | inr other ↦ rw other (short_follows o a m (b ∷ rest) d other)
]

-- ---- the operator and the numbers

abbrev whole : Head → Place
whole h = Whole h

pub head_follows : (text : List ℕ) → Follows Lead text whole (head_of text)
head_follows text = rw (head_is text) (
    Follows-later Lead Lead text (without_spaces text) whole _ (spaces_lead text)
    (Follows-bind Lead (without_spaces text) before_major whole (operator_of (without_spaces text)) _
    (operator_follows (without_spaces text) (starts_space-without text)) (λ o _.
    Follows-later (Before (Major o.0)) (Before (Major o.0)) o.1 (without_spaces o.1) whole _ (spaces_before o.0 o.1)
    (let major = number_follows (Major o.0) (without_spaces o.1) (starts_space-without o.1) in
    Follows-bind (Before (Major o.0)) (without_spaces o.1) (λ v. Number (Major o.0) v) whole (number_of (without_spaces o.1)) _ major.0 (λ a ea.
    Follows-text (Number (Major o.0) a.0) (Before (Minor o.0 a.0)) a.1 whole (after_byte 46 a.1) _
    (dot_follows o.0 a.0 a.1 (subst EndsDigits ea major.1)) (λ t.
    let minor = number_follows (Minor o.0 a.0) t refl in
    Follows-bind (Before (Minor o.0 a.0)) t (λ v. Number (Minor o.0 a.0) v) whole (number_of t) _ minor.0 (λ m em.
    patch_follows o.0 a.0 m.0 m.1 (subst EndsDigits em minor.1))))))))

-- ---- identifiers

-- where identifiers of a kind lead
abbrev pub after_ids : Kind → Head → List ℕ → List ℕ → Place
after_ids PreRelease h pre text = AfterPre h text
after_ids Build h pre text = After (condition h pre text)

ids_leave : (k : Kind) (h : Head) (pre text last : List ℕ) (b : ℕ) → is_identifier_byte b ≡ false → is_identifier k last ≡ true → (b == 46) ≡ false
    → step (Ids k h pre text last) b ≡ step (after_ids k h pre text) b
ids_leave PreRelease h pre text last b x g d = rw (x, g, d) refl
ids_leave Build h pre text last b x g d = rw (x, g, d) refl

ids_finish : (k : Kind) (h : Head) (pre text last : List ℕ) (tree : Tree) → is_identifier k last ≡ true
    → finish (Ids k h pre text last) tree ≡ finish (after_ids k h pre text) tree
ids_finish PreRelease h pre text last tree g = rw g refl
ids_finish Build h pre text last tree g = rw g refl

pub ids_follow : (k : Kind) (h : Head) (pre text last rest : List ℕ)
    → Follows (Ids k h pre text last) rest (after_ids k h pre) (identifiers_from k text last rest)
ids_follow k h pre text last [] = elim (cases_Bool (is_identifier k last)) [
  | inl good ↦ rw (ids_nil_good k text last good)
      (λ tree. at_end (Ids k h pre text last) tree ∙ ids_finish k h pre text last tree good ∙ sym (at_end (after_ids k h pre text) tree))
  | inr bad ↦ rw (ids_nil_bad k text last bad) (λ tree. at_end (Ids k h pre text last) tree ∙ rw bad refl)
]
ids_follow k h pre text last (b ∷ rest) = elim (cases_Bool (is_identifier_byte b)) [
  | inl letter ↦ rw (ids_byte k text last b rest letter)
      (Follows-later (Ids k h pre text last) (Ids k h pre (text ++ b ∷ []) (last ++ b ∷ [])) (b ∷ rest) rest (after_ids k h pre) _
      (λ tree. go (Ids k h pre text last) (Ids k h pre (text ++ b ∷ []) (last ++ b ∷ [])) b rest tree (rw letter refl))
      (ids_follow k h pre (text ++ b ∷ []) (last ++ b ∷ []) rest))
  | inr other ↦ elim (cases_Bool (is_identifier k last)) [
    | inr bad ↦ rw (ids_bad k text last b rest other bad) (λ tree. halt (Ids k h pre text last) b rest tree (rw (other, bad) refl))
    | inl good ↦ elim (cases_Bool (b == 46)) [
      | inl dot ↦ rw (ids_dot k text last b rest other good dot)
          (Follows-later (Ids k h pre text last) (Ids k h pre (text ++ b ∷ []) []) (b ∷ rest) rest (after_ids k h pre) _
          (λ tree. go (Ids k h pre text last) (Ids k h pre (text ++ b ∷ []) []) b rest tree (rw (other, good, dot) refl))
          (ids_follow k h pre (text ++ b ∷ []) [] rest))
      | inr stop ↦ rw (ids_stop k text last b rest other good stop)
          (λ tree. alike (Ids k h pre text last) (after_ids k h pre text) b rest tree (ids_leave k h pre text last b other good stop))
    ]
  ]
]

pub pre_follows : (h : Head) (text : List ℕ) → Follows (Whole h) text (λ pre. AfterPre h pre) (marked_of PreRelease text)
pre_follows h [] = λ tree. at_end (Whole h) tree ∙ sym (at_end (AfterPre h []) tree)
pre_follows h (b ∷ rest) = elim (cases_Bool (b == 45)) [
  | inl mark ↦ rw mark (Follows-later (Whole h) (Ids PreRelease h [] [] []) (b ∷ rest) rest (λ pre. AfterPre h pre) _
      (λ tree. go (Whole h) (Ids PreRelease h [] [] []) b rest tree (rw mark refl)) (ids_follow PreRelease h [] [] [] rest))
  | inr other ↦ rw other (λ tree. alike (Whole h) (AfterPre h []) b rest tree (rw other refl))
]

pub build_follows : (h : Head) (pre text : List ℕ) → Follows (AfterPre h pre) text (λ build. After (condition h pre build)) (marked_of Build text)
build_follows h pre [] = λ tree. at_end (AfterPre h pre) tree ∙ sym (at_end (After (condition h pre [])) tree)
build_follows h pre (b ∷ rest) = elim (cases_Bool (b == 43)) [
  | inl mark ↦ rw mark (Follows-later (AfterPre h pre) (Ids Build h pre [] []) (b ∷ rest) rest (λ build. After (condition h pre build)) _
      (λ tree. go (AfterPre h pre) (Ids Build h pre [] []) b rest tree (rw mark refl)) (ids_follow Build h pre [] [] rest))
  | inr other ↦ rw other (λ tree. alike (AfterPre h pre) (After (condition h pre [])) b rest tree (rw other refl))
]

-- ---- a whole comparison

abbrev pub after : Condition → Place
after c = After c

pub comparison_follows : (text : List ℕ) → Follows Lead text after (comparison_of text)
comparison_follows text = rw (comparison_is text) (
    Follows-bind Lead text whole after (head_of text) _ (head_follows text) (λ h _.
    Follows-bind (Whole h.0) h.1 (λ pre. AfterPre h.0 pre) after (marked_of PreRelease h.1) _ (pre_follows h.0 h.1) (λ pre _.
    Follows-bind (AfterPre h.0 pre.0) pre.1 (λ build. After (condition h.0 pre.0 build)) after (marked_of Build pre.1) _
    (build_follows h.0 pre.0 pre.1) (λ build _ tree. refl))))

-- ---- what follows a comparison

abbrev pub Joins : Place → List ℕ → Tree → Read (Option Joint) → Type 0
Joins p text tree (Ok (None, rest)) = run text p tree ≡ Ok (closed tree)
Joins p text tree (Ok (Some j, rest)) = run text p tree ≡ run rest Lead (joined j tree)
Joins p text tree (Err s) = run text p tree ≡ Err s.left

Joins-later : (p q : Place) (text rest : List ℕ) (tree : Tree) (r : Read (Option Joint)) → run text p tree ≡ run rest q tree
    → Joins q rest tree r → Joins p text tree r
Joins-later p q text rest tree (Ok (None, after)) same h = same ∙ h
Joins-later p q text rest tree (Ok (Some j, after)) same h = same ∙ h
Joins-later p q text rest tree (Err s) same h = same ∙ h

Joins-text : (p q : Place) (text : List ℕ) (tree : Tree) (r : Result (List ℕ) Stuck) (f : List ℕ → Read (Option Joint))
    → FollowsText p text q r → ((rest : List ℕ) → Joins q rest tree (f rest)) → Joins p text tree (r >>= f)
Joins-text p q text tree (Ok rest) f h next = Joins-later p q text rest tree (f rest) (h tree) (next rest)
Joins-text p q text tree (Err s) f h next = h tree

letter_follows : (x y : ℕ) (others : List ℕ) (j : Joint) (text : List ℕ)
    → FollowsText (Word x (y ∷ others) j) text (Word y others j) (after_byte x text)
letter_follows x y others j text = byte_follows (Word x (y ∷ others) j) (Word y others j) x text (λ tree. refl) (λ b h. rw h refl) (λ b h. rw h refl)

word_ends : (j : Joint) (text : List ℕ) (tree : Tree) → Joins (Word 32 [] j) text tree (after_byte 32 text >>= λ rest. Ok (Some j, rest))
word_ends j [] tree = at_end (Word 32 [] j) tree
word_ends j (b ∷ rest) tree = elim (cases_Bool (b == 32)) [
  | inl space ↦ rw space (enter (Word 32 [] j) j b rest tree (rw space refl))
  | inr other ↦ rw other (halt (Word 32 [] j) b rest tree (rw other refl))
]

and_joins : (text : List ℕ) (tree : Tree)
    → Joins (Word 110 (100 ∷ 32 ∷ []) And) text tree
    (after_byte 110 text >>= λ t. after_byte 100 t >>= λ u. after_byte 32 u >>= λ v. Ok (Some And, v))
and_joins text tree =
    Joins-text (Word 110 (100 ∷ 32 ∷ []) And) (Word 100 (32 ∷ []) And) text tree (after_byte 110 text) _ (letter_follows 110 100 (32 ∷ []) And text)
    (λ t.
    Joins-text (Word 100 (32 ∷ []) And) (Word 32 [] And) t tree (after_byte 100 t) _ (letter_follows 100 32 [] And t) (λ u. word_ends And u tree))

or_joins : (text : List ℕ) (tree : Tree) → Joins (Word 114 (32 ∷ []) Or) text tree
    (after_byte 114 text >>= λ t. after_byte 32 t >>= λ u. Ok (Some Or, u))
or_joins text tree =
    Joins-text (Word 114 (32 ∷ []) Or) (Word 32 [] Or) text tree (after_byte 114 text) _ (letter_follows 114 32 [] Or text) (λ t. word_ends Or t tree)

word_joins : (text : List ℕ) (tree : Tree) → starts_space text ≡ false → Joins Gap text tree (word_of text)
word_joins [] tree h = at_end Gap tree
word_joins (b ∷ rest) tree h = elim (cases_Bool (b == 97)) [
  | inl a ↦ rw a (Joins-later Gap (Word 110 (100 ∷ 32 ∷ []) And) (b ∷ rest) rest tree _
      (go Gap (Word 110 (100 ∷ 32 ∷ []) And) b rest tree (rw (h, a) refl)) (and_joins rest tree))
  | inr n1 ↦ elim (cases_Bool (b == 111)) [
    | inl o ↦ rw (n1, o) (Joins-later Gap (Word 114 (32 ∷ []) Or) (b ∷ rest) rest tree _
        (go Gap (Word 114 (32 ∷ []) Or) b rest tree (rw (h, n1, o) refl)) (or_joins rest tree))
    | inr n2 ↦ rw (n1, n2) (halt Gap b rest tree (rw (h, n1, n2) refl))
  ]
]

-- what follows the comparison c, where the tree has it already
abbrev pub JoinsAfter : Condition → List ℕ → Tree → Read (Option Joint) → Type 0
JoinsAfter c text tree (Ok (None, rest)) = run text (After c) tree ≡ Ok (closed (with_condition c tree))
JoinsAfter c text tree (Ok (Some j, rest)) = run text (After c) tree ≡ run rest Lead (joined j (with_condition c tree))
JoinsAfter c text tree (Err s) = run text (After c) tree ≡ Err s.left

after_gap : (c : Condition) (text rest : List ℕ) (tree : Tree) (r : Read (Option Joint))
    → run text (After c) tree ≡ run rest Gap (with_condition c tree)
    → Joins Gap rest (with_condition c tree) r → JoinsAfter c text tree r
after_gap c text rest tree (Ok (None, after)) same h = same ∙ h
after_gap c text rest tree (Ok (Some j, after)) same h = same ∙ h
after_gap c text rest tree (Err s) same h = same ∙ h

pub joint_follows : (c : Condition) (text : List ℕ) (tree : Tree) → JoinsAfter c text tree (joint_of text)
joint_follows c [] tree = rw joint_nil (at_end (After c) tree)
joint_follows c (b ∷ rest) tree = elim (cases_Bool (b == 32)) [
  | inl space ↦ rw (joint_space b rest space)
      (after_gap c (b ∷ rest) (without_spaces rest) tree (word_of (without_spaces rest))
      (close (After c) c b rest tree (rw space refl) ∙ spaces_gap rest (with_condition c tree))
      (word_joins (without_spaces rest) (with_condition c tree) (starts_space-without rest)))
  | inr other ↦ rw (joint_other b rest other) (halt (After c) b rest tree (rw other refl))
]
