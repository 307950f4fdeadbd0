-- Where the machine is stuck: some text leads on from each place before, and none from there.
use Rattle.std.proofs.Common.{◌≡◌, ◌⊎◌, ℕ, ◌+◌, ◌-◌, ◌≤◌, ◌==◌, ◌++◌, ◌&&◌, List, [], ◌∷◌, length, Bool, true, false, Result, Ok, Err, Option, Some, None, refl, sym, ap, ◌∙◌, arith, inl, inr, subst, length-append}
use Rattle.std.specs.Prelude.{if◌then◌else◌, nat_lt}
use Rattle.std.specs.Char.{is_ascii_digit}
use Rattle.std.specs.List.{list_all}
use Rattle.std.proofs.lemmas.Bool.{cases_Bool, eq-eqb, lt-ltb}
use Rattle.std.proofs.lemmas.List.Folds.{list_all-append}
use Rattle.semver.specs.Grammar.{is_build_identifier, is_identifier_byte}
use Rattle.semver.specs.Order.{is_numeric}
use Rattle.version_req.specs.declared.operator.Operator.{Operator}
use Rattle.version_req.specs.declared.operator.Operator.TheVariants.{Equal, NotEqual, Greater, GreaterOrEqual, Less, LessOrEqual, Compatible}
use Rattle.version_req.specs.declared.scanned.Joint.{Joint}
use Rattle.version_req.specs.declared.scanned.Joint.TheVariants.{And, Or}
use Rattle.version_req.specs.declared.identifiers.Kind.{Kind}
use Rattle.version_req.specs.declared.identifiers.Kind.TheVariants.{PreRelease, Build}
use Rattle.version_req.specs.declared.scan.Head.{Head}
use Rattle.version_req.specs.Condition.{Condition, Alternatives}
use Rattle.reading.specs.Refusal.{IsStuck}
use Rattle.reading.proofs.Refusals.{refused_where_stuck}
use Rattle.version_req.specs.Grammar.{IsSpelled}
use Rattle.version_req.specs.Machine.{Numbers, Major, Minor, Patch, Place, Lead, Half, Angle, Before, Number, Whole, Ids, AfterPre, After, Gap, Word, Tree, Next, Go, Close, Enter, after_letter, closed, closing, empty, ends, finish, ids_end, ids_ends, joined, lacking_patch, next_digit, number_end, run, step, with_condition}
use Rattle.version_req.specs.Reading.{is_identifier, with_digit}
use Rattle.version_req.specs.Refusal.{IsRefusedAt}
use Rattle.version_req.proofs.Complete.{run-Spells}
use Rattle.version_req.proofs.MachineSteps.{at_end, cases_Option, close, enter, go, halt}
use Rattle.version_req.proofs.RunSound.{Spells-run}

-- ---- places that can be reached: the last identifier has bytes of identifiers alone

abbrev IsSound : Place → Type 0
IsSound (Ids kind h pre text last) = list_all is_identifier_byte last ≡ true
IsSound place = Unit {0}

abbrev LeadsSound : Option Next → Type 0
LeadsSound (Some (Go place)) = IsSound place
LeadsSound next = Unit {0}

if_sound : (b : Bool) (x y : Option Next) → LeadsSound x → LeadsSound y → LeadsSound (if b then x else y)
if_sound true x y p q = p
if_sound false x y p q = q

end_sound : (c : Condition) (b : ℕ) → LeadsSound (if b == 32 then Some (Close c) else None)
end_sound c b = if_sound (b == 32) (Some (Close c)) None tt tt

pre_sound : (h : Head) (pre : List ℕ) (b : ℕ) → LeadsSound (step (AfterPre h pre) b)
pre_sound h pre b = if_sound (b == 43) (Some (Go (Ids Build h pre [] []))) _ refl (end_sound _ b)

numbers_sound : (h : Head) (b : ℕ) → LeadsSound (step (Whole h) b)
numbers_sound h b = if_sound (b == 45) (Some (Go (Ids PreRelease h [] [] []))) _ refl (pre_sound h [] b)

first_sound : (n : Numbers) (b : ℕ) → LeadsSound (if is_ascii_digit b then Some (Go (Number n (b - 48))) else None)
first_sound n b = if_sound (is_ascii_digit b) (Some (Go (Number n (b - 48)))) None tt tt

before_sound : (n : Numbers) (b : ℕ) → LeadsSound (step (Before n) b)
before_sound (Major o) b = if_sound (b == 32) (Some (Go (Before (Major o)))) _ tt (first_sound (Major o) b)
before_sound (Minor o a) b = first_sound (Minor o a) b
before_sound (Patch o a m) b = first_sound (Patch o a m) b

lead_sound : (b : ℕ) → LeadsSound (step Lead b)
lead_sound b =
    if_sound (b == 32) (Some (Go Lead)) _ tt (
    if_sound (b == 61) (Some (Go (Half 61 Equal))) _ tt (
    if_sound (b == 33) (Some (Go (Half 61 NotEqual))) _ tt (
    if_sound (b == 126) (Some (Go (Half 62 Compatible))) _ tt (
    if_sound (b == 62) (Some (Go (Angle Greater GreaterOrEqual))) _ tt (
    if_sound (b == 60) (Some (Go (Angle Less LessOrEqual))) _ tt (first_sound (Major Equal) b))))))

digit_sound : (n : Numbers) (o : Option ℕ) → LeadsSound (next_digit n o)
digit_sound n (Some v) = tt
digit_sound n None = tt

lacking_sound : (o : Operator) (a v b : ℕ) → (lacking_patch o a v ≡ None) ⊎ ((h : Head) × (lacking_patch o a v ≡ Some h))
    → LeadsSound (number_end (Minor o a) v b)
lacking_sound o a v b (inl none) = if_sound (b == 46) (Some (Go (Before (Patch o a v)))) _ tt (rw none tt)
lacking_sound o a v b (inr (h, some)) = if_sound (b == 46) (Some (Go (Before (Patch o a v)))) _ tt (rw some (numbers_sound h b))

number_sound : (n : Numbers) (v b : ℕ) → LeadsSound (number_end n v b)
number_sound (Major o) v b = if_sound (b == 46) (Some (Go (Before (Minor o v)))) None tt tt
number_sound (Minor o a) v b = lacking_sound o a v b (cases_Option (lacking_patch o a v))
number_sound (Patch o a m) v b = numbers_sound (record { operator = o; major = a; minor = m; patch = v; patch_written = true }) b

ids_end_sound : (k : Kind) (h : Head) (pre text : List ℕ) (b : ℕ) → LeadsSound (ids_end k h pre text b)
ids_end_sound PreRelease h pre text b = pre_sound h text b
ids_end_sound Build h pre text b = end_sound _ b

ids_sound : (k : Kind) (h : Head) (pre text last : List ℕ) (b : ℕ) → list_all is_identifier_byte last ≡ true
    → LeadsSound (step (Ids k h pre text last) b)
ids_sound k h pre text last b all = elim (cases_Bool (is_identifier_byte b)) [
  | inl letter ↦ rw letter (rw (list_all-append, all, letter) refl)
  | inr other ↦ rw other (
      if_sound (is_identifier k last) _ None
      (if_sound (b == 46) (Some (Go (Ids k h pre (text ++ b ∷ []) []))) _ refl (ids_end_sound k h pre text b)) tt)
]

letter_sound : (others : List ℕ) (j : Joint) → LeadsSound (Some (after_letter others j))
letter_sound [] j = tt
letter_sound (x ∷ others) j = tt

step_sound : (p : Place) (b : ℕ) → IsSound p → LeadsSound (step p b)
step_sound Lead b s = lead_sound b
step_sound (Half second o) b s = if_sound (b == second) (Some (Go (Before (Major o)))) None tt tt
step_sound (Angle alone both) b s = if_sound (b == 61) (Some (Go (Before (Major both)))) _ tt (before_sound (Major alone) b)
step_sound (Before n) b s = before_sound n b
step_sound (Number n v) b s = if_sound (is_ascii_digit b) _ _ (digit_sound n (with_digit v (b - 48))) (number_sound n v b)
step_sound (Whole h) b s = numbers_sound h b
step_sound (Ids k h pre text last) b s = ids_sound k h pre text last b s
step_sound (AfterPre h pre) b s = pre_sound h pre b
step_sound (After c) b s = end_sound c b
step_sound Gap b s =
    if_sound (b == 32) (Some (Go Gap)) _ tt (
    if_sound (b == 97) (Some (Go (Word 110 (100 ∷ 32 ∷ []) And))) _ tt (
    if_sound (b == 111) (Some (Go (Word 114 (32 ∷ []) Or))) None tt tt))
step_sound (Word next others j) b s = if_sound (b == next) (Some (after_letter others j)) None (letter_sound others j) tt

-- ---- from each such place some text leads to a requirement

abbrev Lives : Place → Tree → Type 0
Lives p tree = (w : List ℕ) × (r : Alternatives) × (run w p tree ≡ Ok r)

-- one byte before a text that leads on
lives_before : (p q : Place) (b : ℕ) (tree : Tree) → step p b ≡ Some (Go q) → Lives q tree → Lives p tree
lives_before p q b tree h (w, r, e) = (b ∷ w, r, go p q b w tree h ∙ e)

lives_whole : (o : Operator) (a m v : ℕ) (tree : Tree) → Lives (Number (Patch o a m) v) tree
lives_whole o a m v tree = ([], closed (with_condition _ tree), at_end (Number (Patch o a m) v) tree)

lives_minor : (o : Operator) (a v : ℕ) (tree : Tree) → Lives (Number (Minor o a) v) tree
lives_minor o a v tree =
    lives_before (Number (Minor o a) v) (Before (Patch o a v)) 46 tree refl
    (lives_before (Before (Patch o a v)) (Number (Patch o a v) 0) 48 tree refl (lives_whole o a v 0 tree))

lives_major : (o : Operator) (v : ℕ) (tree : Tree) → Lives (Number (Major o) v) tree
lives_major o v tree =
    lives_before (Number (Major o) v) (Before (Minor o v)) 46 tree refl
    (lives_before (Before (Minor o v)) (Number (Minor o v) 0) 48 tree refl (lives_minor o v 0 tree))

lives_number : (n : Numbers) (v : ℕ) (tree : Tree) → Lives (Number n v) tree
lives_number (Major o) v tree = lives_major o v tree
lives_number (Minor o a) v tree = lives_minor o a v tree
lives_number (Patch o a m) v tree = lives_whole o a m v tree

zero_step : (n : Numbers) → step (Before n) 48 ≡ Some (Go (Number n 0))
zero_step (Major o) = refl
zero_step (Minor o a) = refl
zero_step (Patch o a m) = refl

lives_first : (n : Numbers) (tree : Tree) → Lives (Before n) tree
lives_first n tree = lives_before (Before n) (Number n 0) 48 tree (zero_step n) (lives_number n 0 tree)

lives_lead : (tree : Tree) → Lives Lead tree
lives_lead tree = lives_before Lead (Number (Major Equal) 0) 48 tree refl (lives_number (Major Equal) 0 tree)

and_false : (x : Bool) → (x && false) ≡ false
and_false true = refl
and_false false = refl

-- identifiers that go on with a letter are good
letter_good : (k : Kind) (last : List ℕ) → list_all is_identifier_byte last ≡ true → is_identifier k (last ++ 97 ∷ []) ≡ true
letter_good k last all =
    let size : length (last ++ 97 ∷ []) ≡ length last + 1 = length-append last (97 ∷ []) in
    let some : nat_lt 0 (length (last ++ 97 ∷ [])) ≡ true = rw size (lt-ltb 0 (length last + 1) (omega arith)) in
    let bytes : list_all is_identifier_byte (last ++ 97 ∷ []) ≡ true = rw (list_all-append, all) refl in
    let numeric : is_numeric (last ++ 97 ∷ []) ≡ false = rw list_all-append (and_false (is_numeric last)) in
    let build : is_build_identifier (last ++ 97 ∷ []) ≡ true = rw (some, bytes) refl in
    elim k as (λ (z : Kind). is_identifier z (last ++ 97 ∷ []) ≡ true) [
      | PreRelease ↦ rw (some, bytes, numeric) refl
      | Build ↦ build
    ]

lives_word : (next : ℕ) (others : List ℕ) (j : Joint) (tree : Tree) → Lives (Word next others j) tree
lives_word next [] j tree =
    let w = lives_lead (joined j tree) in
    (next ∷ w.0, w.1, enter (Word next [] j) j next w.0 tree (rw (eq-eqb next next refl) refl) ∙ w.2)
lives_word next (x ∷ others) j tree =
    lives_before (Word next (x ∷ others) j) (Word x others j) next tree (rw (eq-eqb next next refl) refl) (lives_word x others j tree)

ids_letter_end : (k : Kind) (h : Head) (pre text last : List ℕ) (tree : Tree) → is_identifier k last ≡ true → Lives (Ids k h pre text last) tree
ids_letter_end k h pre text last tree good =
    ([], closed (with_condition (ids_ends k h pre text) tree), at_end (Ids k h pre text last) tree ∙ rw good refl)

lives : (p : Place) (tree : Tree) → IsSound p → Lives p tree
lives Lead tree s = lives_lead tree
lives (Half second o) tree s = lives_before (Half second o) (Before (Major o)) second tree (rw (eq-eqb second second refl) refl)
    (lives_first (Major o) tree)
lives (Angle alone both) tree s = lives_before (Angle alone both) (Number (Major alone) 0) 48 tree refl (lives_number (Major alone) 0 tree)
lives (Before n) tree s = lives_first n tree
lives (Number n v) tree s = lives_number n v tree
lives (Whole h) tree s = ([], closed (with_condition _ tree), at_end (Whole h) tree)
lives (Ids k h pre text last) tree s =
    lives_before (Ids k h pre text last) (Ids k h pre (text ++ 97 ∷ []) (last ++ 97 ∷ [])) 97 tree refl
    (ids_letter_end k h pre (text ++ 97 ∷ []) (last ++ 97 ∷ []) tree (letter_good k last s))
lives (AfterPre h pre) tree s = ([], closed (with_condition _ tree), at_end (AfterPre h pre) tree)
lives (After c) tree s = ([], closed (with_condition c tree), at_end (After c) tree)
lives Gap tree s = ([], closed tree, at_end Gap tree)
lives (Word next others j) tree s = lives_word next others j tree

-- ---- where a text is stuck

closing_left : (o : Option Condition) (tree : Tree) (left : ℕ) → closing o tree ≡ Err left → left ≡ 0
closing_left (Some c) tree left h = cc h
closing_left None tree left h = cc h

finish_left : (p : Place) (tree : Tree) (left : ℕ) → finish p tree ≡ Err left → left ≡ 0
finish_left Lead tree left h = closing_left None tree left h
finish_left (Half second o) tree left h = closing_left None tree left h
finish_left (Angle alone both) tree left h = closing_left None tree left h
finish_left (Before n) tree left h = closing_left None tree left h
finish_left (Number n v) tree left h = closing_left (ends (Number n v)) tree left h
finish_left (Whole head) tree left h = closing_left (ends (Whole head)) tree left h
finish_left (Ids k head pre text last) tree left h = closing_left (ends (Ids k head pre text last)) tree left h
finish_left (AfterPre head pre) tree left h = closing_left (ends (AfterPre head pre)) tree left h
finish_left (After c) tree left h = closing_left (Some c) tree left h
finish_left Gap tree left h = cc h
finish_left (Word next others j) tree left h = closing_left None tree left h

-- the bytes that the machine takes, and the place that they lead to, where the next byte is refused
record StopsAt (text : List ℕ) (p : Place) (tree : Tree) (left : ℕ) : Type 0 where
  pub taken : List ℕ
  pub rest : List ℕ
  pub place : Place
  pub held : Tree
  pub bytes : text ≡ taken ++ rest
  pub size : length rest ≡ left
  pub sound : IsSound place
  pub leads : (x : List ℕ) → run (taken ++ x) p tree ≡ run x place held
  pub refuses : (b : ℕ) (more : List ℕ) → rest ≡ b ∷ more → step place b ≡ None

one_more : (p q : Place) (tree after : Tree) (b : ℕ) (rest : List ℕ) (left : ℕ) → ((x : List ℕ) → run (b ∷ x) p tree ≡ run x q after)
    → StopsAt rest q after left → StopsAt (b ∷ rest) p tree left
one_more p q tree after b rest left same s = record {
  taken = b ∷ s.taken;
  rest = s.rest;
  place = s.place;
  held = s.held;
  bytes = ap (λ (t : List ℕ). b ∷ t) s.bytes;
  size = s.size;
  sound = s.sound;
  leads = λ x. same (s.taken ++ x) ∙ s.leads x;
  refuses = s.refuses;
}

same_left : (m n : ℕ) → ◌≡◌ {A = Result Alternatives ℕ} (Err m) (Err n) → m ≡ n
same_left m n e = cc e

same_head : (a b : ℕ) (s t : List ℕ) → a ∷ s ≡ b ∷ t → a ≡ b
same_head a b s t e = cc e

stops_here : (p : Place) (tree : Tree) (b : ℕ) (rest : List ℕ) (left : ℕ) → IsSound p → step p b ≡ None → run (b ∷ rest) p tree ≡ Err left
    → StopsAt (b ∷ rest) p tree left
stops_here p tree b rest left s none h = record {
  taken = [];
  rest = b ∷ rest;
  place = p;
  held = tree;
  bytes = refl;
  size = same_left (length (b ∷ rest)) left (sym (halt p b rest tree none) ∙ h);
  sound = s;
  leads = λ x. refl;
  refuses = λ c more e. subst (λ (n : ℕ). step p n ≡ None) (same_head b c rest more e) none;
}

by_next : (p : Place) (tree : Tree) (b : ℕ) (rest : List ℕ) (left : ℕ) → IsSound p → run (b ∷ rest) p tree ≡ Err left
    → ((q : Place) (after : Tree) → IsSound q → run rest q after ≡ Err left → StopsAt rest q after left)
    → (o : Option Next) → step p b ≡ o → LeadsSound o → StopsAt (b ∷ rest) p tree left
by_next p tree b rest left s h ih None e sound = stops_here p tree b rest left s e h
by_next p tree b rest left s h ih (Some (Go q)) e sound =
    one_more p q tree tree b rest left (λ x. go p q b x tree e) (ih q tree sound (sym (go p q b rest tree e) ∙ h))
by_next p tree b rest left s h ih (Some (Close c)) e sound =
    let after = with_condition c tree in
    one_more p Gap tree after b rest left (λ x. close p c b x tree e) (ih Gap after tt (sym (close p c b rest tree e) ∙ h))
by_next p tree b rest left s h ih (Some (Enter j)) e sound =
    let after = joined j tree in
    one_more p Lead tree after b rest left (λ x. enter p j b x tree e) (ih Lead after tt (sym (enter p j b rest tree e) ∙ h))

stops : (text : List ℕ) (p : Place) (tree : Tree) (left : ℕ) → IsSound p → run text p tree ≡ Err left → StopsAt text p tree left
stops [] p tree left s h = record {
  taken = [];
  rest = [];
  place = p;
  held = tree;
  bytes = refl;
  size = sym (finish_left p tree left (sym (at_end p tree) ∙ h));
  sound = s;
  leads = λ x. refl;
  refuses = λ b more e. cc e;
}
stops (b ∷ rest) p tree left s h =
    by_next p tree b rest left s h (λ q after t e. stops rest q after left t e) (step p b) refl (step_sound p b s)

-- ---- the refusal

-- from a place with its tree, the text leads to a requirement
abbrev Leads : Place × Tree → List ℕ → Type 0
Leads at text = (requirement : Alternatives) × (run text at.0 at.1 ≡ Ok requirement)

-- what is left leads on from no place where the next byte is refused
stuck_there : (text : List ℕ) (left : ℕ) (s : StopsAt text Lead empty left) → run text Lead empty ≡ Err left
    → IsStuck Leads (s.place, s.held) s.rest
stuck_there text left s h = record {
  lives = let l = lives s.place s.held s.sound in (l.0, (l.1, l.2));
  ends = λ ended. cc (sym h ∙ ap (λ (t : List ℕ). run t Lead empty) s.bytes ∙ s.leads s.rest ∙ ended.1);
  refuses = λ byte others more e led. cc (sym led.1 ∙ halt s.place byte more s.held (s.refuses byte others e));
}

-- a text at which the machine is stuck is refused there
pub refused : (text : List ℕ) (left : ℕ) → run text Lead empty ≡ Err left → (left ≤ length text) × IsRefusedAt text (length text - left)
refused text left h =
    let s = stops text Lead empty left tt h in
    let size = ap length s.bytes ∙ length-append s.taken s.rest in
    let at : length s.taken ≡ length text - left = omega (arith, size, s.size) in
    let there : IsRefusedAt (s.taken ++ s.rest) (length s.taken) =
    refused_where_stuck IsSpelled Leads (Lead, empty) (s.place, s.held) s.taken s.rest
    (λ t spelled. (spelled.0, run-Spells t spelled.0 spelled.1)) (λ t led. (led.0, Spells-run t led.0 led.1))
    (λ more led. (led.0, sym (s.leads more) ∙ led.1)) (λ more led. (led.0, s.leads more ∙ led.1)) (stuck_there text left s h) in
    (omega (arith, size, s.size), subst (λ (t : List ℕ). IsRefusedAt t (length text - left)) (sym s.bytes) (subst (IsRefusedAt (s.taken ++ s.rest)) at there))
