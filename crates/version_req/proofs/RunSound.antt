-- What the machine accepts is spelled so.
use Rattle.std.proofs.Common.{◌≡◌, ℕ, zero, suc, ◌<◌, ◌++◌, List, [], ◌∷◌, length, Result, Ok, Err, Option, Some, None, refl, sym, ap, ◌∙◌, arith, subst, append_assoc, length-append, codes}
use Rattle.version_req.specs.declared.scanned.Joint.{Joint}
use Rattle.version_req.specs.declared.scanned.Joint.TheVariants.{And, Or}
use Rattle.version_req.specs.Condition.{Condition, Alternatives}
use Rattle.version_req.specs.Grammar.{Spells, SpellsAlternatives, SpellsComparison, spaces}
use Rattle.version_req.specs.Machine.{After, Lead, Tree, empty, run}
use Rattle.version_req.specs.Reading.{Read, comparison_of, joint_of}
use Rattle.version_req.proofs.MachineSteps.{Follows, JoinsAfter, after, comparison_follows, joint_follows}
use Rattle.version_req.proofs.Sound.{ReadsComparison, comparison_of-Ok, joint_of-Ok}

-- ---- one comparison in front of a requirement

abbrev and_text : List ℕ → ℕ → ℕ → List ℕ → List ℕ
and_text t before later inner = t ++ (spaces (suc before) ++ (codes "and" ++ (spaces (suc later) ++ inner)))

abbrev or_text : List ℕ → ℕ → ℕ → List ℕ → List ℕ
or_text t before later inner = t ++ (spaces (suc before) ++ (codes "or" ++ (spaces (suc later) ++ inner)))

and_regroup : (t s w l first s' w' l' rest : List ℕ)
    → t ++ (s ++ (w ++ (l ++ (first ++ (s' ++ (w' ++ (l' ++ rest))))))) ≡ (t ++ (s ++ (w ++ (l ++ first)))) ++ (s' ++ (w' ++ (l' ++ rest)))
and_regroup t s w l first s' w' l' rest = simp append_assoc

and_cons : (t : List ℕ) (c : Condition) (before later : ℕ) (inner : List ℕ) (d : Condition) (ds : List Condition) (gs : List (List Condition))
    → SpellsComparison t c → SpellsAlternatives inner ((d ∷ ds) ∷ gs) → SpellsAlternatives (and_text t before later inner) ((c ∷ d ∷ ds) ∷ gs)
and_cons t c before later inner d ds [] s h = (t, before, later, inner, s, h, refl)
and_cons t c before later inner d ds (k ∷ more) s (first, b, l, rest, hf, hr, e) = (
  and_text t before later first,
  b,
  l,
  rest,
  (t, before, later, first, s, hf, refl),
  hr,
  ap (and_text t before later) e ∙ and_regroup t (spaces (suc before)) (codes "and") (spaces (suc later)) first (spaces (suc b)) (codes "or")
      (spaces (suc l)) rest,
)

or_cons : (t : List ℕ) (c : Condition) (before later : ℕ) (inner : List ℕ) (g : List Condition) (gs : List (List Condition))
    → SpellsComparison t c → SpellsAlternatives inner (g ∷ gs) → SpellsAlternatives (or_text t before later inner) ((c ∷ []) ∷ g ∷ gs)
or_cons t c before later inner g gs s h = (t, before, later, inner, s, h, refl)

-- ---- what is accepted after some comparisons

abbrev tree_of : List (List Condition) → List Condition → Tree
tree_of done group = record { done = done; group = group }

record Spelled (text : List ℕ) (done : List (List Condition)) (group : List Condition) (r : Alternatives) : Type 0 where
  pub before : ℕ
  pub inner : List ℕ
  pub later : ℕ
  pub first : Condition
  pub others : List Condition
  pub groups : List (List Condition)
  pub spells : SpellsAlternatives inner ((first ∷ others) ∷ groups)
  pub bytes : text ≡ spaces before ++ (inner ++ spaces later)
  pub tree : r ≡ done ++ (group ++ first ∷ others) ∷ groups

abbrev SoundBelow : ℕ → Type 0
SoundBelow k = (text : List ℕ) → length text < k → (done : List (List Condition)) (group : List Condition) (r : Alternatives)
    → run text Lead (tree_of done group) ≡ Ok r → Spelled text done group r

shorter : (a t s w tail : List ℕ) → length tail < length (a ++ (t ++ (s ++ (w ++ 32 ∷ tail))))
shorter a t s w tail = simp length-append (omega arith)

joined_bytes : (a t s w rest i l : List ℕ) → a ++ (t ++ (s ++ (w ++ 32 ∷ (rest ++ (i ++ l))))) ≡ a ++ ((t ++ (s ++ (w ++ ((32 ∷ rest) ++ i)))) ++ l)
joined_bytes a t s w rest i l = simp append_assoc

-- the text, where what follows the word is spelled
more_bytes : (text rest tail t : List ℕ) (before n : ℕ) (word : List ℕ) (m later : ℕ) (inner : List ℕ) → text ≡ spaces before ++ (t ++ rest)
    → rest ≡ spaces (suc n) ++ (word ++ (32 ∷ tail)) → tail ≡ spaces m ++ (inner ++ spaces later)
    → text ≡ spaces before ++ ((t ++ (spaces (suc n) ++ (word ++ (spaces (suc m) ++ inner)))) ++ spaces later)
more_bytes text rest tail t before n word m later inner e f g =
    e ∙ ap (λ (x : List ℕ). spaces before ++ (t ++ x)) (f ∙ ap (λ (x : List ℕ). spaces (suc n) ++ (word ++ (32 ∷ x))) g)
    ∙ joined_bytes (spaces before) t (spaces (suc n)) word (spaces m) inner (spaces later)

is_shorter : (k : ℕ) (text rest tail t : List ℕ) (before n : ℕ) (word : List ℕ) → length text < suc k → text ≡ spaces before ++ (t ++ rest)
    → rest ≡ spaces (suc n) ++ (word ++ (32 ∷ tail)) → length tail < k
is_shorter k text rest tail t before n word lt e f =
    let all = e ∙ ap (λ (x : List ℕ). spaces before ++ (t ++ x)) f in
    let less = shorter (spaces before) t (spaces (suc n)) word tail in
    omega (arith, less, ap length all)

group_step : (group : List Condition) (c d : Condition) (ds : List Condition) → (group ++ c ∷ []) ++ d ∷ ds ≡ group ++ c ∷ d ∷ ds
group_step group c d ds = append_assoc group (c ∷ []) (d ∷ ds)

or_step : (done : List (List Condition)) (g h : List Condition) (gs : List (List Condition)) → (done ++ g ∷ []) ++ h ∷ gs ≡ done ++ g ∷ h ∷ gs
or_step done g h gs = append_assoc done (g ∷ []) (h ∷ gs)

same_Ok : (a b : Alternatives) → ◌≡◌ {A = Result Alternatives ℕ} (Ok a) (Ok b) → a ≡ b
same_Ok a b e = cc

by_joint : (k : ℕ) → SoundBelow k → (text rest : List ℕ) (c : Condition) → length text < suc k
    → (done : List (List Condition)) (group : List Condition) (r : Alternatives)
    → ReadsComparison text rest c → run rest (After c) (tree_of done group) ≡ Ok r
    → (q : Read (Option Joint)) → joint_of rest ≡ q → JoinsAfter c rest (tree_of done group) q → Spelled text done group r
by_joint k ih text rest c lt done group r read h (Err s) e joins = cc (sym h ∙ joins)
by_joint k ih text rest c lt done group r (before, t, bytes, spelled) h (Ok (None, tail)) e joins =
    let end = joint_of-Ok rest None tail e in
    record {
      before = before;
      inner = t;
      later = end.0;
      first = c;
      others = [];
      groups = [];
      spells = spelled;
      bytes = bytes ∙ ap (λ (x : List ℕ). spaces before ++ (t ++ x)) end.1;
      tree = same_Ok r _ (sym h ∙ joins);
    }
by_joint k ih text rest c lt done group r (before, t, bytes, spelled) h (Ok (Some And, tail)) e joins =
    let word = joint_of-Ok rest (Some And) tail e in
    let more = ih tail (is_shorter k text rest tail t before word.0 (codes "and") lt bytes word.1) done (group ++ c ∷ []) r (sym joins ∙ h) in
    record {
      before = before;
      inner = and_text t word.0 more.before more.inner;
      later = more.later;
      first = c;
      others = more.first ∷ more.others;
      groups = more.groups;
      spells = and_cons t c word.0 more.before more.inner more.first more.others more.groups spelled more.spells;
      bytes = more_bytes text rest tail t before word.0 (codes "and") more.before more.later more.inner bytes word.1 more.bytes;
      tree = more.tree ∙ ap (λ (g : List Condition). done ++ g ∷ more.groups) (group_step group c more.first more.others);
    }
by_joint k ih text rest c lt done group r (before, t, bytes, spelled) h (Ok (Some Or, tail)) e joins =
    let word = joint_of-Ok rest (Some Or) tail e in
    let more = ih tail (is_shorter k text rest tail t before word.0 (codes "or") lt bytes word.1) (done ++ (group ++ c ∷ []) ∷ []) [] r
    (sym joins ∙ h) in
    record {
      before = before;
      inner = or_text t word.0 more.before more.inner;
      later = more.later;
      first = c;
      others = [];
      groups = (more.first ∷ more.others) ∷ more.groups;
      spells = or_cons t c word.0 more.before more.inner (more.first ∷ more.others) more.groups spelled more.spells;
      bytes = more_bytes text rest tail t before word.0 (codes "or") more.before more.later more.inner bytes word.1 more.bytes;
      tree = more.tree ∙ or_step done (group ++ c ∷ []) (more.first ∷ more.others) more.groups;
    }

by_comparison : (k : ℕ) → SoundBelow k → (text : List ℕ) → length text < suc k
    → (done : List (List Condition)) (group : List Condition) (r : Alternatives)
    → run text Lead (tree_of done group) ≡ Ok r → (q : Read Condition) → comparison_of text ≡ q → Follows Lead text after q
    → Spelled text done group r
by_comparison k ih text lt done group r h (Err s) e follows = cc (sym h ∙ follows (tree_of done group))
by_comparison k ih text lt done group r h (Ok (c, rest)) e follows =
    by_joint k ih text rest c lt done group r (comparison_of-Ok text c rest e) (sym (follows (tree_of done group)) ∙ h)
    (joint_of rest) refl (joint_follows c rest (tree_of done group))

sound : (k : ℕ) → SoundBelow k
sound zero = λ text lt done group r h. absurd (omega arith)
sound (suc k) = λ text lt done group r h. by_comparison k (sound k) text lt done group r h (comparison_of text) refl (comparison_follows text)

-- what is accepted is spelled
pub Spells-run : (text : List ℕ) (requirement : Alternatives) → run text Lead empty ≡ Ok requirement → Spells text requirement
Spells-run text requirement h =
    let s = sound (suc (length text)) text (omega arith) [] [] requirement h in
    (s.before, s.inner, s.later, subst (SpellsAlternatives s.inner) (sym s.tree) s.spells, s.bytes)
