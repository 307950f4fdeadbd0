-- A set of codes shows whether a key comes again.
use Rattle.std.specs.Prelude.{IsFalse, ◌↔◌}
use Rattle.elixir_terms.specs.Refusals.{IsOneOf}
use Rattle.std.proofs.Common.{◌≡◌, ℕ, inl, inr, Bool, true, false, cond, ◌||◌, List, [], ◌∷◌, ◌++◌, map, refl, sym, ◌∙◌, ap, subst, bytes_eq, append_assoc}
use Rattle.std.specs.BTreeSet.{BTreeSet, contains, UpdatesBy}
use Rattle.std.specs.Cmp.Lexicographic.{texts_ties}
use Rattle.std.proofs.lemmas.Bool.{or_parts, true≢false}
use Rattle.std.proofs.lemmas.Cmp.{nat_list_eq_equiv}
use Rattle.std.proofs.lemmas.List.{append-nil, map-append}
use Rattle.std.proofs.lemmas.Slice.Eq.{bytes_eq-Decides}
use Rattle.mx_base.specs.Order.{text_cmp}
use Rattle.term_tokens.specs.declared.bracket.Bracket.TheVariants as bracket
use Rattle.elixir_terms.specs.declared.frame.Frame.{Frame}
use Rattle.term_values.specs.declared.term.Term.{Term}
use Rattle.term_values.specs.declared.term.Term.TheVariants as term
use Rattle.elixir_terms.specs.Codes.{keys_in, has_code, HoldsCodes}
use Rattle.term_values.specs.Views.{Pair}
use Rattle.elixir_terms.specs.KeyCode.{term_code}
use Rattle.elixir_terms.specs.Machine.{with_entry, with_keyword, NewIn}
use Rattle.elixir_terms.specs.Within.{IsNone}
use Rattle.elixir_terms.proofs.KeyCodes.{same_from_codes}

-- a key that is none of these has none of their codes

unequal : (t u : Term) → bytes_eq (term_code u) (term_code t) ≡ false → u ≡ t → ⊥
unequal t u differs same =
    let own : bytes_eq (term_code u) (term_code t) ≡ true = ap (λ (x : Term). bytes_eq (term_code x) (term_code t)) same ∙ nat_list_eq_equiv.refl (term_code t) in
    true≢false (sym own ∙ differs)

pub none_from : (u : Term) (ts : List Term) → has_code ts (term_code u) ≡ false → IsNone u ts
none_from u [] h = tt
none_from u (t ∷ ts) h = let p = or_parts (bytes_eq (term_code u) (term_code t)) (has_code ts (term_code u)) h in (unequal t u p.0, none_from u ts p.1)

pub none_to : (u : Term) (ts : List Term) → IsNone u ts → has_code ts (term_code u) ≡ false
none_to u [] n = refl
none_to u (t ∷ ts) n = by (none_to u ts n.1) (bytes_eq (term_code u) (term_code t)) refl
  where
    by : has_code ts (term_code u) ≡ false → (b : Bool) → bytes_eq (term_code u) (term_code t) ≡ b → (b || has_code ts (term_code u)) ≡ false
    by none_ false e = none_
    by none_ true e = absurd (n.0 (same_from_codes u t ((bytes_eq-Decides (term_code u) (term_code t)).0 e)))

-- the answer of the set
pub new_by : (frame : Frame) (codes : BTreeSet (List ℕ)) (key : Term) (code : List ℕ) (has : Bool) → HoldsCodes frame codes → frame.bracket ≡ bracket.Map → code ≡ term_code key → has ≡ contains text_cmp codes code → IsFalse has ↔ NewIn frame.bracket key (keys_in frame)
new_by frame codes key code has h m e a =
    let same : has ≡ has_code (keys_in frame) (term_code key) = a ∙ h code ∙ ap (has_code (keys_in frame)) e in
    ((λ f. subst (λ kind. NewIn kind key (keys_in frame)) (sym m) (none_from key (keys_in frame) (sym same ∙ f))), (λ n. same ∙ none_to key (keys_in frame) (subst (λ kind. NewIn kind key (keys_in frame)) m n)))

-- one more key

cond_or : (a b : Bool) → cond a true b ≡ (a || b)
cond_or true b = refl
cond_or false b = refl

insert_one : (code : List ℕ) (old new : BTreeSet (List ℕ)) → UpdatesBy text_cmp (text_cmp code) old new true → (q : List ℕ) → contains text_cmp new q ≡ (bytes_eq q code || contains text_cmp old q)
insert_one code old new u q = u.0 q ∙ ap (λ (b : Bool). cond b true (contains text_cmp old q)) (sym (texts_ties code q) ∙ nat_list_eq_equiv.symm code q) ∙ cond_or (bytes_eq q code) (contains text_cmp old q)

or_between : (a b c : Bool) → (a || (b || c)) ≡ (b || (a || c))
or_between true true c = refl
or_between true false c = refl
or_between false b c = refl

code_between : (xs ys : List Term) (key : Term) (q : List ℕ) → has_code (xs ++ key ∷ ys) q ≡ (bytes_eq q (term_code key) || has_code (xs ++ ys) q)
code_between [] ys key q = refl
code_between (x ∷ xs) ys key q = ap (λ b. bytes_eq q (term_code x) || b) (code_between xs ys key q) ∙ or_between (bytes_eq q (term_code x)) (bytes_eq q (term_code key)) (has_code (xs ++ ys) q)

entry_names : (entries keywords : List Pair) (key t : Term) → map (λ (p : Pair). p.0) ((entries ++ (key, t) ∷ []) ++ keywords) ≡ map (λ (p : Pair). p.0) entries ++ key ∷ map (λ (p : Pair). p.0) keywords
entry_names entries keywords key t = ap (map (λ (p : Pair). p.0)) (append_assoc entries ((key, t) ∷ []) keywords) ∙ map-append (λ (p : Pair). p.0) entries ((key, t) ∷ keywords)

keyword_names : (entries keywords : List Pair) (key t : Term) → map (λ (p : Pair). p.0) (entries ++ (keywords ++ (key, t) ∷ [])) ≡ map (λ (p : Pair). p.0) (entries ++ keywords) ++ key ∷ []
keyword_names entries keywords key t = ap (map (λ (p : Pair). p.0)) (sym (append_assoc entries keywords ((key, t) ∷ []))) ∙ map-append (λ (p : Pair). p.0) (entries ++ keywords) ((key, t) ∷ [])

pub holds_entry : (frame : Frame) (old new : BTreeSet (List ℕ)) (key t : Term) → HoldsCodes frame old → UpdatesBy text_cmp (text_cmp (term_code key)) old new true → HoldsCodes (with_entry frame key t) new
holds_entry frame old new key t h u q =
    let names = map (λ (p : Pair). p.0) in
    insert_one (term_code key) old new u q
    ∙ ap (λ b. bytes_eq q (term_code key) || b) (h q ∙ ap (λ ts. has_code ts q) (map-append (λ (p : Pair). p.0) frame.entries frame.keywords))
    ∙ sym (ap (λ ts. has_code ts q) (entry_names frame.entries frame.keywords key t) ∙ code_between (names frame.entries) (names frame.keywords) key q)

pub holds_keyword : (frame : Frame) (old new : BTreeSet (List ℕ)) (name : List ℕ) (t : Term) → HoldsCodes frame old → UpdatesBy text_cmp (text_cmp (term_code (term.Atom name))) old new true → HoldsCodes (with_keyword frame name t) new
holds_keyword frame old new name t h u q =
    insert_one (term_code (term.Atom name)) old new u q
    ∙ ap (λ b. bytes_eq q (term_code (term.Atom name)) || b) (h q ∙ ap (λ ts. has_code ts q) (sym (append-nil (keys_in frame))))
    ∙ sym (ap (λ ts. has_code ts q) (keyword_names frame.entries frame.keywords (term.Atom name) t) ∙ code_between (keys_in frame) [] (term.Atom name) q)

-- a key that is not none of these is one of them
pub one_from : (u : Term) (ts : List Term) → (IsNone u ts → ⊥) → IsOneOf u ts
one_from u [] h = absurd (h tt)
one_from u (t ∷ ts) h = by (one_from u ts) (bytes_eq (term_code u) (term_code t)) refl
  where
    by : ((IsNone u ts → ⊥) → IsOneOf u ts) → (b : Bool) → bytes_eq (term_code u) (term_code t) ≡ b → IsOneOf u (t ∷ ts)
    by later true e = inl (same_from_codes u t ((bytes_eq-Decides (term_code u) (term_code t)).0 e))
    by later false e = inr (later (λ none_. h (unequal t u e, none_)))
