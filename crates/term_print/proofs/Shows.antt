-- How a term is shown, level by level.
use Rattle.std.proofs.Common.{◌≡◌, ℕ, ◌<◌, ◌≤◌, Bool, true, false, ◌&&◌, List, [], ◌∷◌, ◌++◌, map, length, get_or, Option, Some, None, is_some, unwrap_or, option_map, codes, arith, refl, sym, ◌∙◌, ap, cond}
use Rattle.std.specs.List.{list_all}
use Rattle.term_values.specs.declared.term.Term.{Term}
use Rattle.term_values.specs.declared.term.Term.TheOpen.{Term-F}
use Rattle.term_values.specs.declared.term.Term.TheVariants.{Tuple, Map, List as Listed, rolls-Tuple, rolls-Map, rolls-List}
use Rattle.term_values.specs.declared.term.Term.TheFolds.{fold-roll-Term}
use Rattle.term_values.specs.Views.{Pair}
use Rattle.term_print.specs.Printed.{Shown, plain, joined, keyword_of, list_inside, map_inside, show_step, shown, shown_pair, printed, printed_keyword, printed_entry, printed_field}

pub shown-list : (parts : List Term) → shown (Listed parts) ≡ plain (91 ∷ list_inside (map shown parts) ++ 93 ∷ [])
shown-list parts = ap shown (sym (rolls-List parts)) ∙ fold-roll-Term Shown show_step (Term-F.List parts)

pub shown-map : (pairs : List Pair) → shown (Map pairs) ≡ plain (37 ∷ 123 ∷ map_inside (map shown_pair pairs) ++ 125 ∷ [])
shown-map pairs = ap shown (sym (rolls-Map pairs)) ∙ fold-roll-Term Shown show_step (Term-F.Map pairs)

map_map : {A B C : Type 0} (f : B → C) (g : A → B) (xs : List A) → map f (map g xs) ≡ map (λ x. f (g x)) xs
map_map f g [] = refl
map_map f g (x ∷ xs) = ap (λ ys. f (g x) ∷ ys) (map_map f g xs)

all_map : {A B : Type 0} (f : B → Bool) (g : A → B) (xs : List A) → list_all f (map g xs) ≡ list_all (λ x. f (g x)) xs
all_map f g [] = refl
all_map f g (x ∷ xs) = ap (λ b. f (g x) && b) (all_map f g xs)

abbrev tuple_shown : List (List ℕ) → List Shown → Shown
tuple_shown texts parts = record { text = 123 ∷ joined texts ++ 125 ∷ []; key = None; keyword = keyword_of parts }

pub shown-tuple : (parts : List Term) → shown (Tuple parts) ≡ record { text = 123 ∷ joined (map printed parts) ++ 125 ∷ []; key = None; keyword = keyword_of (map shown parts) }
shown-tuple parts = ap shown (sym (rolls-Tuple parts)) ∙ fold-roll-Term Shown show_step (Term-F.Tuple parts) ∙ ap (λ (texts : List (List ℕ)). tuple_shown texts (map shown parts)) (map_map (λ (p : Shown). p.text) shown parts)

pub inside-keywords : (ts : List Term) → list_all (λ t. is_some (shown t).keyword) ts ≡ true → list_inside (map shown ts) ≡ joined (map printed_keyword ts)
inside-keywords ts all =
    ap (λ (b : Bool). cond b (joined (map (λ (p : Shown). unwrap_or p.keyword []) (map shown ts))) (joined (map (λ (p : Shown). p.text) (map shown ts)))) (all_map (λ (p : Shown). is_some p.keyword) shown ts ∙ all)
    ∙ ap joined (map_map (λ (p : Shown). unwrap_or p.keyword []) shown ts)

pub inside-parts : (ts : List Term) → list_all (λ t. is_some (shown t).keyword) ts ≡ false → list_inside (map shown ts) ≡ joined (map printed ts)
inside-parts ts some =
    ap (λ (b : Bool). cond b (joined (map (λ (p : Shown). unwrap_or p.keyword []) (map shown ts))) (joined (map (λ (p : Shown). p.text) (map shown ts)))) (all_map (λ (p : Shown). is_some p.keyword) shown ts ∙ some)
    ∙ ap joined (map_map (λ (p : Shown). p.text) shown ts)

pub inside-fields : (ps : List Pair) → list_all (λ p. is_some (shown p.0).key) ps ≡ true → map_inside (map shown_pair ps) ≡ joined (map printed_field ps)
inside-fields ps all =
    ap (λ (b : Bool). cond b (joined (map (λ (p : Shown × Shown). unwrap_or p.0.key [] ++ p.1.text) (map shown_pair ps))) (joined (map (λ (p : Shown × Shown). p.0.text ++ codes " => " ++ p.1.text) (map shown_pair ps)))) (all_map (λ (p : Shown × Shown). is_some p.0.key) shown_pair ps ∙ all)
    ∙ ap joined (map_map (λ (p : Shown × Shown). unwrap_or p.0.key [] ++ p.1.text) shown_pair ps)

pub inside-entries : (ps : List Pair) → list_all (λ p. is_some (shown p.0).key) ps ≡ false → map_inside (map shown_pair ps) ≡ joined (map printed_entry ps)
inside-entries ps some =
    ap (λ (b : Bool). cond b (joined (map (λ (p : Shown × Shown). unwrap_or p.0.key [] ++ p.1.text) (map shown_pair ps))) (joined (map (λ (p : Shown × Shown). p.0.text ++ codes " => " ++ p.1.text) (map shown_pair ps)))) (all_map (λ (p : Shown × Shown). is_some p.0.key) shown_pair ps ∙ some)
    ∙ ap joined (map_map (λ (p : Shown × Shown). p.0.text ++ codes " => " ++ p.1.text) shown_pair ps)

-- ---- keywords

pub option_some : (o : Option (List ℕ)) (more : List ℕ) → is_some (option_map (λ text. text ++ more) o) ≡ is_some o
option_some None more = refl
option_some (Some text) more = refl

of_two : (ts : List Term) (first : Term) → 2 ≤ length ts → length ts < 3 → first ≡ get_or ts 0 first → is_some (shown first).key ≡ is_some (keyword_of (map shown ts))
of_two [] first low high is = absurd (omega arith)
of_two (a ∷ []) first low high is = absurd (omega arith)
of_two (a ∷ b ∷ []) first low high is = ap (λ (t : Term). is_some (shown t).key) is ∙ sym (option_some (shown a).key (shown b).text)
of_two (a ∷ b ∷ c ∷ ts) first low high is = absurd (omega arith)

of_fewer : (ts : List Term) → length ts < 2 → false ≡ is_some (keyword_of (map shown ts))
of_fewer [] few = refl
of_fewer (a ∷ []) few = refl
of_fewer (a ∷ b ∷ ts) few = absurd (omega arith)

of_more : (ts : List Term) → 3 ≤ length ts → false ≡ is_some (keyword_of (map shown ts))
of_more [] many = absurd (omega arith)
of_more (a ∷ []) many = absurd (omega arith)
of_more (a ∷ b ∷ []) many = absurd (omega arith)
of_more (a ∷ b ∷ c ∷ ts) many = refl

keyword_is : (t : Term) (parts s : List Term) → t ≡ Tuple parts → s ≡ parts → is_some (keyword_of (map shown s)) ≡ is_some (shown t).keyword
keyword_is t parts s is same =
    ap (λ (ts : List Term). is_some (keyword_of (map shown ts))) same ∙ sym (ap (λ (x : Shown). is_some x.keyword) (ap shown is ∙ shown-tuple parts))

pub keyword_of_two : (t : Term) (parts s : List Term) (first : Term) → t ≡ Tuple parts → s ≡ parts → 2 ≤ length s → length s < 3 → first ≡ get_or s 0 first → is_some (shown first).key ≡ is_some (shown t).keyword
keyword_of_two t parts s first is same low high at = of_two s first low high at ∙ keyword_is t parts s is same

pub keyword_of_fewer : (t : Term) (parts s : List Term) → t ≡ Tuple parts → s ≡ parts → length s < 2 → false ≡ is_some (shown t).keyword
keyword_of_fewer t parts s is same few = of_fewer s few ∙ keyword_is t parts s is same

pub keyword_of_more : (t : Term) (parts s : List Term) → t ≡ Tuple parts → s ≡ parts → 3 ≤ length s → false ≡ is_some (shown t).keyword
keyword_of_more t parts s is same many = of_more s many ∙ keyword_is t parts s is same
