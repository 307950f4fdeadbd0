-- Names that are inserted one after another, each once, and the first of them that wasn't read.
use Rattle.std.proofs.Common.{◌≡◌, ℕ, zero, suc, ◌+◌, ◌<◌, ◌≤◌, Bool, true, false, not, ◌||◌, cond, List, [], ◌∷◌, ◌++◌, find, filter, length, take, slice_get, Option, Some, None, bytes_eq, ◌⊎◌, inl, inr, refl, sym, ap, subst, ◌∙◌, arith, append_assoc, append-nil, length-append}
use Rattle.std.specs.List.{Contains, list_any, All}
use Rattle.std.proofs.lemmas.Bool.{cases_lt}
use Rattle.std.proofs.lemmas.List.Elements.{Contains-append_right}
use Rattle.std.proofs.lemmas.List.Folds.{list_any-append}
use Rattle.std.proofs.lemmas.Option.{slice_get_past}
use Rattle.indexmap.specs.IndexSet.{insert_all, insert_key}
use Rattle.hex_registry.specs.Shelves.{is_among}
use Rattle.hex_registry.proofs.Lists.{any_found, any_from, contains_cases, contains_none, here, there}
use Rattle.hex_registry.proofs.ValidLemmas.{bytes_itself, same_bytes}

-- the names that are new
abbrev pub news : List (List ℕ) → List (List ℕ) → List (List ℕ)
news keys [] = []
news keys (name ∷ names) = cond (is_among name keys) (news keys names) (name ∷ news (keys ++ name ∷ []) names)

insert_step : (keys : List (List ℕ)) (name : List ℕ) (names : List (List ℕ)) (b : Bool) → is_among name keys ≡ b
    → insert_all bytes_eq keys (name ∷ names) ≡ insert_all bytes_eq (cond b keys (keys ++ name ∷ [])) names
insert_step keys name names b e = ap (λ (t : Bool). insert_all bytes_eq (cond t keys (keys ++ name ∷ [])) names) e

-- they stand behind the others
pub inserted : (keys names : List (List ℕ)) → insert_all bytes_eq keys names ≡ keys ++ news keys names
inserted keys [] = sym (append-nil keys)
inserted keys (name ∷ names) =
    elim (is_among name keys) as (λ b. insert_all bytes_eq (cond b keys (keys ++ name ∷ [])) names ≡ keys ++ cond b (news keys names)
    (name ∷ news (keys ++ name ∷ []) names)) [
      | true ↦ inserted keys names
      | false ↦ inserted (keys ++ name ∷ []) names ∙ append_assoc keys (name ∷ []) (news (keys ++ name ∷ []) names)
    ]

among_push : (name other : List ℕ) (keys : List (List ℕ)) → is_among other (keys ++ name ∷ []) ≡ (is_among other keys || (bytes_eq other name || false))
among_push name other keys = list_any-append (bytes_eq other) keys (name ∷ [])

or_false : (a b : Bool) → (a || b) ≡ false → a ≡ false
or_false true b h = absurd (cc)
or_false false b h = refl

-- and aren't among them
pub news_apart : (keys names : List (List ℕ)) (name : List ℕ) → Contains (news keys names) name → is_among name keys ≡ false
news_apart keys [] name c = absurd (contains_none name c)
news_apart keys (first ∷ names) name c =
    (elim (is_among first keys) as (λ b. is_among first keys ≡ b → Contains (cond b (news keys names) (first ∷ news (keys ++ first ∷ []) names)) name →
    is_among name keys ≡ false) [
      | true ↦ (λ e h. news_apart keys names name h)
      | false ↦ (λ e h. elim (contains_cases first name (news (keys ++ first ∷ []) names) h) [
        | inl is ↦ subst (λ (n : List ℕ). is_among n keys ≡ false) is e
        | inr more ↦ or_false (is_among name keys) (bytes_eq name first || false)
            (sym (among_push first name keys) ∙ news_apart (keys ++ first ∷ []) names name more)
      ])
    ]) refl c

-- among the first of a list
among_front : (name : List ℕ) (keys more : List (List ℕ)) (m : ℕ) → length keys ≤ m → is_among name keys ≡ true → is_among name (take m (keys ++ more)) ≡ true
among_front name [] more m l h = absurd (cc)
among_front name (k ∷ keys) more zero l h = absurd (omega (arith, l))
among_front name (k ∷ keys) more (suc m) l h =
    (elim (bytes_eq name k) as (λ b. (b || is_among name keys) ≡ true → (b || is_among name (take m (keys ++ more))) ≡ true) [
      | true ↦ (λ e. refl)
      | false ↦ (λ e. among_front name keys more m (omega (arith, l)) e)
    ]) h

take_front : (keys more : List (List ℕ)) (m : ℕ) → m ≡ length keys → take m (keys ++ more) ≡ keys
take_front [] more zero e = refl
take_front [] more (suc m) e = absurd (omega (arith, e))
take_front (k ∷ keys) more zero e = absurd (omega (arith, e))
take_front (k ∷ keys) more (suc m) e = ap (λ (ks : List (List ℕ)). k ∷ ks) (take_front keys more m (omega (arith, e)))

get_next : (keys : List (List ℕ)) (name : List ℕ) (more : List (List ℕ)) (m : ℕ) → m ≡ length keys → slice_get (keys ++ name ∷ more) m ≡ Some name
get_next [] name more zero e = refl
get_next [] name more (suc m) e = absurd (omega (arith, e))
get_next (k ∷ keys) name more zero e = absurd (omega (arith, e))
get_next (k ∷ keys) name more (suc m) e = get_next keys name more m (omega (arith, e))

new_at : (keys names : List (List ℕ)) (name : List ℕ) (m : ℕ) → length keys ≤ m → is_among name keys ≡ false
    → (length (keys ++ name ∷ []) ≤ m → find (λ (n : List ℕ). not (is_among n (take m ((keys ++ name ∷ []) ++ news (keys ++ name ∷ []) names)))) names ≡
    slice_get ((keys ++ name ∷ []) ++ news (keys ++ name ∷ []) names) m) → find (λ (n : List ℕ). not
    (is_among n (take m (keys ++ name ∷ news (keys ++ name ∷ []) names)))) (name ∷ names) ≡ slice_get (keys ++ name ∷ news (keys ++ name ∷ []) names) m
new_at keys names name m l e further =
    elim (cases_lt m (length keys + 1)) [
      | inl less ↦ (let same : m ≡ length keys = omega (arith, less, l) in
          ap (λ (ks : List (List ℕ)). cond (not (is_among name ks)) (Some name) (find
          (λ (n : List ℕ). not (is_among n (take m (keys ++ name ∷ news (keys ++ name ∷ []) names)))) names))
          (take_front keys (name ∷ news (keys ++ name ∷ []) names) m same)
          ∙ ap (λ (t : Bool). cond (not t) (Some name) (find (λ (n : List ℕ). not (is_among n (take m (keys ++ name ∷ news (keys ++ name ∷ []) names))))
          names)) e
          ∙ sym (get_next keys name (news (keys ++ name ∷ []) names) m same))
      | inr more ↦ (let added = length-append keys (name ∷ []) in
          let long : length (keys ++ name ∷ []) ≤ m = omega (arith, added, more) in
          let own : is_among name (keys ++ name ∷ []) ≡ true = any_from (bytes_eq name) (keys ++ name ∷ []) name
          (Contains-append_right keys (name ∷ []) name (here name [])) (bytes_itself name) in
          subst (λ (ks : List (List ℕ)). find (λ (n : List ℕ). not (is_among n (take m ks))) (name ∷ names) ≡ slice_get ks m)
          (append_assoc keys (name ∷ []) (news (keys ++ name ∷ []) names))
          (ap (λ (t : Bool). cond (not t) (Some name) (find (λ (n : List ℕ). not
          (is_among n (take m ((keys ++ name ∷ []) ++ news (keys ++ name ∷ []) names)))) names))
          (among_front name (keys ++ name ∷ []) (news (keys ++ name ∷ []) names) m long own)
          ∙ further long))
    ]

-- the first name that isn't among the first m is the one at m
pub next_at : (keys names : List (List ℕ)) (m : ℕ) → length keys ≤ m
    → find (λ (name : List ℕ). not (is_among name (take m (keys ++ news keys names)))) names ≡ slice_get (keys ++ news keys names) m
next_at keys [] m l = sym (slice_get_past (keys ++ []) m (let e = length-append keys [] in omega (arith, l, e)))
next_at keys (name ∷ names) m l =
    (elim (is_among name keys) as (λ b. is_among name keys ≡ b → find (λ (n : List ℕ). not
    (is_among n (take m (keys ++ cond b (news keys names) (name ∷ news (keys ++ name ∷ []) names))))) (name ∷ names) ≡ slice_get
    (keys ++ cond b (news keys names) (name ∷ news (keys ++ name ∷ []) names)) m) [
      | true ↦ (λ e. ap (λ (t : Bool). cond (not t) (Some name) (find (λ (n : List ℕ). not (is_among n (take m (keys ++ news keys names)))) names))
          (among_front name keys (news keys names) m l e) ∙ next_at keys names m l)
      | false ↦ (λ e. new_at keys names name m l e (next_at (keys ++ name ∷ []) names m))
    ]) refl
