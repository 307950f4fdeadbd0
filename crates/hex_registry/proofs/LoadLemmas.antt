-- What is read next, and what was read.
use Rattle.std.proofs.Common.{◌≡◌, ℕ, zero, suc, ◌+◌, ◌<◌, ◌≤◌, Bool, true, false, not, ◌||◌, cond, List, [], ◌∷◌, ◌++◌, map, find, flat_map, length, take, slice_get, Option, Some, None, bytes_eq, nat_lt, IfSome, ◌⊎◌, inl, inr, refl, sym, ap, subst, ◌∙◌, arith, append_assoc, append-nil, length-append}
use Rattle.std.specs.List.{Contains}
use Rattle.std.proofs.lemmas.Bool.{cases_Bool, cases_lt, le-ltb, lt-ltb}
use Rattle.std.proofs.lemmas.List.Concat.{flat_map-append}
use Rattle.std.proofs.lemmas.List.Elements.{Contains-append_left, Contains-append_right}
use Rattle.std.proofs.lemmas.Option.{get_or_from_slice_get, slice_get_past, slice_get_within}
use Rattle.indexmap.specs.IndexSet.{insert_all}
use Rattle.mx_base.specs.declared.file.File.{File}
use Rattle.hex_registry.specs.Loaded.{AreShelves, IsLoaded, SaysPackage, named_by_stock, names_so_far, next_name, shelf, wanted_names}
use Rattle.hex_registry.specs.Shelves.{is_among, shelf_names}
use Rattle.hex_registry.specs.declared.shelf.Shelf.{Shelf}
use Rattle.hex_registry.specs.declared.shelf.Stock.{Stock}
use Rattle.hex_registry.specs.declared.wants.Wants.{Wants}
use Rattle.hex_registry.proofs.Lists.{any_found, any_from, contains_cases, contains_none, here, there}
use Rattle.hex_registry.proofs.NamedLemmas.{inserted, news, news_apart, next_at}
use Rattle.hex_registry.proofs.ValidLemmas.{bytes_itself, same_bytes}

insert_both : (keys names more : List (List ℕ)) → insert_all bytes_eq keys (names ++ more) ≡ insert_all bytes_eq (insert_all bytes_eq keys names) more
insert_both keys [] more = refl
insert_both keys (name ∷ names) more = insert_both (cond (is_among name keys) keys (keys ++ name ∷ [])) names more

-- new names are among the names
news_in : (keys names : List (List ℕ)) (name : List ℕ) → Contains (news keys names) name → Contains names name
news_in keys [] name c = c
news_in keys (first ∷ names) name c =
    (elim (is_among first keys) as (λ b. Contains (cond b (news keys names) (first ∷ news (keys ++ first ∷ []) names)) name → Contains (first ∷ names) name) [
      | true ↦ (λ h. there first name names (news_in keys names name h))
      | false ↦ (λ h. elim (contains_cases first name (news (keys ++ first ∷ []) names) h) [
        | inl is ↦ subst (λ (n : List ℕ). Contains (first ∷ names) n) is (here first names)
        | inr more ↦ there first name names (news_in (keys ++ first ∷ []) names name more)
      ])
    ]) c

among_contains : (name : List ℕ) (keys : List (List ℕ)) → is_among name keys ≡ true → Contains keys name
among_contains name keys h = let k = any_found (bytes_eq name) keys h in subst (λ (n : List ℕ). Contains keys n) (sym (same_bytes name k.0 k.2)) k.1

contains_among : (name : List ℕ) (keys : List (List ℕ)) → Contains keys name → is_among name keys ≡ true
contains_among name keys c = any_from (bytes_eq name) keys name c (bytes_itself name)

-- all names are among the keys
in_keys : (keys names : List (List ℕ)) (name : List ℕ) → Contains names name → Contains (keys ++ news keys names) name
in_keys keys [] name c = absurd (contains_none name c)
in_keys keys (first ∷ names) name c =
    (elim (is_among first keys) as (λ b. is_among first keys ≡ b → Contains (keys ++ cond b (news keys names) (first ∷ news (keys ++ first ∷ []) names)) name) [
      | true ↦ (λ e. elim (contains_cases first name names c) [
        | inl is ↦ Contains-append_left keys (news keys names) name (subst (λ (n : List ℕ). Contains keys n) is (among_contains first keys e))
        | inr more ↦ in_keys keys names name more
      ])
      | false ↦ (λ e. elim (contains_cases first name names c) [
        | inl is ↦ Contains-append_right keys (first ∷ news (keys ++ first ∷ []) names) name
            (subst (λ (n : List ℕ). Contains (first ∷ news (keys ++ first ∷ []) names) n) is (here first (news (keys ++ first ∷ []) names)))
        | inr more ↦ subst (λ (ks : List (List ℕ)). Contains ks name) (append_assoc keys (first ∷ []) (news (keys ++ first ∷ []) names))
            (in_keys (keys ++ first ∷ []) names name more)
      ])
    ]) refl

get_cases : (keys more : List (List ℕ)) (m : ℕ) (name : List ℕ) → slice_get (keys ++ more) m ≡ Some name
    → ((m < length keys) × Contains keys name) ⊎ ((length keys ≤ m) × Contains more name)
get_cases [] more m name e = inr (omega arith, (m, slice_get_within more m name e, get_or_from_slice_get more m name name e))
get_cases (k ∷ keys) more zero name e = let same : k ≡ name = cc in inl (omega arith, subst (λ (n : List ℕ). Contains (k ∷ keys) n) same (here k keys))
get_cases (k ∷ keys) more (suc m) name e =
    elim (get_cases keys more m name e) [
      | inl h ↦ (let less = h.0 in inl (omega (arith, less), there k name keys h.1))
      | inr h ↦ (let more_is = h.0 in inr (omega (arith, more_is), h.1))
    ]

-- shelves that were read, and the names that they and the wants gave
pub record HaveRead (wants : Wants) (shelves : List Shelf) (keys : List (List ℕ)) (wanted : ℕ) : Type 0 where
  pub named : keys ≡ insert_all bytes_eq [] (names_so_far wants shelves)
  pub taken : shelf_names shelves ≡ take (length shelves) keys
  pub first : wanted ≡ length (insert_all bytes_eq [] (wanted_names wants))

pub have_begun : (wants : Wants) (keys : List (List ℕ)) → keys ≡ insert_all bytes_eq [] (wanted_names wants) → HaveRead wants [] keys (length keys)
have_begun wants keys is =
    record { named = is ∙ ap (insert_all bytes_eq []) (sym (append-nil (wanted_names wants))); taken = refl; first = ap length is }

next_is : (wants : Wants) (shelves : List Shelf) (keys : List (List ℕ)) (wanted : ℕ) → HaveRead wants shelves keys wanted
    → next_name wants shelves ≡ slice_get keys (length shelves)
next_is wants shelves keys wanted h =
    let keys_are : keys ≡ news [] (names_so_far wants shelves) = h.named ∙ inserted [] (names_so_far wants shelves) in
    ap (λ (ks : List (List ℕ)). find (λ (n : List ℕ). not (is_among n ks)) (names_so_far wants shelves)) (h.taken ∙ ap (take (length shelves)) keys_are)
    ∙ next_at [] (names_so_far wants shelves) (length shelves) (omega arith)
    ∙ ap (λ (ks : List (List ℕ)). slice_get ks (length shelves)) (sym keys_are)

pub next_read : (wants : Wants) (shelves : List Shelf) (keys : List (List ℕ)) (wanted : ℕ) (name : List ℕ) → HaveRead wants shelves keys wanted
    → slice_get keys (length shelves) ≡ Some name → next_name wants shelves ≡ Some name
next_read wants shelves keys wanted name h at = next_is wants shelves keys wanted h ∙ at

-- only the first names are of wants
pub is_wanted : (wants : Wants) (shelves : List Shelf) (keys : List (List ℕ)) (wanted : ℕ) (name : List ℕ) → HaveRead wants shelves keys wanted
    → slice_get keys (length shelves) ≡ Some name → nat_lt (length shelves) wanted ≡ is_among name (wanted_names wants)
is_wanted wants shelves keys wanted name h at =
    let more = flat_map (λ (s : Shelf). named_by_stock wants.pinned s.stock) shelves in
    let front = insert_all bytes_eq [] (wanted_names wants) in
    let front_is : insert_all bytes_eq [] (wanted_names wants) ≡ news [] (wanted_names wants) = inserted [] (wanted_names wants) in
    let parts : keys ≡ insert_all bytes_eq [] (wanted_names wants) ++ news (insert_all bytes_eq [] (wanted_names wants))
    (flat_map (λ (s : Shelf). named_by_stock wants.pinned s.stock) shelves) =
    h.named ∙ insert_both [] (wanted_names wants) (flat_map (λ (s : Shelf). named_by_stock wants.pinned s.stock) shelves)
    ∙ inserted (insert_all bytes_eq [] (wanted_names wants)) (flat_map (λ (s : Shelf). named_by_stock wants.pinned s.stock) shelves) in
    elim (get_cases front (news front more) (length shelves) name (subst (λ (ks : List (List ℕ)). slice_get ks (length shelves) ≡ Some name) parts at)) [
      | inl k ↦ (let less = k.0 in
          lt-ltb (length shelves) wanted (let w = h.first in omega (arith, less, w))
          ∙ sym (contains_among name (wanted_names wants) (news_in [] (wanted_names wants) name
          (subst (λ (ks : List (List ℕ)). Contains ks name) front_is k.1))))
      | inr k ↦ (let past = k.0 in
          le-ltb (length shelves) wanted (let w = h.first in omega (arith, past, w))
          ∙ sym (elim (cases_Bool (is_among name (wanted_names wants))) [
            | inl having ↦ absurd (let own = contains_among name front (subst (λ (ks : List (List ℕ)). Contains ks name) (sym front_is)
                (in_keys [] (wanted_names wants) name (among_contains name (wanted_names wants) having))) in
                let clash : true ≡ false = sym own ∙ news_apart front more name k.1 in cc)
            | inr lacking ↦ lacking
          ]))
    ]

-- all was read
pub all_read : (wants : Wants) (shelves : List Shelf) (keys : List (List ℕ)) (wanted : ℕ) → HaveRead wants shelves keys wanted → length keys ≤ length shelves
    → next_name wants shelves ≡ None
all_read wants shelves keys wanted h past = next_is wants shelves keys wanted h ∙ slice_get_past keys (length shelves) past

take_whole : (m : ℕ) (keys : List (List ℕ)) → length keys ≤ m → take m keys ≡ keys
take_whole zero [] l = refl
take_whole zero (k ∷ keys) l = absurd (omega (arith, l))
take_whole (suc m) [] l = refl
take_whole (suc m) (k ∷ keys) l = ap (λ (ks : List (List ℕ)). k ∷ ks) (take_whole m keys (omega (arith, l)))

pub names_are : (wants : Wants) (shelves : List Shelf) (keys : List (List ℕ)) (wanted : ℕ) → HaveRead wants shelves keys wanted → length keys ≤ length shelves
    → keys ≡ shelf_names shelves
names_are wants shelves keys wanted h past = sym (h.taken ∙ take_whole (length shelves) keys past)

map_pushed : (shelves : List Shelf) (s : Shelf) → shelf_names (shelves ++ s ∷ []) ≡ shelf_names shelves ++ s.name ∷ []
map_pushed [] s = refl
map_pushed (x ∷ xs) s = ap (λ (ks : List (List ℕ)). x.name ∷ ks) (map_pushed xs s)

take_next : (m : ℕ) (keys more : List (List ℕ)) (name : List ℕ) → slice_get keys m ≡ Some name → take (suc m) (keys ++ more) ≡ take m keys ++ name ∷ []
take_next m [] more name e = absurd (cc)
take_next zero (k ∷ keys) more name e = let same : k ≡ name = cc in ap (λ (n : List ℕ). n ∷ []) same
take_next (suc m) (k ∷ keys) more name e = ap (λ (ks : List (List ℕ)). k ∷ ks) (take_next m keys more name e)

pub reads_on : (wants : Wants) (shelves : List Shelf) (keys new : List (List ℕ)) (wanted : ℕ) (name : List ℕ) (stock : Option Stock)
    → HaveRead wants shelves keys wanted → slice_get keys (length shelves) ≡ Some name → new ≡ insert_all bytes_eq keys (named_by_stock wants.pinned stock)
    → HaveRead wants (shelves ++ shelf name stock ∷ []) new wanted
reads_on wants shelves keys new wanted name stock h at is =
    let long : length (shelves ++ shelf name stock ∷ []) ≡ suc (length shelves) =
    (let e = length-append shelves (shelf name stock ∷ []) in omega (arith, e)) in
    record {
      named = is ∙ ap (λ (ks : List (List ℕ)). insert_all bytes_eq ks (named_by_stock wants.pinned stock)) h.named
          ∙ sym (insert_both [] (names_so_far wants shelves) (named_by_stock wants.pinned stock))
          ∙ ap (insert_all bytes_eq []) (append_assoc (wanted_names wants) (flat_map (λ (s : Shelf). named_by_stock wants.pinned s.stock) shelves)
          (named_by_stock wants.pinned stock)
          ∙ ap (λ (ns : List (List ℕ)). wanted_names wants ++ ns)
          (ap (λ (ns : List (List ℕ)). flat_map (λ (s : Shelf). named_by_stock wants.pinned s.stock) shelves ++ ns)
          (sym (append-nil (named_by_stock wants.pinned stock)))
          ∙ sym (flat_map-append (λ (s : Shelf). named_by_stock wants.pinned s.stock) shelves (shelf name stock ∷ []))));
      taken = map_pushed shelves (shelf name stock) ∙ ap (λ (ks : List (List ℕ)). ks ++ name ∷ []) h.taken
          ∙ sym (take_next (length shelves) keys (news keys (named_by_stock wants.pinned stock)) name at)
          ∙ ap (λ (ks : List (List ℕ)). take (suc (length shelves)) ks) (sym (is ∙ inserted keys (named_by_stock wants.pinned stock)))
          ∙ ap (λ (m : ℕ). take m new) (sym long);
      first = h.first;
    }

pub for_all_told : {A : Type 0} (P : A → Type 0) (o : Option A) → ((x : A) → P x) → IfSome o P
for_all_told P None all = tt
for_all_told P (Some x) all = all x

pub told_on : {A : Type 0} (P Q : A → Type 0) (o : Option A) → ((x : A) → P x → Q x) → IfSome o P → IfSome o Q
told_on P Q None become was = tt
told_on P Q (Some x) become was = become x was

pub told_both : {A : Type 0} (P Q R : A → Type 0) (o : Option A) → ((x : A) → P x → Q x → R x) → IfSome o P → IfSome o Q → IfSome o R
told_both P Q R None become p q = tt
told_both P Q R (Some x) become p q = become x p q

pub past_end : {A : Type 0} (xs : List A) (m : ℕ) → slice_get xs m ≡ None → length xs ≤ m
past_end [] m e = omega arith
past_end (x ∷ xs) zero e = absurd (cc)
past_end (x ∷ xs) (suc m) e = let k = past_end xs m e in omega (arith, k)
