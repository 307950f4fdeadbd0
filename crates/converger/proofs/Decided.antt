-- Facts that hold or don't.
use Rattle.std.proofs.Common.{◌≡◌, ℕ, Bool, true, false, ◌⊎◌, inl, inr, List, [], ◌∷◌, Contains, sym, subst, ap, refl, arith, bytes_eq, Option, Some, None}
use Rattle.std.proofs.lemmas.Bool.{both_ways, cases_eq}
use Rattle.std.proofs.lemmas.Option.{none-some}
use Rattle.dep_order.specs.Listing.{is_listed}
use Rattle.dep_order.proofs.Listed.{listed-from_Contains, Contains-from_listed}
use Rattle.dep_options.specs.declared.decl.DepSource.{DepSource}
use Rattle.dep_options.specs.declared.decl.DepSource.TheVariants.{Hex, Path}
use Rattle.dep_options.specs.declared.decl.CompileBy.{CompileBy}
use Rattle.dep_options.specs.declared.decl.CompileBy.TheVariants.{Manager, Command, Nothing}
use Rattle.converger.proofs.OneLemmas.{in_front, behind, front_or_behind}
use Rattle.converger.proofs.WebLemmas.{same_bytes, bytes_same}

abbrev pub IsDecided : Type 0 → Type 0
IsDecided P = P ⊎ (P → ⊥)

pub dec_map : {P Q : Type 0} → (P → Q) → (Q → P) → IsDecided P → IsDecided Q
dec_map there back (inl p) = inl (there p)
dec_map there back (inr not) = inr (λ q. not (back q))

pub dec_not : {P : Type 0} → IsDecided P → IsDecided (P → ⊥)
dec_not (inl p) = inr (λ not. not p)
dec_not (inr not) = inl not

pub dec_or : {P Q : Type 0} → IsDecided P → IsDecided Q → IsDecided (P ⊎ Q)
dec_or (inl p) q = inl (inl p)
dec_or (inr not) (inl q) = inl (inr q)
dec_or (inr not_p) (inr not_q) = inr (λ h. elim h [ inl p ↦ not_p p | inr q ↦ not_q q ])

pub dec_and : {P Q : Type 0} → IsDecided P → IsDecided Q → IsDecided (P × Q)
dec_and (inl p) (inl q) = inl (p, q)
dec_and (inl p) (inr not) = inr (λ h. not h.1)
dec_and (inr not) q = inr (λ h. not h.0)

pub dec_is : (b : Bool) → IsDecided (b ≡ true)
dec_is true = inl refl
dec_is false = inr (λ e. both_ways false refl e)

pub dec_isnt : (b : Bool) → IsDecided (b ≡ false)
dec_isnt true = inr (λ e. both_ways true e refl)
dec_isnt false = inl refl

pub dec_bool : (a b : Bool) → IsDecided (a ≡ b)
dec_bool a true = dec_is a
dec_bool a false = dec_isnt a

pub dec_number : (a b : ℕ) → IsDecided (a ≡ b)
dec_number a b = elim (cases_eq a b) [ inl same ↦ inl same | inr apart ↦ inr apart ]

pub dec_text : (a b : List ℕ) → IsDecided (a ≡ b)
dec_text a b = dec_map (same_bytes a b) (bytes_same a b) (dec_is (bytes_eq a b))

pub dec_none : {A : Type 0} (o : Option A) → IsDecided (o ≡ None)
dec_none None = inl refl
dec_none (Some x) = inr (λ e. none-some x (sym e))

hex_once : (a b : List ℕ) → Hex a ≡ Hex b → a ≡ b
hex_once a b e = cc

path_once : (a b : List ℕ) → Path a ≡ Path b → a ≡ b
path_once a b e = cc

pub dec_source : (a b : DepSource) → IsDecided (a ≡ b)
dec_source (Hex a) (Hex b) = dec_map (λ e. ap (λ (t : List ℕ). Hex t) e) (hex_once a b) (dec_text a b)
dec_source (Hex a) (Path b) = inr (λ e. cc)
dec_source (Path a) (Hex b) = inr (λ e. cc)
dec_source (Path a) (Path b) = dec_map (λ e. ap (λ (t : List ℕ). Path t) e) (path_once a b) (dec_text a b)

command_once : (a b : List ℕ) → Command a ≡ Command b → a ≡ b
command_once a b e = cc

pub dec_compiler : (a b : CompileBy) → IsDecided (a ≡ b)
dec_compiler Manager Manager = inl refl
dec_compiler Manager (Command b) = inr (λ e. cc)
dec_compiler Manager Nothing = inr (λ e. cc)
dec_compiler (Command a) Manager = inr (λ e. cc)
dec_compiler (Command a) (Command b) = dec_map (λ e. ap (λ (t : List ℕ). Command t) e) (command_once a b) (dec_text a b)
dec_compiler (Command a) Nothing = inr (λ e. cc)
dec_compiler Nothing Manager = inr (λ e. cc)
dec_compiler Nothing (Command b) = inr (λ e. cc)
dec_compiler Nothing Nothing = inl refl

pub dec_contains : (places : List ℕ) (place : ℕ) → IsDecided (Contains places place)
dec_contains places place = dec_map (Contains-from_listed places place) (listed-from_Contains places place) (dec_is (is_listed places place))

-- an element of the list, for which the fact holds
abbrev pub Some_of : {X : Type 0} → List X → (X → Type 0) → Type 0
Some_of {X} xs P = (x : X) × Contains xs x × P x

pub dec_some : {X : Type 0} (P : X → Type 0) → ((x : X) → IsDecided (P x)) → (xs : List X) → IsDecided (Some_of xs P)
dec_some P decide [] = inr (λ h. omega (arith, h.1.1))
dec_some P decide (x ∷ xs) = at (decide x) (dec_some P decide xs)
  where
    at : IsDecided (P x) → IsDecided (Some_of xs P) → IsDecided (Some_of (x ∷ xs) P)
    at (inl here) rest = inl (x, in_front x xs, here)
    at (inr not) (inl later) = inl (later.0, behind x xs later.0 later.1, later.2)
    at (inr not) (inr none) = inr (λ h. elim (front_or_behind x xs h.0 h.1) [
      | inl same ↦ not (subst P (sym same) h.2)
      | inr rest ↦ none (h.0, rest, h.2)
    ])
