-- One declaration, and declarations one after another.
use Rattle.std.proofs.Common.{◌≡◌, ℕ, ◌+◌, ◌<◌, ◌≤◌, true, false, List, [], ◌∷◌, ◌++◌, drop, length, get_or, Option, Some, None, option_map, Result, Ok, Err, sym, ◌∙◌, ap, subst, append_assoc, add-one}
use Rattle.std.specs.Option.{option_copied}
use Rattle.std.proofs.lemmas.List.{at_drop_more, at_drop_all, append-nil}
use Rattle.term_values.specs.declared.term.Term.{Term}
use Rattle.version_req.specs.declared.error.ReqError.{ReqError}
use Rattle.version_req.specs.declared.error.ReqError.TheVariants.{Refused}
use Rattle.version_req.specs.Condition.{Alternatives}
use Rattle.version_req.specs.Refusal.{IsRefusedAt, HasCause}
use denote.Ref.{Bor}
use Rattle.term_values.specs.Views.{list_of}
use Rattle.mx_base.specs.Blame.{AnswersBy}
use Rattle.dep_options.specs.Blame.{blame_of}
use Rattle.dep_options.specs.declared.decl.Decl.{Decl}
use Rattle.dep_options.specs.declared.error.OptionCause.{OptionCause}
use Rattle.dep_options.specs.declared.error.OptionCause.TheVariants.{Shape, BadRequirement, NoSource}
use Rattle.dep_options.specs.declared.error.OptionError.{OptionError}
use Rattle.dep_options.specs.declared.stated.Stated.{Stated}
use Rattle.dep_options.specs.Options.{first_fault}
use Rattle.dep_options.specs.Decls.{written_of, IsRequirement, IsBadRequirement, has_source, decl_of, IsDecl, shape, requirement, option, source, good, AreDeclsFrom, end, refused, later, more, AreDecls, items}
use Rattle.dep_options.specs.Stated.{written_by}
use Rattle.term_values.specs.Views.{Lent, named}

nothing_in : (text : List ℕ) (at : ℕ) → IsRefusedAt text at → IsBadRequirement (Some text)
nothing_in text at stuck = λ requirement spells. stuck.nothing (requirement, spells)

-- a text that is refused is no requirement
pub bad_text : (o : Option (Bor (List ℕ))) (text : Bor (List ℕ)) (slice : List ℕ) (e : ReqError) (at : ℕ) → o ≡ Some text → slice ≡ text.now → e ≡ Refused at → HasCause slice e → IsBadRequirement (option_copied o)
bad_text o text slice e at is lent stuck cause =
    subst (λ (x : Option (Bor (List ℕ))). IsBadRequirement (option_copied x)) (sym is)
    (subst (λ (x : List ℕ). IsBadRequirement (Some x)) lent (nothing_in slice at (subst (λ (x : ReqError). HasCause slice x) stuck cause)))

-- what was read of a term of the shape
stated_in : (o : Option Stated) (s : Stated) (t : Term) → o ≡ Some s → option_map written_by o ≡ written_of t → Some (written_by s) ≡ written_of t
stated_in o s t is read = ap (option_map written_by) (sym is) ∙ read

pub decl_shapeless : (base : List ℕ) (o : Option Stated) (t : Term) → o ≡ None → option_map written_by o ≡ written_of t → IsDecl base t (Err Shape)
decl_shapeless base o t is read = shape (sym read ∙ ap (option_map written_by) is)

pub decl_bad : (base : List ℕ) (o : Option Stated) (s : Stated) (t : Term) (cause : OptionCause) → o ≡ Some s → option_map written_by o ≡ written_of t → IsBadRequirement (option_copied s.requirement) × (cause ≡ BadRequirement) → IsDecl base t (Err cause)
decl_bad base o s t cause is read bad =
    subst (λ (c : OptionCause). IsDecl base t (Err c)) (sym bad.1) (requirement (written_by s) (sym (stated_in o s t is read)) bad.0)

-- the options behind the references
lent_fault : (base : List ℕ) (s : Stated) (options : List Lent) (fault : Option OptionCause) → options ≡ s.options.items → first_fault base [] (named options) ≡ fault → first_fault base [] (written_by s).options ≡ fault
lent_fault base s options fault lent is = ap (λ (os : List Lent). first_fault base [] (named os)) (sym lent) ∙ is

pub decl_fault : (base : List ℕ) (o : Option Stated) (s : Stated) (t : Term) (r : Option Alternatives) (options : List Lent) (cause : OptionCause) → o ≡ Some s → option_map written_by o ≡ written_of t → IsRequirement (option_copied s.requirement) r → options ≡ s.options.items → first_fault base [] (named options) ≡ Some cause → IsDecl base t (Err cause)
decl_fault base o s t r options cause is read required lent fault =
    option (written_by s) r (sym (stated_in o s t is read)) required (lent_fault base s options (Some cause) lent fault)

pub decl_lacks : (base : List ℕ) (o : Option Stated) (s : Stated) (t : Term) (r : Option Alternatives) (options : List Lent) → o ≡ Some s → option_map written_by o ≡ written_of t → IsRequirement (option_copied s.requirement) r → options ≡ s.options.items → first_fault base [] (named options) ≡ None → has_source (written_by s) ≡ false → IsDecl base t (Err NoSource)
decl_lacks base o s t r options is read required lent free lacks =
    source (written_by s) r (sym (stated_in o s t is read)) required (lent_fault base s options None lent free) lacks

pub decl_good : (base : List ℕ) (o : Option Stated) (s : Stated) (t : Term) (r : Option Alternatives) (options again : List Lent) (d : Decl) → o ≡ Some s → option_map written_by o ≡ written_of t → IsRequirement (option_copied s.requirement) r → options ≡ s.options.items → first_fault base [] (named options) ≡ None → has_source (written_by s) ≡ true → again ≡ s.options.items → d ≡ decl_of base s.app r (named again) → IsDecl base t (Ok d)
decl_good base o s t r options again d is read required lent free has same made =
    let Is : Decl → Type 0 = λ d. IsDecl base t (Ok d) in
    subst Is (ap (λ (os : List Lent). decl_of base s.app r (named os)) (sym same) ∙ sym made)
    (good (written_by s) r (sym (stated_in o s t is read)) required (lent_fault base s options None lent free) has)

-- what follows on the declarations that were read
abbrev pub Kept : List ℕ → List Term → ℕ → List Decl → Type 0
Kept base ts i ds = (rest : List Decl) → AreDeclsFrom i base (drop i ts) (Ok rest) → AreDeclsFrom 0 base ts (Ok (ds ++ rest))

abbrev pub Stops : List ℕ → List Term → ℕ → Type 0
Stops base ts i = (e : OptionError) → AreDeclsFrom i base (drop i ts) (Err e) → AreDeclsFrom 0 base ts (Err e)

terms_rest : (ts : List Term) (i : ℕ) (t : Term) → i < length ts → t ≡ get_or ts i t → drop i ts ≡ t ∷ drop (i + 1) ts
terms_rest ts i t within is =
    at_drop_more (λ (l : List Term). l) ts i t within ∙ ap (λ (x : Term). x ∷ drop (i + 1) ts) (sym is)

kept_more : (base : List ℕ) (ts : List Term) (i : ℕ) (t : Term) (ds new : List Decl) (d : Decl) → i < length ts → t ≡ get_or ts i t → new ≡ ds ++ d ∷ [] → IsDecl base t (Ok d) → Kept base ts i ds → Kept base ts (i + 1) new
kept_more base ts i t ds new d within is pushed read kept = λ rest q.
    subst (λ (xs : List Decl). AreDeclsFrom 0 base ts (Ok xs)) (sym (append_assoc ds (d ∷ []) rest) ∙ ap (λ (xs : List Decl). xs ++ rest) (sym pushed))
    (kept (d ∷ rest)
    (subst (λ (l : List Term). AreDeclsFrom i base l (Ok (d ∷ rest))) (sym (terms_rest ts i t within is))
    (more read (subst (λ (k : ℕ). AreDeclsFrom k base (drop (i + 1) ts) (Ok rest)) (add-one i) q))))

stops_more : (base : List ℕ) (ts : List Term) (i : ℕ) (t : Term) (d : Decl) → i < length ts → t ≡ get_or ts i t → IsDecl base t (Ok d) → Stops base ts i → Stops base ts (i + 1)
stops_more base ts i t d within is read stops = λ e q.
    stops e
    (subst (λ (l : List Term). AreDeclsFrom i base l (Err e)) (sym (terms_rest ts i t within is))
    (later read (subst (λ (k : ℕ). AreDeclsFrom k base (drop (i + 1) ts) (Err e)) (add-one i) q)))

-- one more declaration was read
abbrev pub Pushed : List ℕ → Term → List Decl → List Decl → Type 0
Pushed base t ds new = (d : Decl) × (new ≡ ds ++ d ∷ []) × IsDecl base t (Ok d)

pub kept_next : (base : List ℕ) (ts : List Term) (i : ℕ) (t : Term) (ds new : List Decl) → i < length ts → t ≡ get_or ts i t → Pushed base t ds new → Kept base ts i ds → Kept base ts (i + 1) new
kept_next base ts i t ds new within is pushed kept = kept_more base ts i t ds new pushed.0 within is pushed.1 pushed.2 kept

pub stops_next : (base : List ℕ) (ts : List Term) (i : ℕ) (t : Term) (ds new : List Decl) → i < length ts → t ≡ get_or ts i t → Pushed base t ds new → Stops base ts i → Stops base ts (i + 1)
stops_next base ts i t ds new within is pushed stops = stops_more base ts i t pushed.0 within is pushed.2 stops

pub stops_here : (base : List ℕ) (ts : List Term) (i : ℕ) (t : Term) (cause : OptionCause) → i < length ts → t ≡ get_or ts i t → IsDecl base t (Err cause) → Stops base ts i → AreDeclsFrom 0 base ts (Err (record { index = i; cause = cause }))
stops_here base ts i t cause within is bad stops =
    stops (record { index = i; cause = cause })
    (subst (λ (l : List Term). AreDeclsFrom i base l (Err (record { index = i; cause = cause }))) (sym (terms_rest ts i t within is)) (refused bad))

pub kept_all : (base : List ℕ) (ts : List Term) (i : ℕ) (ds : List Decl) → length ts ≤ i → Kept base ts i ds → AreDeclsFrom 0 base ts (Ok ds)
kept_all base ts i ds whole kept =
    subst (λ (xs : List Decl). AreDeclsFrom 0 base ts (Ok xs)) (append-nil ds)
    (kept [] (subst (λ (l : List Term). AreDeclsFrom i base l (Ok [])) (sym (at_drop_all (λ (l : List Term). l) ts i whole)) end))

-- what the items declare is what the list declares
pub in_list : {V : Type 0} (seen : V → List Decl) (base : List ℕ) (t : Term) (ts : List Term) (result : Result V OptionError) → list_of t ≡ Some ts → AnswersBy seen blame_of result (AreDeclsFrom 0 base ts) → AnswersBy seen blame_of result (AreDecls base t)
in_list seen base t ts (Ok v) is are = items ts is are
in_list seen base t ts (Err e) is are = λ input. items ts is (are input)
