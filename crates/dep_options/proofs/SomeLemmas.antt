-- An answer for each term of a manifest.
use Rattle.std.proofs.Common.{◌≡◌, ◌⊎◌, ℕ, suc, Bool, true, false, List, [], ◌∷◌, Option, Some, None, Result, Ok, Err, refl, inl, inr, ⊎_elim}
use Rattle.term_values.specs.declared.term.Term.{Term}
use Rattle.term_values.specs.Views.{list_of}
use Rattle.version_req.specs.Condition.{Alternatives}
use Rattle.version_req.specs.Machine.{Lead, empty, run}
use Rattle.version_req.proofs.Refused.{refused as stuck}
use Rattle.version_req.proofs.RunSound.{Spells-run}
use Rattle.dep_options.specs.declared.decl.Decl.{Decl}
use Rattle.dep_options.specs.declared.error.OptionCause.{OptionCause}
use Rattle.dep_options.specs.declared.error.OptionCause.TheVariants.{Shape, BadRequirement, NoSource}
use Rattle.dep_options.specs.declared.error.OptionError.{OptionError}
use Rattle.dep_options.specs.Options.{first_fault}
use Rattle.dep_options.specs.Decls.{Written, written_of, IsRequirement, IsBadRequirement, has_source, decl_of, IsDecl, shape, requirement, option, source, good, AreDeclsFrom, end, refused, later, more, AreDecls, no_list, items}

abbrev Reads : Option (List ℕ) → Type 0
Reads text = (r : Option Alternatives) × IsRequirement text r

some_text : (text : List ℕ) (read : Result Alternatives ℕ) → run text Lead empty ≡ read → Reads (Some text) ⊎ IsBadRequirement (Some text)
some_text text (Ok r) e = inl (Some r, Spells-run text r e)
some_text text (Err left) e = inr (λ requirement spells. (stuck text left e).1.nothing (requirement, spells))

-- a requirement that is written is one, or is bad
some_requirement : (text : Option (List ℕ)) → Reads text ⊎ IsBadRequirement text
some_requirement None = inl (None, refl)
some_requirement (Some text) = some_text text (run text Lead empty) refl

abbrev Answer : List ℕ → Term → Type 0
Answer base t = (answer : Result Decl OptionCause) × IsDecl base t answer

by_source : (base : List ℕ) (t : Term) (w : Written) (r : Option Alternatives) → written_of t ≡ Some w → IsRequirement w.requirement r → first_fault base [] w.options ≡ None → (b : Bool) → has_source w ≡ b → Answer base t
by_source base t w r e is free true has = (Ok (decl_of base w.app r w.options), good w r e is free has)
by_source base t w r e is free false lacks = (Err NoSource, source w r e is free lacks)

by_fault : (base : List ℕ) (t : Term) (w : Written) (r : Option Alternatives) → written_of t ≡ Some w → IsRequirement w.requirement r → (fault : Option OptionCause) → first_fault base [] w.options ≡ fault → Answer base t
by_fault base t w r e is (Some cause) found = (Err cause, option w r e is found)
by_fault base t w r e is None free = by_source base t w r e is free (has_source w) refl

by_shape : (base : List ℕ) (t : Term) (o : Option Written) → written_of t ≡ o → Answer base t
by_shape base t None e = (Err Shape, shape e)
by_shape base t (Some w) e =
    ⊎_elim
    (λ (read : Reads w.requirement). by_fault base t w read.0 e read.1 (first_fault base [] w.options) refl)
    (λ (bad : IsBadRequirement w.requirement). (Err BadRequirement, requirement w e bad))
    (some_requirement w.requirement)

abbrev Answers : ℕ → List ℕ → List Term → Type 0
Answers place base ts = (answer : Result (List Decl) OptionError) × AreDeclsFrom place base ts answer

and_rest : (place : ℕ) (base : List ℕ) (t : Term) (ts : List Term) (first : Result Decl OptionCause) → IsDecl base t first → (rest : Result (List Decl) OptionError) → AreDeclsFrom (suc place) base ts rest → Answers place base (t ∷ ts)
and_rest place base t ts (Err cause) is rest are = (Err (record { index = place; cause = cause }), refused is)
and_rest place base t ts (Ok d) is (Err e) are = (Err e, later is are)
and_rest place base t ts (Ok d) is (Ok ds) are = (Ok (d ∷ ds), more is are)

some_from : (place : ℕ) (base : List ℕ) (ts : List Term) → Answers place base ts
some_from place base [] = (Ok [], end)
some_from place base (t ∷ ts) =
    let first = by_shape base t (written_of t) refl in
    let rest = some_from (suc place) base ts in
    and_rest place base t ts first.0 first.1 rest.0 rest.1

in_list : (base : List ℕ) (t : Term) (o : Option (List Term)) → list_of t ≡ o → (answer : Result (List Decl) OptionError) × AreDecls base t answer
in_list base t None e = (Err (record { index = 0; cause = Shape }), no_list e)
in_list base t (Some ts) e = let them = some_from 0 base ts in (them.0, items ts e them.1)

-- each term declares something, or is refused
pub some_of : (base : List ℕ) (t : Term) → (answer : Result (List Decl) OptionError) × AreDecls base t answer
some_of base t = in_list base t (list_of t) refl
