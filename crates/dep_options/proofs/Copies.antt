-- Copies of options and of declarations.
use Rattle.std.proofs.Common.{◌≡◌, Option, Some, None, IsTrue, refl, ap, subst}
use Rattle.std.proofs.Props.{props}
use Rattle.dep_options.specs.declared.decl.Decl.{Decl}
use Rattle.dep_options.specs.declared.decl.DepSource.{DepSource}
use Rattle.dep_options.specs.Options.{is_dep_source}

abbrev pub OptionBy : {A : Type 0} → (A → A → Type 0) → Option A → Option A → Type 0
OptionBy R None None = Unit {0}
OptionBy R None (Some y) = ⊥
OptionBy R (Some x) None = ⊥
OptionBy R (Some x) (Some y) = R x y

pub same_option : {A : Type 0} (R : A → A → Type 0) → ((x y : A) → R x y → y ≡ x) → (a b : Option A) → OptionBy R a b → b ≡ a
same_option R same None None h = refl
same_option R same None (Some y) h = absurd h
same_option R same (Some x) None h = absurd h
same_option R same (Some x) (Some y) h = ap Some (same x y h)

placed_once : (source : DepSource) → IsProp (IsTrue (is_dep_source source))
placed_once source = hlevel props

-- a declaration with an equal source is the same
pub same_source : (d : Decl) (source : DepSource) (placed : IsTrue (is_dep_source source)) → source ≡ d.source → record d { source = source; placed = placed } ≡ d
same_source d source placed same =
    let Same : DepSource → Type 0 = λ x. (w : IsTrue (is_dep_source x)) → record d { source = source; placed = placed } ≡ record d { source = x; placed = w } in
    subst Same same (λ w. ap (λ (p : IsTrue (is_dep_source source)). record d { source = source; placed = p }) (placed_once source placed w)) d.placed
