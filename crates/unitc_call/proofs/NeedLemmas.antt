-- The files of needs, one app after another.
use Rattle.std.proofs.Common.{◌≡◌, ℕ, suc, ◌+◌, ◌<◌, List, [], ◌∷◌, ◌++◌, get_or, length, take, Option, Some, None, IfSome, refl, sym, ◌∙◌, ap, subst}
use Rattle.std.specs.List.{AllZip}
use Rattle.std.proofs.lemmas.List.{take_more}
use Rattle.mx_base.specs.declared.file.File.{File}
use Rattle.compile_model.specs.declared.outcome.Outcome.{Outcome}
use Rattle.compile_model.specs.Content.{needs_of}
use Rattle.tree_store.specs.declared.holding.Holding.{Holding}
use Rattle.tree_store.specs.declared.key.BuildKey.{BuildKey}
use Rattle.tree_store.specs.Slot.{Slot}
use Rattle.tree_store.specs.Slot.Slot.{Here}
use Rattle.unitc_call.specs.Reading.{AreFilesAt, IsNeedIn}

-- a folder that was handed out tells what its build has
pub files_told : (slot : Slot) (told : Option Holding) (files : List File) → Here told ≡ slot → IfSome told (λ held. files ≡ held.files) → AreFilesAt slot files
files_told slot told files is says = subst (λ (s : Slot). AreFilesAt s files) is (at told says)
  where
    at : (told : Option Holding) → IfSome told (λ held. files ≡ held.files) → AreFilesAt (Here told) files
    at None says = tt
    at (Some held) says = says

-- the outcomes with the files of these apps' builds
abbrev pub AreBuilt : (BuildKey → Slot) → List ℕ → List (List ℕ) → List Outcome → Type 0
AreBuilt slots env apps outcomes = AllZip (λ (app : List ℕ) (need : Outcome). AreFilesAt (slots (record { env = env; app = app })) need.files) apps outcomes

zip_push : {A B : Type 0} (R : A → B → Type 0) (xs : List A) (ys : List B) (x : A) (y : B) → AllZip R xs ys → R x y → AllZip R (xs ++ x ∷ []) (ys ++ y ∷ [])
zip_push R [] [] x y all one = (one, tt)
zip_push R [] (b ∷ bs) x y all one = absurd all
zip_push R (a ∷ more) [] x y all one = absurd all
zip_push R (a ∷ more) (b ∷ bs) x y all one = (all.0, zip_push R more bs x y all.1 one)

pub built_more : (slots : BuildKey → Slot) (env : List ℕ) (apps : List (List ℕ)) (i : ℕ) (app : List ℕ) (outcomes : List Outcome) (need : Outcome) →
    i < length apps → app ≡ get_or apps i app → AreBuilt slots env (take i apps) outcomes →
    AreFilesAt (slots (record { env = env; app = app })) need.files → AreBuilt slots env (take (i + 1) apps) (outcomes ++ need ∷ [])
built_more slots env apps i app outcomes need within is all one =
    subst (λ (names : List (List ℕ)). AreBuilt slots env names (outcomes ++ need ∷ []))
    (sym (take_more apps i app within ∙ ap (λ (name : List ℕ). take i apps ++ name ∷ []) (sym is)))
    (zip_push (λ (a : List ℕ) (o : Outcome). AreFilesAt (slots (record { env = env; app = a })) o.files) (take i apps) outcomes app need all one)

-- the needs that they stand for
pub built_needs : (slots : BuildKey → Slot) (env : List ℕ) (apps : List (List ℕ)) (outcomes : List Outcome) → AreBuilt slots env apps outcomes →
    AllZip (IsNeedIn slots env) apps (needs_of apps outcomes)
built_needs slots env [] [] built = tt
built_needs slots env [] (o ∷ os) built = absurd built
built_needs slots env (app ∷ apps) [] built = absurd built
built_needs slots env (app ∷ apps) (o ∷ os) built = (record { app = refl; files = built.0 }, built_needs slots env apps os built.1)

-- there is one for each app
pub built_length : (slots : BuildKey → Slot) (env : List ℕ) (apps : List (List ℕ)) (outcomes : List Outcome) → AreBuilt slots env apps outcomes →
    length outcomes ≡ length apps
built_length slots env [] [] built = refl
built_length slots env [] (o ∷ os) built = absurd built
built_length slots env (app ∷ apps) [] built = absurd built
built_length slots env (app ∷ apps) (o ∷ os) built = ap suc (built_length slots env apps os built.1)
