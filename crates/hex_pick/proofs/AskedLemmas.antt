-- One more demand that is asked of a package.
use Rattle.std.proofs.Common.{◌≡◌, ℕ, ◌+◌, ◌<◌, Bool, true, false, cond, List, [], ◌∷◌, ◌++◌, drop, length, get_or, bytes_eq, refl, sym, ap, ◌∙◌, append_assoc}
use Rattle.hex_registry.specs.Shelves.{is_among, without_apps}
use Rattle.hex_registry.specs.declared.offer.Demand.{Demand}
use Rattle.hex_registry.proofs.Walks.{next_aside, next_kept}
use Rattle.hex_pick.specs.Fitting.{on_package}

pub on_aside : (pinned : List (List ℕ)) (name : List ℕ) (asked demands : List Demand) (i : ℕ) (demand : Demand) → i < length demands
    → get_or demands i demand ≡ demand → is_among demand.app pinned ≡ true
    → asked ++ on_package name (without_apps pinned (drop (i + 1) demands)) ≡ asked ++ on_package name (without_apps pinned (drop i demands))
on_aside pinned name asked demands i demand below at aside =
    sym (ap (λ (ds : List Demand). asked ++ on_package name ds) (next_aside pinned demands i demand below at aside))

by_name : (name : List ℕ) (demand : Demand) (rest : List Demand) (b : Bool) → bytes_eq name demand.«package» ≡ b
    → on_package name (demand ∷ rest) ≡ cond b (demand ∷ on_package name rest) (on_package name rest)
by_name name demand rest b e = ap (λ (c : Bool). cond c (demand ∷ on_package name rest) (on_package name rest)) e

pub on_other : (pinned : List (List ℕ)) (name : List ℕ) (asked demands : List Demand) (i : ℕ) (demand : Demand) → i < length demands
    → get_or demands i demand ≡ demand → is_among demand.app pinned ≡ false → bytes_eq name demand.«package» ≡ false
    → asked ++ on_package name (without_apps pinned (drop (i + 1) demands)) ≡ asked ++ on_package name (without_apps pinned (drop i demands))
on_other pinned name asked demands i demand below at kept other =
    sym (ap (λ (ds : List Demand). asked ++ on_package name ds) (next_kept pinned demands i demand below at kept)
    ∙ ap (λ (ds : List Demand). asked ++ ds) (by_name name demand (without_apps pinned (drop (i + 1) demands)) false other))

pub on_this : (pinned : List (List ℕ)) (name : List ℕ) (asked demands : List Demand) (i : ℕ) (demand : Demand) → i < length demands
    → get_or demands i demand ≡ demand → is_among demand.app pinned ≡ false → bytes_eq name demand.«package» ≡ true
    → (asked ++ demand ∷ []) ++ on_package name (without_apps pinned (drop (i + 1) demands)) ≡
    asked ++ on_package name (without_apps pinned (drop i demands))
on_this pinned name asked demands i demand below at kept this =
    append_assoc asked (demand ∷ []) (on_package name (without_apps pinned (drop (i + 1) demands)))
    ∙ sym (ap (λ (ds : List Demand). asked ++ on_package name ds) (next_kept pinned demands i demand below at kept)
    ∙ ap (λ (ds : List Demand). asked ++ ds) (by_name name demand (without_apps pinned (drop (i + 1) demands)) true this))
