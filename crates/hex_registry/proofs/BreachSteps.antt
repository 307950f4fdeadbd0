-- What the first breach of each kind says of the first of all.
use Rattle.std.proofs.Common.{◌≡◌, Option, Some, None, Result, Ok, Err, IfOk, IfNone, IsNone, List, ◌↔◌}
use Rattle.std.specs.List.{All}
use Rattle.hex_registry.specs.declared.breach.Breach.{Breach}
use Rattle.hex_registry.specs.declared.shelf.Shelf.{Shelf}
use Rattle.hex_registry.specs.declared.wants.Wants.{Wants}
use Rattle.hex_registry.specs.Breaches.{IsBreach, IsFirst, IsOfKind, SaysBreach}
use Rattle.hex_registry.specs.Picks.{Picked, ArePicks, IsReached}
use Rattle.hex_registry.specs.Valid.{IsValid}
use Rattle.hex_registry.proofs.KindLemmas.{first_3}
use Rattle.hex_registry.proofs.ValidLemmas.{last_decides}

pub last_says : {E : Type 0} (shelves : List Shelf) (wants : Wants) (pick : List Picked) (result : Result (Option Breach) E)
    → IsFirst (IsOfKind (IsBreach shelves wants pick) 0) None → IsFirst (IsOfKind (IsBreach shelves wants pick) 1) None
    → IsFirst (IsOfKind (IsBreach shelves wants pick) 2) None → IfOk result (IsFirst (IsOfKind (IsBreach shelves wants pick) 3))
    → IfOk result (SaysBreach shelves wants pick)
last_says shelves wants pick (Ok found) no_0 no_1 no_2 is = first_3 (IsBreach shelves wants pick) found no_0 no_1 no_2 is
last_says shelves wants pick (Err e) no_0 no_1 no_2 is = tt

pub last_holds : {E : Type 0} (shelves : List Shelf) (wants : Wants) (pick : List Picked) (result : Result (Option Breach) E)
    → IsFirst (IsOfKind (IsBreach shelves wants pick) 0) None → IsFirst (IsOfKind (IsBreach shelves wants pick) 1) None
    → IsFirst (IsOfKind (IsBreach shelves wants pick) 2) None → IfOk result (IsFirst (IsOfKind (IsBreach shelves wants pick) 3))
    → IfOk result (λ found. IfNone found (ArePicks pick × All (λ picked. IsReached shelves wants pick picked.0) pick))
    → IfOk result (λ found. IsNone found ↔ IsValid shelves wants pick)
last_holds shelves wants pick (Ok found) no_0 no_1 no_2 is all = last_decides shelves wants pick found no_0 no_1 no_2 is all
last_holds shelves wants pick (Err e) no_0 no_1 no_2 is all = tt
