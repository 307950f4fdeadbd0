-- Events that are counted.
use Rattle.std.proofs.Common.{◌≡◌, ◌+◌, ◌≤◌, Bool, cond, List, [], ◌∷◌, ◌++◌, count_by, refl, arith}
use Rattle.std.proofs.lemmas.List.Sums.{sum_by-append}
use Rattle.partition_core.specs.declared.event.Event.{Event}
use Rattle.partition_core.proofs.Starts.{count_first}

pub count_end : (test : Event → Bool) (events : List Event) (event : Event)
    → count_by test (events ++ event ∷ []) ≡ count_by test events + cond (test event) 1 0
count_end test events event =
    let none : count_by test [] ≡ 0 = refl in
    let whole : count_by test (events ++ event ∷ []) ≡ count_by test events + count_by test (event ∷ []) = sum_by-append
    (λ (e : Event). cond (test e) 1 0) events (event ∷ []) in
    omega (arith, count_first test event [])

pub count_fewer : (test other : Event → Bool) (events : List Event) → ((event : Event) → cond (test event) 1 0 ≤ cond (other event) 1 0)
    → count_by test events ≤ count_by other events
count_fewer test other [] fewer = omega arith
count_fewer test other (event ∷ events) fewer =
    omega (arith, count_first test event events, count_first other event events, fewer event, count_fewer test other events fewer)
