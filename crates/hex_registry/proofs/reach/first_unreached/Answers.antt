use Rattle.std.proofs.Common.{◌≡◌, Some, sym, subst}
use Rattle.hex_registry.specs.Breaches.{IsBreach, IsFirst, IsOfKind}
use Rattle.hex_registry.specs.declared.breach.Breach.{Breach}
use Rattle.hex_registry.proofs.GapSteps.{all_answered, gap_answers, none_answers, reached_fit}
use Rattle.hex_registry.proofs.reach.first_unreached.Goals as goal

pub first_gap-requires-clause-within : goal.first_gap-requires-clause-within
first_gap-requires-clause-within c =
    reached_fit c.args.registry.now c.args.wants.now c.args.pick.now c.in_ok-reached.reached.items c.deref.result.now c.as_slice.result.now
    c.in_ok-reached.ensures c.deref.ensures.value c.as_slice.ensures.value

pub returns-in-Some-clause-first : goal.returns-in-Some-clause-first
returns-in-Some-clause-first c =
    subst (λ (b : Breach). IsFirst (IsOfKind (IsBreach c.args.registry.now c.args.wants.now c.args.pick.now) 3) (Some b))
    (sym c.in_ok-unreached-in-Some.ensures)
    (gap_answers c.args.registry.now c.args.wants.now c.args.pick.now c.in_ok-reached.reached.items c.deref.result.now c.as_slice.result.now
    c.as_slice-in-Some.result.now
    c.in-Some.place c.index-as_slice-place.result c.as_slice.ensures.in_order c.in_ok-reached.ensures c.deref.ensures.value c.as_slice.ensures.value
    c.as_slice-in-Some.ensures.value
    (sym c.index-as_slice-place.is) c.in-Some.ensures.gap)

pub returns-clause-first : goal.returns-clause-first
returns-clause-first c =
    none_answers c.args.registry.now c.args.wants.now c.args.pick.now c.in_ok-reached.reached.items c.deref.result.now c.as_slice.result.now
    c.in_ok-reached.ensures c.deref.ensures.value c.as_slice.ensures.value c.in-None.ensures.none

pub returns-clause-whole : goal.returns-clause-whole
returns-clause-whole c = (
  c.as_slice.ensures.in_order,
  all_answered c.args.registry.now c.args.wants.now c.args.pick.now c.in_ok-reached.reached.items c.deref.result.now c.as_slice.result.now
      c.in_ok-reached.ensures c.deref.ensures.value c.as_slice.ensures.value c.in-None.ensures.none,
)
