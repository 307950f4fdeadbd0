use Rattle.std.proofs.Common.{◌≡◌, Option, Some, None, sym, subst}
use Rattle.hex_registry.specs.Breaches.{IsBreach, IsFirst, IsOfKind, SaysBreach}
use Rattle.hex_registry.specs.declared.breach.Breach.{Breach}
use Rattle.hex_registry.proofs.BreachSteps.{last_holds, last_says}
use Rattle.hex_registry.proofs.KindLemmas.{first_1, first_2}
use Rattle.hex_registry.proofs.ValidLemmas.{first_refuses}
use Rattle.hex_registry.proofs.breach.first_breach.Goals as goal

pub returns-in-Some-2-clause-first : goal.returns-in-Some-2-clause-first
returns-in-Some-2-clause-first c =
    first_1 (IsBreach c.args.registry.now c.args.wants.now c.args.pick.now) c.in-Some-2.breach
    (subst (λ (o : Option Breach). IsFirst (IsOfKind (IsBreach c.args.registry.now c.args.wants.now c.args.pick.now) 0) o) c.in_default.is
    c.in_ok-breach.ensures)
    (subst (λ (o : Option Breach). IsFirst (IsOfKind (IsBreach c.args.registry.now c.args.wants.now c.args.pick.now) 1) o) c.in-Some-2.is
    (c.in_ok-breach-2.ensures c.args.wants.now))

pub returns-in-Some-2-clause-valid : goal.returns-in-Some-2-clause-valid
returns-in-Some-2-clause-valid c =
    first_refuses c.args.registry.now c.args.wants.now c.args.pick.now c.in-Some-2.breach
    (first_1 (IsBreach c.args.registry.now c.args.wants.now c.args.pick.now) c.in-Some-2.breach
    (subst (λ (o : Option Breach). IsFirst (IsOfKind (IsBreach c.args.registry.now c.args.wants.now c.args.pick.now) 0) o) c.in_default.is
    c.in_ok-breach.ensures)
    (subst (λ (o : Option Breach). IsFirst (IsOfKind (IsBreach c.args.registry.now c.args.wants.now c.args.pick.now) 1) o) c.in-Some-2.is
    (c.in_ok-breach-2.ensures c.args.wants.now)))

pub returns-in-Some-3-clause-first : goal.returns-in-Some-3-clause-first
returns-in-Some-3-clause-first c =
    first_2 (IsBreach c.args.registry.now c.args.wants.now c.args.pick.now) c.in-Some-3.breach
    (subst (λ (o : Option Breach). IsFirst (IsOfKind (IsBreach c.args.registry.now c.args.wants.now c.args.pick.now) 0) o) c.in_default.is
    c.in_ok-breach.ensures)
    (subst (λ (o : Option Breach). IsFirst (IsOfKind (IsBreach c.args.registry.now c.args.wants.now c.args.pick.now) 1) o) c.in_default-2.is
    (c.in_ok-breach-2.ensures c.args.wants.now))
    (subst (λ (o : Option Breach). IsFirst (IsOfKind (IsBreach c.args.registry.now c.args.wants.now c.args.pick.now) 2) o) c.in-Some-3.is
    c.in_ok-breach-3.ensures)

pub returns-in-Some-3-clause-valid : goal.returns-in-Some-3-clause-valid
returns-in-Some-3-clause-valid c =
    first_refuses c.args.registry.now c.args.wants.now c.args.pick.now c.in-Some-3.breach
    (first_2 (IsBreach c.args.registry.now c.args.wants.now c.args.pick.now) c.in-Some-3.breach
    (subst (λ (o : Option Breach). IsFirst (IsOfKind (IsBreach c.args.registry.now c.args.wants.now c.args.pick.now) 0) o) c.in_default.is
    c.in_ok-breach.ensures)
    (subst (λ (o : Option Breach). IsFirst (IsOfKind (IsBreach c.args.registry.now c.args.wants.now c.args.pick.now) 1) o) c.in_default-2.is
    (c.in_ok-breach-2.ensures c.args.wants.now))
    (subst (λ (o : Option Breach). IsFirst (IsOfKind (IsBreach c.args.registry.now c.args.wants.now c.args.pick.now) 2) o) c.in-Some-3.is
    c.in_ok-breach-3.ensures))

pub returns-clause-first : goal.returns-clause-first
returns-clause-first c =
    last_says c.args.registry.now c.args.wants.now c.args.pick.now c.first_unreached.result
    (subst (λ (o : Option Breach). IsFirst (IsOfKind (IsBreach c.args.registry.now c.args.wants.now c.args.pick.now) 0) o) c.in_default.is
    c.in_ok-breach.ensures)
    (subst (λ (o : Option Breach). IsFirst (IsOfKind (IsBreach c.args.registry.now c.args.wants.now c.args.pick.now) 1) o) c.in_default-2.is
    (c.in_ok-breach-2.ensures c.args.wants.now))
    (subst (λ (o : Option Breach). IsFirst (IsOfKind (IsBreach c.args.registry.now c.args.wants.now c.args.pick.now) 2) o) c.in_default-3.is
    c.in_ok-breach-3.ensures)
    c.first_unreached.ensures.first

pub returns-clause-valid : goal.returns-clause-valid
returns-clause-valid c =
    last_holds c.args.registry.now c.args.wants.now c.args.pick.now c.first_unreached.result
    (subst (λ (o : Option Breach). IsFirst (IsOfKind (IsBreach c.args.registry.now c.args.wants.now c.args.pick.now) 0) o) c.in_default.is
    c.in_ok-breach.ensures)
    (subst (λ (o : Option Breach). IsFirst (IsOfKind (IsBreach c.args.registry.now c.args.wants.now c.args.pick.now) 1) o) c.in_default-2.is
    (c.in_ok-breach-2.ensures c.args.wants.now))
    (subst (λ (o : Option Breach). IsFirst (IsOfKind (IsBreach c.args.registry.now c.args.wants.now c.args.pick.now) 2) o) c.in_default-3.is
    c.in_ok-breach-3.ensures)
    c.first_unreached.ensures.first c.first_unreached.ensures.whole
