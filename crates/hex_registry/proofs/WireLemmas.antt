-- What the fault of a message becomes.
use Rattle.std.proofs.Common.{◌≡◌, ◌≢◌, ℕ, List, Result, Ok, Err, Bool, false, refl, sym, ap, subst, ◌∙◌}
use Rattle.hex_messages.specs.declared.error.WireCause.{WireCause}
use Rattle.hex_messages.specs.declared.error.WireCause.TheVariants.{OutOfMemory, BadKey, BadVarint, Truncated, WrongWire, BadUtf8, BadEnum, Missing}
use Rattle.hex_messages.specs.declared.error.WireError.{WireError}
use Rattle.hex_messages.specs.declared.package.Package.{Package}
use Rattle.hex_messages.specs.Faults.{IsFirstFault}
use Rattle.mx_base.specs.Blame.{Computes, is_outside}
use Rattle.mx_base.specs.Blame.Blame.{Input}
use Rattle.hex_registry.specs.Blame.{blame_of}
use Rattle.hex_registry.specs.Loaded.{IsMessage}
use Rattle.hex_registry.specs.Loaded.IsMessage.{faulty}
use Rattle.hex_registry.specs.Refusals.{wire_refused, wire_refused_as}

-- by its cause
computes_as : (name bytes : List ℕ) (fault : WireError) (cause : WireCause) → fault.cause ≡ cause → IsFirstFault bytes fault
    → Computes {X = Package} blame_of (Err (wire_refused_as cause name fault)) (IsMessage name bytes)
computes_as name bytes fault OutOfMemory e is = record { answer = λ input. absurd (cc); alone = refl }
computes_as name bytes fault BadKey e is = record { answer = λ input. faulty fault is (λ f. let k : BadKey ≡ OutOfMemory = sym e ∙ f in cc); alone = refl }
computes_as name bytes fault BadVarint e is =
    record { answer = λ input. faulty fault is (λ f. let k : BadVarint ≡ OutOfMemory = sym e ∙ f in cc); alone = refl }
computes_as name bytes fault Truncated e is =
    record { answer = λ input. faulty fault is (λ f. let k : Truncated ≡ OutOfMemory = sym e ∙ f in cc); alone = refl }
computes_as name bytes fault (WrongWire field) e is =
    record { answer = λ input. faulty fault is (λ f. let k : WrongWire field ≡ OutOfMemory = sym e ∙ f in cc); alone = refl }
computes_as name bytes fault (BadUtf8 field) e is =
    record { answer = λ input. faulty fault is (λ f. let k : BadUtf8 field ≡ OutOfMemory = sym e ∙ f in cc); alone = refl }
computes_as name bytes fault BadEnum e is = record { answer = λ input. faulty fault is (λ f. let k : BadEnum ≡ OutOfMemory = sym e ∙ f in cc); alone = refl }
computes_as name bytes fault (Missing field) e is =
    record { answer = λ input. faulty fault is (λ f. let k : Missing field ≡ OutOfMemory = sym e ∙ f in cc); alone = refl }

pub wire_computes : (name bytes : List ℕ) (fault : WireError) → IsFirstFault bytes fault
    → Computes {X = Package} blame_of (Err (wire_refused name fault)) (IsMessage name bytes)
wire_computes name bytes fault is = computes_as name bytes fault fault.cause refl is
