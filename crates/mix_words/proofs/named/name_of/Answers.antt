use Rattle.std.proofs.Common.{◌≡◌, List, ℕ, refl, subst}
use Rattle.mx_base.specs.AppName.{is_app_name}
use Rattle.std.specs.Prelude.{IsFalse}
use Rattle.mx_base.specs.NameFaults.{is_memory}
use Rattle.mx_base.specs.declared.name.NameError.{NameError}
use Rattle.mx_base.specs.declared.name.NameError.TheVariants.{Empty, TooLong, BadByte, OutOfMemory}
use Rattle.mix_words.proofs.ChoiceLemmas.{no_app_name}
use Rattle.mix_words.proofs.named.name_of.Goals as goal

not_memory : (e : NameError) → (e ≡ OutOfMemory → ⊥) → IsFalse (is_memory e)
not_memory Empty other = refl
not_memory TooLong other = refl
not_memory (BadByte at) other = refl
not_memory OutOfMemory other = absurd (other refl)

pub returns-in_default : goal.returns-in_default
returns-in_default c = record {
  some = tt;
  none = no_app_name c.args.text.now (subst (λ (t : List ℕ). IsFalse (is_app_name t)) c.as_bytes.ensures.value (c.in-Err.ensures.exact (not_memory
      c.in-Err.error c.in_default.not-OutOfMemory)));
}
