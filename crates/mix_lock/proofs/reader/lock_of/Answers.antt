use Rattle.std.proofs.Common.{◌≡◌, Some, Ok, Err, sym, ◌∙◌, subst}
use Rattle.mx_base.proofs.BlameLemmas.{answers_on}
use Rattle.term_values.specs.Views.{map_of}
use Rattle.elixir_terms.specs.Within.{Fits, deepest}
use Rattle.mix_lock.specs.declared.error.LockError.TheVariants as lock
use Rattle.mix_lock.specs.Blame.{lock_blame}
use Rattle.mix_lock.specs.Lock.{IsAppEntry}
use Rattle.mix_lock.specs.Says.{TermSays}
use Rattle.mix_lock.specs.Says.TermSays.{no_map, refused, good}
use Rattle.mix_lock.proofs.ApartLemmas.{apps_apart}
use Rattle.mix_lock.proofs.ReadLemmas.{all_moved}
use Rattle.mix_lock.proofs.SoundLemmas.{sound_entries}
use Rattle.mix_lock.proofs.ViewLemmas.{map_is, no_map_of}
use Rattle.mix_lock.proofs.reader.lock_of.Goals as goal

pub returns-in_default : goal.returns-in_default
returns-in_default c = λ input.
    subst (λ name. TermSays c.args.term (Err (lock.Shape name))) (sym (c.from_vec.ensures ∙ c.new.ensures.items))
    (no_map (no_map_of c.args.term c.in_default.not-Map))

pub returns-in_err-entries : goal.returns-in_err-entries
returns-in_err-entries c =
    answers_on lock_blame (TermSays c.args.term) c.from_residual.result c.in_err-entries.field-0.0 c.from_residual.ensures.1
    (λ input. refused (subst (λ t. map_of t ≡ Some c.in-Map.pairs) (sym c.in-Map.is) (map_is c.in-Map.pairs)) (c.in_err-entries.ensures input))

pub put_in_order-requires : goal.put_in_order-requires
put_in_order-requires c = apps_apart c.in-Map.pairs c.in_ok-entries.entries.items (subst (Fits deepest) c.in-Map.is c.requires) c.in_ok-entries.ensures

pub from_vec-requires-2 : goal.from_vec-requires-2
from_vec-requires-2 c = record {
  in_order = c.put_in_order.ensures.in_order;
  each = all_moved IsAppEntry c.in_ok-entries.entries.items c.put_in_order.new.entries.items c.put_in_order.ensures.same
      (sound_entries c.in-Map.pairs c.in_ok-entries.entries.items c.in_ok-entries.ensures);
}

pub returns : goal.returns
returns c =
    subst (λ entries. TermSays c.args.term (Ok entries)) (sym c.from_vec-2.ensures)
    (good (subst (λ t. map_of t ≡ Some c.in-Map.pairs) (sym c.in-Map.is) (map_is c.in-Map.pairs)) c.in_ok-entries.ensures
    c.put_in_order.ensures.same c.put_in_order.ensures.in_order)
