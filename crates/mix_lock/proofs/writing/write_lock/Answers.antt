use Rattle.std.proofs.Common.{◌≡◌, Ok, sym, subst, arith}
use Rattle.mix_lock.specs.Says.{SaysLock}
use Rattle.mix_lock.specs.Text.{written}
use Rattle.mix_lock.proofs.BackLemmas.{reads_back}
use Rattle.mix_lock.proofs.writing.write_lock.Goals as goal

pub returns-clause-reads_back : goal.returns-clause-reads_back
returns-clause-reads_back c =
    let entries = c.args.lock.now in
    let text : c.from_vec.result ≡ written entries = grind (
      arith,
      c.from_vec.ensures,
      c.in_ok-extend_from_slice-2.ensures,
      c.in_ok-push_lines.ensures,
      c.in_ok-extend_from_slice.ensures,
      c.as_slice.ensures.value,
      c.new-text.ensures.items,
    ) in
    λ readable. subst (λ bytes. SaysLock bytes (Ok entries)) (sym text) (reads_back entries c.as_slice.ensures.lock readable)
